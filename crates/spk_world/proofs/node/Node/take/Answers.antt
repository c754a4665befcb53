use Rattle.std.proofs.Common.{◌≡◌, ◌∙◌, sym, ap, subst, map, length, ◌+◌, ◌-◌, ◌++◌, ◌∷◌, [], ℕ, List, None, rules}
use Rattle.std.proofs.lemmas.List.{length-map}
use Rattle.std.specs.Prelude.{if◌then◌else◌}
use Rattle.std.specs.List.{count_by, last_or}
use Rattle.spk_edge.specs.Patch.{patched}
use Rattle.spk_edge.specs.View.{MessageData, NodeData, input_view, message_view}
use Rattle.spk_edge.specs.declared.message.Published.{Published as Message}
use Rattle.spk_edge_rules.specs.Inputs.{Input}
use Rattle.spk_world_run.specs.Data.{NodePart}
use Rattle.spk_world_run.specs.Step.{or_zero, posts_from, starts_from}
use Rattle.spk_edge.specs.Sealing.{AreWhole}
use Rattle.spk_world.specs.Parts.{AreReadable, IsTaken}
use Rattle.spk_world.proofs.Readable.{both, posts}
use Rattle.spk_world.specs.View.{published_view}
use Rattle.spk_world.specs.declared.records.Published.{Published}
use Rattle.spk_world.proofs.Nodes.{after-parts, count-messages, part_of}
use Rattle.spk_world.proofs.node.Node.take.Goals as goal

taken-of : (before n : NodePart) (input : Input) (after : NodePart) (added : ℕ) → before ≡ n → IsTaken before input after added → IsTaken n input after added
taken-of before n input after added same taken = subst (λ (m : NodePart). IsTaken m input after added) same taken

pub returns-then-is_open-clause-done : goal.returns-then-is_open-clause-done
returns-then-is_open-clause-done c =
    let log = c.self.inside.log in
    let before = part_of c.self.inside.edge (map published_view log.published.items) log.starts.items log.births log.opened.items in
    let input = input_view c.args.input in
    let planned = c.in_ok-plan.ensures.planned in
    let given = planned.answer in
    let reserved = c.in_ok-reserve.ensures in
    let room = c.reserve.new.self in
    let ms = map message_view c.take_up-messages.result.messages.items in
    let messages = ap (λ (m : List Message). map message_view m) (ap (λ v. v.items) c.take_up-messages.ensures.messages) ∙ planned.messages in
    let published = ap (map published_view) (ap (λ v. v.items) c.open.ensures.published) ∙ c.add.ensures.published
    ∙ ap (λ (l : List Published). map published_view l ++ posts_from c.session-session.result room.births ms) reserved.published
    ∙ ap (λ s. map published_view log.published.items ++ posts_from s room.births ms) (c.session-session.ensures ∙ ap (λ (l : List ℕ). length l - 1) reserved.opened)
    ∙ ap (λ b. map published_view log.published.items ++ posts_from (length log.opened.items - 1) b ms) reserved.births in
    let starts = ap (λ v. v.items) c.open.ensures.starts ∙ c.add.ensures.starts
    ∙ ap (λ (l : List ℕ). l ++ starts_from (length room.published.items) (or_zero (last_or None l)) ms) reserved.starts
    ∙ ap (λ k. log.starts.items ++ starts_from k (or_zero (last_or None log.starts.items)) ms)
    (ap (λ (l : List Published). length l) reserved.published ∙ sym (length-map log.published.items published_view)) in
    let births = c.open.ensures.births ∙ c.add.ensures.births ∙ ap (λ b. b + count_by (λ (m : MessageData). m.opens) ms) reserved.births in
    let kept = ap (λ v. v.items) c.add.ensures.opened ∙ reserved.opened in
    let opened = c.open.ensures.opened ∙ ap (λ (l : List ℕ). l ++ input.now ∷ []) kept
    ∙ sym (ap (λ b. if b then log.opened.items ++ (input.now ∷ []) else log.opened.items) (sym c.is_open.ensures ∙ c.if-is_open.true)) in
    taken-of before _ input _ _ c.self.view_is
    (record {
      given = given;
      answered = planned.answered;
      whole = planned.whole;
      is = after-parts before input given _ ms (map published_view c.open.new.self.published.items) c.open.new.self.starts.items c.open.new.self.births c.open.new.self.opened.items
          ((search rules) ∙ (c.take_up-messages.ensures.data ∙ (ap (λ (n : NodeData). patched n c.in_ok-plan.plan.plan) c.in_ok-plan.ensures.same ∙ planned.after))) messages published starts births opened;
      count = ap (λ (l : List Message). length l) c.messages-added.ensures ∙ sym (length-map c.in_ok-plan.plan.plan.messages.items message_view)
          ∙ ap (λ (l : List MessageData). length l) planned.messages
          ∙ count-messages c.self.inside.edge.config.numbering c.self.inside.edge.standing.seq c.self.inside.edge.config given.given.drafts;
    })

pub returns-else-is_open-clause-done : goal.returns-else-is_open-clause-done
returns-else-is_open-clause-done c =
    let log = c.self.inside.log in
    let before = part_of c.self.inside.edge (map published_view log.published.items) log.starts.items log.births log.opened.items in
    let input = input_view c.args.input in
    let planned = c.in_ok-plan.ensures.planned in
    let given = planned.answer in
    let reserved = c.in_ok-reserve.ensures in
    let room = c.reserve.new.self in
    let ms = map message_view c.take_up-messages.result.messages.items in
    let messages = ap (λ (m : List Message). map message_view m) (ap (λ v. v.items) c.take_up-messages.ensures.messages) ∙ planned.messages in
    let published = c.add.ensures.published
    ∙ ap (λ (l : List Published). map published_view l ++ posts_from c.session-session.result room.births ms) reserved.published
    ∙ ap (λ s. map published_view log.published.items ++ posts_from s room.births ms) (c.session-session.ensures ∙ ap (λ (l : List ℕ). length l - 1) reserved.opened)
    ∙ ap (λ b. map published_view log.published.items ++ posts_from (length log.opened.items - 1) b ms) reserved.births in
    let starts = c.add.ensures.starts
    ∙ ap (λ (l : List ℕ). l ++ starts_from (length room.published.items) (or_zero (last_or None l)) ms) reserved.starts
    ∙ ap (λ k. log.starts.items ++ starts_from k (or_zero (last_or None log.starts.items)) ms)
    (ap (λ (l : List Published). length l) reserved.published ∙ sym (length-map log.published.items published_view)) in
    let births = c.add.ensures.births ∙ ap (λ b. b + count_by (λ (m : MessageData). m.opens) ms) reserved.births in
    let kept = ap (λ v. v.items) c.add.ensures.opened ∙ reserved.opened in
    let opened = kept
    ∙ sym (ap (λ b. if b then log.opened.items ++ (input.now ∷ []) else log.opened.items) (sym c.is_open.ensures ∙ c.if-is_open.false)) in
    taken-of before _ input _ _ c.self.view_is
    (record {
      given = given;
      answered = planned.answered;
      whole = planned.whole;
      is = after-parts before input given _ ms (map published_view c.add.new.self.published.items) c.add.new.self.starts.items c.add.new.self.births c.add.new.self.opened.items
          ((search rules) ∙ (c.take_up-messages.ensures.data ∙ (ap (λ (n : NodeData). patched n c.in_ok-plan.plan.plan) c.in_ok-plan.ensures.same ∙ planned.after))) messages published starts births opened;
      count = ap (λ (l : List Message). length l) c.messages-added.ensures ∙ sym (length-map c.in_ok-plan.plan.plan.messages.items message_view)
          ∙ ap (λ (l : List MessageData). length l) planned.messages
          ∙ count-messages c.self.inside.edge.config.numbering c.self.inside.edge.standing.seq c.self.inside.edge.config given.given.drafts;
    })

pub invariant_of-self-then-is_open : goal.invariant_of-self-then-is_open
invariant_of-self-then-is_open c =
    let log = c.self.inside.log in
    let planned = c.in_ok-plan.ensures.planned in
    let reserved = c.in_ok-reserve.ensures in
    let room = c.reserve.new.self in
    let ms = map message_view c.take_up-messages.result.messages.items in
    let messages = ap (λ (m : List Message). map message_view m) (ap (λ v. v.items) c.take_up-messages.ensures.messages) ∙ planned.messages in
    let published = ap (map published_view) (ap (λ v. v.items) c.open.ensures.published) ∙ c.add.ensures.published
    ∙ ap (λ (l : List Published). map published_view l ++ posts_from c.session-session.result room.births ms) reserved.published in
    subst AreReadable (sym published)
    (both (map published_view log.published.items) (posts_from c.session-session.result room.births ms) c.self.invariant
    (posts c.session-session.result room.births ms (subst AreWhole (sym messages) planned.whole)))

pub invariant_of-self-else-is_open : goal.invariant_of-self-else-is_open
invariant_of-self-else-is_open c =
    let log = c.self.inside.log in
    let planned = c.in_ok-plan.ensures.planned in
    let reserved = c.in_ok-reserve.ensures in
    let room = c.reserve.new.self in
    let ms = map message_view c.take_up-messages.result.messages.items in
    let messages = ap (λ (m : List Message). map message_view m) (ap (λ v. v.items) c.take_up-messages.ensures.messages) ∙ planned.messages in
    let published = c.add.ensures.published
    ∙ ap (λ (l : List Published). map published_view l ++ posts_from c.session-session.result room.births ms) reserved.published in
    subst AreReadable (sym published)
    (both (map published_view log.published.items) (posts_from c.session-session.result room.births ms) c.self.invariant
    (posts c.session-session.result room.births ms (subst AreWhole (sym messages) planned.whole)))
