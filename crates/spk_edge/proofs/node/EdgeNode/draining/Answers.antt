use Rattle.std.proofs.Common.{◌≡◌, ◌∙◌, ap, sym, map, length, false, option_copied, arith}
use Rattle.std.specs.Prelude.{◌==◌}
use Rattle.std.proofs.lemmas.List.{length-map}
use Rattle.spk_edge_rules.specs.Rules as rule
use Rattle.spk_edge.specs.History.{going, sending}
use Rattle.spk_edge.specs.View.{NodeData, change_view, given_of, given_view}
use Rattle.spk_edge.proofs.Drains.{front-down, front-none, front-up}
use Rattle.spk_edge.proofs.Plans.{if-ok}
use Rattle.spk_edge.proofs.Still.{any-on, some-kept}
use Rattle.spk_edge.proofs.node.EdgeNode.draining.Goals as goal

pub returns-in_default-clause-given : goal.returns-in_default-clause-given
returns-in_default-clause-given c =
    let n = c.args.self.now in
    let kept = c.self.inside.store.items in
    let items : n.standing.asked.store.items ≡ map change_view kept = ap (λ (n : NodeData). n.standing.asked.store.items) (sym c.self.view_is) in
    c.nothing.ensures ∙ ap (given_of n.config n.standing.asked.heard) (sym (front-none n c.args.now kept items (ap option_copied (sym c.in_default.is) ∙ c.get.ensures)))

pub sending-requires : goal.sending-requires
sending-requires c =
    let n = c.args.self.now in
    let kept = c.self.inside.store.items in
    let items : n.standing.asked.store.items ≡ map change_view kept = ap (λ (n : NodeData). n.standing.asked.store.items) (sym c.self.view_is) in
    let size : length n.standing.asked.store.items ≡ length kept = ap length items ∙ length-map kept change_view in
    let few = c.front_run-count.ensures.kept in
    omega (arith, size, few)

pub returns-then-is_owner_up-clause-given : goal.returns-then-is_owner_up-clause-given
returns-then-is_owner_up-clause-given c =
    let n = c.args.self.now in
    let a = n.standing.asked in
    let kept = c.self.inside.store.items in
    let items : a.store.items ≡ map change_view kept = ap (λ (n : NodeData). n.standing.asked.store.items) (sym c.self.view_is) in
    let x = c.in-Some.first.now in
    let asked = front-up n c.args.now kept x c.front_run-count.result items (ap option_copied (sym c.in-Some.is) ∙ c.get.ensures) c.front_run-count.ensures.answer (sym c.is_owner_up.ensures ∙ c.if-is_owner_up.true) in
    if-ok (λ g. given_view g ≡ given_of n.config a.heard (sending a c.args.now x.owner (going n c.args.now x.owner c.front_run-count.result)))
    (λ g. given_view g ≡ given_of n.config a.heard (rule.draining n.config n.standing.seq a c.args.now a.store.items)) c.sending.result
    (λ g given. given ∙ ap (given_of n.config a.heard) (sym asked)) c.sending.ensures

pub returns-clause-given : goal.returns-clause-given
returns-clause-given c =
    let n = c.args.self.now in
    let a = n.standing.asked in
    let kept = c.self.inside.store.items in
    let items : a.store.items ≡ map change_view kept = ap (λ (n : NodeData). n.standing.asked.store.items) (sym c.self.view_is) in
    let asked = front-down n c.args.now kept c.in-Some.first.now c.front_run-count.result items (ap option_copied (sym c.in-Some.is) ∙ c.get.ensures) c.front_run-count.ensures.answer
    (sym c.is_owner_up.ensures ∙ c.if-is_owner_up.false) in
    c.dropping.ensures ∙ ap (given_of n.config a.heard) (sym asked)

pub returns-then-is_owner_up-clause-memory : goal.returns-then-is_owner_up-clause-memory
returns-then-is_owner_up-clause-memory c =
    let n = c.args.self.now in
    let kept = c.self.inside.store.items in
    let items : n.standing.asked.store.items ≡ map change_view kept = ap (λ (n : NodeData). n.standing.asked.store.items) (sym c.self.view_is) in
    any-on ((length n.standing.asked.store.items == 0) ≡ false) c.sending.result
    (some-kept n.standing.asked.store.items kept c.in-Some.first.now items (ap option_copied (sym c.in-Some.is) ∙ c.get.ensures))
