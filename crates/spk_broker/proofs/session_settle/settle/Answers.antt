use Rattle.std.proofs.Common.{◌≡◌, ◌∙◌, sym, false, ap, map, arith, rules, vec_len}
use Rattle.std.specs.List.{filter, flat_map, list_any}
use Rattle.std.proofs.lemmas.Fn.{filter_same}
use Rattle.spk_broker.specs.Settling.{has_ended, session_left}
use Rattle.spk_broker.specs.View.{session_now, session_was}
use Rattle.spk_broker.proofs.Flats.{filter-flat, filter-map}
use Rattle.spk_broker.proofs.Refilled.{refilled}
use Rattle.spk_broker.proofs.Stayers.{all-stay, gone-left, gone-now, here-left, stays}
use Rattle.spk_broker.proofs.session_settle.settle.Goals as goal

pub returns-then-settle_each-clause-was : goal.returns-then-settle_each-clause-was
returns-then-settle_each-clause-was c =
    let back = refilled (vec_len c.args.sessions.now) c.settle_each.new.sessions c.args.sessions.now.items (omega arith) (omega arith) in
    let kept = filter_same _ stays _ (λ x b f' k. search rules) _ _ c.retain.ensures.filtered in
    ap (map session_was) kept ∙ ap (λ l. map session_was (filter stays l)) back
    ∙ filter-map stays session_was session_left here-left gone-left c.settle_each.new.sessions
    ∙ c.settle_each.ensures.left ∙ ap (flat_map session_now) c.deref_mut.ensures.value

pub returns-then-settle_each-clause-now : goal.returns-then-settle_each-clause-now
returns-then-settle_each-clause-now c =
    let back = refilled (vec_len c.args.sessions.now) c.settle_each.new.sessions c.args.sessions.now.items (omega arith) (omega arith) in
    let kept = filter_same _ stays _ (λ x b f' k. search rules) _ _ c.retain.ensures.filtered in
    ap (flat_map session_now) kept ∙ ap (λ l. flat_map session_now (filter stays l)) back
    ∙ filter-flat stays session_now gone-now c.settle_each.new.sessions
    ∙ c.settle_each.ensures.now ∙ ap (flat_map session_now) c.deref_mut.ensures.value

pub returns-else-settle_each-clause-was : goal.returns-else-settle_each-clause-was
returns-else-settle_each-clause-was c =
    let back = refilled (vec_len c.args.sessions.now) c.settle_each.new.sessions c.args.sessions.now.items (omega arith) (omega arith) in
    let none : list_any has_ended c.settle_each.new.sessions ≡ false = sym c.settle_each.ensures.ended ∙ c.if-settle_each.false in
    ap (map session_was) back ∙ ap (map session_was) (sym (all-stay c.settle_each.new.sessions none))
    ∙ filter-map stays session_was session_left here-left gone-left c.settle_each.new.sessions
    ∙ c.settle_each.ensures.left ∙ ap (flat_map session_now) c.deref_mut.ensures.value
