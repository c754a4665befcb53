use Rattle.std.proofs.Common.{◌≡◌, ◌∙◌, ◌<◌, ◌++◌, ◌∷◌, [], List, sym, false, true, ap, map, arith, get_or, length, subst, vec_len}
use Rattle.std.specs.List.{filter, flat_map, list_any}
use Rattle.spk_broker.specs.Both.{Both}
use Rattle.spk_broker.specs.Called.{is_place}
use Rattle.spk_broker.specs.Settling.{has_ended, session_left}
use Rattle.spk_broker.specs.Touched.{AreTouched}
use Rattle.spk_broker.specs.View.{session_now, session_was}
use Rattle.spk_broker.proofs.Flats.{filter-flat, filter-map}
use Rattle.spk_broker.proofs.Refilled.{refilled}
use Rattle.spk_broker.proofs.Touched.{last-low}
use Rattle.spk_broker.proofs.Stayers.{all-stay, gone-left, gone-now, here-left, stays}
use Rattle.spk_broker.proofs.session_settle.settle_at.Goals as goal

pub returns-then-settle_places-clause-was : goal.returns-then-settle_places-clause-was
returns-then-settle_places-clause-was c =
    let back = refilled (vec_len c.args.sessions.now) c.settle_places.new.sessions c.args.sessions.now.items (omega arith) (omega arith) in
    ap (map session_was) c.drop_ended.ensures ∙ ap (λ l. map session_was (filter stays l)) back
    ∙ filter-map stays session_was session_left here-left gone-left c.settle_places.new.sessions
    ∙ c.settle_places.ensures.left ∙ ap (flat_map session_now) c.deref_mut.ensures.value

pub returns-then-settle_places-clause-now : goal.returns-then-settle_places-clause-now
returns-then-settle_places-clause-now c =
    let back = refilled (vec_len c.args.sessions.now) c.settle_places.new.sessions c.args.sessions.now.items (omega arith) (omega arith) in
    ap (flat_map session_now) c.drop_ended.ensures ∙ ap (λ l. flat_map session_now (filter stays l)) back
    ∙ filter-flat stays session_now gone-now c.settle_places.new.sessions
    ∙ c.settle_places.ensures.now ∙ ap (flat_map session_now) c.deref_mut.ensures.value

pub returns-else-settle_places-clause-was : goal.returns-else-settle_places-clause-was
returns-else-settle_places-clause-was c =
    let back = refilled (vec_len c.args.sessions.now) c.settle_places.new.sessions c.args.sessions.now.items (omega arith) (omega arith) in
    let none : list_any has_ended c.settle_places.new.sessions ≡ false = sym c.settle_places.ensures.ended ∙ c.if-settle_places.false in
    ap (map session_was) back ∙ ap (map session_was) (sym (all-stay c.settle_places.new.sessions none))
    ∙ filter-map stays session_was session_left here-left gone-left c.settle_places.new.sessions
    ∙ c.settle_places.ensures.left ∙ ap (flat_map session_now) c.deref_mut.ensures.value

pub drop_ended-requires-clause-low : goal.drop_ended-requires-clause-low
drop_ended-requires-clause-low c =
    let back = refilled (vec_len c.args.sessions.now) c.settle_places.new.sessions c.args.sessions.now.items (omega arith) (omega arith) in
    subst (λ (l : List Both). c.args.place < length l) (sym back)
    (last-low c.args.places.now c.args.place c.deref_mut.result.now c.settle_places.new.sessions
    (subst (AreTouched (c.args.places.now ++ c.args.place ∷ [])) (sym c.deref_mut.ensures.value) c.requires) c.settle_places.ensures.long)

pub drop_ended-requires-clause-some : goal.drop_ended-requires-clause-some
drop_ended-requires-clause-some c =
    let back = refilled (vec_len c.args.sessions.now) c.settle_places.new.sessions c.args.sessions.now.items (omega arith) (omega arith) in
    subst (λ (l : List Both). list_any has_ended l ≡ true) (sym back) (sym c.settle_places.ensures.ended ∙ c.if-settle_places.true)

pub drop_ended-requires-clause-stay : goal.drop_ended-requires-clause-stay
drop_ended-requires-clause-stay c i d =
    let back = refilled (vec_len c.args.sessions.now) c.settle_places.new.sessions c.args.sessions.now.items (omega arith) (omega arith) in
    subst (λ (l : List Both). i < length l → is_place i (c.args.places.now ++ c.args.place ∷ []) ≡ false → has_ended (get_or l i d) ≡ false) (sym back)
    (c.settle_places.ensures.stay i d)
