use Rattle.std.proofs.Common.{◌∙◌, ◌≤◌, ap, arith, length, map, subst, sym, take, Global}
use Rattle.std.proofs.lemmas.List.{length-map, take_all}
use Rattle.std.specs.List.{slice_get}
use Rattle.spk_broker_rules.specs.Words.{offers_to}
use Rattle.spk_broker.specs.Offering.{offers_at}
use Rattle.spk_broker.specs.Parts.{grant_view, retained_view}
use Rattle.spk_broker.specs.Weighing.{beyond, heaped}
use Rattle.spk_broker.proofs.Weights.{heap-low, heap-none, heap-place}
use Rattle.spk_broker.proofs.retained_weight.with_each.Goals as goal

pub loop-place-init : goal.loop-place-init
loop-place-init c = heap-none c.args.weight c.requires

pub with_place-total-requires : goal.with_place-total-requires
with_place-total-requires c =
    let es = map (retained_view {A = Global}) c.args.retained.now.entries in
    subst (λ n. n ≤ beyond) (sym c.loop-place.invariant) (heap-low c.args.weight (offers_to (take c.loop-place.place es) (grant_view c.args.grant.now)))

pub loop-place-preserved : goal.loop-place-preserved
loop-place-preserved c =
    let es = map (retained_view {A = Global}) c.args.retained.now.entries in
    let g = grant_view c.args.grant.now in
    c.with_place-total.ensures ∙ ap (λ w. heaped w (offers_at (slice_get es c.loop-place.place) g)) c.loop-place.invariant
    ∙ heap-place c.args.weight es g c.loop-place.place

pub returns : goal.returns
returns c =
    let es = map (retained_view {A = Global}) c.args.retained.now.entries in
    let all : length es ≤ c.loop-place.place = simp length-map (omega (arith, c.len-place-end.ensures.len)) in
    c.loop-place.invariant ∙ ap (λ xs. heaped c.args.weight (offers_to xs (grant_view c.args.grant.now))) (take_all c.loop-place.place es all)
