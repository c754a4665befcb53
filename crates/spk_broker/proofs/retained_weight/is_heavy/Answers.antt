use Rattle.std.proofs.Common.{◌∙◌, ◌≤◌, ap, eqb, map, subst, sym, take, Global}
use Rattle.std.proofs.lemmas.List.{take_all}
use Rattle.std.specs.List.{flat_map}
use Rattle.spk_broker_rules.specs.Words.{offers_to}
use Rattle.spk_broker.specs.Parts.{grant_view, retained_view}
use Rattle.spk_broker.specs.Weighing.{beyond, heaped}
use Rattle.spk_broker.proofs.Weights.{heap-grant, heap-heavy, heap-low}
use Rattle.spk_broker.proofs.retained_weight.is_heavy.Goals as goal

pub with_grant-total-requires : goal.with_grant-total-requires
with_grant-total-requires c =
    let es = map (retained_view {A = Global}) c.args.retained.now.entries in
    subst (λ n. n ≤ beyond) (sym c.loop-grant.invariant) (heap-low 0 (flat_map (offers_to es) (map grant_view (take c.loop-grant.grant-index c.args.given.now))))

pub loop-grant-preserved : goal.loop-grant-preserved
loop-grant-preserved c =
    let es = map (retained_view {A = Global}) c.args.retained.now.entries in
    c.with_grant-total.ensures ∙ ap (λ w. heaped w (offers_to es (grant_view c.grant-item.result))) c.loop-grant.invariant
    ∙ heap-grant es c.args.given.now c.loop-grant.grant-index c.grant-item.result c.grant-item.result c.loop-grant-test.true c.grant-item.is

pub returns : goal.returns
returns c =
    let es = map (retained_view {A = Global}) c.args.retained.now.entries in
    ap (λ n. eqb n beyond) (c.loop-grant.invariant
    ∙ ap (λ gs. heaped 0 (flat_map (offers_to es) (map grant_view gs))) (take_all c.loop-grant.grant-index c.args.given.now c.loop-grant-test.false))
    ∙ heap-heavy (flat_map (offers_to es) (map grant_view c.args.given.now))
