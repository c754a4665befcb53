use Rattle.std.proofs.Common.{◌∙◌, ap, map, subst, sym, take, Global}
use Rattle.std.proofs.lemmas.List.{take_all}
use Rattle.std.specs.List.{flat_map, fold}
use Rattle.spk_broker_rules.specs.Step.{offer}
use Rattle.spk_broker_rules.specs.Words.{offers_to}
use Rattle.spk_broker.specs.Encoded.{AreEncoded}
use Rattle.spk_broker.specs.Parts.{grant_view, retained_view}
use Rattle.spk_broker.proofs.Offers.{offering-along, grants-step}
use Rattle.spk_broker.proofs.state.State.offer_all.Goals as goal

pub loop-grant-preserved : goal.loop-grant-preserved
loop-grant-preserved c =
    let es = map (retained_view {A = Global}) c.args.self.now.retained.entries in
    let so_far = flat_map (offers_to es) (map grant_view (take c.loop-grant.grant-index c.args.given.now)) in
    record {
      done = λ key t o.
          offering-along _ _ _ _ _ _ (c.in_ok-offer_table.ensures.done key _ (c.loop-grant.invariant.done key t o))
          (ap (λ r. fold (offer key) (fold (offer key) t so_far) (offers_to (map (retained_view {A = Global}) r.entries) (grant_view c.grant-item.result)))
          c.loop-grant.invariant.retained
          ∙ grants-step key t es c.args.given.now c.loop-grant.grant-index c.grant-item.result c.grant-item.result c.loop-grant-test.true c.grant-item.is);
      retained = c.offer_table.ensures.retained ∙ c.loop-grant.invariant.retained;
      len = c.offer_table.ensures.len ∙ c.loop-grant.invariant.len;
      same = c.offer_table.ensures.same ∙ c.loop-grant.invariant.same;
      right = subst (AreEncoded c.offer_table.new.encoded) (ap (λ r. map (retained_view {A = Global}) r.entries) c.loop-grant.invariant.retained) c.in_ok-offer_table.ensures.right;
      only = λ o. c.in_ok-offer_table.ensures.only (c.loop-grant.invariant.only o);
    }

pub returns-clause-done : goal.returns-clause-done
returns-clause-done c = λ key t o.
    let es = map (retained_view {A = Global}) c.args.self.now.retained.entries in
    offering-along _ _ _ _ _ _ (c.loop-grant.invariant.done key t o)
    (ap (λ gs. fold (offer key) t (flat_map (offers_to es) (map grant_view gs))) (take_all c.loop-grant.grant-index c.args.given.now c.loop-grant-test.false))

pub offer_table-requires-clause-right : goal.offer_table-requires-clause-right
offer_table-requires-clause-right c =
    subst (AreEncoded c.loop-grant.encoded) (ap (λ r. map (retained_view {A = Global}) r.entries) (sym c.loop-grant.invariant.retained)) c.loop-grant.invariant.right
