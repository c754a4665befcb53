use Rattle.std.proofs.Common.{◌≤◌, ◌∙◌, ap, map, subst, sym, take, length, arith, Global}
use Rattle.std.proofs.lemmas.List.{length-map, take_all}
use Rattle.std.specs.List.{fold, slice_get}
use Rattle.spk_broker_rules.specs.Step.{offer}
use Rattle.spk_broker_rules.specs.Words.{offers_to}
use Rattle.spk_broker.specs.Offering.{offers_at}
use Rattle.spk_broker.specs.Encoded.{AreEncoded}
use Rattle.spk_broker.specs.Parts.{grant_view, retained_view}
use Rattle.spk_broker.proofs.Offers.{offering-along, offers-step}
use Rattle.spk_broker.proofs.state.State.offer_each.Goals as goal

pub loop-from-preserved : goal.loop-from-preserved
loop-from-preserved c =
    let g = grant_view c.args.grant.now in
    let es = map (retained_view {A = Global}) c.args.self.now.retained.entries in
    record {
      done = λ key t o.
          offering-along _ _ _ _ _ _ (c.in_ok-offer_one.ensures.done key _ (c.loop-from.invariant.done key t o))
          (ap (λ r. fold (offer key) (fold (offer key) t (offers_to (take c.loop-from.from es) g)) (offers_at (slice_get (map (retained_view {A = Global}) r.entries) c.loop-from.from) g))
          c.loop-from.invariant.retained
          ∙ offers-step key t g es c.loop-from.from);
      retained = c.offer_one.ensures.retained ∙ c.loop-from.invariant.retained;
      len = c.offer_one.ensures.len ∙ c.loop-from.invariant.len;
      same = c.offer_one.ensures.same ∙ c.loop-from.invariant.same;
      right = subst (AreEncoded c.offer_one.new.encoded) (ap (λ r. map (retained_view {A = Global}) r.entries) c.loop-from.invariant.retained) c.in_ok-offer_one.ensures.right;
      only = λ o. c.in_ok-offer_one.ensures.only (c.loop-from.invariant.only o);
    }

pub returns-clause-done : goal.returns-clause-done
returns-clause-done c = λ key t o.
    let es = map (retained_view {A = Global}) c.args.self.now.retained.entries in
    let all : length es ≤ c.loop-from.from = simp length-map (omega (arith, c.len-from-end.ensures.len)) in
    offering-along _ _ _ _ _ _ (c.loop-from.invariant.done key t o) (ap (λ xs. fold (offer key) t (offers_to xs (grant_view c.args.grant.now))) (take_all c.loop-from.from es all))

pub offer_one-requires-clause-right : goal.offer_one-requires-clause-right
offer_one-requires-clause-right c =
    subst (AreEncoded c.loop-from.encoded) (ap (λ r. map (retained_view {A = Global}) r.entries) (sym c.loop-from.invariant.retained)) c.loop-from.invariant.right

pub returns-clause-right : goal.returns-clause-right
returns-clause-right c = c.loop-from.invariant.right
