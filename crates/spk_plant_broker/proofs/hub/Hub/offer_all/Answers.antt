use Rattle.std.proofs.Common.{◌≡◌, refl, sym, subst, ◌∙◌, map, [], ◌∷◌, arith}
use Rattle.std.specs.Vec.Iter.{into_iter_items}
use Rattle.spk_broker.specs.Sent.{sent_view}
use Rattle.spk_plant_broker.specs.Holding.{Offers}
use Rattle.spk_plant_broker.proofs.Each.{nothing_left}
use Rattle.spk_plant_broker.proofs.hub.Hub.offer_all.Goals as goal

pub loop-send-init : goal.loop-send-init
loop-send-init g c = record {
  offers = λ s closed log closes f. (log, subst (λ ss. Offers s closed c.args.self.now log (map sent_view ss) closes) (sym c.into_iter-send-iterator.ensures.into_iter_gives.0) f);
  taken = refl;
  rings = c.requires;
}

pub loop-send-preserved : goal.loop-send-preserved
loop-send-preserved g c = record {
  offers = λ s closed log closes f.
      let h = c.loop-send.invariant.offers s closed log closes f in
      let n = c.in_ok-offer.ensures.offers s closed h.0 _ closes (subst (λ ss. Offers s closed c.loop-send.self h.0 (map sent_view ss) closes) c.in-Some.ensures.steps.0 h.1) in
      (n.0 ∷ h.0, n.1);
  taken = c.in_ok-offer.ensures.taken ∙ c.loop-send.invariant.taken;
  rings = c.in_ok-offer.ensures.rings;
}

pub returns-clause-offers : goal.returns-clause-offers
returns-clause-offers g c s closed log closes f =
    let h = c.loop-send.invariant.offers s closed log closes f in
    let done : into_iter_items c.loop-send.send-iterator ≡ [] = nothing_left (into_iter_items c.loop-send.send-iterator) (omega (arith, c.in-None.ensures.steps.0, c.loop-send.send-iterator.rest.ok.0)) in
    (h.0, subst (λ ss. Offers s closed c.loop-send.self h.0 (map sent_view ss) closes) done h.1)
