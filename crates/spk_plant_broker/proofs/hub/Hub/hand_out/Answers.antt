use Rattle.std.proofs.Common.{◌||◌, List, ℕ, subst}
use Rattle.spk_plant_broker.specs.Holding.{Holds}
use Rattle.spk_plant_broker.specs.Log.{room_of}
use Rattle.spk_plant_broker.specs.Step.{holds_client}
use Rattle.spk_plant_broker.proofs.Hubs.{hands_out}
use Rattle.spk_plant_broker.proofs.hub.Hub.hand_out.Goals as goal

pub returns-clause-rests : goal.returns-clause-rests
returns-clause-rests g c s closed log f =
    let o = c.in_ok-offer_all.ensures.offers s closed log c.args.out.closes.items f in (
      o.0,
      hands_out s closed o.0 c.offer_all.new.self c.close_all.new.self c.args.out.closes.items o.1
          (subst (λ (cs : List ℕ). Holds s (λ k. closed k || holds_client (room_of s.limit s.edges o.0).openers k cs) c.close_all.new.self o.0) c.as_slice.ensures.value
          (c.close_all.ensures.holds s closed o.0 o.1.holds)),
    )

pub returns-clause-rings : goal.returns-clause-rings
returns-clause-rings g c = c.close_all.ensures.rings c.in_ok-offer_all.ensures.rings
