use Rattle.std.proofs.Common.{refl, ap}
use Rattle.spk_plant_broker.proofs.Hubs.{closed_holds, closed_none}
use Rattle.spk_plant_broker.proofs.Rings.{rings_same}
use Rattle.spk_plant_broker.proofs.hub.Hub.close.Goals as goal

pub returns-in_default-clause-holds : goal.returns-in_default-clause-holds
returns-in_default-clause-holds c s closed log f = closed_none s closed log c.args.self.now c.args.conn f c.in_default.ensures

pub returns-clause-holds : goal.returns-clause-holds
returns-clause-holds c s closed log f =
    closed_holds s closed log c.args.self.now _ c.in-Some.client c.args.conn f c.in-Some.ensures
    c.shut.ensures.fits c.shut.ensures.sized c.finish_at.ensures.fits c.finish_at.ensures.sized refl refl refl refl refl refl

pub returns-clause-rings : goal.returns-clause-rings
returns-clause-rings c rings = rings_same c.args.self.now _ (ap (λ v. v.items) c.shut.ensures.openers) c.finish_at.ensures.sized rings
