use Rattle.std.proofs.Common.{◌≡◌, length, arith, refl, ap}
use Rattle.spk_plant_broker.proofs.Hubs.{told_offers}
use Rattle.spk_plant_broker.proofs.Rings.{rings_same}
use Rattle.spk_plant_broker.proofs.hub.Hub.tell.Goals as goal

pub returns-clause-some : goal.returns-clause-some
returns-clause-some c s log f =
    let moment : c.len-now.result ≡ length c.args.self.now.taken.items = omega (arith, c.len-now.ensures, c.args.self.now.taken.ok.0) in
    told_offers s log c.args.self.now _ c.in-Some.untold c.len-now.result c.in_ok-out.out f c.in-Some.ensures.items
    c.in_ok-out.ensures.done c.refused.ensures.sized moment refl refl refl refl refl refl

pub returns-clause-rings : goal.returns-clause-rings
returns-clause-rings c = rings_same c.args.self.now _ (ap (λ v. v.items) c.refused.ensures.openers) refl c.requires
