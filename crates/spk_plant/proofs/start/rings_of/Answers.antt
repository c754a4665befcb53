use Rattle.spk_plant.proofs.Starts.{rings_push}
use Rattle.spk_plant.proofs.start.rings_of.Goals as goal

pub loop-place-preserved : goal.loop-place-preserved
loop-place-preserved c =
    rings_push c.args.capacity c.loop-place._place c.loop-place.outlets.items c.push.new.self.items c.loop-place.inlets.items c.push-in-loop-place.new.self.items c.in-Ok.ends.0 c.in-Ok.ends.1
    c.loop-place.invariant c.in-Ok.ensures.ring c.in-Ok.ensures.room c.in_ok-push.ensures.items c.in_ok-push-2.ensures.items
