use Rattle.std.proofs.Common.{◌∙◌, ◌∷◌}
use Rattle.spk_plant_broker.specs.Log.{room_of}
use Rattle.spk_plant_broker.proofs.hub.Hub.tell_all.Goals as goal

pub loop-preserved : goal.loop-preserved
loop-preserved g c = record {
  rests = λ s log f.
      let h = c.loop.invariant.rests s log f in
      let some = rw c.in-Some-2.is at c.in_ok-out.ensures.some in
      let t = some s h.0 h.1 in
      c.in_ok-hand_out.ensures.rests s (room_of s.limit s.edges h.0).closed (t.0 ∷ h.0) t.1;
  taken = c.in_ok-hand_out.ensures.taken ∙ (c.in_ok-out.ensures.taken ∙ c.loop.invariant.taken);
  rings = c.in_ok-hand_out.ensures.rings;
}
