use Rattle.std.proofs.Common.{◌∷◌}
use Rattle.std.proofs.lemmas.Result.{on_ok_weaker}
use Rattle.spk_plant_broker.specs.Log.{room_of}
use Rattle.spk_plant_broker.proofs.hub.Hub.take.Goals as goal

pub returns-clause-idle : goal.returns-clause-idle
returns-clause-idle g c =
    on_ok_weaker c.tell_all.result
    (λ idle s log f.
    let t = c.in_ok-out.ensures.taken.offers s log f in
    let h = c.in_ok-hand_out.ensures.rests s (room_of s.limit s.edges log).closed (t.0 ∷ log) t.1 in
    idle s h.0 h.1)
    c.tell_all.ensures.idle
