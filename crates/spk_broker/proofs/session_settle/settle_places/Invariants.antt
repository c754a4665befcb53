use Rattle.std.proofs.Common.{◌++◌, ◌∷◌, []}
use Rattle.spk_broker.proofs.Touched.{Settling}
use Rattle.spk_broker.proofs.session_settle.settle_places.Given as goal

abbrev pub invariant-loop-place : goal.invariant-loop-place
invariant-loop-place l = Settling (l.places ++ l.last ∷ []) l.place-index l.initial.sessions l.sessions l.ended
