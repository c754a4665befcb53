use Rattle.std.proofs.Common.{◌≡◌, false, true}
use Rattle.spk_server.specs.Log.{any_deed}
use Rattle.spk_server.specs.Calls.{room_with}
use Rattle.spk_server.proofs.Waiting.{seen_run}
use Rattle.spk_server.proofs.laws.who_waits_is_looked_at.Goals as goal

pub returns : goal.returns
returns c = λ x log r k run waits. seen_run any_deed log (room_with x) r run (λ k e. nobody e) k waits
  where
    nobody : {A : Type 0} → false ≡ true → A
    nobody e = cc
