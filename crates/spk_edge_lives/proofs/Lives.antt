-- Runs of a program, one after the other, are lives of one node.
use Rattle.std.proofs.Common.{ℕ, List, [], ◌∷◌, map, Option}
use Rattle.spk_edge.specs.Along.{node_of}
use Rattle.spk_edge_rules.specs.Config.{Setup}
use Rattle.spk_record.specs.declared.record.Record.{Record}
use Rattle.spk_edge_app.specs.Data.{App, Deed, LoginData}
use Rattle.spk_edge_app.specs.Step.{IsRun, fresh_app}
use Rattle.spk_lives.specs.Lives.{AreLives, IsCareful}
use Rattle.spk_edge_lives.specs.Life.{AreProgramRuns, BeginsWith, ProgramRun, life, life_of}

abbrev pub AreCareful : Type 0
AreCareful = (s : Setup) (login : Option LoginData) (kept : Record) (spread : ℕ) (deeds : List Deed) (a : App) → BeginsWith s kept
    → IsRun (fresh_app (node_of s []) login kept spread) deeds a → IsCareful s (life_of s kept deeds)

pub are_lives : AreCareful → (runs : List ProgramRun) → AreProgramRuns runs → AreLives (map life runs)
are_lives careful [] all = tt
are_lives careful (p ∷ ps) (is, goes_on, all) = (
  record { careful = careful p.setup p.login p.kept p.spread p.deeds p.app is.made is.runs; survived = is.left },
  goes_on,
  are_lives careful ps all,
)
