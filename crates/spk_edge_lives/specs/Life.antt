-- The life (`spk_lives`) that the deeds of an edge node's program (`spk_edge_app`) come to. Deeds and inputs stand newest first.
use Rattle.std.specs.Prelude.{◌≡◌, ℕ, ◌^◌, ◌<◌, List, [], ◌∷◌, ◌++◌, map, Option, Some, None}
use Rattle.spk_edge.specs.Along.{node_of}
use Rattle.spk_edge.specs.Calls.{inputs_by}
use Rattle.spk_edge_rules.specs.Config.{Setup}
use Rattle.spk_edge_rules.specs.Inputs.{Input}
use Rattle.spk_edge_rules.specs.Run.{opened, run_of, session_number}
use Rattle.spk_record.specs.declared.record.Record.{Record}
use Rattle.spk_edge_app.specs.Data.{App, Deed, Opened, Read, Heard, Told, Asked, Wrote, Saved, GaveUp, Stopped, Handed, Over, LoginData}
use Rattle.spk_edge_app.specs.Run.{of_node, on_node}
use Rattle.spk_edge_app.specs.Step.{IsRun, fresh_app, wanted_by}
use Rattle.spk_lives.specs.Lives as lives
use Rattle.spk_lives.specs.Lives.{Begins, GoesOnFrom, IsAmong, Keeps, Life, Reserve, Says, on_disk, record_in}

-- ---- what the node was told

abbrev pub told_in : Setup → List Deed → List Input
told_in s ds = inputs_by (of_node s.config ds)

-- since something was written last
abbrev pub since_write : Setup → List Deed → List Input
since_write s [] = []
since_write s (Wrote first others now ∷ ds) = []
since_write s (d ∷ ds) = inputs_by (on_node s.config d) ++ since_write s ds

-- until something was written last: of what it was told later nothing was written
abbrev pub before_write : Setup → List Deed → List Input
before_write s [] = []
before_write s (Wrote first others now ∷ ds) = told_in s ds
before_write s (d ∷ ds) = before_write s ds

-- ---- the record on the disk, and the one that is wanted

abbrev pub kept_after : Record → List Deed → Record
kept_after kept [] = kept
kept_after kept (Saved saved ∷ ds) = saved
kept_after kept (d ∷ ds) = kept_after kept ds

abbrev pub wanted_after : Setup → Record → List Deed → Option Record
wanted_after s kept [] = wanted_by kept None (node_of s [])
wanted_after s kept (Saved saved ∷ ds) = wanted_by saved None (node_of s (told_in s ds))
wanted_after s kept (d ∷ ds) = wanted_by (kept_after kept ds) (wanted_after s kept ds) (node_of s (told_in s (d ∷ ds)))

-- ---- the life

-- a record of the sessions that these inputs opened begins to be written, where one is wanted
abbrev pub begins : Setup → List Input → Option Record → List lives.Deed
begins s is None = []
begins s is (Some wanted) = Begins (opened (run_of s is)) wanted.stamp ∷ []

-- Wherever a record is wanted it may begin to be written, it is kept where it is saved, and all that the node was told before something is written is
-- given out with it.
abbrev pub life_of : Setup → Record → List Deed → List lives.Deed
life_of s kept [] = []
life_of s kept (Saved saved ∷ ds) = Keeps ∷ life_of s kept ds
life_of s kept (Wrote first others now ∷ ds) = map Says (since_write s ds) ++ life_of s kept ds
life_of s kept (d ∷ ds) = begins s (told_in s (d ∷ ds)) (wanted_after s kept (d ∷ ds)) ++ life_of s kept ds

-- ---- the program

-- The node is made with the bdSeq and the stamp of the record on the disk, whose stamp is a moment.
pub record BeginsWith (s : Setup) (kept : Record) : Type 0 where
  pub bd : kept.bd ≡ session_number s 0
  pub stamp : s.stamp ≡ Some kept.stamp
  pub moment : kept.stamp < 2 ^ 63

-- what a life reserves is this record
pub record IsReserved (s : Setup) (r : Reserve) (k : Record) : Type 0 where
  pub stamp : r.stamp ≡ Some k.stamp
  pub is : k ≡ record_in s r.sessions k.stamp

-- the record is among what the disk may hold
pub record MayHold (s : Setup) (disk : List Reserve) (k : Record) : Type 0 where
  pub reserve : Reserve
  pub among : IsAmong reserve disk
  pub is : IsReserved s reserve k

-- one run of the program up to the moment at which it was cut, and what the disk then held
pub record ProgramRun : Type 0 where
  pub setup : Setup
  pub login : Option LoginData
  pub spread : ℕ
  pub kept : Record
  pub deeds : List Deed
  pub app : App
  pub left : Reserve

abbrev pub life : ProgramRun → Life
life p = record { setup = p.setup; deeds = life_of p.setup p.kept p.deeds; left = p.left }

pub record IsProgramRun (p : ProgramRun) : Type 0 where
  pub made : BeginsWith p.setup p.kept
  pub runs : IsRun (fresh_app (node_of p.setup []) p.login p.kept p.spread) p.deeds p.app
  pub left : IsAmong p.left (on_disk p.setup (life_of p.setup p.kept p.deeds))

-- each one begins with a record that the disk may have held where the one before was cut
abbrev pub AreProgramRuns : List ProgramRun → Type 0
AreProgramRuns [] = Unit {0}
AreProgramRuns (p ∷ ps) = IsProgramRun p × GoesOnFrom p.setup (map life ps) × AreProgramRuns ps
