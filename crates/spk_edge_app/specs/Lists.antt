-- Lists of calls of an edge node's program, newest first. A call that was refused and changed nothing isn't in the list.
use Rattle.std.specs.Prelude.{◌≡◌, ℕ, List, [], ◌∷◌, Option}
use Rattle.spk_payload.specs.Typing.{Typed}
use Rattle.spk_edge_rules.specs.Inputs.{Input}
use Rattle.spk_record.specs.declared.record.Record.{Record}
use Rattle.spk_edge_app.specs.Calls.{IsHeldUp, IsMoment, IsOpened, IsStopped, IsTold, IsToldAll, IsUnlogged, IsUnread, WasRead, saved_where, wrote_where}
use Rattle.spk_edge_app.specs.Data as deed
use Rattle.spk_edge_app.specs.Data.{App, Deed}
use Rattle.spk_edge_app.specs.Step.{IsRun, IsStep}
use Rattle.spk_edge_app.specs.declared.fault.EdgeAppFault.{EdgeAppFault}

pub data Call : Type 0 where
  Opened : (now : ℕ) → Call
  -- the user name and the password couldn't be put in
  Unlogged : (now : ℕ) (e : EdgeAppFault) → Call
  Read : (piece : List ℕ) (now : ℕ) → Call
  -- the connection was given up
  Unread : (piece : List ℕ) (now : ℕ) (e : EdgeAppFault) → Call
  -- `change`, `device`
  Told : (input : Input) → Call
  -- `changes`
  ToldAll : (now : ℕ) (changes : List (ℕ × Option Typed)) → Call
  Moment : (now : ℕ) → Call
  HeldUp : (now : ℕ) (e : EdgeAppFault) → Call
  Stopped : (now : ℕ) → Call
  Kept : (saved : Record) → Call
  Wrote : (count now : ℕ) → Call
  NextWrite : Call
  Over : (now : ℕ) → Call

-- what the contract of each call says that it did
abbrev pub IsDone : App → Call → App → Type 0
IsDone a (Opened now) b = IsOpened a now b
IsDone a (Unlogged now e) b = IsUnlogged a now b e
IsDone a (Read piece now) b = WasRead a piece now b
IsDone a (Unread piece now e) b = IsUnread a piece now b e
IsDone a (Told input) b = IsTold a input b
IsDone a (ToldAll now changes) b = IsToldAll a now changes b
IsDone a (Moment now) b = IsMoment a now b
IsDone a (HeldUp now e) b = IsHeldUp a now b e
IsDone a (Stopped now) b = IsStopped a now b
IsDone a (Kept saved) b = b ≡ saved_where a.wanted saved a
IsDone a (Wrote count now) b = b ≡ wrote_where a.wanted count now a
IsDone a NextWrite b = IsStep a deed.Handed b
IsDone a (Over now) b = IsStep a (deed.Over now) b

-- each of these calls was done, one after the other
abbrev pub AreDone : App → List Call → App → Type 0
AreDone a [] b = b ≡ a
AreDone a (call ∷ calls) b = (m : App) × AreDone a calls m × IsDone m call b

-- some deeds lead from the one to the other
abbrev pub Reaches : App → App → Type 0
Reaches a b = (deeds : List Deed) × IsRun a deeds b
