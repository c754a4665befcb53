-- What each call of a host application's program did, whatever it answered, as its clauses say (own rules). A call that changed nothing left all as it was.
use Rattle.std.specs.Prelude.{◌≡◌, ◌⊎◌, ℕ, true, false, List, [], ◌∷◌, take}
use Rattle.spk_connection.specs.Step.{is_open}
use Rattle.spk_host_app.specs.Data.{App, Over, Printed, Read, Word, Wrote}
use Rattle.spk_host_app.specs.Log.{DoesOne, IsBegun, IsGivenUp, IsRequested, IsStopped, IsTicked, May, Reaches, takes}
use Rattle.spk_host_app.specs.Step.{after, pinged, ticked}

-- the calls that change a program
pub data Call : Type 0 where
  Opened : (now : ℕ) → Call
  Fed : (piece : List ℕ) (now : ℕ) → Call
  HeardOne : (now : ℕ) → Call
  WentOn : (now : ℕ) → Call
  ReadAll : (piece : List ℕ) (now : ℕ) → Call
  CameTo : (now : ℕ) → Call
  AskedFor : (group node : List ℕ) (now : ℕ) → Call
  Left : (now : ℕ) → Call
  Ended : (now : ℕ) → Call
  WroteSome : (count : ℕ) (now : ℕ) → Call
  TookWord : Call

-- the piece was put behind what was read, or the connection was given up
abbrev pub IsFed : List ℕ → ℕ → App → App → Type 0
IsFed piece now a b = (is_open a.connection ≡ true) × (a.closing ≡ false) × ((b ≡ after (Read piece now) a) ⊎ IsGivenUp a b)

-- and then packets were taken
abbrev pub IsReadOn : List ℕ → ℕ → App → App → Type 0
IsReadOn piece now a b =
    (is_open a.connection ≡ true) × (a.closing ≡ false) × (Reaches takes (after (Read piece now) a) b ⊎ IsGivenUp a b)

-- what such a call did, from the one to the other
abbrev pub IsDone : App → Call → App → Type 0
IsDone a (Opened now) b = (b ≡ a) ⊎ ((is_open a.connection ≡ false) × IsBegun now a b)
IsDone a (Fed piece now) b = (b ≡ a) ⊎ IsFed piece now a b
IsDone a (HeardOne now) b = (b ≡ a) ⊎ DoesOne takes a b
IsDone a (WentOn now) b = Reaches takes a b
IsDone a (ReadAll piece now) b = (b ≡ a) ⊎ IsReadOn piece now a b
IsDone a (CameTo now) b = (b ≡ ticked now (pinged now a)) ⊎ (IsGivenUp a b ⊎ IsTicked now (pinged now a) b)
IsDone a (AskedFor group node now) b = (b ≡ a) ⊎ IsRequested group node now a b
IsDone a (Left now) b = (b ≡ a) ⊎ IsStopped now a b
IsDone a (Ended now) b = b ≡ after (Over now) a
IsDone a (WroteSome count now) b = b ≡ after (Wrote (take count a.connection.unwritten) now) a
IsDone a TookWord b = (b ≡ a) ⊎ ((w : Word) × May (Printed w) a × (b ≡ after (Printed w) a))

-- these calls were done, newest first, one after the other
abbrev pub AreDone : App → List Call → App → Type 0
AreDone a [] b = b ≡ a
AreDone a (call ∷ calls) b = (m : App) × AreDone a calls m × IsDone m call b
