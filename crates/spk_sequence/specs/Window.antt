-- What may be handed over: positions inside the window, and births and deaths whose bdSeq is told apart.
use Rattle.std.specs.Prelude.{◌≡◌, ℕ, ◌+◌, ◌<◌, ◌≤◌, ◌⊎◌, true, List, [], ◌∷◌, length, Option, Some, None}
use Rattle.spk_sequence.specs.Budget.{budget}
use Rattle.spk_sequence.specs.NodeRecord.{Setting, Numbering, RunsOn, Restarts, opens, session_at, start_of, written_session}
use Rattle.spk_sequence.specs.HostRecord.{Input, MessageComes, DeathComes, TickComes, HostRecord, record_of, reach}
use Rattle.spk_sequence.specs.Following.{taken, following, contains}

-- A published position is at most width - 1 behind the greatest one handed, and while the host follows at most
-- 256 - 2 * width ahead of it. The first is free.
pub record InWindow (s : Setting) (h : HostRecord) (p : ℕ) : Type 0 where
  pub published : p < length s.published
  pub not_far_behind : reach h ≤ p + s.width
  pub not_far_ahead : (following s h).on ≡ true → p < reach h + budget s.width

-- a session less than 256 away from that of the birth taken last, where there is one
abbrev pub IsNearTo : Setting → Option ℕ → ℕ → Type 0
IsNearTo s None session = Unit {0}
IsNearTo s (Some b) session = (session < session_at s.published b + 256) × (session_at s.published b < session + 256)

abbrev pub IsNear : Setting → HostRecord → ℕ → Type 0
IsNear s h session = IsNearTo s (taken s h) session

abbrev pub with_handed : Input → List ℕ → List ℕ
with_handed (MessageComes p now) handed = p ∷ handed
with_handed _ handed = handed

-- the positions handed in the host session
abbrev pub handed_of : HostRecord → List ℕ
handed_of [] = []
handed_of (e ∷ h) = with_handed e.input (handed_of h)

-- the message's own NBIRTH was handed before it, or is it
abbrev pub IsAfterBirth : Setting → HostRecord → ℕ → Type 0
IsAfterBirth s h p = (opens s.published p ≡ true) ⊎ (contains (start_of s.published p) (handed_of h) ≡ true)

-- a session that is that of the birth taken last if its bdSeq is
abbrev pub IsToldApart : Setting → Option ℕ → ℕ → Type 0
IsToldApart s None session = Unit {0}
IsToldApart s (Some b) session = written_session s session ≡ written_session s (session_at s.published b) → session ≡ session_at s.published b

-- inside the window; a death that comes while the host follows is of the birth's session if it has its bdSeq
abbrev pub MayCome : Setting → HostRecord → Input → Type 0
MayCome s h (MessageComes p now) = InWindow s h p
MayCome s h (DeathComes session now) = (following s h).on ≡ true → IsToldApart s (taken s h) session
MayCome s h (TickComes now) = Unit {0}

-- deaths are of near sessions
abbrev pub IsNearDeath : Setting → HostRecord → Input → Type 0
IsNearDeath s h (DeathComes session now) = IsNear s h session
IsNearDeath s h _ = Unit {0}

abbrev pub AllNearDeaths : Setting → List Input → Type 0
AllNearDeaths s [] = Unit {0}
AllNearDeaths s (input ∷ inputs) = IsNearDeath s (record_of s inputs) input × AllNearDeaths s inputs

-- births too are of near sessions
abbrev pub IsNearBirth : Setting → HostRecord → Input → Type 0
IsNearBirth s h (MessageComes p now) = opens s.published p ≡ true → IsNear s h (session_at s.published p)
IsNearBirth s h _ = Unit {0}

-- each input may come after the ones before it; the newest stands first
abbrev pub AllMayCome : Setting → List Input → Type 0
AllMayCome s [] = Unit {0}
AllMayCome s (input ∷ inputs) = MayCome s (record_of s inputs) input × AllMayCome s inputs

-- what a message asks where the number restarts: its own NBIRTH was handed before it
abbrev pub IsAfterOwnBirth : Setting → HostRecord → Input → Type 0
IsAfterOwnBirth s h (MessageComes p now) = IsAfterBirth s h p
IsAfterOwnBirth s h _ = Unit {0}

abbrev pub AllAfterBirth : Setting → List Input → Type 0
AllAfterBirth s [] = Unit {0}
AllAfterBirth s (input ∷ inputs) = IsAfterOwnBirth s (record_of s inputs) input × IsNearBirth s (record_of s inputs) input × AllAfterBirth s inputs

-- A number that runs on asks nothing more. Where it restarts, no message is handed before its own NBIRTH, and births too
-- are of near sessions.
abbrev pub NumbersFit : Numbering → Setting → List Input → Type 0
NumbersFit RunsOn s inputs = Unit {0}
NumbersFit Restarts s inputs = AllAfterBirth s inputs
