-- What comes to a host of a node through a broker that drops few: positions in order, each once, and few of them missing.
use Rattle.std.specs.Prelude.{◌≡◌, ℕ, ◌+◌, ◌-◌, ◌<◌, ◌≤◌, List, [], ◌∷◌, length}
use Rattle.spk_sequence.specs.Budget.{budget}
use Rattle.spk_sequence.specs.Claims.{AllPublished}
use Rattle.spk_sequence.specs.HostRecord.{Input, MessageComes, DeathComes, TickComes}
use Rattle.spk_sequence.specs.NodeRecord.{NodeRecord, IsNodeRecord, RunsOn, Setting, session_at}

-- the positions that came, the newest first, as the inputs stand
abbrev pub positions_in : List Input → List ℕ
positions_in [] = []
positions_in (MessageComes p now ∷ is) = p ∷ positions_in is
positions_in (DeathComes session now ∷ is) = positions_in is
positions_in (TickComes now ∷ is) = positions_in is

-- one past the newest position, and 0 before the first
abbrev pub past_newest : List ℕ → ℕ
past_newest [] = 0
past_newest (p ∷ ps) = p + 1

-- the position that came first, where p came last
abbrev pub oldest_of : ℕ → List ℕ → ℕ
oldest_of p [] = p
oldest_of p (q ∷ qs) = oldest_of q qs

-- each is past the one before
abbrev pub AreRising : List ℕ → Type 0
AreRising [] = Unit {0}
AreRising (p ∷ ps) = (past_newest ps ≤ p) × AreRising ps

-- how many positions from the oldest to the newest didn't come
abbrev pub missing : List ℕ → ℕ
missing [] = 0
missing (p ∷ ps) = (p + 1) - (oldest_of p ps + length (p ∷ ps))

-- the node opened at most 256 sessions, so that a byte names each
abbrev pub HasFewSessions : NodeRecord → Type 0
HasFewSessions published = (p : ℕ) → p < length published → session_at published p < 256

abbrev pub IsEarlyDeath : Input → Type 0
IsEarlyDeath (MessageComes p now) = Unit {0}
IsEarlyDeath (DeathComes session now) = session < 256
IsEarlyDeath (TickComes now) = Unit {0}

abbrev pub AreEarlyDeaths : List Input → Type 0
AreEarlyDeaths [] = Unit {0}
AreEarlyDeaths (i ∷ is) = IsEarlyDeath i × AreEarlyDeaths is

-- Of a node whose sequence number runs on over its births: what came was published, in order, each once, fewer than 256 - 2 * width are
-- missing between, and the sessions of births and deaths are below 256. Nothing is asked of which window the host is in.
pub record IsRelayed (s : Setting) (inputs : List Input) : Type 0 where
  pub node : IsNodeRecord s.published
  pub some_places : 0 < s.width
  pub few_places : s.width ≤ 96
  pub runs_on : s.numbering ≡ RunsOn
  pub published : AllPublished s inputs
  pub rising : AreRising (positions_in inputs)
  pub few : missing (positions_in inputs) < budget s.width
  pub sessions : HasFewSessions s.published
  pub deaths : AreEarlyDeaths inputs
