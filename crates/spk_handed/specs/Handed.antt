-- What a broker that keeps the order hands of one node to one host session (MQTT 3.1.1, section 4.6): of the messages that the node
-- published some, in their order, each once, and few of them missing in a row while the host follows the node. Inputs stand newest first.
use Rattle.std.specs.Prelude.{◌≡◌, ℕ, ◌+◌, ◌-◌, ◌<◌, ◌≤◌, true, List, [], ◌∷◌}
use Rattle.spk_sequence.specs.Budget.{budget}
use Rattle.spk_sequence.specs.Claims.{AllPublished}
use Rattle.spk_sequence.specs.Following.{following, taken}
use Rattle.spk_sequence.specs.HostRecord.{Input, MessageComes, DeathComes, TickComes, record_of}
use Rattle.spk_sequence.specs.NodeRecord.{IsNodeRecord, Restarts, Setting}
use Rattle.spk_sequence.specs.Window.{IsAfterBirth, IsNearBirth, IsToldApart}

-- the positions that came, the newest first
abbrev pub positions_in : List Input → List ℕ
positions_in [] = []
positions_in (MessageComes p now ∷ is) = p ∷ positions_in is
positions_in (DeathComes session now ∷ is) = positions_in is
positions_in (TickComes now ∷ is) = positions_in is

-- one past the newest position, and 0 before the first
abbrev pub past_newest : List ℕ → ℕ
past_newest [] = 0
past_newest (p ∷ ps) = p + 1

-- in order, each once: each is past the one before
abbrev pub AreRising : List ℕ → Type 0
AreRising [] = Unit {0}
AreRising (p ∷ ps) = (past_newest ps ≤ p) × AreRising ps

-- it holds of each input, behind those that came before it
abbrev pub AtEach : (List Input → Input → Type 0) → List Input → Type 0
AtEach P [] = Unit {0}
AtEach P (i ∷ is) = P is i × AtEach P is

-- the host follows the node behind these inputs
abbrev pub Follows : Setting → List Input → Type 0
Follows s is = (following s (record_of s is)).on ≡ true

-- A message that comes while the host follows: fewer than 256 - 2 * width positions between it and the one that came before it are missing.
abbrev pub FewMiss : Setting → List Input → Input → Type 0
FewMiss s is (MessageComes p now) = Follows s is → p - past_newest (positions_in is) < budget s.width
FewMiss s is (DeathComes session now) = Unit {0}
FewMiss s is (TickComes now) = Unit {0}

-- A death that comes while the host follows: it is of the session of the birth taken, if it has its bdSeq.
abbrev pub DiesApart : Setting → List Input → Input → Type 0
DiesApart s is (MessageComes p now) = Unit {0}
DiesApart s is (DeathComes session now) = Follows s is → IsToldApart s (taken s (record_of s is)) session
DiesApart s is (TickComes now) = Unit {0}

-- A message that comes while the host follows came behind its own NBIRTH, or is it.
abbrev pub ComesBehindBirth : Setting → List Input → Input → Type 0
ComesBehindBirth s is (MessageComes p now) = Follows s is → IsAfterBirth s (record_of s is) p
ComesBehindBirth s is (DeathComes session now) = Unit {0}
ComesBehindBirth s is (TickComes now) = Unit {0}

-- What is asked of a broker, and nothing of how long a host runs: no bound on sessions, nor on how many messages are lost in all.
pub record IsHanded (s : Setting) (inputs : List Input) : Type 0 where
  pub node : IsNodeRecord s.published
  pub some_places : 0 < s.width
  pub few_places : s.width ≤ 96
  pub published : AllPublished s inputs
  pub rising : AreRising (positions_in inputs)
  pub few : AtEach (FewMiss s) inputs
  pub deaths : AtEach (DiesApart s) inputs
  -- where the sequence number restarts at each NBIRTH
  pub births : s.numbering ≡ Restarts → AtEach (ComesBehindBirth s) inputs
  pub near : s.numbering ≡ Restarts → AtEach (λ is i. IsNearBirth s (record_of s is) i) inputs
