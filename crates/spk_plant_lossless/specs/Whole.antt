-- Where nothing is missing of a node (own rules). Inputs and positions stand newest first.
use Rattle.std.specs.Prelude.{◌≡◌, ℕ, zero, suc, ◌==◌, Bool, false, ◌||◌, List, [], ◌∷◌}
use Rattle.spk_sequence.specs.HostRecord.{Input, MessageComes, DeathComes, TickComes}
use Rattle.spk_sequence.specs.NodeRecord.{NodeRecord, session_at}

-- all positions below n
abbrev pub all_below : ℕ → List ℕ
all_below zero = []
all_below (suc n) = n ∷ all_below n

-- the death of this session came
abbrev pub has_died : ℕ → List Input → Bool
has_died session [] = false
has_died session (DeathComes dead now ∷ is) = (dead == session) || has_died session is
has_died session (MessageComes p now ∷ is) = has_died session is
has_died session (TickComes now ∷ is) = has_died session is

-- no message came behind the death of its session
abbrev pub ComeInLife : NodeRecord → List Input → Type 0
ComeInLife published [] = Unit {0}
ComeInLife published (MessageComes p now ∷ is) = (has_died (session_at published p) is ≡ false) × ComeInLife published is
ComeInLife published (DeathComes dead now ∷ is) = ComeInLife published is
ComeInLife published (TickComes now ∷ is) = ComeInLife published is
