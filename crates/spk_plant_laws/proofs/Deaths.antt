-- A bdSeq names one session of a node that opens at most 256.
use Rattle.std.proofs.Common.{◌≡◌, ◌∙◌, sym, ℕ, ◌+◌, ◌%◌, ◌<◌, ◌≤◌, List, [], ◌∷◌, arith}
use Rattle.spk_sequence.specs.Calls as call
use Rattle.spk_sequence.specs.HostRecord.{Input, MessageComes, DeathComes, TickComes}
use Rattle.spk_edge_rules.specs.Config.{Setup}
use Rattle.spk_edge_rules.specs.Run.{Message, session_number}
use Rattle.spk_host_node.specs.Inputs as node
use Rattle.spk_heard.specs.Read.{AreRead}
use Rattle.spk_plant_relay.specs.Relayed.{AreEarlyDeaths}
use Rattle.spk_plant_laws.specs.Deaths.{AreDeathsOf, IsSessionOf}

same-death : (m n : ℕ) → call.Death m ≡ call.Death n → m ≡ n
same-death m n e = cc

one-below : (first other session : ℕ) → other < 256 → session < 256 → (first + other) % 256 ≡ (first + session) % 256 → other ≡ session
one-below first other session low under e = omega (arith, low, under, e)

under-most : (other opened : ℕ) → other < opened → opened ≤ 256 → other < 256
under-most other opened low few = omega (arith, low, few)

session-is : (s : Setup) (opened bd session : ℕ) → opened ≤ 256 → session < 256 → bd ≡ session_number s session → IsSessionOf s opened bd session
session-is s opened bd session few low is = record {
  named = sym is;
  only = λ other below same. one-below s.bd other session (under-most other opened below few) low (same ∙ is);
}

pub deaths-of : (s : Setup) (all : List Message) (opened : ℕ) (is : List Input) (told : List node.Input) → opened ≤ 256 → AreEarlyDeaths is → AreRead s all is told → AreDeathsOf s opened is told
deaths-of s all opened [] [] few early read = tt
deaths-of s all opened [] (j ∷ js) few early read = absurd read
deaths-of s all opened (i ∷ is) [] few early read = absurd read
deaths-of s all opened (MessageComes p now ∷ is) (node.Comes m at ∷ js) few early read = deaths-of s all opened is js few early.1 read.1
deaths-of s all opened (MessageComes p now ∷ is) (node.Dies bd ∷ js) few early read = absurd read.0
deaths-of s all opened (MessageComes p now ∷ is) (node.Ticks at ∷ js) few early read = absurd read.0
deaths-of s all opened (MessageComes p now ∷ is) (node.Ends ∷ js) few early read = absurd read.0
deaths-of s all opened (DeathComes session now ∷ is) (node.Comes m at ∷ js) few early read = absurd read.0
deaths-of s all opened (DeathComes session now ∷ is) (node.Dies bd ∷ js) few early read =
    (session-is s opened bd session few early.0 (same-death bd (session_number s session) (read.0 0 1)), deaths-of s all opened is js few early.1 read.1)
deaths-of s all opened (DeathComes session now ∷ is) (node.Ticks at ∷ js) few early read = absurd read.0
deaths-of s all opened (DeathComes session now ∷ is) (node.Ends ∷ js) few early read = absurd read.0
deaths-of s all opened (TickComes now ∷ is) (node.Comes m at ∷ js) few early read = absurd read.0
deaths-of s all opened (TickComes now ∷ is) (node.Dies bd ∷ js) few early read = absurd read.0
deaths-of s all opened (TickComes now ∷ is) (node.Ticks at ∷ js) few early read = deaths-of s all opened is js few early.1 read.1
deaths-of s all opened (TickComes now ∷ is) (node.Ends ∷ js) few early read = absurd read.0
