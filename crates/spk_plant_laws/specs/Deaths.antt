-- Of which session the deaths are that a host is told of an edge node (Sparkplug 3.0.0, chapter 5 on the bdSeq of an NDEATH).
use Rattle.std.specs.Prelude.{◌≡◌, ℕ, ◌<◌, Bool, List, [], ◌∷◌, Option}
use Rattle.spk_sequence.specs.HostRecord.{Input, MessageComes, DeathComes, TickComes}
use Rattle.spk_reading.specs.Data.{Death, Published}
use Rattle.spk_reading.specs.Meaning.{Says}
use Rattle.spk_plant_broker.specs.Data.{Entry, Accepted}
use Rattle.spk_edge_rules.specs.Config.{Setup}
use Rattle.spk_edge_rules.specs.Packets.{death_topic}
use Rattle.spk_edge_rules.specs.Run.{session_number}
use Rattle.spk_host_node.specs.Inputs as node
use Rattle.spk_plant_relay.specs.Origins.{WasTakenOf}
use Rattle.spk_tie.specs.Tie.{IsDeathOf, death_text}

-- The session has this bdSeq, and of those that the node opened, counted from 0, no other has it.
pub record IsSessionOf (s : Setup) (opened bd session : ℕ) : Type 0 where
  pub named : session_number s session ≡ bd
  pub only : (other : ℕ) → other < opened → session_number s other ≡ bd → other ≡ session

-- Each death that was told, by its bdSeq, is read as that of such a session. Newest first.
abbrev pub AreDeathsOf : (s : Setup) (opened : ℕ) → List Input → List node.Input → Type 0
AreDeathsOf s opened [] [] = Unit {0}
AreDeathsOf s opened (DeathComes session now ∷ is) (node.Dies bd ∷ told) = IsSessionOf s opened bd session × AreDeathsOf s opened is told
AreDeathsOf s opened (MessageComes p now ∷ is) (node.Comes m at ∷ told) = AreDeathsOf s opened is told
AreDeathsOf s opened (TickComes now ∷ is) (node.Ticks at ∷ told) = AreDeathsOf s opened is told
AreDeathsOf s opened _ _ = ⊥

-- each of these deaths is of a session that the node opened, of so many
abbrev pub AreOpened : (opened : ℕ) → List Input → Type 0
AreOpened opened [] = Unit {0}
AreOpened opened (MessageComes p now ∷ is) = AreOpened opened is
AreOpened opened (DeathComes session now ∷ is) = (session < opened) × AreOpened opened is
AreOpened opened (TickComes now ∷ is) = AreOpened opened is

-- ---- their bytes

-- The bytes are a PUBLISH of the NDEATH of a session that the node opened, of so many, with this bdSeq. By then a frame of the node, the
-- client at place k, was taken that said it: a CONNECT whose will it is, or the node's own farewell.
pub record IsOwnDeath (s : Setup) (opened k : ℕ) (l : List Entry) (bytes : List ℕ) (bd : ℕ) : Type 0 where
  pub session : ℕ
  pub below : session < opened
  pub named : session_number s session ≡ bd
  pub time : ℕ
  pub dup : Bool
  pub qos : ℕ
  pub retain : Bool
  pub id : Option ℕ
  pub spelled : IsDeathOf s session time dup qos retain id bytes
  pub said : WasTakenOf k l (death_topic s.config) (death_text s session time)

-- The same of all that rings got, wherever it says to a host that the node died.
abbrev pub AreOwnDeaths : (s : Setup) (opened k : ℕ) → List Entry → Type 0
AreOwnDeaths s opened k [] = Unit {0}
AreOwnDeaths s opened k (Accepted j o ∷ l) =
    ((ack : Option ℕ) (bd : ℕ) → Says o.bytes (Published ack (Death s.config.group s.config.node bd)) → IsOwnDeath s opened k l o.bytes bd)
    × AreOwnDeaths s opened k l
AreOwnDeaths s opened k (_ ∷ l) = AreOwnDeaths s opened k l
