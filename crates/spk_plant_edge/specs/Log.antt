-- What an edge's thread did, newest first: what its script asked, and what became of the items that its ring brought (own rules). From
-- it one reads the inputs of the node and the items taken out.
use Rattle.std.specs.Prelude.{◌≡◌, ◌⊎◌, ℕ, ◌+◌, ◌<◌, ◌≤◌, List, [], ◌∷◌, ◌++◌, length, None, if◌then◌else◌}
use Rattle.spk_packets.specs.Grammar.{Spells}
use Rattle.spk_packets.specs.Message as packets
use Rattle.spk_edge_rules.specs.Arriving.{input_of}
use Rattle.spk_edge_rules.specs.Config.{Config, Setup}
use Rattle.spk_edge_rules.specs.Inputs.{Act, Pass, Input}
use Rattle.spk_ingress.specs.Frame.{IsOnePacket}
use Rattle.spk_rings.specs.declared.item.Item.{Item}
use Rattle.spk_plant_edge.specs.Frames.{cuts_in, frames_of, is_cut}

pub data Move : Type 0 where
  -- the script asks this of the node
  Asks : (i : Input) → Move
  -- the node hears an item of its ring, as this input
  Hears : (item : Item) (i : Input) → Move
  -- an item of an older connection is passed over
  Passes : (item : Item) → Move

-- the inputs of the node, newest first
abbrev pub inputs_of : List Move → List Input
inputs_of [] = []
inputs_of (Asks i ∷ log) = i ∷ inputs_of log
inputs_of (Hears item i ∷ log) = i ∷ inputs_of log
inputs_of (Passes item ∷ log) = inputs_of log

-- the items that were taken out of the ring, oldest first
abbrev pub items_of : List Move → List Item
items_of [] = []
items_of (Asks i ∷ log) = items_of log
items_of (Hears item i ∷ log) = items_of log ++ item ∷ []
items_of (Passes item ∷ log) = items_of log ++ item ∷ []

-- what the script asked, newest first
abbrev pub asked_in : List Move → List Act
asked_in [] = []
asked_in (Asks i ∷ log) = i.act ∷ asked_in log
asked_in (Hears item i ∷ log) = asked_in log
asked_in (Passes item ∷ log) = asked_in log

-- the moment of the next input: 1,000,000 and the number of the inputs so far
abbrev pub time_of : List Move → ℕ
time_of log = 1000000 + length (inputs_of log)

-- an act of the script behind a log, as an input: a cut has the moment 0
abbrev pub asked_at : List Move → Act → Input
asked_at log act = record { now = if is_cut act then 0 else time_of log; ack = None; act = act }

-- how many ends of connections were put
abbrev pub cuts_of : Setup → List Move → ℕ
cuts_of s log = cuts_in (frames_of s (inputs_of log))

-- The input that an item's bytes are (MQTT 3.1.1, chapter 3): what the packet that they spell asks for; nothing, if they are none.
abbrev pub IsArrival : Config → ℕ → List ℕ → Input → Type 0
IsArrival c now bytes i = ((p : packets.Message) × Spells bytes p × (i ≡ input_of c now p))
    ⊎ ((IsOnePacket bytes → ⊥) × (i ≡ record { now = now; ack = None; act = Pass }))

-- Which move may come behind a log: an item is heard, unless it is of a connection that was ended since.
abbrev pub MayMove : Setup → List Move → Move → Type 0
MayMove s log (Asks i) = i ≡ asked_at log i.act
MayMove s log (Hears item i) = (cuts_of s log ≤ item.cuts) × IsArrival s.config (time_of log) item.bytes i
MayMove s log (Passes item) = item.cuts < cuts_of s log

abbrev pub IsLog : Setup → List Move → Type 0
IsLog s [] = Unit {0}
IsLog s (move ∷ log) = MayMove s log move × IsLog s log
