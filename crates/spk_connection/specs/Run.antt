-- What happened to a connection, newest first, and what follows from it: questions to the list, without any data.
use Rattle.std.specs.Prelude.{◌≡◌, ℕ, true, List, [], ◌∷◌, ◌++◌}
use Rattle.spk_link.specs.Past as link
use Rattle.spk_packets.specs.Grammar.{Spells}
use Rattle.spk_packets.specs.Message.{Message}
use Rattle.spk_connection.specs.Data.{Connection}
use Rattle.spk_connection.specs.Step.{IsTaken, after_asked, after_opened, after_over, after_read, after_sent, fresh_connection, is_open, ping}

-- each of a call, with its moment where it has one
pub data Event : Type 0 where
  Opened : (now : ℕ) → Event
  -- these bytes were read
  Read : (piece : List ℕ) (now : ℕ) → Event
  -- this packet was taken off the front of what was read
  Took : (packet : Message) → Event
  Sent : (packet : List ℕ) → Event
  -- PINGREQ was sent
  Asked : (now : ℕ) → Event
  -- these bytes, the next ones of what was sent, were written: one at least
  Wrote : (first : ℕ) (others : List ℕ) (now : ℕ) → Event
  Over : (now : ℕ) → Event

-- a call that was done, and what it left
abbrev pub IsStep : Connection → Event → Connection → Type 0
IsStep c (Opened now) d = d ≡ after_opened c now
IsStep c (Read piece now) d = (is_open c ≡ true) × (d ≡ after_read c piece now)
IsStep c (Took p) d = IsTaken c p d
IsStep c (Sent packet) d = (is_open c ≡ true) × (d ≡ after_sent c packet)
IsStep c (Asked now) d = (is_open c ≡ true) × (d ≡ after_asked c now)
IsStep c (Wrote first others now) d =
    (c.unwritten ≡ first ∷ others ++ d.unwritten) × (d ≡ record c { link = link.after_event (link.Sent now) c.link; unwritten = d.unwritten })
IsStep c (Over now) d = d ≡ after_over c now

-- a connection of which this happened, from its first beginning on
abbrev pub IsRun : ℕ → ℕ → List Event → Connection → Type 0
IsRun keep spread [] d = d ≡ fresh_connection keep spread
IsRun keep spread (e ∷ es) d = (c : Connection) × IsRun keep spread es c × IsStep c e d

-- ---- of the present connection: since the last end

-- the bytes that were read
abbrev pub read_in : List Event → List ℕ
read_in [] = []
read_in (Read piece now ∷ es) = read_in es ++ piece
read_in (Over now ∷ es) = []
read_in (_ ∷ es) = read_in es

-- the packets that were taken, in order
abbrev pub taken_in : List Event → List Message
taken_in [] = []
taken_in (Took p ∷ es) = taken_in es ++ p ∷ []
taken_in (Over now ∷ es) = []
taken_in (_ ∷ es) = taken_in es

-- the bytes that were sent, PINGREQs too
abbrev pub sent_in : List Event → List ℕ
sent_in [] = []
sent_in (Sent packet ∷ es) = sent_in es ++ packet
sent_in (Asked now ∷ es) = sent_in es ++ ping
sent_in (Over now ∷ es) = []
sent_in (_ ∷ es) = sent_in es

-- the bytes that were written
abbrev pub written_in : List Event → List ℕ
written_in [] = []
written_in (Wrote first others now ∷ es) = written_in es ++ first ∷ others
written_in (Over now ∷ es) = []
written_in (_ ∷ es) = written_in es

-- These bytes spell these packets, one after the other (MQTT 3.1.1, chapter 2).
abbrev pub AreSpelled : List Message → List ℕ → Type 0
AreSpelled [] bytes = bytes ≡ []
AreSpelled (p ∷ ps) bytes = (front rest : List ℕ) × Spells front p × (bytes ≡ front ++ rest) × AreSpelled ps rest

-- ---- of all connections

-- what happened to the link
abbrev pub of_link : List Event → List link.Event
of_link [] = []
of_link (Opened now ∷ es) = link.Opened now ∷ of_link es
of_link (Read piece now ∷ es) = link.Heard now ∷ of_link es
of_link (Took p ∷ es) = of_link es
of_link (Sent packet ∷ es) = of_link es
of_link (Asked now ∷ es) = link.Asked now ∷ of_link es
of_link (Wrote first others now ∷ es) = link.Sent now ∷ of_link es
of_link (Over now ∷ es) = link.Over now ∷ of_link es
