-- The plain data of a log of a plant's broker: what its thread did, and what stands after it. No standard speaks of it (own rule).
use Rattle.std.specs.Prelude.{ℕ, Bool, List, Option}
use Rattle.spk_packets.specs.Message.{Message as Packet}
use Rattle.spk_packets.specs.declared.fault.PacketFault.{PacketFault}
use Rattle.spk_ingress.specs.declared.rule.Message.{Message}
use Rattle.spk_session.specs.declared.answer.Sort.{Sort}
use Rattle.spk_broker_rules.specs.Plan.{Event}

-- what a frame says
pub data Input : Type 0 where
  Says : (packet : Packet) → Input
  -- bytes that are no packet
  Breaks : (fault : PacketFault) → Input
  -- the end of the client's connection
  Cuts : Input
  -- the client's own end
  Ends : Input

-- a send of the broker
pub record Offer : Type 0 where
  -- the client whose ring it is offered to; none where it is passed over
  pub to : Option ℕ
  pub conn : ℕ
  pub sort : Sort
  pub bytes : List ℕ

-- what the broker's thread does
pub data Entry : Type 0 where
  -- a frame is taken, and what it says comes to the broker
  Took : (message : Message) (input : Input) → Entry
  -- an offer is taken by a client's ring
  Accepted : (client : ℕ) (offer : Offer) → Entry
  -- a client's ring is full
  Refused : (client : ℕ) (offer : Offer) → Entry
  -- a send is passed over: its client's ring was dropped
  Passed : (offer : Offer) → Entry
  -- the broker is told of a refused offer, if its connection stands
  Told : (offer : Offer) → Entry

-- what stands after a log
pub record Room : Type 0 where
  -- what came to the broker, newest first
  pub events : List Event
  -- the clients that opened connection 1, 2, ..
  pub openers : List ℕ
  -- the connection that a client opened last
  pub last : ℕ → Option ℕ
  -- whether the broker closed a client
  pub closed : ℕ → Bool
  -- all edge nodes have ended, and all rings are dropped
  pub over : Bool
  -- the sends of the last call that are to be offered, in order
  pub pending : List Offer
  -- the refused offers of which the broker is to be told, in order
  pub untold : List Offer
