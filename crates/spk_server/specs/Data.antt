-- The plain data of a server: what it holds between two deeds, and what a deed is (own rules). Moments are in milliseconds.
use Rattle.std.specs.Prelude.{ℕ, List, Option}
use Rattle.spk_packets.specs.Message.{Message}
use Rattle.spk_packets.specs.declared.fault.PacketFault.{PacketFault}
use Rattle.spk_session.specs.declared.answer.Sort.{Sort}
use Rattle.spk_broker.specs.Sent.{Sent}
use Rattle.spk_broker_notes.specs.Noted.{Noted}
use Rattle.spk_clients.specs.declared.cause.Cause.{Cause}
use Rattle.spk_clients.specs.declared.client.Client.{Client}
use Rattle.spk_clients.specs.declared.client.Offered.{Offered}
use Rattle.spk_server.specs.declared.tally.Tally.{Tally}

-- A send of the broker that is to be offered to its client, and whose own PUBLISH brought it, if one did. Wills, ticks, ends, and
-- refusals told are nobody's.
pub record Offer : Type 0 where
  pub by : Option ℕ
  pub send : Sent

-- a packet that was taken off what a client sent
pub record InHand : Type 0 where
  pub conn : ℕ
  pub packet : Message

-- a client that published, and one of those whom that went to, for whom many packets wait
pub record Slow : Type 0 where
  pub publisher : ℕ
  pub client : ℕ

-- a client that is to be ended, and why
pub record Close : Type 0 where
  pub conn : ℕ
  pub cause : Cause

pub record Room : Type 0 where
  -- the broker, and what is noted of what came to it
  pub noted : Noted
  -- by the numbers of their connections
  pub clients : ℕ → Option Client
  -- the greatest moment so far
  pub now : ℕ
  -- the moment of the last tick
  pub ticked : ℕ
  -- who waits for another, in the order in which they are looked at
  pub held : List ℕ
  -- the packet that comes to the broker next
  pub in_hand : Option InHand
  -- what the broker sends that isn't offered yet, in order
  pub pending : List Offer
  -- whom it closes, as soon as all is offered
  pub closing : List Close
  -- of the last packet: for whom its client may be made to wait
  pub slow : Option Slow
  -- what came and went, in numbers
  pub tally : Tally

-- why the server ends a connection by itself
pub data Why : Type 0 where
  -- its client sends no more
  Gone : Why
  -- it sent no packet in time
  Silent : Why
  -- memory was refused for what it sent, or more than may wait would
  Want : Why

pub data Deed : Type 0 where
  -- time went on
  Timed : (moment : ℕ) → Deed
  -- a client came, and its connection was opened
  Joined : (conn : ℕ) → Deed
  -- bytes of it were put behind what it sent
  Fed : (conn : ℕ) (piece : List ℕ) → Deed
  -- bytes of one whose end came were passed over
  Skipped : (conn : ℕ) (piece : List ℕ) → Deed
  -- a packet was taken off what it sent, and this is left of it
  Took : (conn : ℕ) (packet : Message) (rest : List ℕ) → Deed
  -- the packet in hand came to the broker
  Came : Deed
  -- no packet stands at the front of what it sent: that came to the broker
  Broke : (conn : ℕ) (fault : PacketFault) → Deed
  -- its connection was ended, and its end came to the broker
  Left : (conn : ℕ) (why : Why) → Deed
  -- the broker was told of the time
  Ticked : Deed
  -- a send was offered to its client
  Handed : (offer : Offer) (fate : Offered) → Deed
  -- the end of one whom the broker closes, or who sent DISCONNECT or what is no packet, came
  Shut : (close : Close) → Deed
  -- the broker was told of a refused send
  Told : (conn : ℕ) (sort : Sort) → Deed
  -- there was no memory to tell the broker of a refused send: its connection was ended instead
  Cut : (conn : ℕ) (sort : Sort) → Deed
  -- the client that published may be made to wait
  Tried : Deed
  -- it waits still
  Waited : (conn : ℕ) → Deed
  -- it waits no more
  Freed : (conn : ℕ) → Deed
  -- its end came, and it may read no longer
  Dropped : (conn : ℕ) → Deed
  -- so many bytes were written to it
  Wrote : (conn : ℕ) (count : ℕ) → Deed
  -- its socket takes no more
  Blocked : (conn : ℕ) → Deed
  -- it was named as one to whom something is to be written
  Named : (conn : ℕ) → Deed
  -- its socket was shut, and it was forgotten
  Forgot : (conn : ℕ) → Deed
  -- what was noted and wasn't kept, which is these bytes, is kept now
  Kept : (bytes : List ℕ) → Deed
  -- what the broker keeps was kept as a whole, and notes begin behind that
  Begun : Deed
