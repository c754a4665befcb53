-- Which connections an event opens or speaks of, and which CONNECT is accepted.
use Rattle.std.specs.Prelude.{◌≡◌, ℕ, ◌==◌, Bool, true, false, not, ◌&&◌, List, Option, is_some}
use Rattle.spk_packets.specs.Fault.{first_of}
use Rattle.spk_packets.specs.Message.{WillData, Connect}
use Rattle.spk_packets.specs.Spelling.{unwritable, is_empty}
use Rattle.spk_broker_rules.specs.Data.{Broker}
use Rattle.spk_broker_rules.specs.Step.{welcome_in}
use Rattle.spk_broker_rules.specs.Plan.{has_bad_topic, Event, Open, Packet, Fault, Closed, Tick, Refused}

-- it opens a connection
abbrev pub is_opening : Event → Bool
is_opening (Open moment) = true
is_opening _ = false

-- it is an event of this connection
abbrev pub speaks_of : ℕ → Event → Bool
speaks_of conn (Open moment) = false
speaks_of conn (Packet d p moment) = d == conn
speaks_of conn (Fault d f moment) = d == conn
speaks_of conn (Closed d moment) = d == conn
speaks_of conn (Tick moment) = false
speaks_of conn (Refused d s moment) = d == conn

-- a CONNECT that isn't turned away
pub record IsWelcomed (b : Broker) (client : List ℕ) (clean : Bool) (alive : ℕ) (will : Option WillData) : Type 0 where
  pub writable : is_some (first_of (unwritable (Connect client clean alive will))) ≡ false
  pub named : (is_empty client && not clean) ≡ false
  pub topic : has_bad_topic will ≡ false
  pub welcome : (not clean && not (welcome_in client b.sessions)) ≡ false
