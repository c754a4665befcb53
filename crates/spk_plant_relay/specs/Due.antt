-- What a plant's broker owes the host of one edge node. `on` are the topics of the node's numbered messages.
use Rattle.std.specs.Prelude.{ℕ, Bool, false, not, ◌&&◌, List, [], ◌∷◌, Option, Some, is_some, if◌then◌else◌}
use Rattle.spk_packets.specs.Message.{Publish}
use Rattle.spk_packets.specs.Message.{Message as Packet}
use Rattle.spk_broker_rules.specs.Data.{Broker}
use Rattle.spk_broker_rules.specs.Listening.{listens}
use Rattle.spk_broker_rules.specs.Step.{after}
use Rattle.spk_plant_broker.specs.Data.{Input, Says, Entry, Took, Room}
use Rattle.spk_plant_broker.specs.Log.{room_of}
use Rattle.spk_plant_broker.specs.Step.{conn_at, is_dropped}
use Rattle.spk_plant_relay.specs.Shown.{count_numbered, is_numbered}

-- whether the connection, where there is one, has a grant that matches the packet's topic
abbrev pub hears_on : Broker → Option ℕ → Packet → Bool
hears_on b (Some conn) (Publish dup qos retain topic id payload) = listens b conn topic
hears_on b _ _ = false

-- the node's connection stands, and so does the host's ring; and the host is subscribed to what the node says
abbrev pub is_heard : (limit k host : ℕ) → Room → Input → Bool
is_heard limit k host r (Says p) =
    is_some (conn_at limit r k) && (not (is_dropped r.over r.closed host) && hears_on (after limit r.events) (conn_at limit r host) p)
is_heard limit k host r _ = false

-- The positions of the node's numbered messages that were taken while its connection and the host's ring stood and the host was
-- subscribed, newest first.
abbrev pub due : (limit edges : ℕ) → (List ℕ → Bool) → (k host : ℕ) → List Entry → List ℕ
due limit edges on k host [] = []
due limit edges on k host (Took m i ∷ l) =
    if is_numbered on k m i && is_heard limit k host (room_of limit edges l) i
    then count_numbered on k l ∷ due limit edges on k host l
    else due limit edges on k host l
due limit edges on k host (_ ∷ l) = due limit edges on k host l
