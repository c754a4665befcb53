-- What a log of a plant's broker shows the host of one edge node. `on` are the topics of the node's numbered messages. A log stands
-- newest first, and so do positions.
use Rattle.std.specs.Prelude.{◌≡◌, ℕ, ◌+◌, ◌-◌, ◌<◌, ◌≤◌, ◌==◌, max, Bool, true, false, ◌&&◌, List, [], ◌∷◌, if◌then◌else◌}
use Rattle.spk_packets.specs.Message.{Publish}
use Rattle.spk_packets.specs.Message.{Message as Packet}
use Rattle.spk_ingress.specs.declared.rule.Message.{Message}
use Rattle.spk_broker_rules.specs.Listening.{IsPlain, is_disconnect, is_unsubscribe, plain_publish}
use Rattle.spk_broker_rules.specs.Step.{after, is_full}
use Rattle.spk_broker_rules.specs.Topics.{FiltersIn, FitsAlike}
use Rattle.spk_plant_broker.specs.Data.{Input, Says, Breaks, Cuts, Ends, Entry, Took, Accepted, Told}
use Rattle.spk_plant_broker.specs.Log.{room_of}
use Rattle.spk_plant_relay.specs.Relayed.{AreRising, missing, past_newest}

-- a PUBLISH on one of these topics
abbrev pub is_publish_on : (List ℕ → Bool) → Packet → Bool
is_publish_on on (Publish dup qos retain topic id payload) = on topic
is_publish_on on _ = false

abbrev pub is_on : (List ℕ → Bool) → Input → Bool
is_on on (Says p) = is_publish_on on p
is_on on _ = false

-- a frame that is a numbered message of the node of this place
abbrev pub is_numbered : (List ℕ → Bool) → ℕ → Message → Input → Bool
is_numbered on k m i = (m.sender == k) && is_on on i

-- how many numbered messages of the node were taken
abbrev pub count_numbered : (List ℕ → Bool) → ℕ → List Entry → ℕ
count_numbered on k [] = 0
count_numbered on k (Took m i ∷ l) = if is_numbered on k m i then count_numbered on k l + 1 else count_numbered on k l
count_numbered on k (_ ∷ l) = count_numbered on k l

-- What is offered next is what a numbered message of the node sends: it was taken last, and nothing was told since.
abbrev pub is_relaying : (List ℕ → Bool) → ℕ → List Entry → Bool
is_relaying on k [] = false
is_relaying on k (Took m i ∷ l) = is_numbered on k m i
is_relaying on k (Told o ∷ l) = false
is_relaying on k (_ ∷ l) = is_relaying on k l

-- The positions that the host's ring got: at each the number of numbered messages that were taken, less one.
abbrev pub shown : (List ℕ → Bool) → (k host : ℕ) → List Entry → List ℕ
shown on k host [] = []
shown on k host (Accepted j o ∷ l) =
    if (j == host) && is_relaying on k l then (count_numbered on k l - 1) ∷ shown on k host l else shown on k host l
shown on k host (_ ∷ l) = shown on k host l

-- ---- what clients say

-- a PUBLISH at QoS 0, not retained, on one of these topics
abbrev pub IsPlainOn : (List ℕ → Bool) → Packet → Type 0
IsPlainOn on p = (topic payload : List ℕ) × (p ≡ plain_publish topic payload) × IsPlain topic payload × (on topic ≡ true)

-- every filter of a SUBSCRIBE fits all of these topics or none
abbrev pub AsksAlike : (List ℕ → Bool) → Packet → Type 0
AsksAlike on p = (one other : List ℕ) → on one ≡ true → on other ≡ true → FiltersIn (FitsAlike one other) p

-- The node's numbered messages are plain; whoever subscribes asks for all of them or none; and the host neither ends its connection
-- nor takes a subscription back.
abbrev pub MaySay : (List ℕ → Bool) → (k host sender : ℕ) → Input → Type 0
MaySay on k host sender (Says p) =
    (sender ≡ k → is_publish_on on p ≡ true → IsPlainOn on p) × AsksAlike on p
    × (sender ≡ host → is_disconnect p ≡ false) × (sender ≡ host → is_unsubscribe p ≡ false)
MaySay on k host sender (Breaks f) = Unit {0}
MaySay on k host sender Cuts = sender ≡ host → ⊥
MaySay on k host sender Ends = Unit {0}

abbrev pub AllMaySay : (List ℕ → Bool) → (k host : ℕ) → List Entry → Type 0
AllMaySay on k host [] = Unit {0}
AllMaySay on k host (Took m i ∷ l) = MaySay on k host m.sender i × AllMaySay on k host l
AllMaySay on k host (_ ∷ l) = AllMaySay on k host l

-- wherever a frame is taken, the broker may have a further connection
abbrev pub HasPlaces : (limit edges : ℕ) → List Entry → Type 0
HasPlaces limit edges [] = Unit {0}
HasPlaces limit edges (Took m i ∷ l) = (is_full (after limit (room_of limit edges l).events) ≡ false) × HasPlaces limit edges l
HasPlaces limit edges (_ ∷ l) = HasPlaces limit edges l

-- ---- what is shown of the node

-- In order, each once, fewer missing between than close a connection, and all of them were taken.
pub record IsFew (limit taken : ℕ) (ps : List ℕ) : Type 0 where
  pub rising : AreRising ps
  pub few : missing ps < max 1 limit
  pub within : past_newest ps ≤ taken
