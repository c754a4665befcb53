-- Kept changes that are sent, and how many of them.
use Rattle.std.specs.Prelude.{◌≡◌, ◌⊎◌, ℕ, ◌+◌, ◌-◌, ◌^◌, ◌<◌, ◌≤◌, min, Bool, true, false, List, [], ◌∷◌, ◌++◌, All, Some, map, take, length, nat_lt, slice_get, if◌then◌else◌}
use Rattle.std.specs.List.{flat_map}
use Rattle.spk_payload.specs.Meaning.{MetricData, PayloadData}
use Rattle.spk_payload.specs.Spelling as payload
use Rattle.spk_payload.specs.Spelling.{MetricFits}
use Rattle.spk_packets.specs.Spelling.{is_bad_text, spelling}
use Rattle.spk_device.specs.declared.owner.Owner.{Owner}
use Rattle.spk_store.specs.Calls.{DropFront}
use Rattle.spk_store.specs.Step.{after_drop}
use Rattle.spk_edge_rules.specs.Births.{data_draft, kept_metric, later_stamp}
use Rattle.spk_edge_rules.specs.Config.{Config}
use Rattle.spk_edge_rules.specs.History as rules
use Rattle.spk_edge_rules.specs.Rules.{Asked, Given, draining, nothing}
use Rattle.spk_edge_rules.specs.Writable.{is_writable}
use Rattle.spk_edge.specs.Rows.{payload_with, spelled}
use Rattle.spk_edge.specs.Sealing.{IsWhole, bytes_of, wire_of, with_number}
use Rattle.spk_edge.specs.View.{GivenData, MessageData, NodeData, given_of, unnumbered}
use Rattle.spk_edge.specs.declared.history.Front.{Front}

-- the kept changes as historical metrics
abbrev pub all_kept : Asked → List MetricData
all_kept a = map (kept_metric a.book) a.store.items

-- the payload and the message of the first ones, which are an owner's, under the number that comes next
abbrev pub payload_of : NodeData → ℕ → ℕ → PayloadData
payload_of n now count =
    let a = n.standing.asked in
    payload_with (later_stamp a.stamp now) n.standing.seq (take count (all_kept a))

abbrev pub message : NodeData → ℕ → Owner → ℕ → MessageData
message n now owner count =
    let a = n.standing.asked in
    with_number n.standing.seq (unnumbered n.config (data_draft a.book owner (later_stamp a.stamp now) (take count (all_kept a))))

-- ---- how many

-- how many bytes the payload of a PUBLISH may have on a topic (own rule): none where the topic can't be written
abbrev pub room : List ℕ → ℕ
room topic = if is_bad_text topic then 0 else 1048570 - length topic

-- As many of the metrics as stay within a limit behind so many bytes: at most so many, and one more would pass it.
pub record IsFill (base limit most : ℕ) (ms : List MetricData) (n : ℕ) : Type 0 where
  pub few : n ≤ most
  pub within : (n ≡ 0) ⊎ (base + length (flat_map spelled (take n ms)) ≤ limit)
  pub full : (n ≡ most) ⊎ (limit < base + length (flat_map spelled (take (n + 1) ms)))

-- As many of the kept changes as can go in one payload of so many bytes: at most so many, and with one more it would be longer.
pub record IsFront (n : NodeData) (now room most count : ℕ) : Type 0 where
  pub few : count ≤ most
  pub within : (count ≡ 0) ⊎ (length (payload.spelling (payload_of n now count)) ≤ room)
  pub full : (count ≡ most) ⊎ (room < length (payload.spelling (payload_of n now (count + 1))))

-- the longest front, of at most so many, that the rules let go
abbrev pub going : NodeData → ℕ → Owner → ℕ → ℕ
going n now owner most =
    let a = n.standing.asked in
    rules.longest (rules.can_go n.config n.standing.seq a.book owner (later_stamp a.stamp now) a.store.items) most

-- ---- what is written of them

-- the metric was put behind what was there, and all of it stays within the limit
pub record IsPut (limit : ℕ) (before after : List ℕ) (m : MetricData) : Type 0 where
  pub items : after ≡ before ++ spelled m
  pub within : length after ≤ limit
  pub fits : MetricFits m

-- it would pass the limit, and nothing was put
pub record IsPast (limit : ℕ) (before after : List ℕ) (m : MetricData) : Type 0 where
  pub items : after ≡ before
  pub past : limit < length before + length (spelled m)

abbrev pub IsTried : ℕ → List ℕ → List ℕ → MetricData → Bool → Type 0
IsTried limit before after m true = IsPut limit before after m
IsTried limit before after m false = IsPast limit before after m

-- so it is of the metric at a place, if there is one
abbrev pub IsTriedAt : ℕ → List ℕ → List ℕ → List MetricData → ℕ → Bool → Type 0
IsTriedAt limit before after ms place put = (m : MetricData) → slice_get ms place ≡ Some m → IsTried limit before after m put

-- the first n of the metrics were put behind what was there, as many as stay within the limit
pub record IsFilled (limit most : ℕ) (before after : List ℕ) (ms : List MetricData) (n : ℕ) : Type 0 where
  pub items : after ≡ before ++ flat_map spelled (take n ms)
  pub fits : All MetricFits (take n ms)
  pub fill : IsFill (length before) limit most ms n

-- The metric stands behind others that had so many bytes, where all of them stay within the limit; that many they have then.
pub record IsPushed (size limit : ℕ) (before after : List MetricData) (m : MetricData) (total : ℕ) : Type 0 where
  pub is : total ≡ min (size + length (spelled m)) (2 ^ 64 - 1)
  pub pushed : total ≤ limit → after ≡ before ++ m ∷ []
  pub past : limit < total → after ≡ before

abbrev pub IsPushedAt : ℕ → ℕ → List MetricData → List MetricData → List MetricData → ℕ → ℕ → Type 0
IsPushedAt size limit before after ms place total = (m : MetricData) → slice_get ms place ≡ Some m → IsPushed size limit before after m total

-- these are the first ones, as many as stay within the limit behind so many bytes
pub record IsTaken (base limit most : ℕ) (ms taken : List MetricData) : Type 0 where
  pub items : taken ≡ take (length taken) ms
  pub fill : IsFill base limit most ms (length taken)

-- The packet of the longest front, of at most so many, that the rules let go, and how many are in it.
pub record IsGoing (n : NodeData) (now : ℕ) (owner : Owner) (most : ℕ) (f : Front) : Type 0 where
  pub count : f.count ≡ going n now owner most
  pub some : 0 < f.count
  pub bytes : bytes_of f.bytes ≡ spelling (wire_of (message n now owner f.count))
  pub writable : is_writable (wire_of (message n now owner f.count)) ≡ true
  pub whole : IsWhole (message n now owner f.count)

-- ---- what is given

-- the first ones, which are an owner's, are sent
abbrev pub sent : Asked → ℕ → Owner → ℕ → Given
sent a now owner count = record (nothing a) {
  drafts = rules.history a.book owner (later_stamp a.stamp now) a.store.items count ∷ [];
  store = Some (DropFront count false);
}

-- they are dropped, as lost
abbrev pub dropped : Asked → ℕ → Given
dropped a count = record (nothing a) { store = Some (DropFront count true) }

-- a message of so many of them, as the code has it
abbrev pub given_with : Config → Asked → MessageData → ℕ → GivenData
given_with c a m count = record (given_of c a.heard (nothing a)) { messages = m ∷ []; kept = Some (DropFront count false) }

-- so many go; where none do, the first one is dropped, as lost
abbrev pub sending : Asked → ℕ → Owner → ℕ → Given
sending a now owner count = if nat_lt 0 count then sent a now owner count else dropped a 1

-- the rules give this
abbrev pub Asks : NodeData → ℕ → Given → Type 0
Asks n now g =
    let a = n.standing.asked in
    draining n.config n.standing.seq a now a.store.items ≡ g

-- a node with so many kept changes fewer
abbrev pub with_fewer : NodeData → ℕ → Bool → NodeData
with_fewer n count is_lost =
    let a = n.standing.asked in
    record n { standing = record n.standing { asked = record a { store = after_drop a.store (min count (length a.store.items)) is_lost } } }
