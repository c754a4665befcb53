-- What a session holds at most (own rules; MQTT 3.1.1, 2.3.1 and 4.4).
use Rattle.std.specs.Prelude.{◌≡◌, ◌≢◌, ℕ, ◌≤◌, true, false, List, [], ◌∷◌, map, length}
use Rattle.std.specs.List.{AllByRecursion, filter}
use Rattle.spk_packets.specs.Spelling.{is_empty}
use Rattle.spk_broker_rules.specs.Data.{Broker, InFlight, AppMessage, Session, Stored}
use Rattle.spk_broker_rules.specs.Plan.{Event, Open, Packet, Fault, Closed, Tick, Refused}
use Rattle.spk_broker_rules.specs.Step.{knows}
use Rattle.spk_broker_rules.specs.Table.{Table, has, replaced}
use Rattle.spk_broker_rules.specs.Words.{stored}

-- at most 1,024 packet identifiers are in use
abbrev pub IsWithin : Session → Type 0
IsWithin s = length s.used ≤ 1024

-- The identifiers in use are those of the messages that a kept session hasn't acknowledged, in their order; one that isn't kept keeps no message.
pub record KeepsItsMessages (s : Session) : Type 0 where
  pub kept : s.kept ≡ true → map (λ (c : InFlight). c.id) s.in_flight ≡ s.used
  pub clean : s.kept ≡ false → s.in_flight ≡ []

-- no topic stands twice
abbrev pub AreApart : Table Stored → Type 0
AreApart [] = Unit {0}
AreApart (e ∷ es) = (has e.0 es ≡ false) × AreApart es

-- at most 10,000 topics have a retained message, each one
pub record IsBounded (retained : Table Stored) : Type 0 where
  pub few : length retained ≤ 10000
  pub apart : AreApart retained

-- as many topics have a retained message as may have one
abbrev pub IsFull : Table Stored → Type 0
IsFull retained = 10000 ≤ length retained

-- the retained messages with this one in the place of its topic's
abbrev pub in_its_place : AppMessage → Table Stored → Table Stored
in_its_place m retained = map (replaced m.topic (stored m)) retained

-- no two sessions have one client id, but for the empty one
abbrev pub Singles : List Session → Type 0
Singles [] = Unit {0}
Singles (s ∷ ss) = (is_empty s.client ≡ false → AllByRecursion (λ (t : Session). s.client ≢ t.client) ss) × Singles ss

-- how many sessions are kept
abbrev pub kept_count : List Session → ℕ
kept_count sessions = length (filter (λ (s : Session). s.kept) sessions)

-- an event of a connection that the broker knows, or of none
abbrev pub IsOfKnown : Broker → Event → Type 0
IsOfKnown b (Open moment) = Unit {0}
IsOfKnown b (Packet conn packet moment) = knows b conn ≡ true
IsOfKnown b (Fault conn fault moment) = knows b conn ≡ true
IsOfKnown b (Closed conn moment) = knows b conn ≡ true
IsOfKnown b (Tick moment) = Unit {0}
IsOfKnown b (Refused conn sort moment) = knows b conn ≡ true
