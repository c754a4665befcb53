-- A broker beside what is noted of its events (own rules). Moments are in milliseconds.
use Rattle.std.specs.Prelude.{ℕ, ◌+◌, max, nat_le, Bool, true, false, not, ◌&&◌, List, [], ◌∷◌, ◌++◌, Option, Some, is_some}
use Rattle.std.specs.List.{flat_map}
use Rattle.std.specs.Option.{option_map, option_map_or}
use Rattle.spk_packets.specs.Fault.{first_of}
use Rattle.spk_packets.specs.Message.{Message}
use Rattle.spk_packets.specs.Spelling.{unwritable}
use Rattle.spk_broker_rules.specs.Data.{Session, Broker}
use Rattle.spk_broker_rules.specs.Plan.{Event, Open, Packet, Fault, Closed, Tick, Refused}
use Rattle.spk_broker_rules.specs.Step.{silent_at, step}
use Rattle.spk_broker_replay.specs.Replay.{notes, pause, timeless}
use Rattle.spk_broker_events.specs.Record.{record_of}

-- the clock of a replay of all that was noted, and the records of what was noted and isn't kept yet
pub record Notes : Type 0 where
  pub clock : ℕ
  pub bytes : List ℕ

pub record Noted : Type 0 where
  pub broker : Broker
  -- none where nothing is noted
  pub notes : Option Notes

-- ---- events

abbrev pub moment_of : Event → ℕ
moment_of (Open moment) = moment
moment_of (Packet conn p moment) = moment
moment_of (Fault conn why moment) = moment
moment_of (Closed conn moment) = moment
moment_of (Tick moment) = moment
moment_of (Refused conn which moment) = moment

-- a clock behind these events: at the greatest moment
abbrev pub clock_behind : ℕ → List Event → ℕ
clock_behind clock [] = clock
clock_behind clock (e ∷ es) = clock_behind (max clock (moment_of e)) es

abbrev pub records : List Event → List ℕ
records es = flat_map record_of es

-- what is noted of an event that comes to a broker with these data
abbrev pub with_notes : Broker → Event → Notes → Notes
with_notes b e n = record { clock = clock_behind n.clock (notes b n.clock e); bytes = n.bytes ++ records (notes b n.clock e) }

-- an event came
abbrev pub after : Event → Noted → Noted
after e x = record { broker = (step x.broker e).broker; notes = option_map (with_notes x.broker e) x.notes }

-- these came, oldest first
abbrev pub after_all : List Event → Noted → Noted
after_all [] x = x
after_all (e ∷ es) x = after_all es (after e x)

-- what was noted is kept: nothing of it is left
abbrev pub emptied : Noted → Noted
emptied x = record x { notes = option_map (λ (n : Notes). record n { bytes = [] }) x.notes }

-- Notes begin anew, behind data that are kept as they stand.
abbrev pub begun : Noted → Noted
begun x = record x { notes = Some (record { clock = 0; bytes = [] }) }

abbrev pub bytes_of : Option Notes → List ℕ
bytes_of o = option_map_or (λ (n : Notes). n.bytes) o []

-- ---- refusals

-- the packet is to be noted, and has no bytes
abbrev pub is_unwritten : Option Notes → Message → Bool
is_unwritten o p = is_some o && is_some (first_of (unwritable (timeless p)))

-- somebody is silent for too long at this clock
abbrev pub is_late : ℕ → List Session → Bool
is_late clock sessions = elim (flat_map (silent_at clock) sessions) [ [] ↦ false | c ∷ cs ↦ true ]

-- the clock of the replay has no such moment any more
abbrev pub is_past : ℕ → Bool
is_past clock = not (nat_le (clock + pause) 18446744073709551615)

-- the time is to be noted, and the clock of the replay can't go on
abbrev pub is_over_at : ℕ → Broker → Option Notes → Bool
is_over_at clock b o = option_map_or (λ (n : Notes). is_late clock b.sessions && is_past n.clock) o false

abbrev pub is_over : Noted → ℕ → Bool
is_over x moment = is_over_at (max x.broker.clock moment) x.broker x.notes
