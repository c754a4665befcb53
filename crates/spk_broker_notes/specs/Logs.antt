-- What was noted, as its fields hold it.
use Rattle.std.specs.Prelude.{◌≡◌, ℕ, ◌+◌, List, Bool, true, false, ◌++◌, take, Option, if◌then◌else◌}
use Rattle.std.specs.List.{flat_map}
use Rattle.std.specs.Option.{option_map, option_map_or}
use Rattle.spk_session.specs.declared.answer.Sort.{Sort}
use Rattle.spk_session.specs.declared.answer.Sort.TheVariants as sort
use Rattle.spk_broker_replay.specs.Replay.{late, pause}
use Rattle.spk_broker_rules.specs.Data.{Broker}
use Rattle.spk_broker_rules.specs.Plan.{Event}
use Rattle.spk_broker_rules.specs.Step.{silent_at}
use Rattle.spk_broker_events.specs.Record.{record_of}
use Rattle.spk_broker_notes.specs.declared.notes.Log.{Log}
use Rattle.spk_broker_notes.specs.Noted.{Noted, Notes, clock_behind, records}

abbrev pub log_view : Log → Notes
log_view l = record { clock = l.clock; bytes = l.bytes.items }

abbrev pub with_record : Event → Notes → Notes
with_record e n = record n { bytes = n.bytes ++ record_of e }

abbrev pub cut_to : ℕ → Notes → Notes
cut_to len n = record n { bytes = take len n.bytes }

abbrev pub clock_of : Option Notes → ℕ
clock_of o = option_map_or (λ (n : Notes). n.clock) o 0

abbrev pub wound_to : ℕ → Notes → Notes
wound_to moment n = record n { clock = moment }

-- what is noted of a tick at this clock
abbrev pub late_at : ℕ → Broker → Notes → List Event
late_at clock b n = late (flat_map (silent_at clock) b.sessions) clock (n.clock + pause) b.sessions

abbrev pub with_late : ℕ → Broker → Notes → Notes
with_late clock b n = record { clock = clock_behind n.clock (late_at clock b n); bytes = n.bytes ++ records (late_at clock b n) }

-- a refused send that may be a drop
abbrev pub is_drop : Sort → Bool
is_drop sort.QosZero = true
is_drop sort.Other = false

-- what was noted behind so many bytes is taken back, where nothing was to be noted
abbrev pub settled : Bool → ℕ → Noted → Noted
settled nothing len x = if nothing then record x { notes = option_map (cut_to len) x.notes } else x

-- what was there stands in front
pub record Begins (old new : List ℕ) : Type 0 where
  pub more : List ℕ
  pub are : new ≡ old ++ more
