-- What messages say of kept changes: historical metrics (Sparkplug 3.0.0, chapter 6), beside the changes themselves.
use Rattle.std.specs.Prelude.{ℕ, Bool, true, false, List, Option, Some, None, filter, is_none, map, if◌then◌else◌}
use Rattle.std.specs.List.{flat_map}
use Rattle.std.specs.Option.{option_and_then, option_map_or}
use Rattle.spk_payload.specs.Meaning.{MetricData}
use Rattle.spk_payload.specs.Typing.{written_of}
use Rattle.spk_device.specs.Book.{Book, gauge_at}
use Rattle.spk_edge_rules.specs.Births.{device_of}
use Rattle.spk_edge_rules.specs.Inputs.{ChangeData}
use Rattle.spk_edge_rules.specs.Messages.{Draft}
use Rattle.spk_edge_rules.specs.Run.{Message}

-- it says so
abbrev pub is_historical : MetricData → Bool
is_historical m = option_map_or (λ b. b) m.historical false

-- the historical metrics of a message, each with the device of its topic (none is the node itself)
abbrev pub historical_in : Draft → List (Option (List ℕ) × MetricData)
historical_in d = map (λ m. (d.device, m)) (filter is_historical d.metrics)

-- those of all messages, in order
abbrev pub all_historical : List Message → List (Option (List ℕ) × MetricData)
all_historical messages = flat_map (λ m. historical_in m.draft) messages

-- A change, said later: under its owner's topic, by its alias, with the time at which it came and the value as its datatype writes
-- it, or null where it has none.
abbrev pub said_later : Book → ChangeData → Option (List ℕ) × MetricData
said_later b change = (
  device_of b change.owner,
  record {
    name = None;
    alias = Some change.alias;
    timestamp = Some change.time;
    datatype = None;
    historical = Some true;
    transient = None;
    null = if is_none change.value then Some true else None;
    value = option_and_then (written_of (option_map_or (λ g. g.datatype) (gauge_at b change.alias) 0)) change.value;
  },
)
