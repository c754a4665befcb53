-- The run of an edge node, as questions to the list of what was done, newest first: nothing here steps any data. What it
-- published is one list of messages, and their numbers and sessions are those of their positions in it.
use Rattle.std.specs.Prelude.{ℕ, ◌+◌, ◌-◌, ◌^◌, ◌%◌, ◌==◌, min, max, Bool, List, [], ◌∷◌, ◌++◌, length, map, Option, Some, None, Result, Ok, Err, is_some, if◌then◌else◌}
use Rattle.std.specs.List.{count_by, enumerate_from, last_or}
use Rattle.std.specs.Option.{option_map}
use Rattle.std.specs.Str.{bytes_eq}
use Rattle.spk_payload.specs.Typing.{Typed}
use Rattle.spk_packets.specs.Message as packets
use Rattle.spk_device.specs.Book.{Book, DeviceData, GaugeData}
use Rattle.spk_device.specs.declared.owner.Owner.TheVariants.{Node}
use Rattle.spk_sequence.specs.NodeRecord as sequence
use Rattle.spk_store.specs.Data.{Kept}
use Rattle.spk_store.specs.Calls.{Call}
use Rattle.spk_store.specs.Kept as kept
use Rattle.spk_state.specs.Text.{state_at}
use Rattle.spk_edge_rules.specs.declared.fault.EdgeFault.{EdgeFault}
use Rattle.spk_edge_rules.specs.declared.phase.Phase.{Phase}
use Rattle.spk_edge_rules.specs.declared.phase.Phase.TheVariants.{Idle}
use Rattle.spk_edge_rules.specs.Answers.{Answer, checked}
use Rattle.spk_edge_rules.specs.Births.{data_draft, later_stamp}
use Rattle.spk_edge_rules.specs.Config.{Config, Setup}
use Rattle.spk_edge_rules.specs.Inputs.{Act, Change, Changes, Turn, State, Input, ChangeData}
use Rattle.spk_edge_rules.specs.Messages.{Draft, opens, wire}
use Rattle.spk_edge_rules.specs.Rules.{Asked, Given, on_ok, rules}
use Rattle.spk_edge_rules.specs.Step.{Record, is_open, seq_kept}

-- an input that was done, and what it gave; refused inputs aren't in the list
pub record Done : Type 0 where
  pub input : Input
  pub given : Given

-- ---- sessions: one for each Open, counted from 0

-- how many sessions were opened
abbrev pub opened : List Done → ℕ
opened [] = 0
opened (e ∷ h) = if is_open e.input.act then opened h + 1 else opened h

-- the moment of the last Open
abbrev pub opened_at : List Done → ℕ
opened_at [] = 0
opened_at (e ∷ h) = if is_open e.input.act then e.input.now else opened_at h

-- ---- what was published, oldest first

-- a numbered message: the birth that it is published under, counted from 0, and the session of that birth
pub record Message : Type 0 where
  pub birth : ℕ
  pub session : ℕ
  pub draft : Draft

-- how many births there are
abbrev pub births_in : List Message → ℕ
births_in published = count_by (λ m. opens m.draft) published

-- Messages behind so many births: an NBIRTH begins the next birth, and any other message is published under the last one.
abbrev pub posts : ℕ → ℕ → List Draft → List Message
posts session births [] = []
posts session births (d ∷ ds) =
    let births_after = if opens d then births + 1 else births in
    (record { birth = births_after - 1; session = session; draft = d }) ∷ posts session births_after ds

-- what was published, and these behind it
abbrev pub with_posts : List Message → ℕ → List Draft → List Message
with_posts published session drafts = published ++ posts session (births_in published) drafts

-- all that was published
abbrev pub published : List Done → List Message
published [] = []
published (e ∷ h) = with_posts (published h) (opened h - 1) e.given.drafts

-- births, sessions and stamps alone
abbrev pub outline : List Message → sequence.NodeRecord
outline messages = map (λ m. record { birth = m.birth; session = m.session; stamp = m.draft.stamp }) messages

-- how positions are written; waits and windows are a host's, and are nothing here
abbrev pub setting_of : Setup → List Message → sequence.Setting
setting_of s messages = record {
  published = outline messages;
  numbering = s.config.numbering;
  seq = s.seq;
  bd = s.bd;
  wait = 0;
  width = 0;
}

-- the sequence number of a position
abbrev pub number_at : Setup → List Message → ℕ → ℕ
number_at s messages p = sequence.written_number (setting_of s messages) p

-- the bdSeq of a session
abbrev pub session_number : Setup → ℕ → ℕ
session_number s session = (s.bd + session) % 256

-- ---- registry, kept changes, STATE

-- the last value of an alias in a list of changes, or else the one before
abbrev pub last_in : List (ℕ × Option Typed) → ℕ → Option Typed → Option Typed
last_in [] alias before = before
last_in (x ∷ xs) alias before = last_in xs alias (if alias == x.0 then x.1 else before)

-- the value last set at an alias, or else the one that was there
abbrev pub set_by : Act → ℕ → Option Typed → Option Typed
set_by (Change a value) alias before = if alias == a then value else before
set_by (Changes changes) alias before = last_in changes alias before
set_by _ alias before = before

-- the value of an alias by all that was done, where it was `first` at the beginning
abbrev pub last_set : List Done → ℕ → Option Typed → Option Typed
last_set [] alias first = first
last_set (e ∷ h) alias first = set_by e.input.act alias (last_set h alias first)

-- whether a device is up by the last turn of its name, or else as it was
abbrev pub turned_by : Act → List ℕ → Bool → Bool
turned_by (Turn other up) name before = if bytes_eq other name then up else before
turned_by _ name before = before

-- whether a device is up by all that was done, where it was as `first` says at the beginning
abbrev pub last_turn : List Done → List ℕ → Bool → Bool
last_turn [] name first = first
last_turn (e ∷ h) name first = turned_by e.input.act name (last_turn h name first)

-- a device as it is by all that was done
abbrev pub device_by : List Done → DeviceData → DeviceData
device_by h d = record d { up = last_turn h d.name d.up }

-- a metric with its value by all that was done; aliases count from 1
abbrev pub gauge_by : List Done → ℕ × GaugeData → GaugeData
gauge_by h e = record e.1 { value = last_set h (e.0 + 1) e.1.value }

-- the registry that the node was made with, as set so far
abbrev pub book_of : Setup → List Done → Book
book_of s h = record {
  devices = map (device_by h) s.book.devices;
  gauges = map (gauge_by h) (enumerate_from 0 s.book.gauges);
  values = s.book.values;
}

-- what was done to the kept changes, newest first
abbrev pub with_call : Option (Call ChangeData) → List (Call ChangeData) → List (Call ChangeData)
with_call None calls = calls
with_call (Some call) calls = call ∷ calls

-- all that was done to the kept changes, newest first
abbrev pub calls_of : List Done → List (Call ChangeData)
calls_of [] = []
calls_of (e ∷ h) = with_call e.given.store (calls_of h)

-- of all changes that were pushed those from the place on, and how many were overwritten or dropped as lost
abbrev pub kept_of : Setup → List Done → Kept ChangeData
kept_of s h = record {
  items = kept.kept_of s.capacity (calls_of h);
  capacity = s.capacity;
  lost = min (kept.lost_of s.capacity (calls_of h)) (2 ^ 64 - 1);
}

-- the greatest timestamp of the STATEs that came, where there is a primary host
abbrev pub greater : Option ℕ → Option ℕ → Option ℕ
greater None y = y
greater (Some x) None = Some x
greater (Some x) (Some y) = Some (max x y)

-- the timestamp of a STATE that came
abbrev pub timestamp_in : Act → Option ℕ
timestamp_in (State payload) = option_map (λ s. s.timestamp) (state_at payload)
timestamp_in _ = None

-- the greatest timestamp of the STATEs that came
abbrev pub greatest_of : List Done → Option ℕ
greatest_of [] = None
greatest_of (e ∷ h) = greater (timestamp_in e.input.act) (greatest_of h)

-- the same, where a primary host is named
abbrev pub heard_of : Config → List Done → Option ℕ
heard_of c h = if is_some c.primary then greatest_of h else None

-- ---- what may be asked

-- the phase that the last input left
abbrev pub phase_of : List Done → Phase
phase_of [] = Idle
phase_of (e ∷ h) = e.given.phase

-- the stamp of the last message published, or else that of the node before
abbrev pub stamp_of : Setup → List Done → Option ℕ
stamp_of s h = last_or s.stamp (map (λ m. m.draft.stamp) (published h))

-- what the rules look at, asked of the run
abbrev pub asked_of : Setup → List Done → Asked
asked_of s h = record {
  phase = phase_of h;
  book = book_of s h;
  store = kept_of s h;
  heard = heard_of s.config h;
  stamp = stamp_of s h;
  bd = session_number s (opened h);
  will_bd = session_number s (opened h - 1);
  will_time = opened_at h;
}

-- the number after that of the last message, the bdSeq after that of the last session, and the last stamp
abbrev pub record_of : Setup → List Done → Record
record_of s h = record {
  seq = seq_kept s.config.numbering ((s.seq + length (published h)) % 256);
  bd = session_number s (opened h);
  stamp = stamp_of s h;
}

-- ---- the right answer: each message under the number of its position

-- the number of a data message that is published next: that of the position behind what was published
abbrev pub next_number : Setup → List Done → ℕ
next_number s h =
    let d = data_draft s.book Node (later_stamp (stamp_of s h) 0) [] in
    number_at s (with_posts (published h) (opened h - 1) (d ∷ [])) (length (published h))

-- the packets of messages, each under the number of its position, where p is the first one's
abbrev pub wires_at : Setup → List Message → ℕ → List Draft → List packets.Message
wires_at s messages p drafts = map (λ e. wire s.config (number_at s messages e.0) e.1) (enumerate_from p drafts)

-- the packets of what is given: the plain ones, then the messages behind all that was published
abbrev pub packets_of : Setup → List Done → Given → List packets.Message
packets_of s h g =
    g.plain ++ wires_at s (with_posts (published h) (opened h - 1) g.drafts) (length (published h)) g.drafts

-- the answer to an input behind this run, or its refusal
abbrev pub right_at : Setup → List Done → Input → Result Answer EdgeFault
right_at s h i = on_ok (rules s.config (next_number s h) (asked_of s h) i) (λ g. checked g (packets_of s h g))

-- the run with an input that was taken; one that was refused isn't in it
abbrev pub with_done : List Done → Input → Result Answer EdgeFault → List Done
with_done h i (Ok answer) = (record { input = i; given = answer.given }) ∷ h
with_done h i (Err fault) = h

-- the run of a list of inputs, newest first
abbrev pub run_of : Setup → List Input → List Done
run_of s [] = []
run_of s (i ∷ is) = with_done (run_of s is) i (right_at s (run_of s is) i)
