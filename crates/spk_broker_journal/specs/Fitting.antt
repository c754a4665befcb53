-- Which lines and events fit what was put together before them (own rules): those that a broker takes.
use Rattle.std.specs.Prelude.{◌≡◌, ℕ, Bool, true, false, not, ◌&&◌, nat_lt, nat_le, List, [], ◌∷◌, Option, Some, None, is_some}
use Rattle.std.specs.Option.{option_map_or}
use Rattle.spk_packets.specs.Message.{Message}
use Rattle.spk_broker_rules.specs.Data.{Session, Broker}
use Rattle.spk_broker_rules.specs.Plan as plan
use Rattle.spk_broker_rules.specs.Step.{is_full, knows, step}
use Rattle.spk_broker_rules.specs.Table.{Table}
use Rattle.spk_broker_events.specs.Line.{Kept, SaysLine}
use Rattle.spk_broker_events.specs.Record.{Says}
use Rattle.spk_broker_events.specs.declared.line.Kind.{Kind}
use Rattle.spk_broker_events.specs.declared.line.Kind.TheVariants as kind
use Rattle.spk_broker_snapshot.specs.Together.{Sent, Stand, after, apart, client_in, ended, entries_in, of_packet, sent_in}
use Rattle.spk_broker.specs.Restoring.{is_in_flight, is_free, is_grant, is_newcomer_fit, is_app_message, is_retained_fit, is_session_fit}
use Rattle.spk_broker.specs.declared.fault.BrokerFault.{BrokerFault}
use Rattle.spk_broker.specs.declared.fault.BrokerFault.TheVariants as broker
use Rattle.spk_broker.specs.declared.part_fault.PartFault.{PartFault}
use Rattle.spk_broker.specs.declared.part_fault.PartFault.TheVariants.{NoMemory, Unfit}

-- ---- lines

-- the session under way may be one more
abbrev pub is_ended_fit : Stand → Bool
is_ended_fit st = option_map_or (is_session_fit st.broker) st.session true

-- so may be a connection without CONNECT behind it
abbrev pub is_waiting_fit : Stand → ℕ → Bool
is_waiting_fit st conn = is_ended_fit st && is_newcomer_fit (ended st) conn

-- another session begins
abbrev pub is_session_line_fit : Stand → Option Message → Bool
is_session_line_fit st p = is_ended_fit st && is_some (of_packet client_in p)

-- a retained message
abbrev pub is_retained_message : Broker → Sent → Bool
is_retained_message b x = is_retained_fit b x.app_message.topic x.app_message.payload x.app_message.qos

abbrev pub is_last_fit : Stand → Option Message → Bool
is_last_fit st p = is_ended_fit st && option_map_or (is_retained_message (ended st)) (of_packet sent_in p) false

-- no will, or one that can be written
abbrev pub is_sent_app_message : Sent → Bool
is_sent_app_message x = is_app_message x.app_message

abbrev pub is_will : Option Message → Bool
is_will None = true
is_will (Some p) = option_map_or is_sent_app_message (sent_in p) false

-- an entry, where there is exactly one
abbrev pub only_entry : Table ℕ → Option (List ℕ × ℕ)
only_entry [] = None
only_entry (e ∷ []) = Some e
only_entry (e ∷ f ∷ es) = None

abbrev pub is_entry : List ℕ × ℕ → Bool
is_entry e = is_grant e.0 e.1

abbrev pub is_one_grant : Option Message → Bool
is_one_grant p = option_map_or is_entry (only_entry (option_map_or entries_in p [])) false

-- an identifier has two bytes
abbrev pub is_id : ℕ → Bool
is_id id = nat_lt id 65536

abbrev pub is_numbered_app_message : Sent → Bool
is_numbered_app_message x = option_map_or (λ id. is_in_flight id x.app_message) x.id false

abbrev pub is_kept_message : Option Message → Bool
is_kept_message p = option_map_or is_numbered_app_message (of_packet sent_in p) false

-- a line that speaks of the session under way
abbrev pub is_part_fit : Session → Kept → Kind → Bool
is_part_fit s l kind.Sits = is_will l.packet
is_part_fit s l kind.Grant = is_one_grant l.packet
is_part_fit s l kind.InUse = is_id l.first && is_free l.first s.used
is_part_fit s l kind.Last = is_id l.first
is_part_fit s l kind.Unacknowledged = is_kept_message l.packet
is_part_fit s l _ = false

abbrev pub is_within_fit : Stand → Kept → Bool
is_within_fit st l = option_map_or (λ s. is_part_fit s l l.kind) st.session false

abbrev pub is_kind_fit : Stand → Kept → Kind → Bool
is_kind_fit st l kind.Numbers = nat_le l.second l.first
is_kind_fit st l kind.Waiting = is_waiting_fit st l.first
is_kind_fit st l kind.Session = is_session_line_fit st l.packet
is_kind_fit st l kind.Retained = is_last_fit st l.packet
is_kind_fit st l _ = is_within_fit st l

abbrev pub is_line_fit : Stand → Kept → Bool
is_line_fit st l = is_kind_fit st l l.kind

-- ---- events

-- an event that the broker takes
abbrev pub is_taken : Broker → plan.Event → Bool
is_taken b (plan.Open moment) = not (is_full b)
is_taken b (plan.Packet conn p moment) = knows b conn
is_taken b (plan.Fault conn why moment) = knows b conn
is_taken b (plan.Closed conn moment) = knows b conn
is_taken b (plan.Tick moment) = true
is_taken b (plan.Refused conn which moment) = knows b conn

-- ---- what a content says

pub data Item : Type 0 where
  Row : Kept → Item
  Came : plan.Event → Item

abbrev pub SaysItem : List ℕ → Item → Type 0
SaysItem bytes (Row l) = SaysLine bytes l
SaysItem bytes (Came e) = Says bytes e

abbrev pub is_item_fit : Stand → Item → Bool
is_item_fit st (Row l) = is_line_fit st l
is_item_fit st (Came e) = is_ended_fit st && is_taken (ended st) e

-- an event comes to the broker with the session that was under way
abbrev pub after_item : ℕ → Stand → Item → Stand
after_item limit st (Row l) = after limit st l
after_item limit st (Came e) = apart (step (ended st) e).broker

-- ---- refusals

-- what the broker's refusal of an event comes to
abbrev pub refusal : BrokerFault → PartFault
refusal broker.NoMemory = NoMemory
refusal broker.NoSuchConn = Unfit
refusal broker.Limit = Unfit

-- what is refused with Unfit doesn't fit
abbrev pub IsUnfit : Bool → PartFault → Type 0
IsUnfit fits NoMemory = Unit {0}
IsUnfit fits Unfit = fits ≡ false

-- a content says an item that fits, and this is behind it
pub record IsSaidFit (limit : ℕ) (before : Stand) (content : List ℕ) (behind : Stand) : Type 0 where
  pub item : Item
  pub says : SaysItem content item
  pub fits : is_item_fit before item ≡ true
  pub is : behind ≡ after_item limit before item

-- what is refused with Unfit says no item that fits
abbrev pub IsSaidUnfit : Stand → List ℕ → PartFault → Type 0
IsSaidUnfit st content NoMemory = Unit {0}
IsSaidUnfit st content Unfit = (i : Item) → SaysItem content i → is_item_fit st i ≡ false
