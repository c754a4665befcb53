-- What an edge node does at an input (Sparkplug 3.0.0, chapters 5 and 6; the phases, the stamps and what is kept are own
-- rules), from what may be asked of it before and the sequence number that comes next.
use Rattle.std.specs.Prelude.{ℕ, ◌+◌, ◌^◌, Bool, true, false, not, ◌&&◌, List, [], ◌∷◌, map, Option, Some, None, Result, Ok, Err, is_some, nat_lt, if◌then◌else◌}
use Rattle.std.specs.List.{list_all}
use Rattle.std.specs.Option.{option_map, option_map_or}
use Rattle.spk_payload.specs.Typing.{Typed}
use Rattle.spk_packets.specs.Message.{Message, PubAck}
use Rattle.spk_device.specs.Book.{Book, gauge_at, is_owner, is_up}
use Rattle.spk_device.specs.Step.{set_refusal, turn_refusal, with_value}
use Rattle.spk_device.specs.Values.{flag_eq, value_eq}
use Rattle.spk_device.specs.declared.fault.Refusal.{Refusal}
use Rattle.spk_device.specs.declared.owner.Owner.{Owner}
use Rattle.spk_device.specs.declared.owner.Owner.TheVariants.{Node}
use Rattle.spk_store.specs.Data.{Kept}
use Rattle.spk_store.specs.Calls.{Call, Push, DropFront}
use Rattle.spk_state.specs.Step.{heard_as}
use Rattle.spk_state.specs.Text.{state_at}
use Rattle.spk_state.specs.declared.fault.StateFault.TheVariants.{BadState}
use Rattle.spk_state.specs.declared.primary.Heard.{Heard}
use Rattle.spk_state.specs.declared.primary.Heard.TheVariants.{Online, Offline, Ignored}
use Rattle.spk_state.specs.declared.state.State as read
use Rattle.spk_edge_rules.specs.declared.fault.EdgeFault.{EdgeFault}
use Rattle.spk_edge_rules.specs.declared.fault.EdgeFault.TheVariants as fault
use Rattle.spk_edge_rules.specs.declared.phase.Phase.{Phase}
use Rattle.spk_edge_rules.specs.declared.phase.Phase.TheVariants.{Idle, Connecting, Waiting, Born}
use Rattle.spk_edge_rules.specs.Births.{births_at, birth_stamp, data_draft, data_metric, later_stamp, owner_at, owner_is_up, turn_draft}
use Rattle.spk_edge_rules.specs.Commands.{Order, command_of, writes_in, wants_rebirth}
use Rattle.spk_edge_rules.specs.Config.{Config}
use Rattle.spk_edge_rules.specs.History.{front_going, front_run, history}
use Rattle.spk_edge_rules.specs.Inputs.{Act, Open, Accepted, Change, Changes, Turn, Command, State, Drain, Stop, Cut, TurnedAway, Pass, Input, ChangeData, WriteData}
use Rattle.spk_edge_rules.specs.Messages.{Draft}
use Rattle.spk_edge_rules.specs.Packets.{connect_of, subscribe_of, farewell}

-- What the rules look at: the phase, the registry, the kept changes, the greatest timestamp heard of the primary host, the
-- last stamp, the bdSeq that comes next, and the bdSeq and the moment of the session opened last.
pub record Asked : Type 0 where
  pub phase : Phase
  pub book : Book
  pub store : Kept ChangeData
  pub heard : Option ℕ
  pub stamp : Option ℕ
  pub bd : ℕ
  pub will_bd : ℕ
  pub will_time : ℕ

-- What they give: packets, then numbered messages before they have their numbers, the writes of a command, whether the
-- connection is to be closed, the phase after it, and what is done to the kept changes.
pub record Given : Type 0 where
  pub plain : List Message
  pub drafts : List Draft
  pub writes : List WriteData
  pub close : Bool
  pub phase : Phase
  pub store : Option (Call ChangeData)

-- nothing is sent, written or kept, and the phase stays
abbrev pub nothing : Asked → Given
nothing a = record { plain = []; drafts = []; writes = []; close = false; phase = a.phase; store = None }

-- ---- phases

-- the births of the session were given
abbrev pub is_born : Phase → Bool
is_born Born = true
is_born _ = false

-- the births wait for the primary host
abbrev pub is_waiting : Phase → Bool
is_waiting Waiting = true
is_waiting _ = false

-- a CONNECT was sent, and isn't answered yet
abbrev pub is_connecting : Phase → Bool
is_connecting Connecting = true
is_connecting _ = false

-- there is no connection
abbrev pub is_idle : Phase → Bool
is_idle Idle = true
is_idle _ = false

-- the server accepted the connection, and it stands
abbrev pub is_joined : Phase → Bool
is_joined Waiting = true
is_joined Born = true
is_joined Connecting = false
is_joined Idle = false

-- the phases in which an input is taken
abbrev pub fits : Phase → Act → Bool
fits phase Open = is_idle phase
fits phase Accepted = is_connecting phase
fits phase (Changes changes) = is_born phase
fits phase (Command topic payload) = is_joined phase
fits phase (State payload) = is_joined phase
fits phase Drain = is_born phase
fits phase Stop = is_joined phase
fits phase _ = true

-- ---- births and ends

-- the births, and the phase Born
abbrev pub born : Asked → ℕ → Given → Given
born a now g = record g { drafts = births_at a.book a.will_bd (birth_stamp a.stamp now); phase = Born }

-- NDEATH, DISCONNECT, and the connection is closed
abbrev pub leaving : Config → Asked → Given
leaving c a = record (nothing a) { plain = farewell c a.will_bd a.will_time; close = true; phase = Idle }

-- CONNECT, with the NDEATH of a new session as its will
abbrev pub opening : Config → Asked → ℕ → Given
opening c a now = record (nothing a) { plain = connect_of c a.bd now ∷ []; phase = Connecting }

-- with a primary host the births wait until it is online
abbrev pub joining : Config → Asked → Given
joining c a = record (nothing a) { plain = subscribe_of c ∷ []; phase = Waiting }

-- SUBSCRIBE, and the births behind it where no primary host is named
abbrev pub accepting : Config → Asked → ℕ → Given
accepting c a now = if is_some c.primary then joining c a else born a now (joining c a)

-- the connection that was asked for is closed
abbrev pub turned_away : Asked → Given
turned_away a = if is_connecting a.phase then record (nothing a) { close = true; phase = Idle } else nothing a

-- ---- changes and devices

-- refused where the registry refuses it
abbrev pub refused_or : Option Refusal → Given → Result Given EdgeFault
refused_or (Some refusal) g = Err (fault.Device refusal)
refused_or None g = Ok g

-- a value equal to the present one does nothing
abbrev pub is_same_value : Book → ℕ → Option Typed → Bool
is_same_value b alias value = option_map_or (λ g. value_eq g.value value) (gauge_at b alias) false

-- one NDATA or DDATA when Born, else the change is kept
abbrev pub telling : Asked → ℕ → ℕ → Option Typed → Given
telling a now alias value =
    let stamp = later_stamp a.stamp now in
    if is_born a.phase
    then record (nothing a) { drafts = data_draft a.book (owner_at a.book alias) stamp (data_metric a.book alias stamp None value ∷ []) ∷ [] }
    else record (nothing a) { store = Some (Push (record { owner = owner_at a.book alias; alias = alias; value = value; time = now })) }

-- a change of a device that is down only sets the value
abbrev pub changing : Asked → ℕ → ℕ → Option Typed → Given
changing a now alias value =
    if not (is_same_value a.book alias value) && owner_is_up a.book (owner_at a.book alias) then telling a now alias value else nothing a

-- ---- several changes of one owner, in one message (own rule)

-- the registry behind them, each set after the one before it
abbrev pub with_values : Book → List (ℕ × Option Typed) → Book
with_values b [] = b
with_values b (x ∷ xs) = with_values (with_value b x.0 x.1) xs

-- those that set something: one that is equal to the value present by then is left out
abbrev pub others_in : Book → List (ℕ × Option Typed) → List (ℕ × Option Typed)
others_in b [] = []
others_in b (x ∷ xs) =
    let rest = others_in (with_value b x.0 x.1) xs in
    if is_same_value b x.0 x.1 then rest else x ∷ rest

-- their owner: that of the first one
abbrev pub owner_of : Book → List (ℕ × Option Typed) → Owner
owner_of b [] = Node
owner_of b (x ∷ xs) = owner_at b x.0

-- what one of them is refused with: what the registry refuses, then another owner
abbrev pub change_fault : Book → Owner → ℕ × Option Typed → Option EdgeFault
change_fault b owner x =
    option_map_or (λ r. Some (fault.Device r)) (set_refusal b x.0 x.1)
    (if is_owner owner (owner_at b x.0) then None else Some fault.TwoOwners)

-- the first one that is refused: its place, from n on, and with what
abbrev pub first_fault : Book → Owner → ℕ → List (ℕ × Option Typed) → Option (ℕ × EdgeFault)
first_fault b owner n [] = None
first_fault b owner n (x ∷ xs) = option_map_or (λ f. Some (n, f)) (change_fault b owner x) (first_fault b owner (n + 1) xs)

-- and so of the whole list, by places from 0
abbrev pub refused_first : Book → List (ℕ × Option Typed) → Option (ℕ × EdgeFault)
refused_first b changes = first_fault b (owner_of b changes) 0 changes

-- with what several changes are refused: as the first one of them that is
abbrev pub changes_fault : Book → List (ℕ × Option Typed) → Option EdgeFault
changes_fault b changes = option_map (λ e. e.1) (refused_first b changes)

-- refused where there is a fault
abbrev pub faulted_or : Option EdgeFault → Given → Result Given EdgeFault
faulted_or (Some f) g = Err f
faulted_or None g = Ok g

-- the message of changes of an owner, with a metric for each
abbrev pub changes_draft : Book → Owner → ℕ → List (ℕ × Option Typed) → Draft
changes_draft b owner stamp changes = data_draft b owner stamp (map (λ x. data_metric b x.0 stamp None x.1) changes)

-- one message of those that set something; nothing where none do
abbrev pub saying : Asked → ℕ → Owner → List (ℕ × Option Typed) → Given
saying a now owner [] = nothing a
saying a now owner (x ∷ xs) =
    if owner_is_up a.book owner
    then record (nothing a) { drafts = changes_draft a.book owner (later_stamp a.stamp now) (x ∷ xs) ∷ [] }
    else nothing a

-- what several changes of one owner come to
abbrev pub several : Asked → ℕ → List (ℕ × Option Typed) → Given
several a now changes = saying a now (owner_of a.book changes) (others_in a.book changes)

-- the device is up, or down, already
abbrev pub is_so_already : Book → List ℕ → Bool → Bool
is_so_already b name up = option_map_or (λ was. flag_eq was up) (is_up b name) false

-- a DBIRTH or a DDEATH when Born
abbrev pub turning : Asked → ℕ → List ℕ → Bool → Given
turning a now name up =
    if not (is_so_already a.book name up) && is_born a.phase
    then record (nothing a) { drafts = turn_draft a.book (later_stamp a.stamp now) name up ∷ [] }
    else nothing a

-- ---- commands and STATE

-- the writes, and the births where a rebirth is asked for of a node that is Born
abbrev pub obeying : Asked → ℕ → List Order → Given
obeying a now orders =
    let g = record (nothing a) { writes = writes_in orders } in
    if wants_rebirth orders && is_born a.phase then born a now g else g

-- what a command comes to: its orders, or BadCommand (62) where it can't be done whole
abbrev pub commanded : Asked → ℕ → Option (List Order) → Result Given EdgeFault
commanded a now None = Err fault.BadCommand
commanded a now (Some orders) = Ok (obeying a now orders)

-- a Waiting node gives its births when the primary host is online, a Born one leaves when it is offline
abbrev pub hearing : Config → Asked → ℕ → Heard → Given
hearing c a now Online = if is_waiting a.phase then born a now (nothing a) else nothing a
hearing c a now Offline = if is_born a.phase then leaving c a else nothing a
hearing c a now Ignored = nothing a

-- what a STATE comes to: State (66) where it can't be read
abbrev pub heard_in : Config → Asked → ℕ → Option read.State → Result Given EdgeFault
heard_in c a now None = Err (fault.State BadState)
heard_in c a now (Some s) = Ok (hearing c a now (heard_as a.heard s))

-- the same of a payload; a node without a primary host doesn't read it
abbrev pub stating : Config → Asked → ℕ → List ℕ → Result Given EdgeFault
stating c a now payload = if is_some c.primary then heard_in c a now (state_at payload) else Ok (nothing a)

-- ---- kept changes

-- So many of the changes, which are an owner's, go out as historical data; where none can, the first one is dropped, as lost.
abbrev pub sending : Asked → Owner → ℕ → List ChangeData → ℕ → Given
sending a owner stamp changes n =
    if nat_lt 0 n
    then record (nothing a) { drafts = history a.book owner stamp changes n ∷ []; store = Some (DropFront n false) }
    else record (nothing a) { store = Some (DropFront 1 true) }

-- The longest front of the front run goes that can be written, under the number that comes next; a run whose device is down is
-- dropped, as lost.
abbrev pub draining : Config → ℕ → Asked → ℕ → List ChangeData → Given
draining c number a now [] = nothing a
draining c number a now (x ∷ xs) =
    let stamp = later_stamp a.stamp now in
    if owner_is_up a.book x.owner
    then sending a x.owner stamp (x ∷ xs) (front_going c number a.book x.owner stamp (x ∷ xs))
    else record (nothing a) { store = Some (DropFront (front_run (x ∷ xs)) true) }

-- ---- all of them

-- what each act comes to, where its phase and its moment are right
abbrev pub acts : Config → ℕ → Asked → ℕ → Act → Result Given EdgeFault
acts c number a now Open = Ok (opening c a now)
acts c number a now Accepted = Ok (accepting c a now)
acts c number a now (Change alias value) = refused_or (set_refusal a.book alias value) (changing a now alias value)
acts c number a now (Changes changes) = faulted_or (changes_fault a.book changes) (several a now changes)
acts c number a now (Turn name up) = refused_or (turn_refusal a.book name) (turning a now name up)
acts c number a now (Command topic payload) = commanded a now (command_of c a.book topic payload)
acts c number a now (State payload) = stating c a now payload
acts c number a now Drain = Ok (draining c number a now a.store.items)
acts c number a now Stop = Ok (leaving c a)
acts c number a now Cut = Ok (record (nothing a) { phase = Idle })
acts c number a now TurnedAway = Ok (turned_away a)
acts c number a now Pass = Ok (nothing a)

-- goes on with what was given, and keeps a refusal
abbrev pub on_ok : {A B E : Type 0} → Result A E → (A → Result B E) → Result B E
on_ok (Ok x) f = f x
on_ok (Err e) f = Err e

-- moments and stamps are below 2^63
abbrev pub is_timely : Given → Bool
is_timely g = list_all (λ d. nat_lt d.stamp (2 ^ 63)) g.drafts

-- ClockEnd (61) where a stamp isn't
abbrev pub timely : Given → Result Given EdgeFault
timely g = if is_timely g then Ok g else Err fault.ClockEnd

-- what came at QoS 1 is acknowledged first
abbrev pub acked : Option ℕ → Given → Given
acked None g = g
acked (Some id) g = record g { plain = PubAck id ∷ g.plain }

-- The order of refusals: the phase, the clock, then what the act itself refuses, and last a stamp past the clock's end.
abbrev pub rules : Config → ℕ → Asked → Input → Result Given EdgeFault
rules c number a i =
    if not (fits a.phase i.act) then Err fault.WrongPhase
    else if not (nat_lt i.now (2 ^ 63)) then Err fault.ClockEnd
    else on_ok (acts c number a i.now i.act) (λ g. timely (acked i.ack g))
