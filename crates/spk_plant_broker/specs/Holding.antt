-- What the broker's thread holds beside a log.
use Rattle.std.specs.Prelude.{◌≡◌, ℕ, ◌+◌, ◌-◌, ◌<◌, ◌≤◌, ◌==◌, Bool, true, false, ◌||◌, List, [], ◌∷◌, ◌++◌, map, length, Option, Some, None, if◌then◌else◌, slice_index_or}
use Rattle.std.specs.List.{slice_get}
use Rattle.std.specs.Option.{IfSome}
use Rattle.spk_ingress.specs.declared.rule.Message.{Message}
use Rattle.spk_session.specs.declared.answer.Sort.{Sort}
use Rattle.spk_rings.specs.Ring.{SameOutlet, FinishedFrom, free, offered, all_offered}
use Rattle.spk_rings.specs.declared.item.Item.{Item}
use Rattle.spk_rings.specs.declared.outlet.Outlet.{Outlet}
use Rattle.spk_rings.specs.declared.token.Token.{Token}
use Rattle.spk_broker.specs.Sent.{Sent, sent_view}
use Rattle.spk_broker.specs.declared.out.Out.{Out}
use Rattle.spk_broker_rules.specs.Step.{after, is_full}
use Rattle.spk_plant_broker.specs.declared.desk.Client.{Client}
use Rattle.spk_plant_broker.specs.declared.desk.Desk.{Desk}
use Rattle.spk_plant_broker.specs.declared.line.Line.{Line}
use Rattle.spk_plant_broker.specs.declared.hub.Hub.{Hub}
use Rattle.spk_plant_broker.specs.declared.hub.Untold.{Untold}
use Rattle.spk_plant_broker.specs.Data.{Offer, Entry, Room}
use Rattle.spk_plant_broker.specs.Step.{cuts_in, has_ended, have_ended, holds_client, is_dropped, next_conn, offer_of, opened}
use Rattle.spk_plant_broker.specs.Log.{AtRefusals, HasFilled, IsLog, accepted_of, got_of, refusals_of, room_of, taken_of}

-- ---- connections

-- a client's last connection, and whether the broker closed it
pub record FitsClient (last : Option ℕ) (closed : Bool) (c : Client) : Type 0 where
  pub conn : c.conn ≡ last
  pub shut : c.closed ≡ closed

abbrev pub FitClients : (ℕ → Option ℕ) → (ℕ → Bool) → List Client → Type 0
FitClients last closed cs = (k : ℕ) (d : Client) → k < length cs → FitsClient (last k) (closed k) (slice_index_or cs k d)

-- Who is closed is said apart: of those that a call closes the rings still stand while its sends are offered.
pub record FitsDesk (limit : ℕ) (closed : ℕ → Bool) (d : Desk) (r : Room) : Type 0 where
  pub broker : d.broker ≡ after limit r.events
  pub openers : d.openers.items ≡ r.openers
  pub clients : FitClients r.last closed d.clients.items

-- a client has opened this connection
pub record IsOpened (limit now : ℕ) (r : Room) (k conn : ℕ) (d : Desk) : Type 0 where
  pub may : is_full (after limit r.events) ≡ false
  pub number : conn ≡ next_conn limit r
  pub desk : FitsDesk limit r.closed d (opened limit now r k)

-- each of these clients is one of the first so many
abbrev pub AreBelow : ℕ → List ℕ → Type 0
AreBelow n clients = (i : ℕ) (k : ℕ) → slice_get clients i ≡ Some k → k < n

-- nobody but this client may have opened a connection
abbrev pub MayOpen : ℕ → Desk → Desk → Type 0
MayOpen k old new = (n : ℕ) → k < n → AreBelow n old.openers.items → AreBelow n new.openers.items

-- what is to be offered, and who is to be closed then
pub record Awaits (closed : ℕ → Bool) (r : Room) (sends : List Sent) (closes : List ℕ) : Type 0 where
  pub pending : r.pending ≡ map (offer_of r.openers (is_dropped r.over closed)) sends
  pub shut : (k : ℕ) → r.closed k ≡ (closed k || holds_client r.openers k closes)

-- what a call has answered: `r` is what stood before it, `next` what stands behind it
pub record Gives (limit : ℕ) (r next : Room) (d : Desk) (out : Out) : Type 0 where
  pub desk : FitsDesk limit r.closed d next
  pub awaits : Awaits r.closed next (map sent_view out.sends.items) out.closes.items
  pub over : next.over ≡ r.over
  pub untold : next.untold ≡ r.untold

-- ---- rings

-- the ring's end, with room for what it didn't get yet for certain, or the token of its dropping, if there is one
abbrev pub IsRing : Outlet → Option Outlet → Option Token → Bool → List Item → Type 0
IsRing first (Some o) token dropped got = (dropped ≡ false) × SameOutlet first o × (offered o ≡ got) × (free first ≤ free o + length got)
IsRing first None token dropped got = (dropped ≡ true) × IfSome token (λ t. FinishedFrom first t × (all_offered t ≡ got))

pub record FitsLine (first : Outlet) (dropped : Bool) (got : List Item) (cuts : ℕ) (ended : Bool) (l : Line) : Type 0 where
  pub ring : IsRing first l.outlet l.token dropped got
  pub count : l.cuts ≡ cuts
  pub over : l.ended ≡ ended

-- the line of one client: its ring is the one that it was given
abbrev pub FitLine : List Outlet → (ℕ → Bool) → (ℕ → List Item) → List Message → ℕ → Line → Type 0
FitLine firsts dropped got taken k l = (first : Outlet) × (slice_get firsts k ≡ Some first)
    × FitsLine first (dropped k) (got k) (cuts_in k taken) (has_ended k taken) l

abbrev pub FitLines : List Outlet → (ℕ → Bool) → (ℕ → List Item) → List Message → List Line → Type 0
FitLines firsts dropped got taken ls = (k : ℕ) (l : Line) → slice_get ls k ≡ Some l → FitLine firsts dropped got taken k l

-- what an offer of these bytes makes of a client's line
abbrev pub OfferGives : Outlet → Bool → List Item → ℕ → Bool → List ℕ → Line → Option Bool → Type 0
OfferGives first dropped got cuts ended bytes l None = (dropped ≡ true) × FitsLine first dropped got cuts ended l
OfferGives first dropped got cuts ended bytes l (Some true) =
    (dropped ≡ false) × FitsLine first dropped (got ++ (record { bytes = bytes; cuts = cuts }) ∷ []) cuts ended l
OfferGives first dropped got cuts ended bytes l (Some false) =
    (dropped ≡ false) × FitsLine first dropped got cuts ended l × (free first ≤ length got)

-- what an offer to this client makes of the lines
abbrev pub LinesGive : List Outlet → (ℕ → Bool) → (ℕ → List Item) → List Message → ℕ → List ℕ → List Line → Option Bool → Type 0
LinesGive firsts dropped got taken client bytes ls None = (dropped client ≡ true) × FitLines firsts dropped got taken ls
LinesGive firsts dropped got taken client bytes ls (Some true) = (dropped client ≡ false)
    × FitLines firsts dropped (λ k. if client == k then got k ++ (record { bytes = bytes; cuts = cuts_in k taken }) ∷ [] else got k) taken ls
LinesGive firsts dropped got taken client bytes ls (Some false) =
    (dropped client ≡ false) × FitLines firsts dropped got taken ls × HasFilled firsts client (got client)

-- ---- all of it

-- what the thread was given
pub record Setting : Type 0 where
  pub limit : ℕ
  pub edges : ℕ
  pub count : ℕ
  pub outlets : List Outlet

abbrev pub untold_of : Offer → Untold
untold_of o = record { conn = o.conn; sort = o.sort }

pub record Holds (s : Setting) (closed : ℕ → Bool) (h : Hub) (log : List Entry) : Type 0 where
  pub log_is : IsLog s.limit s.edges log
  pub desk : FitsDesk s.limit closed h.desk (room_of s.limit s.edges log)
  pub clients : length h.desk.clients.items ≡ s.count
  pub over : h.over ≡ (room_of s.limit s.edges log).over
  pub lines : FitLines s.outlets (is_dropped (room_of s.limit s.edges log).over closed) (λ k. got_of k log) (taken_of log) h.lines.items
  pub sized : length h.lines.items ≡ s.count
  pub untold : h.untold.items ≡ map untold_of (room_of s.limit s.edges log).untold
  pub edges : h.edges ≡ s.edges
  pub few : s.edges < s.count + 1
  pub taken : h.taken.items ≡ taken_of log
  pub refusals : h.refusals.items ≡ refusals_of log
  pub accepted : h.accepted.items ≡ accepted_of s.edges log
  pub full : AtRefusals (HasFilled s.outlets) log

-- the sends of a call are being offered
pub record Offers (s : Setting) (closed : ℕ → Bool) (h : Hub) (log : List Entry) (sends : List Sent) (closes : List ℕ) : Type 0 where
  pub holds : Holds s closed h log
  pub awaits : Awaits closed (room_of s.limit s.edges log) sends closes

-- all is offered
pub record Rests (s : Setting) (h : Hub) (log : List Entry) : Type 0 where
  pub holds : Holds s (room_of s.limit s.edges log).closed h log
  pub pending : (room_of s.limit s.edges log).pending ≡ []

-- all is offered and told
pub record IsIdle (s : Setting) (h : Hub) (log : List Entry) : Type 0 where
  pub rests : Rests s h log
  pub untold : (room_of s.limit s.edges log).untold ≡ []

-- ---- single steps of the thread

-- a client's ring took a packet: it is noted if the client is the host
pub record IsAccepted (client : ℕ) (old new : Hub) : Type 0 where
  pub same : new ≡ record old { accepted = new.accepted }
  pub accepted : new.accepted.items ≡ (if client == old.edges then old.accepted.items ++ length old.taken.items ∷ [] else old.accepted.items)

pub record IsRefused (client conn : ℕ) (sort : Sort) (old new : Hub) : Type 0 where
  pub same : new ≡ record old { refusals = new.refusals; untold = new.untold }
  pub refusals : new.refusals.items ≡ old.refusals.items ++ (record { client = client; sort = sort; taken = length old.taken.items }) ∷ []
  pub untold : new.untold.items ≡ old.untold.items ++ (record { conn = conn; sort = sort }) ∷ []

pub record IsNoted (m : Message) (now : ℕ) (old new : Hub) : Type 0 where
  pub same : new ≡ record old { taken = new.taken }
  pub taken : new.taken.items ≡ old.taken.items ++ m ∷ []
  pub number : now ≡ length new.taken.items

-- a frame is taken, and what it says has come to the broker
pub record IsTaken (m : Message) (old new : Hub) (out : Out) : Type 0 where
  pub offers : (s : Setting) (log : List Entry) → IsIdle s old log → (e : Entry)
      × Offers s (room_of s.limit s.edges log).closed new (e ∷ log) (map sent_view out.sends.items) out.closes.items
  pub taken : new.taken.items ≡ old.taken.items ++ m ∷ []

-- whoever opened a connection has a ring
pub record HasRings (h : Hub) : Type 0 where
  pub openers : AreBelow (length h.lines.items) h.desk.openers.items

-- a client sent no more Cut frames than there were frames
abbrev pub CountsCuts : ℕ → Hub → Type 0
CountsCuts k h = (l : Line) → slice_get h.lines.items k ≡ Some l → l.cuts ≤ length h.taken.items

-- ---- the whole run

abbrev pub setting_of : ℕ → List Outlet → Setting
setting_of limit outlets = record { limit = limit; edges = length outlets - 1; count = length outlets; outlets = outlets }

-- all is offered and told, and each sender has ended
pub record HasAllEnded (s : Setting) (h : Hub) : Type 0 where
  pub log : List Entry
  pub idle : IsIdle s h log
  pub ended : have_ended s.count (taken_of log) ≡ true
