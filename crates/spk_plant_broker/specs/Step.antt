-- What stands after each entry of a log, from what stood before (own rules). The broker's own data are those of its events.
use Rattle.std.specs.Prelude.{ℕ, zero, suc, ◌+◌, ◌-◌, ◌==◌, Bool, true, false, not, ◌&&◌, ◌||◌, List, [], ◌∷◌, ◌++◌, map, length, Option, Some, None, if◌then◌else◌}
use Rattle.std.specs.List.{list_any, slice_get}
use Rattle.std.specs.Option.{option_map_or}
use Rattle.spk_packets.specs.Message.{Message as Packet}
use Rattle.spk_ingress.specs.declared.rule.Message.{Message}
use Rattle.spk_ingress.specs.declared.frame.Frame.{Frame}
use Rattle.spk_ingress.specs.declared.frame.Frame.TheVariants as frame
use Rattle.spk_broker.specs.Sent.{Sent, outgoing}
use Rattle.spk_broker_rules.specs.Data.{Broker}
use Rattle.spk_broker_rules.specs.Plan.{Event}
use Rattle.spk_broker_rules.specs.Plan as event
use Rattle.spk_broker_rules.specs.Step.{Turn, step, after, knows, is_full}
use Rattle.spk_plant_broker.specs.Data.{Input, Says, Breaks, Cuts, Ends, Offer, Entry, Took, Accepted, Refused, Passed, Told, Room}

-- ---- what the frames taken say

abbrev pub is_end : Frame → Bool
is_end frame.End = true
is_end _ = false

abbrev pub is_cut : Frame → Bool
is_cut frame.Cut = true
is_cut _ = false

-- whether a sender's End is among these
abbrev pub has_ended : ℕ → List Message → Bool
has_ended k ms = list_any (λ (m : Message). (m.sender == k) && is_end m.frame) ms

-- whether each of the first so many senders has ended
abbrev pub have_ended : ℕ → List Message → Bool
have_ended zero ms = true
have_ended (suc n) ms = has_ended n ms && have_ended n ms

-- how many Cut frames of a sender are among these
abbrev pub cuts_in : ℕ → List Message → ℕ
cuts_in k [] = 0
cuts_in k (m ∷ ms) = (if (m.sender == k) && is_cut m.frame then 1 else 0) + cuts_in k ms

-- ---- clients, connections and rings

abbrev pub is_client : ℕ → Option ℕ → Bool
is_client k client = option_map_or (λ j. j == k) client false

-- the client that opened a connection: they are numbered 1, 2, .. in the order of opening
abbrev pub client_of : List ℕ → ℕ → Option ℕ
client_of openers conn = if conn == 0 then None else slice_get openers (conn - 1)

-- whether a client's connection is among these
abbrev pub holds_client : List ℕ → ℕ → List ℕ → Bool
holds_client openers k conns = list_any (λ conn. is_client k (client_of openers conn)) conns

-- the connection, if the broker knows it
abbrev pub known : Broker → Option ℕ → Option ℕ
known b None = None
known b (Some conn) = if knows b conn then Some conn else None

-- the connection that a client has: the one that it opened last, if it stands
abbrev pub conn_at : ℕ → Room → ℕ → Option ℕ
conn_at limit r k = known (after limit r.events) (r.last k)

-- a ring is dropped once the broker closed its client, or all edge nodes have ended
abbrev pub is_dropped : Bool → (ℕ → Bool) → ℕ → Bool
is_dropped over closed k = over || closed k

-- the client whose ring an offer goes to, if that isn't dropped
abbrev pub ring_of : (ℕ → Bool) → Option ℕ → Option ℕ
ring_of dropped None = None
ring_of dropped (Some k) = if dropped k then None else Some k

abbrev pub offer_of : List ℕ → (ℕ → Bool) → Sent → Offer
offer_of openers dropped s = record { to = ring_of dropped (client_of openers s.conn); conn = s.conn; sort = s.sort; bytes = s.bytes }

-- ---- a call of the broker

-- Its sends are to be offered to the rings that stood before it: also those of a client that it closes.
abbrev pub answered : Room → Event → Turn → Room
answered r e t = record r {
  events = e ∷ r.events;
  closed = λ k. r.closed k || holds_client r.openers k t.closes;
  pending = map (offer_of r.openers (is_dropped r.over r.closed)) (map outgoing t.sends);
}

abbrev pub called : ℕ → Room → Event → Room
called limit r e = answered r e (step (after limit r.events) e)

-- an event of a connection, if there is one
abbrev pub called_on : ℕ → Room → (ℕ → Event) → Option ℕ → Room
called_on limit r event_on None = r
called_on limit r event_on (Some conn) = called limit r (event_on conn)

-- the number of the next connection
abbrev pub next_conn : ℕ → Room → ℕ
next_conn limit r = (after limit r.events).given + 1

-- the client has opened a connection
abbrev pub opened : ℕ → ℕ → Room → ℕ → Room
opened limit now r k = record r {
  events = event.Open now ∷ r.events;
  openers = r.openers ++ k ∷ [];
  last = λ j. if j == k then Some (next_conn limit r) else r.last j;
}

-- whom the broker closed opens none, and none is opened where the broker may have no further one
abbrev pub may_open : ℕ → Room → ℕ → Bool
may_open limit r k = not (r.closed k) && not (is_full (after limit r.events))

-- a packet of a client without a connection opens one
abbrev pub packet_on : ℕ → ℕ → Room → ℕ → Packet → Option ℕ → Room
packet_on limit now r k p (Some conn) = called limit r (event.Packet conn p now)
packet_on limit now r k p None =
    if may_open limit r k then called limit (opened limit now r k) (event.Packet (next_conn limit r) p now) else r

-- ---- an entry

-- What a frame of a client says; `taken` are the frames taken, this one too, and their number is the broker's moment.
abbrev pub took : ℕ → ℕ → List Message → Room → ℕ → Input → Room
took limit edges taken r k (Says p) = packet_on limit (length taken) r k p (conn_at limit r k)
took limit edges taken r k (Breaks f) = called_on limit r (λ conn. event.Fault conn f (length taken)) (conn_at limit r k)
took limit edges taken r k Cuts = called_on limit r (λ conn. event.Closed conn (length taken)) (conn_at limit r k)
took limit edges taken r k Ends = record r { over = r.over || have_ended edges taken }

abbrev pub behind : List Offer → List Offer
behind [] = []
behind (o ∷ os) = os

-- a refused offer is told, if its connection stands
abbrev pub told : ℕ → ℕ → Room → Offer → Room
told limit now r o = called_on limit r (λ conn. event.Refused conn o.sort now) (known (after limit r.events) (Some o.conn))

abbrev pub moved : ℕ → ℕ → List Message → Entry → Room → Room
moved limit edges taken (Took m i) r = took limit edges taken r m.sender i
moved limit edges taken (Accepted k o) r = record r { pending = behind r.pending }
moved limit edges taken (Refused k o) r = record r { pending = behind r.pending; untold = r.untold ++ o ∷ [] }
moved limit edges taken (Passed o) r = record r { pending = behind r.pending }
moved limit edges taken (Told o) r = told limit (length taken) (record r { untold = behind r.untold }) o

-- nothing came so far
abbrev pub fresh_room : Room
fresh_room = record { events = []; openers = []; last = λ k. None; closed = λ k. false; over = false; pending = []; untold = [] }
