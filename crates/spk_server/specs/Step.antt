-- What a server holds after a deed, from what it held before (own rules). What the broker does is said by its rules.
use Rattle.std.specs.Prelude.{ℕ, ◌+◌, min, max, ◌==◌, nat_lt, Bool, true, false, List, [], ◌∷◌, ◌++◌, map, Option, Some, None, is_some, if◌then◌else◌}
use Rattle.std.specs.List.{list_any}
use Rattle.std.specs.Option.{option_map, option_map_or}
use Rattle.spk_packets.specs.Message.{Message, Connect, Disconnect}
use Rattle.spk_broker.specs.Sent.{Sent, outgoing}
use Rattle.spk_packets.specs.declared.fault.PacketFault.{PacketFault}
use Rattle.spk_broker_rules.specs.Plan.{Event, is_bad_level}
use Rattle.spk_broker_rules.specs.Plan as event
use Rattle.spk_broker_rules.specs.Step.{Turn, step, knows}
use Rattle.spk_broker_notes.specs.Noted as note
use Rattle.spk_outbox.specs.Waits.{until}
use Rattle.spk_clients.specs.declared.cause.Cause.{Cause}
use Rattle.spk_clients.specs.declared.cause.Cause.TheVariants as cause
use Rattle.spk_clients.specs.declared.client.Client.{Client}
use Rattle.spk_clients.specs.declared.client.Phase.{Phase}
use Rattle.spk_clients.specs.declared.client.Phase.TheVariants.{Quiet, Open}
use Rattle.spk_clients.specs.declared.client.Offered.{Offered}
use Rattle.spk_clients.specs.declared.client.Offered.TheVariants.{Taken, Refused, Passed}
use Rattle.spk_clients.specs.Client.{after_hearing, awaited, cut_off, freed, fresh_client, given_up, has_many, has_some, is_awaited, leaves, most_number, refused_with, takes_in, taken_in, told, untouched, waiting_for, written_to}
use Rattle.spk_server.specs.Tallies.{handed_with, heard_with, is_message, is_publish, stalled}
use Rattle.spk_server.specs.Data as deed
use Rattle.spk_server.specs.Data.{Close, Deed, InHand, Offer, Room, Slow, Timed, Joined, Fed, Skipped, Took, Came, Broke, Left, Ticked, Handed, Shut, Told, Cut, Tried, Waited, Freed, Dropped, Wrote, Blocked, Named, Forgot, Kept, Begun}

-- how long a client may send nothing
abbrev pub quiet : ℕ
quiet = 10000

-- how often the broker is told of the time
abbrev pub second : ℕ
second = 1000

-- how long a client whose end came may read what is left
abbrev pub grace : ℕ
grace = 5000

-- so much later; a moment has 64 bits, and stands at the greatest
abbrev pub later : ℕ → ℕ → ℕ
later span now = min (now + span) most_number

-- ---- clients

abbrev pub Clients : Type 0
Clients = ℕ → Option Client

-- one client is made something else, if it is there
abbrev pub change : (Client → Client) → ℕ → Clients → Clients
change f conn clients = λ k. if k == conn then option_map f (clients k) else clients k

abbrev pub changed : (Client → Client) → ℕ → Room → Room
changed f conn r = record r { clients = change f conn r.clients }

abbrev pub placed : Option Client → ℕ → Clients → Clients
placed c conn clients = λ k. if k == conn then c else clients k

-- it sent no packet yet
abbrev pub is_quiet : Phase → Bool
is_quiet Quiet = true
is_quiet _ = false

-- ---- what comes to the broker

abbrev pub offer_of : Option ℕ → Sent → Offer
offer_of by s = record { by = by; send = s }

abbrev pub is_connect : Message → Bool
is_connect (Connect client clean keep will) = true
is_connect _ = false

-- why the broker closes another connection at a packet: that of the client identifier of a CONNECT is taken over (3.1.4), else one for whom
-- too many messages are unacknowledged
abbrev pub cause_other : Message → Cause
cause_other p = if is_connect p then cause.TakenOver else cause.Slow

-- whose bytes an event is of, and why the broker closes another connection at it
abbrev pub packet_of : Event → Option (ℕ × Cause)
packet_of (event.Packet conn p moment) = Some (conn, cause_other p)
packet_of (event.Fault conn f moment) = Some (conn, cause.Slow)
packet_of _ = None

-- a CONNECT of another protocol level is refused (3.1.2.2), and what is no packet can't be read
abbrev pub cause_fault : PacketFault → Cause
cause_fault f = if is_bad_level f then cause.Refused else cause.Unreadable

-- why the broker closes a connection at an event: that whose bytes it is of, or any where it is of nobody's. A will that is routed at an end
-- may be one unacknowledged message too many for its receiver.
abbrev pub cause_of : Event → Cause
cause_of (event.Packet conn p moment) = cause.Refused
cause_of (event.Fault conn f moment) = cause_fault f
cause_of (event.Tick moment) = cause.KeepAlive
cause_of _ = cause.Slow

-- the same for one connection
abbrev pub cause_for : Option (ℕ × Cause) → Cause → ℕ → Cause
cause_for None why conn = why
cause_for (Some own) why conn = if conn == own.0 then why else own.1

abbrev pub close_of : Option (ℕ × Cause) → Cause → ℕ → Close
close_of own why conn = record { conn = conn; cause = cause_for own why conn }

abbrev pub closes_of : Option (ℕ × Cause) → Cause → List ℕ → List Close
closes_of own why conns = map (close_of own why) conns

-- it is noted, its sends are to be offered, and then those whom it closes are ended
abbrev pub answered : Option ℕ → Event → Turn → Room → Room
answered by e t r = record r {
  noted = note.after e r.noted;
  pending = r.pending ++ map (offer_of by) (map outgoing t.sends);
  closing = r.closing ++ closes_of (packet_of e) (cause_of e) t.closes;
}

abbrev pub called : Option ℕ → Event → Room → Room
called by e r = answered by e (step r.noted.broker e) r

-- an event of a connection, where the broker knows it
abbrev pub called_on : Option ℕ → ℕ → Event → Room → Room
called_on by conn e r = if knows r.noted.broker conn then called by e r else r

abbrev pub is_disconnect : Message → Bool
is_disconnect Disconnect = true
is_disconnect _ = false

-- whose own PUBLISH a packet is, if it is one
abbrev pub publisher : InHand → Option ℕ
publisher h = if is_publish h.packet then Some h.conn else None

-- one client is to be ended
abbrev pub one_close : ℕ → Cause → List Close
one_close conn why = (record { conn = conn; cause = why }) ∷ []

-- behind a DISCONNECT a client's end comes
abbrev pub ends_behind : InHand → List Close
ends_behind h = if is_disconnect h.packet then one_close h.conn cause.Left else []

abbrev pub ended_behind : List Close → Room → Room
ended_behind closes r = record r { closing = r.closing ++ closes }

abbrev pub came : Option InHand → Room → Room
came None r = r
came (Some h) r = ended_behind (ends_behind h)
    (called_on (publisher h) h.conn (event.Packet h.conn h.packet r.now) (record r { in_hand = None }))

abbrev pub broke : ℕ → Event → Room → Room
broke conn e r = ended_behind (one_close conn (cause_of e)) (called_on None conn e r)

abbrev pub cause_why : deed.Why → Cause
cause_why deed.Gone = cause.Gone
cause_why deed.Silent = cause.Silent
cause_why deed.Want = cause.Memory

-- its end comes, and comes to the broker; a packet of it that is in hand is given up
abbrev pub left : ℕ → Cause → Room → Room
left conn why r = called_on None conn (event.Closed conn r.now) (record (changed (leaves (later grace r.now) why) conn r) { in_hand = None })

-- ---- what goes out

abbrev pub offered : Sent → Offered → Client → Client
offered s Taken c = record (taken_in s.bytes c) { touched = true }
offered s Refused c = refused_with s.sort c
offered s Passed c = c

-- the client of this send is slow, where a client published it and many packets wait
abbrev pub slowed : Offer → Option Client → Option Slow → Option Slow
slowed o c before = if option_map_or (has_many false) c false
    then option_map_or (λ (p : ℕ). Some (record { publisher = p; client = o.send.conn })) o.by before else before

abbrev pub behind : {X : Type 0} → List X → List X
behind [] = []
behind (x ∷ xs) = xs

abbrev pub handed : Offer → Offered → Room → Room
handed o fate r = record r {
  clients = change (offered o.send fate) o.send.conn r.clients;
  pending = behind r.pending;
  slow = slowed o (option_map (offered o.send fate) (r.clients o.send.conn)) r.slow;
  tally = handed_with fate (is_message o.send.bytes) r.tally;
}

-- ---- who waits

-- until when others wait for this client at the latest, if they are to wait still
abbrev pub wait_until : Bool → Client → Option ℕ
wait_until own c = if has_some own c then until c.patience else None

abbrev pub wait_for : ℕ → Clients → Option ℕ → Option ℕ
wait_for conn clients None = None
wait_for conn clients (Some slow) = option_map_or (wait_until (slow == conn)) (clients slow) None

abbrev pub slow_of : Clients → ℕ → Option ℕ
slow_of clients conn = option_map_or (λ (c : Client). c.waits_for) (clients conn) None

-- a client waits for another
abbrev pub awaits : Clients → ℕ → Bool
awaits clients conn = is_some (slow_of clients conn)

abbrev pub is_among : ℕ → List ℕ → Bool
is_among k xs = list_any (λ q. q == k) xs

-- until when a client waits at the latest; none where it may go on
abbrev pub waits_until : Clients → ℕ → Option ℕ
waits_until clients conn = wait_for conn clients (slow_of clients conn)

-- the same, as a number: at once where it may go on
abbrev pub wait_of : Clients → ℕ → ℕ
wait_of clients conn = option_map_or (λ until. until) (waits_until clients conn) 0

-- when the first wait of these ends; the greatest number where nobody waits
abbrev pub first_wait : Clients → List ℕ → ℕ
first_wait clients [] = most_number
first_wait clients (conn ∷ conns) = min (wait_of clients conn) (first_wait clients conns)

abbrev pub still_waits : ℕ → Clients → ℕ → Bool
still_waits now clients conn = option_map_or (λ last. nat_lt now last) (waits_until clients conn) false

-- When the wait for a client ended, as far as it counts: never began, where fewer packets are left of it.
abbrev pub counted : ℕ → Bool → Client → ℕ
counted now own c = if is_some (wait_until own c) then now else 0

abbrev pub set_free : ℕ → Bool → Client → Client
set_free now own c = freed (counted now own c) c

abbrev pub freed_from : Option ℕ → ℕ → Room → Room
freed_from None conn r = r
freed_from (Some slow) conn r = changed (set_free r.now (slow == conn)) slow r

-- its client waits, where others are to wait for the slow one
abbrev pub tried_at : Bool → Slow → Room → Room
tried_at false s r = r
tried_at true s r = record (changed (waiting_for (Some s.client)) s.publisher r) { held = r.held ++ s.publisher ∷ []; tally = stalled r.tally }

abbrev pub is_slow : Slow → Room → Bool
is_slow s r = option_map_or (is_awaited (s.client == s.publisher) r.now) (r.clients s.client) false

abbrev pub tried : Option Slow → Room → Room
tried None r = r
tried (Some s) r = record (tried_at (is_slow s r) s (changed (awaited (s.client == s.publisher) r.now) s.client r)) { slow = None }

-- a connection is opened, and its client is to be shut then, if it sent nothing
abbrev pub joined : ℕ → ℕ → Room → Room
joined conn until r = record r {
  noted = note.after (event.Open r.now) r.noted;
  clients = placed (Some (fresh_client until)) conn r.clients;
}

-- ---- a deed

abbrev pub after : Deed → Room → Room
after (Timed moment) r = record r { now = max r.now moment }
after (Joined conn) r = joined conn (later quiet r.now) r
after (Fed conn piece) r = changed (takes_in piece) conn r
after (Skipped conn piece) r = r
after (Took conn p rest) r = record (changed (λ c. after_hearing p (record c { feed = rest })) conn r) {
  in_hand = Some (record { conn = conn; packet = p });
  slow = None;
  tally = heard_with p r.tally;
}
after Came r = came r.in_hand r
after (Broke conn fault) r = broke conn (event.Fault conn fault r.now) r
after (Left conn why) r = left conn (cause_why why) r
after Ticked r = record (called None (event.Tick r.now) r) { ticked = r.now }
after (Handed o fate) r = handed o fate r
after (Shut close) r = record (changed (leaves (later grace r.now) close.cause) close.conn r) { closing = behind r.closing }
after (Told conn s) r = called_on None conn (event.Refused conn s r.now) (changed told conn r)
after (Cut conn s) r = left conn cause.Memory (changed told conn r)
after Tried r = tried r.slow r
after (Waited conn) r = record r { held = behind r.held ++ conn ∷ [] }
after (Freed conn) r = changed (waiting_for None) conn (freed_from (slow_of r.clients conn) conn (record r { held = behind r.held }))
after (Dropped conn) r = changed given_up conn r
after (Wrote conn count) r = changed (written_to count) conn r
after (Blocked conn) r = changed cut_off conn r
after (Named conn) r = changed untouched conn r
after (Forgot conn) r = record r { clients = placed None conn r.clients }
after (Kept bytes) r = record r { noted = note.emptied r.noted }
after Begun r = record r { noted = note.begun r.noted }
