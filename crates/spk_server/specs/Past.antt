-- What is read off a run of deeds (own rules): for each client what it sent and what it is owed, and for the broker what came to it.
use Rattle.std.specs.Prelude.{◌≡◌, ℕ, ◌+◌, ◌==◌, Bool, true, false, List, [], ◌∷◌, ◌++◌, length, map, Option, Some, None, if◌then◌else◌}
use Rattle.std.specs.List.{filter, flat_map}
use Rattle.std.specs.Option.{option_map_or}
use Rattle.spk_packets.specs.Stream.{Fed, Gave}
use Rattle.spk_packets.specs.Stream as stream
use Rattle.spk_broker.specs.Sent.{outgoing}
use Rattle.spk_broker_rules.specs.Data.{Broker}
use Rattle.spk_broker_rules.specs.Plan.{Event}
use Rattle.spk_broker_rules.specs.Plan as event
use Rattle.spk_broker_rules.specs.Step.{step, knows}
use Rattle.spk_outbox.specs.Calls as outbox
use Rattle.spk_clients.specs.declared.cause.Cause.{Cause}
use Rattle.spk_clients.specs.declared.client.Client.{Client}
use Rattle.spk_clients.specs.Client.{is_over}
use Rattle.spk_clients.specs.declared.client.Offered.TheVariants.{Taken, Refused}
use Rattle.spk_server.specs.Data.{Deed, InHand, Offer, Room, Timed, Joined, Skipped, Took, Came, Broke, Left, Ticked, Handed, Shut, Told, Cut, Tried, Waited, Freed, Dropped, Wrote, Blocked, Named, Forgot, Kept, Begun}
use Rattle.spk_server.specs.Data as deed
use Rattle.spk_server.specs.Step.{after, is_slow, offer_of, publisher}
use Rattle.spk_server.specs.Tallies.{is_message, is_publish}

-- ---- one client

abbrev pub joins : ℕ → Deed → Bool
joins k (Joined conn) = conn == k
joins k _ = false

-- the deeds since a client came, behind those before it
abbrev pub since_from : ℕ → List Deed → List Deed → List Deed
since_from k before [] = before
since_from k before (d ∷ ds) = if joins k d then since_from k [] ds else since_from k (before ++ d ∷ []) ds

abbrev pub since : ℕ → List Deed → List Deed
since k log = since_from k [] log

-- what a deed is in the stream of what a client sends: bytes of it were put behind, or a packet was taken off
abbrev pub in_stream : ℕ → Deed → List stream.Event
in_stream k (deed.Fed conn piece) = if conn == k then Fed piece ∷ [] else []
in_stream k (Took conn p rest) = if conn == k then Gave p ∷ [] else []
in_stream k _ = []

-- the stream of what a client sent since it came
abbrev pub stream_of : ℕ → List Deed → List stream.Event
stream_of k log = flat_map (in_stream k) (since k log)

-- what a deed is to what waits for a client: a send was taken, or bytes were written
abbrev pub in_outbox : ℕ → Deed → List outbox.Call
in_outbox k (Handed o Taken) = if o.send.conn == k then outbox.Took o.send.bytes ∷ [] else []
in_outbox k (Wrote conn count) = if conn == k then outbox.Wrote count ∷ [] else []
in_outbox k _ = []

-- what became of its outbox since it came
abbrev pub outbox_of : ℕ → List Deed → List outbox.Call
outbox_of k log = flat_map (in_outbox k) (since k log)

-- ---- the broker

-- the event of a deed that comes to the broker, and whose own PUBLISH it is, if it is one; one of a connection that it doesn't know
-- comes not
abbrev pub on_conn : Broker → ℕ → Option ℕ → Event → Option (Option ℕ × Event)
on_conn b conn by e = if knows b conn then Some (by, e) else None

abbrev pub of_hand : Room → Option InHand → Option (Option ℕ × Event)
of_hand r None = None
of_hand r (Some h) = on_conn r.noted.broker h.conn (publisher h) (event.Packet h.conn h.packet r.now)

abbrev pub event_at : Room → Deed → Option (Option ℕ × Event)
event_at r Came = of_hand r r.in_hand
event_at r (Broke conn fault) = on_conn r.noted.broker conn None (event.Fault conn fault r.now)
event_at r (Left conn why) = on_conn r.noted.broker conn None (event.Closed conn r.now)
event_at r Ticked = Some (None, event.Tick r.now)
event_at r (Told conn s) = on_conn r.noted.broker conn None (event.Refused conn s r.now)
event_at r (Cut conn s) = on_conn r.noted.broker conn None (event.Closed conn r.now)
event_at r _ = None

-- what the rules send for an event, in order
abbrev pub sends_at : Broker → Option (Option ℕ × Event) → List Offer
sends_at b None = []
sends_at b (Some e) = map (offer_of e.0) (map outgoing (step b e.1).sends)

-- what the rules send for a run of deeds, in order
abbrev pub sends_from : Room → List Deed → List Offer
sends_from r [] = []
sends_from r (d ∷ ds) = sends_at r.noted.broker (event_at r d) ++ sends_from (after d r) ds

-- a send that was offered
abbrev pub handed_in : Deed → List Offer
handed_in (Handed o fate) = o ∷ []
handed_in _ = []

-- the sends that were offered, in order
abbrev pub handed_of : List Deed → List Offer
handed_of log = flat_map handed_in log

-- a deed by which something of a client is taken in, or comes of it
abbrev pub hears : ℕ → Deed → Bool
hears k (deed.Fed conn piece) = conn == k
hears k (Took conn p rest) = conn == k
hears k (Broke conn fault) = conn == k
hears k _ = false

-- its end came, for this cause
abbrev pub IsEndedBy : Cause → Client → Type 0
IsEndedBy why c = (is_over c ≡ true) × (c.cause ≡ why)

-- ---- what is noted

abbrev pub events_in : Option (Option ℕ × Event) → List Event
events_in None = []
events_in (Some e) = e.1 ∷ []

-- what comes to the broker by a deed: an event of those above, or that a connection is opened
abbrev pub comes_at : Room → Deed → List Event
comes_at r (Joined conn) = event.Open r.now ∷ []
comes_at r d = events_in (event_at r d)

-- what comes to the broker by a run of deeds, in order
abbrev pub comes_from : Room → List Deed → List Event
comes_from r [] = []
comes_from r (d ∷ ds) = comes_at r d ++ comes_from (after d r) ds

abbrev pub kept_in : Deed → List ℕ
kept_in (Kept bytes) = bytes
kept_in _ = []

-- what was kept by a run of deeds, in order
abbrev pub kept_of : List Deed → List ℕ
kept_of log = flat_map kept_in log

-- notes begin anew
abbrev pub begins_anew : Deed → Bool
begins_anew Begun = true
begins_anew _ = false

-- ---- what is counted

-- a PUBLISH of a client was taken
abbrev pub hears_publish : Deed → Bool
hears_publish (Took conn p rest) = is_publish p
hears_publish _ = false

-- a PUBLISH for a client was put among what waits to be written
abbrev pub sends_publish : Deed → Bool
sends_publish (Handed o Taken) = is_message o.send.bytes
sends_publish _ = false

-- a packet for a client was refused
abbrev pub drops : Deed → Bool
drops (Handed o Refused) = true
drops _ = false

-- a publisher is made to wait for a client, itself among these
abbrev pub stalls_at : Room → Deed → Bool
stalls_at r Tried = option_map_or (λ s. is_slow s r) r.slow false
stalls_at r _ = false

-- how many of these deeds are such
abbrev pub how_many : (Deed → Bool) → List Deed → ℕ
how_many test log = length (filter test log)

-- how often a publisher was made to wait in a run of deeds
abbrev pub stalls_from : Room → List Deed → ℕ
stalls_from r [] = 0
stalls_from r (d ∷ ds) = (if stalls_at r d then 1 else 0) + stalls_from (after d r) ds
