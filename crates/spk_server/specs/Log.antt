-- Runs of deeds (own rules): what each deed must find, and the lists that are read off a run. A run stands oldest first.
use Rattle.std.specs.Prelude.{◌≡◌, ◌≢◌, ℕ, ◌+◌, ◌<◌, ◌≤◌, ◌==◌, Bool, true, false, ◌&&◌, List, [], ◌∷◌, length, Option, Some, None, if◌then◌else◌}
use Rattle.std.specs.List.{flat_map}
use Rattle.std.specs.Option.{option_map_or, IfSome}
use Rattle.spk_packets.specs.Fault.{first_of, IsNamed}
use Rattle.spk_packets.specs.Refusals.{refusals}
use Rattle.spk_packets.specs.Stream.{TakesPacket}
use Rattle.spk_packets.specs.declared.fault.PacketFault.TheVariants.{More, NoMemory}
use Rattle.spk_broker_rules.specs.Step.{is_full}
use Rattle.spk_broker_notes.specs.Noted.{bytes_of}
use Rattle.spk_outbox.specs.Data.{first_room}
use Rattle.spk_clients.specs.declared.client.Client.{Client}
use Rattle.spk_clients.specs.declared.client.Offered.{Offered}
use Rattle.spk_clients.specs.declared.client.Offered.TheVariants.{Taken, Refused, Passed}
use Rattle.spk_clients.specs.declared.client.Phase.TheVariants.{Quiet, Over, Done}
use Rattle.spk_clients.specs.Client.{is_due, is_over, is_untold, sort_untold}
use Rattle.spk_server.specs.Data.{Deed, InHand, Room, Slow, Why, Gone, Silent, Want, Joined, Fed, Skipped, Took, Came, Broke, Left, Ticked, Handed, Shut, Told, Cut, Tried, Waited, Freed, Dropped, Wrote, Forgot, Kept}
use Rattle.spk_server.specs.Step.{after, still_waits}

-- ---- what a deed must find

-- all that the broker sends is offered, and all whom it closes are ended
abbrev pub IsHandedOut : Room → Type 0
IsHandedOut r = (r.pending ≡ []) × (r.closing ≡ [])

-- and no packet is in hand
abbrev pub IsIdle : Room → Type 0
IsIdle r = (r.in_hand ≡ None) × IsHandedOut r

-- and the broker is told of each refused send
abbrev pub IsRested : Room → Type 0
IsRested r = IsIdle r × ((k : ℕ) → IfSome (r.clients k) (λ c. is_untold c ≡ false))

-- a client that is here, and this holds of it
abbrev pub HasClient : (Client → Type 0) → ℕ → Room → Type 0
HasClient P conn r = (c : Client) × (r.clients conn ≡ Some c) × P c

abbrev pub is_open : Room → ℕ → Bool
is_open r conn = option_map_or (λ c. if is_over c then false else true) (r.clients conn) false

-- what becomes of an offer: it is taken, or refused where some wait, where its client is here and its end didn't come, else passed over
abbrev pub MayFall : Offered → Option Client → Type 0
MayFall Taken (Some c) = is_over c ≡ false
MayFall Refused (Some c) = (is_over c ≡ false) × (first_room ≤ length c.outbox.packets)
MayFall Passed (Some c) = is_over c ≡ true
MayFall Taken None = ⊥
MayFall Refused None = ⊥
MayFall Passed None = Unit {0}

abbrev pub is_empty : List ℕ → Bool
is_empty [] = true
is_empty (b ∷ bs) = false

-- all that was noted is kept: now what came of it may be written
abbrev pub is_all_kept : Room → Bool
is_all_kept r = is_empty (bytes_of r.noted.notes)

abbrev pub IsFirst : {X : Type 0} → X → List X → Type 0
IsFirst {X} x xs = (rest : List X) × (xs ≡ x ∷ rest)

-- a connection is ended by the server while nothing is pending; one that is silent only when its moment has come
abbrev pub MayLeave : Why → ℕ → Room → Type 0
MayLeave Gone conn r = is_open r conn ≡ true
MayLeave Silent conn r = HasClient (λ c. (c.phase ≡ Quiet) × (is_due r.now c ≡ true)) conn r
MayLeave Want conn r = Unit {0}

abbrev pub May : Deed → Room → Type 0
May (Joined conn) r = IsRested r × (is_full r.noted.broker ≡ false) × (conn ≡ r.noted.broker.given + 1)
May (Fed conn piece) r = IsRested r × (is_open r conn ≡ true)
May (Skipped conn piece) r = IsRested r × (is_open r conn ≡ false)
May (Took conn p rest) r = IsRested r × HasClient (λ c. (is_over c ≡ false) × TakesPacket c.feed p rest) conn r
May Came r = ((h : InHand) × (r.in_hand ≡ Some h)) × IsHandedOut r
May (Broke conn fault) r = IsRested r
    × HasClient (λ c. (is_over c ≡ false) × IsNamed fault (first_of (refusals c.feed))) conn r × (fault ≢ More) × (fault ≢ NoMemory)
May (Left conn why) r = IsHandedOut r × MayLeave why conn r
May Ticked r = IsRested r × (r.ticked < r.now)
May (Handed o fate) r = IsFirst o r.pending × MayFall fate (r.clients o.send.conn)
May (Shut close) r = (r.pending ≡ []) × IsFirst close r.closing
May (Told conn s) r = IsIdle r × (option_map_or sort_untold (r.clients conn) None ≡ Some s)
May (Cut conn s) r = IsIdle r × (option_map_or sort_untold (r.clients conn) None ≡ Some s)
May Tried r = IsRested r × ((s : Slow) × (r.slow ≡ Some s))
May (Waited conn) r = IsRested r × IsFirst conn r.held × (still_waits r.now r.clients conn ≡ true)
May (Freed conn) r = IsRested r × IsFirst conn r.held × (still_waits r.now r.clients conn ≡ false)
May (Dropped conn) r = IsRested r × HasClient (λ c. (c.phase ≡ Over) × (is_due r.now c ≡ true)) conn r
May (Wrote conn count) r = IsRested r × (is_all_kept r ≡ true)
May (Forgot conn) r = IsRested r × HasClient (λ c. c.phase ≡ Done) conn r
May (Kept bytes) r = IsRested r × (bytes ≡ bytes_of r.noted.notes)
May _ r = IsRested r

-- these deeds, each of them of those that are allowed, lead from the one to the other
abbrev pub IsRun : (Deed → Bool) → Room → List Deed → Room → Type 0
IsRun allowed r [] s = r ≡ s
IsRun allowed r (d ∷ ds) s = (allowed d ≡ true) × May d r × IsRun allowed (after d r) ds s

abbrev pub Reaches : (Deed → Bool) → Room → Room → Type 0
Reaches allowed r s = (ds : List Deed) × IsRun allowed r ds s

-- ---- which deeds a call may do

-- what follows of any other: what the broker answers is handed out, refused sends are told, and time is told
abbrev pub follows : Deed → Bool
follows (Handed o fate) = true
follows (Shut close) = true
follows (Told conn s) = true
follows (Cut conn s) = true
follows Ticked = true
follows _ = false

abbrev pub is_want : Why → Bool
is_want Want = true
is_want Gone = false
is_want Silent = false

-- taking the packets of this client
abbrev pub takes : ℕ → Deed → Bool
takes conn (Took d p rest) = d == conn
takes conn Came = true
takes conn (Broke d fault) = d == conn
takes conn (Left d why) = (d == conn) && is_want why
takes conn Tried = true
takes conn d = follows d

abbrev pub is_silent : Why → Bool
is_silent Silent = true
is_silent Gone = false
is_silent Want = false

-- calling those whose moment has come
abbrev pub calls : Deed → Bool
calls (Left d why) = is_silent why
calls (Dropped d) = true
calls d = follows d

-- going on with those who wait
abbrev pub goes_on : Deed → Bool
goes_on (Took d p rest) = true
goes_on Came = true
goes_on (Broke d fault) = true
goes_on (Left d why) = is_want why
goes_on Tried = true
goes_on (Waited d) = true
goes_on (Freed d) = true
goes_on d = follows d

-- whom a deed looks at, of those who wait
abbrev pub looks_at : Deed → List ℕ
looks_at (Waited conn) = conn ∷ []
looks_at (Freed conn) = conn ∷ []
looks_at _ = []

-- whom these deeds look at, in order
abbrev pub looked_at : List Deed → List ℕ
looked_at log = flat_map looks_at log

-- going on leads from the one to the other, and these are looked at, in order, and no other
abbrev pub LooksAt : List ℕ → Room → Room → Type 0
LooksAt conns r s = (ds : List Deed) × IsRun goes_on r ds s × (looked_at ds ≡ conns)

abbrev pub any_deed : Deed → Bool
any_deed d = true
