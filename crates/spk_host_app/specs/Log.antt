-- Runs of deeds, newest first (own rules): what each deed must find, and which a call may do.
use Rattle.std.specs.Prelude.{drop, ◌≡◌, ◌≢◌, ◌⊎◌, ℕ, Bool, true, false, List, [], ◌∷◌, length, take, Some, Ok}
use Rattle.spk_link.specs.Step.{due_at}
use Rattle.spk_link.specs.declared.stand.Due.TheVariants as due
use Rattle.spk_packets.specs.Fault.{first_of}
use Rattle.spk_packets.specs.Refusals.{refusals}
use Rattle.spk_packets.specs.Stream.{TakesPacket}
use Rattle.spk_packets.specs.declared.fault.PacketFault.{PacketFault}
use Rattle.spk_packets.specs.declared.fault.PacketFault.TheVariants.{More}
use Rattle.spk_reading.specs.Data.{HeardData}
use Rattle.spk_reading.specs.Meaning.{heard}
use Rattle.spk_host_session.specs.Data.{is_address}
use Rattle.spk_host.specs.Inputs as host
use Rattle.spk_connection.specs.Step.{is_open}
use Rattle.spk_host_app.specs.Data.{App, Deed, Fate, Word}
use Rattle.spk_host_app.specs.Data.{Whole, Unsent, Lost, Began, Connected, Read, Told, Denied, Unsubscribed, Ticked, Requested, Pinged, Stopped, GaveUp, Wrote, Over, Printed}
use Rattle.spk_host_app.specs.Meant.{IsRefused, refuses}
use Rattle.spk_host_app.specs.Step.{after, answered, called, is_full, is_within, taken}
use Rattle.spk_host_app.specs.declared.fault.HostAppFault.{HostAppFault}
use Rattle.spk_host_app.specs.declared.fault.HostAppFault.TheVariants.{NotOpen, NoPacket}

-- ---- what a deed must find

-- what is sent is sent on a connection
abbrev pub IsFate : Fate → App → Type 0
IsFate Whole a = is_open a.connection ≡ true
IsFate Unsent a = Unit {0}
IsFate Lost a = Unit {0}

-- the host may be told something
abbrev pub MayTell : App → Type 0
MayTell a = (is_within a ≡ true) × (a.closing ≡ false) × (is_full a ≡ false)

-- why the connection is given up; want of memory may always be claimed
abbrev pub IsReason : HostAppFault → App → Type 0
IsReason NotOpen a = is_open a.connection ≡ false
IsReason NoPacket a = (f : PacketFault) × (first_of (refusals a.connection.unread) ≡ Some f) × (f ≢ More)
IsReason _ a = Unit {0}

abbrev pub May : Deed → App → Type 0
May (Began now) a = is_open a.connection ≡ false
May (Connected now fate) a = (is_within a ≡ false) × (is_open a.connection ≡ true)
May (Read piece now) a = (is_open a.connection ≡ true) × (a.closing ≡ false)
May (Told p rest h now fate) a = MayTell a × IsFate fate a × TakesPacket a.connection.unread p rest × (refuses p ≡ false) × (heard p ≡ Ok h)
May (Denied p rest fault fate) a = (a.closing ≡ false) × (is_full a ≡ false) × IsFate fate a × TakesPacket a.connection.unread p rest × IsRefused p fault
May (Unsubscribed p rest) a = (a.closing ≡ false) × (is_full a ≡ false) × TakesPacket a.connection.unread p rest × (refuses p ≡ true)
May (Ticked now fate) a = MayTell a × IsFate fate a
May (Requested group node now fate) a = (a.closing ≡ false) × (is_full a ≡ false) × IsFate fate a × (is_address group node ≡ true)
May (Pinged now) a = (is_open a.connection ≡ true) × (due_at a.connection.link now ≡ due.Ping)
May (Stopped now fate) a = (is_within a ≡ true) × (a.closing ≡ false) × (is_open a.connection ≡ true)
May (GaveUp fault) a = IsReason fault a
May (Wrote bytes now) a = bytes ≡ take (length bytes) a.connection.unwritten
May (Over now) a = Unit {0}
May (Printed w) a = (rest : List Word) × (a.words.said ≡ w ∷ rest)

-- these deeds, newest first, each of them of those that are allowed, lead from the one to the other
abbrev pub IsRun : (Deed → Bool) → App → List Deed → App → Type 0
IsRun allowed a [] b = a ≡ b
IsRun allowed a (d ∷ ds) b = (m : App) × IsRun allowed a ds m × (allowed d ≡ true) × May d m × (b ≡ after d m)

abbrev pub Reaches : (Deed → Bool) → App → App → Type 0
Reaches allowed a b = (ds : List Deed) × IsRun allowed a ds b

-- one of these deeds was done
abbrev pub DoesOne : (Deed → Bool) → App → App → Type 0
DoesOne allowed a b = (d : Deed) × (allowed d ≡ true) × May d a × (b ≡ after d a)

-- ---- which deeds a call may do

-- taking the packet at the front
abbrev pub takes_packet : Deed → Bool
takes_packet (Told p rest h now fate) = true
takes_packet (Denied p rest fault fate) = true
takes_packet (Unsubscribed p rest) = true
takes_packet _ = false

-- the same, or giving the connection up
abbrev pub takes : Deed → Bool
takes (Told p rest h now fate) = true
takes (Denied p rest fault fate) = true
takes (Unsubscribed p rest) = true
takes (GaveUp fault) = true
takes _ = false

abbrev pub any_deed : Deed → Bool
any_deed d = true

-- No more is taken of what was read: the connection is to be closed, or too many words wait, or no whole packet stands at the front.
abbrev pub IsTakenUp : App → Type 0
IsTakenUp a = (a.closing ≡ true) ⊎ ((is_full a ≡ true) ⊎ (first_of (refusals a.connection.unread) ≡ Some More))

-- ---- parts of calls

-- words were said and bytes were sent, with one fate or another
abbrev pub IsAnswered : List Word → List ℕ → App → App → Type 0
IsAnswered words bytes a b = (fate : Fate) × IsFate fate a × (b ≡ answered fate words bytes a)

-- the connection was given up
abbrev pub IsGivenUp : App → App → Type 0
IsGivenUp a b = (e : HostAppFault) × IsReason e a × (b ≡ after (GaveUp e) a)

-- what the packet at the front says came to the host, and so much was taken off
abbrev pub IsTold : ℕ → HeardData → ℕ → App → App → Type 0
IsTold size h now a b = (fate : Fate) × IsFate fate a × (is_within a ≡ true)
    × (b ≡ called (host.Heard h now) fate (taken (drop size a.connection.unread) a))

-- a connection began, and with it a session of the host, or it was given up
abbrev pub IsBegun : ℕ → App → App → Type 0
IsBegun now a b = ((fate : Fate) × (is_within a ≡ false) × (b ≡ after (Connected now fate) (after (Began now) a)))
    ⊎ IsGivenUp (after (Began now) a) b

-- a moment came to the host, or the connection was given up
abbrev pub IsTicked : ℕ → App → App → Type 0
IsTicked now a b = ((fate : Fate) × May (Ticked now fate) a × (b ≡ after (Ticked now fate) a)) ⊎ IsGivenUp a b

-- the host left, or the connection was given up
abbrev pub IsStopped : ℕ → App → App → Type 0
IsStopped now a b = ((fate : Fate) × May (Stopped now fate) a × (b ≡ after (Stopped now fate) a)) ⊎ IsGivenUp a b

-- a rebirth was asked of a node, or the connection was given up
abbrev pub IsRequested : (group node : List ℕ) → ℕ → App → App → Type 0
IsRequested group node now a b = ((fate : Fate) × May (Requested group node now fate) a × (b ≡ after (Requested group node now fate) a)) ⊎ IsGivenUp a b
