-- One client of a server (own rules).
use Rattle.std.specs.Prelude.{◌≡◌, ◌≢◌, ◌⊎◌, ℕ, ◌+◌, ◌-◌, ◌≤◌, min, nat_lt, nat_le, ◌==◌, Bool, true, false, not, ◌&&◌, ◌||◌, List, [], ◌∷◌, ◌++◌, length, Option, Some, None, Result, Ok, Err, if◌then◌else◌}
use Rattle.spk_packets.specs.Message.{Message, PubAck}
use Rattle.spk_packets.specs.Fault.{first_of, IsNamed}
use Rattle.spk_packets.specs.Refusals.{refusals}
use Rattle.spk_packets.specs.Stream.{TakesPacket}
use Rattle.spk_packets.specs.View.{view}
use Rattle.spk_packets.specs.declared.packet.Packet.{Packet}
use Rattle.spk_packets.specs.declared.fault.PacketFault.{PacketFault}
use Rattle.spk_packets.specs.declared.fault.PacketFault.TheVariants.{More}
use Rattle.spk_session.specs.declared.answer.Sort.{Sort}
use Rattle.spk_session.specs.declared.answer.Sort.TheVariants.{QosZero, Other}
use Rattle.spk_outbox.specs.Data.{first_room, fresh_outbox}
use Rattle.spk_outbox.specs.Step.{put, written}
use Rattle.spk_outbox.specs.Waits.{began, ended, fresh_waits, lasts}
use Rattle.spk_clients.specs.declared.cause.Cause.{Cause}
use Rattle.spk_clients.specs.declared.cause.Cause.TheVariants.{Gone}
use Rattle.spk_clients.specs.declared.client.Client.{Client}
use Rattle.spk_clients.specs.declared.client.Phase.{Phase}
use Rattle.spk_clients.specs.declared.client.Phase.TheVariants.{Quiet, Open, Over, Done}
use Rattle.spk_clients.specs.declared.client.Offered.{Offered}
use Rattle.spk_clients.specs.declared.client.Offered.TheVariants.{Taken, Refused, Passed}

abbrev pub fresh_client : ℕ → Client
fresh_client until = record {
  phase = Quiet;
  feed = [];
  outbox = fresh_outbox;
  until = until;
  cause = Gone;
  touched = false;
  cut = false;
  unacknowledged = 0;
  patience = fresh_waits;
  waits_for = None;
  drops = 0;
  lost = false;
}

-- its end came
abbrev pub has_ended : Phase → Bool
has_ended Quiet = false
has_ended Open = false
has_ended Over = true
has_ended Done = true

abbrev pub is_over : Client → Bool
is_over c = has_ended c.phase

-- ---- what waits to be written

-- The first byte of a PUBLISH of QoS 1, with or without DUP and RETAIN (MQTT 3.1.1, 3.3.1).
abbrev pub is_numbered : List ℕ → Bool
is_numbered [] = false
is_numbered (b ∷ bs) = (b == 50) || ((b == 51) || ((b == 58) || (b == 59)))

abbrev pub most_number : ℕ
most_number = 18446744073709551615

abbrev pub unacknowledged_with : List ℕ → ℕ → ℕ
unacknowledged_with bytes n = if is_numbered bytes then min (n + 1) most_number else n

-- a packet was put into its outbox
abbrev pub taken_in : List ℕ → Client → Client
taken_in bytes c = record c { outbox = put bytes c.outbox; unacknowledged = unacknowledged_with bytes c.unacknowledged }

-- a packet was refused, and the broker isn't told yet
abbrev pub refused_with : Sort → Client → Client
refused_with QosZero c = record c { drops = min (c.drops + 1) most_number }
refused_with Other c = record c { lost = true }

-- It is taken, or refused, which it is only where others wait; behind its client's end it is passed over.
abbrev pub IsOffered : Sort → List ℕ → Client → Offered → Client → Type 0
IsOffered sort bytes old Taken new = (is_over old ≡ false) × (new ≡ record (taken_in bytes old) { touched = true })
IsOffered sort bytes old Refused new = (is_over old ≡ false) × (first_room ≤ length old.outbox.packets) × (new ≡ refused_with sort old)
IsOffered sort bytes old Passed new = (is_over old ≡ true) × (new ≡ old)

-- ---- what the broker isn't told

abbrev pub is_untold : Client → Bool
is_untold c = c.lost || nat_lt 0 c.drops

-- what the broker is told next
abbrev pub sort_untold : Client → Option Sort
sort_untold c = if c.lost then Some Other else if nat_lt 0 c.drops then Some QosZero else None

abbrev pub told : Client → Client
told c = if c.lost then record c { lost = false } else record c { drops = c.drops - 1 }

-- ---- what it sends

abbrev pub heard_phase : Phase → Phase
heard_phase Quiet = Open
heard_phase Open = Open
heard_phase Over = Over
heard_phase Done = Done

abbrev pub is_puback : Message → Bool
is_puback (PubAck id) = true
is_puback _ = false

-- What stands at the front of what it sent is given: a packet, which is taken off, or why there can be none; nothing where no packet
-- is whole yet, or its end came.
abbrev pub GivesFront : Client → Option (Result Packet PacketFault) → Client → Type 0
GivesFront old None new = ((is_over old ≡ true) ⊎ (first_of (refusals old.feed) ≡ Some More)) × (new ≡ old)
GivesFront old (Some (Ok packet)) new =
    (is_over old ≡ false) × TakesPacket old.feed (view packet) new.feed × (new ≡ record old { feed = new.feed })
GivesFront old (Some (Err fault)) new =
    (is_over old ≡ false) × IsNamed fault (first_of (refusals old.feed)) × (fault ≢ More) × (new ≡ old)

-- ---- whether others wait for it

abbrev pub has_many : Bool → Client → Bool
has_many own c = nat_lt 512 (length c.outbox.packets) || (not own && nat_lt 512 c.unacknowledged)

abbrev pub has_some : Bool → Client → Bool
has_some own c = not (is_over c) && (nat_le 256 (length c.outbox.packets) || (not own && nat_le 256 c.unacknowledged))

-- nothing is left to be written, or nothing can be
abbrev pub is_done : Client → Bool
is_done c = (length c.outbox.packets == 0) || c.cut

-- ---- its end

-- of two ends the first counts, and its cause
abbrev pub over_until : ℕ → Cause → Client → Client
over_until until cause c = if is_over c then c else record c { phase = Over; until = until; cause = cause }

-- its end came, and its socket isn't to be shut yet
abbrev pub is_leaving : Phase → Bool
is_leaving Over = true
is_leaving _ = false

-- its socket is to be shut from now on
abbrev pub settles : Client → Bool
settles c = is_leaving c.phase && is_done c

-- its socket is to be shut
abbrev pub is_shut : Phase → Bool
is_shut Done = true
is_shut _ = false

-- the same of a client
abbrev pub is_to_shut : Client → Bool
is_to_shut c = is_shut c.phase

-- why its end came, where its socket is to be shut
abbrev pub cause_done : Client → Option Cause
cause_done c = if is_shut c.phase then Some c.cause else None

abbrev pub settled : Client → Client
settled c = if settles c then record c { phase = Done } else c

abbrev pub given_up : Client → Client
given_up c = if is_leaving c.phase then record c { phase = Done } else c

-- it sent nothing, or its end came and something is left
abbrev pub has_moment : Phase → Bool
has_moment Quiet = true
has_moment Open = false
has_moment Over = true
has_moment Done = false

abbrev pub is_due : ℕ → Client → Bool
is_due now c = has_moment c.phase && nat_le c.until now

-- ---- what was written

abbrev pub written_to : ℕ → Client → Client
written_to count c = settled (record c { outbox = written count c.outbox })

abbrev pub cut_off : Client → Client
cut_off c = settled (record c { cut = true })

abbrev pub untouched : Client → Client
untouched c = record c { touched = false }

-- its end comes, for this cause: it may read what is left until this moment
abbrev pub leaves : ℕ → Cause → Client → Client
leaves until cause c = settled (over_until until cause c)

-- ---- what comes of it

-- bytes of it, behind those that aren't whole packets yet; what follows its end is passed over
abbrev pub takes_in : List ℕ → Client → Client
takes_in piece c = if is_over c then c else record c { feed = c.feed ++ piece }

abbrev pub after_hearing : Message → Client → Client
after_hearing p c =
    record c { phase = heard_phase c.phase; unacknowledged = if is_puback p then c.unacknowledged - 1 else c.unacknowledged }

-- ---- who waits

abbrev pub waiting_for : Option ℕ → Client → Client
waiting_for slow c = record c { waits_for = slow }

-- others may wait for it
abbrev pub may_be_awaited : Bool → Client → Bool
may_be_awaited own c = not (is_over c) && has_many own c

abbrev pub awaited : Bool → ℕ → Client → Client
awaited own now c = if may_be_awaited own c then record c { patience = began now c.patience } else c

abbrev pub is_awaited : Bool → ℕ → Client → Bool
is_awaited own now c = may_be_awaited own c && lasts now (began now c.patience)

abbrev pub freed : ℕ → Client → Client
freed now c = record c { patience = ended now c.patience }
