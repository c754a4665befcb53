-- Lists of calls of `Session`: what they answer by the data, and what by the list of all events.
use Rattle.std.specs.Prelude.{◌≡◌, ℕ, ◌+◌, ◌≤◌, Bool, false, List, [], ◌∷◌, ◌++◌, length, drop, Result, Ok, Err, if◌then◌else◌}
use Rattle.spk_session.specs.declared.answer.Sort.{Sort}
use Rattle.spk_session.specs.declared.answer.Sort.TheVariants as sort
use Rattle.spk_session.specs.declared.answer.Verdict.{Verdict}
use Rattle.spk_session.specs.declared.answer.Verdict.TheVariants as verdict
use Rattle.spk_session.specs.declared.fault.SessionFault.{SessionFault}
use Rattle.spk_session.specs.declared.fault.SessionFault.TheVariants as fault
use Rattle.spk_session.specs.Data.{Standing}
use Rattle.spk_session.specs.PacketIds.{is_in, next_id}
use Rattle.spk_session.specs.Past.{Event, Gave, Acked, Refused, Reopened, TookBack, in_use, last_given, drops_of}
use Rattle.spk_session.specs.Step.{has_room, is_spent, sent_answer, after_sent, after_acked, verdict_of, after_refused, after_reopen, after_rewind}

-- the calls that change a session
pub data Call : Type 0 where
  Sent : Call
  Ack : ℕ → Call
  Refuse : Sort → Call
  Reopen : Call
  -- how many ids stay in use, and the id given last
  Rewind : ℕ → ℕ → Call

pub data Reply : Type 0 where
  Giving : Result ℕ SessionFault → Reply
  Acking : Bool → Reply
  Judging : Verdict → Reply
  Nothing : Reply

-- by the data

abbrev pub reply_of : Standing → Call → Reply
reply_of s Sent = Giving (sent_answer s)
reply_of s (Ack id) = Acking (is_in s.used id)
reply_of s (Refuse some) = Judging (verdict_of s some)
reply_of s Reopen = Nothing
reply_of s (Rewind n last) = Nothing

abbrev pub after_call : Standing → Call → Standing
after_call s Sent = after_sent s
after_call s (Ack id) = after_acked s id
after_call s (Refuse some) = after_refused s some
after_call s Reopen = after_reopen s
after_call s (Rewind n last) = after_rewind s n last

-- the data after all calls, and the reply to each
abbrev pub after_calls : Standing → List Call → Standing
after_calls s [] = s
after_calls s (call ∷ calls) = after_calls (after_call s call) calls

abbrev pub replies_of : Standing → List Call → List Reply
replies_of s [] = []
replies_of s (call ∷ calls) = reply_of s call ∷ replies_of (after_call s call) calls

-- by the events

-- Close for another sort than QoS 0, and from drop number `limit` on, counted since the session was made or reopened
abbrev pub right_verdict : ℕ → List Event → Sort → Verdict
right_verdict limit events sort.QosZero = if is_spent limit (drops_of events + 1) then verdict.Close else verdict.Dropped
right_verdict limit events sort.Other = verdict.Close

abbrev pub right_reply : ℕ → List Event → Call → Reply
right_reply limit events Sent =
    if has_room (in_use events) then Giving (Ok (next_id (in_use events) (last_given events))) else Giving (Err fault.Unacked)
right_reply limit events (Ack id) = Acking (is_in (in_use events) id)
right_reply limit events (Refuse some) = Judging (right_verdict limit events some)
right_reply limit events Reopen = Nothing
right_reply limit events (Rewind n last) = Nothing

-- the events that a call adds
abbrev pub done : List Event → Call → List Event
done events Sent = if has_room (in_use events) then Gave (next_id (in_use events) (last_given events)) ∷ [] else []
done events (Ack id) = Acked id ∷ []
done events (Refuse some) = Refused some ∷ []
done events Reopen = Reopened ∷ []
done events (Rewind n last) = TookBack (drop n (in_use events)) last ∷ []

-- all events, behind those before the calls
abbrev pub events_of : List Event → List Call → List Event
events_of events [] = events
events_of events (call ∷ calls) = events_of (events ++ done events call) calls

-- the right reply to each call
abbrev pub right_replies : ℕ → List Event → List Call → List Reply
right_replies limit events [] = []
right_replies limit events (call ∷ calls) = right_reply limit events call ∷ right_replies limit (events ++ done events call) calls

-- Calls that acknowledge none of these ids, and rewind to no fewer.
abbrev pub LeavesIds : List ℕ → List Call → Type 0
LeavesIds ids [] = Unit {0}
LeavesIds ids (Ack id ∷ calls) = (is_in ids id ≡ false) × LeavesIds ids calls
LeavesIds ids (Rewind n last ∷ calls) = (length ids ≤ n) × LeavesIds ids calls
LeavesIds ids (_ ∷ calls) = LeavesIds ids calls
