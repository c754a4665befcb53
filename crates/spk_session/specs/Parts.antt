-- The two parts of a session, each with its own data: the packet identifiers, and the drops of the connection.
use Rattle.std.specs.Prelude.{ℕ, List, [], ◌∷◌, ◌++◌, take, Result, Ok, Err, if◌then◌else◌}
use Rattle.spk_session.specs.declared.answer.Sort.{Sort}
use Rattle.spk_session.specs.declared.answer.Sort.TheVariants as sort
use Rattle.spk_session.specs.declared.answer.Verdict.{Verdict}
use Rattle.spk_session.specs.declared.answer.Verdict.TheVariants as verdict
use Rattle.spk_session.specs.declared.fault.SessionFault.{SessionFault}
use Rattle.spk_session.specs.declared.fault.SessionFault.TheVariants as fault
use Rattle.spk_session.specs.Data.{Standing, Ids, Drops}
use Rattle.spk_session.specs.PacketIds.{next_id}
use Rattle.spk_session.specs.Calls.{Call, Sent, Ack, Refuse, Reopen, Rewind}
use Rattle.spk_session.specs.Step.{has_room, without, one_more, is_spent}

-- a session of these parts
abbrev pub joined : Ids → Drops → Standing
joined ids drops = record { used = ids.used; last = ids.last; drops = drops.drops; limit = drops.limit }

-- packet identifiers

abbrev pub fresh_ids : Ids
fresh_ids = record { used = []; last = 0 }

-- the next id behind the last one given that isn't in use
abbrev pub ids_answer : Ids → Result ℕ SessionFault
ids_answer i = if has_room i.used then Ok (next_id i.used i.last) else Err fault.Unacked

abbrev pub ids_given : Ids → ℕ → Ids
ids_given i id = record { used = i.used ++ id ∷ []; last = id }

abbrev pub ids_after_sent : Ids → Ids
ids_after_sent i = if has_room i.used then ids_given i (next_id i.used i.last) else i

abbrev pub ids_after_acked : Ids → ℕ → Ids
ids_after_acked i id = record i { used = without id i.used }

-- in use are the first n again, or all where there are no more, and the id given last is `last`
abbrev pub ids_after_rewind : Ids → ℕ → ℕ → Ids
ids_after_rewind i n last = record { used = take n i.used; last = last }

-- drops

abbrev pub fresh_drops : ℕ → Drops
fresh_drops limit = record { drops = 0; limit = limit }

abbrev pub drops_verdict : Drops → Sort → Verdict
drops_verdict d sort.QosZero = if is_spent d.limit (one_more d.drops) then verdict.Close else verdict.Dropped
drops_verdict d sort.Other = verdict.Close

abbrev pub drops_after : Drops → Sort → Drops
drops_after d sort.QosZero = record d { drops = one_more d.drops }
drops_after d sort.Other = d

abbrev pub drops_reopened : Drops → Drops
drops_reopened d = record d { drops = 0 }

-- what a call of the session changes in each part, and so a list of calls

abbrev pub ids_after_call : Ids → Call → Ids
ids_after_call i Sent = ids_after_sent i
ids_after_call i (Ack id) = ids_after_acked i id
ids_after_call i (Refuse some) = i
ids_after_call i Reopen = i
ids_after_call i (Rewind n last) = ids_after_rewind i n last

abbrev pub ids_after_calls : Ids → List Call → Ids
ids_after_calls i [] = i
ids_after_calls i (call ∷ calls) = ids_after_calls (ids_after_call i call) calls

abbrev pub drops_after_call : Drops → Call → Drops
drops_after_call d (Refuse some) = drops_after d some
drops_after_call d Reopen = drops_reopened d
drops_after_call d _ = d

abbrev pub drops_after_calls : Drops → List Call → Drops
drops_after_calls d [] = d
drops_after_calls d (call ∷ calls) = drops_after_calls (drops_after_call d call) calls
