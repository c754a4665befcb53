-- What a call of `Session` answers, and the data after it, from the data before it and the arguments.
use Rattle.std.specs.Prelude.{ℕ, ◌+◌, min, max, Bool, not, nat_lt, nat_le, List, [], ◌∷◌, ◌++◌, length, take, Result, Ok, Err, if◌then◌else◌}
use Rattle.std.specs.Prelude.{nat_eq}
use Rattle.std.specs.List.{filter}
use Rattle.spk_session.specs.declared.answer.Sort.{Sort}
use Rattle.spk_session.specs.declared.answer.Sort.TheVariants as sort
use Rattle.spk_session.specs.declared.answer.Verdict.{Verdict}
use Rattle.spk_session.specs.declared.answer.Verdict.TheVariants as verdict
use Rattle.spk_session.specs.declared.fault.SessionFault.{SessionFault}
use Rattle.spk_session.specs.declared.fault.SessionFault.TheVariants as fault
use Rattle.spk_session.specs.Data.{Standing}
use Rattle.spk_session.specs.PacketIds.{next_id}

-- a session without ids in use, and without drops
abbrev pub fresh_standing : ℕ → Standing
fresh_standing limit = record { used = []; last = 0; drops = 0; limit = limit }

-- fewer than 1,024 ids are in use
abbrev pub has_room : List ℕ → Bool
has_room used = nat_lt (length used) 1024

-- the next id behind the last one given that isn't in use
abbrev pub sent_answer : Standing → Result ℕ SessionFault
sent_answer s = if has_room s.used then Ok (next_id s.used s.last) else Err fault.Unacked

abbrev pub after_given : Standing → ℕ → Standing
after_given s id = record s { used = s.used ++ id ∷ []; last = id }

abbrev pub after_sent : Standing → Standing
after_sent s = if has_room s.used then after_given s (next_id s.used s.last) else s

-- the other ids, in their order
abbrev pub without : ℕ → List ℕ → List ℕ
without id used = filter (λ other. not (nat_eq other id)) used

abbrev pub after_acked : Standing → ℕ → Standing
after_acked s id = record s { used = without id s.used }

-- One drop more. The count stays at 65,535, which no limit passes.
abbrev pub one_more : ℕ → ℕ
one_more drops = min (drops + 1) 65535

-- whether so many drops close a connection; limit 0 acts as 1
abbrev pub is_spent : ℕ → ℕ → Bool
is_spent limit drops = nat_le (max 1 limit) drops

abbrev pub verdict_of : Standing → Sort → Verdict
verdict_of s sort.QosZero = if is_spent s.limit (one_more s.drops) then verdict.Close else verdict.Dropped
verdict_of s sort.Other = verdict.Close

abbrev pub after_refused : Standing → Sort → Standing
after_refused s sort.QosZero = record s { drops = one_more s.drops }
after_refused s sort.Other = s

abbrev pub after_reopen : Standing → Standing
after_reopen s = record s { drops = 0 }

-- in use are the first n again, or all where there are no more, and the id given last is `last`
abbrev pub after_rewind : Standing → ℕ → ℕ → Standing
after_rewind s n last = record s { used = take n s.used; last = last }
