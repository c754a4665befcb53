-- A session steps as its parts do.
use Rattle.std.proofs.Common.{◌≡◌, true, false, cond, List, [], ◌∷◌, length, refl, sym, ◌∙◌, ap}
use Rattle.spk_session.specs.declared.answer.Sort.{Sort}
use Rattle.spk_session.specs.declared.answer.Sort.TheVariants as sort
use Rattle.spk_session.specs.Data.{Standing, Ids, Drops}
use Rattle.spk_session.specs.PacketIds.{next_id}
use Rattle.spk_session.specs.Step.{has_room, after_given, after_sent, verdict_of, after_refused, after_rewind}
use Rattle.spk_session.specs.Calls.{Call, Sent, Ack, Refuse, Reopen, Rewind, after_call, after_calls, LeavesIds}
use Rattle.spk_session.specs.Parts.{joined, ids_given, ids_after_sent, ids_after_rewind, drops_verdict, drops_after, ids_after_call, drops_after_call, ids_after_calls, drops_after_calls}
use Rattle.spk_session.proofs.Undone.{undone}

pub verdict-joined : (i : Ids) (d : Drops) (some : Sort) → drops_verdict d some ≡ verdict_of (joined i d) some
verdict-joined i d sort.QosZero = refl
verdict-joined i d sort.Other = refl

pub refused-joined : (i : Ids) (d : Drops) (some : Sort) → joined i (drops_after d some) ≡ after_refused (joined i d) some
refused-joined i d sort.QosZero = refl
refused-joined i d sort.Other = refl

pub sent-joined : (i : Ids) (d : Drops) → joined (ids_after_sent i) d ≡ after_sent (joined i d)
sent-joined i d = elim (has_room i.used) as (λ b. joined (cond b (ids_given i (next_id i.used i.last)) i) d ≡ cond b (after_given (joined i d) (next_id i.used i.last)) (joined i d)) [ true ↦ refl | false ↦ refl ]

pub call-joined : (i : Ids) (d : Drops) (call : Call) → after_call (joined i d) call ≡ joined (ids_after_call i call) (drops_after_call d call)
call-joined i d Sent = sym (sent-joined i d)
call-joined i d (Ack id) = refl
call-joined i d (Refuse some) = sym (refused-joined i d some)
call-joined i d Reopen = refl
call-joined i d (Rewind n last) = refl

pub calls-joined : (i : Ids) (d : Drops) (calls : List Call) → after_calls (joined i d) calls ≡ joined (ids_after_calls i calls) (drops_after_calls d calls)
calls-joined i d [] = refl
calls-joined i d (call ∷ calls) =
    ap (λ (s : Standing). after_calls s calls) (call-joined i d call) ∙ calls-joined (ids_after_call i call) (drops_after_call d call) calls

abbrev ids_in : Standing → Ids
ids_in s = record { used = s.used; last = s.last }

-- a rewind undoes what was given since, for the ids alone
pub ids-undone : (i : Ids) (d : Drops) (calls : List Call) → LeavesIds i.used calls → ids_after_rewind (ids_after_calls i calls) (length i.used) i.last ≡ i
ids-undone i d calls leaves =
    sym (ap (λ (s : Standing). ids_in (after_rewind s (length i.used) i.last)) (calls-joined i d calls)) ∙ ap ids_in (undone (joined i d) calls leaves)
