-- A rewind undoes what was given since: the ids that were in use before stand in front all along.
use Rattle.std.proofs.Common.{◌≡◌, ℕ, ◌-◌, ◌≤◌, true, false, not, eqb, cond, List, [], ◌∷◌, ◌++◌, length, take, refl, sym, ◌∙◌, ap, arith, zero, suc, append_assoc}
use Rattle.std.proofs.lemmas.List.{take_at, append-nil}
use Rattle.std.proofs.lemmas.List.Elements.{filter-append}
use Rattle.spk_session.specs.declared.answer.Sort.TheVariants as sort
use Rattle.spk_session.specs.Data.{Standing}
use Rattle.spk_session.specs.PacketIds.{is_in, next_id}
use Rattle.spk_session.specs.Step.{without, has_room, after_sent, after_given, after_acked, after_refused, after_reopen, after_rewind}
use Rattle.spk_session.specs.Calls.{Call, Sent, Ack, Refuse, Reopen, Rewind, after_call, after_calls, LeavesIds}
use Rattle.spk_session.proofs.IdLemmas.{without-absent}

-- these ids stand in front
pub record StartsWith (ids used : List ℕ) : Type 0 where
  pub rest : List ℕ
  pub is : used ≡ ids ++ rest

starts-sent : (ids : List ℕ) (s : Standing) → StartsWith ids s.used → StartsWith ids (after_sent s).used
starts-sent ids s h = elim (has_room s.used) as (λ b. StartsWith ids (cond b (after_given s (next_id s.used s.last)) s).used) [
  | true ↦ record { rest = h.rest ++ next_id s.used s.last ∷ []; is = ap (λ xs. xs ++ next_id s.used s.last ∷ []) h.is ∙ append_assoc ids h.rest (next_id s.used s.last ∷ []) }
  | false ↦ h
]

starts-acked : (ids : List ℕ) (s : Standing) (id : ℕ) → is_in ids id ≡ false → StartsWith ids s.used → StartsWith ids (without id s.used)
starts-acked ids s id absent h = record {
  rest = without id h.rest;
  is = ap (without id) h.is ∙ filter-append (λ other. not (eqb other id)) ids h.rest ∙ ap (λ xs. xs ++ without id h.rest) (without-absent id ids absent);
}

take-past : (ids rest : List ℕ) (n : ℕ) → length ids ≤ n → take n (ids ++ rest) ≡ ids ++ take (n - length ids) rest
take-past [] rest n h = ap (λ m. take m rest) (omega arith)
take-past (x ∷ ids) rest zero h = absurd (omega arith)
take-past (x ∷ ids) rest (suc n) h = ap (λ xs. x ∷ xs) (take-past ids rest n (omega arith) ∙ ap (λ m. ids ++ take m rest) (omega arith))

starts-rewound : (ids : List ℕ) (s : Standing) (n : ℕ) → length ids ≤ n → StartsWith ids s.used → StartsWith ids (take n s.used)
starts-rewound ids s n many h = record { rest = take (n - length ids) h.rest; is = ap (take n) h.is ∙ take-past ids h.rest n many }

starts : (ids : List ℕ) (calls : List Call) (s : Standing) → LeavesIds ids calls → StartsWith ids s.used → StartsWith ids (after_calls s calls).used
starts ids [] s leaves h = h
starts ids (Sent ∷ calls) s leaves h = starts ids calls (after_sent s) leaves (starts-sent ids s h)
starts ids (Ack id ∷ calls) s leaves h = starts ids calls (after_acked s id) leaves.1 (starts-acked ids s id leaves.0 h)
starts ids (Refuse sort.QosZero ∷ calls) s leaves h = starts ids calls (after_refused s sort.QosZero) leaves h
starts ids (Refuse sort.Other ∷ calls) s leaves h = starts ids calls s leaves h
starts ids (Reopen ∷ calls) s leaves h = starts ids calls (after_reopen s) leaves h
starts ids (Rewind n last ∷ calls) s leaves h = starts ids calls (after_rewind s n last) leaves.1 (starts-rewound ids s n leaves.0 h)

-- no call changes the limit
pub limit-call : (s : Standing) (call : Call) → (after_call s call).limit ≡ s.limit
limit-call s Sent = elim (has_room s.used) as (λ b. (cond b (after_given s (next_id s.used s.last)) s).limit ≡ s.limit) [ true ↦ refl | false ↦ refl ]
limit-call s (Ack id) = refl
limit-call s (Refuse sort.QosZero) = refl
limit-call s (Refuse sort.Other) = refl
limit-call s Reopen = refl
limit-call s (Rewind n last) = refl

pub limit-calls : (s : Standing) (calls : List Call) → (after_calls s calls).limit ≡ s.limit
limit-calls s [] = refl
limit-calls s (call ∷ calls) = limit-calls (after_call s call) calls ∙ limit-call s call

abbrev standing : List ℕ → ℕ → ℕ → ℕ → Standing
standing used last drops limit = record { used = used; last = last; drops = drops; limit = limit }

same_standing : (s t : Standing) → s.used ≡ t.used → s.last ≡ t.last → s.drops ≡ t.drops → s.limit ≡ t.limit → s ≡ t
same_standing s t a b c d =
    ap (λ x. standing x s.last s.drops s.limit) a ∙ ap (λ x. standing t.used x s.drops s.limit) b
    ∙ ap (λ x. standing t.used t.last x s.limit) c ∙ ap (standing t.used t.last t.drops) d

pub undone : (s : Standing) (calls : List Call) → LeavesIds s.used calls →
    after_rewind (after_calls s calls) (length s.used) s.last ≡ record s { drops = (after_calls s calls).drops }
undone s calls leaves =
    let h : StartsWith s.used (after_calls s calls).used = starts s.used calls s leaves (record { rest = []; is = sym (append-nil s.used) }) in
    same_standing _ _ (ap (take (length s.used)) h.is ∙ take_at s.used h.rest (length s.used) refl) refl refl (limit-calls s calls)
