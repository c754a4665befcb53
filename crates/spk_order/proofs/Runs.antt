-- Payloads taken out of the slots in a row, and the slots of the others.
use Rattle.std.proofs.Common.{◌≡◌, ◌≢◌, ℕ, ◌+◌, ◌-◌, ◌%◌, ◌<◌, ◌≤◌, List, [], ◌∷◌, ◌++◌, map, set, Option, Some, None, refl, ◌∙◌, ap, arith, append_assoc, get_or-set_other}
use Rattle.std.specs.List.{range_with_len}
use Rattle.std.proofs.lemmas.List.{map-append}
use Rattle.std.proofs.lemmas.List.FromFn.{map-range_with_len_more}
use Rattle.spk_sequence.specs.Step.{ahead}
use Rattle.spk_order.specs.Ordered.{kept_at}

-- one more is taken
pub taken_more : {T : Type 0} (taken first : List T) (payload : T) (slot : ℕ → Option T) (d : ℕ) → 0 < d →
    map Some taken ≡ map Some first ++ map slot (range_with_len 1 (d - 1)) → Some payload ≡ slot d →
    map Some (taken ++ payload ∷ []) ≡ map Some first ++ map slot (range_with_len 1 (d + 1 - 1))
taken_more taken first payload slot d some were is =
    let more : map slot (range_with_len 1 (d - 1 + 1)) ≡ map slot (range_with_len 1 (d - 1)) ++ slot d ∷ [] =
    map-range_with_len_more slot 1 (d - 1) d (omega arith) in
    let count : d + 1 - 1 ≡ d - 1 + 1 = omega arith in
    rw (count, more, map-append, were, ← is, append_assoc) refl

-- the number so far ahead
pub ahead_at : (number d : ℕ) → number < 256 → d < 256 → ahead ((number + d) % 256) number ≡ d
ahead_at number d byte few = omega arith

-- a slot that is taken is not that of a number further ahead, nor that of the number itself
pub not_taken : (number d x : ℕ) → number < 256 → d < 256 → 0 < d → (0 < ahead x number → d + 1 ≤ ahead x number) → x ≢ (number + d) % 256
not_taken number d x byte few some further = λ e.
    let at : ahead x number ≡ d = ap (λ y. ahead y number) e ∙ ahead_at number d byte few in
    absurd (omega arith)

pub others_more : {T : Type 0} (slots first : List (Option T)) (number d : ℕ) → number < 256 → d < 256 → 0 < d →
    ((x : ℕ) → x < 256 → (0 < ahead x number → d ≤ ahead x number) → kept_at slots x ≡ kept_at first x) →
    (x : ℕ) → x < 256 → (0 < ahead x number → d + 1 ≤ ahead x number) → kept_at (set slots ((number + d) % 256) None) x ≡ kept_at first x
others_more slots first number d byte few some same x fits further =
    get_or-set_other slots ((number + d) % 256) x None None (not_taken number d x byte few some further)
    ∙ same x fits (λ positive. let more : d + 1 ≤ ahead x number = further positive in omega arith)

-- the slot of the number so far ahead is as it was
pub next_slot : {T : Type 0} (slots first : List (Option T)) (number d : ℕ) → number < 256 → d < 256 →
    ((x : ℕ) → x < 256 → (0 < ahead x number → d ≤ ahead x number) → kept_at slots x ≡ kept_at first x) →
    kept_at slots ((number + d) % 256) ≡ kept_at first ((number + d) % 256)
next_slot slots first number d byte few same =
    same ((number + d) % 256) (omega arith) (λ positive. let at : ahead ((number + d) % 256) number ≡ d = ahead_at number d byte few in omega arith)

-- as many numbers follow, one way or the other
pub same_count : {T : Type 0} (first : List T) (slot : ℕ → Option T) (d count : ℕ) → d - 1 ≡ count - 1 →
    map Some first ++ map slot (range_with_len 1 (d - 1)) ≡ map Some first ++ map slot (range_with_len 1 (count - 1))
same_count first slot d count same = ap (λ n. map Some first ++ map slot (range_with_len 1 n)) same
