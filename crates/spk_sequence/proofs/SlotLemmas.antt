-- The slots, by what each slot holds.
use Rattle.std.proofs.Common.{◌≡◌, ℕ, ◌*◌, ◌%◌, ◌^◌, ◌<◌, ◌≢◌, false, not, cond, eqb, List, length, get_or, set, replicate, refl, sym, ◌∙◌, ap, arith, Option, Some, None, is_some, inl, inr, subst, bit_and, bit_or, nat_eq}
use Rattle.std.specs.List.{list_any}
use Rattle.std.specs.Int.{bit_at, bit_not, w128}
use Rattle.std.proofs.lemmas.Nat.Bits.{bit_at_set_same, bit_at_set_other, bit_at_clear_same, bit_at_clear_other, same_from_bits_below, bit_at-zero, bit_at-lt}
use Rattle.std.proofs.lemmas.List.{get_or-set_same, get_or-set_other, length-set, length-replicate}
use Rattle.std.proofs.lemmas.List.FromFn.{length-map-range_with_len}
use Rattle.std.proofs.lemmas.Bool.{true≢false, cases_eq, cases_Bool, eq-eqb, ne_eqb}
use Rattle.spk_sequence.specs.Data.{held_at}
use Rattle.spk_sequence.specs.Slots.{slots_of}
use Rattle.spk_sequence.proofs.Places.{same_places, held_at-made, held_at-empty, none_held, none_held-from}

pub length-slots_of : (mask : ℕ) (stamps : List (Option ℕ)) → length (slots_of mask stamps) ≡ 128
unfolding slots_of
length-slots_of mask stamps = length-map-range_with_len {X = Option (Option ℕ)} (λ i. cond (eqb (bit_at mask i) 1) (Some (get_or stamps i None)) None) 0 128

-- what a slot holds, by its bit
pub slot_is : (mask : ℕ) (stamps : List (Option ℕ)) (k : ℕ) → k < 128 → held_at (slots_of mask stamps) k ≡ cond (eqb (bit_at mask k) 1) (Some (get_or stamps k None)) None
unfolding slots_of
slot_is mask stamps k below = held_at-made (λ i. cond (eqb (bit_at mask i) 1) (Some (get_or stamps i None)) None) 128 k below

pub slot_full : (mask : ℕ) (stamps : List (Option ℕ)) (k : ℕ) → k < 128 → bit_at mask k ≡ 1 → held_at (slots_of mask stamps) k ≡ Some (get_or stamps k None)
slot_full mask stamps k below e = slot_is mask stamps k below ∙ ap (λ b. cond b (Some (get_or stamps k None)) None) (eq-eqb (bit_at mask k) 1 e)

pub slot_empty : (mask : ℕ) (stamps : List (Option ℕ)) (k : ℕ) → k < 128 → bit_at mask k ≢ 1 → held_at (slots_of mask stamps) k ≡ None
slot_empty mask stamps k below e = slot_is mask stamps k below ∙ ap (λ b. cond b (Some (get_or stamps k None)) None) (ne_eqb (bit_at mask k) 1 e)

-- two masks that have one bit at a slot, and stamps that have one stamp there
pub same_slot : (m n : ℕ) (xs ys : List (Option ℕ)) (k : ℕ) → k < 128 → bit_at m k ≡ bit_at n k → get_or xs k None ≡ get_or ys k None → held_at (slots_of m xs) k ≡ held_at (slots_of n ys) k
same_slot m n xs ys k below e f = slot_is m xs k below ∙ (let g : cond (eqb (bit_at m k) 1) (Some (get_or xs k None)) None ≡ cond (eqb (bit_at n k) 1) (Some (get_or ys k None)) None = rw (e, f) refl in g) ∙ sym (slot_is n ys k below)

pub slots_of-put : (mask slot : ℕ) (stamps : List (Option ℕ)) (stamp : Option ℕ) → slot < 128 → length stamps ≡ 128 → slots_of (bit_or mask (1 * 2 ^ slot % 2 ^ 128)) (set stamps slot stamp) ≡ set (slots_of mask stamps) slot (Some stamp)
slots_of-put mask slot stamps stamp below e =
    same_places _ _ 128 (length-slots_of _ _) (length-set (slots_of mask stamps) slot (Some stamp) ∙ length-slots_of mask stamps) (λ k lt.
    elim (cases_eq k slot) [
      | inl same ↦ subst (λ j. held_at (slots_of (bit_or mask (1 * 2 ^ slot % 2 ^ 128)) (set stamps slot stamp)) j ≡ held_at (set (slots_of mask stamps) slot (Some stamp)) j) (sym same)
          (slot_full _ _ slot below (bit_at_set_same w128 mask slot below)
          ∙ ap Some (get_or-set_same stamps slot stamp None (let l : slot < length stamps = omega arith in l))
          ∙ sym (get_or-set_same (slots_of mask stamps) slot (Some stamp) None (let l : slot < length (slots_of mask stamps) = omega (arith, length-slots_of mask stamps) in l)))
      | inr other ↦ same_slot _ mask _ stamps k lt (bit_at_set_other w128 mask slot below k other) (get_or-set_other stamps slot k stamp None other)
          ∙ sym (get_or-set_other (slots_of mask stamps) slot k (Some stamp) None other)
    ])

pub slots_of-clear : (mask slot : ℕ) (stamps : List (Option ℕ)) → slot < 128 → slots_of (bit_and mask (bit_not w128 (1 * 2 ^ slot % 2 ^ 128))) stamps ≡ set (slots_of mask stamps) slot None
slots_of-clear mask slot stamps below =
    same_places _ _ 128 (length-slots_of _ _) (length-set (slots_of mask stamps) slot None ∙ length-slots_of mask stamps) (λ k lt.
    elim (cases_eq k slot) [
      | inl same ↦ subst (λ j. held_at (slots_of (bit_and mask (bit_not w128 (1 * 2 ^ slot % 2 ^ 128))) stamps) j ≡ held_at (set (slots_of mask stamps) slot None) j) (sym same)
          (slot_empty _ _ slot below (let z : bit_at (bit_and mask (bit_not w128 (1 * 2 ^ slot % 2 ^ 128))) slot ≡ 0 = bit_at_clear_same w128 mask slot below in λ one. omega arith)
          ∙ sym (get_or-set_same (slots_of mask stamps) slot None None (let l : slot < length (slots_of mask stamps) = omega (arith, length-slots_of mask stamps) in l)))
      | inr other ↦ same_slot _ mask stamps stamps k lt (bit_at_clear_other w128 mask slot below k lt other) refl
          ∙ sym (get_or-set_other (slots_of mask stamps) slot k None None other)
    ])

-- no bit set, no slot full
pub slots_of-zero : (stamps : List (Option ℕ)) → slots_of 0 stamps ≡ replicate 128 None
slots_of-zero stamps = same_places _ _ 128 (length-slots_of _ _) (length-replicate {A = Option (Option ℕ)} 128 None) (λ k lt.
    slot_empty 0 stamps k lt (let z : bit_at 0 k ≡ 0 = bit_at-zero k in λ one. omega arith) ∙ sym (held_at-empty 128 k))

-- the mask is 0 exactly where no slot is full
pub mask_is_zero : (mask : ℕ) (stamps : List (Option ℕ)) → mask < 2 ^ 128 → nat_eq mask 0 ≡ not (list_any is_some (slots_of mask stamps))
mask_is_zero mask stamps fits = elim (cases_Bool (list_any is_some (slots_of mask stamps))) [
  | inl some ↦ ne_eqb mask 0 (λ zero. true≢false (sym some ∙ subst (λ m. list_any is_some (slots_of m stamps) ≡ false) (sym zero) (none_held-from (slots_of 0 stamps) (λ i below. ap (λ s. held_at s i) (slots_of-zero stamps) ∙ held_at-empty 128 i))))
      ∙ sym (ap not some)
  | inr none ↦ eq-eqb mask 0 (same_from_bits_below 128 mask 0 fits (omega arith) (λ i below.
      elim (cases_eq (bit_at mask i) 1) [
        | inl one ↦ absurd (let e : Some (get_or stamps i None) ≡ None = sym (slot_full mask stamps i below one) ∙ none_held _ none i in cc)
        | inr other ↦ (let l : bit_at mask i < 2 = bit_at-lt mask i in let z : bit_at mask i ≡ 0 = omega arith in z) ∙ sym (bit_at-zero i)
      ]))
      ∙ sym (ap not none)
]
