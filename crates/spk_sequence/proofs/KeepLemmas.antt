-- A birth's pass over the slots.
use Rattle.std.proofs.Common.{◌≡◌, ℕ, ◌+◌, ◌%◌, ◌<◌, ◌≤◌, ◌&&◌, Bool, true, false, cond, nat_lt, List, length, get_or, refl, sym, ◌∙◌, ap, arith, Option, None, inl, inr}
use Rattle.std.proofs.lemmas.List.FromFn.{length-map-range_with_len}
use Rattle.std.proofs.lemmas.Bool.{cases_lt, lt-ltb, le-ltb}
use Rattle.spk_sequence.specs.Data.{Standing, held_at}
use Rattle.spk_sequence.specs.Step.{ahead, is_kept, places_from, kept_places}
use Rattle.spk_sequence.specs.Slots.{places_of, number_in, left_in, IsClearPast, IsKeptBy}
use Rattle.spk_sequence.proofs.Places.{same_places, held_at-made, held_at-past}
use Rattle.spk_sequence.proofs.WindowLemmas.{length-places_of, held_at-places_of, held_at-places_from, length-places_from, place_at-like}

-- the slots below this one are as a birth leaves them, and the others as they were
pub record IsKeptTo (old new : List (Option (Option ℕ))) (from width number stamp slot : ℕ) : Type 0 where
  pub sized : length new ≡ 128
  pub left : (k : ℕ) → k < slot → get_or new k None ≡ left_in old from width number stamp k
  pub others : (k : ℕ) → slot ≤ k → get_or new k None ≡ get_or old k None

-- a slot whose number is less than 128 ahead of the old next one stands for the number past the birth's
past_near : (number next i : ℕ) → number < 256 → next < 256 → i < 95 → ahead (number + 1 + i) next < 128 → ahead (number_in next ((number + (1 + i)) % 128)) number ≡ i + 1
past_near number next i byte old few near = omega arith

past_far : (number next i : ℕ) → number < 256 → next < 256 → i < 95 → 128 ≤ ahead (number + 1 + i) next → 128 ≤ ahead (number_in next ((number + (1 + i)) % 128)) number
past_far number next i byte old few far = omega arith

same_kept : (a b c : Bool) (x y : Option (Option ℕ)) (stamp : ℕ) → a ≡ true → b ≡ true → c ≡ true → x ≡ y → cond (a && b && is_kept x stamp) x None ≡ cond (c && is_kept y stamp) y None
same_kept a b c x y stamp p q r e = rw (p, q, r, e) refl

drop_far : (a b c : Bool) (x y : Option (Option ℕ)) (stamp : ℕ) → b ≡ false → y ≡ None → cond (a && b && is_kept x stamp) x None ≡ cond (c && is_kept y stamp) y None
drop_far true b true x y stamp q e = rw (q, e) refl
drop_far true b false x y stamp q e = rw q refl
drop_far false b true x y stamp q e = rw e refl
drop_far false b false x y stamp q e = refl

drop_past : (c : Bool) (y : Option (Option ℕ)) (stamp : ℕ) → c ≡ false → None ≡ cond (c && is_kept y stamp) y None
drop_past c y stamp q = rw q refl

-- what a birth leaves in the slots are the places that it keeps
pub places_of-kept : (s : Standing) (old new : List (Option (Option ℕ))) (number stamp : ℕ) → s.width ≤ 96 → s.next < 256 → number < 256 → s.held ≡ places_of old s.next s.width → IsClearPast old s.next s.width → IsKeptBy old new s.next s.width number stamp → places_from (places_of new number s.width) s.width 1 ≡ kept_places s number stamp
places_of-kept s old new number stamp most byte fits view p kb =
    let w : ℕ = s.width in
    let x : ℕ = s.next in
    let entry = λ (i : ℕ). held_at s.held (ahead (number + 1 + i) x) in
    let past = λ (i : ℕ). ahead (number_in x ((number + (1 + i)) % 128)) number in
    same_places _ _ w (length-places_from (places_of new number w) w 1) (length-map-range_with_len (λ i. cond (nat_lt (i + 1) w && is_kept (entry i) stamp) (entry i) None) 0 w) (λ i below.
    held_at-places_from (places_of new number w) w 1 i below
    ∙ (elim (cases_lt (1 + i) w) [
      | inl inside ↦ held_at-places_of new number w (1 + i) inside ∙ kb.left ((number + (1 + i)) % 128) (omega arith)
          ∙ elim (cases_lt (ahead (number + 1 + i) x) 128) [
            | inl near ↦
                let is : past i ≡ i + 1 = past_near number x i fits byte (omega arith) near in
                same_kept (nat_lt 0 (past i)) (nat_lt (past i) w) (nat_lt (i + 1) w) (get_or old ((number + (1 + i)) % 128) None) (entry i) stamp
                (lt-ltb 0 (past i) (omega arith)) (lt-ltb (past i) w (omega arith)) (lt-ltb (i + 1) w (omega arith))
                (place_at-like old number x (1 + i) (ahead (number + 1 + i) x) (omega arith)
                ∙ (elim (cases_lt (ahead (number + 1 + i) x) w) [
                  | inl held ↦ sym (held_at-places_of old x w (ahead (number + 1 + i) x) held)
                  | inr far ↦ p.clear (ahead (number + 1 + i) x) far near ∙ sym (held_at-past (places_of old x w) (ahead (number + 1 + i) x) (omega (arith, length-places_of old x w)))
                ])
                ∙ ap (λ h. held_at h (ahead (number + 1 + i) x)) (sym view))
            | inr far ↦
                let is : 128 ≤ past i = past_far number x i fits byte (omega arith) far in
                drop_far (nat_lt 0 (past i)) (nat_lt (past i) w) (nat_lt (i + 1) w) (get_or old ((number + (1 + i)) % 128) None) (entry i) stamp
                (le-ltb (past i) w (omega arith))
                (ap (λ h. held_at h (ahead (number + 1 + i) x)) view ∙ held_at-past (places_of old x w) (ahead (number + 1 + i) x) (omega (arith, length-places_of old x w)))
          ]
      | inr past_all ↦ held_at-past (places_of new number w) (1 + i) (omega (arith, length-places_of new number w))
          ∙ drop_past (nat_lt (i + 1) w) (entry i) stamp (le-ltb (i + 1) w (omega arith))
    ])
    ∙ sym (held_at-made (λ j. cond (nat_lt (j + 1) w && is_kept (entry j) stamp) (entry j) None) w i below))
