-- The places of the window, by the slots behind them.
use Rattle.std.proofs.Common.{◌≡◌, ℕ, ◌+◌, ◌-◌, ◌%◌, ◌<◌, ◌≤◌, true, false, List, length, get_or, set, replicate, refl, sym, ◌∙◌, ap, arith, Option, Some, None, is_some, inl, inr, subst, if◌then◌else◌}
use Rattle.std.specs.List.{list_any}
use Rattle.std.proofs.lemmas.List.{get_or-set_same, get_or-set_other, length-set, length-replicate}
use Rattle.std.proofs.lemmas.List.FromFn.{length-map-range_with_len}
use Rattle.std.proofs.lemmas.List.Sums.{prefix_len_is, prefix_len_stops, prefix_len-le-length}
use Rattle.std.proofs.lemmas.Bool.{true≢false, cases_lt, cases_eq, cases_Bool}
use Rattle.spk_sequence.specs.declared.phase.Phase.TheVariants.{Live}
use Rattle.spk_sequence.specs.Data.{Standing, IsWhole, held_at}
use Rattle.spk_sequence.specs.Step.{ahead, places_from, run_of, empty_places, after_consumed, after_held, is_any_held}
use Rattle.spk_sequence.specs.Slots.{place_at, places_of, IsClearPast, IsWithin, IsClearedTo}
use Rattle.spk_sequence.proofs.Places.{same_places, held_at-made, held_at-past, held_at-empty, none_held, none_held-from}

pub length-places_of : (slots : List (Option (Option ℕ))) (from width : ℕ) → length (places_of slots from width) ≡ width
unfolding places_of
length-places_of slots from width = length-map-range_with_len (place_at slots from) 0 width

pub held_at-places_of : (slots : List (Option (Option ℕ))) (from width i : ℕ) → i < width → held_at (places_of slots from width) i ≡ place_at slots from i
unfolding places_of
held_at-places_of slots from width i below = held_at-made (place_at slots from) width i below

pub held_at-places_from : (held : List (Option (Option ℕ))) (width k i : ℕ) → i < width → held_at (places_from held width k) i ≡ held_at held (k + i)
held_at-places_from held width k i below = held_at-made (λ j. held_at held (k + j)) width i below

pub length-places_from : (held : List (Option (Option ℕ))) (width k : ℕ) → length (places_from held width k) ≡ width
length-places_from held width k = length-map-range_with_len (λ i. held_at held (k + i)) 0 width

-- a place depends on the number modulo 128 alone
pub place_at-like : (slots : List (Option (Option ℕ))) (m n i j : ℕ) → (m + i) % 128 ≡ (n + j) % 128 → place_at slots m i ≡ place_at slots n j
place_at-like slots m n i j e = ap (λ k. get_or slots k None) e

-- the data is whole
pub whole_from : (s : Standing) (slots : List (Option (Option ℕ))) → s.held ≡ places_of slots s.next s.width → IsWithin slots s.next s.width → IsWhole s
whole_from s slots e w = record {
  some_places = w.some_places;
  few_places = w.few_places;
  one_byte = w.one_byte;
  all_places = ap length e ∙ length-places_of slots s.next s.width;
  next_not_held = ap (λ h. held_at h 0) e ∙ held_at-places_of slots s.next s.width 0 w.some_places ∙ w.first;
}

-- without any full slot
pub within_empty : (from width : ℕ) → 0 < width → width ≤ 96 → from < 256 → IsWithin (replicate 128 None) from width
within_empty from width low high byte = record {
  some_places = low;
  few_places = high;
  one_byte = byte;
  past = record { sized = length-replicate {A = Option (Option ℕ)} 128 None; clear = λ i low high. held_at-empty 128 ((from + i) % 128) };
  first = held_at-empty 128 ((from + 0) % 128);
}

pub places_of-empty : (from width : ℕ) → places_of (replicate 128 None) from width ≡ empty_places width
places_of-empty from width = same_places _ _ width (length-places_of _ from width) (length-replicate {A = Option (Option ℕ)} width None) (λ k below.
    held_at-places_of (replicate 128 None) from width k below ∙ held_at-empty 128 ((from + k) % 128) ∙ sym (held_at-empty width k))

-- a slot is full exactly where a place is
pub is_any_held-places_of : (slots : List (Option (Option ℕ))) (from width : ℕ) → IsWithin slots from width → list_any is_some slots ≡ list_any is_some (places_of slots from width)
is_any_held-places_of slots from width w = elim (cases_Bool (list_any is_some slots)) [
  | inl some ↦ some ∙ elim (cases_Bool (list_any is_some (places_of slots from width))) [
    | inl held ↦ sym held
    | inr none ↦ absurd (true≢false (sym some ∙ none_held-from slots (λ k below.
        let i : ℕ = (k + 128 - from % 128) % 128 in
        let sized : length slots ≡ 128 = w.past.sized in
        let at : (from + i) % 128 ≡ k = omega arith in
        ap (λ j. get_or slots j None) (sym at) ∙ elim (cases_lt i width) [
          | inl inside ↦ sym (held_at-places_of slots from width i inside) ∙ none_held _ none i
          | inr past ↦ w.past.clear i past (omega arith)
        ])))
  ]
  | inr none ↦ none ∙ sym (none_held-from (places_of slots from width) (λ i below.
      let inside : i < width = omega (arith, length-places_of slots from width) in
      held_at-places_of slots from width i inside ∙ none_held slots none ((from + i) % 128)))
]

-- a run that stops where no message is held
pub run_is : (slots : List (Option (Option ℕ))) (from width n : ℕ) → n ≤ width → ((k : ℕ) → k < n → is_some (place_at slots from k) ≡ true) → (n < width → is_some (place_at slots from n) ≡ false) → n ≡ run_of (places_of slots from width)
run_is slots from width n most full stops =
    let sized : length (places_of slots from width) ≡ width = length-places_of slots from width in
    sym (prefix_len_is is_some (places_of slots from width) n None (omega arith)
    (λ k below. ap is_some (held_at-places_of slots from width k (omega arith)) ∙ full k below)
    (λ below. let inside : n < width = omega arith in ap is_some (held_at-places_of slots from width n inside) ∙ stops inside))

-- one message more is held
pub places_of-set : (slots : List (Option (Option ℕ))) (from width place slot : ℕ) (entry : Option (Option ℕ)) → width ≤ 128 → place < width → length slots ≡ 128 → slot ≡ (from + place) % 128 → places_of (set slots slot entry) from width ≡ set (places_of slots from width) place entry
places_of-set slots from width place slot entry most below sized at =
    same_places _ _ width (length-places_of _ from width) (length-set (places_of slots from width) place entry ∙ length-places_of slots from width) (λ k lt.
    held_at-places_of (set slots slot entry) from width k lt ∙ elim (cases_eq k place) [
      | inl same ↦ (let there : (from + k) % 128 ≡ slot = ap (λ j. (from + j) % 128) same ∙ sym at in let fits : slot < length slots = omega arith in
          ap (λ j. get_or (set slots slot entry) j None) there ∙ get_or-set_same slots slot entry None fits)
          ∙ sym (ap (held_at (set (places_of slots from width) place entry)) same ∙ get_or-set_same (places_of slots from width) place entry None (let l : place < length (places_of slots from width) = omega (arith, length-places_of slots from width) in l))
      | inr other ↦ get_or-set_other slots slot ((from + k) % 128) entry None (λ e. other (omega arith))
          ∙ sym (held_at-places_of slots from width k lt)
          ∙ sym (get_or-set_other (places_of slots from width) place k entry None other)
    ])

-- the places counted from one number further on
pub places_of-next : (slots : List (Option (Option ℕ))) (from width : ℕ) → IsWithin slots from width → places_of slots ((from + 1) % 256) width ≡ places_from (places_of slots from width) width 1
places_of-next slots from width w = let most : width ≤ 96 = w.few_places in same_places _ _ width (length-places_of _ _ width) (length-places_from _ width 1) (λ i below.
    held_at-places_of slots ((from + 1) % 256) width i below
    ∙ place_at-like slots ((from + 1) % 256) from i (1 + i) (omega arith)
    ∙ (elim (cases_lt (1 + i) width) [
      | inl inside ↦ sym (held_at-places_of slots from width (1 + i) inside)
      | inr past ↦ w.past.clear (1 + i) past (omega arith) ∙ sym (held_at-past (places_of slots from width) (1 + i) (omega (arith, length-places_of slots from width)))
    ])
    ∙ sym (held_at-places_from (places_of slots from width) width 1 i below))

pub clear_past-next : (slots : List (Option (Option ℕ))) (from width : ℕ) → IsWithin slots from width → IsClearPast slots ((from + 1) % 256) width
clear_past-next slots from width w = let most : width ≤ 96 = w.few_places in record {
  sized = w.past.sized;
  clear = λ i low high. elim (cases_lt (1 + i) 128) [
    | inl inside ↦ place_at-like slots ((from + 1) % 256) from i (1 + i) (omega arith) ∙ w.past.clear (1 + i) (omega arith) inside
    | inr last ↦ place_at-like slots ((from + 1) % 256) from i 0 (omega arith) ∙ w.first
  ];
}

-- a place past a run that was taken out
moved_place : (old new : List (Option (Option ℕ))) (from width count i : ℕ) → width ≤ 96 → count ≤ width → i < 128 → IsClearPast old from width → IsClearedTo old new from count → place_at new ((from + count) % 256) i ≡ held_at (places_of old from width) (count + i)
moved_place old new from width count i most few below p c = elim (cases_lt (count + i) 128) [
  | inl inside ↦ place_at-like new ((from + count) % 256) from i (count + i) (omega arith) ∙ c.others (count + i) (omega arith) inside
      ∙ elim (cases_lt (count + i) width) [
        | inl held ↦ sym (held_at-places_of old from width (count + i) held)
        | inr past ↦ p.clear (count + i) past inside ∙ sym (held_at-past (places_of old from width) (count + i) (omega (arith, length-places_of old from width)))
      ]
  | inr round ↦ place_at-like new ((from + count) % 256) from i (count + i - 128) (omega arith) ∙ c.empty (count + i - 128) (omega arith)
      ∙ sym (held_at-past (places_of old from width) (count + i) (omega (arith, length-places_of old from width)))
]

-- the places that stay where a run of messages was taken out
pub places_of-moved : (old new : List (Option (Option ℕ))) (from width count : ℕ) → width ≤ 96 → count ≤ width → IsClearPast old from width → IsClearedTo old new from count → places_of new ((from + count) % 256) width ≡ places_from (places_of old from width) width count
places_of-moved old new from width count most few p c = same_places _ _ width (length-places_of _ _ width) (length-places_from _ width count) (λ i below.
    held_at-places_of new ((from + count) % 256) width i below
    ∙ moved_place old new from width count i most few (omega arith) p c
    ∙ sym (held_at-places_from (places_of old from width) width count i below))

is_none : (o : Option (Option ℕ)) → is_some o ≡ false → o ≡ None
is_none None e = refl
is_none (Some x) e = absurd (true≢false e)

-- where a run stops nothing is held
run_stops : (held : List (Option (Option ℕ))) → held_at held (run_of held) ≡ None
run_stops held = elim (cases_lt (run_of held) (length held)) [
  | inl inside ↦ is_none _ (prefix_len_stops is_some held None inside)
  | inr past ↦ held_at-past held (run_of held) past
]

pub within_moved : (old new : List (Option (Option ℕ))) (from width count : ℕ) → 0 < width → width ≤ 96 → count ≡ run_of (places_of old from width) → IsClearPast old from width → IsClearedTo old new from count → IsWithin new ((from + count) % 256) width
within_moved old new from width count some most e p c =
    let few : count ≤ width = omega (arith, prefix_len-le-length is_some (places_of old from width), length-places_of old from width) in
    record {
      some_places = some;
      few_places = most;
      one_byte = omega arith;
      past = record {
        sized = c.sized;
        clear = λ i low high. moved_place old new from width count i most few high p c ∙ held_at-past (places_of old from width) (count + i) (omega (arith, length-places_of old from width));
      };
      first = moved_place old new from width count 0 most few (omega arith) p c
          ∙ (let z : count + 0 ≡ run_of (places_of old from width) = omega arith in ap (held_at (places_of old from width)) z)
          ∙ run_stops (places_of old from width);
    }

-- records that differ in what is held alone
pub with_held : (s : Standing) (h g : List (Option (Option ℕ))) → h ≡ g → record s { held = h } ≡ record s { held = g }
with_held s h g e = ap (λ (x : List (Option (Option ℕ))). let r : Standing = record s { held = x } in r) e

consumed_same : (s : Standing) (m n now : ℕ) (h g : List (Option (Option ℕ))) → m ≡ n → h ≡ g → record s { phase = Live; next = m; since = now; held = h } ≡ record s { phase = Live; next = n; since = now; held = g }
consumed_same s m n now h g p q = rw (p, q) refl

-- the places after the message that comes next was consumed
rest_is : (old : Standing) (slots : List (Option (Option ℕ))) (number : ℕ) → old.held ≡ places_of slots old.next old.width → IsWithin slots old.next old.width → number ≡ old.next → places_of slots ((number + 1) % 256) old.width ≡ places_from old.held old.width 1
rest_is old slots number view w e =
    ap (λ n. places_of slots ((n + 1) % 256) old.width) e ∙ places_of-next slots old.next old.width w ∙ ap (λ h. places_from h old.width 1) (sym view)

pub run_of-rest : (old : Standing) (slots : List (Option (Option ℕ))) (number run width : ℕ) → old.held ≡ places_of slots old.next old.width → IsWithin slots old.next old.width → number ≡ old.next → width ≡ old.width → run ≡ run_of (places_of slots ((number + 1) % 256) width) → run ≡ run_of (places_from old.held old.width 1)
run_of-rest old slots number run width view w e same r =
    r ∙ ap (λ v. run_of (places_of slots ((number + 1) % 256) v)) same ∙ ap run_of (rest_is old slots number view w e)

clear_past_rest : (slots : List (Option (Option ℕ))) (next width number : ℕ) → IsWithin slots next width → number ≡ next → IsClearPast slots ((number + 1) % 256) width
clear_past_rest slots next width number w e = subst (λ n. IsClearPast slots ((n + 1) % 256) width) (sym e) (clear_past-next slots next width w)

pub consumed_is : (old : Standing) (slots new : List (Option (Option ℕ))) (number run width now : ℕ) → old.held ≡ places_of slots old.next old.width → IsWithin slots old.next old.width → number ≡ old.next → width ≡ old.width → run ≡ run_of (places_of slots ((number + 1) % 256) width) → IsClearedTo slots new ((number + 1) % 256) run →
    record old { phase = Live; next = ((number + 1) % 256 + run) % 256; since = now; held = places_of new (((number + 1) % 256 + run) % 256) old.width } ≡ after_consumed old number (places_from old.held old.width 1) now
consumed_is old slots new number run width now view w e same r c =
    let rest = places_from old.held old.width 1 in
    let shift : places_of slots ((number + 1) % 256) old.width ≡ rest = rest_is old slots number view w e in
    let count : run ≡ run_of rest = run_of-rest old slots number run width view w e same r in
    let most : old.width ≤ 96 = w.few_places in
    let few : run ≤ old.width = omega (arith, prefix_len-le-length is_some rest, length-places_from old.held old.width 1) in
    consumed_same old _ _ now _ _ (omega arith)
    (places_of-moved slots new ((number + 1) % 256) old.width run most few (clear_past_rest slots old.next old.width number w e) c
    ∙ ap (λ h. places_from h old.width run) shift ∙ ap (places_from rest old.width) count)

pub within_consumed : (slots new : List (Option (Option ℕ))) (next places number run width : ℕ) → IsWithin slots next places → number ≡ next → width ≡ places → run ≡ run_of (places_of slots ((number + 1) % 256) width) → IsClearedTo slots new ((number + 1) % 256) run → IsWithin new (((number + 1) % 256 + run) % 256) places
within_consumed slots new next places number run width w e same r c =
    within_moved slots new ((number + 1) % 256) places run w.some_places w.few_places
    (r ∙ ap (λ v. run_of (places_of slots ((number + 1) % 256) v)) same) (clear_past_rest slots next places number w e) c

-- one message more is held, at another place than the first
pub within_set : (slots : List (Option (Option ℕ))) (from width place slot : ℕ) (entry : Option (Option ℕ)) → IsWithin slots from width → 0 < place → place < width → slot ≡ (from + place) % 256 % 128 → IsWithin (set slots slot entry) from width
within_set slots from width place slot entry w ahead below at =
    let few : width ≤ 96 = w.few_places in
    record {
      some_places = w.some_places;
      few_places = few;
      one_byte = w.one_byte;
      past = record {
        sized = length-set slots slot entry ∙ w.past.sized;
        clear = λ i low high. get_or-set_other slots slot ((from + i) % 128) entry None (λ e. absurd (omega arith)) ∙ w.past.clear i low high;
      };
      first = get_or-set_other slots slot ((from + 0) % 128) entry None (λ e. absurd (omega arith)) ∙ w.first;
    }

held_same : (s : Standing) (m n : ℕ) (h g : List (Option (Option ℕ))) → m ≡ n → h ≡ g → record s { since = m; held = h } ≡ record s { since = n; held = g }
held_same s m n h g p q = rw (p, q) refl

pub held_is : (old : Standing) (slots new : List (Option (Option ℕ))) (place slot since now : ℕ) (stamp : Option ℕ) → old.held ≡ places_of slots old.next old.width → IsWithin slots old.next old.width → place < old.width → slot ≡ (old.next + place) % 256 % 128 → since ≡ (if is_any_held old.held then old.since else now) → new ≡ set slots slot (Some stamp) →
    record old { since = since; held = places_of new old.next old.width } ≡ after_held old place stamp now
held_is old slots new place slot since now stamp view w below at begins e =
    let few : old.width ≤ 96 = w.few_places in
    held_same old _ _ _ _ begins (ap (λ t. places_of t old.next old.width) e
    ∙ places_of-set slots old.next old.width place slot (Some stamp) (omega arith) below w.past.sized (omega arith)
    ∙ ap (λ h. set h place (Some stamp)) (sym view))
