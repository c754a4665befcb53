-- Ids on the circle, and marks of those in use.
use Rattle.std.proofs.Common.{◌≡◌, ◌≢◌, ℕ, ◌+◌, ◌-◌, ◌%◌, ◌<◌, ◌≤◌, Bool, true, false, not, ◌||◌, cond, eqb, List, [], ◌∷◌, length, get_or, set, take, map, replicate, refl, sym, ◌∙◌, ap, arith, subst, inl, inr, Some, unwrap_or, suc, zero}
use Rattle.std.specs.List.{range_with_len, prefix_len, position_or_len, count_by, filter, slice_get, All}
use Rattle.std.proofs.lemmas.Bool.{cases_eq, cases_lt, eq-eqb, ne_eqb, or_right}
use Rattle.std.proofs.Math.Bool.{or-false}
use Rattle.std.proofs.lemmas.List.{get_or-set_same, get_or-set_other, length-set, length-replicate, take_all, get_or-replicate}
use Rattle.std.proofs.lemmas.List.Folds.{list_any_more, find_at, sum_by-replicate}
use Rattle.std.proofs.lemmas.List.Elements.{All-get_or}
use Rattle.std.proofs.lemmas.List.FromFn.{get_or-map-range_with_len, length-map-range_with_len}
use Rattle.std.proofs.lemmas.List.Sums.{sum_by-set, length-filter, position_or_len_is, prefix_len_passes, prefix_len_stops}
use Rattle.std.proofs.lemmas.Option.{slice_get-get_or}
use Rattle.spk_session.specs.PacketIds.{id_after, ids_after, is_in, next_id, IsId, IsNextFree}

-- no id stands behind `last` at two places of the circle
pub one_place : (last j k : ℕ) → j < 65535 → k < 65535 → id_after last j ≡ id_after last k → j ≡ k
one_place last j k p q e = omega arith

-- one more id, whose place is marked
pub mark-same : (used : List ℕ) (i last steps : ℕ) → i < length used → id_after last steps ≡ get_or used i 0 → is_in (take (i + 1) used) (id_after last steps) ≡ true
mark-same used i last steps h e =
    list_any_more (λ other. eqb other (id_after last steps)) used i 0 h ∙ or_right _ _ (eq-eqb _ _ (sym e))

-- at another place nothing changes
pub mark-other : (used : List ℕ) (i last steps k : ℕ) → i < length used → id_after last steps ≡ get_or used i 0 → steps < 65535 → k < 65535 → k ≢ steps → is_in (take (i + 1) used) (id_after last k) ≡ is_in (take i used) (id_after last k)
mark-other used i last steps k h e p q other =
    list_any_more (λ id. eqb id (id_after last k)) used i 0 h
    ∙ ap (λ b. is_in (take i used) (id_after last k) || b) (ne_eqb _ _ (λ same. other (sym (one_place last steps k p q (e ∙ same)))))
    ∙ or-false _

-- the marks, after one more id
pub marks_more : (taken : List Bool) (used : List ℕ) (i last steps : ℕ) → i < length used → id_after last steps ≡ get_or used i 0 → steps < 65535 → length taken < 65535
    → ((k : ℕ) → k < length taken → get_or taken k false ≡ is_in (take i used) (id_after last k))
    → (k : ℕ) → k < length (set taken steps true) → get_or (set taken steps true) k false ≡ is_in (take (i + 1) used) (id_after last k)
marks_more taken used i last steps h e p short before k below' = let below : k < length taken = omega (arith, length-set {A = Bool}) in elim (cases_eq k steps) [
  | inl same ↦ subst (λ j. get_or (set taken steps true) j false ≡ is_in (take (i + 1) used) (id_after last j)) (sym same)
      (get_or-set_same taken steps true false (let l : steps < length taken = omega arith in l) ∙ sym (mark-same used i last steps h e))
  | inr other ↦ get_or-set_other taken steps k true false other ∙ before k below ∙ sym (mark-other used i last steps k h e p (omega arith) other)
]

-- the marks, after an id too far away to be marked
pub marks_same : (taken : List Bool) (used : List ℕ) (i last steps : ℕ) → i < length used → id_after last steps ≡ get_or used i 0 → steps < 65535 → length taken < 65535 → length taken ≤ steps
    → ((k : ℕ) → k < length taken → get_or taken k false ≡ is_in (take i used) (id_after last k))
    → (k : ℕ) → k < length taken → get_or taken k false ≡ is_in (take (i + 1) used) (id_after last k)
marks_same taken used i last steps h e p short far before k below =
    before k below ∙ sym (mark-other used i last steps k h e p (omega arith) (λ same. absurd (omega arith)))

-- a mark more is one mark more at most
pub count-set : (taken : List Bool) (steps : ℕ) → steps < length taken → count_by (λ b. b) (set taken steps true) ≤ count_by (λ b. b) taken + 1
count-set taken steps h = omega (arith, sum_by-set (λ b. cond b 1 0) taken steps true false h)

pub count-clear : (n : ℕ) → count_by (λ b. b) (replicate n false) ≡ 0
count-clear n = sum_by-replicate (λ b. cond b 1 0) n false ∙ omega arith

-- where not all are marked, the first that isn't stands within
filter_short : (xs : List Bool) → length (filter (λ b. b) xs) < length xs → prefix_len (λ b. b) xs < length xs
filter_short [] h = absurd (omega arith)
filter_short (false ∷ xs) h = omega arith
filter_short (true ∷ xs) h = let ih : prefix_len (λ b. b) xs < length xs = filter_short xs (omega arith) in omega arith

pub first_within : (xs : List Bool) → count_by (λ b. b) xs < length xs → prefix_len (λ b. b) xs < length xs
first_within xs h = filter_short xs (let e : length (filter (λ b. b) xs) ≡ count_by (λ b. b) xs = length-filter (λ b. b) xs in omega arith)

-- The first free place of the circle is that of the next id.
pub next_id_at : (used : List ℕ) (last k : ℕ) → k < 65535 → ((j : ℕ) → j < k → is_in used (id_after last j) ≡ true) → is_in used (id_after last k) ≡ false
    → next_id used last ≡ id_after last k
unfolding next_id ids_after
next_id_at used last k below before at =
    let ids : List ℕ = map (id_after last) (range_with_len 0 65535) in
    let p : ℕ → Bool = λ id. not (is_in used id) in
    let entry : (j : ℕ) → j < 65535 → get_or ids j 0 ≡ id_after last j = λ j lt. get_or-map-range_with_len (id_after last) 0 65535 j j 0 lt (omega arith) in
    let sized : length ids ≡ 65535 = length-map-range_with_len (id_after last) 0 65535 in
    let place : position_or_len p ids ≡ k =
    position_or_len_is p ids k 0 (omega arith) (λ j lt. ap p (entry j (omega arith)) ∙ ap not (before j lt)) (λ _. ap p (entry k below) ∙ ap not at) in
    ap (λ o. unwrap_or o 0) (find_at p ids ∙ ap (slice_get ids) place ∙ slice_get-get_or ids k 0 (omega arith) ∙ ap Some (entry k below))

-- the first place that isn't marked is the first free one
pub record IsFirstFree (used : List ℕ) (last k : ℕ) : Type 0 where
  pub near : k < 1025
  pub before : (j : ℕ) → j < k → is_in used (id_after last j) ≡ true
  pub free : is_in used (id_after last k) ≡ false

pub first_free : (taken : List Bool) (used : List ℕ) (last k : ℕ) → length taken ≡ 1025 → k ≡ prefix_len (λ b. b) taken → count_by (λ b. b) taken ≤ length used → length used < 1025
    → ((j : ℕ) → j < 1025 → get_or taken j false ≡ is_in used (id_after last j)) → IsFirstFree used last k
first_free taken used last k sized is few short marked =
    let near : prefix_len (λ b. b) taken < length taken = first_within taken (omega arith) in
    record {
      near = omega arith;
      before = λ j below. sym (marked j (omega arith)) ∙ prefix_len_passes (λ b. b) taken j false (omega arith);
      free = sym (marked k (omega arith)) ∙ ap (λ n. get_or taken n false) is ∙ prefix_len_stops (λ b. b) taken false near;
    }

pub free_value : (used : List ℕ) (last k id : ℕ) → IsFirstFree used last k → id ≡ id_after last k → id ≡ next_id used last
free_value used last k id h is = is ∙ sym (next_id_at used last k (omega (arith, h.near)) h.before h.free)

pub free_next : (used : List ℕ) (last k id : ℕ) → IsFirstFree used last k → id ≡ id_after last k → IsNextFree used last id
free_next used last k id h is = record {
  low = omega arith;
  high = omega arith;
  free = ap (is_in used) is ∙ h.free;
  first = (k, is, h.before);
}

-- Marks of the ids in use, by which there is a next one as long as fewer than 1,025 are in use.
record Marked (used : List ℕ) (last n : ℕ) : Type 0 where
  taken : List Bool
  sized : length taken ≡ 1025
  marked : (k : ℕ) → k < length taken → get_or taken k false ≡ is_in (take n used) (id_after last k)
  few : count_by (λ b. b) taken ≤ n

steps_to : (last id : ℕ) → IsId id → (steps : ℕ) × (steps < 65535) × (id_after last steps ≡ id)
steps_to last id h = ((id + 65534 - last % 65535) % 65535, omega arith, omega arith)

marked-more : (used : List ℕ) (last n : ℕ) → All IsId used → n < length used → Marked used last n → Marked used last (n + 1)
marked-more used last n ids below m =
    let there : (steps : ℕ) × (steps < 65535) × (id_after last steps ≡ get_or used n 0) = steps_to last (get_or used n 0) (All-get_or IsId used n 0 below ids) in
    elim (cases_lt there.0 1025) [
      | inl near ↦ record {
        taken = set m.taken there.0 true;
        sized = length-set m.taken there.0 true ∙ m.sized;
        marked = marks_more m.taken used n last there.0 below there.2 there.1 (omega (arith, m.sized)) m.marked;
        few = omega (arith, count-set m.taken there.0 (omega (arith, m.sized)), m.few);
      }
      | inr far ↦ record {
        taken = m.taken;
        sized = m.sized;
        marked = marks_same m.taken used n last there.0 below there.2 there.1 (omega (arith, m.sized)) (omega (arith, m.sized)) m.marked;
        few = omega (arith, m.few);
      }
    ]

marked-all : (used : List ℕ) (last n : ℕ) → All IsId used → n ≤ length used → Marked used last n
marked-all used last zero ids below = record {
  taken = replicate 1025 false;
  sized = length-replicate 1025 false;
  marked = λ k lt. get_or-replicate 1025 k false false (omega (arith, length-replicate {A = Bool} 1025 false));
  few = omega (arith, count-clear 1025);
}
marked-all used last (suc n) ids below = subst (Marked used last) (omega arith) (marked-more used last n ids (omega arith) (marked-all used last n ids (omega arith)))

pub next_free : (used : List ℕ) (last : ℕ) → All IsId used → length used < 1025 → IsNextFree used last (next_id used last)
next_free used last ids few =
    let m : Marked used last (length used) = marked-all used last (length used) ids (omega arith) in
    let whole : take (length used) used ≡ used = take_all (length used) used (omega arith) in
    let k : ℕ = prefix_len (λ b. b) m.taken in
    let first : IsFirstFree used last k =
    first_free m.taken used last k m.sized refl m.few few (λ j below. m.marked j (omega (arith, m.sized)) ∙ ap (λ ids'. is_in ids' (id_after last j)) whole) in
    free_next used last k (next_id used last) first (sym (free_value used last k (id_after last k) first refl))
