-- What stays of the payloads once the order stands so.
use Rattle.std.proofs.Common.{◌≡◌, ℕ, ◌<◌, Bool, true, false, cond, List, length, replicate, Option, Some, None, is_some, inl, inr, refl, sym, ◌∙◌, ap, arith}
use Rattle.std.proofs.lemmas.List.{ext_get_or, get_or-replicate, get_or_past, length-replicate}
use Rattle.std.proofs.lemmas.List.FromFn.{get_or-map-range_with_len, length-map-range_with_len}
use Rattle.std.proofs.lemmas.Bool.{cases_lt}
use Rattle.spk_sequence.specs.Data.{Standing, IsWhole, held_at}
use Rattle.spk_sequence.specs.Numbers.{held_as, Remains}
use Rattle.spk_sequence.specs.Step.{ahead, fresh_standing, after_stop, is_over, tick, is_match, match_of, death}
use Rattle.spk_sequence.specs.declared.phase.Phase.TheVariants as phase
use Rattle.spk_sequence.specs.declared.answer.Match.TheVariants as Match
use Rattle.spk_order.specs.Ordered.{Ordered, kept_at, IsKept}
use Rattle.spk_order.specs.Step.{left_at, left_by, fresh_order}

-- of two choices with one condition
same_pick : {T : Type 0} (b : Bool) (x y : Option T) → (b ≡ true → x ≡ y) → cond b x None ≡ cond b y None
same_pick true x y same = same refl
same_pick false x y same = refl

some_pick : {T : Type 0} (b : Bool) (x : Option T) → (b ≡ true → is_some x ≡ true) → is_some (cond b x None) ≡ b
some_pick true x full = full refl
some_pick false x full = refl

no_pick : {T : Type 0} (b : Bool) (x : Option T) → b ≡ false → cond b x None ≡ None
no_pick true x e = absurd (cc)
no_pick false x e = refl

-- what is there has a value
pub some_of : {X : Type 0} (entry : Option X) → is_some entry ≡ true → (own : X) × (entry ≡ Some own)
some_of (Some own) e = (own, refl)
some_of None e = absurd (cc)

pub left_length : {T : Type 0} (s : Standing) (kept : List (Option T)) → length (left_by s kept) ≡ 256
unfolding left_by
left_length s kept = length-map-range_with_len (left_at s kept) 0 256

pub left_is : {T : Type 0} (s : Standing) (kept : List (Option T)) (x : ℕ) → x < 256 → kept_at (left_by s kept) x ≡ left_at s kept x
unfolding left_by
left_is s kept x byte = get_or-map-range_with_len (left_at s kept) 0 256 x x None byte (omega arith)

-- a list with those entries is it
pub left_ends : {T : Type 0} (s : Standing) (old new : List (Option T)) → length new ≡ 256 →
    ((x : ℕ) → x < 256 → kept_at new x ≡ left_at s old x) → new ≡ left_by s old
left_ends s old new sized at =
    ext_get_or None new (left_by s old) (sized ∙ sym (left_length s old))
    (λ i below. let byte : i < 256 = omega arith in at i byte ∙ sym (left_is s old i byte))

-- it depends on the payloads of held messages alone
pub left_same : {T : Type 0} (s : Standing) (a b : List (Option T)) →
    ((x : ℕ) → x < 256 → is_some (held_as s x) ≡ true → kept_at a x ≡ kept_at b x) → left_by s a ≡ left_by s b
left_same s a b same =
    left_ends s b (left_by s a) (left_length s a)
    (λ x byte. left_is s a x byte ∙ same_pick (is_some (held_as s x)) (kept_at a x) (kept_at b x) (same x byte))

-- where each held message has its payload, payloads are kept exactly for held messages
pub left_kept : {T : Type 0} (s : Standing) (kept : List (Option T)) → IsWhole s →
    ((x : ℕ) → x < 256 → is_some (held_as s x) ≡ true → is_some (kept_at kept x) ≡ true) → IsKept s (left_by s kept)
left_kept s kept whole full = record {
  whole = whole;
  sized = left_length s kept;
  exact = λ x byte. ap is_some (left_is s kept x byte) ∙ some_pick (is_some (held_as s x)) (kept_at kept x) (full x byte);
}

-- nothing stays where nothing is held
pub left_none : {T : Type 0} (s : Standing) (kept : List (Option T)) →
    ((x : ℕ) → x < 256 → is_some (held_as s x) ≡ false) → left_by s kept ≡ replicate 256 None
left_none {T} s kept idle =
    ext_get_or None (left_by s kept) (replicate 256 None) (left_length s kept ∙ sym (length-replicate {A = Option T} 256 None))
    (λ i below. let byte : i < 256 = omega (arith, left_length s kept) in
    left_is s kept i byte ∙ no_pick (is_some (held_as s i)) (kept_at kept i) (idle i byte) ∙ sym (get_or-replicate 256 i None None byte))

-- what remains held has its payload
pub remains_full : {T : Type 0} (old new : Standing) (kept : List (Option T)) → IsKept old kept → Remains old new →
    (x : ℕ) → x < 256 → is_some (held_as new x) ≡ true → is_some (kept_at kept x) ≡ true
remains_full old new kept are remains x byte held =
    let there = some_of (held_as new x) held in
    are.exact x byte ∙ ap is_some (remains x byte there.0 there.1)

pub remains_by : (old new by : Standing) → new ≡ by → Remains old by → Remains old new
remains_by old new by e r = rw e r

-- the payloads are as they must once the order stands so, if it holds nothing new
pub stands_kept : {T : Type 0} (old new : Standing) (kept after : List (Option T)) → IsKept old kept → IsWhole new → Remains old new →
    after ≡ left_by new kept → IsKept new after
stands_kept old new kept after are whole remains e =
    rw e (left_kept new kept whole (remains_full old new kept are remains))

empty_place : (n i : ℕ) → held_at (replicate n None) i ≡ None
empty_place n i = elim (cases_lt i n) [
  | inl below ↦ get_or-replicate n i None None below
  | inr past ↦ get_or_past (replicate n None) i None (let e : length (replicate {A = Option (Option ℕ)} n None) ≡ n = length-replicate n None in omega arith)
]

-- in a fresh order nothing is held
pub idle_fresh : (wait width x : ℕ) → is_some (held_as (fresh_standing wait width) x) ≡ false
idle_fresh wait width x = ap is_some (empty_place width (ahead x 0))

pub fresh_kept : {T : Type 0} (s : Standing) (kept : List (Option T)) (wait width : ℕ) → IsWhole s → s ≡ fresh_standing wait width →
    kept ≡ replicate 256 None → IsKept s kept
fresh_kept {T} s kept wait width whole e none = record {
  whole = whole;
  sized = ap length none ∙ length-replicate {A = Option T} 256 None;
  exact = λ x byte. ap (λ l. is_some (kept_at l x)) none ∙ ap is_some (get_or-replicate {A = Option T} 256 x None None byte)
      ∙ sym (ap (λ s. is_some (held_as s x)) e ∙ idle_fresh wait width x);
}

pub fresh_left : {T : Type 0} (s : Standing) (kept after : List (Option T)) (wait width : ℕ) → s ≡ fresh_standing wait width →
    after ≡ left_by s kept → after ≡ replicate 256 None
fresh_left s kept after wait width e is =
    is ∙ left_none s kept (λ x byte. ap (λ s. is_some (held_as s x)) e ∙ idle_fresh wait width x)

abbrev pub stands : {T : Type 0} → Standing → List (Option T) → Ordered T
stands s kept = record { standing = s; kept = kept }

pub fresh_data : {T : Type 0} (s : Standing) (kept : List (Option T)) (wait width : ℕ) → s ≡ fresh_standing wait width →
    kept ≡ replicate 256 None → stands s kept ≡ fresh_order wait width
fresh_data s kept wait width e f = ap (λ t. stands t kept) e ∙ ap (stands (fresh_standing wait width)) f

-- where nothing is kept that is not held, all of it stays
same_kept : {T : Type 0} (b : Bool) (x : Option T) → (is_some x ≡ true → b ≡ true) → x ≡ cond b x None
same_kept true x full = refl
same_kept false None full = refl
same_kept false (Some own) full = absurd (let e : false ≡ true = full refl in cc)

pub left_still : {T : Type 0} (s : Standing) (kept : List (Option T)) → length kept ≡ 256 →
    ((x : ℕ) → x < 256 → is_some (kept_at kept x) ≡ true → is_some (held_as s x) ≡ true) → left_by s kept ≡ kept
left_still s kept sized full =
    sym (left_ends s kept kept sized (λ x byte. same_kept (is_some (held_as s x)) (kept_at kept x) (full x byte)))

pub left_kept_still : {T : Type 0} (s new : Standing) (kept : List (Option T)) → IsKept s kept → new ≡ s → left_by new kept ≡ kept
left_kept_still s new kept are e = rw e (left_still s kept are.sized (λ x byte there. sym (are.exact x byte) ∙ there))

-- a moment at which no wait ends, and a death of another session, change nothing
pub still_tick : (s new : Standing) (now : ℕ) → is_over s now ≡ false → new ≡ tick s now → new ≡ s
still_tick s new now over e = e ∙ ap (λ b. cond b (after_stop s phase.Gap) s) over

match_false : (b : Bool) → cond b Match.Matched Match.Ignored ≡ Match.Ignored → b ≡ false
match_false true e = absurd (cc)
match_false false e = refl

pub still_death : (s new : Standing) (bd : ℕ) → match_of s bd ≡ Match.Ignored → new ≡ death s bd → new ≡ s
still_death s new bd ignored e =
    e ∙ ap (λ b. cond b (after_stop s phase.Dead) s) (match_false (is_match s bd) ignored)
