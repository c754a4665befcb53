-- How many levels a filter has, and what the filters of several sessions take.
use Rattle.std.proofs.Common.{◌≡◌, ℕ, ◌+◌, ◌<◌, ◌≤◌, Bool, true, false, ◌==◌, cond, count_by, List, [], ◌∷◌, length, get_or, map, take, refl, sym, ap, ◌∙◌, Option, Some, None, arith}
use Rattle.std.proofs.lemmas.List.Sums.{length-filter, sum_by-append, sum_by_more, sum_by_more_le}
use Rattle.std.specs.List.{filter, flat_map, fold, sum_by}
use Rattle.std.specs.Option.{option_map_or}
use Rattle.spk_topics.specs.Levels.{levels, widened}
use Rattle.spk_broker_rules.specs.Data as plain
use Rattle.spk_broker_rules.specs.Words.{option_list}
use Rattle.spk_broker.specs.Both.{Both}
use Rattle.spk_broker.specs.Granting.{standing_grants}
use Rattle.spk_broker.specs.Parts.{grant_view}
use Rattle.spk_broker.specs.Sizes.{size_of, size_of_all, size_of_grants}
use Rattle.spk_broker.specs.View.{session_now}
use Rattle.spk_broker.specs.declared.session.Grant.{Grant}

abbrev pub is_slash : ℕ → Bool
is_slash b = b == 47

wide : (b : ℕ) (ls : List (List ℕ)) → 1 ≤ length ls → length (widened b ls) ≡ length ls
wide b [] some = absurd (omega (arith, some))
wide b (l ∷ ls) some = refl

by-slashes : (bs : List ℕ) → length (levels bs) ≡ 1 + length (filter is_slash bs)
by-slashes [] = refl
by-slashes (b ∷ bs) = by (is_slash b) (by-slashes bs)
  where
    by : (t : Bool) → length (levels bs) ≡ 1 + length (filter is_slash bs)
        → length (cond t ([] ∷ levels bs) (widened b (levels bs))) ≡ 1 + length (cond t (b ∷ filter is_slash bs) (filter is_slash bs))
    by true e = omega (arith, e)
    by false e = wide b (levels bs) (omega (arith, e)) ∙ e

-- there is one level more than slashes
pub one-more : (bs : List ℕ) → count_by is_slash bs + 1 ≡ length (levels bs)
one-more bs = let n = by-slashes bs in let m = length-filter is_slash bs in omega (arith, n, m)

-- ---- grants one after the other

fold-map : {X Y : Type 0} (g : X → Y) (f : Y → ℕ) (a : ℕ) (xs : List X) → fold (λ n y. n + f y) a (map g xs) ≡ fold (λ n x. n + f (g x)) a xs
fold-map g f a [] = refl
fold-map g f a (x ∷ xs) = fold-map g f (a + f (g x)) xs

pub grants-within : (gs : List Grant) (i : ℕ) (d : Grant) → i < length gs
    → size_of_grants (map grant_view (take i gs)) + size_of (grant_view (get_or gs i d)).0 ≤ size_of_grants (map grant_view gs)
grants-within gs i d low =
    let whole : size_of_grants (map grant_view gs) ≡ sum_by (λ (g : Grant). size_of (grant_view g).0) gs = fold-map grant_view (λ (g : List ℕ × ℕ). size_of g.0) 0 gs in
    let part : size_of_grants (map grant_view (take i gs)) ≡ sum_by (λ (g : Grant). size_of (grant_view g).0) (take i gs) = fold-map grant_view (λ (g : List ℕ × ℕ). size_of g.0) 0 (take i gs) in
    let step = sum_by_more_le (λ (g : Grant). size_of (grant_view g).0) gs i d low in
    omega (arith, whole, part, step)

-- ---- the sessions one after the other

-- what a session's filters take by now
abbrev pub size_at : Both → ℕ
size_at b = option_map_or (λ (s : plain.Session). size_of_grants s.grants) b.now 0

one-size : (o : Option plain.Session) → size_of_all (option_list o) ≡ option_map_or (λ (s : plain.Session). size_of_grants s.grants) o 0
one-size None = refl
one-size (Some s) = omega arith

each-size : (bs : List Both) → size_of_all (flat_map session_now bs) ≡ sum_by size_at bs
each-size [] = refl
each-size (b ∷ bs) =
    let first = one-size b.now in
    let rest = each-size bs in
    let one : size_of_all (flat_map session_now (b ∷ bs)) ≡ size_of_all (session_now b) + size_of_all (flat_map session_now bs) = sum_by-append (λ (s : plain.Session). size_of_grants s.grants) (session_now b) (flat_map session_now bs) in
    let two : sum_by size_at (b ∷ bs) ≡ sum_by size_at (b ∷ []) + sum_by size_at bs = sum_by-append size_at (b ∷ []) bs in
    let single : sum_by size_at (b ∷ []) ≡ size_at b = omega arith in
    one ∙ ap (λ n. n + size_of_all (flat_map session_now bs)) (first ∙ sym single) ∙ ap (λ n. sum_by size_at (b ∷ []) + n) rest ∙ sym two

-- one session more
pub size-more : (bs : List Both) (i : ℕ) (d : Both) → i < length bs → size_of_all (flat_map session_now (take (i + 1) bs)) ≡ size_of_all (flat_map session_now (take i bs)) + size_at (get_or bs i d)
size-more bs i d low =
    let more = each-size (take (i + 1) bs) in
    let before = each-size (take i bs) in
    let step = sum_by_more size_at bs i d low in
    omega (arith, more, before, step)

pub size-within : (bs : List Both) (i : ℕ) (d : Both) → i < length bs → size_of_all (flat_map session_now (take i bs)) + size_at (get_or bs i d) ≤ size_of_all (flat_map session_now bs)
size-within bs i d low =
    let all = each-size bs in
    let before = each-size (take i bs) in
    let step = sum_by_more_le size_at bs i d low in
    omega (arith, all, before, step)

-- as much as the grants that stand
pub size-standing : (o : Option plain.Session) → option_map_or (λ (s : plain.Session). size_of_grants s.grants) o 0 ≡ size_of_grants (standing_grants o)
size-standing None = refl
size-standing (Some s) = refl
