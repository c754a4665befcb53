-- The places of the nodes that have a gap.
use Rattle.std.proofs.Common.{◌≡◌, ◌∙◌, sym, ap, refl, ℕ, zero, suc, ◌+◌, Bool, true, false, cond, List, [], ◌∷◌, ◌++◌, map, length, Option, Some, None, arith}
use Rattle.std.specs.Prelude.{slice_get}
use Rattle.std.specs.List.{filter, filter_map, range_with_len}
use Rattle.std.specs.Option.{option_map_or}
use Rattle.std.proofs.lemmas.List.{append-nil}
use Rattle.std.proofs.lemmas.List.Elements.{filter-append}
use Rattle.spk_sequence.specs.declared.answer.Step.{Step}
use Rattle.spk_sequence.specs.declared.answer.Step.TheVariants as step
use Rattle.spk_reading.specs.Data as said
use Rattle.spk_reading.specs.Data.{HeardData}
use Rattle.spk_host.specs.Data.{Entry, HostData}
use Rattle.spk_host.specs.Step.{gap_places, gaps_at, has_gap, is_gap_at, packet_out}

-- one place more
range-more : (a n : ℕ) → range_with_len a (suc n) ≡ range_with_len a n ++ (a + n) ∷ []
range-more a zero = let e : a ≡ a + 0 = omega arith in ap (λ k. k ∷ []) e
range-more a (suc n) =
    let e : a + 1 + n ≡ a + suc n = omega arith in
    ap (λ l. a ∷ l) (range-more (a + 1) n ∙ ap (λ k. range_with_len (a + 1) n ++ k ∷ []) e)

places-more : (p : ℕ → Bool) (k : ℕ) (b : Bool) → p k ≡ b → filter p (range_with_len 0 (k + 1)) ≡ filter p (range_with_len 0 k) ++ cond b (k ∷ []) []
places-more p k b is =
    let one : k + 1 ≡ suc k = omega arith in
    let none : 0 + k ≡ k = omega arith in
    ap (λ n. filter p (range_with_len 0 n)) one
    ∙ ap (filter p) (range-more 0 k ∙ ap (λ n. range_with_len 0 k ++ n ∷ []) none)
    ∙ filter-append p (range_with_len 0 k) (k ∷ [])
    ∙ ap (λ x. filter p (range_with_len 0 k) ++ cond x (k ∷ []) []) is

pub place-in : (p : ℕ → Bool) (k : ℕ) → p k ≡ true → filter p (range_with_len 0 (k + 1)) ≡ filter p (range_with_len 0 k) ++ k ∷ []
place-in p k is = places-more p k true is

pub place-out : (p : ℕ → Bool) (k : ℕ) → p k ≡ false → filter p (range_with_len 0 (k + 1)) ≡ filter p (range_with_len 0 k)
place-out p k is = places-more p k false is ∙ append-nil (filter p (range_with_len 0 k))

-- what is there says whether it is such a place
pub gap-read : (now : ℕ) (nodes : List Entry) (k : ℕ) (e : Entry) → slice_get nodes k ≡ Some e → is_gap_at now nodes k ≡ has_gap now e
gap-read now nodes k e there = ap (λ o. option_map_or (has_gap now) o false) there

no-places : (p : ℕ → Bool) → ((k : ℕ) → p k ≡ false) → (ks : List ℕ) → filter p ks ≡ []
no-places p none [] = refl
no-places p none (k ∷ ks) = ap (λ b. cond b (k ∷ filter p ks) (filter p ks)) (none k) ∙ no-places p none ks

no-gap-at : (now : ℕ) (o : Option Entry) → ((e : Entry) → o ≡ Some e → has_gap now e ≡ false) → option_map_or (has_gap now) o false ≡ false
no-gap-at now None idle = refl
no-gap-at now (Some e) idle = idle e refl

pub no-gap-places : (now : ℕ) (nodes : List Entry) → ((k : ℕ) (e : Entry) → slice_get nodes k ≡ Some e → has_gap now e ≡ false) →
    gap_places now nodes ≡ []
no-gap-places now nodes idle =
    no-places (is_gap_at now nodes) (λ k. no-gap-at now (slice_get nodes k) (idle k)) (range_with_len 0 (length nodes))

-- ---- the nodes at these places

kept-there : (f : ℕ → Option Entry) (k : ℕ) (e : Entry) (b : Bool) (ks : List ℕ) (es : List Entry) → f k ≡ Some e → filter_map f ks ≡ es →
    filter_map f (cond b (k ∷ ks) ks) ≡ cond b (e ∷ es) es
kept-there f k e true ks es there rest = grind (arith, there, rest)
kept-there f k e false ks es there rest = rest

from : (now : ℕ) (nodes : List Entry) (a : ℕ) (rest : List Entry) → ((j : ℕ) → slice_get nodes (a + j) ≡ slice_get rest j) →
    filter_map (slice_get nodes) (filter (is_gap_at now nodes) (range_with_len a (length rest))) ≡ filter (has_gap now) rest
from now nodes a [] same = refl
from now nodes a (e ∷ rest) same =
    let zeroth : a ≡ a + 0 = omega arith in
    let there : slice_get nodes a ≡ Some e = ap (slice_get nodes) zeroth ∙ same 0 in
    let later = from now nodes (a + 1) rest (λ j. shifted j ∙ same (suc j)) in
    kept-there (slice_get nodes) a e (is_gap_at now nodes a) (filter (is_gap_at now nodes) (range_with_len (a + 1) (length rest))) (filter (has_gap now) rest) there later
    ∙ ap (λ b. cond b (e ∷ filter (has_gap now) rest) (filter (has_gap now) rest)) (gap-read now nodes a e there)
  where
    shifted : (j : ℕ) → slice_get nodes (a + 1 + j) ≡ slice_get nodes (a + suc j)
    shifted j = let e : a + 1 + j ≡ a + suc j = omega arith in ap (slice_get nodes) e

pub nodes-there : (now : ℕ) (nodes : List Entry) → filter_map (slice_get nodes) (gap_places now nodes) ≡ filter (has_gap now) nodes
nodes-there now nodes = from now nodes 0 nodes (λ j. let e : 0 + j ≡ j = omega arith in ap (slice_get nodes) e)

-- a step for each

abbrev gap_at_place : ℕ → Step
gap_at_place k = step.Gap

step-of : (k : ℕ) (b : Bool) (ks : List ℕ) → cond b (step.Gap ∷ []) [] ++ map gap_at_place ks ≡ map gap_at_place (cond b (k ∷ ks) ks)
step-of k true ks = refl
step-of k false ks = refl

steps-from : (now : ℕ) (nodes : List Entry) (a : ℕ) (rest : List Entry) → ((j : ℕ) → slice_get nodes (a + j) ≡ slice_get rest j) →
    gaps_at now rest ≡ map gap_at_place (filter (is_gap_at now nodes) (range_with_len a (length rest)))
steps-from now nodes a [] same = refl
steps-from now nodes a (e ∷ rest) same =
    let zeroth : a ≡ a + 0 = omega arith in
    let there : slice_get nodes a ≡ Some e = ap (slice_get nodes) zeroth ∙ same 0 in
    let ks = filter (is_gap_at now nodes) (range_with_len (a + 1) (length rest)) in
    ap (λ l. cond (has_gap now e) (step.Gap ∷ []) [] ++ l) (steps-from now nodes (a + 1) rest (λ j. shifted j ∙ same (suc j)))
    ∙ ap (λ b. cond b (step.Gap ∷ []) [] ++ map gap_at_place ks) (sym (gap-read now nodes a e there))
    ∙ step-of a (is_gap_at now nodes a) ks
  where
    shifted : (j : ℕ) → slice_get nodes (a + 1 + j) ≡ slice_get nodes (a + suc j)
    shifted j = let e : a + 1 + j ≡ a + suc j = omega arith in ap (slice_get nodes) e

pub steps-there : (now : ℕ) (nodes : List Entry) → gaps_at now nodes ≡ map (λ k. step.Gap) (gap_places now nodes)
steps-there now nodes = steps-from now nodes 0 nodes (λ j. let e : 0 + j ≡ j = omega arith in ap (slice_get nodes) e)

-- ---- where no moment was told

pub none-told : (h : HostData) (heard : HeardData) (now : ℕ) → (packet_out h heard now).gaps ≡ []
none-told h (said.Published ack (said.Message m)) now = refl
none-told h (said.Published ack (said.Death group name bd)) now = refl
none-told h (said.Published ack said.Nothing) now = refl
none-told h (said.Answered code) now = refl
none-told h said.Granted now = refl
none-told h said.Other now = refl
