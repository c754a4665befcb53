-- Retained messages weighed, one after the other.
use Rattle.std.proofs.Common.{◌≡◌, ℕ, suc, ◌+◌, ◌<◌, ◌≤◌, Bool, true, false, eqb, ltb, List, [], ◌++◌, length, map, take, get_or, refl, sym, ap, ◌∙◌, arith}
use Rattle.std.specs.List.{flat_map, slice_get}
use Rattle.std.proofs.lemmas.Bool.Decides.{Decides-eqb, Decides-ltb}
use Rattle.std.proofs.lemmas.List.Sums.{sum_by-append}
use Rattle.spk_broker_rules.specs.Data as plain
use Rattle.spk_broker_rules.specs.Words.{most_given, offers_to, weight, weight_of}
use Rattle.spk_broker.specs.Offering.{offers_at}
use Rattle.spk_broker.specs.Parts.{grant_view}
use Rattle.spk_broker.specs.Weighing.{beyond, heaped}
use Rattle.spk_broker.specs.declared.session.Grant.{Grant}
use Rattle.spk_broker.proofs.Offers.{grants-more, offers-more}

pub heap-low : (w : ℕ) (ms : List plain.AppMessage) → heaped w ms ≤ beyond
heap-low w ms = omega arith

pub heap-none : (w : ℕ) → w ≤ beyond → w ≡ heaped w []
heap-none w h = omega (arith, h)

-- what is too much stays there
pub heap-full : (w : ℕ) (ms : List plain.AppMessage) → w ≡ beyond → w ≡ heaped w ms
heap-full w ms e = omega (arith, e)

heap-more : (w : ℕ) (xs ys : List plain.AppMessage) → heaped (heaped w xs) ys ≡ heaped w (xs ++ ys)
heap-more w xs ys = let both = sum_by-append weight xs ys in omega (arith, both)

-- one place more
pub heap-place : (w : ℕ) (es : List (List ℕ × plain.Stored)) (g : List ℕ × ℕ) (i : ℕ)
    → heaped (heaped w (offers_to (take i es) g)) (offers_at (slice_get es i) g) ≡ heaped w (offers_to (take (i + 1) es) g)
heap-place w es g i =
    let n : suc i ≡ i + 1 = omega arith in
    heap-more w (offers_to (take i es) g) (offers_at (slice_get es i) g)
    ∙ ap (heaped w) (sym (offers-more g es i) ∙ ap (λ m. offers_to (take m es) g) n)

-- one grant more
pub heap-grant : (es : List (List ℕ × plain.Stored)) (gs : List Grant) (i : ℕ) (x d : Grant) → i < length gs → x ≡ get_or gs i d
    → heaped (heaped 0 (flat_map (offers_to es) (map grant_view (take i gs)))) (offers_to es (grant_view x)) ≡ heaped 0 (flat_map (offers_to es) (map grant_view (take (i + 1) gs)))
heap-grant es gs i x d lt is =
    heap-more 0 (flat_map (offers_to es) (map grant_view (take i gs))) (offers_to es (grant_view x)) ∙ ap (heaped 0) (grants-more es gs i x d lt is)

-- a weight that got there is more than the most
pub heap-heavy : (ms : List plain.AppMessage) → eqb (heaped 0 ms) beyond ≡ ltb most_given (weight_of ms)
heap-heavy ms = by (eqb (heaped 0 ms) beyond) refl (ltb most_given (weight_of ms)) refl
  where
    by : (p : Bool) → eqb (heaped 0 ms) beyond ≡ p → (q : Bool) → ltb most_given (weight_of ms) ≡ q → p ≡ q
    by true f true g = refl
    by false f false g = refl
    by true f false g =
        let there : heaped 0 ms ≡ beyond = (Decides-eqb (heaped 0 ms) beyond).0 f in
        sym ((Decides-ltb most_given (weight_of ms)).1 (omega (arith, there))) ∙ g
    by false f true g =
        let over : most_given < weight_of ms = (Decides-ltb most_given (weight_of ms)).0 g in
        sym f ∙ (Decides-eqb (heaped 0 ms) beyond).1 (omega (arith, over))
