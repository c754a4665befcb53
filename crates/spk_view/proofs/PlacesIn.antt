-- Aliases with places, and one more.
use Rattle.std.proofs.Common.{◌≡◌, ◌∙◌, sym, ap, refl, arith, ℕ, zero, suc, Bool, true, false, cond, List, [], ◌∷◌, ◌++◌, length, set, Some, None}
use Rattle.std.specs.List.{zip}
use Rattle.std.specs.Option.{option_or}
use Rattle.std.specs.Prelude.{◌==◌, ◌<◌, ◌≤◌, slice_get}
use Rattle.std.proofs.lemmas.Bool.Decides.{nat_tests}
use Rattle.spk_view.specs.Indexed.{place_in}
use Rattle.spk_view.proofs.Places.{none≢some, same-some}

same : (a b : ℕ) → a ≡ b → (a == b) ≡ true
same a b h = grind (arith, nat_tests)

other : (a b : ℕ) → (a ≡ b → ⊥) → (a == b) ≡ false
other a b h = grind (arith, nat_tests)

-- an alias that stands nowhere
pub place_in-none : (ks ps : List ℕ) (alias : ℕ) → ((k : ℕ) → k < length ks → slice_get ks k ≡ Some alias → ⊥) → place_in (zip ks ps) alias ≡ None
place_in-none [] ps alias never = refl
place_in-none (k ∷ ks) [] alias never = refl
place_in-none (k ∷ ks) (p ∷ ps) alias never =
    ap (λ o. option_or o (cond (k == alias) (Some p) None)) (place_in-none ks ps alias (λ j low at. never (suc j) (omega arith) at))
    ∙ ap (λ b. option_or None (cond b (Some p) None)) (other k alias (λ e. never 0 (omega arith) (ap Some e)))

-- the last place of an alias
pub place_in-last : (ks ps : List ℕ) (alias at p : ℕ) → slice_get ks at ≡ Some alias → ((k : ℕ) → k < length ks → slice_get ks k ≡ Some alias → k ≤ at)
    → slice_get ps at ≡ Some p → place_in (zip ks ps) alias ≡ Some p
place_in-last [] ps alias at p is last has = absurd (none≢some is)
place_in-last (k ∷ ks) [] alias at p is last has = absurd (none≢some has)
place_in-last (k ∷ ks) (q ∷ ps) alias zero p is last has =
    ap (λ o. option_or o (cond (k == alias) (Some q) None)) (place_in-none ks ps alias (λ j low there. far j (last (suc j) (omega arith) there)))
    ∙ ap (λ b. option_or None (cond b (Some q) None)) (same k alias (same-some is))
    ∙ has
  where
    far : (j : ℕ) → suc j ≤ 0 → ⊥
    far j h = absurd (omega arith)
place_in-last (k ∷ ks) (q ∷ ps) alias (suc at) p is last has =
    ap (λ o. option_or o (cond (k == alias) (Some q) None)) (place_in-last ks ps alias at p is (λ j low there. back j (last (suc j) (omega arith) there)) has)
  where
    back : (j : ℕ) → suc j ≤ suc at → j ≤ at
    back j h = omega arith

is-same : (a b : ℕ) → (a == b) ≡ true → a ≡ b
is-same a b h = grind (arith, nat_tests)

-- another place for the last entry of an alias
pub place_in-put : (ks ps : List ℕ) (alias at p q : ℕ) → slice_get ks at ≡ Some alias → ((k : ℕ) → k < length ks → slice_get ks k ≡ Some alias → k ≤ at)
    → at < length ps → place_in (zip ks (set ps at p)) q ≡ cond (alias == q) (Some p) (place_in (zip ks ps) q)
place_in-put [] ps alias at p q is last low = absurd (none≢some is)
place_in-put (k ∷ ks) [] alias at p q is last low = absurd (never low)
  where
    never : at < 0 → ⊥
    never h = absurd (omega arith)
place_in-put (k ∷ ks) (x ∷ ps) alias zero p q is last low =
    ap (λ n. option_or (place_in (zip ks ps) q) (cond (n == q) (Some p) None)) (same-some is)
    ∙ by (alias == q) refl
    ∙ ap (λ n. cond (alias == q) (Some p) (option_or (place_in (zip ks ps) q) (cond (n == q) (Some x) None))) (sym (same-some is))
  where
    far : (j : ℕ) → suc j ≤ 0 → ⊥
    far j h = absurd (omega arith)

    none : alias ≡ q → place_in (zip ks ps) q ≡ None
    none e = ap (place_in (zip ks ps)) (sym e) ∙ place_in-none ks ps alias (λ j below there. far j (last (suc j) (omega arith) there))

    by : (b : Bool) → (alias == q) ≡ b → option_or (place_in (zip ks ps) q) (cond b (Some p) None)
        ≡ cond b (Some p) (option_or (place_in (zip ks ps) q) (cond b (Some x) None))
    by true e = ap (λ o. option_or o (Some p)) (none (is-same alias q e))
    by false e = refl
place_in-put (k ∷ ks) (x ∷ ps) alias (suc at) p q is last low =
    ap (λ o. option_or o (cond (k == q) (Some x) None))
    (place_in-put ks ps alias at p q is (λ j below there. back j (last (suc j) (omega arith) there)) (omega arith))
    ∙ by (alias == q)
  where
    back : (j : ℕ) → suc j ≤ suc at → j ≤ at
    back j h = omega arith

    by : (b : Bool) → option_or (cond b (Some p) (place_in (zip ks ps) q)) (cond (k == q) (Some x) None)
        ≡ cond b (Some p) (option_or (place_in (zip ks ps) q) (cond (k == q) (Some x) None))
    by true = refl
    by false = refl

-- one more, which is the last
pub place_in-more : (es : List (ℕ × ℕ)) (a p alias : ℕ) → place_in (es ++ (a, p) ∷ []) alias ≡ cond (a == alias) (Some p) (place_in es alias)
place_in-more [] a p alias = by (a == alias)
  where
    by : (b : Bool) → option_or None (cond b (Some p) None) ≡ cond b (Some p) None
    by true = refl
    by false = refl
place_in-more (e ∷ es) a p alias =
    ap (λ o. option_or o (cond (e.0 == alias) (Some e.1) None)) (place_in-more es a p alias) ∙ by (a == alias)
  where
    by : (b : Bool) → option_or (cond b (Some p) (place_in es alias)) (cond (e.0 == alias) (Some e.1) None)
        ≡ cond b (Some p) (option_or (place_in es alias) (cond (e.0 == alias) (Some e.1) None))
    by true = refl
    by false = refl

-- one more of each
pub zip-more : (ks ps : List ℕ) (a p : ℕ) → length ps ≡ length ks → zip (ks ++ a ∷ []) (ps ++ p ∷ []) ≡ zip ks ps ++ (a, p) ∷ []
zip-more [] [] a p h = refl
zip-more (k ∷ ks) (q ∷ ps) a p h = ap (λ l. (k, q) ∷ l) (zip-more ks ps a p (omega arith))
zip-more [] (q ∷ ps) a p h = absurd (never h)
  where
    never : suc (length ps) ≡ 0 → ⊥
    never h = absurd (omega arith)
zip-more (k ∷ ks) [] a p h = absurd (never h)
  where
    never : 0 ≡ suc (length ks) → ⊥
    never h = absurd (omega arith)
