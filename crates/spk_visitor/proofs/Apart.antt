-- Clients of two users have no session in common.
use Rattle.std.proofs.Common.{◌≡◌, ◌≢◌, ◌∙◌, sym, subst, refl, ap, ℕ, List, [], ◌∷◌, ◌++◌, Bool, true, false, Some}
use Rattle.std.specs.Prelude.{◌==◌, ◌||◌}
use Rattle.std.specs.List.{list_any}
use Rattle.spk_visitor.specs.Rules.{client_of}

-- no colon is in it
abbrev pub IsPlain : List ℕ → Type 0
IsPlain name = list_any (λ c. c == 58) name ≡ false

colon-first : (c : ℕ) (b : Bool) → 58 ≡ c → (c == 58 || b) ≡ false → ⊥
colon-first c b e h =
    let here : (58 == 58 || b) ≡ false = subst (λ d. (d == 58 || b) ≡ false) (sym e) h in
    cc

plain-rest : (a b : Bool) → (a || b) ≡ false → b ≡ false
plain-rest true b h = cc
plain-rest false b h = h

heads : (a b : ℕ) (xs ys : List ℕ) → (a ∷ xs) ≡ (b ∷ ys) → a ≡ b
heads a b xs ys h = cc

tails : (a b : ℕ) (xs ys : List ℕ) → (a ∷ xs) ≡ (b ∷ ys) → xs ≡ ys
tails a b xs ys h = cc

-- the first colon is behind the name
pub names-apart : (one other cs ds : List ℕ) → IsPlain one → IsPlain other → one ++ 58 ∷ cs ≡ other ++ 58 ∷ ds → (one ≡ other) × (cs ≡ ds)
names-apart [] [] cs ds p q h = (refl, tails 58 58 cs ds h)
names-apart [] (d ∷ other) cs ds p q h = absurd (colon-first d (list_any (λ c. c == 58) other) (heads 58 d cs (other ++ 58 ∷ ds) h) q)
names-apart (c ∷ one) [] cs ds p q h = absurd (colon-first c (list_any (λ c. c == 58) one) (sym (heads c 58 (one ++ 58 ∷ cs) ds h)) p)
names-apart (c ∷ one) (d ∷ other) cs ds p q h =
    let (same, rest) = names-apart one other cs ds (plain-rest (c == 58) _ p) (plain-rest (d == 58) _ q) (tails c d (one ++ 58 ∷ cs) (other ++ 58 ∷ ds) h) in
    (ap (λ xs. c ∷ xs) same ∙ ap (λ x. x ∷ other) (heads c d (one ++ 58 ∷ cs) (other ++ 58 ∷ ds) h), rest)

not-empty : (one cs : List ℕ) → one ++ 58 ∷ cs ≡ [] → ⊥
not-empty [] cs h = cc
not-empty (c ∷ one) cs h = cc

pub own-sessions : (one other first second : List ℕ) → IsPlain one → IsPlain other → first ≢ [] → client_of (Some one) first ≡ client_of (Some other) second → (one ≡ other) × (first ≡ second)
own-sessions one other [] second p q some h = absurd (some refl)
own-sessions one other (c ∷ cs) [] p q some h = absurd (not-empty one (c ∷ cs) h)
own-sessions one other (c ∷ cs) (d ∷ ds) p q some h = names-apart one other (c ∷ cs) (d ∷ ds) p q h
