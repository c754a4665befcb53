-- Shares of lists.
use Rattle.std.proofs.Common.{◌≡◌, ◌≢◌, ℕ, suc, ◌+◌, ◌≤◌, cond, eqb, List, [], ◌∷◌, ◌++◌, length, refl, ◌∙◌, ap, arith, inl, inr, length-append}
use Rattle.std.proofs.lemmas.Bool.{cases_Bool, eq-eqb, ne_eqb}
use Rattle.spk_ingress.specs.declared.rule.Message.{Message}
use Rattle.spk_ingress.specs.Lanes.{share_of}

pub share-append : (i : ℕ) (xs ys : List Message) → share_of i (xs ++ ys) ≡ share_of i xs ++ share_of i ys
share-append i [] ys = refl
share-append i (m ∷ ms) ys = elim (cases_Bool (eqb m.sender i)) [
  | inl own ↦ rw own (ap (λ fs. m.frame ∷ fs) (share-append i ms ys))
  | inr other ↦ rw other (share-append i ms ys)
]

pub share-own : (i : ℕ) (x : Message) → x.sender ≡ i → share_of i (x ∷ []) ≡ x.frame ∷ []
share-own i x own = ap (λ b. cond b (x.frame ∷ []) []) (eq-eqb x.sender i own)

pub share-other : (i : ℕ) (x : Message) → x.sender ≢ i → share_of i (x ∷ []) ≡ []
share-other i x other = ap (λ b. cond b (x.frame ∷ []) []) (ne_eqb x.sender i other)

append_none : {A : Type 0} (xs : List A) → xs ++ [] ≡ xs
append_none [] = refl
append_none (x ∷ xs) = ap (λ ys. x ∷ ys) (append_none xs)

-- one message more behind
pub share_more : (i : ℕ) (x : Message) (xs : List Message) → x.sender ≡ i → share_of i (xs ++ x ∷ []) ≡ share_of i xs ++ x.frame ∷ []
share_more i x xs own = share-append i xs (x ∷ []) ∙ ap (λ fs. share_of i xs ++ fs) (share-own i x own)

pub share_same : (i : ℕ) (x : Message) (xs : List Message) → x.sender ≢ i → share_of i (xs ++ x ∷ []) ≡ share_of i xs
share_same i x xs other = share-append i xs (x ∷ []) ∙ ap (λ fs. share_of i xs ++ fs) (share-other i x other) ∙ append_none (share_of i xs)

-- a sender whose message is there has a share
pub share_there : (x : Message) (xs ys : List Message) → length (share_of x.sender xs) + 1 ≤ length (share_of x.sender (xs ++ x ∷ ys))
share_there x xs ys =
    let i : ℕ = x.sender in
    let e : share_of i (xs ++ x ∷ ys) ≡ share_of i xs ++ (x.frame ∷ share_of i ys) = share-append i xs (x ∷ ys) ∙ ap (λ b. share_of i xs ++ cond b (x.frame ∷ share_of i ys) (share_of i ys)) (eq-eqb i i refl) in
    let l : length (share_of i (xs ++ x ∷ ys)) ≡ length (share_of i xs) + length (x.frame ∷ share_of i ys) = ap length e ∙ length-append (share_of i xs) (x.frame ∷ share_of i ys) in
    let one : length (x.frame ∷ share_of i ys) ≡ suc (length (share_of i ys)) = refl in
    omega arith
