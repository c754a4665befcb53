-- A list whose elements are turned one after the other, in place.
use Rattle.std.proofs.Common.{◌≡◌, ℕ, zero, suc, ◌+◌, ◌<◌, ◌≤◌, List, [], ◌∷◌, ◌++◌, length, map, take, drop, set, get_or, refl, sym, ap, ◌∙◌, arith}
use Rattle.spk_sequence.specs.NodeRecord.{Numbering}
use Rattle.spk_edge.specs.Sealing.{next_in, number_in, numbered, seq_past, with_number}
use Rattle.spk_edge.specs.View.{MessageData}

-- the list so far: the first i numbered, the others as they were
abbrev pub so_far : Numbering → ℕ → List MessageData → ℕ → List MessageData
so_far numbering seq ms i = take i (numbered numbering seq ms) ++ drop i ms

-- the number that comes next after the first i
abbrev pub next_so_far : Numbering → ℕ → List MessageData → ℕ → ℕ
next_so_far numbering seq ms i = seq_past numbering seq (take i ms)

pub number-step : {X : Type 0} (V : X → MessageData) (numbering : Numbering) (i : ℕ) (seq : ℕ) (cur : List X) (ms : List MessageData) (x new : X)
    → map V cur ≡ so_far numbering seq ms i → i < length cur → x ≡ get_or cur i x
    → V new ≡ with_number (number_in numbering (next_so_far numbering seq ms i) (V x)) (V x)
    → (map V (set cur i new) ≡ so_far numbering seq ms (i + 1)) × (next_in numbering (next_so_far numbering seq ms i) (V x) ≡ next_so_far numbering seq ms (i + 1))
number-step V numbering i seq [] ms x new e lt is turned = absurd (omega (arith, lt))
number-step V numbering zero seq (c ∷ cur) [] x new e lt is turned = absurd (let z : ⊥ = cc in z)
number-step V numbering (suc i) seq (c ∷ cur) [] x new e lt is turned = absurd (let z : ⊥ = cc in z)
number-step V numbering zero seq (c ∷ cur) (m ∷ ms) x new e lt is turned =
    let first : V c ≡ m = cc in
    let rest : map V cur ≡ ms = cc in
    let same : V x ≡ m = ap V is ∙ first in (
      ap (λ (y : MessageData). y ∷ map V cur) (turned ∙ ap (λ (y : MessageData). with_number (number_in numbering seq y) y) same)
          ∙ ap (λ (l : List MessageData). with_number (number_in numbering seq m) m ∷ l) rest,
      ap (next_in numbering seq) same,
    )
number-step V numbering (suc i) seq (c ∷ cur) (m ∷ ms) x new e lt is turned =
    let z : suc i + 1 ≡ suc (i + 1) = omega arith in
    let first : V c ≡ with_number (number_in numbering seq m) m = cc in
    let rest : map V cur ≡ so_far numbering (next_in numbering seq m) ms i = cc in
    let later = number-step V numbering i (next_in numbering seq m) cur ms x new rest (omega (arith, lt)) is turned in (
      ap (λ (y : MessageData). y ∷ map V (set cur i new)) first
          ∙ ap (λ (l : List MessageData). with_number (number_in numbering seq m) m ∷ l) later.0
          ∙ ap (λ k. so_far numbering seq (m ∷ ms) k) (sym z),
      later.1 ∙ ap (λ k. next_so_far numbering seq (m ∷ ms) k) (sym z),
    )

pub so_far-first : (numbering : Numbering) (seq : ℕ) (ms : List MessageData) → ms ≡ so_far numbering seq ms 0
so_far-first numbering seq [] = refl
so_far-first numbering seq (m ∷ ms) = refl

pub so_far-all : (numbering : Numbering) (seq : ℕ) (ms : List MessageData) (i : ℕ) → length ms ≤ i
    → (so_far numbering seq ms i ≡ numbered numbering seq ms) × (next_so_far numbering seq ms i ≡ seq_past numbering seq ms)
so_far-all numbering seq [] zero le = (refl, refl)
so_far-all numbering seq [] (suc i) le = (refl, refl)
so_far-all numbering seq (m ∷ ms) zero le = absurd (omega (arith, le))
so_far-all numbering seq (m ∷ ms) (suc i) le =
    let rest = so_far-all numbering (next_in numbering seq m) ms i (omega (arith, le)) in
    (ap (λ (l : List MessageData). with_number (number_in numbering seq m) m ∷ l) rest.0, rest.1)
