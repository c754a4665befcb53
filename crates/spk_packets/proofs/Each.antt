-- Reading one entry after the other, to the end of the bytes.
use Rattle.std.proofs.Common.{◌≡◌, ℕ, zero, suc, ◌≤◌, ◌<◌, eqb, true, false, List, [], ◌∷◌, ◌++◌, length, Result, Ok, Err, refl, sym, ap, ◌∙◌, append_assoc, arith}
use Rattle.std.proofs.lemmas.Bool.{eqb-true}
use Rattle.std.proofs.lemmas.List.{append-nil}
use Rattle.spk_packets.specs.declared.fault.PacketFault.{PacketFault}
use Rattle.spk_packets.specs.Fault.{Fails}
use Rattle.spk_packets.specs.Reading.{◌>>=◌, each_within, each_at}
use Rattle.spk_packets.proofs.Faults.{Fails-same}

-- each entry takes at least a byte
abbrev pub Shortens : {X : Type 0} → (List ℕ → Result (X × List ℕ) PacketFault) → Type 0
Shortens {X} at = (bytes : List ℕ) (x : X × List ℕ) → at bytes ≡ Ok x → length x.1 < length bytes

-- the same where the steps after an Ok are the same
pub bind_same : {A B : Type 0} (r : Result A PacketFault) (f g : A → Result B PacketFault) → ((x : A) → r ≡ Ok x → f x ≡ g x) → (r >>= f) ≡ (r >>= g)
bind_same (Ok x) f g h = h x refl
bind_same (Err e) f g h = refl

module _ {X : Type 0} (at : List ℕ → Result (X × List ℕ) PacketFault) (shortens : Shortens at) where
  each_within-any : (n m : ℕ) (bytes : List ℕ) → length bytes ≤ n → length bytes ≤ m → each_within at n bytes ≡ each_within at m bytes
  unfolding each_within
  each_within-any zero zero bytes a b = refl
  each_within-any zero (suc m) [] a b = refl
  each_within-any (suc n) zero [] a b = refl
  each_within-any (suc n) (suc m) [] a b = refl
  each_within-any zero (suc m) (x ∷ xs) a b = absurd (omega arith)
  each_within-any (suc n) zero (x ∷ xs) a b = absurd (omega arith)
  each_within-any (suc n) (suc m) (x ∷ xs) a b =
      bind_same (at (x ∷ xs)) (λ first. each_within at n first.1 >>= λ others. Ok (first.0 ∷ others)) (λ first. each_within at m first.1 >>= λ others. Ok (first.0 ∷ others))
      (λ first e. let less : length first.1 < length (x ∷ xs) = shortens (x ∷ xs) first e in
      ap (λ (r : Result (List X) PacketFault). r >>= λ others. Ok (first.0 ∷ others)) (each_within-any n m first.1 (omega arith) (omega arith)))

  pub each_at-nil : each_at at [] ≡ Ok []
  unfolding each_within
  each_at-nil = refl

  pub each_at-cons : (b : ℕ) (bs : List ℕ) → each_at at (b ∷ bs) ≡ (at (b ∷ bs) >>= λ first. each_at at first.1 >>= λ others. Ok (first.0 ∷ others))
  unfolding each_within
  each_at-cons b bs =
      bind_same (at (b ∷ bs)) (λ first. each_within at (length bs) first.1 >>= λ others. Ok (first.0 ∷ others)) (λ first. each_at at first.1 >>= λ others. Ok (first.0 ∷ others))
      (λ first e. let less : length first.1 < length (b ∷ bs) = shortens (b ∷ bs) first e in
      ap (λ (r : Result (List X) PacketFault). r >>= λ others. Ok (first.0 ∷ others)) (each_within-any (length bs) (length first.1) first.1 (omega arith) (omega arith)))

  -- what was read before, and what is still read
  abbrev pub with_front : List X → Result (List X) PacketFault → Result (List X) PacketFault
  with_front front read = read >>= λ xs. Ok (front ++ xs)

  regroup : (front : List X) (x : X) (read : Result (List X) PacketFault) → with_front front (read >>= λ xs. Ok (x ∷ xs)) ≡ with_front (front ++ x ∷ []) read
  regroup front x (Ok xs) = ap (λ (ys : List X). Ok ys) (simp append_assoc)
  regroup front x (Err e) = refl

  pub goes_on : (front : List X) (bytes : List ℕ) (x : X) (after : List ℕ) (total : Result (List X) PacketFault) → eqb (length bytes) 0 ≡ false → at bytes ≡ Ok (x, after)
      → with_front front (each_at at bytes) ≡ total → with_front (front ++ x ∷ []) (each_at at after) ≡ total
  goes_on front [] x after total some e so_far = absurd cc
  goes_on front (b ∷ bs) x after total some e so_far =
      let one : with_front front (each_at at (b ∷ bs)) ≡ with_front front (each_at at after >>= λ others. Ok (x ∷ others)) = ap (with_front front) (each_at-cons b bs ∙ ap (λ (r : Result (X × List ℕ) PacketFault). r >>= λ first. each_at at first.1 >>= λ others. Ok (first.0 ∷ others)) e) in
      sym (regroup front x (each_at at after)) ∙ sym one ∙ so_far

  stops : (front : List X) (bytes : List ℕ) (total : Result (List X) PacketFault) → eqb (length bytes) 0 ≡ false
      → with_front front (each_at at bytes) ≡ total → (f : PacketFault) → at bytes ≡ Err f → total ≡ Err f
  stops front [] total some so_far f e = absurd cc
  stops front (b ∷ bs) total some so_far f e =
      sym so_far ∙ ap (with_front front) (each_at-cons b bs ∙ ap (λ (r : Result (X × List ℕ) PacketFault). r >>= λ first. each_at at first.1 >>= λ others. Ok (first.0 ∷ others)) e)

  pub ends : (e : PacketFault) (front : List X) (bytes : List ℕ) (total : Result (List X) PacketFault) → eqb (length bytes) 0 ≡ false
      → Fails e (at bytes) → with_front front (each_at at bytes) ≡ total → Fails e total
  ends e front bytes total some h so_far = Fails-same e (at bytes) total (stops front bytes total some so_far) h

  pub is_done : (front : List X) (bytes : List ℕ) (total : Result (List X) PacketFault) → eqb (length bytes) 0 ≡ true → with_front front (each_at at bytes) ≡ total → total ≡ Ok front
  unfolding each_within
  is_done front [] total none so_far = sym so_far ∙ ap (λ (xs : List X). Ok xs) (append-nil front)
  is_done front (b ∷ bs) total none so_far = let no : length (b ∷ bs) ≡ 0 = eqb-true _ _ none in absurd (omega arith)
