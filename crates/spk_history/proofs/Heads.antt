-- What bytes begin with, beside the head.
use Rattle.std.proofs.Common.{◌≡◌, ℕ, ◌-◌, ◌<◌, Bool, true, false, eqb, List, [], ◌∷◌, ◌++◌, length, take, drop, refl, sym, ap, ◌∙◌, append-nil, arith}
use Rattle.std.specs.List.{starts_with}
use Rattle.std.proofs.lemmas.Bool.Decides.{Decides-eqb}
use Rattle.std.proofs.lemmas.List.{take_rest}
use Rattle.std.proofs.lemmas.Slice.Eq.{starts_is}
use Rattle.spk_history.specs.File.{head}

begins : (s p : List ℕ) (r : Bool) → r ≡ starts_with eqb s p → r ≡ true → s ≡ p ++ drop (length p) s
begins s p r e is = (starts_is Decides-eqb s p r e).0 is

pub begins_not : (s p : List ℕ) (r : Bool) → r ≡ starts_with eqb s p → r ≡ false → (rest : List ℕ) → s ≡ p ++ rest → ⊥
begins_not s p r e is rest f = let yes : true ≡ false = sym ((starts_is Decides-eqb s p r e).1 rest f) ∙ is in absurd cc

length-head : length head ≡ 19
unfolding head
length-head = refl

pub with_head : (bytes : List ℕ) (r : Bool) → r ≡ starts_with eqb bytes head → r ≡ true → bytes ≡ head ++ take (length bytes - 19) (drop 19 bytes)
with_head bytes r e is =
    begins bytes head r e is ∙ ap (λ n. head ++ drop n bytes) length-head ∙ ap (λ t. head ++ t) (sym (take_rest bytes 19))

some_lost : (bytes lost : List ℕ) → ((rest : List ℕ) → bytes ≡ head ++ rest → ⊥) → head ≡ bytes ++ lost → 0 < length lost
some_lost bytes [] none e = absurd (none [] (sym (append-nil bytes) ∙ sym e ∙ sym (append-nil head)))
some_lost bytes (b ∷ lost) none e = omega arith

pub cut_head : (bytes : List ℕ) (r q : Bool) → r ≡ starts_with eqb bytes head → r ≡ false → q ≡ starts_with eqb head bytes → q ≡ true
    → (lost : List ℕ) × (0 < length lost) × (head ≡ bytes ++ lost)
cut_head bytes r q e lacks f has =
    let is = begins head bytes q f has in
    (drop (length bytes) head, some_lost bytes (drop (length bytes) head) (begins_not bytes head r e lacks) is, is)
