-- Values that wait, pushed one after the other.
use Rattle.std.proofs.Common.{◌≡◌, ◌∙◌, List, [], ◌∷◌, length, refl, sym, ap, arith}
use Rattle.spk_store.specs.Data.{Kept}
use Rattle.spk_store.specs.Step.{after_push}
use Rattle.spk_edge_app.specs.Step.{after_pushes}

pub nothing_left : {X : Type 0} (xs : List X) → length xs ≡ 0 → xs ≡ []
nothing_left [] e = refl
nothing_left (x ∷ xs) e = absurd (omega arith)

pub pushed_on : {X : Type 0} (s next all : Kept X) (x : X) (left rest : List X) → next ≡ after_push s x → left ≡ x ∷ rest → after_pushes s left ≡ all
    → after_pushes next rest ≡ all
pushed_on s next all x left rest e parts is = ap (λ k. after_pushes k rest) e ∙ ap (after_pushes s) (sym parts) ∙ is
