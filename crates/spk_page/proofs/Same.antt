-- What is written for a value is written for the data that it stands for.
use Rattle.std.proofs.Common.{◌≡◌, ℕ, ◌≤◌, false, List, Some, sym, subst}
use Rattle.serde_json.specs.Data.{Data, depth}
use Rattle.serde_json.specs.Read.{read, max_depth}
use Rattle.serde_json.specs.Written.{compact_text, has_float}

pub again : (bytes : List ℕ) (d e : Data) → d ≡ e → depth e ≤ max_depth → (depth d ≤ max_depth → read bytes ≡ Some d) → read bytes ≡ Some e
again bytes d e same short h =
    subst (λ x. (depth x ≤ max_depth → read bytes ≡ Some x) → read bytes ≡ Some e) (sym same) (λ k. k short) h

pub compact : (bytes : List ℕ) (d e : Data) → d ≡ e → has_float e ≡ false → (has_float d ≡ false → bytes ≡ compact_text d) → bytes ≡ compact_text e
compact bytes d e same plain h =
    subst (λ x. (has_float x ≡ false → bytes ≡ compact_text x) → bytes ≡ compact_text e) (sym same) (λ k. k plain) h
