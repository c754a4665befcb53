-- Texts, one more each time.
use Rattle.std.proofs.Common.{◌≡◌, ◌∙◌, ◌||◌, ◌&&◌, ℕ, Bool, true, false, cond, List, [], ◌∷◌, ◌++◌, Option, Some, is_some, refl, ap, sym}
use Rattle.std.specs.List.{list_any}
use Rattle.std.specs.Str.{bytes_eq}
use Rattle.std.proofs.lemmas.Bool.{eq-eqb}
use Rattle.std.proofs.lemmas.List.{append_assoc}
use Rattle.std.proofs.lemmas.List.Folds.{list_any-append}
use Rattle.std.proofs.lemmas.Slice.Eq.{bytes_eq-Decides}
use Rattle.spk_quota.specs.Data.{FilterData}
use Rattle.spk_quota.specs.Step.{is_it}

-- one more is found
pub is-noted : {X : Type 0} (b : Bool) (v : X) (o : Option X) → is_some (cond b (Some v) o) ≡ b || is_some o
is-noted true v o = refl
is-noted false v o = refl

-- a filter of a session is it exactly where its text is
own-row : (user : ℕ) (client text name : List ℕ) → is_it user client name (record { user = user; client = client; filter = text }) ≡ bytes_eq text name
own-row user client text name =
    ap (λ b. (b && bytes_eq client client) && bytes_eq text name) (eq-eqb user user refl)
    ∙ ap (λ b. b && bytes_eq text name) ((bytes_eq-Decides client client).1 refl)

turned : (own named x : Bool) → own || (x || named) ≡ (own || named) || (x || false)
turned true named x = refl
turned false true true = refl
turned false true false = refl
turned false false true = refl
turned false false false = refl

-- one filter more is known
pub known-more : (user : ℕ) (client text name : List ℕ) (fs more : List FilterData) (own named : Bool)
    → own || named ≡ list_any (is_it user client name) (fs ++ more)
    → own || (bytes_eq text name || named) ≡ list_any (is_it user client name) (fs ++ (more ++ record { user = user; client = client; filter = text } ∷ []))
known-more user client text name fs more own named known =
    turned own named (bytes_eq text name)
    ∙ ap (λ b. b || (bytes_eq text name || false)) known
    ∙ ap (λ b. list_any (is_it user client name) (fs ++ more) || (b || false)) (sym (own-row user client text name))
    ∙ sym (list_any-append (is_it user client name) (fs ++ more) (record { user = user; client = client; filter = text } ∷ []))
    ∙ ap (list_any (is_it user client name)) (append_assoc fs more (record { user = user; client = client; filter = text } ∷ []))
