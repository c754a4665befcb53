-- One user more, whose name none has.
use Rattle.std.proofs.Common.{◌≡◌, ◌∙◌, ap, refl, Bool, true, false, not, ◌||◌, List, [], ◌∷◌, ◌++◌}
use Rattle.std.specs.List.{list_all, list_any}
use Rattle.std.specs.Str.{bytes_eq}
use Rattle.std.specs.String.{string_bytes}
use Rattle.std.proofs.lemmas.Bool.{and_parts, and_from}
use Rattle.std.proofs.lemmas.List.Folds.{list_all-append, list_any-append}
use Rattle.spk_door.specs.declared.door.User.{User}
use Rattle.spk_files.specs.Users.{AreBounded, IsBounded, are_apart, are_plain, is_plain}
use Rattle.spk_quota.specs.declared.limits.Limits.{Limits}
use Rattle.spk_files.proofs.Limits.{not_none, or-none}

pub apart_push : (us : List User) (x : User) → are_apart us ≡ true
    → list_any (λ (u : User). bytes_eq (string_bytes x.name) (string_bytes u.name)) us ≡ false → are_apart (us ++ x ∷ []) ≡ true
apart_push [] x apart none = refl
apart_push (u ∷ us) x apart none =
    let same : User → Bool = λ (v : User). bytes_eq (string_bytes v.name) (string_bytes u.name) in
    let is : User → Bool = λ (v : User). bytes_eq (string_bytes x.name) (string_bytes v.name) in
    let parts = and_parts (not (list_any same us)) (are_apart us) apart in
    let nones = or-none (is u) (list_any is us) none in
    let here : not (list_any same us || list_any same (x ∷ [])) ≡ true = not_none (list_any same us) (same x) parts.0 nones.0 in
    and_from (not (list_any same (us ++ x ∷ []))) (are_apart (us ++ x ∷ []))
    (ap not (list_any-append same us (x ∷ [])) ∙ here)
    (apart_push us x parts.1 nones.1)

-- one more without a colon
pub plain_push : (us : List User) (x : User) → are_plain us ≡ true → is_plain (string_bytes x.name) ≡ true → are_plain (us ++ x ∷ []) ≡ true
plain_push us x plain one =
    let p : User → Bool = λ (v : User). is_plain (string_bytes v.name) in
    list_all-append p us (x ∷ []) ∙ and_from (list_all p us) (list_all p (x ∷ [])) plain (and_from (p x) true one refl)

-- one more that is bounded
pub bounded_push : (ls : List Limits) (x : Limits) → AreBounded ls → IsBounded x → AreBounded (ls ++ x ∷ [])
bounded_push [] x all one = (one, tt)
bounded_push (l ∷ ls) x all one = (all.0, bounded_push ls x all.1 one)
