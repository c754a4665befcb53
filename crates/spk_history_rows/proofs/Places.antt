-- Places that are found.
use Rattle.std.proofs.Common.{◌≡◌, ◌∙◌, sym, ap, subst, refl, arith, ℕ, zero, suc, ◌<◌, ◌≤◌, ◌-◌, true, false, cond, List, [], ◌∷◌, map, length, drop, get_or, Some, None, true≢false, eq-eqb}
use Rattle.std.specs.Prelude.{◌≢◌, slice_get}
use Rattle.std.proofs.lemmas.List.{length-map}
use Rattle.std.proofs.lemmas.Option.{slice_get_read, slice_get_within, slice_get-get_or}
use Rattle.spk_history_rows.specs.declared.naming.Number.{Number}
use Rattle.spk_history_rows.specs.declared.node.NodeName.{NodeName}
use Rattle.spk_history_rows.specs.Data.{place_of}
use Rattle.spk_history_rows.specs.Row.{NodeData, is_named, last}
use Rattle.spk_history_rows.specs.View.{node_view}
use Rattle.spk_history_rows.proofs.Lists.{none≢some, same-some, same-names, names-itself, last-there}

pub found_last : (numbers : List Number) (left n : ℕ) (d : Number) → 0 < left → left ≤ length numbers → (get_or numbers (left - 1) d).number ≡ n
    → last (place_of n) (drop left numbers) ≡ None → Some (get_or numbers (left - 1) d).place ≡ last (place_of n) numbers
found_last numbers left n d some within is none =
    let before : suc (left - 1) ≡ left = omega arith in
    let inside : left - 1 < length numbers = omega arith in
    sym (last-there (place_of n) numbers (left - 1) (get_or numbers (left - 1) d) (get_or numbers (left - 1) d).place
    (slice_get-get_or numbers (left - 1) d inside)
    (ap (λ b. cond b (Some (get_or numbers (left - 1) d).place) None) (eq-eqb (get_or numbers (left - 1) d).number n is))
    (subst (λ k. last (place_of n) (drop k numbers) ≡ None) (sym before) none))

map-gets : {X Y : Type 0} (f : X → Y) (xs : List X) (i : ℕ) (x : X) → slice_get xs i ≡ Some x → slice_get (map f xs) i ≡ Some (f x)
map-gets f [] i x at = absurd (none≢some at)
map-gets f (z ∷ xs) zero x at = ap (λ o. Some (f o)) (same-some at)
map-gets f (z ∷ xs) (suc i) x at = map-gets f xs i x at

pub found_name : (names : List NodeName) (i : ℕ) (x : NodeName) (a : NodeData) → i < length names → x ≡ get_or names i x → is_named a (node_view x) ≡ true
    → slice_get (map node_view names) i ≡ Some a
found_name names i x a within is same =
    map-gets node_view names i x (slice_get_read names (length names) i x refl within is) ∙ ap Some (sym (same-names a (node_view x) same))

pub other_name : (names : List NodeName) (i : ℕ) (x : NodeName) (a : NodeData) → i < length names → x ≡ get_or names i x → is_named a (node_view x) ≡ false
    → slice_get (map node_view names) i ≢ Some a
other_name names i x a within is differs at =
    let there : Some (node_view x) ≡ Some a = sym (map-gets node_view names i x (slice_get_read names (length names) i x refl within is)) ∙ at in
    true≢false (sym (names-itself a (node_view x) (sym (same-some there))) ∙ differs)

pub no_name : (names : List NodeName) (n : ℕ) (a : NodeData) → length names ≤ n → ((k : ℕ) → k < n → slice_get (map node_view names) k ≢ Some a)
    → (i : ℕ) → slice_get (map node_view names) i ≢ Some a
no_name names n a all none i at =
    let within : i < length (map node_view names) = slice_get_within (map node_view names) i a at in
    none i (omega (arith, length-map names node_view)) at
