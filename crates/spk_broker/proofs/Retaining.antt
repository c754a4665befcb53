-- Retained messages in a map by topic, and in a table.
use Rattle.std.proofs.Common.{◌≡◌, ℕ, ◌||◌, Bool, true, false, not, cond, ltb, List, [], ◌∷◌, ◌++◌, length, map, refl, sym, ap, ◌∙◌, String, Global, Result, Ok, Err, Some}
use Rattle.std.specs.List.{AllByRecursion, IsDistinct, filter}
use Rattle.std.specs.Map.{lookup, keys_of}
use Rattle.std.specs.Option.{is_some}
use Rattle.std.specs.Result.{IsOk, OnOk}
use Rattle.std.specs.Str.{bytes_eq}
use Rattle.std.specs.String.{string_bytes, string_eq}
use Rattle.std.proofs.lemmas.List.{length-map}
use Rattle.std.proofs.lemmas.Slice.Eq.{bytes_eq-Decides}
use Rattle.indexmap.specs.IndexMap.{insert_entry}
use Rattle.spk_broker_rules.specs.Data as plain
use Rattle.spk_broker_rules.specs.Table.{Table, has, put, remove, replaced}
use Rattle.spk_broker.specs.Parts.{retained_view, stored_view}
use Rattle.spk_broker.specs.View.{may_retain}
use Rattle.spk_broker.specs.declared.state.Stored.{Stored}

pub from-ok : {T E : Type 0} (r : Result T E) (P : Type 0) → IsOk r → OnOk r P → P
from-ok (Ok x) P is h = h
from-ok (Err e) P is h = absurd (let z : ⊥ = cc in z)

pub same-bytes : (a b : List ℕ) → bytes_eq a b ≡ true → a ≡ b
same-bytes a b e = (bytes_eq-Decides a b).0 e

pub bytes-flip : (a b : List ℕ) → bytes_eq a b ≡ bytes_eq b a
bytes-flip a b = by (bytes_eq a b) refl (bytes_eq b a) refl
  where
    by : (p : Bool) → bytes_eq a b ≡ p → (q : Bool) → bytes_eq b a ≡ q → p ≡ q
    by true e true f = refl
    by false e false f = refl
    by true e false f = sym ((bytes_eq-Decides b a).1 (sym (same-bytes a b e))) ∙ f
    by false e true f = sym e ∙ (bytes_eq-Decides a b).1 (sym (same-bytes b a f))

abbrev pub Entries : Type 0
Entries = List (String Global × Stored)

abbrev pub table_of : Entries → Table plain.Stored
table_of es = map retained_view es

-- ---- looking up

pub looked-up : (topic : List ℕ) (es : Entries) → is_some (lookup (λ (k : String Global). bytes_eq topic (string_bytes k)) es) ≡ has topic (table_of es)
looked-up topic [] = refl
looked-up topic (e ∷ es) =
    some (bytes_eq topic (string_bytes e.0)) (looked-up topic es) ∙ ap (λ b. b || has topic (table_of es)) (bytes-flip topic (string_bytes e.0))
  where
    some : (b : Bool) → is_some (lookup (λ (k : String Global). bytes_eq topic (string_bytes k)) es) ≡ has topic (table_of es) → is_some (cond b (Some e.1) (lookup (λ (k : String Global). bytes_eq topic (string_bytes k)) es)) ≡ b || has topic (table_of es)
    some true rest = refl
    some false rest = rest

-- ---- taking out

abbrev pub is_other : List ℕ → String Global × Stored → Bool
is_other topic e = not (bytes_eq (string_bytes e.0) topic)

pub taken-out : (topic : List ℕ) (es : Entries) → table_of (filter (is_other topic) es) ≡ remove topic (table_of es)
taken-out topic [] = refl
taken-out topic (e ∷ es) = by (is_other topic e) (taken-out topic es)
  where
    by : (b : Bool) → table_of (filter (is_other topic) es) ≡ remove topic (table_of es)
        → table_of (cond b (e ∷ filter (is_other topic) es) (filter (is_other topic) es)) ≡ cond b (retained_view e ∷ remove topic (table_of es)) (remove topic (table_of es))
    by true rest = ap (λ l. retained_view e ∷ l) rest
    by false rest = rest

-- ---- putting in

-- where no key is this one, nothing is replaced
unreplaced : (topic : List ℕ) (s : plain.Stored) (t : Table plain.Stored) → has topic t ≡ false → map (replaced topic s) t ≡ t
unreplaced topic s [] e = refl
unreplaced topic s (x ∷ t) e = by (bytes_eq x.0 topic) e (unreplaced topic s t)
  where
    by : (b : Bool) → b || has topic t ≡ false → (has topic t ≡ false → map (replaced topic s) t ≡ t) → cond b (x.0, s) x ∷ map (replaced topic s) t ≡ x ∷ t
    by true h rest = absurd (let z : ⊥ = cc in z)
    by false h rest = ap (λ l. x ∷ l) (rest h)

-- no later key is an earlier one
pub no-other : (k : String Global) (topic : List ℕ) (es : Entries) → bytes_eq topic (string_bytes k) ≡ true → AllByRecursion (λ (y : String Global). string_eq k y ≡ false) (keys_of es) → has topic (table_of es) ≡ false
no-other k topic [] same h = refl
no-other k topic (e ∷ es) same h =
    ap (λ b. b || has topic (table_of es)) (bytes-flip (string_bytes e.0) topic ∙ ap (λ l. bytes_eq l (string_bytes e.0)) (same-bytes topic (string_bytes k) same) ∙ h.0)
    ∙ no-other k topic es same h.1

pub put-in : (topic : String Global) (s : Stored) (es : Entries) → IsDistinct string_eq (keys_of es)
    → table_of (insert_entry string_eq es topic s) ≡ put (string_bytes topic) (stored_view s) (table_of es)
unfolding IsDistinct
put-in topic s [] d = refl
put-in topic s (e ∷ es) d = by (bytes_eq (string_bytes topic) (string_bytes e.0)) refl (put-in topic s es d.1)
  where
    t : List ℕ
    t = string_bytes topic

    v : plain.Stored
    v = stored_view s

    by : (b : Bool) → bytes_eq (string_bytes topic) (string_bytes e.0) ≡ b → table_of (insert_entry string_eq es topic s) ≡ put (string_bytes topic) (stored_view s) (table_of es)
        → table_of (cond b ((e.0, s) ∷ es) (e ∷ insert_entry string_eq es topic s)) ≡ put (string_bytes topic) (stored_view s) (table_of (e ∷ es))
    by true is rest =
        let first : bytes_eq (string_bytes e.0) (string_bytes topic) ≡ true = bytes-flip (string_bytes e.0) (string_bytes topic) ∙ is in
        rw first (ap (λ l. (string_bytes e.0, stored_view s) ∷ l) (sym (unreplaced (string_bytes topic) (stored_view s) (table_of es) (no-other e.0 (string_bytes topic) es is d.0))))
    by false is rest =
        let first : bytes_eq (string_bytes e.0) (string_bytes topic) ≡ false = bytes-flip (string_bytes e.0) (string_bytes topic) ∙ is in
        rw first (ap (λ l. retained_view e ∷ l) rest ∙ cons (has (string_bytes topic) (table_of es)))
      where
        cons : (b : Bool) → retained_view e ∷ cond b (map (replaced (string_bytes topic) (stored_view s)) (table_of es)) (table_of es ++ (string_bytes topic, stored_view s) ∷ [])
            ≡ cond b (retained_view e ∷ map (replaced (string_bytes topic) (stored_view s)) (table_of es)) (retained_view e ∷ (table_of es ++ (string_bytes topic, stored_view s) ∷ []))
        cons true = refl
        cons false = refl

-- ---- room

pub room-there : (topic : List ℕ) (es : Entries) → has topic (table_of es) ≡ true → may_retain topic (table_of es) ≡ true
room-there topic es e = ap (λ b. b || ltb (length (table_of es)) 10000) e

pub room-else : (topic : List ℕ) (es : Entries) (n : ℕ) → n ≡ length es → has topic (table_of es) ≡ false → ltb n 10000 ≡ may_retain topic (table_of es)
room-else topic es n size e =
    ap (λ k. ltb k 10000) (size ∙ sym (length-map es retained_view)) ∙ sym (ap (λ b. b || ltb (length (table_of es)) 10000) e)
