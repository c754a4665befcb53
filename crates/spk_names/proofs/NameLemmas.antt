-- Names with numbers, as a table's entries, and after one more.
use Rattle.std.proofs.Common.{◌≡◌, ◌∙◌, sym, ap, refl, ℕ, Bool, true, false, List, [], ◌∷◌, ◌++◌, map, cond, Option, Some, None}
use Rattle.std.specs.Option.{option_or}
use Rattle.std.specs.Prelude.{is_some}
use Rattle.std.proofs.lemmas.Slice.Eq.{bytes_eq-Decides}
use Rattle.std.specs.Str.{bytes_eq}
use Rattle.std.specs.Map.{lookup}
use Rattle.std.specs.HashMap.{HashMap}
use Rattle.std.specs.String.{string_bytes, string_eq}
use Rattle.std.proofs.Common.{String, Global}
use Rattle.std.proofs.lemmas.List.{map-append}
use Rattle.indexmap.specs.IndexMap.{insert_entry}
use Rattle.indexmap.proofs.CallerLemmas.{insert_entry-new}
use Rattle.spk_names.specs.Names.{number_in, entered}

-- a look-up in a table is a look-up by bytes
pub lookup-numbers : {K : Type 0} (bytes : K → List ℕ) (name : List ℕ) (es : List (K × ℕ))
    → lookup (λ k. bytes_eq name (bytes k)) es ≡ number_in (map (λ e. (bytes e.0, e.1)) es) name
lookup-numbers bytes name [] = refl
lookup-numbers bytes name (e ∷ es) = ap (cond (bytes_eq name (bytes e.0)) (Some e.1)) (lookup-numbers bytes name es)

-- an entry of a table, by the bytes of its name
abbrev pub entry_of : String Global × ℕ → List ℕ × ℕ
entry_of e = (string_bytes e.0, e.1)

-- a new name goes last
pub insert_entry-numbers : {S : Type 0} (m : HashMap (String Global) ℕ S) (name : String Global) (n : ℕ)
    → number_in (map entry_of m.entries) (string_bytes name) ≡ None
    → map entry_of (insert_entry string_eq m.entries name n) ≡ map entry_of m.entries ++ (string_bytes name, n) ∷ []
insert_entry-numbers m name n new =
    ap (map entry_of) (insert_entry-new string_eq m name n (lookup-numbers string_bytes (string_bytes name) m.entries ∙ new))
    ∙ map-append entry_of m.entries ((name, n) ∷ [])

-- ---- one more name

number_in-more : (es : List (List ℕ × ℕ)) (name other : List ℕ) (number : ℕ)
    → number_in (es ++ (name, number) ∷ []) other ≡ option_or (number_in es other) (cond (bytes_eq other name) (Some number) None)
number_in-more [] name other number = refl
number_in-more (e ∷ es) name other number = by (bytes_eq other e.0) (number_in-more es name other number)
  where
    by : (b : Bool) → number_in (es ++ (name, number) ∷ []) other ≡ option_or (number_in es other) (cond (bytes_eq other name) (Some number) None)
        → cond b (Some e.1) (number_in (es ++ (name, number) ∷ []) other) ≡ option_or (cond b (Some e.1) (number_in es other)) (cond (bytes_eq other name) (Some number) None)
    by true rest = refl
    by false rest = rest

-- a name that is there keeps its number
number_in-there : (es : List (List ℕ × ℕ)) (name other : List ℕ) (number : ℕ) → is_some (number_in es name) ≡ true
    → number_in es other ≡ option_or (number_in es other) (cond (bytes_eq other name) (Some number) None)
number_in-there es name other number there = by (number_in es other) refl (bytes_eq other name) refl
  where
    by : (o : Option ℕ) → number_in es other ≡ o → (b : Bool) → bytes_eq other name ≡ b → o ≡ option_or o (cond b (Some number) None)
    by (Some n) is b same = refl
    by None is false same = refl
    by None is true same =
        let absent : is_some (number_in es name) ≡ false = ap (λ n. is_some (number_in es n)) (sym ((bytes_eq-Decides other name).0 same)) ∙ ap is_some is in
        cc

pub found-again : (es : List (List ℕ × ℕ)) (name other : List ℕ) (number : ℕ)
    → number_in (entered es name number) other ≡ option_or (number_in es other) (cond (bytes_eq other name) (Some number) None)
found-again es name other number = by (is_some (number_in es name)) refl
  where
    by : (b : Bool) → is_some (number_in es name) ≡ b
        → number_in (cond b es (es ++ (name, number) ∷ [])) other ≡ option_or (number_in es other) (cond (bytes_eq other name) (Some number) None)
    by true there = number_in-there es name other number there
    by false there = number_in-more es name other number
