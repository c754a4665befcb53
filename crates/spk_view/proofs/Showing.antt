-- Data as they came: a metric is shown, and it is told whether its alias leads nowhere.
use Rattle.std.proofs.Common.{◌≡◌, ◌∙◌, sym, ap, refl, ℕ, Bool, true, false, cond, List, [], ◌∷◌, ◌++◌, map, Option, Some, None, is_some}
use Rattle.std.specs.List.{find, list_any}
use Rattle.std.specs.Option.{option_map}
use Rattle.std.specs.Prelude.{◌&&◌, ◌||◌, not, if◌then◌else◌}
use Rattle.std.specs.Str.{bytes_eq}
use Rattle.spk_payload.specs.Meaning.{MetricData, has_text_or_bytes}
use Rattle.spk_host_rules.specs.Data.{Row}
use Rattle.spk_host_rules.specs.Step.{show}
use Rattle.spk_host_rules.specs.Table.{changed, changes, is_alias, is_lacking, is_name, is_set, lacks, name_by, name_of}
use Rattle.spk_view.specs.Indexed.{IsPlaceOf}
use Rattle.spk_view.specs.Plain.{has_texts, texts_in}
use Rattle.spk_view.proofs.Places.{none≢some, same-some, text-itself, any-place}

-- the place that a metric changes, of that which it means
pub changes-place : (rows : List Row) (m : MetricData) (o : Option ℕ) → IsPlaceOf (λ (r : Row). is_name (name_by rows m.alias m.name) r.name) rows o
    → IsPlaceOf (λ (r : Row). changes rows r.name m) rows (if is_set m.historical then None else o)
changes-place rows m o h = by (is_set m.historical) o h
  where
    by : (b : Bool) (o : Option ℕ) → IsPlaceOf (λ (r : Row). is_name (name_by rows m.alias m.name) r.name) rows o
        → IsPlaceOf (λ (r : Row). not b && is_name (name_by rows m.alias m.name) r.name) rows (if b then None else o)
    by true o h = λ k x at. refl
    by false None h = h
    by false (Some k) h = h

-- ---- an alias leads nowhere

none-any : (p : Row → Bool) (rows : List Row) → find p rows ≡ None → list_any p rows ≡ false
none-any p [] e = refl
none-any p (r ∷ rows) e = by (p r) (λ h. none-any p rows h) e
  where
    by : (b : Bool) → (find p rows ≡ None → list_any p rows ≡ false) → cond b (Some r) (find p rows) ≡ None → (b || list_any p rows) ≡ false
    by true rest e = absurd (none≢some (sym e))
    by false rest e = rest e

some-any : (p : Row → Bool) (rows : List Row) (s : Row) → find p rows ≡ Some s → list_any p rows ≡ true
some-any p [] s e = absurd (none≢some e)
some-any p (r ∷ rows) s e = by (p r) (λ h. some-any p rows s h) e
  where
    by : (b : Bool) → (find p rows ≡ Some s → list_any p rows ≡ true) → cond b (Some r) (find p rows) ≡ Some s → (b || list_any p rows) ≡ true
    by true rest e = refl
    by false rest e = rest e

or-true : (a b : Bool) → b ≡ true → (a || b) ≡ true
or-true true b e = refl
or-true false b e = e

has-name : (p : Row → Bool) (rows : List Row) (s : Row) → find p rows ≡ Some s → list_any (λ (r : Row). bytes_eq s.name r.name) rows ≡ true
has-name p [] s e = absurd (none≢some e)
has-name p (r ∷ rows) s e = by (p r) (λ h. has-name p rows s h) e
  where
    by : (b : Bool) → (find p rows ≡ Some s → list_any (λ (r : Row). bytes_eq s.name r.name) rows ≡ true) → cond b (Some r) (find p rows) ≡ Some s
        → (bytes_eq s.name r.name || list_any (λ (r : Row). bytes_eq s.name r.name) rows) ≡ true
    by true rest e = ap (λ b. b || list_any (λ (r : Row). bytes_eq s.name r.name) rows) (text-itself s.name r.name (ap (λ (x : Row). x.name) (sym (same-some e))))
    by false rest e = or-true (bytes_eq s.name r.name) (list_any (λ (r : Row). bytes_eq s.name r.name) rows) (rest e)

no-name : (rows : List Row) → list_any (λ (r : Row). is_name None r.name) rows ≡ false
no-name [] = refl
no-name (r ∷ rows) = no-name rows

-- a row passes the test exactly where one has the name of the first that does
any-named : (p : Row → Bool) (rows : List Row) → list_any p rows ≡ list_any (λ (r : Row). is_name (option_map name_of (find p rows)) r.name) rows
any-named p rows = by (find p rows) refl
  where
    by : (o : Option Row) → find p rows ≡ o → list_any p rows ≡ list_any (λ (r : Row). is_name (option_map name_of o) r.name) rows
    by None e = none-any p rows e ∙ sym (no-name rows)
    by (Some s) e = some-any p rows s e ∙ sym (has-name p rows s e)

pub lost-alias : (rows : List Row) (alias : Option ℕ) (name : Option (List ℕ)) (o : Option ℕ) → IsPlaceOf (λ (r : Row). is_name (name_by rows alias name) r.name) rows o
    → lacks rows alias ≡ (is_some alias && not (is_some o))
lost-alias rows None name o h = refl
lost-alias rows (Some a) name o h =
    ap not (any-named (λ (r : Row). is_alias r.alias a) rows
    ∙ any-place (λ (r : Row). is_name (option_map name_of (find (λ (s : Row). is_alias s.alias a) rows)) r.name) rows o h)

-- ---- what is shown takes no alias away

any-alias : (f : Row → Row) → ((r : Row) → (f r).alias ≡ r.alias) → (a : ℕ) (rows : List Row)
    → list_any (λ (r : Row). is_alias r.alias a) (map f rows) ≡ list_any (λ (r : Row). is_alias r.alias a) rows
any-alias f same a [] = refl
any-alias f same a (r ∷ rows) =
    ap (λ (x : Option ℕ). is_alias x a || list_any (λ (r : Row). is_alias r.alias a) (map f rows)) (same r)
    ∙ ap (λ b. is_alias r.alias a || b) (any-alias f same a rows)

lacks-shown : (m : MetricData) (rows : List Row) (alias : Option ℕ) → lacks (show m rows) alias ≡ lacks rows alias
lacks-shown m rows None = refl
lacks-shown m rows (Some a) = ap not (any-alias (λ (r : Row). if changes rows r.name m then changed m r else r) (λ r. by (changes rows r.name m) r) a rows)
  where
    by : (b : Bool) (r : Row) → (cond b (changed m r) r).alias ≡ r.alias
    by true r = refl
    by false r = refl

pub still-lacking : (m : MetricData) (rows : List Row) (ms : List MetricData) → is_lacking (show m rows) ms ≡ is_lacking rows ms
still-lacking m rows [] = refl
still-lacking m rows (n ∷ ms) =
    ap (λ b. b || is_lacking (show m rows) ms) (lacks-shown m rows n.alias)
    ∙ ap (λ b. lacks rows n.alias || b) (still-lacking m rows ms)

pub or-grouped : (a b c : Bool) → ((a || b) || c) ≡ (a || (b || c))
or-grouped true b c = refl
or-grouped false b c = refl

pub or-none : (a b : Bool) → (a || b) ≡ false → b ≡ false
or-none true b e = absurd (cc)
or-none false b e = e

-- ---- texts

or-first : (a b : Bool) → (a || b) ≡ false → a ≡ false
or-first true b e = absurd (cc)
or-first false b e = refl

-- data without texts have none
pub no-texts : (ms : List MetricData) → has_texts ms ≡ false → [] ≡ texts_in ms
no-texts [] h = refl
no-texts (m ∷ ms) h =
    no-texts ms (or-none (has_text_or_bytes m.value) (has_texts ms) h)
    ∙ ap (λ b. cond b (m.value ∷ []) [] ++ texts_in ms) (sym (or-first (has_text_or_bytes m.value) (has_texts ms) h))
