-- Tables by texts: what was said of texts, newest first, and the table that it leaves.
use Rattle.std.proofs.Common.{◌≡◌, ℕ, Bool, true, false, not, ◌||◌, cond, List, [], ◌∷◌, ◌++◌, map, length, suc, refl, sym, ◌∙◌, ap, Option, Some, None, true≢false}
use Rattle.std.specs.List.{filter, list_any, flat_map, AllByRecursion}
use Rattle.std.specs.Option.{is_some}
use Rattle.std.specs.Str.{bytes_eq}
use Rattle.std.proofs.lemmas.Slice.Eq.{bytes_eq-Decides}
use Rattle.std.proofs.lemmas.List.{map-append}
use Rattle.std.proofs.lemmas.List.Elements.{filter-append}
use Rattle.spk_broker_rules.specs.Table.{Table, has, put, remove, replaced}
use Rattle.spk_broker_rules.specs.Past.{Notes, begins, staying, last_said, entry, table}
use Rattle.spk_broker_rules.proofs.Lists.{cond-ap, flat_map-append, all-append}

pub bytes_self : (a : List ℕ) → bytes_eq a a ≡ true
bytes_self a = (bytes_eq-Decides a a).1 refl

module _ {V : Type 0} where
  -- each text that stays has a value
  abbrev AreSaid : Notes V → List (List ℕ) → Type 0
  AreSaid ns ks = AllByRecursion (λ k. is_some (last_said ns k) ≡ true) ks

  abbrev rows : Notes V → List (List ℕ) → Table V
  rows ns ks = flat_map (λ k. entry k (last_said ns k)) ks

  said-more : (ns : Notes V) (key : List ℕ) (v : V) (ks : List (List ℕ)) → AreSaid ns ks → AreSaid ((key, Some v) ∷ ns) ks
  said-more ns key v [] h = tt
  said-more ns key v (k ∷ ks) h = (by (bytes_eq k key), said-more ns key v ks h.1)
    where
      by : (b : Bool) → is_some (cond b (Some v) (last_said ns k)) ≡ true
      by true = refl
      by false = h.0

  said-less : (ns : Notes V) (key : List ℕ) (ks : List (List ℕ)) → AreSaid ns ks → AreSaid ((key, None) ∷ ns) (filter (λ k. not (bytes_eq k key)) ks)
  said-less ns key [] h = tt
  said-less ns key (k ∷ ks) h = by (bytes_eq k key) refl (said-less ns key ks h.1)
    where
      by : (b : Bool) → bytes_eq k key ≡ b → AreSaid ((key, None) ∷ ns) (filter (λ j. not (bytes_eq j key)) ks)
          → AreSaid ((key, None) ∷ ns) (cond (not b) (k ∷ filter (λ j. not (bytes_eq j key)) ks) (filter (λ j. not (bytes_eq j key)) ks))
      by true is t = t
      by false is t = (ap (λ b. is_some (cond b None (last_said ns k))) is ∙ h.0, t)

  said-begins : (ns : Notes V) (key : List ℕ) (v : Option V) → AreSaid ns (staying ns) → AreSaid ((key, v) ∷ ns) (begins key v (staying ns))
  said-begins ns key None h = said-less ns key (staying ns) h
  said-begins ns key (Some v) h = by (list_any (λ k. bytes_eq k key) (staying ns))
    where
      by : (b : Bool) → AreSaid ((key, Some v) ∷ ns) (cond b (staying ns) (staying ns ++ key ∷ []))
      by true = said-more ns key v (staying ns) h
      by false = all-append (λ k. is_some (last_said ((key, Some v) ∷ ns) k) ≡ true) (staying ns) (key ∷ []) (said-more ns key v (staying ns) h)
          (ap (λ b. is_some (cond b (Some v) (last_said ns key))) (bytes_self key), tt)

  pub all-said : (ns : Notes V) → AreSaid ns (staying ns)
  all-said [] = tt
  all-said (n ∷ ns) = said-begins ns n.0 n.1 (all-said ns)

  -- a text stands in the table exactly where it stays
  has-rows : (ns : Notes V) (key : List ℕ) (ks : List (List ℕ)) → AreSaid ns ks → has key (rows ns ks) ≡ list_any (λ k. bytes_eq k key) ks
  has-rows ns key [] h = refl
  has-rows ns key (k ∷ ks) h = by (last_said ns k) h.0 (has-rows ns key ks h.1)
    where
      by : (o : Option V) → is_some o ≡ true → has key (rows ns ks) ≡ list_any (λ j. bytes_eq j key) ks
          → has key (entry k o ++ rows ns ks) ≡ (bytes_eq k key || list_any (λ j. bytes_eq j key) ks)
      by None e rest = absurd (true≢false (sym e))
      by (Some w) e rest = ap (λ b. bytes_eq k key || b) rest

  pub has-table : (ns : Notes V) (key : List ℕ) → has key (table ns) ≡ list_any (λ k. bytes_eq k key) (staying ns)
  has-table ns key = has-rows ns key (staying ns) (all-said ns)

  length-rows : (ns : Notes V) (ks : List (List ℕ)) → AreSaid ns ks → length (rows ns ks) ≡ length ks
  length-rows ns [] h = refl
  length-rows ns (k ∷ ks) h = by (last_said ns k) h.0 (length-rows ns ks h.1)
    where
      by : (o : Option V) → is_some o ≡ true → length (rows ns ks) ≡ length ks → length (entry k o ++ rows ns ks) ≡ length (k ∷ ks)
      by None e rest = absurd (true≢false (sym e))
      by (Some w) e rest = ap suc rest

  pub length-table : (ns : Notes V) → length (table ns) ≡ length (staying ns)
  length-table ns = length-rows ns (staying ns) (all-said ns)

  -- a value said of a text that stays
  rows-replaced : (ns : Notes V) (key : List ℕ) (v : V) (ks : List (List ℕ)) → AreSaid ns ks → rows ((key, Some v) ∷ ns) ks ≡ map (replaced key v) (rows ns ks)
  rows-replaced ns key v [] h = refl
  rows-replaced ns key v (k ∷ ks) h =
      by (last_said ns k) h.0 ∙ ap (λ es. map (replaced key v) (entry k (last_said ns k)) ++ es) (rows-replaced ns key v ks h.1)
      ∙ sym (map-append (replaced key v) (entry k (last_said ns k)) (rows ns ks))
    where
      by : (o : Option V) → is_some o ≡ true → entry k (cond (bytes_eq k key) (Some v) o) ++ rows ((key, Some v) ∷ ns) ks
          ≡ map (replaced key v) (entry k o) ++ rows ((key, Some v) ∷ ns) ks
      by None e = absurd (true≢false (sym e))
      by (Some w) e = ap (λ es. es ++ rows ((key, Some v) ∷ ns) ks)
          (cond-ap (entry k) (bytes_eq k key) (Some v) (Some w) ∙ sym (cond-ap (λ x. x ∷ []) (bytes_eq k key) (k, v) (k, w)))

  -- of one that doesn't
  rows-other : (ns : Notes V) (key : List ℕ) (v : Option V) (ks : List (List ℕ)) → list_any (λ k. bytes_eq k key) ks ≡ false → rows ((key, v) ∷ ns) ks ≡ rows ns ks
  rows-other ns key v [] h = refl
  rows-other ns key v (k ∷ ks) h = by (bytes_eq k key) refl h (rows-other ns key v ks)
    where
      by : (b : Bool) → bytes_eq k key ≡ b → (b || list_any (λ j. bytes_eq j key) ks) ≡ false
          → (list_any (λ j. bytes_eq j key) ks ≡ false → rows ((key, v) ∷ ns) ks ≡ rows ns ks)
          → entry k (cond (bytes_eq k key) v (last_said ns k)) ++ rows ((key, v) ∷ ns) ks ≡ entry k (last_said ns k) ++ rows ns ks
      by true is e rest = absurd (true≢false e)
      by false is e rest = ap (λ c. entry k (cond c v (last_said ns k)) ++ rows ((key, v) ∷ ns) ks) is
          ∙ ap (λ es. entry k (last_said ns k) ++ es) (rest e)

  pub table-put : (ns : Notes V) (key : List ℕ) (v : V) → table ((key, Some v) ∷ ns) ≡ put key v (table ns)
  table-put ns key v = by (list_any (λ k. bytes_eq k key) (staying ns)) refl ∙ ap (λ b. cond b (map (replaced key v) (table ns)) (table ns ++ (key, v) ∷ [])) (sym (has-table ns key))
    where
      by : (b : Bool) → list_any (λ k. bytes_eq k key) (staying ns) ≡ b
          → rows ((key, Some v) ∷ ns) (cond b (staying ns) (staying ns ++ key ∷ [])) ≡ cond b (map (replaced key v) (table ns)) (table ns ++ (key, v) ∷ [])
      by true is = rows-replaced ns key v (staying ns) (all-said ns)
      by false is = flat_map-append (λ k. entry k (last_said ((key, Some v) ∷ ns) k)) (staying ns) (key ∷ [])
          ∙ ap (λ es. es ++ rows ((key, Some v) ∷ ns) (key ∷ [])) (rows-other ns key (Some v) (staying ns) is)
          ∙ ap (λ b. table ns ++ (entry key (cond b (Some v) (last_said ns key)) ++ [])) (bytes_self key)

  rows-removed : (ns : Notes V) (key : List ℕ) (ks : List (List ℕ)) → rows ((key, None) ∷ ns) (filter (λ k. not (bytes_eq k key)) ks) ≡ remove key (rows ns ks)
  rows-removed ns key [] = refl
  rows-removed ns key (k ∷ ks) = by (bytes_eq k key) refl (last_said ns k) refl (rows-removed ns key ks)
      ∙ sym (filter-append (λ (e : List ℕ × V). not (bytes_eq e.0 key)) (entry k (last_said ns k)) (rows ns ks))
    where
      by : (b : Bool) → bytes_eq k key ≡ b → (o : Option V) → last_said ns k ≡ o
          → rows ((key, None) ∷ ns) (filter (λ j. not (bytes_eq j key)) ks) ≡ remove key (rows ns ks)
          → rows ((key, None) ∷ ns) (cond (not b) (k ∷ filter (λ j. not (bytes_eq j key)) ks) (filter (λ j. not (bytes_eq j key)) ks))
          ≡ remove key (entry k o) ++ remove key (rows ns ks)
      by true is None said rest = rest
      by true is (Some w) said rest = rest ∙ ap (λ b. cond (not b) ((k, w) ∷ []) [] ++ remove key (rows ns ks)) (sym is)
      by false is None said rest =
          ap (λ b. entry k (cond b None (last_said ns k)) ++ rows ((key, None) ∷ ns) (filter (λ j. not (bytes_eq j key)) ks)) is
          ∙ ap (λ p. entry k p ++ rows ((key, None) ∷ ns) (filter (λ j. not (bytes_eq j key)) ks)) said ∙ rest
      by false is (Some w) said rest =
          ap (λ b. entry k (cond b None (last_said ns k)) ++ rows ((key, None) ∷ ns) (filter (λ j. not (bytes_eq j key)) ks)) is
          ∙ ap (λ p. entry k p ++ rows ((key, None) ∷ ns) (filter (λ j. not (bytes_eq j key)) ks)) said
          ∙ ap (λ es. (k, w) ∷ es) rest ∙ ap (λ b. cond (not b) ((k, w) ∷ []) [] ++ remove key (rows ns ks)) (sym is)

  pub table-remove : (ns : Notes V) (key : List ℕ) → table ((key, None) ∷ ns) ≡ remove key (table ns)
  table-remove ns key = rows-removed ns key (staying ns)
