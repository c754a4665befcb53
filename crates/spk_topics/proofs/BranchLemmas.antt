-- Where the edges of a node lead: none, a single one, or those of a map.
use Rattle.std.proofs.Common.{◌≡◌, ◌⊎◌, ℕ, List, [], ◌∷◌, Bool, true, false, refl, sym, ap, ◌∙◌, cond, inl, inr, arith, length, map, subst, Option, Some, None}
use Rattle.std.specs.Prelude.{String, slice_get}
use Rattle.std.specs.BTreeMap.{BTreeMap, get_by_text}
use Rattle.std.specs.BTreeMap as tree
use Rattle.std.specs.Map.{lookup}
use Rattle.std.specs.Ordering.{is_eq, nat_cmp}
use Rattle.std.specs.declared.cmp.Ordering.TheVariants.{Less}
use Rattle.std.specs.Cmp.Lexicographic.{slice_cmp}
use Rattle.std.specs.Str.{bytes_eq}
use Rattle.std.specs.String.{string_bytes, string_cmp}
use Rattle.std.specs.List.Sorted.{IsStrictlySortedBy}
use Rattle.std.proofs.lemmas.Map.Text.{is_eq-slice_cmp}
use Rattle.std.proofs.lemmas.Bool.{false≢true}
use Rattle.spk_topics.specs.declared.node.Branch.{Branch}
use Rattle.spk_topics.specs.Nodes.{only_way}
use Rattle.spk_topics.specs.Whole.{HasOne, HasTwo}
use Rattle.spk_topics.proofs.FitLemmas.{bytes_same, bytes_self}

differ : (a b : List ℕ) (c : Bool) → bytes_eq a b ≡ c → (a ≡ b → ⊥) → c ≡ false
differ a b true e off = absurd (off (bytes_same a b e))
differ a b false e off = refl

abbrev LeadsOn : (List ℕ → Option ℕ) → Type 0
LeadsOn ways = (level : List ℕ) × (n : ℕ) × (ways level ≡ Some n)

-- ---- a single edge

pub branch_leads : (branch : Branch) → only_way branch (string_bytes branch.level) ≡ Some branch.number
branch_leads branch = ap (λ b. cond b (Some branch.number) nothing) (bytes_self (string_bytes branch.level))
  where
    nothing : Option ℕ
    nothing = None

pub branch_on : (branch : Branch) → LeadsOn (only_way branch)
branch_on branch = (string_bytes branch.level, branch.number, branch_leads branch)

pub branch_one : (branch : Branch) → HasOne (only_way branch) branch.number
branch_one branch = record {
  level = string_bytes branch.level;
  leads = branch_leads branch;
  only = λ l off. ap (λ b. cond b (Some branch.number) nothing) (differ (string_bytes branch.level) l (bytes_eq (string_bytes branch.level) l) refl (λ e. off (sym e)));
}
  where
    nothing : Option ℕ
    nothing = None

-- ---- a map of them

-- where a level leads by entries
abbrev by : {Y : Type 0} → List (String Y × ℕ) → List ℕ → Option ℕ
by entries level = lookup (λ k. is_eq (slice_cmp nat_cmp level (string_bytes k))) entries

first_leads : {Y : Type 0} (e : String Y × ℕ) (entries : List (String Y × ℕ)) → by (e ∷ entries) (string_bytes e.0) ≡ Some e.1
first_leads e entries = ap (λ b. cond b (Some e.1) (by entries (string_bytes e.0))) (is_eq-slice_cmp (string_bytes e.0) (string_bytes e.0) ∙ bytes_self (string_bytes e.0))

past_first : {Y : Type 0} (e : String Y × ℕ) (entries : List (String Y × ℕ)) (l : List ℕ) → (l ≡ string_bytes e.0 → ⊥) → by (e ∷ entries) l ≡ by entries l
past_first e entries l off = ap (λ b. cond b (Some e.1) (by entries l)) (is_eq-slice_cmp l (string_bytes e.0) ∙ differ l (string_bytes e.0) (bytes_eq l (string_bytes e.0)) refl off)

pub map_on : {Y : Type 0} (m : BTreeMap (String Y) ℕ) → (m.entries ≡ [] → ⊥) → LeadsOn (get_by_text m)
map_on {Y = Y} m full = side m.entries refl full
  where
    side : (entries : List (String Y × ℕ)) → m.entries ≡ entries → (m.entries ≡ [] → ⊥) → LeadsOn (get_by_text m)
    side [] e off = absurd (off e)
    side (x ∷ entries) e off = (string_bytes x.0, x.1, ap (λ es. by es (string_bytes x.0)) e ∙ first_leads x entries)

pub map_one : {Y : Type 0} (m : BTreeMap (String Y) ℕ) (k : String Y) (v : ℕ) → length m.entries ≡ 1 → slice_get m.entries 0 ≡ Some (k, v) → HasOne (get_by_text m) v
map_one {Y = Y} m k v len first = side m.entries refl len first
  where
    side : (entries : List (String Y × ℕ)) → m.entries ≡ entries → length entries ≡ 1 → slice_get entries 0 ≡ Some (k, v) → HasOne (get_by_text m) v
    side [] e one h = absurd (omega (arith, one))
    side (x ∷ y ∷ entries) e one h = absurd (omega (arith, one))
    side (x ∷ []) e one h =
        let is : x.1 ≡ v = cc in
        record {
          level = string_bytes x.0;
          leads = ap (λ es. by es (string_bytes x.0)) e ∙ first_leads x [] ∙ ap (λ n. Some n) is;
          only = λ l off. ap (λ es. by es l) e ∙ past_first x [] l off;
        }

keys_apart : {Y : Type 0} (x y : String Y) → string_cmp x y ≡ Less → string_bytes x ≡ string_bytes y → ⊥
keys_apart x y less same =
    let yes : is_eq (slice_cmp nat_cmp (string_bytes x) (string_bytes y)) ≡ true = is_eq-slice_cmp (string_bytes x) (string_bytes y) ∙ ap (bytes_eq (string_bytes x)) (sym same) ∙ bytes_self (string_bytes x) in
    let no : is_eq (slice_cmp nat_cmp (string_bytes x) (string_bytes y)) ≡ false = ap is_eq less in
    false≢true (sym no ∙ yes)

pub map_two : {Y : Type 0} (m : BTreeMap (String Y) ℕ) → tree.IsOrdered string_cmp m → (length m.entries ≡ 1 → ⊥) → HasTwo (get_by_text m) ⊎ ((l : List ℕ) → get_by_text m l ≡ None)
unfolding IsStrictlySortedBy
map_two {Y = Y} m ordered many = side m.entries refl ordered many
  where
    side : (entries : List (String Y × ℕ)) → m.entries ≡ entries → IsStrictlySortedBy string_cmp (map (λ e. e.0) m.entries) → (length m.entries ≡ 1 → ⊥) → HasTwo (get_by_text m) ⊎ ((l : List ℕ) → get_by_text m l ≡ None)
    side [] e sorted off = inr (λ l. ap (λ es. by es l) e)
    side (x ∷ []) e sorted off = absurd (off (ap length e))
    side (x ∷ y ∷ entries) e sorted off =
        let in_order : IsStrictlySortedBy string_cmp (x.0 ∷ y.0 ∷ map (λ z. z.0) entries) = subst (λ es. IsStrictlySortedBy string_cmp (map (λ z. z.0) es)) e sorted in
        let less : string_cmp x.0 y.0 ≡ Less = in_order.0.0 in
        inl (record {
          one = string_bytes x.0;
          other = string_bytes y.0;
          one_node = x.1;
          other_node = y.1;
          apart = keys_apart x.0 y.0 less;
          one_leads = ap (λ es. by es (string_bytes x.0)) e ∙ first_leads x (y ∷ entries);
          other_leads = ap (λ es. by es (string_bytes y.0)) e ∙ past_first x (y ∷ entries) (string_bytes y.0) (λ same. keys_apart x.0 y.0 less (sym same)) ∙ first_leads y entries;
        })
