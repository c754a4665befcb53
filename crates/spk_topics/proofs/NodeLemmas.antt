-- The rows of nodes, and what the grants hold where nothing is granted.
use Rattle.std.proofs.Common.{◌≡◌, ℕ, ◌<◌, List, [], Bool, true, false, refl, ap, sym, ◌∙◌, subst, cond, inr, length, set, get_or, get_or-set_same, arith, map, Option, Some, None}
use Rattle.std.specs.Cmp.{eq_by_cmp_equiv, nat_cmp_total}
use Rattle.std.specs.Prelude.{slice_get}
use Rattle.std.specs.Option.{option_map, option_map_or}
use Rattle.std.specs.Ordering.{eq_by_cmp, is_eq, nat_cmp}
use Rattle.std.specs.declared.cmp.Ordering.{Ordering}
use Rattle.std.specs.declared.cmp.Ordering.TheVariants.{Less, Equal, Greater}
use Rattle.std.specs.String.{string_bytes}
use Rattle.std.specs.BTreeMap as tree
use Rattle.std.specs.FinMap.{get, insert, remove, same_map, get-remove, get-from_entries}
use Rattle.std.proofs.lemmas.Option.{slice_get-map, slice_get-get_or, slice_get_within}
use Rattle.std.proofs.lemmas.List.{length-map, length-set, map-set}
use Rattle.std.proofs.Math.Seq.{map-set_same}
use Rattle.spk_topics.specs.declared.node.Node.{Node}
use Rattle.spk_topics.specs.Grants.{Grants, grant_cmp}
use Rattle.spk_topics.specs.Rows.{Row, flat, grants_of, Absent, IsPlace, SetsRow}
use Rattle.spk_topics.specs.Nodes.{row_of, link_of}
use Rattle.spk_topics.specs.Paths.{Link, text_in}
use Rattle.spk_topics.specs.Whole.{HasGrants}
use Rattle.spk_topics.proofs.RowLemmas.{grants_total, grants_exact, none_there, one_given, one_taken, get-grants_of, held}

-- the rows of a list of nodes
abbrev pub rows_in : List Node → List Row
rows_in nodes = map row_of nodes

-- their edges
abbrev pub links_in : List Node → List Link
links_in nodes = map link_of nodes

pub in_rows : (nodes : List Node) (i : ℕ) (row : Row) → slice_get (rows_in nodes) i ≡ Some row → i < length nodes
in_rows nodes i row h = omega (arith, slice_get_within (rows_in nodes) i row h, length-map nodes row_of)

-- the row of the node at a place
pub node_row : (nodes : List Node) (i : ℕ) (row : Row) (d : Node) → slice_get (rows_in nodes) i ≡ Some row → row ≡ row_of (get_or nodes i d)
node_row nodes i row d h =
    let there : slice_get nodes i ≡ Some (get_or nodes i d) = slice_get-get_or nodes i d (in_rows nodes i row h) in
    let mapped : Some row ≡ Some (row_of (get_or nodes i d)) = sym h ∙ slice_get-map row_of nodes i ∙ ap (option_map row_of) there in
    cc

pub rows_set : (nodes : List Node) (i : ℕ) (x : Node) → rows_in (set nodes i x) ≡ set (rows_in nodes) i (row_of x)
rows_set nodes i x = map-set row_of nodes i x

tied : (q k : List ℕ × ℕ) (b : Bool) → eq_by_cmp grant_cmp q k ≡ b → (m : Grants) → get m k ≡ None → cond b None (get m q) ≡ get m q
tied q k true e m h = sym (ap (get m) (grants_exact q k (equal (grant_cmp q k) e)) ∙ h)
  where
    equal : (r : Ordering) → is_eq r ≡ true → r ≡ Equal
    equal Less h = cc
    equal Equal h = refl
    equal Greater h = cc
tied q k false e m h = refl

-- what isn't granted can be taken back, and nothing changes
pub remove_absent : (m : Grants) (k : List ℕ × ℕ) → get m k ≡ None → m ≡ remove m k
remove_absent m k h = same_map grants_total grants_exact m (remove m k) (λ q. sym (get-remove grants_total m k q ∙ tied q k (eq_by_cmp grant_cmp q k) refl m h))

pub get-absent : (rows : List Row) (f : List ℕ) (k : ℕ) → Absent rows f → get (grants_of rows) (f, k) ≡ None
get-absent rows f k h = get-from_entries grants_total (flat rows) (f, k) ∙ none_there rows f k h

-- the grants once a node has a key more
pub node_given : (nodes : List Node) (f : List ℕ) (i : ℕ) (s t : Node) (key qos : ℕ) → IsPlace (rows_in nodes) f i → s ≡ get_or nodes i s → string_bytes t.path ≡ f
    → ((j : ℕ) → tree.get nat_cmp t.grants j ≡ cond (is_eq (nat_cmp key j)) (Some qos) (tree.get nat_cmp s.grants j))
    → grants_of (rows_in (set nodes i t)) ≡ insert (grants_of (rows_in nodes)) (f, key) qos
node_given nodes f i s t key qos p is filter h =
    let same : p.row ≡ row_of s = node_row nodes i p.row s p.there ∙ ap row_of (sym is) in
    ap grants_of (rows_set nodes i t ∙ ap (λ g. set (rows_in nodes) i (g, t.grants.entries)) filter)
    ∙ one_given (rows_in nodes) f i p.row t.grants.entries key qos p.only p.there p.fits
    (subst (λ (r : Row). (j : ℕ) → held t.grants.entries j ≡ cond (is_eq (nat_cmp key j)) (Some qos) (held r.1 j)) (sym same) h)

-- it has grants then
pub node_filled : (nodes : List Node) (f : List ℕ) (i : ℕ) (t : Node) (key qos : ℕ) (o : Option ℕ) → IsPlace (rows_in nodes) f i → tree.get nat_cmp t.grants key ≡ cond (is_eq (nat_cmp key key)) (Some qos) o
    → HasGrants (rows_in (set nodes i t)) i
node_filled nodes f i t key qos o p h =
    let inside : i < length nodes = in_rows nodes i p.row p.there in
    let at : slice_get (set nodes i t) i ≡ Some t = slice_get-get_or (set nodes i t) i t (omega (arith, inside, length-set nodes i t)) ∙ ap (λ x. Some x) (get_or-set_same nodes i t t inside) in
    let full : held t.grants.entries key ≡ Some qos = h ∙ ap (λ b. cond b (Some qos) o) ((eq_by_cmp_equiv nat_cmp_total).refl key) in
    record { row = row_of t; there = slice_get-map row_of (set nodes i t) i ∙ ap (option_map row_of) at; granted = λ e. differ (sym (ap (λ es. held es key) e) ∙ full) }
  where
    differ : None ≡ Some qos → ⊥
    differ e = cc

-- the grants once a node has a key less
pub node_taken : (nodes : List Node) (f : List ℕ) (i : ℕ) (s t : Node) (key : ℕ) → IsPlace (rows_in nodes) f i → s ≡ get_or nodes i s → string_bytes t.path ≡ f
    → ((j : ℕ) → tree.get nat_cmp t.grants j ≡ cond (is_eq (nat_cmp key j)) None (tree.get nat_cmp s.grants j))
    → grants_of (rows_in (set nodes i t)) ≡ remove (grants_of (rows_in nodes)) (f, key)
node_taken nodes f i s t key p is filter h =
    let same : p.row ≡ row_of s = node_row nodes i p.row s p.there ∙ ap row_of (sym is) in
    ap grants_of (rows_set nodes i t ∙ ap (λ g. set (rows_in nodes) i (g, t.grants.entries)) filter)
    ∙ one_taken (rows_in nodes) f i p.row t.grants.entries key p.only p.there p.fits
    (subst (λ (r : Row). (j : ℕ) → held t.grants.entries j ≡ cond (is_eq (nat_cmp key j)) None (held r.1 j)) (sym same) h)

-- what is granted stands in the node
pub node_holds : (nodes : List Node) (f : List ℕ) (i : ℕ) (s : Node) (key : ℕ) → IsPlace (rows_in nodes) f i → s ≡ get_or nodes i s
    → get (grants_of (rows_in nodes)) (f, key) ≡ tree.get nat_cmp s.grants key
node_holds nodes f i s key p is =
    let same : p.row ≡ row_of s = node_row nodes i p.row s p.there ∙ ap row_of (sym is) in
    get-grants_of (rows_in nodes) f i p.row key p.only p.there p.fits ∙ ap (λ (r : Row). held r.1 key) same

-- the text of a node
pub node_text : (nodes : List Node) (i : ℕ) (s : Node) → IsPlace (rows_in nodes) (text_in (rows_in nodes) i) i → s ≡ get_or nodes i s → string_bytes s.path ≡ text_in (rows_in nodes) i
node_text nodes i s p is =
    let same : p.row ≡ row_of s = node_row nodes i p.row s p.there ∙ ap row_of (sym is) in
    sym (ap (λ (o : Option Row). option_map_or (λ (r : Row). r.0) o []) p.there ∙ ap (λ (r : Row). r.0) same)

-- the rows once a node is the filter's, with other grants
pub rows_after : (nodes : List Node) (f : List ℕ) (i : ℕ) (t : Node) → string_bytes t.path ≡ f → SetsRow (rows_in nodes) (rows_in (set nodes i t)) f i
rows_after nodes f i t filter = inr (t.grants.entries, rows_set nodes i t ∙ ap (λ g. set (rows_in nodes) i (g, t.grants.entries)) filter)

-- a node that holds what it held leaves the rows as they were
pub same_rows : (nodes : List Node) (i : ℕ) (s t : Node) → s ≡ get_or nodes i s → row_of t ≡ row_of s → rows_in (set nodes i t) ≡ rows_in nodes
same_rows nodes i s t is h = map-set_same row_of nodes i t s (h ∙ ap row_of is)

-- and the links, if it has the same edges
pub same_links : (nodes : List Node) (i : ℕ) (s t : Node) → s ≡ get_or nodes i s → link_of t ≡ link_of s → links_in (set nodes i t) ≡ links_in nodes
same_links nodes i s t is h = map-set_same link_of nodes i t s (h ∙ ap link_of is)
