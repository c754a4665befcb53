-- One step or one node more, and what the nodes' names and capacities come to.
use Rattle.std.proofs.Common.{◌≡◌, ◌∙◌, ap, refl, subst, ℕ, zero, suc, ◌+◌, ◌≤◌, Bool, true, false, not, ◌&&◌, ◌||◌, List, [], ◌∷◌, ◌++◌, length, Some, arith}
use Rattle.std.specs.Prelude.{nat_le, count_by}
use Rattle.std.specs.List.{list_all, list_any}
use Rattle.std.specs.Str.{bytes_eq}
use Rattle.std.specs.String.{string_bytes}
use Rattle.std.proofs.lemmas.Bool.{and_parts, and_from, le-leb}
use Rattle.std.proofs.lemmas.List.Folds.{list_any-append}
use Rattle.std.proofs.lemmas.List.Sums.{sum_by-append}
use Rattle.spk_topics.specs.Spark.{is_name}
use Rattle.spk_host_session.specs.Data.{is_short_name}
use Rattle.spk_plan.specs.declared.plan.Plan.{Plan}
use Rattle.spk_plan.specs.declared.plan.PlanNode.{PlanNode}
use Rattle.spk_plan.specs.declared.script.Step.{Step}
use Rattle.spk_plan_rules.specs.Plan.{AreEdges, CanRun, are_distinct, changes_at, changes_in, fits, is_edge, is_open}
use Rattle.spk_files.specs.Plan.{is_well_made}

-- ---- scripts

pub opens_push : (steps : List Step) (x : Step) → count_by is_open (steps ++ x ∷ []) ≡ count_by is_open steps + count_by is_open (x ∷ [])
opens_push steps x = sum_by-append _ steps (x ∷ [])

pub changes_push : (steps : List Step) (x : Step) → changes_in (steps ++ x ∷ []) ≡ changes_in steps + changes_at x
changes_push [] x = omega arith
changes_push (s ∷ ss) x = let e = changes_push ss x in omega (arith, e)

pub fits_both : (n : PlanNode) → count_by is_open n.script.items ≤ 200 → changes_in n.script.items ≤ 100000 → fits n ≡ true
fits_both n opens changes =
    and_from (nat_le (count_by is_open n.script.items) 200) (nat_le (changes_in n.script.items) 100000)
    (le-leb (count_by is_open n.script.items) 200 opens) (le-leb (changes_in n.script.items) 100000 changes)

-- ---- nodes

pub all_push : {X : Type 0} (p : X → Bool) (xs : List X) (x : X) → list_all p xs ≡ true → p x ≡ true → list_all p (xs ++ x ∷ []) ≡ true
all_push p [] x all one = ap (λ b. b && true) one
all_push p (y ∷ xs) x all one =
    let parts = and_parts (p y) (list_all p xs) all in
    and_from (p y) (list_all p (xs ++ x ∷ [])) parts.0 (all_push p xs x parts.1 one)

pub not_none : (b c : Bool) → not b ≡ true → c ≡ false → not (b || (c || false)) ≡ true
not_none false c n e = ap (λ d. not (d || false)) e
not_none true c n e = n

pub or-none : (b c : Bool) → b || c ≡ false → (b ≡ false) × (c ≡ false)
or-none false c e = (refl, e)
or-none true c e = cc

-- a node whose name none has
pub distinct_push : (ns : List PlanNode) (x : PlanNode) → are_distinct ns ≡ true
    → list_any (λ (n : PlanNode). bytes_eq (string_bytes x.node) (string_bytes n.node)) ns ≡ false → are_distinct (ns ++ x ∷ []) ≡ true
distinct_push [] x distinct none = refl
distinct_push (n ∷ ns) x distinct none =
    let same : PlanNode → Bool = λ (m : PlanNode). bytes_eq (string_bytes m.node) (string_bytes n.node) in
    let is : PlanNode → Bool = λ (m : PlanNode). bytes_eq (string_bytes x.node) (string_bytes m.node) in
    let parts = and_parts (not (list_any same ns)) (are_distinct ns) distinct in
    let nones = or-none (is n) (list_any is ns) none in
    let here : not (list_any same ns || list_any same (x ∷ [])) ≡ true = not_none (list_any same ns) (same x) parts.0 nones.0 in
    and_from (not (list_any same (ns ++ x ∷ []))) (are_distinct (ns ++ x ∷ []))
    (ap not (list_any-append same ns (x ∷ [])) ∙ here)
    (distinct_push ns x parts.1 nones.1)

pub made_well : (n : PlanNode) → is_name (string_bytes n.node) ≡ true → 1 ≤ n.capacity → n.capacity ≤ 4096 → is_well_made n ≡ true
made_well n name least most =
    and_from (is_name (string_bytes n.node)) (nat_le 1 n.capacity && nat_le n.capacity 4096) name
    (and_from (nat_le 1 n.capacity) (nat_le n.capacity 4096) (le-leb 1 n.capacity least) (le-leb n.capacity 4096 most))

-- ---- a plan

pub is_short : (text : List ℕ) → is_name text ≡ true → length text ≤ 60000 → is_short_name text ≡ true
is_short text name short = and_from (is_name text) (nat_le (length text) 60000) name (le-leb (length text) 60000 short)

short_is_name : (text : List ℕ) → is_short_name text ≡ true → is_name text ≡ true
short_is_name text short = let parts = and_parts (is_name text) (nat_le (length text) 60000) short in parts.0

five : (a b c d e : Bool) → a ≡ true → c ≡ true → b && (d && e) ≡ true → a && b && c && d && e ≡ true
five true true true true true p q r = refl
five true true true true false p q r = r
five true true true false e p q r = r
five true false true d e p q r = r
five true b false d e p q r = cc
five false b c d e p q r = cc

edge_is_made : (group host : List ℕ) (n : PlanNode) → is_name group ≡ true → is_name host ≡ true → is_well_made n ≡ true → is_edge group host n ≡ true
edge_is_made group host n g h made = five (is_name group) (is_name (string_bytes n.node)) (is_name host) (nat_le 1 n.capacity) (nat_le n.capacity 4096) g h made

some_is : (m n : PlanNode) → Some m ≡ Some n → m ≡ n
some_is m n e = cc

pub are_edges : (group host : List ℕ) (ns : List PlanNode) → is_short_name group ≡ true → is_short_name host ≡ true → list_all is_well_made ns ≡ true → AreEdges group host ns
are_edges group host [] g h all k n at = cc
are_edges group host (m ∷ ns) g h all zero n at =
    let parts = and_parts (is_well_made m) (list_all is_well_made ns) all in
    subst (λ (z : PlanNode). is_edge group host z ≡ true) (some_is m n at)
    (edge_is_made group host m (short_is_name group g) (short_is_name host h) parts.0)
are_edges group host (m ∷ ns) g h all (suc k) n at =
    let parts = and_parts (is_well_made m) (list_all is_well_made ns) all in
    are_edges group host ns g h parts.1 k n at

pub can_run : (p : Plan) → is_short_name (string_bytes p.group) ≡ true → is_short_name (string_bytes p.host) ≡ true → 4 ≤ p.ring → p.ring ≤ 65536 → 1 ≤ p.ingress
    → p.ingress ≤ 65536 → 1 ≤ length p.nodes.items → length p.nodes.items ≤ 16 → list_all fits p.nodes.items ≡ true → list_all is_well_made p.nodes.items ≡ true
    → are_distinct p.nodes.items ≡ true → CanRun p
can_run p group host ring_from ring_to ingress_from ingress_to some most scripts made distinct = record {
  within = record {
    some = some;
    most = most;
    ring_from = ring_from;
    ring_to = ring_to;
    ingress_from = ingress_from;
    ingress_to = ingress_to;
    scripts = scripts;
    distinct = distinct;
  };
  edges = are_edges (string_bytes p.group) (string_bytes p.host) p.nodes.items group host made;
  host = and_from (is_short_name (string_bytes p.host)) (is_short_name (string_bytes p.group)) host group;
}
