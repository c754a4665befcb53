-- The node of some names, at its place in the list.
use Rattle.std.proofs.Common.{◌≡◌, ◌∙◌, sym, ap, refl, ℕ, suc, ◌+◌, Bool, true, false, cond, List, [], ◌∷◌, ◌++◌, length, set, get_or, Option, Some, None, Bor, ◌<◌, arith}
use Rattle.std.specs.List.{find, position, position_from}
use Rattle.std.specs.Option.{option_copied, option_map_or}
use Rattle.std.proofs.lemmas.Bool.Decides.{nat_tests}
use Rattle.std.proofs.lemmas.Iterator.Adapters.{position_from-zero}
use Rattle.std.proofs.lemmas.Option.{slice_get_read, slice_get_within}
use Rattle.std.specs.Prelude.{slice_get, Result, Ok, Err, IfOk, IfSome, OnOk, is_some, nat_lt}
use Rattle.spk_host_node.specs.Data.{NodeData}
use Rattle.spk_host.specs.Data.{Entry}
use Rattle.spk_host.specs.Nodes.{change_node, is_of, kept_of, node_or, put_node}
use Rattle.spk_host.proofs.Mapped.{same-some}

-- what stands at a place, if it is the first of these names
pub record IsAt (group node : List ℕ) (nodes : List Entry) (k : ℕ) (e : Entry) : Type 0 where
  pub there : slice_get nodes k ≡ Some e
  pub found : find (is_of group node) nodes ≡ Some e
  pub put : (kept : NodeData) → put_node group node kept nodes ≡ set nodes k (record e { kept = kept })
  pub change : (f : NodeData → NodeData) → change_node group node f nodes ≡ set nodes k (record e { kept = f e.kept })

pub record IsAbsent (group node : List ℕ) (nodes : List Entry) : Type 0 where
  pub not_found : find (is_of group node) nodes ≡ None
  pub put : (kept : NodeData) → put_node group node kept nodes ≡ nodes ++ (record { group = group; node = node; kept = kept }) ∷ []
  pub change : (f : NodeData → NodeData) → change_node group node f nodes ≡ nodes

none≢some : {X : Type 0} {x : X} → None ≡ Some x → ⊥
none≢some h = cc

abbrev At : (group node : List ℕ) (nodes : List Entry) (i k : ℕ) → Type 0
At group node nodes i k = (j : ℕ) × (e : Entry) × (k ≡ i + j) × IsAt group node nodes j e

at_more : (group node : List ℕ) (x : Entry) (nodes : List Entry) (i k : ℕ) (b : Bool) → is_of group node x ≡ b →
    cond b (Some i) (position_from (is_of group node) (i + 1) nodes) ≡ Some k →
    (position_from (is_of group node) (i + 1) nodes ≡ Some k → At group node nodes (i + 1) k) → At group node (x ∷ nodes) i k
at_more group node x nodes i k true is h rest =
    let same : i ≡ k = same-some h in (
      0,
      x,
      omega (arith, same),
      record {
        there = refl;
        found = ap (λ b. cond b (Some x) (find (is_of group node) nodes)) is;
        put = λ kept. ap (λ b. cond b ((record x { kept = kept }) ∷ nodes) (x ∷ put_node group node kept nodes)) is;
        change = λ f. ap (λ b. cond b ((record x { kept = f x.kept }) ∷ nodes) (x ∷ change_node group node f nodes)) is;
      },
    )
at_more group node x nodes i k false is h rest =
    let r : At group node nodes (i + 1) k = rest h in
    let far : k ≡ i + 1 + r.0 = r.2 in (
      suc r.0,
      r.1,
      omega (arith, far),
      record {
        there = r.3.there;
        found = ap (λ b. cond b (Some x) (find (is_of group node) nodes)) is ∙ r.3.found;
        put = λ kept. ap (λ b. cond b ((record x { kept = kept }) ∷ nodes) (x ∷ put_node group node kept nodes)) is ∙ ap (λ l. x ∷ l) (r.3.put kept);
        change = λ f. ap (λ b. cond b ((record x { kept = f x.kept }) ∷ nodes) (x ∷ change_node group node f nodes)) is ∙ ap (λ l. x ∷ l) (r.3.change f);
      },
    )

at_from : (group node : List ℕ) (nodes : List Entry) (i k : ℕ) → position_from (is_of group node) i nodes ≡ Some k → At group node nodes i k
at_from group node [] i k h = absurd (none≢some h)
at_from group node (x ∷ nodes) i k h =
    at_more group node x nodes i k (is_of group node x) refl h (at_from group node nodes (i + 1) k)

moved : (group node : List ℕ) (nodes : List Entry) (e : Entry) (j k : ℕ) → j ≡ k → IsAt group node nodes j e → IsAt group node nodes k e
moved group node nodes e j k same is = rw (← same) is

pub at : (group node : List ℕ) (nodes : List Entry) (k : ℕ) → position_from (is_of group node) 0 nodes ≡ Some k →
    (e : Entry) × IsAt group node nodes k e
at group node nodes k h =
    let r : At group node nodes 0 k = at_from group node nodes 0 k h in
    let far : k ≡ 0 + r.0 = r.2 in
    (r.1, moved group node nodes r.1 r.0 k (omega (arith, far)) r.3)

absent_more : (group node : List ℕ) (x : Entry) (nodes : List Entry) (i : ℕ) (b : Bool) → is_of group node x ≡ b →
    cond b (Some i) (position_from (is_of group node) (i + 1) nodes) ≡ None →
    (position_from (is_of group node) (i + 1) nodes ≡ None → IsAbsent group node nodes) → IsAbsent group node (x ∷ nodes)
absent_more group node x nodes i true is h rest = absurd (none≢some (sym h))
absent_more group node x nodes i false is h rest =
    let r : IsAbsent group node nodes = rest h in
    record {
      not_found = ap (λ b. cond b (Some x) (find (is_of group node) nodes)) is ∙ r.not_found;
      put = λ kept. ap (λ b. cond b ((record x { kept = kept }) ∷ nodes) (x ∷ put_node group node kept nodes)) is ∙ ap (λ l. x ∷ l) (r.put kept);
      change = λ f. ap (λ b. cond b ((record x { kept = f x.kept }) ∷ nodes) (x ∷ change_node group node f nodes)) is ∙ ap (λ l. x ∷ l) (r.change f);
    }

pub absent : (group node : List ℕ) (nodes : List Entry) (i : ℕ) → position_from (is_of group node) i nodes ≡ None → IsAbsent group node nodes
absent group node [] i h = record { not_found = refl; put = λ kept. refl; change = λ f. refl }
absent group node (x ∷ nodes) i h = absent_more group node x nodes i (is_of group node x) refl h (absent group node nodes (i + 1))

-- what was looked for, by other names of the same
pub place_is : (o : Option ℕ) (g h n m : List ℕ) (xs ys : List Entry) → o ≡ position (is_of g n) xs → g ≡ h → n ≡ m → xs ≡ ys →
    position_from (is_of h m) 0 ys ≡ o
place_is o g h n m xs ys is a b c =
    sym (is ∙ ap (λ x. position (is_of x n) xs) a ∙ ap (λ x. position (is_of h x) xs) b ∙ ap (position (is_of h m)) c ∙ position_from-zero (is_of h m) ys)

pub read_there : (nodes : List Entry) (k : ℕ) (x e : Entry) → slice_get nodes k ≡ Some e → x ≡ get_or nodes k x → x ≡ e
read_there nodes k x e at h = same-some (sym (slice_get_read nodes (length nodes) k x refl (slice_get_within nodes k e at) h) ∙ at)

pub node_there : (fresh : NodeData) (group node : List ℕ) (nodes : List Entry) (o : Option Entry) → find (is_of group node) nodes ≡ o →
    node_or fresh nodes group node ≡ option_map_or kept_of o fresh
node_there fresh group node nodes o is = ap (λ x. option_map_or kept_of x fresh) is

-- ---- under an answer

pub on_ok : {X E : Type 0} {P Q : Type 0} (r : Result X E) → OnOk r P → (P → Q) → OnOk r Q
on_ok (Ok x) h f = f h
on_ok (Err e) h f = h

pub if_ok : {X E : Type 0} {P Q : X → Type 0} (r : Result X E) → IfOk r P → ((x : X) → P x → Q x) → IfOk r Q
if_ok (Ok x) h f = f x h
if_ok (Err e) h f = h

-- what is read at a place
pub got : {X : Type 0} (o : Option (Bor X)) (xs : List X) (k : ℕ) (x : X) → slice_get xs k ≡ Some x → is_some o ≡ nat_lt k (length xs)
    → IfSome o (λ y. y.now ≡ get_or xs k y.now) → option_copied o ≡ Some x
got None xs k x at has is =
    let low = slice_get_within xs k x at in
    absurd (never k (length xs) low has)
  where
    never : (k n : ℕ) → k < n → false ≡ nat_lt k n → ⊥
    never k n low h = grind (arith, nat_tests)
got (Some y) xs k x at has is =
    sym (slice_get_read xs (length xs) k y.now refl (slice_get_within xs k x at) is) ∙ at
