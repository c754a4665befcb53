-- The edges of nodes, and what a change of one node does to them.
use Rattle.std.proofs.Common.{◌≡◌, ◌<◌, ℕ, zero, suc, List, [], ◌∷◌, ◌++◌, Bool, true, false, refl, ap, sym, ◌∙◌, subst, cond, arith, Option, Some, None, length, set, get_or}
use Rattle.std.specs.Prelude.{slice_get, option_and_then, nat_eq, ◌&&◌}
use Rattle.std.specs.Option.{option_map}
use Rattle.std.specs.Str.{bytes_eq}
use Rattle.std.proofs.Math.Dec.{eqb-suc-zero, eqb-zero-suc, eqb-suc-suc}
use Rattle.std.proofs.lemmas.Bool.{eqb-true}
use Rattle.std.proofs.lemmas.List.{length-map, map-set}
use Rattle.std.proofs.lemmas.Option.{slice_get-map, slice_get_read, slice_get_within}
use Rattle.spk_topics.specs.declared.node.Node.{Node}
use Rattle.spk_topics.specs.Edges.{DropsChildren, SetsChild, SetsUp, SetsNext}
use Rattle.spk_topics.specs.Nodes.{row_of, link_of, next_of, edge_of, ways_of}
use Rattle.spk_topics.specs.Paths.{Child, Link, child_in, up_in, next_in}
use Rattle.spk_topics.proofs.NodeLemmas.{rows_in, links_in}

-- ---- one link changes

set_at : (links : List Link) (n : ℕ) (x : Link) → n < length links → (p : ℕ) → slice_get (set links n x) p ≡ cond (nat_eq p n) (Some x) (slice_get links p)
set_at [] n x h p = absurd (omega arith)
set_at (y ∷ ls) zero x h zero = refl
set_at (y ∷ ls) zero x h (suc p) = rw eqb-suc-zero refl
set_at (y ∷ ls) (suc n) x h zero = rw eqb-zero-suc refl
set_at (y ∷ ls) (suc n) x h (suc p) = rw eqb-suc-suc (set_at ls n x (omega arith) p)

then_cond : {B : Type 0} (f : Link → Option B) (b : Bool) (x : Link) (o : Option Link) → option_and_then f (cond b (Some x) o) ≡ cond b (f x) (option_and_then f o)
then_cond f true x o = refl
then_cond f false x o = refl

child_set : (links : List Link) (n : ℕ) (x : Link) → n < length links → (p : ℕ) (l : List ℕ) → child_in (set links n x) p l ≡ cond (nat_eq p n) (x.0 l) (child_in links p l)
child_set links n x h p l =
    ap (λ o. option_and_then (λ (link : Link). link.0 l) o) (set_at links n x h p)
    ∙ then_cond (λ (link : Link). link.0 l) (nat_eq p n) x (slice_get links p)

up_set : (links : List Link) (n : ℕ) (x : Link) → n < length links → (p : ℕ) → up_in (set links n x) p ≡ cond (nat_eq p n) x.1 (up_in links p)
up_set links n x h p =
    ap (λ o. option_and_then (λ (link : Link). link.1) o) (set_at links n x h p)
    ∙ then_cond (λ (link : Link). link.1) (nat_eq p n) x (slice_get links p)

next_set : (links : List Link) (n : ℕ) (x : Link) → n < length links → (p : ℕ) → next_in (set links n x) p ≡ cond (nat_eq p n) x.2 (next_in links p)
next_set links n x h p =
    ap (λ o. option_and_then (λ (link : Link). link.2) o) (set_at links n x h p)
    ∙ then_cond (λ (link : Link). link.2) (nat_eq p n) x (slice_get links p)

-- what stays at one place stays everywhere
stays : {B : Type 0} (f : ℕ → B) (n p : ℕ) (y : B) (b : Bool) → nat_eq p n ≡ b → y ≡ f n → cond b y (f p) ≡ f p
stays f n p y true e h = h ∙ ap f (sym (eqb-true p n e))
stays f n p y false e h = refl

up_same : (links : List Link) (n : ℕ) (x : Link) → n < length links → x.1 ≡ up_in links n → up_in (set links n x) ≡ up_in links
up_same links n x h e = λ i p. (up_set links n x h p ∙ stays (up_in links) n p x.1 (nat_eq p n) refl e) i

next_same : (links : List Link) (n : ℕ) (x : Link) → n < length links → x.2 ≡ next_in links n → next_in (set links n x) ≡ next_in links
next_same links n x h e = λ i p. (next_set links n x h p ∙ stays (next_in links) n p x.2 (nat_eq p n) refl e) i

child_same : (links : List Link) (n : ℕ) (x : Link) → n < length links → ((l : List ℕ) → x.0 l ≡ child_in links n l) → child_in (set links n x) ≡ child_in links
child_same links n x h e = λ i p l. (child_set links n x h p l ∙ stays (λ q. child_in links q l) n p (x.0 l) (nat_eq p n) refl (e l)) i

level_cond : (child : Child) (n p : ℕ) (l : List ℕ) (y : Option ℕ) (c : Option ℕ) (a b : Bool) → nat_eq p n ≡ a → y ≡ cond b c (child n l) → cond a y (child p l) ≡ cond (a && b) c (child p l)
level_cond child n p l y c true b e h = h ∙ ap (λ q. cond b c (child q l)) (sym (eqb-true p n e))
level_cond child n p l y c false b e h = refl

child_changed : (links : List Link) (n : ℕ) (x : Link) (level : List ℕ) (c : Option ℕ) → n < length links → ((l : List ℕ) → x.0 l ≡ cond (bytes_eq level l) c (child_in links n l))
    → SetsChild (child_in links) (child_in (set links n x)) n level c
child_changed links n x level c h e p l = child_set links n x h p l ∙ level_cond (child_in links) n p l (x.0 l) c (nat_eq p n) (bytes_eq level l) refl (e l)

-- ---- one node changes

abbrev IsAt : List Node → ℕ → Node → Type 0
IsAt nodes n s = slice_get nodes n ≡ Some s

pub link_at : (nodes : List Node) (n : ℕ) (s : Node) → IsAt nodes n s → slice_get (links_in nodes) n ≡ Some (link_of s)
link_at nodes n s h = slice_get-map link_of nodes n ∙ ap (option_map link_of) h

pub row_at : (nodes : List Node) (n : ℕ) (s : Node) → IsAt nodes n s → slice_get (rows_in nodes) n ≡ Some (row_of s)
row_at nodes n s h = slice_get-map row_of nodes n ∙ ap (option_map row_of) h

pub child_at : (nodes : List Node) (n : ℕ) (s : Node) (l : List ℕ) → IsAt nodes n s → child_in (links_in nodes) n l ≡ next_of s l
child_at nodes n s l h = ap (λ o. option_and_then (λ (link : Link). link.0 l) o) (link_at nodes n s h)

pub up_at : (nodes : List Node) (n : ℕ) (s : Node) → IsAt nodes n s → up_in (links_in nodes) n ≡ option_map edge_of s.up
up_at nodes n s h = ap (λ o. option_and_then (λ (link : Link). link.1) o) (link_at nodes n s h)

pub next_at : (nodes : List Node) (n : ℕ) (s : Node) → IsAt nodes n s → next_in (links_in nodes) n ≡ s.next_unused
next_at nodes n s h = ap (λ o. option_and_then (λ (link : Link). link.2) o) (link_at nodes n s h)

within : (nodes : List Node) (n : ℕ) → n < length nodes → n < length (links_in nodes)
within nodes n h = omega (arith, length-map nodes link_of)

pub node_ups_stay : (nodes : List Node) (n : ℕ) (s t : Node) → n < length nodes → s ≡ get_or nodes n s → t.up ≡ s.up → up_in (links_in (set nodes n t)) ≡ up_in (links_in nodes)
node_ups_stay nodes n s t h is e =
    ap up_in (map-set link_of nodes n t)
    ∙ up_same (links_in nodes) n (link_of t) (within nodes n h) (ap (option_map edge_of) e ∙ sym (up_at nodes n s (slice_get_read nodes (length nodes) n s refl h is)))

pub node_nexts_stay : (nodes : List Node) (n : ℕ) (s t : Node) → n < length nodes → s ≡ get_or nodes n s → t.next_unused ≡ s.next_unused → next_in (links_in (set nodes n t)) ≡ next_in (links_in nodes)
node_nexts_stay nodes n s t h is e =
    ap next_in (map-set link_of nodes n t)
    ∙ next_same (links_in nodes) n (link_of t) (within nodes n h) (e ∙ sym (next_at nodes n s (slice_get_read nodes (length nodes) n s refl h is)))

pub node_children_stay : (nodes : List Node) (n : ℕ) (s t : Node) → n < length nodes → s ≡ get_or nodes n s → t.children ≡ s.children → child_in (links_in (set nodes n t)) ≡ child_in (links_in nodes)
node_children_stay nodes n s t h is e =
    ap child_in (map-set link_of nodes n t)
    ∙ child_same (links_in nodes) n (link_of t) (within nodes n h)
    (λ l. ap (λ c. ways_of c l) e ∙ sym (child_at nodes n s l (slice_get_read nodes (length nodes) n s refl h is)))

pub node_children_drop : (nodes : List Node) (n : ℕ) (t : Node) → n < length nodes → ((l : List ℕ) → next_of t l ≡ None) → DropsChildren (child_in (links_in nodes)) (child_in (links_in (set nodes n t))) n
node_children_drop nodes n t h none p l =
    ap (λ ls. child_in ls p l) (map-set link_of nodes n t)
    ∙ child_set (links_in nodes) n (link_of t) (within nodes n h) p l
    ∙ ap (λ o. cond (nat_eq p n) o (child_in (links_in nodes) p l)) (none l)

pub node_child_set : (nodes : List Node) (n : ℕ) (s t : Node) (level : List ℕ) (c : Option ℕ) → n < length nodes → s ≡ get_or nodes n s
    → ((l : List ℕ) → next_of t l ≡ cond (bytes_eq level l) c (next_of s l))
    → SetsChild (child_in (links_in nodes)) (child_in (links_in (set nodes n t))) n level c
node_child_set nodes n s t level c h is e =
    subst (λ ls. SetsChild (child_in (links_in nodes)) (child_in ls) n level c) (sym (map-set link_of nodes n t))
    (child_changed (links_in nodes) n (link_of t) level c (within nodes n h)
    (λ l. e l ∙ ap (cond (bytes_eq level l) c) (sym (child_at nodes n s l (slice_get_read nodes (length nodes) n s refl h is)))))

pub node_up_set : (nodes : List Node) (n : ℕ) (t : Node) → n < length nodes → SetsUp (up_in (links_in nodes)) (up_in (links_in (set nodes n t))) n (option_map edge_of t.up)
node_up_set nodes n t h = subst (λ ls. SetsUp (up_in (links_in nodes)) (up_in ls) n (option_map edge_of t.up)) (sym (map-set link_of nodes n t)) (up_set (links_in nodes) n (link_of t) (within nodes n h))

pub node_next_set : (nodes : List Node) (n : ℕ) (t : Node) → n < length nodes → SetsNext (next_in (links_in nodes)) (next_in (links_in (set nodes n t))) n t.next_unused
node_next_set nodes n t h = subst (λ ls. SetsNext (next_in (links_in nodes)) (next_in ls) n t.next_unused) (sym (map-set link_of nodes n t)) (next_set (links_in nodes) n (link_of t) (within nodes n h))

-- ---- one node more

abbrev pub no_link : Link
no_link = ((λ _. None), None, None)

child_push_at : (links : List Link) (p : ℕ) (l : List ℕ) → child_in (links ++ no_link ∷ []) p l ≡ child_in links p l
child_push_at [] zero l = refl
child_push_at [] (suc p) l = refl
child_push_at (y ∷ ls) zero l = refl
child_push_at (y ∷ ls) (suc p) l = child_push_at ls p l

pub child_push : (links : List Link) → child_in (links ++ no_link ∷ []) ≡ child_in links
child_push links = λ i p l. child_push_at links p l i

up_push_at : (links : List Link) (p : ℕ) → up_in (links ++ no_link ∷ []) p ≡ up_in links p
up_push_at [] zero = refl
up_push_at [] (suc p) = refl
up_push_at (y ∷ ls) zero = refl
up_push_at (y ∷ ls) (suc p) = up_push_at ls p

pub up_push : (links : List Link) → up_in (links ++ no_link ∷ []) ≡ up_in links
up_push links = λ i p. up_push_at links p i

pub up_past : (links : List Link) → up_in links (length links) ≡ None
up_past [] = refl
up_past (y ∷ ls) = up_past ls

next_push_at : (links : List Link) (p : ℕ) → next_in (links ++ no_link ∷ []) p ≡ next_in links p
next_push_at [] zero = refl
next_push_at [] (suc p) = refl
next_push_at (y ∷ ls) zero = refl
next_push_at (y ∷ ls) (suc p) = next_push_at ls p

pub next_push : (links : List Link) → next_in (links ++ no_link ∷ []) ≡ next_in links
next_push links = λ i p. next_push_at links p i

pub next_past : (links : List Link) → next_in links (length links) ≡ None
next_past [] = refl
next_past (y ∷ ls) = next_past ls

-- no edge leads to a node that isn't there
pub up_nowhere : (nodes : List Node) (n : ℕ) → slice_get nodes n ≡ None → up_in (links_in nodes) n ≡ None
up_nowhere nodes n h = ap (λ o. option_and_then (λ (link : Link). link.1) o) (slice_get-map link_of nodes n ∙ ap (option_map link_of) h)

-- nor does one lead on from there
pub child_nowhere : (nodes : List Node) (n : ℕ) (l : List ℕ) → slice_get nodes n ≡ None → child_in (links_in nodes) n l ≡ None
child_nowhere nodes n l h = ap (λ o. option_and_then (λ (link : Link). link.0 l) o) (slice_get-map link_of nodes n ∙ ap (option_map link_of) h)

-- a node to which an edge leads is there
pub up_within : (links : List Link) (n : ℕ) (e : ℕ × List ℕ) → up_in links n ≡ Some e → n < length links
up_within links n e h = side (slice_get links n) refl h
  where
    side : (o : Option Link) → slice_get links n ≡ o → option_and_then (λ (link : Link). link.1) o ≡ Some e → n < length links
    side None s k = cc
    side (Some x) s k = slice_get_within links n x s

pub child_within : (links : List Link) (n : ℕ) (l : List ℕ) (m : ℕ) → child_in links n l ≡ Some m → n < length links
child_within links n l m h = side (slice_get links n) refl h
  where
    side : (o : Option Link) → slice_get links n ≡ o → option_and_then (λ (link : Link). link.0 l) o ≡ Some m → n < length links
    side None s k = cc
    side (Some x) s k = slice_get_within links n x s
