-- How a change of a node and its edges keeps a tree of levels a tree.
use Rattle.std.proofs.Common.{◌≡◌, ◌⊎◌, ◌<◌, ℕ, List, [], ◌∷◌, ◌++◌, ap, sym, ◌∙◌, subst, inl, inr, arith, Option, Some, None, length, set, append_assoc}
use Rattle.std.proofs.lemmas.Option.{some_pair_parts}
use Rattle.spk_topics.specs.Edges.{DropsChildren, IsJoint, IsLeaf, SetsChild, SetsUp}
use Rattle.spk_topics.specs.Levels.{levels}
use Rattle.spk_topics.specs.Paths.{Child, GoesOn, IsOn, IsTree, Up, path}
use Rattle.spk_topics.specs.Rows.{Row}
use Rattle.spk_topics.proofs.ChangeLemmas.{drop_here, drop_there, edge_or_not, level_or_not, path_here, path_there, same_or_not, set_at, set_here, set_there, up_here, up_there}
use Rattle.spk_topics.proofs.PathLemmas.{longer, none_edge, none_some, one}

abbrev edge : ℕ → List ℕ → Option (ℕ × List ℕ)
edge p l = Some (p, l)

some_same : (p q : ℕ) (l k : List ℕ) → (p ≡ q) × (l ≡ k) → edge p l ≡ edge q k
some_same p q l k (a, b) = ap (λ x. edge x l) a ∙ ap (λ x. edge q x) b

-- a path that goes on stays where both texts stay
goes_kept : (rows new : List Row) (p : ℕ) (l : List ℕ) (n : ℕ) → path new n ≡ path rows n → path new p ≡ path rows p → GoesOn rows p l n → GoesOn new p l n
goes_kept rows new p l n en ep (more, is) = (more, en ∙ is ∙ ap (λ x. x ++ l ∷ more) (sym ep))

-- a node with a path longer than another one is another node
pub apart : (rows : List Row) (p : ℕ) (l : List ℕ) (n : ℕ) → GoesOn rows p l n → p ≡ n → ⊥
apart rows p l n (more, is) at = let less = longer (path rows p) (path rows n) l more is in absurd (omega (arith, less, ap length (ap (path rows) at)))

module _ (rows : List Row) (child : Child) (up : Up) (t : IsTree rows child up) where
  pub on_not : (p x : ℕ) (edge : Option (ℕ × List ℕ)) → IsOn up p → up x ≡ None → (x ≡ 0 → ⊥) → p ≡ x → ⊥
  on_not p x edge (inl z) free off at = off (sym at ∙ z)
  on_not p x edge (inr (e, h)) free off at = none_edge e (sym free ∙ ap up (sym at) ∙ h)

  pub above_on : (p : ℕ) (l : List ℕ) (x : ℕ) → child p l ≡ Some x → IsOn up p
  above_on p l x h = t.hangs p l x (t.above p l x h)

-- ---- a level that led nowhere leads to a node to which no edge led, and which has the filter's text then

module _ (rows new : List Row) (child c : Child) (up u : Up) (n : ℕ) (level : List ℕ) (m : ℕ) (f : List ℕ) (t : IsTree rows child up) (nowhere : child n level ≡ None) (off_root : m ≡ 0 → ⊥) (free : up m ≡ None)
    (on : IsOn up n) (inside : m < length rows) (s : SetsChild child c n level (Some m)) (v : SetsUp up u m (Some (n, level))) (er : new ≡ set rows m (f, [])) (goes : (rest : List (List ℕ)) × (levels f ≡ path rows n ++ level ∷ rest)) where
  leaf_away : (p : ℕ) → IsOn up p → p ≡ m → ⊥
  leaf_away p h at = on_not rows child up t p m None h free off_root at

  leaf_led : (x : ℕ) (e : ℕ × List ℕ) → up x ≡ Some e → x ≡ m → ⊥
  leaf_led x e h at = none_edge e (sym free ∙ ap up (sym at) ∙ h)

  pub leaf_kept : (p : ℕ) (l : List ℕ) (x : ℕ) → child p l ≡ Some x → c p l ≡ Some x
  leaf_kept p l x h =
      set_there child c n level (Some m) p l s (λ a k. none_some x (sym nowhere ∙ ap (λ q. child q level) (sym a) ∙ ap (child p) k ∙ h)) ∙ h

  leaf_on : (p : ℕ) → IsOn up p → IsOn u p
  leaf_on p (inl z) = inl z
  leaf_on p (inr (e, h)) = inr (e, up_there up u m (Some (n, level)) p v (leaf_led p e h) ∙ h)

  pub leaf_tree : IsTree new c u
  leaf_tree = record {
    above = λ p l x h. above_by p l x h (edge_or_not p n level l);
    below = λ p l x h. below_by p l x h (same_or_not x m);
    root = up_there up u m (Some (n, level)) 0 v (λ e. off_root (sym e)) ∙ t.root;
    hangs = λ p l x h. hangs_by p l x h (same_or_not x m);
    spelled = λ p l x h. spelled_by p l x h (same_or_not x m);
  }
    where
      above_by : (p : ℕ) (l : List ℕ) (x : ℕ) → c p l ≡ Some x → ((p ≡ n) × (level ≡ l)) ⊎ (p ≡ n → level ≡ l → ⊥) → u x ≡ Some (p, l)
      above_by p l x h (inl (a, b)) =
          ap u (sym (one m x (sym (set_at child c n level (Some m) p l s (a, b)) ∙ h))) ∙ up_here up u m (Some (n, level)) v ∙ some_same n p level l (sym a, b)
      above_by p l x h (inr off) =
          let k : up x ≡ Some (p, l) = t.above p l x (sym (set_there child c n level (Some m) p l s off) ∙ h) in
          up_there up u m (Some (n, level)) x v (leaf_led x (p, l) k) ∙ k

      -- an edge up to the new node, or to another one
      parts : (p : ℕ) (l : List ℕ) (x : ℕ) → u x ≡ Some (p, l) → x ≡ m → (n ≡ p) × (level ≡ l)
      parts p l x h at = some_pair_parts n p level l (sym (up_here up u m (Some (n, level)) v) ∙ ap u (sym at) ∙ h)

      old : (p : ℕ) (l : List ℕ) (x : ℕ) → u x ≡ Some (p, l) → (x ≡ m → ⊥) → up x ≡ Some (p, l)
      old p l x h off = sym (up_there up u m (Some (n, level)) x v off) ∙ h

      below_by : (p : ℕ) (l : List ℕ) (x : ℕ) → u x ≡ Some (p, l) → (x ≡ m) ⊎ (x ≡ m → ⊥) → c p l ≡ Some x
      below_by p l x h (inl at) =
          let (a, b) = parts p l x h at in
          set_at child c n level (Some m) p l s (sym a, b) ∙ ap (λ q. Some q) (sym at)
      below_by p l x h (inr off) = leaf_kept p l x (t.below p l x (old p l x h off))

      hangs_by : (p : ℕ) (l : List ℕ) (x : ℕ) → u x ≡ Some (p, l) → (x ≡ m) ⊎ (x ≡ m → ⊥) → IsOn u p
      hangs_by p l x h (inl at) = let (a, b) = parts p l x h at in subst (IsOn u) a (leaf_on n on)
      hangs_by p l x h (inr off) = leaf_on p (t.hangs p l x (old p l x h off))

      stays : (x : ℕ) → (x ≡ m → ⊥) → path new x ≡ path rows x
      stays x off = path_there rows new m (f, []) x er off

      spelled_by : (p : ℕ) (l : List ℕ) (x : ℕ) → u x ≡ Some (p, l) → (x ≡ m) ⊎ (x ≡ m → ⊥) → GoesOn new p l x
      spelled_by p l x h (inl at) =
          let (a, b) = parts p l x h at in
          let here : GoesOn new n level m = (goes.0, path_here rows new m (f, []) er off_root inside ∙ goes.1 ∙ ap (λ y. y ++ level ∷ goes.0) (sym (stays n (leaf_away n on)))) in
          subst (λ y. GoesOn new p l y) (sym at) (subst (λ y. GoesOn new p y m) b (subst (λ y. GoesOn new y level m) a here))
      spelled_by p l x h (inr off) =
          let k = old p l x h off in
          goes_kept rows new p l x (stays x off) (stays p (leaf_away p (t.hangs p l x k))) (t.spelled p l x k)

-- ---- a node to which no edge led is put into an edge

module _ (rows new : List Row) (child c1 c : Child) (up u1 u : Up) (n : ℕ) (level : List ℕ) (m s : ℕ) (key f : List ℕ) (t : IsTree rows child up) (leads : child n level ≡ Some m) (off_root : s ≡ 0 → ⊥) (free : up s ≡ None)
    (inside : s < length rows) (s1 : SetsChild child c1 s key (Some m)) (s2 : SetsChild c1 c n level (Some s)) (v1 : SetsUp up u1 m (Some (s, key))) (v2 : SetsUp u1 u s (Some (n, level))) (er : new ≡ set rows s (f, []))
    (upper : (common : List (List ℕ)) × (levels f ≡ path rows n ++ level ∷ common)) (lower : (more : List (List ℕ)) × (path rows m ≡ levels f ++ key ∷ more)) where
  was : up m ≡ Some (n, level)
  was = t.above n level m leads

  on : IsOn up n
  on = t.hangs n level m was

  pub split_away : (p : ℕ) → IsOn up p → p ≡ s → ⊥
  split_away p h at = on_not rows child up t p s None h free off_root at

  split_led : (x : ℕ) (e : ℕ × List ℕ) → up x ≡ Some e → x ≡ s → ⊥
  split_led x e h at = none_edge e (sym free ∙ ap up (sym at) ∙ h)

  up_s : u s ≡ Some (n, level)
  up_s = up_here u1 u s (Some (n, level)) v2

  up_m : u m ≡ Some (s, key)
  up_m = up_there u1 u s (Some (n, level)) m v2 (split_led m (n, level) was) ∙ up_here up u1 m (Some (s, key)) v1

  pub up_other : (x : ℕ) → (x ≡ s → ⊥) → (x ≡ m → ⊥) → u x ≡ up x
  up_other x a b = up_there u1 u s (Some (n, level)) x v2 a ∙ up_there up u1 m (Some (s, key)) x v1 b

  at_key : c s key ≡ Some m
  at_key = set_there c1 c n level (Some s) s key s2 (λ a _. split_away n on (sym a)) ∙ set_here child c1 s key (Some m) s1

  -- what else led on from a node on the tree leads where it led
  pub split_kept : (p : ℕ) (l : List ℕ) (x : ℕ) → (p ≡ n → level ≡ l → ⊥) → child p l ≡ Some x → c p l ≡ Some x
  split_kept p l x off h =
      set_there c1 c n level (Some s) p l s2 off ∙ set_there child c1 s key (Some m) p l s1 (λ a _. split_away p (above_on rows child up t p l x h) a) ∙ h

  split_on : (p : ℕ) → IsOn up p → IsOn u p
  split_on p (inl z) = inl z
  split_on p (inr (e, h)) = side (same_or_not p m)
    where
      side : (p ≡ m) ⊎ (p ≡ m → ⊥) → IsOn u p
      side (inl at) = inr ((s, key), ap u at ∙ up_m)
      side (inr off) = inr (e, up_other p (split_led p e h) off ∙ h)

  pub split_tree : IsTree new c u
  split_tree = record {
    above = λ p l x h. above_by p l x h (edge_or_not p n level l) (edge_or_not p s key l);
    below = λ p l x h. below_by p l x h (same_or_not x s) (same_or_not x m);
    root = up_other 0 (λ e. off_root (sym e)) (λ e. none_edge (n, level) (sym t.root ∙ ap up e ∙ was)) ∙ t.root;
    hangs = λ p l x h. hangs_by p l x h (same_or_not x s) (same_or_not x m);
    spelled = λ p l x h. spelled_by p l x h (same_or_not x s) (same_or_not x m);
  }
    where
      above_by : (p : ℕ) (l : List ℕ) (x : ℕ) → c p l ≡ Some x → ((p ≡ n) × (level ≡ l)) ⊎ (p ≡ n → level ≡ l → ⊥) → ((p ≡ s) × (key ≡ l)) ⊎ (p ≡ s → key ≡ l → ⊥) → u x ≡ Some (p, l)
      above_by p l x h (inl (a, b)) q = ap u (sym (one s x (sym (set_at c1 c n level (Some s) p l s2 (a, b)) ∙ h))) ∙ up_s ∙ some_same n p level l (sym a, b)
      above_by p l x h (inr off) (inl (a, b)) =
          let k : c1 p l ≡ Some x = sym (set_there c1 c n level (Some s) p l s2 off) ∙ h in
          ap u (sym (one m x (sym (set_at child c1 s key (Some m) p l s1 (a, b)) ∙ k))) ∙ up_m ∙ some_same s p key l (sym a, b)
      above_by p l x h (inr off) (inr away) =
          let k : child p l ≡ Some x = sym (set_there child c1 s key (Some m) p l s1 away) ∙ sym (set_there c1 c n level (Some s) p l s2 off) ∙ h in
          let w : up x ≡ Some (p, l) = t.above p l x k in
          up_other x (split_led x (p, l) w) (λ at. let (a, b) = some_pair_parts p n l level (sym w ∙ ap up at ∙ was) in off a (sym b)) ∙ w

      at_s : (p : ℕ) (l : List ℕ) (x : ℕ) → u x ≡ Some (p, l) → x ≡ s → (n ≡ p) × (level ≡ l)
      at_s p l x h at = some_pair_parts n p level l (sym up_s ∙ ap u (sym at) ∙ h)

      at_m : (p : ℕ) (l : List ℕ) (x : ℕ) → u x ≡ Some (p, l) → x ≡ m → (s ≡ p) × (key ≡ l)
      at_m p l x h at = some_pair_parts s p key l (sym up_m ∙ ap u (sym at) ∙ h)

      old : (p : ℕ) (l : List ℕ) (x : ℕ) → u x ≡ Some (p, l) → (x ≡ s → ⊥) → (x ≡ m → ⊥) → up x ≡ Some (p, l)
      old p l x h a b = sym (up_other x a b) ∙ h

      below_by : (p : ℕ) (l : List ℕ) (x : ℕ) → u x ≡ Some (p, l) → (x ≡ s) ⊎ (x ≡ s → ⊥) → (x ≡ m) ⊎ (x ≡ m → ⊥) → c p l ≡ Some x
      below_by p l x h (inl at) q =
          let (a, b) = at_s p l x h at in
          set_at c1 c n level (Some s) p l s2 (sym a, b) ∙ ap (λ y. Some y) (sym at)
      below_by p l x h (inr off) (inl at) =
          let (a, b) = at_m p l x h at in
          ap (λ y. c y l) (sym a) ∙ ap (c s) (sym b) ∙ at_key ∙ ap (λ y. Some y) (sym at)
      below_by p l x h (inr off) (inr away) =
          let k : child p l ≡ Some x = t.below p l x (old p l x h off away) in
          split_kept p l x (λ a b. away (one x m (sym k ∙ ap (λ q. child q l) a ∙ ap (child n) (sym b) ∙ leads))) k

      hangs_by : (p : ℕ) (l : List ℕ) (x : ℕ) → u x ≡ Some (p, l) → (x ≡ s) ⊎ (x ≡ s → ⊥) → (x ≡ m) ⊎ (x ≡ m → ⊥) → IsOn u p
      hangs_by p l x h (inl at) q = let (a, b) = at_s p l x h at in subst (IsOn u) a (split_on n on)
      hangs_by p l x h (inr off) (inl at) = let (a, b) = at_m p l x h at in subst (IsOn u) a (inr ((n, level), up_s))
      hangs_by p l x h (inr off) (inr away) = split_on p (t.hangs p l x (old p l x h off away))

      stays : (x : ℕ) → (x ≡ s → ⊥) → path new x ≡ path rows x
      stays x off = path_there rows new s (f, []) x er off

      text : path new s ≡ levels f
      text = path_here rows new s (f, []) er off_root inside

      spelled_by : (p : ℕ) (l : List ℕ) (x : ℕ) → u x ≡ Some (p, l) → (x ≡ s) ⊎ (x ≡ s → ⊥) → (x ≡ m) ⊎ (x ≡ m → ⊥) → GoesOn new p l x
      spelled_by p l x h (inl at) q =
          let (a, b) = at_s p l x h at in
          let here : GoesOn new n level s = (upper.0, text ∙ upper.1 ∙ ap (λ y. y ++ level ∷ upper.0) (sym (stays n (split_away n on)))) in
          subst (λ y. GoesOn new p l y) (sym at) (subst (λ y. GoesOn new p y s) b (subst (λ y. GoesOn new y level s) a here))
      spelled_by p l x h (inr off) (inl at) =
          let (a, b) = at_m p l x h at in
          let here : GoesOn new s key m = (lower.0, stays m (split_led m (n, level) was) ∙ lower.1 ∙ ap (λ y. y ++ key ∷ lower.0) (sym text)) in
          subst (λ y. GoesOn new p l y) (sym at) (subst (λ y. GoesOn new p y m) b (subst (λ y. GoesOn new y key m) a here))
      spelled_by p l x h (inr off) (inr away) =
          let k = old p l x h off away in
          goes_kept rows new p l x (stays x off) (stays p (split_away p (t.hangs p l x k))) (t.spelled p l x k)

-- ---- a node without grants and children is taken off the tree

module _ (rows new : List Row) (child c1 c : Child) (up u : Up) (n p0 : ℕ) (l0 : List ℕ) (t : IsTree rows child up) (leaf : IsLeaf rows child n) (was : up n ≡ Some (p0, l0))
    (d : DropsChildren child c1 n) (s : SetsChild c1 c p0 l0 None) (v : SetsUp up u n None) (er : new ≡ set rows n ([], [])) where
  pub freed_kept : (p : ℕ) (l : List ℕ) (x : ℕ) → (x ≡ n → ⊥) → child p l ≡ Some x → c p l ≡ Some x
  freed_kept p l x off h =
      set_there c1 c p0 l0 None p l s (λ a b. off (one x n (sym h ∙ ap (λ q. child q l) a ∙ ap (child p0) (sym b) ∙ t.below p0 l0 n was)))
      ∙ drop_there child c1 n p l d (λ at. none_some x (sym (leaf.last l) ∙ ap (λ q. child q l) (sym at) ∙ h))
      ∙ h

  above_leaf : (p : ℕ) (l : List ℕ) (x : ℕ) → child p l ≡ Some x → p ≡ n → ⊥
  above_leaf p l x h at = none_some x (sym (leaf.last l) ∙ ap (λ q. child q l) (sym at) ∙ h)

  freed_on : (p : ℕ) → IsOn up p → (p ≡ n → ⊥) → IsOn u p
  freed_on p (inl z) off = inl z
  freed_on p (inr (e, h)) off = inr (e, up_there up u n None p v off ∙ h)

  pub freed_tree : IsTree new c u
  freed_tree = record {
    above = λ p l x h. above_by p l x h (edge_or_not p p0 l0 l) (same_or_not p n);
    below = λ p l x h. below_by p l x h (same_or_not x n);
    root = up_there up u n None 0 v (λ e. none_edge (p0, l0) (sym t.root ∙ ap up e ∙ was)) ∙ t.root;
    hangs = λ p l x h. hangs_by p l x h (same_or_not x n);
    spelled = λ p l x h. spelled_by p l x h (same_or_not x n);
  }
    where
      above_by : (p : ℕ) (l : List ℕ) (x : ℕ) → c p l ≡ Some x → ((p ≡ p0) × (l0 ≡ l)) ⊎ (p ≡ p0 → l0 ≡ l → ⊥) → (p ≡ n) ⊎ (p ≡ n → ⊥) → u x ≡ Some (p, l)
      above_by p l x h (inl e) q = absurd (none_some x (sym (set_at c1 c p0 l0 None p l s e) ∙ h))
      above_by p l x h (inr off) (inl at) = absurd (none_some x (sym (drop_here child c1 n p l d at) ∙ sym (set_there c1 c p0 l0 None p l s off) ∙ h))
      above_by p l x h (inr off) (inr away) =
          let k : up x ≡ Some (p, l) = t.above p l x (sym (drop_there child c1 n p l d away) ∙ sym (set_there c1 c p0 l0 None p l s off) ∙ h) in
          up_there up u n None x v (λ at. let (a, b) = some_pair_parts p p0 l l0 (sym k ∙ ap up at ∙ was) in off a (sym b)) ∙ k

      old : (p : ℕ) (l : List ℕ) (x : ℕ) → u x ≡ Some (p, l) → (x ≡ n → ⊥) → up x ≡ Some (p, l)
      old p l x h off = sym (up_there up u n None x v off) ∙ h

      gone : (p : ℕ) (l : List ℕ) (x : ℕ) → u x ≡ Some (p, l) → x ≡ n → ⊥
      gone p l x h at = none_edge (p, l) (sym (up_here up u n None v) ∙ ap u (sym at) ∙ h)

      below_by : (p : ℕ) (l : List ℕ) (x : ℕ) → u x ≡ Some (p, l) → (x ≡ n) ⊎ (x ≡ n → ⊥) → c p l ≡ Some x
      below_by p l x h (inl at) = absurd (gone p l x h at)
      below_by p l x h (inr off) = freed_kept p l x off (t.below p l x (old p l x h off))

      hangs_by : (p : ℕ) (l : List ℕ) (x : ℕ) → u x ≡ Some (p, l) → (x ≡ n) ⊎ (x ≡ n → ⊥) → IsOn u p
      hangs_by p l x h (inl at) = absurd (gone p l x h at)
      hangs_by p l x h (inr off) = let k = old p l x h off in freed_on p (t.hangs p l x k) (above_leaf p l x (t.below p l x k))

      spelled_by : (p : ℕ) (l : List ℕ) (x : ℕ) → u x ≡ Some (p, l) → (x ≡ n) ⊎ (x ≡ n → ⊥) → GoesOn new p l x
      spelled_by p l x h (inl at) = absurd (gone p l x h at)
      spelled_by p l x h (inr off) =
          let k = old p l x h off in
          goes_kept rows new p l x (path_there rows new n ([], []) x er off) (path_there rows new n ([], []) p er (above_leaf p l x (t.below p l x k))) (t.spelled p l x k)

-- ---- a node with one child is taken out of its edge

module _ (rows new : List Row) (child c1 c : Child) (up u1 u : Up) (n m p0 : ℕ) (l0 : List ℕ) (t : IsTree rows child up) (joint : IsJoint rows child n m) (was : up n ≡ Some (p0, l0))
    (d : DropsChildren child c1 n) (s : SetsChild c1 c p0 l0 (Some m)) (v1 : SetsUp up u1 n None) (v2 : SetsUp u1 u m (Some (p0, l0))) (er : new ≡ set rows n ([], [])) where
  key : List ℕ
  key = joint.one.level

  below_it : up m ≡ Some (n, joint.one.level)
  below_it = t.above n joint.one.level m joint.one.leads

  pub m_apart : m ≡ n → ⊥
  m_apart at = apart rows n joint.one.level m (t.spelled n joint.one.level m below_it) (sym at)

  pub p_apart : p0 ≡ n → ⊥
  p_apart at = apart rows p0 l0 n (t.spelled p0 l0 n was) at

  joined_m : u m ≡ Some (p0, l0)
  joined_m = up_here u1 u m (Some (p0, l0)) v2

  joined_n : u n ≡ None
  joined_n = up_there u1 u m (Some (p0, l0)) n v2 (λ e. m_apart (sym e)) ∙ up_here up u1 n None v1

  pub joined_other : (x : ℕ) → (x ≡ m → ⊥) → (x ≡ n → ⊥) → u x ≡ up x
  joined_other x a b = up_there u1 u m (Some (p0, l0)) x v2 a ∙ up_there up u1 n None x v1 b

  -- what leads on from another node leads on
  pub joined_kept : (p : ℕ) (l : List ℕ) (x : ℕ) → (p ≡ n → ⊥) → child p l ≡ Some x → (y : ℕ) × (c p l ≡ Some y)
  joined_kept p l x off h = side (edge_or_not p p0 l0 l)
    where
      side : ((p ≡ p0) × (l0 ≡ l)) ⊎ (p ≡ p0 → l0 ≡ l → ⊥) → (y : ℕ) × (c p l ≡ Some y)
      side (inl e) = (m, set_at c1 c p0 l0 (Some m) p l s e)
      side (inr away) = (x, set_there c1 c p0 l0 (Some m) p l s away ∙ drop_there child c1 n p l d off ∙ h)

  -- the only node below is the child
  only_m : (l : List ℕ) (x : ℕ) → child n l ≡ Some x → x ≡ m
  only_m l x h = side (level_or_not l joint.one.level)
    where
      side : (l ≡ joint.one.level) ⊎ (l ≡ joint.one.level → ⊥) → x ≡ m
      side (inl same) = one x m (sym h ∙ ap (child n) same ∙ joint.one.leads)
      side (inr other) = absurd (none_some x (sym (joint.one.only l other) ∙ h))

  joined_on : (p : ℕ) → IsOn up p → (p ≡ n → ⊥) → IsOn u p
  joined_on p (inl z) off = inl z
  joined_on p (inr (e, h)) off = side (same_or_not p m)
    where
      side : (p ≡ m) ⊎ (p ≡ m → ⊥) → IsOn u p
      side (inl at) = inr ((p0, l0), ap u at ∙ joined_m)
      side (inr away) = inr (e, joined_other p away off ∙ h)

  pub joined_tree : IsTree new c u
  joined_tree = record {
    above = λ p l x h. above_by p l x h (edge_or_not p p0 l0 l) (same_or_not p n);
    below = λ p l x h. below_by p l x h (same_or_not x m) (same_or_not x n);
    root = joined_other 0 (λ e. none_edge (n, joint.one.level) (sym t.root ∙ ap up e ∙ below_it)) (λ e. none_edge (p0, l0) (sym t.root ∙ ap up e ∙ was)) ∙ t.root;
    hangs = λ p l x h. hangs_by p l x h (same_or_not x m) (same_or_not x n);
    spelled = λ p l x h. spelled_by p l x h (same_or_not x m) (same_or_not x n);
  }
    where
      above_by : (p : ℕ) (l : List ℕ) (x : ℕ) → c p l ≡ Some x → ((p ≡ p0) × (l0 ≡ l)) ⊎ (p ≡ p0 → l0 ≡ l → ⊥) → (p ≡ n) ⊎ (p ≡ n → ⊥) → u x ≡ Some (p, l)
      above_by p l x h (inl (a, b)) q = ap u (sym (one m x (sym (set_at c1 c p0 l0 (Some m) p l s (a, b)) ∙ h))) ∙ joined_m ∙ some_same p0 p l0 l (sym a, b)
      above_by p l x h (inr off) (inl at) = absurd (none_some x (sym (drop_here child c1 n p l d at) ∙ sym (set_there c1 c p0 l0 (Some m) p l s off) ∙ h))
      above_by p l x h (inr off) (inr away) =
          let k : up x ≡ Some (p, l) = t.above p l x (sym (drop_there child c1 n p l d away) ∙ sym (set_there c1 c p0 l0 (Some m) p l s off) ∙ h) in
          joined_other x (λ at. let (a, b) = some_pair_parts p n l joint.one.level (sym k ∙ ap up at ∙ below_it) in away a) (λ at. let (a, b) = some_pair_parts p p0 l l0 (sym k ∙ ap up at ∙ was) in off a (sym b)) ∙ k

      at_m : (p : ℕ) (l : List ℕ) (x : ℕ) → u x ≡ Some (p, l) → x ≡ m → (p0 ≡ p) × (l0 ≡ l)
      at_m p l x h at = some_pair_parts p0 p l0 l (sym joined_m ∙ ap u (sym at) ∙ h)

      gone : (p : ℕ) (l : List ℕ) (x : ℕ) → u x ≡ Some (p, l) → x ≡ n → ⊥
      gone p l x h at = none_edge (p, l) (sym joined_n ∙ ap u (sym at) ∙ h)

      old : (p : ℕ) (l : List ℕ) (x : ℕ) → u x ≡ Some (p, l) → (x ≡ m → ⊥) → (x ≡ n → ⊥) → up x ≡ Some (p, l)
      old p l x h a b = sym (joined_other x a b) ∙ h

      -- no edge leads from the node to another one than the child
      away_n : (p : ℕ) (l : List ℕ) (x : ℕ) → up x ≡ Some (p, l) → (x ≡ m → ⊥) → p ≡ n → ⊥
      away_n p l x h off at = off (only_m l x (ap (λ q. child q l) (sym at) ∙ t.below p l x h))

      below_by : (p : ℕ) (l : List ℕ) (x : ℕ) → u x ≡ Some (p, l) → (x ≡ m) ⊎ (x ≡ m → ⊥) → (x ≡ n) ⊎ (x ≡ n → ⊥) → c p l ≡ Some x
      below_by p l x h (inl at) q =
          let (a, b) = at_m p l x h at in
          set_at c1 c p0 l0 (Some m) p l s (sym a, b) ∙ ap (λ y. Some y) (sym at)
      below_by p l x h (inr off) (inl at) = absurd (gone p l x h at)
      below_by p l x h (inr off) (inr away) =
          let w = old p l x h off away in
          let k : child p l ≡ Some x = t.below p l x w in
          set_there c1 c p0 l0 (Some m) p l s (λ a b. away (one x n (sym k ∙ ap (λ q. child q l) a ∙ ap (child p0) (sym b) ∙ t.below p0 l0 n was)))
          ∙ drop_there child c1 n p l d (away_n p l x w off)
          ∙ k

      hangs_by : (p : ℕ) (l : List ℕ) (x : ℕ) → u x ≡ Some (p, l) → (x ≡ m) ⊎ (x ≡ m → ⊥) → (x ≡ n) ⊎ (x ≡ n → ⊥) → IsOn u p
      hangs_by p l x h (inl at) q = let (a, b) = at_m p l x h at in subst (IsOn u) a (joined_on p0 (t.hangs p0 l0 n was) p_apart)
      hangs_by p l x h (inr off) (inl at) = absurd (gone p l x h at)
      hangs_by p l x h (inr off) (inr away) = let w = old p l x h off away in joined_on p (t.hangs p l x w) (away_n p l x w off)

      stays : (x : ℕ) → (x ≡ n → ⊥) → path new x ≡ path rows x
      stays x off = path_there rows new n ([], []) x er off

      longer_edge : GoesOn new p0 l0 m
      longer_edge =
          let (first, above) = t.spelled p0 l0 n was in
          let (second, is) = t.spelled n joint.one.level m below_it in (
            first ++ joint.one.level ∷ second,
            stays m m_apart ∙ is ∙ ap (λ y. y ++ joint.one.level ∷ second) above ∙ append_assoc (path rows p0) (l0 ∷ first) (joint.one.level ∷ second)
                ∙ ap (λ y. y ++ l0 ∷ (first ++ joint.one.level ∷ second)) (sym (stays p0 p_apart)),
          )

      spelled_by : (p : ℕ) (l : List ℕ) (x : ℕ) → u x ≡ Some (p, l) → (x ≡ m) ⊎ (x ≡ m → ⊥) → (x ≡ n) ⊎ (x ≡ n → ⊥) → GoesOn new p l x
      spelled_by p l x h (inl at) q =
          let (a, b) = at_m p l x h at in
          subst (λ y. GoesOn new p l y) (sym at) (subst (λ y. GoesOn new p y m) b (subst (λ y. GoesOn new y l0 m) a longer_edge))
      spelled_by p l x h (inr off) (inl at) = absurd (gone p l x h at)
      spelled_by p l x h (inr off) (inr away) =
          let w = old p l x h off away in
          goes_kept rows new p l x (stays x away) (stays p (away_n p l x w off)) (t.spelled p l x w)
