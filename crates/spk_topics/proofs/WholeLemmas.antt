-- How each change of a tree of levels leaves it pruned.
use Rattle.std.proofs.Common.{◌≡◌, ◌⊎◌, ◌<◌, ◌≤◌, ◌+◌, ℕ, zero, suc, List, [], ◌∷◌, ◌++◌, refl, ap, sym, ◌∙◌, subst, inl, inr, arith, Option, Some, None, length, set}
use Rattle.std.specs.Prelude.{slice_get}
use Rattle.std.proofs.lemmas.Option.{some_pair_parts}
use Rattle.spk_topics.specs.Edges.{DropsChildren, HasChild, IsJoint, IsLeaf, SetsChild, SetsUp, Stays}
use Rattle.spk_topics.specs.Levels.{levels}
use Rattle.spk_topics.specs.Paths.{Child, IsOn, IsTree, Up, path, text_in}
use Rattle.spk_topics.specs.Rows.{Row, SetsRow}
use Rattle.spk_topics.specs.Whole.{HasGrants, HasTwo, IsNeeded, IsPruned, IsPrunedBut, LeadsToGrants}
use Rattle.spk_topics.proofs.ChangeLemmas.{edge_or_not, get_there, level_or_not, same_or_not, set_at, set_here, up_here, up_there}
use Rattle.spk_topics.proofs.PathLemmas.{longer, none_edge, none_some, through}
use Rattle.spk_topics.proofs.TreeLemmas.{freed_kept, joined_kept, joined_other, leaf_kept, m_apart, split_kept, up_other}

-- ---- grants and ways that stay

pub two_kept : (w v : List ℕ → Option ℕ) → ((l : List ℕ) (y : ℕ) → w l ≡ Some y → (z : ℕ) × (v l ≡ Some z)) → HasTwo w → HasTwo v
two_kept w v kept h =
    let (y, one_leads) = kept h.one h.one_node h.one_leads in
    let (z, other_leads) = kept h.other h.other_node h.other_leads in
    record { one = h.one; other = h.other; one_node = y; other_node = z; apart = h.apart; one_leads = one_leads; other_leads = other_leads }

pub grants_there : (rows new : List Row) (n : ℕ) (r : Row) (x : ℕ) → new ≡ set rows n r → (x ≡ n → ⊥) → HasGrants rows x → HasGrants new x
grants_there rows new n r x e off h = record { row = h.row; there = ap (λ (rs : List Row). slice_get rs x) e ∙ get_there rows n r x off ∙ h.there; granted = h.granted }

needed_there : (rows new : List Row) (child c : Child) (n : ℕ) (r : Row) (x : ℕ) → new ≡ set rows n r → (x ≡ n → ⊥) → ((l : List ℕ) (y : ℕ) → child x l ≡ Some y → (z : ℕ) × (c x l ≡ Some z)) → IsNeeded rows child x → IsNeeded new c x
needed_there rows new child c n r x e off kept (inl g) = inl (grants_there rows new n r x e off g)
needed_there rows new child c n r x e off kept (inr w) = inr (two_kept (child x) (c x) kept w)

pub pruned_but : (rows : List Row) (child : Child) (up : Up) (n : ℕ) → IsPruned rows child up → IsPrunedBut rows child up n
pruned_but rows child up n h x e k = inl (h x e k)

-- the node that was left out needs no exception
pub pruned_done : (rows : List Row) (child : Child) (up : Up) (n : ℕ) → IsPrunedBut rows child up n → (up n ≡ None) ⊎ IsNeeded rows child n → IsPruned rows child up
pruned_done rows child up n h stays x e k = side (h x e k)
  where
    here : x ≡ n → (up n ≡ None) ⊎ IsNeeded rows child n → IsNeeded rows child x
    here at (inl none) = absurd (none_edge e (sym none ∙ ap up (sym at) ∙ k))
    here at (inr needed) = subst (IsNeeded rows child) (sym at) needed

    side : IsNeeded rows child x ⊎ (x ≡ n) → IsNeeded rows child x
    side (inl needed) = needed
    side (inr at) = here at stays

-- ---- grants come and go

grants_after : (rows new : List Row) (f : List ℕ) (n x : ℕ) → SetsRow rows new f n → (x ≡ n → ⊥) → HasGrants rows x → HasGrants new x
grants_after rows new f n x (inl same) off h = subst (λ (rs : List Row). HasGrants rs x) (sym same) h
grants_after rows new f n x (inr (es, same)) off h = grants_there rows new n (f, es) x same off h

needed_after : (rows new : List Row) (child : Child) (f : List ℕ) (n x : ℕ) → SetsRow rows new f n → (x ≡ n → ⊥) → IsNeeded rows child x → IsNeeded new child x
needed_after rows new child f n x s off (inl g) = inl (grants_after rows new f n x s off g)
needed_after rows new child f n x s off (inr w) = inr w

pub pruned_filled : (rows new : List Row) (child : Child) (up : Up) (f : List ℕ) (n : ℕ) → IsPrunedBut rows child up n → SetsRow rows new f n → HasGrants new n → IsPruned new child up
pruned_filled rows new child up f n h s full x e k = side (same_or_not x n) (h x e k)
  where
    side : (x ≡ n) ⊎ (x ≡ n → ⊥) → IsNeeded rows child x ⊎ (x ≡ n) → IsNeeded new child x
    side (inl at) q = inl (subst (HasGrants new) (sym at) full)
    side (inr off) (inl needed) = needed_after rows new child f n x s off needed
    side (inr off) (inr at) = absurd (off at)

pub pruned_taken : (rows new : List Row) (child : Child) (up : Up) (f : List ℕ) (n : ℕ) → IsPruned rows child up → SetsRow rows new f n → IsPrunedBut new child up n
pruned_taken rows new child up f n h s x e k = side (same_or_not x n)
  where
    side : (x ≡ n) ⊎ (x ≡ n → ⊥) → IsNeeded new child x ⊎ (x ≡ n)
    side (inl at) = inr at
    side (inr off) = inl (needed_after rows new child f n x s off (h x e k))

-- ---- a node more

pub get_push : (rows : List Row) (r : Row) (x : ℕ) (row : Row) → slice_get rows x ≡ Some row → slice_get (rows ++ r ∷ []) x ≡ Some row
get_push [] r x row h = cc
get_push (y ∷ rows) r zero row h = h
get_push (y ∷ rows) r (suc x) row h = get_push rows r x row h

needed_pushed : (rows new : List Row) (r : Row) (child c : Child) (x : ℕ) → new ≡ rows ++ r ∷ [] → c ≡ child → IsNeeded rows child x → IsNeeded new c x
needed_pushed rows new r child c x e ec (inl g) = inl (record { row = g.row; there = ap (λ (rs : List Row). slice_get rs x) e ∙ get_push rows r x g.row g.there; granted = g.granted })
needed_pushed rows new r child c x e ec (inr w) = inr (subst (λ (y : Child). HasTwo (y x)) (sym ec) w)

pub pruned_pushed : (rows new : List Row) (r : Row) (child c : Child) (up u : Up) (at : ℕ) → new ≡ rows ++ r ∷ [] → c ≡ child → u ≡ up → IsPrunedBut rows child up at → IsPrunedBut new c u at
pruned_pushed rows new r child c up u at e ec eu h x edge k = side (h x edge (ap (λ (y : Up). y x) (sym eu) ∙ k))
  where
    side : IsNeeded rows child x ⊎ (x ≡ at) → IsNeeded new c x ⊎ (x ≡ at)
    side (inl needed) = inl (needed_pushed rows new r child c x e ec needed)
    side (inr is) = inr is

-- ---- a leaf more

module _ (rows new : List Row) (child c : Child) (up u : Up) (n : ℕ) (level : List ℕ) (m : ℕ) (f : List ℕ) (t : IsTree rows child up) (nowhere : child n level ≡ None) (off_root : m ≡ 0 → ⊥) (free : up m ≡ None)
    (on : IsOn up n) (inside : m < length rows) (s : SetsChild child c n level (Some m)) (v : SetsUp up u m (Some (n, level))) (er : new ≡ set rows m (f, [])) (goes : (rest : List (List ℕ)) × (levels f ≡ path rows n ++ level ∷ rest)) where
  kept : (p : ℕ) (l : List ℕ) (y : ℕ) → child p l ≡ Some y → (z : ℕ) × (c p l ≡ Some z)
  kept p l y h = (y, leaf_kept rows new child c up u n level m f t nowhere off_root free on inside s v er goes p l y h)

  -- another way on beside the new one
  parts_now : HasChild child n → HasTwo (c n)
  parts_now (l, y, h) = record {
    one = level;
    other = l;
    one_node = m;
    other_node = y;
    apart = λ same. none_some y (sym nowhere ∙ ap (child n) same ∙ h);
    one_leads = set_here child c n level (Some m) s;
    other_leads = leaf_kept rows new child c up u n level m f t nowhere off_root free on inside s v er goes n l y h;
  }

  pub pruned_leaf : IsPrunedBut rows child up n → Stays rows child up n → IsPrunedBut new c u m
  pruned_leaf h stays x e k = side (same_or_not x m)
    where
      old : (x ≡ m → ⊥) → up x ≡ Some e
      old off = sym (up_there up u m (Some (n, level)) x v off) ∙ k

      at_n : (x ≡ m → ⊥) → x ≡ n → Stays rows child up n → IsNeeded new c x
      at_n off at (inl (inl g)) = inl (grants_there rows new m (f, []) x er off (subst (HasGrants rows) (sym at) g))
      at_n off at (inl (inr w)) = inr (subst (λ y. HasTwo (c y)) (sym at) (parts_now w))
      at_n off at (inr none) = absurd (none_edge e (sym none ∙ ap up (sym at) ∙ old off))

      by : (x ≡ m → ⊥) → IsNeeded rows child x ⊎ (x ≡ n) → IsNeeded new c x
      by off (inl needed) = needed_there rows new child c m (f, []) x er off (kept x) needed
      by off (inr at) = at_n off at stays

      side : (x ≡ m) ⊎ (x ≡ m → ⊥) → IsNeeded new c x ⊎ (x ≡ m)
      side (inl at) = inr at
      side (inr off) = inl (by off (h x e (old off)))

-- ---- a node in an edge

module _ (rows new : List Row) (child c1 c : Child) (up u1 u : Up) (n : ℕ) (level : List ℕ) (m s : ℕ) (key f : List ℕ) (t : IsTree rows child up) (leads : child n level ≡ Some m) (off_root : s ≡ 0 → ⊥) (free : up s ≡ None)
    (inside : s < length rows) (s1 : SetsChild child c1 s key (Some m)) (s2 : SetsChild c1 c n level (Some s)) (v1 : SetsUp up u1 m (Some (s, key))) (v2 : SetsUp u1 u s (Some (n, level))) (er : new ≡ set rows s (f, []))
    (upper : (common : List (List ℕ)) × (levels f ≡ path rows n ++ level ∷ common)) (lower : (more : List (List ℕ)) × (path rows m ≡ levels f ++ key ∷ more)) where
  ways : (p : ℕ) (l : List ℕ) (y : ℕ) → child p l ≡ Some y → (z : ℕ) × (c p l ≡ Some z)
  ways p l y h = side (edge_or_not p n level l)
    where
      side : ((p ≡ n) × (level ≡ l)) ⊎ (p ≡ n → level ≡ l → ⊥) → (z : ℕ) × (c p l ≡ Some z)
      side (inl e) = (s, set_at c1 c n level (Some s) p l s2 e)
      side (inr off) = (y, split_kept rows new child c1 c up u1 u n level m s key f t leads off_root free inside s1 s2 v1 v2 er upper lower p l y off h)

  pub pruned_split : IsPruned rows child up → IsPrunedBut new c u s
  pruned_split h x e k = side (same_or_not x s) (same_or_not x m)
    where
      by : (edge : ℕ × List ℕ) → (x ≡ s → ⊥) → up x ≡ Some edge → IsNeeded new c x
      by edge off w = needed_there rows new child c s (f, []) x er off (ways x) (h x edge w)

      side : (x ≡ s) ⊎ (x ≡ s → ⊥) → (x ≡ m) ⊎ (x ≡ m → ⊥) → IsNeeded new c x ⊎ (x ≡ s)
      side (inl at) q = inr at
      side (inr off) (inl at) = inl (by (n, level) off (ap up at ∙ t.above n level m leads))
      side (inr off) (inr away) = inl (by e off (sym (up_other rows new child c1 c up u1 u n level m s key f t leads off_root free inside s1 s2 v1 v2 er upper lower x off away) ∙ k))

-- ---- a leaf less

module _ (rows new : List Row) (child c1 c : Child) (up u : Up) (n p0 : ℕ) (l0 : List ℕ) (t : IsTree rows child up) (leaf : IsLeaf rows child n) (was : up n ≡ Some (p0, l0))
    (d : DropsChildren child c1 n) (s : SetsChild c1 c p0 l0 None) (v : SetsUp up u n None) (er : new ≡ set rows n ([], [])) where
  -- a way on that isn't the one to the leaf
  still : (p : ℕ) (l : List ℕ) (y : ℕ) → (p ≡ p0 → l0 ≡ l → ⊥) → child p l ≡ Some y → c p l ≡ Some y
  still p l y off h =
      freed_kept rows new child c1 c up u n p0 l0 t leaf was d s v er p l y
      (λ at. let (a, b) = some_pair_parts p p0 l l0 (sym (t.above p l y h) ∙ ap up at ∙ was) in off a (sym b)) h

  pub pruned_freed : IsPrunedBut rows child up n → IsPrunedBut new c u p0
  pruned_freed h x e k = side (same_or_not x p0) (same_or_not x n)
    where
      by : (x ≡ p0 → ⊥) → (x ≡ n → ⊥) → IsNeeded rows child x ⊎ (x ≡ n) → IsNeeded new c x
      by off away (inl needed) = needed_there rows new child c n ([], []) x er away (λ l y w. (y, still x l y (λ a _. off a) w)) needed
      by off away (inr at) = absurd (away at)

      side : (x ≡ p0) ⊎ (x ≡ p0 → ⊥) → (x ≡ n) ⊎ (x ≡ n → ⊥) → IsNeeded new c x ⊎ (x ≡ p0)
      side (inl at) q = inr at
      side (inr off) (inl at) = absurd (none_edge e (sym (up_here up u n None v) ∙ ap u (sym at) ∙ k))
      side (inr off) (inr away) = inl (by off away (h x e (sym (up_there up u n None x v away) ∙ k)))

  above : p0 ≡ n → ⊥
  above at = none_some n (sym (leaf.last l0) ∙ ap (λ q. child q l0) (sym at) ∙ t.below p0 l0 n was)

  pub stays_freed : IsPrunedBut rows child up n → Stays new c u p0
  stays_freed h = side (up p0) refl
    where
      one_left : HasTwo (child p0) → HasChild c p0
      one_left w = by (level_or_not l0 w.one)
        where
          by : (l0 ≡ w.one) ⊎ (l0 ≡ w.one → ⊥) → HasChild c p0
          by (inl same) = (w.other, w.other_node, still p0 w.other w.other_node (λ _ b. w.apart (sym same ∙ b)) w.other_leads)
          by (inr off) = (w.one, w.one_node, still p0 w.one w.one_node (λ _ b. off b) w.one_leads)

      by : IsNeeded rows child p0 ⊎ (p0 ≡ n) → Stays new c u p0
      by (inl (inl g)) = inl (inl (grants_there rows new n ([], []) p0 er above g))
      by (inl (inr w)) = inl (inr (one_left w))
      by (inr at) = absurd (above at)

      side : (o : Option (ℕ × List ℕ)) → up p0 ≡ o → Stays new c u p0
      side None none = inr (up_there up u n None p0 v above ∙ none)
      side (Some e) is = by (h p0 e is)

-- ---- a node less in an edge

module _ (rows new : List Row) (child c1 c : Child) (up u1 u : Up) (n m p0 : ℕ) (l0 : List ℕ) (t : IsTree rows child up) (joint : IsJoint rows child n m) (was : up n ≡ Some (p0, l0))
    (d : DropsChildren child c1 n) (s : SetsChild c1 c p0 l0 (Some m)) (v1 : SetsUp up u1 n None) (v2 : SetsUp u1 u m (Some (p0, l0))) (er : new ≡ set rows n ([], [])) where
  pub pruned_joined : IsPrunedBut rows child up n → IsPruned new c u
  pruned_joined h x e k = side (same_or_not x m) (same_or_not x n)
    where
      by : (x ≡ n → ⊥) → IsNeeded rows child x ⊎ (x ≡ n) → IsNeeded new c x
      by off (inl needed) = needed_there rows new child c n ([], []) x er off (λ l y w. joined_kept rows new child c1 c up u1 u n m p0 l0 t joint was d s v1 v2 er x l y off w) needed
      by off (inr at) = absurd (off at)

      gone : x ≡ n → ⊥
      gone at =
          none_edge e
          (sym (up_here up u1 n None v1)
          ∙ sym (up_there u1 u m (Some (p0, l0)) n v2 (λ z. m_apart rows new child c1 c up u1 u n m p0 l0 t joint was d s v1 v2 er (sym z)))
          ∙ ap u (sym at)
          ∙ k)

      side : (x ≡ m) ⊎ (x ≡ m → ⊥) → (x ≡ n) ⊎ (x ≡ n → ⊥) → IsNeeded new c x
      side q (inl at) = absurd (gone at)
      side (inl at) (inr off) = by off (h x (n, joint.one.level) (ap up at ∙ t.above n joint.one.level m joint.one.leads))
      side (inr away) (inr off) = by off (h x e (sym (joined_other rows new child c1 c up u1 u n m p0 l0 t joint was d s v1 v2 er x away off) ∙ k))

-- ---- each node leads to grants

abbrev total : List Row → ℕ
total [] = 1
total (row ∷ rows) = length (levels row.0) + total rows

bound_text : (rows : List Row) (n : ℕ) → length (levels (text_in rows n)) ≤ total rows
bound_text [] n = omega arith
bound_text (row ∷ rows) zero = omega arith
bound_text (row ∷ rows) (suc n) = let h = bound_text rows n in omega (arith, h)

bound : (rows : List Row) (n : ℕ) → length (path rows n) ≤ total rows
bound rows zero = omega arith
bound rows (suc n) = bound_text rows (suc n)

module _ (rows : List Row) (child : Child) (up : Up) (t : IsTree rows child up) (pruned : IsPruned rows child up) where
  lead : (k n : ℕ) (edge : ℕ × List ℕ) → total rows < length (path rows n) + k → up n ≡ Some edge → LeadsToGrants rows child n
  lead zero n edge h e = let b = bound rows n in absurd (omega (arith, b, h))
  lead (suc k) n edge h e = side (pruned n edge e) (λ m d far on. lead k m d far on)
    where
      side : IsNeeded rows child n → ((m : ℕ) (d : ℕ × List ℕ) → total rows < length (path rows m) + k → up m ≡ Some d → LeadsToGrants rows child m) → LeadsToGrants rows child n
      side (inl g) go = record { place = n; edges = []; leads = refl; grants = g }
      side (inr w) go =
          let on = t.above n w.one w.one_node w.one_leads in
          let (more, is) = t.spelled n w.one w.one_node on in
          let less = longer (path rows n) (path rows w.one_node) w.one more is in
          let far : LeadsToGrants rows child w.one_node = go w.one_node (n, w.one) (omega (arith, h, less)) on in
          record { place = far.place; edges = w.one ∷ far.edges; leads = through child n w.one far.edges w.one_node far.place w.one_leads far.leads; grants = far.grants }

  -- edges lead on from each node to which one leads, as far as grants
  pub leads_to_grants : (n : ℕ) (edge : ℕ × List ℕ) → up n ≡ Some edge → LeadsToGrants rows child n
  leads_to_grants n edge e = lead (suc (total rows)) n edge (omega arith) e
