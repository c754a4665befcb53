-- The nodes that aren't used: what a change of one node does to their chain, and to what they hold.
use Rattle.std.proofs.Common.{◌≡◌, ◌⊎◌, ◌<◌, ◌+◌, ◌++◌, ◌↔◌, ℕ, zero, suc, List, [], ◌∷◌, Bool, true, false, refl, ap, sym, ◌∙◌, subst, cond, inl, inr, arith, Option, Some, None, Contains, length, length-append, set, get_or}
use Rattle.std.specs.Prelude.{nat_eq, slice_get}
use Rattle.std.proofs.lemmas.Bool.{eqb-true}
use Rattle.spk_topics.specs.Edges.{SetsNext, SetsUp}
use Rattle.spk_topics.specs.Paths.{Next, Up}
use Rattle.spk_topics.specs.Rows.{Row, SetsRow}
use Rattle.spk_topics.specs.Unused.{AreEmpty, HasUnused, IsChain, IsUnused}
use Rattle.spk_topics.proofs.ListLemmas.{push_sees, set_sees}
use Rattle.spk_topics.proofs.ChangeLemmas.{same_or_not, up_here, up_there}
use Rattle.spk_topics.proofs.PathLemmas.{nat_self, none_edge, one}

-- ---- elements of lists

first_in : (x : ℕ) (ns : List ℕ) → Contains (x ∷ ns) x
first_in x ns = (0, omega arith, refl)

later_in : (x : ℕ) (ns : List ℕ) (n : ℕ) → Contains ns n → Contains (x ∷ ns) n
later_in x ns n p = (suc p.0, omega (arith, p.1), p.2)

not_in_none : (n : ℕ) → Contains [] n → ⊥
not_in_none n p = absurd (omega (arith, p.1))

either_in : (x : ℕ) (ns : List ℕ) (n : ℕ) → Contains (x ∷ ns) n → (x ≡ n) ⊎ Contains ns n
either_in x ns n p = by_index p.0 p.1 p.2
  where
    by_index : (k : ℕ) → k < suc (length ns) → get_or (x ∷ ns) k n ≡ n → (x ≡ n) ⊎ Contains ns n
    by_index zero within found = inl found
    by_index (suc k) within found = inr (k, omega arith, found)

-- ---- chains

next_here : (old new : Next) (n : ℕ) (m : Option ℕ) → SetsNext old new n m → new n ≡ m
next_here old new n m s = s n ∙ ap (λ b. cond b m (old n)) (nat_self n)

next_there : (old new : Next) (n : ℕ) (m : Option ℕ) (x : ℕ) → SetsNext old new n m → (x ≡ n → ⊥) → new x ≡ old x
next_there old new n m x s off = s x ∙ side (nat_eq x n) refl
  where
    side : (b : Bool) → nat_eq x n ≡ b → cond b m (old x) ≡ old x
    side true e = absurd (off (eqb-true x n e))
    side false e = refl

-- a chain whose nodes name what they named
chain_kept : (next new : Next) (first : Option ℕ) (ns : List ℕ) → ((n : ℕ) → Contains ns n → new n ≡ next n) → IsChain next first ns → IsChain new first ns
chain_kept next new first [] same h = h
chain_kept next new first (n ∷ ns) same (a, off, rest) =
    (a, off, subst (λ o. IsChain new o ns) (sym (same n (first_in n ns))) (chain_kept next new (next n) ns (λ m h. same m (later_in n ns m h)) rest))

first_in_chain : (next : Next) (first : Option ℕ) (n : ℕ) (ns : List ℕ) → IsChain next first ns → first ≡ Some n → Contains ns n
first_in_chain next first n [] h e = let no : None ≡ Some n = sym h ∙ e in cc
first_in_chain next first n (m ∷ ns) (a, off, rest) e = subst (Contains (m ∷ ns)) (one m n (sym a ∙ e)) (first_in m ns)

no_chain : (next : Next) (first : Option ℕ) (n : ℕ) (ns : List ℕ) → IsChain next first ns → first ≡ None → Contains ns n → ⊥
no_chain next first n [] h e p = not_in_none n p
no_chain next first n (m ∷ ns) (a, off, rest) e p = let no : None ≡ Some m = sym e ∙ a in cc

-- the first unused node isn't used
pub first_unused : (rows : List Row) (up : Up) (next : Next) (first : Option ℕ) (n : ℕ) → HasUnused rows up next first → first ≡ Some n → IsUnused rows up n
first_unused rows up next first n u e = (u.exact n).0 (first_in_chain next first n u.chain u.linked e)

-- ---- the first unused node gets an edge

module _ (rows : List Row) (up new_up : Up) (next new_next : Next) (first new_first : Option ℕ) (n : ℕ) (e : ℕ × List ℕ) (u : HasUnused rows up next first) (is : first ≡ Some n)
    (s : SetsUp up new_up n (Some e)) (t : SetsNext next new_next n None) (f : new_first ≡ next n) where
  used_now : (x : ℕ) → new_up x ≡ None → x ≡ n → ⊥
  used_now x k at = none_edge e (sym k ∙ ap new_up at ∙ up_here up new_up n (Some e) s)

  of_chain : (ns : List ℕ) → IsChain next first ns → ((x : ℕ) → Contains ns x ↔ IsUnused rows up x) → HasUnused rows new_up new_next new_first
  of_chain [] h exact = let no : None ≡ Some n = sym h ∙ is in cc
  of_chain (m ∷ ns) (a, off, rest) exact =
      let same : m ≡ n = one m n (sym a ∙ is) in
      let apart : (x : ℕ) → Contains ns x → x ≡ n → ⊥ = λ x p at. off (subst (Contains ns) (at ∙ sym same) p) in
      record {
        chain = ns;
        linked =
            subst (λ o. IsChain new_next o ns) (ap next same ∙ sym f)
            (chain_kept next new_next (next m) ns (λ x p. next_there next new_next n None x t (apart x p)) rest);
        exact = λ x. (
          (λ p. let w : IsUnused rows up x = (exact x).0 (later_in m ns x p) in (w.0, w.1, up_there up new_up n (Some e) x s (apart x p) ∙ w.2)),
          (λ w. others x same w (either_in m ns x ((exact x).1 (w.0, w.1, sym (up_there up new_up n (Some e) x s (used_now x w.2)) ∙ w.2)))),
        );
      }
    where
      others : (x : ℕ) → m ≡ n → IsUnused rows new_up x → (m ≡ x) ⊎ Contains ns x → Contains ns x
      others x same w (inl here) = absurd (used_now x w.2 (sym here ∙ same))
      others x same w (inr p) = p

  pub unused_linked : HasUnused rows new_up new_next new_first
  unused_linked = of_chain u.chain u.linked u.exact

-- ---- a node loses its edge, and is the first one

pub unused_freed : (rows new : List Row) (up new_up : Up) (next new_next : Next) (first new_first : Option ℕ) (n : ℕ) (e : ℕ × List ℕ) → HasUnused rows up next first → up n ≡ Some e → (n ≡ 0 → ⊥)
    → n < length rows → length new ≡ length rows → SetsUp up new_up n None → SetsNext next new_next n first → new_first ≡ Some n → HasUnused new new_up new_next new_first
unused_freed rows new up new_up next new_next first new_first n e u edge off_root inside len s t f =
    record {
      chain = n ∷ u.chain;
      linked = (
        f,
        (λ p. used n p refl),
        subst (λ o. IsChain new_next o u.chain) (sym (next_here next new_next n first t))
            (chain_kept next new_next first u.chain (λ x p. next_there next new_next n first x t (used x p)) u.linked),
      );
      exact = λ x. ((λ p. into x (either_in n u.chain x p)), (λ w. from x w (same_or_not x n)));
    }
  where
    used : (x : ℕ) → Contains u.chain x → x ≡ n → ⊥
    used x p at = none_edge e (sym ((u.exact x).0 p).2 ∙ ap up at ∙ edge)

    into : (x : ℕ) → (n ≡ x) ⊎ Contains u.chain x → IsUnused new new_up x
    into x (inl at) = ((λ z. off_root (at ∙ z)), omega (arith, inside, len, at), ap new_up (sym at) ∙ up_here up new_up n None s)
    into x (inr p) =
        let w : IsUnused rows up x = (u.exact x).0 p in
        (w.0, omega (arith, w.1, len), up_there up new_up n None x s (used x p) ∙ w.2)

    from : (x : ℕ) → IsUnused new new_up x → (x ≡ n) ⊎ (x ≡ n → ⊥) → Contains (n ∷ u.chain) x
    from x w (inl at) = subst (Contains (n ∷ u.chain)) (sym at) (first_in n u.chain)
    from x w (inr off) = later_in n u.chain x ((u.exact x).1 (w.0, omega (arith, w.1, len), sym (up_there up new_up n None x s off) ∙ w.2))

-- ---- a node more

pushed_len : (rows new : List Row) (row : Row) → new ≡ rows ++ row ∷ [] → length new ≡ length rows + 1
pushed_len rows new row e = ap length e ∙ length-append rows (row ∷ [])

-- it is the only one that isn't used
pub unused_pushed : (rows new : List Row) (row : Row) (up new_up : Up) (next new_next : Next) (first new_first : Option ℕ) → HasUnused rows up next first → first ≡ None → 0 < length rows
    → new ≡ rows ++ row ∷ [] → new_up ≡ up → new_up (length rows) ≡ None → new_next (length rows) ≡ None → new_first ≡ Some (length rows) → HasUnused new new_up new_next new_first
unused_pushed rows new row up new_up next new_next first new_first u none rooted er eu last_up last_next f =
    record {
      chain = length rows ∷ [];
      linked = (f, not_in_none (length rows), last_next);
      exact = λ x. ((λ p. into x (either_in (length rows) [] x p)), (λ w. from x w (same_or_not x (length rows))));
    }
  where
    into : (x : ℕ) → (length rows ≡ x) ⊎ Contains [] x → IsUnused new new_up x
    into x (inl at) = ((λ z. absurd (omega (arith, rooted, at, z))), omega (arith, at, pushed_len rows new row er), ap new_up (sym at) ∙ last_up)
    into x (inr p) = absurd (not_in_none x p)

    from : (x : ℕ) → IsUnused new new_up x → (x ≡ length rows) ⊎ (x ≡ length rows → ⊥) → Contains (length rows ∷ []) x
    from x w (inl at) = subst (Contains (length rows ∷ [])) (sym at) (first_in (length rows) [])
    from x w (inr off) =
        let inside : x < length rows = omega (arith, w.1, off, pushed_len rows new row er) in
        absurd (no_chain next first x u.chain u.linked none ((u.exact x).1 (w.0, inside, ap (λ (v : Up). v x) (sym eu) ∙ w.2)))

-- it is the root
pub unused_planted : (rows new : List Row) (row : Row) (up new_up : Up) (next new_next : Next) (first new_first : Option ℕ) → HasUnused rows up next first → length rows ≡ 0
    → new ≡ rows ++ row ∷ [] → new_up ≡ up → new_next ≡ next → new_first ≡ first → HasUnused new new_up new_next new_first
unused_planted rows new row up new_up next new_next first new_first u none er eu en ef =
    record {
      chain = u.chain;
      linked = subst (λ (o : Option ℕ). IsChain new_next o u.chain) (sym ef) (subst (λ (y : Next). IsChain y first u.chain) (sym en) u.linked);
      exact = λ x. (
        (λ p. let w : IsUnused rows up x = (u.exact x).0 p in absurd (omega (arith, w.1, none))),
        (λ w. absurd (w.0 (omega (arith, w.1, none, pushed_len rows new row er)))),
      );
    }

-- another edge leads to a node
pub unused_turned : (rows : List Row) (up new_up : Up) (next : Next) (first : Option ℕ) (m : ℕ) (e d : ℕ × List ℕ) → HasUnused rows up next first → up m ≡ Some e → SetsUp up new_up m (Some d) → HasUnused rows new_up next first
unused_turned rows up new_up next first m e d u was s = record {
  chain = u.chain;
  linked = u.linked;
  exact = λ x. (
    (λ p. let w : IsUnused rows up x = (u.exact x).0 p in (w.0, w.1, up_there up new_up m (Some d) x s (λ at. none_edge e (sym w.2 ∙ ap up at ∙ was)) ∙ w.2)),
    (λ w. (u.exact x).1 (w.0, w.1, sym (up_there up new_up m (Some d) x s (λ at. none_edge d (sym w.2 ∙ ap new_up at ∙ up_here up new_up m (Some d) s))) ∙ w.2)),
  );
}

pub unused_same : (rows new : List Row) (up new_up : Up) (next new_next : Next) (first new_first : Option ℕ) → HasUnused rows up next first
    → length new ≡ length rows → new_up ≡ up → new_next ≡ next → new_first ≡ first → HasUnused new new_up new_next new_first
unused_same rows new up new_up next new_next first new_first u len eu en ef =
    record {
      chain = u.chain;
      linked = subst (λ (o : Option ℕ). IsChain new_next o u.chain) (sym ef) (subst (λ (y : Next). IsChain y first u.chain) (sym en) u.linked);
      exact = λ x. (
        (λ p. let w : IsUnused rows up x = (u.exact x).0 p in (w.0, omega (arith, w.1, len), ap (λ (v : Up). v x) eu ∙ w.2)),
        (λ w. (u.exact x).1 (w.0, omega (arith, w.1, len), ap (λ (v : Up). v x) (sym eu) ∙ w.2)),
      );
    }

-- ---- what nodes hold to which no edge leads

-- another edge leads to a node
pub empty_turned : (rows : List Row) (up new_up : Up) (n : ℕ) (e : ℕ × List ℕ) → AreEmpty rows up → SetsUp up new_up n (Some e) → AreEmpty rows new_up
empty_turned rows up new_up n e h s i row there none = side (same_or_not i n)
  where
    side : (i ≡ n) ⊎ (i ≡ n → ⊥) → row ≡ ([], [])
    side (inl at) = absurd (none_edge e (sym none ∙ ap new_up at ∙ up_here up new_up n (Some e) s))
    side (inr off) = h i row there (sym (up_there up new_up n (Some e) i s off) ∙ none)

-- the first edge leads to a node, which has a text then
pub empty_hung : (rows new : List Row) (up new_up : Up) (n : ℕ) (f : List ℕ) (e : ℕ × List ℕ) → AreEmpty rows up → SetsUp up new_up n (Some e) → new ≡ set rows n (f, []) → AreEmpty new new_up
empty_hung rows new up new_up n f e h s is i row there none =
    side (set_sees rows n (f, []) i row (subst (λ (r : List Row). slice_get r i ≡ Some row) is there))
  where
    side : ((i ≡ n) × ((f, []) ≡ row)) ⊎ ((i ≡ n → ⊥) × (slice_get rows i ≡ Some row)) → row ≡ ([], [])
    side (inl (at, _)) = absurd (none_edge e (sym none ∙ ap new_up at ∙ up_here up new_up n (Some e) s))
    side (inr (off, k)) = h i row k (sym (up_there up new_up n (Some e) i s off) ∙ none)

pub empty_freed : (rows new : List Row) (up new_up : Up) (n : ℕ) → AreEmpty rows up → SetsUp up new_up n None → new ≡ set rows n ([], []) → AreEmpty new new_up
empty_freed rows new up new_up n h s e i row there none =
    side (set_sees rows n ([], []) i row (subst (λ (r : List Row). slice_get r i ≡ Some row) e there))
  where
    side : ((i ≡ n) × (([], []) ≡ row)) ⊎ ((i ≡ n → ⊥) × (slice_get rows i ≡ Some row)) → row ≡ ([], [])
    side (inl (at, is)) = sym is
    side (inr (off, k)) = h i row k (sym (up_there up new_up n None i s off) ∙ none)

pub empty_pushed : (rows new : List Row) (up new_up : Up) → AreEmpty rows up → new ≡ rows ++ ([], []) ∷ [] → new_up ≡ up → AreEmpty new new_up
empty_pushed rows new up new_up h e eu i row there none =
    side (push_sees rows ([], []) i row (subst (λ (r : List Row). slice_get r i ≡ Some row) e there))
  where
    side : (slice_get rows i ≡ Some row) ⊎ ((i ≡ length rows) × (([], []) ≡ row)) → row ≡ ([], [])
    side (inl k) = h i row k (ap (λ (v : Up). v i) (sym eu) ∙ none)
    side (inr (at, is)) = sym is

pub empty_after : (rows new : List Row) (up : Up) (f : List ℕ) (n : ℕ) (e : ℕ × List ℕ) → AreEmpty rows up → up n ≡ Some e → SetsRow rows new f n → AreEmpty new up
empty_after rows new up f n e h edge s i row there none = side s
  where
    here : (es : List (ℕ × ℕ)) → ((i ≡ n) × ((f, es) ≡ row)) ⊎ ((i ≡ n → ⊥) × (slice_get rows i ≡ Some row)) → row ≡ ([], [])
    here es (inl (at, is)) = absurd (none_edge e (sym none ∙ ap up at ∙ edge))
    here es (inr (off, k)) = h i row k none

    side : (new ≡ rows) ⊎ ((es : List (ℕ × ℕ)) × (new ≡ set rows n (f, es))) → row ≡ ([], [])
    side (inl same) = h i row (subst (λ (r : List Row). slice_get r i ≡ Some row) same there) none
    side (inr (es, same)) = here es (set_sees rows n (f, es) i row (subst (λ (r : List Row). slice_get r i ≡ Some row) same there))
