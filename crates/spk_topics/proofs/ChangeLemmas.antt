-- What one change of rows or edges leaves as it was.
use Rattle.std.proofs.Common.{◌≡◌, ◌⊎◌, ◌<◌, ℕ, zero, suc, List, [], ◌∷◌, ◌++◌, Bool, true, false, refl, ap, sym, ◌∙◌, subst, cond, inl, inr, arith, Option, Some, None, length, set}
use Rattle.std.specs.Prelude.{slice_get, nat_eq, ◌&&◌}
use Rattle.std.specs.Option.{option_map_or}
use Rattle.std.specs.Str.{bytes_eq}
use Rattle.std.proofs.lemmas.Bool.{eqb-true}
use Rattle.std.specs.FinMap.{from_entries}
use Rattle.spk_topics.specs.Grants.{grant_cmp}
use Rattle.spk_topics.specs.Levels.{levels}
use Rattle.spk_topics.specs.Rows.{Row, Absent, SetsRow, flat, grants_of, tagged}
use Rattle.spk_topics.specs.Paths.{Child, Up, path, text_in}
use Rattle.spk_topics.specs.Edges.{DropsChildren, Keeps, SetsChild, SetsUp}
use Rattle.spk_topics.proofs.BoolLemmas.{and_parts, and_both}
use Rattle.spk_topics.proofs.FitLemmas.{bytes_same, bytes_self}
use Rattle.spk_topics.proofs.ListLemmas.{set_sees}
use Rattle.spk_topics.proofs.PathLemmas.{nat_self}

-- ---- whether two numbers, two levels, two edges are one

pub same_or_not : (x n : ℕ) → (x ≡ n) ⊎ (x ≡ n → ⊥)
same_or_not x n = side (nat_eq x n) refl
  where
    side : (b : Bool) → nat_eq x n ≡ b → (x ≡ n) ⊎ (x ≡ n → ⊥)
    side true e = inl (eqb-true x n e)
    side false e = inr (λ at. let yes : nat_eq x n ≡ true = ap (λ y. nat_eq y n) at ∙ nat_self n in let no : true ≡ false = sym yes ∙ e in cc)

pub level_or_not : (a b : List ℕ) → (a ≡ b) ⊎ (a ≡ b → ⊥)
level_or_not a b = side (bytes_eq a b) refl
  where
    side : (c : Bool) → bytes_eq a b ≡ c → (a ≡ b) ⊎ (a ≡ b → ⊥)
    side true e = inl (bytes_same a b e)
    side false e = inr (λ at. let yes : bytes_eq a b ≡ true = ap (λ y. bytes_eq y b) at ∙ bytes_self b in let no : true ≡ false = sym yes ∙ e in cc)

pub edge_or_not : (p n : ℕ) (level l : List ℕ) → ((p ≡ n) × (level ≡ l)) ⊎ (p ≡ n → level ≡ l → ⊥)
edge_or_not p n level l = side (same_or_not p n) (level_or_not level l)
  where
    side : (p ≡ n) ⊎ (p ≡ n → ⊥) → (level ≡ l) ⊎ (level ≡ l → ⊥) → ((p ≡ n) × (level ≡ l)) ⊎ (p ≡ n → level ≡ l → ⊥)
    side (inl a) (inl b) = inl (a, b)
    side (inl a) (inr k) = inr (λ _ b. k b)
    side (inr h) q = inr (λ a _. h a)

-- ---- edges

-- the test of one level of one node
at_edge : (p n : ℕ) (level l : List ℕ) → (nat_eq p n && bytes_eq level l) ≡ true → (p ≡ n) × (level ≡ l)
at_edge p n level l h = let (a, b) = and_parts _ _ h in (eqb-true p n a, bytes_same level l b)

edge_self : (n : ℕ) (level : List ℕ) → (nat_eq n n && bytes_eq level level) ≡ true
edge_self n level = and_both _ _ (nat_self n) (bytes_self level)

pub set_here : (old new : Child) (n : ℕ) (level : List ℕ) (c : Option ℕ) → SetsChild old new n level c → new n level ≡ c
set_here old new n level c s = s n level ∙ ap (λ b. cond b c (old n level)) (edge_self n level)

pub set_at : (old new : Child) (n : ℕ) (level : List ℕ) (c : Option ℕ) (p : ℕ) (l : List ℕ) → SetsChild old new n level c → (p ≡ n) × (level ≡ l) → new p l ≡ c
set_at old new n level c p l s (a, b) = ap (λ q. new q l) a ∙ ap (new n) (sym b) ∙ set_here old new n level c s

pub set_there : (old new : Child) (n : ℕ) (level : List ℕ) (c : Option ℕ) (p : ℕ) (l : List ℕ) → SetsChild old new n level c → (p ≡ n → level ≡ l → ⊥) → new p l ≡ old p l
set_there old new n level c p l s off = s p l ∙ side (nat_eq p n && bytes_eq level l) refl
  where
    side : (b : Bool) → (nat_eq p n && bytes_eq level l) ≡ b → cond b c (old p l) ≡ old p l
    side true e = let (a, k) = at_edge p n level l e in absurd (off a k)
    side false e = refl

pub drop_here : (old new : Child) (n p : ℕ) (l : List ℕ) → DropsChildren old new n → p ≡ n → new p l ≡ None
drop_here old new n p l d at = d p l ∙ ap (λ b. cond b None (old p l)) (ap (λ y. nat_eq y n) at ∙ nat_self n)

pub drop_there : (old new : Child) (n p : ℕ) (l : List ℕ) → DropsChildren old new n → (p ≡ n → ⊥) → new p l ≡ old p l
drop_there old new n p l d off = d p l ∙ side (nat_eq p n) refl
  where
    side : (b : Bool) → nat_eq p n ≡ b → cond b None (old p l) ≡ old p l
    side true e = absurd (off (eqb-true p n e))
    side false e = refl

pub up_here : (old new : Up) (n : ℕ) (u : Option (ℕ × List ℕ)) → SetsUp old new n u → new n ≡ u
up_here old new n u s = s n ∙ ap (λ b. cond b u (old n)) (nat_self n)

pub up_there : (old new : Up) (n : ℕ) (u : Option (ℕ × List ℕ)) (x : ℕ) → SetsUp old new n u → (x ≡ n → ⊥) → new x ≡ old x
up_there old new n u x s off = s x ∙ side (nat_eq x n) refl
  where
    side : (b : Bool) → nat_eq x n ≡ b → cond b u (old x) ≡ old x
    side true e = absurd (off (eqb-true x n e))
    side false e = refl

-- ---- rows

pub get_there : (rows : List Row) (n : ℕ) (r : Row) (x : ℕ) → (x ≡ n → ⊥) → slice_get (set rows n r) x ≡ slice_get rows x
get_there [] n r x off = refl
get_there (y ∷ rows) zero r zero off = absurd (off refl)
get_there (y ∷ rows) zero r (suc x) off = refl
get_there (y ∷ rows) (suc n) r zero off = refl
get_there (y ∷ rows) (suc n) r (suc x) off = get_there rows n r x (λ e. off (ap suc e))

pub get_here : (rows : List Row) (n : ℕ) (r : Row) → n < length rows → slice_get (set rows n r) n ≡ Some r
get_here [] n r h = absurd (omega arith)
get_here (y ∷ rows) zero r h = refl
get_here (y ∷ rows) (suc n) r h = get_here rows n r (omega arith)

text_of : Option Row → List ℕ
text_of o = option_map_or (λ (row : Row). row.0) o []

pub path_there : (rows new : List Row) (n : ℕ) (r : Row) (x : ℕ) → new ≡ set rows n r → (x ≡ n → ⊥) → path new x ≡ path rows x
path_there rows new n r zero e off = refl
path_there rows new n r (suc x) e off = ap (λ (rs : List Row). path rs (suc x)) e ∙ ap (λ (o : Option Row). levels (option_map_or (λ (row : Row). row.0) o [])) (get_there rows n r (suc x) off)

pub path_here : (rows new : List Row) (n : ℕ) (r : Row) → new ≡ set rows n r → (n ≡ 0 → ⊥) → n < length rows → path new n ≡ levels r.0
path_here rows new zero r e off h = absurd (off refl)
path_here rows new (suc n) r e off h = ap (λ (rs : List Row). path rs (suc n)) e ∙ ap (λ (o : Option Row). levels (option_map_or (λ (row : Row). row.0) o [])) (get_here rows (suc n) r h)

text_push : (rows : List Row) (x : ℕ) → text_in (rows ++ ([], []) ∷ []) x ≡ text_in rows x
text_push [] zero = refl
text_push [] (suc x) = refl
text_push (y ∷ rows) zero = refl
text_push (y ∷ rows) (suc x) = text_push rows x

pub path_push : (rows new : List Row) (x : ℕ) → new ≡ rows ++ ([], []) ∷ [] → path new x ≡ path rows x
path_push rows new zero e = refl
path_push rows new (suc x) e = ap (λ (rs : List Row). path rs (suc x)) e ∙ ap levels (text_push rows (suc x))

-- other grants of the same text
text_kept : (rows : List Row) (n : ℕ) (es : List (ℕ × ℕ)) (x : ℕ) → text_in (set rows n (text_in rows n, es)) x ≡ text_in rows x
text_kept [] n es x = refl
text_kept (y ∷ rows) zero es zero = refl
text_kept (y ∷ rows) zero es (suc x) = refl
text_kept (y ∷ rows) (suc n) es zero = refl
text_kept (y ∷ rows) (suc n) es (suc x) = text_kept rows n es x

pub path_after : (rows new : List Row) (n x : ℕ) → SetsRow rows new (text_in rows n) n → path new x ≡ path rows x
path_after rows new n x (inl same) = ap (λ (rs : List Row). path rs x) same
path_after rows new n zero (inr (es, same)) = refl
path_after rows new n (suc x) (inr (es, same)) = ap (λ (rs : List Row). path rs (suc x)) same ∙ ap levels (text_kept rows n es (suc x))

-- ---- grants

flat_set : (rows : List Row) (n : ℕ) (f : List ℕ) (row : Row) → slice_get rows n ≡ Some row → row.1 ≡ [] → flat (set rows n (f, [])) ≡ flat rows
flat_set [] n f row h none = refl
flat_set (y ∷ rows) zero f row h none =
    let same : y ≡ row = cc in
    sym (ap (λ es. tagged y.0 es ++ flat rows) (ap (λ (r : Row). r.1) same ∙ none))
flat_set (y ∷ rows) (suc n) f row h none = ap (λ es. tagged y.0 y.1 ++ es) (flat_set rows n f row h none)

-- a row without grants gets another text
pub keeps_set : (rows new : List Row) (n : ℕ) (f : List ℕ) (row : Row) → slice_get rows n ≡ Some row → row.1 ≡ [] → new ≡ set rows n (f, []) → Keeps rows new
keeps_set rows new n f row h none e = record {
  same = ap grants_of e ∙ ap (λ es. from_entries {R = grant_cmp} es) (flat_set rows n f row h none);
  absent = λ g absent i r there same. side g absent i r same (set_sees rows n (f, []) i r (subst (λ (rs : List Row). slice_get rs i ≡ Some r) e there));
}
  where
    side : (g : List ℕ) → Absent rows g → (i : ℕ) (r : Row) → r.0 ≡ g → ((i ≡ n) × ((f, []) ≡ r)) ⊎ ((i ≡ n → ⊥) × (slice_get rows i ≡ Some r)) → r.1 ≡ []
    side g absent i r same (inl (at, is)) = ap (λ (x : Row). x.1) (sym is)
    side g absent i r same (inr (off, k)) = absent i r k same

pub keeps_same : (rows new : List Row) → new ≡ rows → Keeps rows new
keeps_same rows new e = record { same = ap grants_of e; absent = λ f h. subst (λ (x : List Row). Absent x f) (sym e) h }

pub keeps_more : (a b d : List Row) → Keeps a b → Keeps b d → Keeps a d
keeps_more a b d g h = record { same = h.same ∙ g.same; absent = λ f k. h.absent f (g.absent f k) }
