-- How a text is cut at its first slash.
use Rattle.std.proofs.Common.{◌≡◌, ℕ, suc, ◌+◌, ◌<◌, List, [], ◌∷◌, Bool, true, false, length, take, drop, refl, ap, arith, nat_eq, cond}
use Rattle.std.proofs.Common.{Option, Some, None, Bor, sym, ◌∙◌, ◌++◌, ◌≤◌, subst, get_or, append_assoc, length-append, length-drop, zero}
use Rattle.std.specs.Prelude.{not, is_some, ◌||◌}
use Rattle.std.specs.Option.{option_map}
use Rattle.std.specs.List.{position_or_len, before_first, after_first, list_all}
use Rattle.std.proofs.lemmas.Bool.{eqb-true}
use Rattle.spk_topics.proofs.BoolLemmas.{and_parts, not_true}
use Rattle.std.proofs.lemmas.Grind.{common_steps}
use Rattle.std.proofs.lemmas.Str.{IsCharBoundary-before_ascii}
use Rattle.std.specs.Str.{IsCharBoundary}
use Rattle.std.specs.List.{slice_index}
use Rattle.spk_topics.specs.Levels.{levels, levels_left, widened, is_empty, joined}
use Rattle.spk_topics.specs.Text.{holds}

later : (b : ℕ) (s : List ℕ) (p : ℕ) → levels s ≡ take p s ∷ levels (drop (p + 1) s) → widened b (levels s) ≡ take (1 + p) (b ∷ s) ∷ levels (drop (1 + p + 1) (b ∷ s))
later b s p ih =
    let e : 1 + p ≡ suc p = omega arith in
    let f : suc p + 1 ≡ suc (p + 1) = omega arith in
    rw e (rw f (rw ih refl))

cut_here : (b : ℕ) (s : List ℕ) (t : Bool) → nat_eq b 47 ≡ t
    → (position_or_len (λ b. nat_eq b 47) s < length s → levels s ≡ before_first (λ b. nat_eq b 47) s ∷ levels (after_first (λ b. nat_eq b 47) s))
    → position_or_len (λ b. nat_eq b 47) (b ∷ s) < length (b ∷ s) → levels (b ∷ s) ≡ before_first (λ b. nat_eq b 47) (b ∷ s) ∷ levels (after_first (λ b. nat_eq b 47) (b ∷ s))
cut_here b s true e ih h = rw e refl
cut_here b s false e ih h =
    let g : 1 + position_or_len (λ b. nat_eq b 47) s < length (b ∷ s) = (rw e at h) in
    rw e (later b s (position_or_len (λ b. nat_eq b 47) s) (ih (omega arith)))

pub levels-cut : (s : List ℕ) → position_or_len (λ b. nat_eq b 47) s < length s → levels s ≡ before_first (λ b. nat_eq b 47) s ∷ levels (after_first (λ b. nat_eq b 47) s)
levels-cut [] h = absurd (omega arith)
levels-cut (b ∷ s) h = cut_here b s (nat_eq b 47) refl (levels-cut s) h

whole_here : (b : ℕ) (s : List ℕ) (t : Bool) → nat_eq b 47 ≡ t → (position_or_len (λ b. nat_eq b 47) s ≡ length s → levels s ≡ s ∷ [])
    → position_or_len (λ b. nat_eq b 47) (b ∷ s) ≡ length (b ∷ s) → levels (b ∷ s) ≡ (b ∷ s) ∷ []
whole_here b s true e ih h = let g : 0 ≡ length (b ∷ s) = (rw e at h) in absurd (omega arith)
whole_here b s false e ih h =
    let g : 1 + position_or_len (λ b. nat_eq b 47) s ≡ length (b ∷ s) = (rw e at h) in
    rw e (ap (widened b) (ih (omega arith)))

pub levels-whole : (s : List ℕ) → position_or_len (λ b. nat_eq b 47) s ≡ length s → levels s ≡ s ∷ []
levels-whole [] h = refl
levels-whole (b ∷ s) h = whole_here b s (nat_eq b 47) refl (levels-whole s) h

slash_here : (b : ℕ) (s : List ℕ) (t : Bool) → nat_eq b 47 ≡ t → (position_or_len (λ b. nat_eq b 47) s < length s → get_or s (position_or_len (λ b. nat_eq b 47) s) 0 ≡ 47)
    → position_or_len (λ b. nat_eq b 47) (b ∷ s) < length (b ∷ s) → get_or (b ∷ s) (position_or_len (λ b. nat_eq b 47) (b ∷ s)) 0 ≡ 47
slash_here b s true e ih h = rw e (eqb-true b 47 e)
slash_here b s false e ih h =
    let g : 1 + position_or_len (λ b. nat_eq b 47) s < length (b ∷ s) = (rw e at h) in
    let f : 1 + position_or_len (λ b. nat_eq b 47) s ≡ suc (position_or_len (λ b. nat_eq b 47) s) = omega arith in
    rw e (rw f (ih (omega arith)))

-- a slash stands at the first place of one
pub slash_there : (s : List ℕ) → position_or_len (λ b. nat_eq b 47) s < length s → get_or s (position_or_len (λ b. nat_eq b 47) s) 0 ≡ 47
slash_there [] h = absurd (omega arith)
slash_there (b ∷ s) h = slash_here b s (nat_eq b 47) refl (slash_there s) h

-- a text has a level
not_empty : (t : Bool) (b : ℕ) (ls : List (List ℕ)) → is_empty ls ≡ false → is_empty (cond t ([] ∷ ls) (widened b ls)) ≡ false
not_empty true b ls h = refl
not_empty false b [] h = refl
not_empty false b (l ∷ ls) h = refl

pub is_empty-levels : (s : List ℕ) → is_empty (levels s) ≡ false
is_empty-levels [] = refl
is_empty-levels (b ∷ s) = not_empty (nat_eq b 47) b (levels s) (is_empty-levels s)

-- nothing is left exactly where no level is left
pub is_empty-levels_left : (o : Option (Bor (List ℕ))) (b : Bool) → is_some o ≡ not b → b ≡ is_empty (levels_left (option_map (λ rest. rest.now) o))
is_empty-levels_left None true h = refl
is_empty-levels_left None false h = cc
is_empty-levels_left (Some rest) true h = cc
is_empty-levels_left (Some rest) false h = sym (is_empty-levels rest.now)

-- ---- levels that are joined by slashes are read again

join_here : (b : ℕ) (ls : List (List ℕ)) → joined (widened b ls) ≡ b ∷ joined ls
join_here b [] = refl
join_here b (l ∷ []) = refl
join_here b (l ∷ m ∷ ls) = refl

join_empty : (ls : List (List ℕ)) → is_empty ls ≡ false → joined ([] ∷ ls) ≡ 47 ∷ joined ls
join_empty [] h = cc
join_empty (l ∷ ls) h = refl

again : (b : ℕ) (s : List ℕ) (t : Bool) → nat_eq b 47 ≡ t → joined (levels s) ≡ s → joined (levels (b ∷ s)) ≡ b ∷ s
again b s true e ih = rw e (join_empty (levels s) (is_empty-levels s) ∙ ap (λ r. 47 ∷ r) ih ∙ ap (λ x. x ∷ s) (sym (eqb-true b 47 e)))
again b s false e ih = rw e (join_here b (levels s) ∙ ap (λ r. b ∷ r) ih)

pub joined-levels : (s : List ℕ) → joined (levels s) ≡ s
joined-levels [] = refl
joined-levels (b ∷ s) = again b s (nat_eq b 47) refl (joined-levels s)

-- two texts with the same levels are one
pub same_levels : (a b : List ℕ) → levels a ≡ levels b → a ≡ b
same_levels a b e = sym (joined-levels a) ∙ ap joined e ∙ joined-levels b

front_byte : (b : ℕ) (t : Bool) (l : List ℕ) (ls : List (List ℕ)) (s : List ℕ) → nat_eq b 47 ≡ t → (t || holds 47 l) ≡ false
    → (holds 47 l ≡ false → levels (l ++ s) ≡ l ∷ ls) → levels (b ∷ (l ++ s)) ≡ (b ∷ l) ∷ ls
front_byte b true l ls s e h ih = cc
front_byte b false l ls s e h ih = rw e (ap (widened b) (ih h))

first_or : (t : Bool) (l : List ℕ) (b : ℕ) → nat_eq b 47 ≡ t → holds 47 (b ∷ l) ≡ false → (t || holds 47 l) ≡ false
first_or t l b e h = rw (← e) h

-- a level without a slash in front of a slash, or at the end
level_first : (l : List ℕ) (ls : List (List ℕ)) (s : List ℕ) → holds 47 l ≡ false → levels s ≡ [] ∷ ls → levels (l ++ s) ≡ l ∷ ls
level_first [] ls s h e = e
level_first (b ∷ l) ls s h e = front_byte b (nat_eq b 47) l ls s refl (first_or (nat_eq b 47) l b refl h) (λ k. level_first l ls s k e)

at_end : (l : List ℕ) → l ++ [] ≡ l
at_end l = grind (arith, common_steps)

pub levels-joined : (l : List ℕ) (ls : List (List ℕ)) → holds 47 l ≡ false → list_all (λ m. not (holds 47 m)) ls ≡ true → levels (joined (l ∷ ls)) ≡ l ∷ ls
levels-joined l [] h k = ap levels (sym (at_end l)) ∙ level_first l [] [] h refl
levels-joined l (m ∷ ls) h k = level_first l (m ∷ ls) (47 ∷ joined (m ∷ ls)) h (ap (λ r. [] ∷ r) (levels-joined m ls (not_true _ (and_parts _ _ k).0) (and_parts _ _ k).1))

-- ---- where levels begin in a text

levels_slash : (b : ℕ) (bs : List ℕ) → nat_eq b 47 ≡ true → levels (b ∷ bs) ≡ [] ∷ levels bs
levels_slash b bs e = rw e refl

levels_other : (b : ℕ) (bs : List ℕ) → nat_eq b 47 ≡ false → levels (b ∷ bs) ≡ widened b (levels bs)
levels_other b bs e = rw e refl

-- the bytes of levels, each with a slash behind it
abbrev pub skip : List (List ℕ) → ℕ
skip [] = 0
skip (level ∷ rest) = suc (length level + skip rest)

skip-widened : (b : ℕ) (ls : List (List ℕ)) → is_empty ls ≡ false → skip (widened b ls) ≡ suc (skip ls)
skip-widened b [] h = cc
skip-widened b (l ∷ ls) h = omega arith

skip-empty : (ls : List (List ℕ)) → skip ([] ∷ ls) ≡ suc (skip ls)
skip-empty ls = omega arith

pub skip-levels : (s : List ℕ) → skip (levels s) ≡ suc (length s)
skip-levels [] = refl
skip-levels (b ∷ s) = side (nat_eq b 47) refl (skip-levels s)
  where
    side : (t : Bool) → nat_eq b 47 ≡ t → skip (levels s) ≡ suc (length s) → skip (levels (b ∷ s)) ≡ suc (length (b ∷ s))
    side true e ih = ap skip (levels_slash b s e) ∙ skip-empty (levels s) ∙ ap suc ih
    side false e ih = ap skip (levels_other b s e) ∙ skip-widened b (levels s) (is_empty-levels s) ∙ ap suc ih

-- the text may be cut there: it ends, or a slash follows, and then the other levels
pub record IsCutAt (text : List ℕ) (at : ℕ) (more : List (List ℕ)) : Type 0 where
  pub behind : levels (drop at text) ≡ [] ∷ more
  pub within : at ≤ length text

cut_nothing : (a : List (List ℕ)) (level : List ℕ) (more : List (List ℕ)) → [] ∷ [] ≡ a ++ level ∷ more → IsCutAt [] (skip a + length level) more
cut_nothing [] level more e =
    let none : [] ≡ level = cc in
    let last : [] ≡ more = cc in
    subst (λ (l : List ℕ). IsCutAt [] (0 + length l) more) none (record { behind = ap (λ ms. [] ∷ ms) last; within = omega arith })
cut_nothing (l ∷ []) level more e = cc
cut_nothing (l ∷ k ∷ ls) level more e = cc

abbrev CutsAll : List ℕ → Type 0
CutsAll s = (a : List (List ℕ)) (level : List ℕ) (more : List (List ℕ)) → levels s ≡ a ++ level ∷ more → IsCutAt s (skip a + length level) more

-- one byte more in front
cut_later : (b : ℕ) (s : List ℕ) (at next : ℕ) (more : List (List ℕ)) → next ≡ suc at → IsCutAt s at more → IsCutAt (b ∷ s) next more
cut_later b s at next more e h =
    subst (λ k. IsCutAt (b ∷ s) k more) (sym e) (record { behind = h.behind; within = let w = h.within in omega (arith, w) })

cut_slash : (b : ℕ) (s : List ℕ) → nat_eq b 47 ≡ true → CutsAll s → (a : List (List ℕ)) (level : List ℕ) (more : List (List ℕ)) → [] ∷ levels s ≡ a ++ level ∷ more → IsCutAt (b ∷ s) (skip a + length level) more
cut_slash b s t ih [] level more e =
    let none : [] ≡ level = cc in
    let rest : levels s ≡ more = cc in
    subst (λ (l : List ℕ). IsCutAt (b ∷ s) (0 + length l) more) none (record { behind = levels_slash b s t ∙ ap (λ ms. [] ∷ ms) rest; within = omega arith })
cut_slash b s t ih (l ∷ a) level more e =
    let none : [] ≡ l = cc in
    let rest : levels s ≡ a ++ level ∷ more = cc in
    cut_later b s (skip a + length level) (skip (l ∷ a) + length level) more (let len : 0 ≡ length l = ap length none in omega (arith, len)) (ih a level more rest)

cut_other : (b : ℕ) (s : List ℕ) (ls : List (List ℕ)) → CutsAll s → levels s ≡ ls → (a : List (List ℕ)) (level : List ℕ) (more : List (List ℕ)) → widened b ls ≡ a ++ level ∷ more → IsCutAt (b ∷ s) (skip a + length level) more
cut_other b s [] ih is a level more e =
    let none : is_empty (levels s) ≡ true = ap is_empty is in
    let some : is_empty (levels s) ≡ false = is_empty-levels s in
    let no : true ≡ false = sym none ∙ some in
    cc
cut_other b s (x ∷ xs) ih is [] level more e =
    let first : b ∷ x ≡ level = cc in
    let rest : xs ≡ more = cc in
    cut_later b s (0 + length x) (0 + length level) more (let len : suc (length x) ≡ length level = ap length first in omega (arith, len)) (ih [] x more (is ∙ ap (λ ms. x ∷ ms) rest))
cut_other b s (x ∷ xs) ih is (l ∷ a) level more e =
    let first : b ∷ x ≡ l = cc in
    let rest : xs ≡ a ++ level ∷ more = cc in
    cut_later b s (skip (x ∷ a) + length level) (skip (l ∷ a) + length level) more (let len : suc (length x) ≡ length l = ap length first in omega (arith, len)) (ih (x ∷ a) level more (is ∙ ap (λ ms. x ∷ ms) rest))

pub cut_behind : (s : List ℕ) → CutsAll s
cut_behind [] a level more e = cut_nothing a level more e
cut_behind (b ∷ s) a level more e = side (nat_eq b 47) refl (cut_behind s)
  where
    side : (t : Bool) → nat_eq b 47 ≡ t → CutsAll s → IsCutAt (b ∷ s) (skip a + length level) more
    side true t ih = cut_slash b s t ih a level more (sym (levels_slash b s t) ∙ e)
    side false t ih = cut_other b s (levels s) ih refl a level more (sym (levels_other b s t) ∙ e)

-- a text whose first level is empty is empty, or begins with a slash
first_byte : (b : ℕ) (s : List ℕ) (ls more : List (List ℕ)) → levels s ≡ ls → widened b ls ≡ [] ∷ more → ⊥
first_byte b s [] more is e = cc
first_byte b s (x ∷ xs) more is e = cc

pub empty_first : (s : List ℕ) (more : List (List ℕ)) → levels s ≡ [] ∷ more → (k : ℕ) → k < length s → k ≡ 0 → get_or s k 0 ≡ 47
empty_first [] more e k within at = absurd (omega (arith, within))
empty_first (b ∷ s) more e k within at = ap (λ i. get_or (b ∷ s) i 0) at ∙ side (nat_eq b 47) refl
  where
    side : (t : Bool) → nat_eq b 47 ≡ t → b ≡ 47
    side true t = eqb-true b 47 t
    side false t = absurd (first_byte b s (levels s) more refl (sym (levels_other b s t) ∙ e))

-- ---- a text before a slash, and behind it

behind_widened : (b : ℕ) (ls ks : List (List ℕ)) → is_empty ls ≡ false → widened b (ls ++ ks) ≡ widened b ls ++ ks
behind_widened b [] ks h = cc
behind_widened b (l ∷ ls) ks h = refl

pub levels-slash : (s r : List ℕ) → levels (s ++ 47 ∷ r) ≡ levels s ++ levels r
levels-slash [] r = refl
levels-slash (b ∷ s) r = side (nat_eq b 47) refl (levels-slash s r)
  where
    side : (t : Bool) → nat_eq b 47 ≡ t → levels (s ++ 47 ∷ r) ≡ levels s ++ levels r → levels (b ∷ (s ++ 47 ∷ r)) ≡ levels (b ∷ s) ++ levels r
    side true t ih = levels_slash b (s ++ 47 ∷ r) t ∙ ap (λ ms. [] ∷ ms) ih ∙ ap (λ ms. ms ++ levels r) (sym (levels_slash b s t))
    side false t ih =
        levels_other b (s ++ 47 ∷ r) t ∙ ap (widened b) ih ∙ behind_widened b (levels s) (levels r) (is_empty-levels s) ∙ ap (λ ms. ms ++ levels r) (sym (levels_other b s t))

-- levels before others, joined
pub joined-append : (a b : List (List ℕ)) → is_empty a ≡ false → is_empty b ≡ false → joined (a ++ b) ≡ joined a ++ 47 ∷ joined b
joined-append [] b h k = cc
joined-append (l ∷ []) [] h k = cc
joined-append (l ∷ []) (m ∷ b) h k = refl
joined-append (l ∷ m ∷ a) b h k = ap (λ r. l ++ 47 ∷ r) (joined-append (m ∷ a) b refl k) ∙ sym (append_assoc l (47 ∷ joined (m ∷ a)) (47 ∷ joined b))

-- what is in front of the levels that are left
pub in_front : (s r : List ℕ) (front : List (List ℕ)) → is_empty front ≡ false → levels s ≡ front ++ levels r → s ≡ joined front ++ 47 ∷ r
in_front s r front h e = sym (joined-levels s) ∙ ap joined e ∙ joined-append front (levels r) h (is_empty-levels r) ∙ ap (λ t. joined front ++ 47 ∷ t) (joined-levels r)

pub same_front : (a b c : List (List ℕ)) → a ++ c ≡ b ++ c → a ≡ b
same_front [] [] c e = refl
same_front [] (y ∷ b) c e = absurd (omega (arith, ap length e, length-append b c))
same_front (x ∷ a) [] c e = absurd (omega (arith, ap length e, length-append a c))
same_front (x ∷ a) (y ∷ b) c e =
    let first : x ≡ y = cc in
    let rest : a ++ c ≡ b ++ c = cc in
    let same : a ≡ b = same_front a b c rest in
    cc

-- the place of a slash
at_seam : (j r : List ℕ) → get_or (j ++ 47 ∷ r) (length j) 0 ≡ 47
at_seam [] r = refl
at_seam (b ∷ j) r = at_seam j r

pub seam_len : (s j r : List ℕ) → s ≡ j ++ 47 ∷ r → length s ≡ length j + (length r + 1)
seam_len s j r e = omega (arith, ap length e, length-append j (47 ∷ r))

pub seam_cut : (s j r : List ℕ) (k : ℕ) → s ≡ j ++ 47 ∷ r → k ≡ length j → IsCharBoundary s k
seam_cut s j r k e at =
    let len = seam_len s j r e in
    let byte : get_or s k 0 ≡ 47 = ap (λ t. get_or t k 0) e ∙ ap (λ i. get_or (j ++ 47 ∷ r) i 0) at ∙ at_seam j r in
    IsCharBoundary-before_ascii s k (omega (arith, len, at)) (omega (arith, byte))

pub seam_front : (j r : List ℕ) → take (length j) (j ++ r) ≡ j
seam_front [] r = refl
seam_front (b ∷ j) r = ap (λ t. b ∷ t) (seam_front j r)

pub not_empty_is : (a : List (List ℕ)) → (a ≡ [] → ⊥) → is_empty a ≡ false
not_empty_is [] h = absurd (h refl)
not_empty_is (l ∷ a) h = refl

get_drop : (s : List ℕ) (k : ℕ) → get_or (drop k s) 0 0 ≡ get_or s k 0
get_drop [] k = grind (arith, common_steps)
get_drop (b ∷ s) zero = refl
get_drop (b ∷ s) (suc k) = get_drop s k

pub cut_boundary : (s : List ℕ) (k : ℕ) (more : List (List ℕ)) → IsCutAt s k more → IsCharBoundary s k
cut_boundary s k more h = (h.within, λ inside. byte inside)
  where
    first : k < length s → get_or s k 0 ≡ 47
    first inside = sym (get_drop s k) ∙ empty_first (drop k s) more h.behind 0 (omega (arith, inside, length-drop k s)) refl

    byte : k < length s → 128 ≤ slice_index s k → 192 ≤ slice_index s k
    byte inside high = let f = first inside in (IsCharBoundary-before_ascii s k inside (omega (arith, f))).1 inside high
