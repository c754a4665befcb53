-- Where levels lead in a tree of levels.
use Rattle.std.proofs.Common.{◌≡◌, ◌<◌, ℕ, zero, suc, List, [], ◌∷◌, ◌++◌, false, true, refl, ap, sym, ◌∙◌, inl, inr, arith, Option, Some, None, length, append_assoc}
use Rattle.std.specs.Prelude.{option_and_then, nat_eq}
use Rattle.std.proofs.lemmas.Bool.Decides.{nat_tests}
use Rattle.std.proofs.Common.{length-append}
use Rattle.spk_topics.specs.Levels.{IsParted, is_empty}
use Rattle.spk_topics.specs.Rows.{Row}
use Rattle.spk_topics.specs.Paths.{Child, Up, IsOn, IsTree, path}
use Rattle.spk_topics.specs.Whole.{descend}

pub one : {A : Type 0} (x y : A) → Some x ≡ Some y → x ≡ y
one x y h = cc

pub none_some : (x : ℕ) → None ≡ Some x → ⊥
none_some x h = cc

pub none_edge : (e : ℕ × List ℕ) → None ≡ Some e → ⊥
none_edge e h = cc

pub nat_self : (n : ℕ) → nat_eq n n ≡ true
nat_self n = grind (arith, nat_tests)

-- ---- lists of levels

abbrev Levels : Type 0
Levels = List (List ℕ)

pub same_first : (a b : List ℕ) (x y : Levels) → a ∷ x ≡ b ∷ y → a ≡ b
same_first a b x y h = cc

same_rest : (a b : List ℕ) (x y : Levels) → a ∷ x ≡ b ∷ y → x ≡ y
same_rest a b x y h = cc

pub same_behind : (a x y : Levels) → a ++ x ≡ a ++ y → x ≡ y
same_behind [] x y h = h
same_behind (l ∷ a) x y h = same_behind a x y (same_rest l l (a ++ x) (a ++ y) h)

pub longer : (a b : Levels) (l : List ℕ) (x : Levels) → b ≡ a ++ l ∷ x → length a < length b
longer a b l x e = omega (arith, ap length e, length-append a (l ∷ x))

pub to_end : (a : Levels) → a ++ [] ≡ a
to_end [] = refl
to_end (x ∷ a) = ap (λ r. x ∷ r) (to_end a)

-- a path that goes on by other levels than what is left is no beginning of the whole
pub parted_stops : (a : Levels) (level : List ℕ) (own_all rest own left more : Levels) → IsParted own_all rest own left → is_empty own ≡ false → (a ++ level ∷ own_all) ++ more ≡ a ++ level ∷ rest → ⊥
parted_stops a level own_all rest [] left more p some e = cc
parted_stops a level own_all rest (x ∷ own) left more p some e =
    let one : level ∷ (own_all ++ more) ≡ level ∷ rest = same_behind a (level ∷ (own_all ++ more)) (level ∷ rest) (sym (append_assoc a (level ∷ own_all) more) ∙ e) in
    let two : own_all ++ more ≡ rest = same_rest level level (own_all ++ more) rest one in
    let three : p.common ++ (x ∷ own ++ more) ≡ p.common ++ left = sym (append_assoc p.common (x ∷ own) more) ∙ ap (λ y. y ++ more) (sym p.one_is) ∙ two ∙ p.other_is in
    p.apart x own (own ++ more) refl (sym (same_behind p.common (x ∷ (own ++ more)) left three))

-- ---- the first edge, and those after it

-- what a first edge that leads somewhere leads to
pub record First (child : Child) (n : ℕ) (level : List ℕ) (rest : List (List ℕ)) (i : ℕ) : Type 0 where
  pub node : ℕ
  pub edge : child n level ≡ Some node
  pub leads : descend child node rest ≡ Some i

first_of : (child : Child) (n : ℕ) (level : List ℕ) (rest : List (List ℕ)) (i : ℕ) (o : Option ℕ) → child n level ≡ o → option_and_then (λ m. descend child m rest) o ≡ Some i → First child n level rest i
first_of child n level rest i None e h = cc
first_of child n level rest i (Some m) e h = record { node = m; edge = e; leads = h }

pub first_level : (child : Child) (n : ℕ) (level : List ℕ) (rest : List (List ℕ)) (i : ℕ) → descend child n (level ∷ rest) ≡ Some i → First child n level rest i
first_level child n level rest i h = first_of child n level rest i (child n level) refl h

pub through : (child : Child) (n : ℕ) (level : List ℕ) (rest : List (List ℕ)) (m i : ℕ) → child n level ≡ Some m → descend child m rest ≡ Some i → descend child n (level ∷ rest) ≡ Some i
through child n level rest m i e h = ap (λ o. option_and_then (λ x. descend child x rest) o) e ∙ h

-- one edge more at the end
pub descend-push : (child : Child) (n : ℕ) (front : List (List ℕ)) (level : List ℕ) (m i : ℕ) → descend child n front ≡ Some m → child m level ≡ Some i → descend child n (front ++ level ∷ []) ≡ Some i
descend-push child n [] level m i h e = through child n level [] i i (ap (λ x. child x level) (one n m h) ∙ e) refl
descend-push child n (l ∷ ls) level m i h e =
    let f : First child n l ls m = first_level child n l ls m h in
    through child n l (ls ++ level ∷ []) f.node i f.edge (descend-push child f.node ls level m i f.leads e)

-- ---- in a tree

-- where the way to a node goes on from another one
pub record Below (rows : List Row) (child : Child) (n : ℕ) (level : List ℕ) (i : ℕ) : Type 0 where
  pub node : ℕ
  pub edge : child n level ≡ Some node
  pub rest : Levels
  pub leads : path rows i ≡ path rows node ++ rest

module _ (rows : List Row) (child : Child) (up : Up) (t : IsTree rows child up) where
  -- edges lead from the root to each node that is on the tree
  reach : (k n : ℕ) → length (path rows n) < k → IsOn up n → (ls : Levels) × (descend child 0 ls ≡ Some n)
  reach zero n h on = absurd (omega arith)
  reach (suc k) n h (inl z) = ([], ap (λ x. Some x) (sym z))
  reach (suc k) n h (inr (edge, e)) =
      let (more, is) = t.spelled edge.0 edge.1 n e in
      let near : length (path rows edge.0) < length (path rows n) = longer (path rows edge.0) (path rows n) edge.1 more is in
      let (ls, leads) = reach k edge.0 (omega (arith, near, h)) (t.hangs edge.0 edge.1 n e) in
      (ls ++ edge.1 ∷ [], descend-push child 0 ls edge.1 edge.0 n leads (t.below edge.0 edge.1 n e))

  pub reached : (n : ℕ) → IsOn up n → (ls : Levels) × (descend child 0 ls ≡ Some n)
  reached n on = reach (suc (length (path rows n))) n (omega arith) on

  -- the way goes on behind the path of each node that it passes
  begins : (c : ℕ) (ls : Levels) (n : ℕ) → descend child c ls ≡ Some n → (rest : Levels) × (path rows n ≡ path rows c ++ rest)
  begins c [] n h = ([], ap (path rows) (sym (one c n h)) ∙ sym (to_end (path rows c)))
  begins c (l ∷ ls) n h =
      let f : First child c l ls n = first_level child c l ls n h in
      let (more, is) = t.spelled c l f.node (t.above c l f.node f.edge) in
      let (rest, e) = begins f.node ls n f.leads in
      (l ∷ (more ++ rest), e ∙ ap (λ x. x ++ rest) is ∙ append_assoc (path rows c) (l ∷ more) rest)

  begins_by : (c : ℕ) (l : List ℕ) (m : ℕ) (ls : Levels) (n : ℕ) → child c l ≡ Some m → descend child m ls ≡ Some n → (rest : Levels) × (path rows n ≡ path rows c ++ l ∷ rest)
  begins_by c l m ls n edge leads =
      let (more, is) = t.spelled c l m (t.above c l m edge) in
      let (rest, e) = begins m ls n leads in
      (more ++ rest, e ∙ ap (λ x. x ++ rest) is ∙ append_assoc (path rows c) (l ∷ more) rest)

  apart_ways : (c : ℕ) (a b : List ℕ) (x y : Levels) → path rows c ++ a ∷ x ≡ path rows c ++ b ∷ y → a ≡ b
  apart_ways c a b x y h = same_first a b x y (same_behind (path rows c) (a ∷ x) (b ∷ y) h)

  one_child : (c : ℕ) (a b : List ℕ) (x y : ℕ) → a ≡ b → child c a ≡ Some x → child c b ≡ Some y → x ≡ y
  one_child c a b x y same e f = one x y (sym e ∙ ap (child c) same ∙ f)

  meet : (v w : Levels) (c n i : ℕ) (l : List ℕ) (tail : Levels) → descend child c v ≡ Some n → descend child c w ≡ Some i → path rows i ≡ path rows n ++ l ∷ tail → Below rows child n l i
  meet [] [] c n i l tail hn hi e =
      let same : path rows n ≡ path rows i = ap (path rows) (sym (one c n hn) ∙ one c i hi) in
      let less = longer (path rows n) (path rows i) l tail e in
      absurd (omega (arith, less, ap length same))
  meet [] (b ∷ w) c n i l tail hn hi e =
      let at : c ≡ n = one c n hn in
      let f : First child c b w i = first_level child c b w i hi in
      let (more, is) = t.spelled c b f.node (t.above c b f.node f.edge) in
      let (rest, behind) = begins f.node w i f.leads in
      let whole : path rows i ≡ path rows c ++ b ∷ (more ++ rest) = behind ∙ ap (λ x. x ++ rest) is ∙ append_assoc (path rows c) (b ∷ more) rest in
      let same : b ≡ l = apart_ways c b l (more ++ rest) tail (sym whole ∙ e ∙ ap (λ x. path rows x ++ l ∷ tail) (sym at)) in
      record { node = f.node; edge = ap (λ x. child x l) (sym at) ∙ ap (child c) (sym same) ∙ f.edge; rest = rest; leads = behind }
  meet (a ∷ v) [] c n i l tail hn hi e =
      let f : First child c a v n = first_level child c a v n hn in
      let (more, is) = begins_by c a f.node v n f.edge f.leads in
      let one_less = longer (path rows c) (path rows n) a more is in
      let less = longer (path rows n) (path rows i) l tail e in
      absurd (omega (arith, less, one_less, ap length (ap (path rows) (one c i hi))))
  meet (a ∷ v) (b ∷ w) c n i l tail hn hi e =
      let f : First child c a v n = first_level child c a v n hn in
      let g : First child c b w i = first_level child c b w i hi in
      let (m1, p1) = begins_by c a f.node v n f.edge f.leads in
      let (m2, p2) = begins_by c b g.node w i g.edge g.leads in
      let whole : path rows i ≡ path rows c ++ a ∷ (m1 ++ l ∷ tail) = e ∙ ap (λ x. x ++ l ∷ tail) p1 ∙ append_assoc (path rows c) (a ∷ m1) (l ∷ tail) in
      let same : a ≡ b = apart_ways c a b (m1 ++ l ∷ tail) m2 (sym whole ∙ p2) in
      let at : f.node ≡ g.node = one_child c a b f.node g.node same f.edge g.edge in
      meet v w f.node n i l tail f.leads (ap (λ x. descend child x w) at ∙ g.leads) e

  -- the node whose path goes on from that of another one by a level is below the child to which it leads
  pub next_below : (n i : ℕ) (l : List ℕ) (tail : Levels) → IsOn up n → IsOn up i → path rows i ≡ path rows n ++ l ∷ tail → Below rows child n l i
  next_below n i l tail n_on i_on e =
      let (v, hn) = reached n n_on in
      let (w, hi) = reached i i_on in
      meet v w 0 n i l tail hn hi e

  join : (v w : Levels) (c i j : ℕ) → descend child c v ≡ Some i → descend child c w ≡ Some j → path rows i ≡ path rows j → i ≡ j
  join [] [] c i j hi hj e = sym (one c i hi) ∙ one c j hj
  join [] (b ∷ w) c i j hi hj e =
      let f : First child c b w j = first_level child c b w j hj in
      let (more, is) = begins_by c b f.node w j f.edge f.leads in
      let less = longer (path rows c) (path rows j) b more is in
      absurd (omega (arith, less, ap length e, ap length (ap (path rows) (one c i hi))))
  join (a ∷ v) [] c i j hi hj e =
      let f : First child c a v i = first_level child c a v i hi in
      let (more, is) = begins_by c a f.node v i f.edge f.leads in
      let less = longer (path rows c) (path rows i) a more is in
      absurd (omega (arith, less, ap length e, ap length (ap (path rows) (one c j hj))))
  join (a ∷ v) (b ∷ w) c i j hi hj e =
      let f : First child c a v i = first_level child c a v i hi in
      let g : First child c b w j = first_level child c b w j hj in
      let (m1, p1) = begins_by c a f.node v i f.edge f.leads in
      let (m2, p2) = begins_by c b g.node w j g.edge g.leads in
      let same : a ≡ b = apart_ways c a b m1 m2 (sym p1 ∙ e ∙ p2) in
      let at : f.node ≡ g.node = one_child c a b f.node g.node same f.edge g.edge in
      join v w f.node i j f.leads (ap (λ x. descend child x w) at ∙ g.leads) e

  -- two nodes with one path are one
  pub one_node : (i j : ℕ) → IsOn up i → IsOn up j → path rows i ≡ path rows j → i ≡ j
  one_node i j i_on j_on e =
      let (v, hi) = reached i i_on in
      let (w, hj) = reached j j_on in
      join v w 0 i j hi hj e
