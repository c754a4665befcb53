-- A walk over a topic's levels passes each filter that fits them.
use Rattle.std.proofs.Common.{◌≡◌, ◌⊎◌, ℕ, zero, suc, List, [], ◌∷◌, ◌++◌, refl, ap, sym, ◌∙◌, subst, inl, inr, arith, Option, Some, None, get_or, append_assoc, length}
use Rattle.std.specs.Prelude.{slice_get, Contains}
use Rattle.std.specs.Ordering.{nat_cmp}
use Rattle.std.specs.BTreeMap as tree
use Rattle.std.proofs.lemmas.List.Elements.{Contains-append_left, Contains-append_right}
use Rattle.std.proofs.lemmas.Option.{slice_get-get_or, get_or_from_slice_get}
use Rattle.spk_topics.specs.Found.{Gathers}
use Rattle.spk_topics.specs.Levels.{levels}
use Rattle.spk_topics.specs.Matching.{Fits, Matches, StartsWithWildcard, BeginsWithDollar}
use Rattle.spk_topics.specs.Matching.Fits.{both_end, any_rest, any_level, same_level}
use Rattle.spk_topics.specs.Paths.{Child, IsOn, IsTree, Up, path}
use Rattle.spk_topics.specs.Reached.{Reached, HasLeast, FindsAll}
use Rattle.spk_topics.specs.Rows.{Row}
use Rattle.spk_topics.specs.Unused.{AreEmpty}
use Rattle.spk_topics.specs.declared.walk.Ahead.{Ahead}
use Rattle.spk_topics.specs.Walk.{Extends, Gains, Taken, IsAhead, IsOnTheWay, IsSettled, Way, front_of, way_of}
use Rattle.spk_topics.proofs.PathLemmas.{Below, next_below, one_node, same_behind, to_end}
use Rattle.spk_topics.proofs.RowLemmas.{held}
use Rattle.spk_topics.proofs.WholeChanges.{path_hung, seat_there}

one : (x y : ℕ) → Some x ≡ Some y → x ≡ y
one x y h = cc

same_row : (rows : List Row) (n : ℕ) (r s : Row) → slice_get rows n ≡ Some r → slice_get rows n ≡ Some s → r ≡ s
same_row rows n r s h k = let e : Some r ≡ Some s = sym h ∙ k in cc

-- ---- what is found

pub gains_more : (rows : List Row) (topic : List ℕ) (a b d : ℕ → Option ℕ) → Gains rows topic a b → Gains rows topic b d → Gains rows topic a d
gains_more rows topic a b d g h = record {
  sound = λ k q e. side k q (h.sound k q e);
  kept = λ k q e. h.kept k q (g.kept k q e);
}
  where
    side : (k q : ℕ) → (b k ≡ Some q) ⊎ Reached rows topic k q → (a k ≡ Some q) ⊎ Reached rows topic k q
    side k q (inl e) = g.sound k q e
    side k q (inr r) = inr r

pub taken_more : (rows : List Row) (topic : List ℕ) (a b : ℕ → Option ℕ) (o : Option ℕ) → Gains rows topic a b → Taken rows topic a o → Taken rows topic b o
taken_more rows topic a b o g t k q r e = g.kept k q (t k q r e)

-- the grants of a row that matches
module _ (rows : List Row) (topic : List ℕ) (n : ℕ) (row : Row) (m : tree.BTreeMap ℕ ℕ) (there : slice_get rows n ≡ Some row) (entries : m.entries ≡ row.1) (old new : ℕ → Option ℕ) where
  holds : (k q : ℕ) → tree.get nat_cmp m k ≡ Some q → Matches row.0 topic → Reached rows topic k q
  holds k q h fits = record { place = n; row = row; there = there; matching = fits; holds = subst (λ es. held es k ≡ Some q) entries h }

  pub gathered_gains : Matches row.0 topic → Gathers old new (tree.get nat_cmp m) → Gains rows topic old new
  gathered_gains fits g = record {
    sound = λ k q h. side k q (g.sound k q h);
    kept = λ k q h. let (best, is, le) = g.kept k h.0 h.1 in (best, is, omega (arith, h.2));
  }
    where
      side : (k q : ℕ) → (old k ≡ Some q) ⊎ (tree.get nat_cmp m k ≡ Some q) → (old k ≡ Some q) ⊎ Reached rows topic k q
      side k q (inl e) = inl e
      side k q (inr e) = inr (holds k q e fits)

  pub gathered_taken : Gathers old new (tree.get nat_cmp m) → Taken rows topic new (Some n)
  gathered_taken g k q r e =
      let same : r.row ≡ row = same_row rows n r.row row (ap (slice_get rows) (one n r.place e) ∙ r.there) there in
      g.taken k q (subst (λ es. held es k ≡ Some q) (ap (λ (x : Row). x.1) same ∙ sym entries) r.holds)

-- a row that doesn't match holds nothing for the topic
pub unmatched_taken : (rows : List Row) (topic : List ℕ) (n : ℕ) (row : Row) (found : ℕ → Option ℕ) → slice_get rows n ≡ Some row → (Matches row.0 topic → ⊥) → Taken rows topic found (Some n)
unmatched_taken rows topic n row found there misses k q r e =
    let same : r.row ≡ row = same_row rows n r.row row (ap (slice_get rows) (one n r.place e) ∙ r.there) there in
    absurd (misses (subst (λ (x : Row). Matches x.0 topic) same r.matching))

-- ---- a row that holds something is on the tree

pub none_held : (es : List (ℕ × ℕ)) (k q : ℕ) → held es k ≡ Some q → es ≡ [] → ⊥
none_held es k q h e = let empty : held es k ≡ None = ap (λ x. held x k) e in cc

module _ (rows : List Row) (topic : List ℕ) (child : Child) (up : Up) (t : IsTree rows child up) (empty : AreEmpty rows up) where
  hung : (k q : ℕ) (r : Reached rows topic k q) → (e : ℕ × List ℕ) × (up r.place ≡ Some e)
  hung k q r = side (up r.place) refl
    where
      side : (o : Option (ℕ × List ℕ)) → up r.place ≡ o → (e : ℕ × List ℕ) × (up r.place ≡ Some e)
      side None none = absurd (none_held r.row.1 k q r.holds (ap (λ (x : Row). x.1) (empty r.place r.row r.there none)))
      side (Some e) is = (e, is)

  pub reached_on : (k q : ℕ) (r : Reached rows topic k q) → IsOn up r.place
  reached_on k q r = inr (hung k q r)

  pub reached_path : (k q : ℕ) (r : Reached rows topic k q) → path rows r.place ≡ levels r.row.0
  reached_path k q r = let h = hung k q r in path_hung rows child up r.place h.0 t h.1 ∙ ap levels (seat_there rows r.place r.row r.there)

  -- ---- one level of the topic

  -- the node to which a level leads is appended
  abbrev pub IsEntered : ℕ → List ℕ → List Way → Type 0
  IsEntered n level next = (m : ℕ) → child n level ≡ Some m → (left : List (List ℕ)) × (path rows m ≡ path rows n ++ level ∷ left) × Contains next (m, left)

  pub entered : (n place : ℕ) (level : List ℕ) (f rest : List (List ℕ)) (next : List Way) → IsOn up n → IsOn up place → path rows place ≡ path rows n ++ level ∷ f → IsEntered n level next → Fits f rest → IsAhead rows up next rest place
  entered n place level f rest next n_on p_on e enter fits =
      let b : Below rows child n level place = next_below rows child up t n place level f n_on p_on e in
      let (left, is, among) = enter b.node b.edge in
      let whole : path rows n ++ level ∷ f ≡ path rows n ++ level ∷ (left ++ b.rest) = sym e ∙ b.leads ∙ ap (λ x. x ++ b.rest) is ∙ append_assoc (path rows n) (level ∷ left) b.rest in
      let both : level ∷ f ≡ level ∷ (left ++ b.rest) = same_behind (path rows n) (level ∷ f) (level ∷ (left ++ b.rest)) whole in
      let same : f ≡ left ++ b.rest = behind_same level f (left ++ b.rest) both in
      record { way = (b.node, left); more = b.rest; among = among; on = inr ((n, level), t.above n level b.node b.edge); leads = b.leads; fits = subst (λ ls. Fits ls rest) same fits }
    where
      behind_same : (l : List ℕ) (x y : List (List ℕ)) → l ∷ x ≡ l ∷ y → x ≡ y
      behind_same l x y h = cc

  -- a level that is the last one leads to the node
  last_node : (n place : ℕ) (level : List ℕ) → IsOn up n → IsOn up place → path rows place ≡ path rows n ++ level ∷ [] → child n level ≡ Some place
  last_node n place level n_on p_on e =
      let b : Below rows child n level place = next_below rows child up t n place level [] n_on p_on e in
      let (more, is) = t.spelled n level b.node (t.above n level b.node b.edge) in
      let whole : path rows n ++ level ∷ [] ≡ path rows n ++ level ∷ (more ++ b.rest) = sym e ∙ b.leads ∙ ap (λ x. x ++ b.rest) is ∙ append_assoc (path rows n) (level ∷ more) b.rest in
      let none : level ∷ [] ≡ level ∷ (more ++ b.rest) = same_behind (path rows n) (level ∷ []) (level ∷ (more ++ b.rest)) whole in
      let at : b.node ≡ place =
      one_node rows child up t b.node place (inr ((n, level), t.above n level b.node b.edge)) p_on (is ∙ ap (λ x. path rows n ++ level ∷ x) (no_more more b.rest level none) ∙ sym e) in
      b.edge ∙ ap (λ x. Some x) at
    where
      no_more : (x y : List (List ℕ)) (l : List ℕ) → l ∷ [] ≡ l ∷ (x ++ y) → x ≡ []
      no_more [] y l h = refl
      no_more (a ∷ x) y l h = cc

  -- from a node
  pub settled_from : (found : ℕ → Option ℕ) (next : List Way) (n : ℕ) (level : List ℕ) (rest : List (List ℕ)) → Taken rows topic found (child n (35 ∷ [])) → IsEntered n (43 ∷ []) next → IsEntered n level next
      → IsSettled rows topic up found next (n, []) (level ∷ rest) rest
  settled_from found next n level rest taken plus same k q r more on leads fits = side more (level ∷ rest) fits refl refl
    where
      place_on : IsOn up r.place
      place_on = reached_on k q r

      side : (ls left : List (List ℕ)) → Fits ls left → ls ≡ more → left ≡ level ∷ rest → HasLeast (found k) q ⊎ IsAhead rows up next rest r.place
      side _ _ both_end e h = cc
      side _ _ (any_rest x) e h = inl (taken k q r (last_node n r.place (35 ∷ []) on place_on (leads ∙ ap (λ y. path rows n ++ y) (sym e))))
      side _ _ (any_level l f x fit) e h =
          let tail : x ≡ rest = cc in
          inr (entered n r.place (43 ∷ []) f rest next on place_on (leads ∙ ap (λ y. path rows n ++ y) (sym e)) plus (subst (Fits f) tail fit))
      side _ _ (same_level l f x fit) e h =
          let tail : x ≡ rest = cc in
          let this : l ≡ level = cc in
          inr (entered n r.place level f rest next on place_on (leads ∙ ap (λ y. path rows n ++ y) (sym e) ∙ ap (λ y. path rows n ++ y ∷ f) this) same (subst (Fits f) tail fit))

  -- along the edge to a node
  pub settled_along : (found : ℕ → Option ℕ) (next : List Way) (n : ℕ) (own level : List ℕ) (own_rest rest : List (List ℕ)) → (own ≡ 35 ∷ [] → Taken rows topic found (Some n)) → ((own ≡ 43 ∷ []) ⊎ (own ≡ level) → Contains next (n, own_rest))
      → IsSettled rows topic up found next (n, own ∷ own_rest) (level ∷ rest) rest
  settled_along found next n own level own_rest rest hash goes k q r more on leads fits = side (own ∷ (own_rest ++ more)) (level ∷ rest) fits refl refl
    where
      here : own_rest ++ more ≡ [] → n ≡ r.place
      here e = one_node rows child up t n r.place on (reached_on k q r) (sym (leads ∙ ap (λ y. path rows n ++ y) (none own_rest more e) ∙ to_end (path rows n)))
        where
          none : (x y : List (List ℕ)) → x ++ y ≡ [] → y ≡ []
          none [] y h = h
          none (a ∷ x) y h = cc

      ahead : (own ≡ 43 ∷ []) ⊎ (own ≡ level) → (f : List (List ℕ)) → f ≡ own_rest ++ more → Fits f rest → IsAhead rows up next rest r.place
      ahead w f e fit = record { way = (n, own_rest); more = more; among = goes w; on = on; leads = leads; fits = subst (λ ls. Fits ls rest) e fit }

      side : (ls left : List (List ℕ)) → Fits ls left → ls ≡ own ∷ (own_rest ++ more) → left ≡ level ∷ rest → HasLeast (found k) q ⊎ IsAhead rows up next rest r.place
      side _ _ both_end e h = cc
      side _ _ (any_rest x) e h =
          let first : own ≡ 35 ∷ [] = cc in
          let last : own_rest ++ more ≡ [] = cc in
          inl (hash first k q r (ap (λ y. Some y) (here last)))
      side _ _ (any_level l f x fit) e h =
          let first : own ≡ 43 ∷ [] = cc in
          let same : f ≡ own_rest ++ more = cc in
          let tail : x ≡ rest = cc in
          inr (ahead (inl first) f same (subst (Fits f) tail fit))
      side _ _ (same_level l f x fit) e h =
          let this : l ≡ level = cc in
          let mine : l ≡ own = cc in
          let same : f ≡ own_rest ++ more = cc in
          let tail : x ≡ rest = cc in
          inr (ahead (inr (sym mine ∙ this)) f same (subst (Fits f) tail fit))

  -- ---- the end of the topic

  pub arrived : (old new : ℕ → Option ℕ) (front : List Way) → Gains rows topic old new
      → ((k : ℕ) (way : Way) → slice_get front k ≡ Some way → Taken rows topic new (Some way.0) × Taken rows topic new (child way.0 (35 ∷ [])))
      → IsOnTheWay rows topic up old front [] → (key qos : ℕ) → Reached rows topic key qos → HasLeast (new key) qos
  arrived old new front g taken way k q r = side (way k q r)
    where
      at_end : (n : ℕ) (left more : List (List ℕ)) → Taken rows topic new (Some n) × Taken rows topic new (child n (35 ∷ [])) → IsOn up n → path rows r.place ≡ path rows n ++ more → (ls topic_left : List (List ℕ)) → Fits ls topic_left → ls ≡ left ++ more → topic_left ≡ [] → HasLeast (new k) q
      at_end n left [] took on leads ls topic_left fit e h =
          took.0 k q r (ap (λ x. Some x) (one_node rows child up t n r.place on (reached_on k q r) (sym (leads ∙ to_end (path rows n)))))
      at_end n [] (m ∷ more) took on leads _ _ both_end e h = cc
      at_end n [] (m ∷ more) took on leads _ _ (any_rest x) e h =
          let hash : m ≡ 35 ∷ [] = cc in
          let last : more ≡ [] = cc in
          took.1 k q r (last_node n r.place (35 ∷ []) on (reached_on k q r) (leads ∙ ap (λ y. path rows n ++ y ∷ more) hash ∙ ap (λ y. path rows n ++ (35 ∷ []) ∷ y) last))
      at_end n [] (m ∷ more) took on leads _ _ (any_level l f x fit) e h = cc
      at_end n [] (m ∷ more) took on leads _ _ (same_level l f x fit) e h = cc
      at_end n (l ∷ left) (m ∷ more) took on leads _ _ both_end e h = cc
      at_end n (l ∷ []) (m ∷ more) took on leads _ _ (any_rest x) e h = cc
      at_end n (l ∷ i ∷ left) (m ∷ more) took on leads _ _ (any_rest x) e h = cc
      at_end n (l ∷ left) (m ∷ more) took on leads _ _ (any_level a f x fit) e h = cc
      at_end n (l ∷ left) (m ∷ more) took on leads _ _ (same_level a f x fit) e h = cc

      side : HasLeast (old k) q ⊎ IsAhead rows up front [] r.place → HasLeast (new k) q
      side (inl h) = g.kept k q h
      side (inr a) =
          let (i, within, is) = a.among in
          at_end a.way.0 a.way.1 a.more (taken i a.way (slice_get-get_or front i a.way within ∙ ap (λ x. Some x) is)) a.on a.leads (a.way.1 ++ a.more) [] a.fits refl refl

  -- ---- the beginning

  -- all levels are left, and the root is the front
  pub way_begun : (found : ℕ → Option ℕ) → IsOnTheWay rows topic up found ((0, []) ∷ []) (levels topic)
  way_begun found k q r = inr (record { way = (0, []); more = levels r.row.0; among = (0, omega arith, refl); on = inl refl; leads = reached_path k q r; fits = r.matching.fits })

  -- a topic that begins with `$`
  pub way_barred : (level : List ℕ) (rest : List (List ℕ)) (found : ℕ → Option ℕ) (next : List Way) → BeginsWithDollar topic → levels topic ≡ level ∷ rest → IsEntered 0 level next → IsOnTheWay rows topic up found next rest
  way_barred level rest found next dollar e enter k q r = inr (side (levels r.row.0) (levels topic) r.matching.fits refl e)
    where
      plain : StartsWithWildcard (levels r.row.0) → ⊥
      plain w = r.matching.allowed (w, dollar)

      side : (ls left : List (List ℕ)) → Fits ls left → ls ≡ levels r.row.0 → left ≡ level ∷ rest → IsAhead rows up next rest r.place
      side _ _ both_end is h = cc
      side _ _ (any_rest x) is h = absurd (plain (subst StartsWithWildcard is (inr refl)))
      side _ _ (any_level l f x fit) is h = absurd (plain (subst StartsWithWildcard is (inl refl)))
      side _ _ (same_level l f x fit) is h =
          let tail : x ≡ rest = cc in
          let this : l ≡ level = cc in
          entered 0 r.place level f rest next (inl refl) (reached_on k q r) (reached_path k q r ∙ sym is ∙ ap (λ y. y ∷ f) this) enter (subst (Fits f) tail fit)

-- ---- fronts

ahead_more : (rows : List Row) (up : Up) (next more : List Way) (rest : List (List ℕ)) (place : ℕ) → IsAhead rows up next rest place → IsAhead rows up (next ++ more) rest place
ahead_more rows up next more rest place a = record { way = a.way; more = a.more; among = Contains-append_left next more a.way a.among; on = a.on; leads = a.leads; fits = a.fits }

pub settled_more : (rows : List Row) (topic : List ℕ) (up : Up) (a b : ℕ → Option ℕ) (next more : List Way) (way : Way) (left rest : List (List ℕ)) → Gains rows topic a b
    → IsSettled rows topic up a next way left rest → IsSettled rows topic up b (next ++ more) way left rest
settled_more rows topic up a b next more way left rest g s k q r ls on e f = side (s k q r ls on e f)
  where
    side : HasLeast (a k) q ⊎ IsAhead rows up next rest r.place → HasLeast (b k) q ⊎ IsAhead rows up (next ++ more) rest r.place
    side (inl h) = inl (g.kept k q h)
    side (inr h) = inr (ahead_more rows up next more rest r.place h)

pub passed : (rows : List Row) (topic : List ℕ) (up : Up) (old new : ℕ → Option ℕ) (front next : List Way) (level : List ℕ) (rest : List (List ℕ)) → Gains rows topic old new
    → ((k : ℕ) (way : Way) → slice_get front k ≡ Some way → IsSettled rows topic up new next way (level ∷ rest) rest)
    → IsOnTheWay rows topic up old front (level ∷ rest) → IsOnTheWay rows topic up new next rest
passed rows topic up old new front next level rest g settled way k q r = side (way k q r)
  where
    side : HasLeast (old k) q ⊎ IsAhead rows up front (level ∷ rest) r.place → HasLeast (new k) q ⊎ IsAhead rows up next rest r.place
    side (inl h) = inl (g.kept k q h)
    side (inr a) =
        let (i, within, is) = a.among in
        settled i a.way (slice_get-get_or front i a.way within ∙ ap (λ x. Some x) is) k q r a.more a.on a.leads a.fits

pub only_one : {A : Type 0} (x : A) → Contains (x ∷ []) x
only_one x = (0, omega arith, refl)

-- ---- the whole walk

pub sound_more : (rows : List Row) (topic : List ℕ) (old new : ℕ → Option ℕ) → ((key qos : ℕ) → old key ≡ Some qos → Reached rows topic key qos) → Gains rows topic old new
    → (key qos : ℕ) → new key ≡ Some qos → Reached rows topic key qos
sound_more rows topic old new sound g k q e = side (g.sound k q e)
  where
    side : (old k ≡ Some q) ⊎ Reached rows topic k q → Reached rows topic k q
    side (inl h) = sound k q h
    side (inr r) = r

pub all_found : (rows : List Row) (topic : List ℕ) (old new : ℕ → Option ℕ) → ((key qos : ℕ) → old key ≡ Some qos → Reached rows topic key qos) → Gains rows topic old new
    → ((key qos : ℕ) → Reached rows topic key qos → HasLeast (new key) qos) → FindsAll rows topic new
all_found rows topic old new sound g all = record { sound = sound_more rows topic old new sound g; all = all }

-- without a front nothing is ahead: all that matches is found
pub nothing_ahead : (rows : List Row) (topic : List ℕ) (up : Up) (found : ℕ → Option ℕ) (front : List Ahead) (left : List (List ℕ)) → length front ≡ 0 → IsOnTheWay rows topic up found (front_of front) left
    → (key qos : ℕ) → Reached rows topic key qos → HasLeast (found key) qos
nothing_ahead rows topic up found [] left none way k q r = side (way k q r)
  where
    side : HasLeast (found k) q ⊎ IsAhead rows up [] left r.place → HasLeast (found k) q
    side (inl h) = h
    side (inr a) = absurd (omega (arith, a.among.1))
nothing_ahead rows topic up found (x ∷ xs) left none way k q r = absurd (omega (arith, none))

-- ---- nodes that are appended

front_more : (a b : List Ahead) → front_of (a ++ b) ≡ front_of a ++ front_of b
front_more [] b = refl
front_more (x ∷ a) b = ap (λ ws. way_of x ∷ ws) (front_more a b)

pub front_kept : (a b : List Ahead) (way : Way) → Extends a b → Contains (front_of a) way → Contains (front_of b) way
front_kept a b way (added, is) among =
    subst (λ ws. Contains ws way) (sym (ap front_of is ∙ front_more a added)) (Contains-append_left (front_of a) (front_of added) way among)

pub front_last : (a b : List Ahead) (x : Ahead) → b ≡ a ++ x ∷ [] → Contains (front_of b) (way_of x)
front_last a b x is = subst (λ ws. Contains ws (way_of x)) (sym (ap front_of is ∙ front_more a (x ∷ []))) (Contains-append_right (front_of a) (way_of x ∷ []) (way_of x) (only_one (way_of x)))

pub extends_more : (a b d : List Ahead) → Extends a b → Extends b d → Extends a d
extends_more a b d (x, is) (y, e) = (x ++ y, e ∙ ap (λ z. z ++ y) is ∙ append_assoc a x y)

pub settled_later : (rows : List Row) (topic : List ℕ) (up : Up) (a b : ℕ → Option ℕ) (next more : List Ahead) (way : Way) (left rest : List (List ℕ)) → Gains rows topic a b → Extends next more
    → IsSettled rows topic up a (front_of next) way left rest → IsSettled rows topic up b (front_of more) way left rest
settled_later rows topic up a b next more way left rest g (added, is) s =
    subst (λ ws. IsSettled rows topic up b ws way left rest) (sym (ap front_of is ∙ front_more next added)) (settled_more rows topic up a b (front_of next) (front_of added) way left rest g s)

-- the way of a place of the front
pub way_at : (front : List Ahead) (k : ℕ) (way : Way) → slice_get (front_of front) k ≡ Some way → (ahead : Ahead) × (slice_get front k ≡ Some ahead) × (way_of ahead ≡ way)
way_at [] k way h = cc
way_at (x ∷ front) zero way h = (x, refl, same (way_of x) way h)
  where
    same : (a b : Way) → Some a ≡ Some b → a ≡ b
    same a b e = cc
way_at (x ∷ front) (suc k) way h = way_at front k way h

pub this_ahead : (front : List Ahead) (k : ℕ) (ahead d : Ahead) → slice_get front k ≡ Some ahead → get_or front k d ≡ ahead
this_ahead front k ahead d h = get_or_from_slice_get front k ahead d h
