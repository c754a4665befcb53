-- How each change of a tree of levels keeps it whole.
use Rattle.std.proofs.Common.{◌≡◌, ◌⊎◌, ◌<◌, ◌++◌, ◌+◌, ℕ, zero, suc, List, [], ◌∷◌, false, true, refl, ap, sym, ◌∙◌, subst, inl, inr, arith, cond, Option, Some, None, length, set}
use Rattle.std.specs.Prelude.{slice_get, ◌&&◌}
use Rattle.std.specs.Str.{bytes_eq}
use Rattle.std.specs.Option.{option_map_or}
use Rattle.std.proofs.lemmas.List.{length-set}
use Rattle.std.proofs.lemmas.Option.{slice_get-get_or}
use Rattle.std.proofs.Common.{get_or}
use Rattle.spk_topics.specs.Edges.{DropsChildren, IsJoint, IsLeaf, IsMore, IsSeat, Keeps, SetsChild, SetsNext, SetsUp, Stays, Stops}
use Rattle.spk_topics.specs.Levels.{is_empty, levels}
use Rattle.spk_topics.specs.Parting.{only_to}
use Rattle.spk_topics.specs.Paths.{Child, GoesOn, IsOn, IsTree, Link, Next, Up, child_in, next_in, path, path_end, text_in, up_in}
use Rattle.spk_topics.specs.Rows.{Absent, IsPlace, Only, Row, SetsRow, grants_of}
use Rattle.spk_topics.specs.Unused.{AreEmpty, IsUnused}
use Rattle.spk_topics.specs.Whole.{HasGrants, HasTwo, IsNeeded, Sound, Whole, WholeBut}
use Rattle.spk_topics.proofs.ChangeLemmas.{get_here, keeps_same, keeps_set, path_after, path_push, set_there, up_here, up_there}
use Rattle.spk_topics.proofs.EdgeLemmas.{no_link, child_push, up_push, up_past, up_within, next_push, next_past}
use Rattle.spk_topics.proofs.LevelLemmas.{IsCutAt, cut_behind, is_empty-levels, same_levels, skip, skip-levels}
use Rattle.spk_topics.proofs.ListLemmas.{AreApart, absent_push, grants_push}
use Rattle.spk_topics.proofs.PathLemmas.{Below, nat_self, next_below, none_edge, none_some, one_node, to_end}
use Rattle.spk_topics.proofs.TreeLemmas.{above_on, freed_tree, joined_tree, leaf_tree, m_apart, on_not, split_tree}
use Rattle.spk_topics.proofs.UnusedLemmas.{empty_after, empty_freed, empty_hung, empty_pushed, empty_turned, first_unused, unused_freed, unused_linked, unused_planted, unused_pushed, unused_same, unused_turned}
use Rattle.spk_topics.proofs.WholeLemmas.{get_push, pruned_but, pruned_done, pruned_filled, pruned_freed, pruned_joined, pruned_leaf, pruned_pushed, pruned_split, pruned_taken, stays_freed}

abbrev pub WholeIn : List Row → List Link → Option ℕ → Type 0
WholeIn rows links first = Whole rows (child_in links) (up_in links) (next_in links) first

abbrev pub WholeButIn : List Row → List Link → Option ℕ → ℕ → Type 0
WholeButIn rows links first at = WholeBut rows (child_in links) (up_in links) (next_in links) first at

-- ---- nothing changes

pub whole_same : (rows new : List Row) (links l : List Link) (first f : Option ℕ) → new ≡ rows → l ≡ links → f ≡ first → WholeIn rows links first → WholeIn new l f
whole_same rows new links l first f er el ef w =
    subst (λ (x : List Row). WholeIn x l f) (sym er) (subst (λ (x : List Link). WholeIn rows x f) (sym el) (subst (λ (x : Option ℕ). WholeIn rows links x) (sym ef) w))

pub whole_but_same : (rows new : List Row) (links l : List Link) (first f : Option ℕ) (at : ℕ) → new ≡ rows → l ≡ links → f ≡ first → WholeButIn rows links first at → WholeButIn new l f at
whole_but_same rows new links l first f at er el ef w =
    subst (λ (x : List Row). WholeButIn x l f at) (sym er) (subst (λ (x : List Link). WholeButIn rows x f at) (sym el) (subst (λ (x : Option ℕ). WholeButIn rows links x at) (sym ef) w))

pub whole_but : (rows : List Row) (child : Child) (up : Up) (next : Next) (first : Option ℕ) (n : ℕ) → Whole rows child up next first → WholeBut rows child up next first n
whole_but rows child up next first n w = record { sound = w.sound; pruned = pruned_but rows child up n w.pruned }

-- the node that was left out needs no exception
pub whole_done : (rows : List Row) (child : Child) (up : Up) (next : Next) (first : Option ℕ) (n : ℕ) → WholeBut rows child up next first n → (up n ≡ None) ⊎ IsNeeded rows child n → Whole rows child up next first
whole_done rows child up next first n w h = record { sound = w.sound; pruned = pruned_done rows child up n w.pruned h }

pub whole_at_root : (rows : List Row) (child : Child) (up : Up) (next : Next) (first : Option ℕ) → WholeBut rows child up next first 0 → Whole rows child up next first
whole_at_root rows child up next first w = whole_done rows child up next first 0 w (inl w.sound.tree.root)

-- a node that stays, and has no single child alone
pub whole_stays : (rows : List Row) (child : Child) (up : Up) (next : Next) (first : Option ℕ) (n : ℕ) → WholeBut rows child up next first n → Stays rows child up n
    → HasGrants rows n ⊎ (HasTwo (child n) ⊎ ((l : List ℕ) → child n l ≡ None)) → Whole rows child up next first
whole_stays rows child up next first n w stays h = whole_done rows child up next first n w (side h stays)
  where
    side : HasGrants rows n ⊎ (HasTwo (child n) ⊎ ((l : List ℕ) → child n l ≡ None)) → Stays rows child up n → (up n ≡ None) ⊎ IsNeeded rows child n
    side (inl g) s = inr (inl g)
    side (inr (inl two)) s = inr (inr two)
    side (inr (inr none)) (inl (inl g)) = inr (inl g)
    side (inr (inr none)) (inl (inr (l, m, is))) = absurd (none_some m (sym (none l) ∙ is))
    side (inr (inr none)) (inr off) = inl off

-- a node of a whole tree stays
pub stays_whole : (rows : List Row) (child : Child) (up : Up) (next : Next) (first : Option ℕ) (n : ℕ) → Whole rows child up next first → Stays rows child up n
stays_whole rows child up next first n w = side (up n) refl
  where
    by : IsNeeded rows child n → Stays rows child up n
    by (inl g) = inl (inl g)
    by (inr two) = inl (inr (two.one, two.one_node, two.one_leads))

    side : (o : Option (ℕ × List ℕ)) → up n ≡ o → Stays rows child up n
    side None none = inr none
    side (Some e) is = by (w.pruned n e is)

-- ---- the node of a filter

pub seat_there : (rows : List Row) (n : ℕ) (row : Row) → slice_get rows n ≡ Some row → text_in rows n ≡ row.0
seat_there rows n row h = ap (λ (o : Option Row). option_map_or (λ (r : Row). r.0) o []) h

pub seat_text : (rows : List Row) (up : Up) (f : List ℕ) (n : ℕ) → IsSeat rows up f n → text_in rows n ≡ f
seat_text rows up f n s = seat_there rows n s.row s.there ∙ s.text

pub path_hung : (rows : List Row) (child : Child) (up : Up) (n : ℕ) (e : ℕ × List ℕ) → IsTree rows child up → up n ≡ Some e → path rows n ≡ levels (text_in rows n)
path_hung rows child up zero e t h = absurd (none_edge e (sym t.root ∙ h))
path_hung rows child up (suc n) e t h = refl

-- a row without an edge to it has no grants
vacant_off : (rows : List Row) (up : Up) (n : ℕ) (row : Row) → AreEmpty rows up → slice_get rows n ≡ Some row → up n ≡ None → row.1 ≡ []
vacant_off rows up n row empty h none = ap (λ (r : Row). r.1) (empty n row h none)

-- no other row has grants of the filter of a node on the tree
pub only_here : (rows : List Row) (child : Child) (up : Up) (n : ℕ) (row : Row) (e : ℕ × List ℕ) → IsTree rows child up → AreEmpty rows up → slice_get rows n ≡ Some row → up n ≡ Some e → Only rows row.0 n
only_here rows child up n row e t empty h hung i r there same = side (up i) refl
  where
    side : (o : Option (ℕ × List ℕ)) → up i ≡ o → (r.1 ≡ []) ⊎ (i ≡ n)
    side None none = inl (vacant_off rows up i r empty there none)
    side (Some d) is =
        inr (one_node rows child up t i n (inr (d, is)) (inr (e, hung))
        (path_hung rows child up i d t is ∙ ap levels (seat_there rows i r there ∙ same ∙ sym (seat_there rows n row h)) ∙ sym (path_hung rows child up n e t hung)))

pub apart_of : (rows : List Row) (child : Child) (up : Up) → IsTree rows child up → AreEmpty rows up → AreApart rows
apart_of rows child up t empty i row h = side (up i) refl
  where
    side : (o : Option (ℕ × List ℕ)) → up i ≡ o → (row.1 ≡ []) ⊎ Only rows row.0 i
    side None none = inl (vacant_off rows up i row empty h none)
    side (Some e) is = inr (only_here rows child up i row e t empty h is)

pub seat_place : (rows : List Row) (child : Child) (up : Up) (f : List ℕ) (n : ℕ) → IsTree rows child up → AreEmpty rows up → IsSeat rows up f n → IsPlace rows (text_in rows n) n
seat_place rows child up f n t empty s = record {
  row = s.row;
  there = s.there;
  fits = inl (sym (seat_there rows n s.row s.there));
  only = subst (λ (g : List ℕ). Only rows g n) (sym (seat_there rows n s.row s.there)) (only_here rows child up n s.row s.edge t empty s.there s.hung);
}

-- a filter's levels lead as far as a node, and that is its own
pub seat_here : (rows : List Row) (child : Child) (up : Up) (f : List ℕ) (n : ℕ) → IsTree rows child up → IsOn up n → path rows n ≡ levels f → ((e : ℕ × List ℕ) → up n ≡ Some e → n < length rows) → IsSeat rows up f n
seat_here rows child up f n t (inl z) e within =
    let none : is_empty (levels f) ≡ true = ap is_empty (sym e ∙ ap (path rows) z) in
    let some : is_empty (levels f) ≡ false = is_empty-levels f in
    let no : true ≡ false = sym none ∙ some in
    cc
seat_here rows child up f n t (inr (edge, h)) e within =
    let nothing : Row = ([], []) in
    let there : slice_get rows n ≡ Some (get_or rows n nothing) = slice_get-get_or rows n nothing (within edge h) in
    record {
      row = get_or rows n nothing;
      edge = edge;
      there = there;
      text = same_levels _ f (ap levels (sym (seat_there rows n (get_or rows n nothing) there)) ∙ sym (path_hung rows child up n edge t h) ∙ e);
      hung = h;
    }

-- no row has grants of a filter whose levels stop before the end
pub absent_stopped : (rows : List Row) (child : Child) (up : Up) (f : List ℕ) (n : ℕ) (level : List ℕ) (rest : List (List ℕ)) → IsTree rows child up → AreEmpty rows up → IsOn up n → path rows n ++ level ∷ rest ≡ levels f
    → Stops rows child (levels f) n (level ∷ rest) → Absent rows f
absent_stopped rows child up f n level rest t empty on e stops i row there same = side (up i) refl
  where
    side : (o : Option (ℕ × List ℕ)) → up i ≡ o → row.1 ≡ []
    side None none = vacant_off rows up i row empty there none
    side (Some d) is =
        let whole : path rows i ≡ levels f = path_hung rows child up i d t is ∙ ap levels (seat_there rows i row there ∙ same) in
        let b : Below rows child n level i = next_below rows child up t n i level rest on (inr (d, is)) (whole ∙ sym e) in
        absurd (stops level rest b.rest b.node refl b.edge (sym b.leads ∙ whole))

pub absent_left : (rows : List Row) (child : Child) (up : Up) (f : List ℕ) (n : ℕ) (left : List (List ℕ)) → IsTree rows child up → AreEmpty rows up → IsOn up n → path rows n ++ left ≡ levels f → Stops rows child (levels f) n left → is_empty left ≡ false → Absent rows f
absent_left rows child up f n [] t empty on e stops some = cc
absent_left rows child up f n (level ∷ rest) t empty on e stops some = absent_stopped rows child up f n level rest t empty on e stops

-- nor of one whose levels lead to no row
pub absent_nowhere : (rows : List Row) (child : Child) (up : Up) (f : List ℕ) (n : ℕ) → IsTree rows child up → AreEmpty rows up → IsOn up n → path rows n ++ [] ≡ levels f → slice_get rows n ≡ None → Absent rows f
absent_nowhere rows child up f n t empty on e h i r there same = side (up i) refl
  where
    side : (o : Option (ℕ × List ℕ)) → up i ≡ o → r.1 ≡ []
    side None off = vacant_off rows up i r empty there off
    side (Some d) is =
        let at : i ≡ n = one_node rows child up t i n (inr (d, is)) on (path_hung rows child up i d t is ∙ ap levels (seat_there rows i r there ∙ same) ∙ sym e ∙ to_end (path rows n)) in
        let no : None ≡ Some r = sym h ∙ ap (slice_get rows) (sym at) ∙ there in
        cc

-- nor where the node that they lead to has none
pub absent_there : (rows : List Row) (child : Child) (up : Up) (f : List ℕ) (n : ℕ) (row : Row) → IsTree rows child up → AreEmpty rows up → IsOn up n → path rows n ++ [] ≡ levels f → slice_get rows n ≡ Some row → row.1 ≡ [] → Absent rows f
absent_there rows child up f n row t empty on e h none i r there same = side (up i) refl
  where
    here : i ≡ n → r.1 ≡ []
    here at = let both : Some r ≡ Some row = sym there ∙ ap (slice_get rows) at ∙ h in let is : r ≡ row = cc in ap (λ (x : Row). x.1) is ∙ none

    side : (o : Option (ℕ × List ℕ)) → up i ≡ o → r.1 ≡ []
    side None off = vacant_off rows up i r empty there off
    side (Some d) is =
        here (one_node rows child up t i n (inr (d, is)) on
        (path_hung rows child up i d t is ∙ ap levels (seat_there rows i r there ∙ same) ∙ sym e ∙ to_end (path rows n)))

-- where the levels of the edge to a child go on behind the first one
pub record Cut (rows : List Row) (n : ℕ) (level : List ℕ) (m : ℕ) (text : List ℕ) : Type 0 where
  pub more : List (List ℕ)
  pub is : path rows m ≡ path rows n ++ level ∷ more
  pub cut : IsCutAt text (path_end rows n + length level) more

end_skip : (rows : List Row) (n : ℕ) → path_end rows n ≡ skip (path rows n)
end_skip rows zero = refl
end_skip rows (suc n) = let h = skip-levels (text_in rows (suc n)) in omega (arith, h)

pub edge_cut : (rows : List Row) (child : Child) (up : Up) (n : ℕ) (level : List ℕ) (m : ℕ) (row : Row) → IsTree rows child up → child n level ≡ Some m → slice_get rows m ≡ Some row → Cut rows n level m row.0
edge_cut rows child up n level m row t edge there =
    let above = t.above n level m edge in
    let (more, is) = t.spelled n level m above in
    let text : levels row.0 ≡ path rows n ++ level ∷ more = ap levels (sym (seat_there rows m row there)) ∙ sym (path_hung rows child up m (n, level) t above) ∙ is in
    record {
      more = more;
      is = is;
      cut = subst (λ k. IsCutAt row.0 (k + length level) more) (sym (end_skip rows n)) (cut_behind row.0 (path rows n) level more text);
    }

-- ---- grants come and go

after_len : (rows new : List Row) (f : List ℕ) (n : ℕ) → SetsRow rows new f n → length new ≡ length rows
after_len rows new f n (inl same) = ap length same
after_len rows new f n (inr (es, same)) = ap length same ∙ length-set rows n (f, es)

goes_after : (rows new : List Row) (p : ℕ) (l : List ℕ) (n : ℕ) → ((x : ℕ) → path new x ≡ path rows x) → GoesOn rows p l n → GoesOn new p l n
goes_after rows new p l n same (more, is) = (more, same n ∙ is ∙ ap (λ x. x ++ l ∷ more) (sym (same p)))

tree_after : (rows new : List Row) (child : Child) (up : Up) → ((x : ℕ) → path new x ≡ path rows x) → IsTree rows child up → IsTree new child up
tree_after rows new child up same t = record {
  above = t.above;
  below = t.below;
  root = t.root;
  hangs = t.hangs;
  spelled = λ p l n h. goes_after rows new p l n same (t.spelled p l n h);
}

sound_after : (rows new : List Row) (child : Child) (up : Up) (next : Next) (first : Option ℕ) (n : ℕ) (e : ℕ × List ℕ) → up n ≡ Some e → SetsRow rows new (text_in rows n) n → Sound rows child up next first → Sound new child up next first
sound_after rows new child up next first n e edge s w = record {
  tree = tree_after rows new child up (λ x. path_after rows new n x s) w.tree;
  empty = empty_after rows new up (text_in rows n) n e w.empty edge s;
  unused = unused_same rows new up up next next first first w.unused (after_len rows new (text_in rows n) n s) refl refl refl;
}

pub whole_filled : (rows new : List Row) (links l : List Link) (first f : Option ℕ) (n : ℕ) (e : ℕ × List ℕ) → l ≡ links → f ≡ first → up_in links n ≡ Some e → SetsRow rows new (text_in rows n) n → HasGrants new n
    → WholeButIn rows links first n → WholeIn new l f
whole_filled rows new links l first f n e el ef edge s full w =
    whole_same new new links l first f refl el ef
    (record {
      sound = sound_after rows new (child_in links) (up_in links) (next_in links) first n e edge s w.sound;
      pruned = pruned_filled rows new (child_in links) (up_in links) (text_in rows n) n w.pruned s full;
    })

pub whole_taken : (rows new : List Row) (links l : List Link) (first f : Option ℕ) (n : ℕ) (e : ℕ × List ℕ) → l ≡ links → f ≡ first → up_in links n ≡ Some e → SetsRow rows new (text_in rows n) n → WholeIn rows links first → WholeButIn new l f n
whole_taken rows new links l first f n e el ef edge s w =
    whole_but_same new new links l first f n refl el ef
    (record {
      sound = sound_after rows new (child_in links) (up_in links) (next_in links) first n e edge s w.sound;
      pruned = pruned_taken rows new (child_in links) (up_in links) (text_in rows n) n w.pruned s;
    })

-- ---- a node more

tree_same : (rows r : List Row) (child c : Child) (up u : Up) → IsTree rows child up → r ≡ rows → c ≡ child → u ≡ up → IsTree r c u
tree_same rows r child c up u t er ec eu =
    subst (λ (x : List Row). IsTree x c u) (sym er) (subst (λ (x : Child). IsTree rows x u) (sym ec) (subst (λ (x : Up). IsTree rows child x) (sym eu) t))

module _ (rows r : List Row) (links l : List Link) (er : r ≡ rows ++ ([], []) ∷ []) (el : l ≡ links ++ no_link ∷ []) where
  pub pushed_child : child_in l ≡ child_in links
  pushed_child = ap child_in el ∙ child_push links

  pub pushed_up : up_in l ≡ up_in links
  pushed_up = ap up_in el ∙ up_push links

  pub pushed_next : next_in l ≡ next_in links
  pushed_next = ap next_in el ∙ next_push links

  pushed_tree : IsTree rows (child_in links) (up_in links) → IsTree r (child_in l) (up_in l)
  pushed_tree t = tree_same r r (child_in links) (child_in l) (up_in links) (up_in l) (tree_after rows r (child_in links) (up_in links) (λ x. path_push rows r x er) t) refl pushed_child pushed_up

  pushed_last : up_in l (length links) ≡ None
  pushed_last = ap (λ (u : Up). u (length links)) pushed_up ∙ up_past links

  pushed_names_none : next_in l (length links) ≡ None
  pushed_names_none = ap (λ (u : Next). u (length links)) pushed_next ∙ next_past links

-- the root
pub whole_planted : (rows new : List Row) (links l : List Link) (first f : Option ℕ) → new ≡ rows ++ ([], []) ∷ [] → l ≡ links ++ no_link ∷ [] → f ≡ first → length rows ≡ 0 → WholeIn rows links first → WholeIn new l f
whole_planted rows new links l first f er el ef none w =
    let same_up = pushed_up rows new links l er el in
    whole_at_root new (child_in l) (up_in l) (next_in l) f
    (record {
      sound = record {
        tree = pushed_tree rows new links l er el w.sound.tree;
        empty = empty_pushed rows new (up_in links) (up_in l) w.sound.empty er same_up;
        unused = unused_planted rows new ([], []) (up_in links) (up_in l) (next_in links) (next_in l) first f w.sound.unused none er same_up (pushed_next rows new links l er el) ef;
      };
      pruned = pruned_pushed rows new ([], []) (child_in links) (child_in l) (up_in links) (up_in l) 0 er (pushed_child rows new links l er el) same_up (pruned_but rows (child_in links) (up_in links) 0 w.pruned);
    })

-- the first unused one
pub whole_pushed : (rows new : List Row) (links l : List Link) (first f : Option ℕ) (at : ℕ) → new ≡ rows ++ ([], []) ∷ [] → l ≡ links ++ no_link ∷ [] → first ≡ None → 0 < length rows → length links ≡ length rows → f ≡ Some (length rows)
    → WholeButIn rows links first at → WholeButIn new l f at
whole_pushed rows new links l first f at er el none rooted len is w =
    let same_up = pushed_up rows new links l er el in
    record {
      sound = record {
        tree = pushed_tree rows new links l er el w.sound.tree;
        empty = empty_pushed rows new (up_in links) (up_in l) w.sound.empty er same_up;
        unused =
            unused_pushed rows new ([], []) (up_in links) (up_in l) (next_in links) (next_in l) first f w.sound.unused none rooted er same_up
            (ap (up_in l) (sym len) ∙ pushed_last rows new links l er el) (ap (next_in l) (sym len) ∙ pushed_names_none rows new links l er el) is;
      };
      pruned = pruned_pushed rows new ([], []) (child_in links) (child_in l) (up_in links) (up_in l) at er (pushed_child rows new links l er el) same_up w.pruned;
    }

-- what a row without text and grants leaves as it was

pub path_more : (rows new : List Row) (x : ℕ) → IsMore rows new → path new x ≡ path rows x
path_more rows new x (inl same) = ap (λ (r : List Row). path r x) same
path_more rows new x (inr more) = path_push rows new x more

pub keeps_with : (rows new : List Row) → IsMore rows new → Keeps rows new
keeps_with rows new (inl same) = keeps_same rows new same
keeps_with rows new (inr more) = record { same = ap grants_of more ∙ grants_push rows []; absent = λ f h. subst (λ (x : List Row). Absent x f) (sym more) (absent_push rows f [] h) }

grants_more : (rows new : List Row) (x : ℕ) → IsMore rows new → HasGrants rows x → HasGrants new x
grants_more rows new x (inl same) g = subst (λ (r : List Row). HasGrants r x) (sym same) g
grants_more rows new x (inr more) g = record { row = g.row; there = ap (λ (r : List Row). slice_get r x) more ∙ get_push rows ([], []) x g.row g.there; granted = g.granted }

pub stays_more : (rows new : List Row) (child c : Child) (up u : Up) (n : ℕ) → IsMore rows new → c ≡ child → u ≡ up → Stays rows child up n → Stays new c u n
stays_more rows new child c up u n more ec eu (inl (inl g)) = inl (inl (grants_more rows new n more g))
stays_more rows new child c up u n more ec eu (inl (inr (l, m, h))) = inl (inr (l, m, ap (λ (y : Child). y n l) ec ∙ h))
stays_more rows new child c up u n more ec eu (inr none) = inr (ap (λ (y : Up). y n) eu ∙ none)

-- a node on the tree is there
pub on_within : (links : List Link) (n : ℕ) → IsOn (up_in links) n → 0 < length links → n < length links
on_within links n (inl z) rooted = omega (arith, rooted, z)
on_within links n (inr (e, h)) rooted = up_within links n e h

-- ---- a leaf more

module _ (rows r2 r : List Row) (child c1 c : Child) (up u1 u : Up) (next x1 x : Next) (first f1 f : Option ℕ) (n : ℕ) (level : List ℕ) (m : ℕ) (text : List ℕ) (e : ℕ × List ℕ) (w : WholeBut rows child up next first n) (nowhere : child n level ≡ None)
    (on : IsOn up n) (stays : Stays rows child up n) (goes : (rest : List (List ℕ)) × (levels text ≡ path rows n ++ level ∷ rest))
    (is : first ≡ Some m) (s1 : SetsChild child c1 n level (Some m)) (eu : u1 ≡ up) (ec : c ≡ c1) (v1 : SetsUp u1 u m (Some e)) (ee : e ≡ (n, level)) (e2 : r2 ≡ rows) (er : r ≡ set r2 m (text, []))
    (en : x1 ≡ next) (t1 : SetsNext x1 x m None) (g : f ≡ x1 m) where
  leaf_free : IsUnused rows up m
  leaf_free = first_unused rows up next first m w.sound.unused is

  leaf_s : SetsChild child c n level (Some m)
  leaf_s = subst (λ (y : Child). SetsChild child y n level (Some m)) (sym ec) s1

  leaf_v : SetsUp up u m (Some (n, level))
  leaf_v = subst (λ (d : ℕ × List ℕ). SetsUp up u m (Some d)) ee (subst (λ (y : Up). SetsUp y u m (Some e)) eu v1)

  leaf_r : r ≡ set rows m (text, [])
  leaf_r = er ∙ ap (λ (y : List Row). set y m (text, [])) e2

  leaf_e : SetsUp up u m (Some e)
  leaf_e = subst (λ (y : Up). SetsUp y u m (Some e)) eu v1

  pub whole_leaf : WholeBut r c u x f m
  whole_leaf = record {
    sound = record {
      tree = leaf_tree rows r child c up u n level m text w.sound.tree nowhere leaf_free.0 leaf_free.2 on leaf_free.1 leaf_s leaf_v leaf_r goes;
      empty = empty_hung rows r up u m text e w.sound.empty leaf_e leaf_r;
      unused =
          unused_same rows r u u x x f f
          (unused_linked rows up u next x first f m e w.sound.unused is leaf_e (subst (λ (y : Next). SetsNext y x m None) en t1) (g ∙ ap (λ (y : Next). y m) en))
          (ap length leaf_r ∙ length-set rows m (text, [])) refl refl refl;
    };
    pruned = pruned_leaf rows r child c up u n level m text w.sound.tree nowhere leaf_free.0 leaf_free.2 on leaf_free.1 leaf_s leaf_v leaf_r goes w.pruned stays;
  }

  pub leaf_seat : IsSeat r u text m
  leaf_seat = record {
    row = (text, []);
    edge = e;
    there = ap (λ (y : List Row). slice_get y m) leaf_r ∙ get_here rows m (text, []) leaf_free.1;
    text = refl;
    hung = up_here up u m (Some e) leaf_e;
  }

-- the row of the first unused node
pub unused_row : (rows : List Row) (child : Child) (up : Up) (next : Next) (first : Option ℕ) (m : ℕ) → Sound rows child up next first → first ≡ Some m → slice_get rows m ≡ Some ([], [])
unused_row rows child up next first m w is =
    let free = first_unused rows up next first m w.unused is in
    let nothing : Row = ([], []) in
    let there : slice_get rows m ≡ Some (get_or rows m nothing) = slice_get-get_or rows m nothing free.1 in
    there ∙ ap (λ (y : Row). Some y) (w.empty m (get_or rows m nothing) there free.2)

pub keeps_hung : (rows r : List Row) (child : Child) (up : Up) (next : Next) (first : Option ℕ) (m : ℕ) (text : List ℕ) → Sound rows child up next first → first ≡ Some m → r ≡ set rows m (text, []) → Keeps rows r
keeps_hung rows r child up next first m text w is e = keeps_set rows r m text ([], []) (unused_row rows child up next first m w is) refl e

-- no level leads on from a node to which no edge leads, but from the root
pub childless : (rows : List Row) (child : Child) (up : Up) (s : ℕ) (l : List ℕ) → IsTree rows child up → IsUnused rows up s → child s l ≡ None
childless rows child up s l t free = side (child s l) refl
  where
    side : (o : Option ℕ) → child s l ≡ o → child s l ≡ None
    side None e = e
    side (Some x) e = absurd (on_not rows child up t s s None (above_on rows child up t s l x e) free.2 free.0 refl)

-- ---- a node in an edge

module _ (rows r3 r : List Row) (child c1 c2 c3 c : Child) (up u1 u2 u : Up) (next x1 x : Next) (first f1 f : Option ℕ) (n : ℕ) (level : List ℕ) (m s : ℕ) (key text : List ℕ) (low high : ℕ × List ℕ) (w : Whole rows child up next first)
    (leads : child n level ≡ Some m) (upper : (common : List (List ℕ)) × (levels text ≡ path rows n ++ level ∷ common)) (lower : (more : List (List ℕ)) × (path rows m ≡ levels text ++ key ∷ more))
    (is : first ≡ Some s) (e1 : c1 ≡ child) (s1 : SetsChild c1 c2 s key (Some m)) (s2 : SetsChild c2 c3 n level (Some s)) (e3 : c ≡ c3) (v1 : SetsUp up u1 m (Some low)) (el : low ≡ (s, key)) (eu : u2 ≡ u1) (v2 : SetsUp u2 u s (Some high))
    (was : up m ≡ Some high) (er3 : r3 ≡ rows) (er : r ≡ set r3 s (text, [])) (en : x1 ≡ next) (t1 : SetsNext x1 x s None) (g : f ≡ x1 s) where
  split_free : IsUnused rows up s
  split_free = first_unused rows up next first s w.sound.unused is

  split_s1 : SetsChild child c2 s key (Some m)
  split_s1 = subst (λ (y : Child). SetsChild y c2 s key (Some m)) e1 s1

  split_s2 : SetsChild c2 c n level (Some s)
  split_s2 = subst (λ (y : Child). SetsChild c2 y n level (Some s)) (sym e3) s2

  split_v1 : SetsUp up u1 m (Some (s, key))
  split_v1 = subst (λ (d : ℕ × List ℕ). SetsUp up u1 m (Some d)) el v1

  split_h : SetsUp u1 u s (Some high)
  split_h = subst (λ (y : Up). SetsUp y u s (Some high)) eu v2

  split_v2 : SetsUp u1 u s (Some (n, level))
  split_v2 = subst (λ (o : Option (ℕ × List ℕ)). SetsUp u1 u s o) (sym was ∙ w.sound.tree.above n level m leads) split_h

  split_r : r ≡ set rows s (text, [])
  split_r = er ∙ ap (λ (y : List Row). set y s (text, [])) er3

  pub whole_split : WholeBut r c u x f s
  whole_split = record {
    sound = record {
      tree = split_tree rows r child c2 c up u1 u n level m s key text w.sound.tree leads split_free.0 split_free.2 split_free.1 split_s1 split_s2 split_v1 split_v2 split_r upper lower;
      empty = empty_hung rows r u1 u s text high (empty_turned rows up u1 m low w.sound.empty v1) split_h split_r;
      unused =
          unused_same rows r u u x x f f
          (unused_linked rows u1 u next x first f s high (unused_turned rows up u1 next first m high low w.sound.unused was v1) is split_h (subst (λ (y : Next). SetsNext y x s None) en t1) (g ∙ ap (λ (y : Next). y s) en))
          (ap length split_r ∙ length-set rows s (text, [])) refl refl refl;
    };
    pruned = pruned_split rows r child c2 c up u1 u n level m s key text w.sound.tree leads split_free.0 split_free.2 split_free.1 split_s1 split_s2 split_v1 split_v2 split_r upper lower w.pruned;
  }

  split_on_n : IsOn up n
  split_on_n = w.sound.tree.hangs n level m (w.sound.tree.above n level m leads)

  pub split_leads : (l : List ℕ) → c s l ≡ only_to key m l
  split_leads l =
      set_there c2 c n level (Some s) s l split_s2 (λ a _. on_not rows child up w.sound.tree n s None split_on_n split_free.2 split_free.0 (sym a))
      ∙ split_s1 s l
      ∙ ap (λ b. cond (b && bytes_eq key l) (Some m) (child s l)) (nat_self s)
      ∙ ap (cond (bytes_eq key l) (Some m)) (childless rows child up s l w.sound.tree split_free)

  pub split_seat : IsSeat r u text s
  split_seat = record {
    row = (text, []);
    edge = high;
    there = ap (λ (y : List Row). slice_get y s) split_r ∙ get_here rows s (text, []) split_free.1;
    text = refl;
    hung = up_here u1 u s (Some high) split_h;
  }

-- ---- a leaf less

module _ (rows r1 r : List Row) (child c1 c : Child) (up u1 u : Up) (next x1 x : Next) (first f1 f : Option ℕ) (n : ℕ) (e : ℕ × List ℕ) (text : List ℕ) (w : WholeBut rows child up next first n) (leaf : IsLeaf rows child n)
    (edge : up n ≡ Some e) (inside : n < length rows) (e1 : r1 ≡ set rows n ([], [])) (d : DropsChildren child c1 n) (v : SetsUp up u1 n None) (t : SetsNext next x1 n first) (is : f1 ≡ Some n)
    (er : r ≡ r1) (eu : u ≡ u1) (en : x ≡ x1) (ef : f ≡ f1) (same : text ≡ e.1) (s : SetsChild c1 c e.0 text None) where
  freed_s : SetsChild c1 c e.0 e.1 None
  freed_s = subst (λ y. SetsChild c1 c e.0 y None) same s

  freed_v : SetsUp up u n None
  freed_v = subst (λ (y : Up). SetsUp up y n None) (sym eu) v

  freed_r : r ≡ set rows n ([], [])
  freed_r = er ∙ e1

  pub whole_freed : WholeBut r c u x f e.0
  whole_freed = record {
    sound = record {
      tree = freed_tree rows r child c1 c up u n e.0 e.1 w.sound.tree leaf edge d freed_s freed_v freed_r;
      empty = empty_freed rows r up u n w.sound.empty freed_v freed_r;
      unused =
          unused_freed rows r up u next x first f n e w.sound.unused edge (λ z. none_edge e (sym w.sound.tree.root ∙ ap up (sym z) ∙ edge)) inside (ap length freed_r ∙ length-set rows n ([], [])) freed_v
          (subst (λ (y : Next). SetsNext next y n first) (sym en) t) (ef ∙ is);
    };
    pruned = pruned_freed rows r child c1 c up u n e.0 e.1 w.sound.tree leaf edge d freed_s freed_v freed_r w.pruned;
  }

  pub freed_stays : Stays r c u e.0
  freed_stays = stays_freed rows r child c1 c up u n e.0 e.1 w.sound.tree leaf edge d freed_s freed_v freed_r w.pruned

  pub freed_keeps : (row : Row) → slice_get rows n ≡ Some row → Keeps rows r
  freed_keeps row h = keeps_set rows r n [] row h (leaf.vacant row h) freed_r

-- ---- a node less in an edge

module _ (rows r1 r2 r : List Row) (child c1 c2 c : Child) (up u1 u2 u : Up) (next x1 x2 x : Next) (first f1 f2 f : Option ℕ) (n m : ℕ) (e d0 : ℕ × List ℕ) (text : List ℕ) (w : WholeBut rows child up next first n) (joint : IsJoint rows child n m)
    (edge : up n ≡ Some e) (inside : n < length rows) (e1 : r1 ≡ set rows n ([], [])) (d : DropsChildren child c1 n) (v1 : SetsUp up u1 n None) (t : SetsNext next x1 n first) (is : f1 ≡ Some n)
    (er2 : r2 ≡ r1) (eu2 : u2 ≡ u1) (en2 : x2 ≡ x1) (ef2 : f2 ≡ f1) (same : text ≡ e.1) (s : SetsChild c1 c2 e.0 text (Some m))
    (er : r ≡ r2) (ec : c ≡ c2) (v2 : SetsUp u2 u m (Some d0)) (ed : d0 ≡ e) (en : x ≡ x2) (ef : f ≡ f2) where
  joined_s : SetsChild c1 c e.0 e.1 (Some m)
  joined_s = subst (λ (y : Child). SetsChild c1 y e.0 e.1 (Some m)) (sym ec) (subst (λ y. SetsChild c1 c2 e.0 y (Some m)) same s)

  joined_v : SetsUp u1 u m (Some e)
  joined_v = subst (λ (y : ℕ × List ℕ). SetsUp u1 u m (Some y)) ed (subst (λ (y : Up). SetsUp y u m (Some d0)) eu2 v2)

  joined_r : r ≡ set rows n ([], [])
  joined_r = er ∙ er2 ∙ e1

  joined_was : up m ≡ Some (n, joint.one.level)
  joined_was = w.sound.tree.above n joint.one.level m joint.one.leads

  pub whole_joined : Whole r c u x f
  whole_joined = record {
    sound = record {
      tree = joined_tree rows r child c1 c up u1 u n m e.0 e.1 w.sound.tree joint edge d joined_s v1 joined_v joined_r;
      empty = empty_turned r u1 u m e (empty_freed rows r up u1 n w.sound.empty v1 joined_r) joined_v;
      unused =
          unused_turned r u1 u x f m (n, joint.one.level) e
          (unused_freed rows r up u1 next x first f n e w.sound.unused edge (λ z. none_edge e (sym w.sound.tree.root ∙ ap up (sym z) ∙ edge)) inside (ap length joined_r ∙ length-set rows n ([], [])) v1
          (subst (λ (y : Next). SetsNext next y n first) (sym (en ∙ en2)) t) (ef ∙ ef2 ∙ is))
          (up_there up u1 n None m v1 (m_apart rows r child c1 c up u1 u n m e.0 e.1 w.sound.tree joint edge d joined_s v1 joined_v joined_r) ∙ joined_was)
          joined_v;
    };
    pruned = pruned_joined rows r child c1 c up u1 u n m e.0 e.1 w.sound.tree joint edge d joined_s v1 joined_v joined_r w.pruned;
  }

  pub joined_keeps : (row : Row) → slice_get rows n ≡ Some row → Keeps rows r
  joined_keeps row h = keeps_set rows r n [] row h (joint.vacant row h) joined_r

-- ---- no nodes at all

pub whole_new : (rows : List Row) (links : List Link) (first : Option ℕ) → rows ≡ [] → links ≡ [] → first ≡ None → WholeIn rows links first
whole_new rows links first er el ef = whole_same [] rows [] links None first er el ef start
  where
    start : WholeIn [] [] None
    start = record {
      sound = record {
        tree = record { above = λ p level n h. cc; below = λ p level n h. cc; root = refl; hangs = λ p level n h. cc; spelled = λ p level n h. cc };
        empty = λ n row h none. cc;
        unused = record { chain = []; linked = refl; exact = λ n. ((λ p. absurd (omega (arith, p.1))), (λ w. absurd (omega (arith, w.1)))) };
      };
      pruned = λ n e h. cc;
    }
