use Rattle.std.proofs.Common.{◌≡◌, ◌∙◌, ◌+◌, ◌++◌, ◌∷◌, ◌<◌, [], List, ℕ, Some, arith, ap, drop, length, refl, subst, sym}
use Rattle.std.specs.Prelude.{slice_get}
use Rattle.std.specs.Option.{option_map}
use Rattle.std.specs.Str.{IsCharBoundary}
use Rattle.std.proofs.lemmas.List.{length-map}
use Rattle.std.proofs.lemmas.Option.{slice_get_read}
use Rattle.spk_topics.specs.declared.node.Node.{Node}
use Rattle.spk_topics.specs.declared.nodes.Nodes.{Nodes}
use Rattle.spk_topics.specs.Edges.{IsTreeIn}
use Rattle.spk_topics.specs.Levels.{levels, levels_left}
use Rattle.spk_topics.specs.Nodes.{child_of, link_of, links_of, row_of, rows_of, up_of}
use Rattle.spk_topics.specs.Paths.{path, path_end}
use Rattle.spk_topics.proofs.EdgeLemmas.{row_at, up_within}
use Rattle.spk_topics.proofs.LevelLemmas.{cut_boundary}
use Rattle.spk_topics.proofs.WholeChanges.{Cut, edge_cut}
use Rattle.spk_topics.proofs.nodes.Nodes.left_of.Goals as goal

module _ (nodes : Nodes) (n : ℕ) (level : List ℕ) (m : ℕ) (t : IsTreeIn nodes) (edge : child_of nodes n level ≡ Some m) where
  within : m < length (links_of nodes)
  within = up_within (links_of nodes) m (n, level) (t.above n level m edge)

  inside : m < length nodes.list.items
  inside = omega (arith, within, length-map nodes.list.items link_of)

  cut_of : (node : Node) → slice_get nodes.list.items m ≡ Some node → Cut (rows_of nodes) n level m (row_of node).0
  cut_of node at = edge_cut (rows_of nodes) (child_of nodes) (up_of nodes) n level m (row_of node) t edge (row_at nodes.list.items m node at)

pub index-requires : goal.index-requires
index-requires c = let h = inside c.args.self.now c.args.number c.args.level.now c.args.child c.requires.tree c.requires.leads in omega (arith, h, c.args.self.now.list.ok.0)

pub overflow_add-from : goal.overflow_add-from
overflow_add-from c =
    let items = c.args.self.now.list.items in
    let h = inside c.args.self.now c.args.number c.args.level.now c.args.child c.requires.tree c.requires.leads in
    let node = c.index.result.now in
    let at : slice_get items c.args.child ≡ Some node = slice_get_read items (length items) c.args.child node refl h c.index.ensures in
    let cut = cut_of c.args.self.now c.args.number c.args.level.now c.args.child c.requires.tree c.requires.leads node at in
    let fits = cut.cut.within in
    let len = ap length c.as_str-path.ensures.value in
    omega (arith, fits, len, c.end_of.ensures, c.as_str-path.type_inv.0)

same_rest : (a b : List ℕ) (x y : List (List ℕ)) → a ∷ x ≡ b ∷ y → x ≡ y
same_rest a b x y h = cc

pub range_from-requires : goal.range_from-requires
range_from-requires c = λ _.
    let items = c.args.self.now.list.items in
    let h = inside c.args.self.now c.args.number c.args.level.now c.args.child c.requires.tree c.requires.leads in
    let node = c.index.result.now in
    let at : slice_get items c.args.child ≡ Some node = slice_get_read items (length items) c.args.child node refl h c.index.ensures in
    let cut = cut_of c.args.self.now c.args.number c.args.level.now c.args.child c.requires.tree c.requires.leads node at in
    subst (λ k. IsCharBoundary c.as_str-path.result.now (k + length c.args.level.now)) (sym c.end_of.ensures)
    (subst (λ s. IsCharBoundary s (path_end (rows_of c.args.self.now) c.args.number + length c.args.level.now)) (sym c.as_str-path.ensures.value) (cut_boundary (row_of node).0 _ cut.more cut.cut))

pub returns : goal.returns
returns c =
    let items = c.args.self.now.list.items in
    let h = inside c.args.self.now c.args.number c.args.level.now c.args.child c.requires.tree c.requires.leads in
    let node = c.index.result.now in
    let at : slice_get items c.args.child ≡ Some node = slice_get_read items (length items) c.args.child node refl h c.index.ensures in
    let cut = cut_of c.args.self.now c.args.number c.args.level.now c.args.child c.requires.tree c.requires.leads node at in
    let text : c.range_from.result.now ≡ drop (path_end (rows_of c.args.self.now) c.args.number + length c.args.level.now) (row_of node).0 =
    c.range_from.ensures.value ∙ ap (drop (c.end_of.result + length c.args.level.now)) c.as_str-path.ensures.value ∙ ap (λ k. drop (k + length c.args.level.now) (row_of node).0) c.end_of.ensures in
    cut.is ∙ ap (λ ms. path (rows_of c.args.self.now) c.args.number ++ c.args.level.now ∷ ms)
    (same_rest [] c.cut.result.0.now cut.more (levels_left (option_map (λ left. left.now) c.cut.result.1)) (sym cut.cut.behind ∙ ap levels (sym text) ∙ c.cut.ensures.levels))
