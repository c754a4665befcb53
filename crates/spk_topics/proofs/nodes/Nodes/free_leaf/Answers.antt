use Rattle.std.proofs.Common.{◌≡◌, ◌<◌, arith, get_or, length, [], Some}
use Rattle.std.specs.Prelude.{slice_get}
use Rattle.std.specs.String.{string_bytes}
use Rattle.std.proofs.lemmas.List.{length-map}
use Rattle.std.proofs.lemmas.Option.{slice_get-get_or}
use Rattle.spk_topics.specs.Nodes.{child_of, edge_of, link_of, links_of, next_unused_of, row_of, rows_of, up_of}
use Rattle.spk_topics.specs.Rows.{Row}
use Rattle.spk_topics.proofs.WholeChanges.{freed_keeps, freed_stays, on_within, whole_freed}
use Rattle.spk_topics.proofs.nodes.Nodes.free_leaf.Goals as goal

pub drop_child-requires : goal.drop_child-requires
drop_child-requires c =
    let old = c.args.self.now in
    let here = c.is_leaf.ensures.within c.if-not-is_leaf.false in
    let rooted : 0 < length (links_of old) = omega (arith, here, old.list.ok.0, length-map old.list.items link_of) in
    let on = c.requires.sound.tree.hangs c.in_ok-edge.edge.parent (string_bytes c.in_ok-edge.edge.level) c.args.number c.in_ok-edge.ensures.edge in
    let within : c.in_ok-edge.edge.parent < length (links_of old) = on_within (links_of old) c.in_ok-edge.edge.parent on rooted in
    omega (arith, within, c.free.ensures.len, old.list.ok.0, length-map old.list.items link_of)

pub returns-clause-whole : goal.returns-clause-whole
returns-clause-whole c =
    let old = c.args.self.now in
    let f = c.free.new.self in
    let d = c.drop_child.new.self in
    let here = c.is_leaf.ensures.within c.if-not-is_leaf.false in
    let inside : c.args.number < length (rows_of old) = omega (arith, here, old.list.ok.0, length-map old.list.items row_of) in
    whole_freed (rows_of old) (rows_of f) (rows_of d) (child_of old) (child_of f) (child_of d) (up_of old) (up_of f) (up_of d) (next_unused_of old) (next_unused_of f) (next_unused_of d) old.unused f.unused d.unused
    c.args.number (edge_of c.in_ok-edge.edge) c.as_str.result.now c.requires (c.is_leaf.ensures.leaf c.if-not-is_leaf.false) c.in_ok-edge.ensures.edge inside
    c.in_ok-edge.ensures.rows c.in_ok-edge.ensures.child c.in_ok-edge.ensures.up c.in_ok-edge.ensures.next c.in_ok-edge.ensures.first
    c.drop_child.ensures.rows c.drop_child.ensures.up c.drop_child.ensures.next c.drop_child.ensures.unused c.as_str.ensures.value c.drop_child.ensures.child

pub returns-clause-stays : goal.returns-clause-stays
returns-clause-stays c =
    let old = c.args.self.now in
    let f = c.free.new.self in
    let d = c.drop_child.new.self in
    let here = c.is_leaf.ensures.within c.if-not-is_leaf.false in
    let inside : c.args.number < length (rows_of old) = omega (arith, here, old.list.ok.0, length-map old.list.items row_of) in
    freed_stays (rows_of old) (rows_of f) (rows_of d) (child_of old) (child_of f) (child_of d) (up_of old) (up_of f) (up_of d) (next_unused_of old) (next_unused_of f) (next_unused_of d) old.unused f.unused d.unused
    c.args.number (edge_of c.in_ok-edge.edge) c.as_str.result.now c.requires (c.is_leaf.ensures.leaf c.if-not-is_leaf.false) c.in_ok-edge.ensures.edge inside
    c.in_ok-edge.ensures.rows c.in_ok-edge.ensures.child c.in_ok-edge.ensures.up c.in_ok-edge.ensures.next c.in_ok-edge.ensures.first
    c.drop_child.ensures.rows c.drop_child.ensures.up c.drop_child.ensures.next c.drop_child.ensures.unused c.as_str.ensures.value c.drop_child.ensures.child

pub returns-clause-keeps : goal.returns-clause-keeps
returns-clause-keeps c =
    let old = c.args.self.now in
    let f = c.free.new.self in
    let d = c.drop_child.new.self in
    let here = c.is_leaf.ensures.within c.if-not-is_leaf.false in
    let inside : c.args.number < length (rows_of old) = omega (arith, here, old.list.ok.0, length-map old.list.items row_of) in
    let nothing : Row = ([], []) in
    let there : slice_get (rows_of old) c.args.number ≡ Some (get_or (rows_of old) c.args.number nothing) = slice_get-get_or (rows_of old) c.args.number nothing inside in
    freed_keeps (rows_of old) (rows_of f) (rows_of d) (child_of old) (child_of f) (child_of d) (up_of old) (up_of f) (up_of d) (next_unused_of old) (next_unused_of f) (next_unused_of d) old.unused f.unused d.unused
    c.args.number (edge_of c.in_ok-edge.edge) c.as_str.result.now c.requires (c.is_leaf.ensures.leaf c.if-not-is_leaf.false) c.in_ok-edge.ensures.edge inside
    c.in_ok-edge.ensures.rows c.in_ok-edge.ensures.child c.in_ok-edge.ensures.up c.in_ok-edge.ensures.next c.in_ok-edge.ensures.first
    c.drop_child.ensures.rows c.drop_child.ensures.up c.drop_child.ensures.next c.drop_child.ensures.unused c.as_str.ensures.value c.drop_child.ensures.child
    (get_or (rows_of old) c.args.number nothing) there
