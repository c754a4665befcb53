use Rattle.std.proofs.Common.{◌≡◌, ◌<◌, ◌∙◌, Some, [], arith, ap, get_or, length, refl}
use Rattle.std.specs.Prelude.{slice_get}
use Rattle.std.specs.String.{string_bytes}
use Rattle.std.proofs.lemmas.List.{length-map}
use Rattle.std.proofs.lemmas.Option.{slice_get-get_or}
use Rattle.spk_topics.specs.Nodes.{child_of, edge_of, link_of, links_of, next_unused_of, row_of, rows_of, up_of}
use Rattle.spk_topics.specs.Rows.{Row}
use Rattle.spk_topics.proofs.ChangeLemmas.{drop_there}
use Rattle.spk_topics.proofs.EdgeLemmas.{up_within}
use Rattle.spk_topics.proofs.TreeLemmas.{apart}
use Rattle.spk_topics.proofs.WholeChanges.{joined_keeps, on_within, whole_joined, whole_stays}
use Rattle.spk_topics.proofs.nodes.Nodes.join.Goals as goal

pub returns-in_default-clause-whole : goal.returns-in_default-clause-whole
returns-in_default-clause-whole c =
    let old = c.args.self.now in
    whole_stays (rows_of old) (child_of old) (up_of old) (next_unused_of old) old.unused c.args.number c.requires.whole c.requires.stays c.in_default.ensures.needed

pub turn_child-requires-clause-within : goal.turn_child-requires-clause-within
turn_child-requires-clause-within c =
    let old = c.args.self.now in
    let here = c.in-Some.ensures.within in
    let rooted : 0 < length (links_of old) = omega (arith, here, old.list.ok.0, length-map old.list.items link_of) in
    let on = c.requires.whole.sound.tree.hangs c.in-Some-free.edge.parent (string_bytes c.in-Some-free.edge.level) c.args.number c.in-Some-free.ensures.edge in
    let within : c.in-Some-free.edge.parent < length (links_of old) = on_within (links_of old) c.in-Some-free.edge.parent on rooted in
    omega (arith, within, c.free.ensures.len, old.list.ok.0, length-map old.list.items link_of)

pub turn_child-requires-clause-leads : goal.turn_child-requires-clause-leads
turn_child-requires-clause-leads c =
    let old = c.args.self.now in
    let p = c.in-Some-free.edge.parent in
    let l = string_bytes c.in-Some-free.edge.level in
    let t = c.requires.whole.sound.tree in
    let off : p ≡ c.args.number → ⊥ = apart (rows_of old) p l c.args.number (t.spelled p l c.args.number c.in-Some-free.ensures.edge) in (
      c.args.number,
      ap (child_of c.free.new.self p) c.as_str.ensures.value ∙ drop_there (child_of old) (child_of c.free.new.self) c.args.number p l c.in-Some-free.ensures.child off ∙ t.below p l c.args.number c.in-Some-free.ensures.edge,
    )

pub turn_edge-requires : goal.turn_edge-requires
turn_edge-requires c =
    let old = c.args.self.now in
    let one = c.in-Some.ensures.joint.one in
    let within : c.in-Some.child < length (links_of old) = up_within (links_of old) c.in-Some.child (c.args.number, one.level) (c.requires.whole.sound.tree.above c.args.number one.level c.in-Some.child one.leads) in
    omega (arith, within, c.free.ensures.len, c.turn_child.ensures.len, old.list.ok.0, length-map old.list.items link_of)

pub returns-clause-whole : goal.returns-clause-whole
returns-clause-whole c =
    let old = c.args.self.now in
    let f = c.free.new.self in
    let s = c.turn_child.new.self in
    let e = c.turn_edge.new.self in
    let here = c.in-Some.ensures.within in
    let inside : c.args.number < length (rows_of old) = omega (arith, here, old.list.ok.0, length-map old.list.items row_of) in
    whole_joined (rows_of old) (rows_of f) (rows_of s) (rows_of e) (child_of old) (child_of f) (child_of s) (child_of e) (up_of old) (up_of f) (up_of s) (up_of e) (next_unused_of old) (next_unused_of f) (next_unused_of s) (next_unused_of e) old.unused f.unused s.unused e.unused
    c.args.number c.in-Some.child (edge_of c.in-Some-free.edge) (edge_of c.in-Some-free.edge) c.as_str.result.now c.requires.whole c.in-Some.ensures.joint c.in-Some-free.ensures.edge inside
    c.in-Some-free.ensures.rows c.in-Some-free.ensures.child c.in-Some-free.ensures.up c.in-Some-free.ensures.next c.in-Some-free.ensures.first
    c.turn_child.ensures.rows c.turn_child.ensures.up c.turn_child.ensures.next c.turn_child.ensures.unused c.as_str.ensures.value c.turn_child.ensures.child
    c.turn_edge.ensures.rows c.turn_edge.ensures.child c.turn_edge.ensures.up refl c.turn_edge.ensures.next c.turn_edge.ensures.unused

pub returns-clause-keeps : goal.returns-clause-keeps
returns-clause-keeps c =
    let old = c.args.self.now in
    let f = c.free.new.self in
    let s = c.turn_child.new.self in
    let e = c.turn_edge.new.self in
    let here = c.in-Some.ensures.within in
    let inside : c.args.number < length (rows_of old) = omega (arith, here, old.list.ok.0, length-map old.list.items row_of) in
    let nothing : Row = ([], []) in
    let there : slice_get (rows_of old) c.args.number ≡ Some (get_or (rows_of old) c.args.number nothing) = slice_get-get_or (rows_of old) c.args.number nothing inside in
    joined_keeps (rows_of old) (rows_of f) (rows_of s) (rows_of e) (child_of old) (child_of f) (child_of s) (child_of e) (up_of old) (up_of f) (up_of s) (up_of e) (next_unused_of old) (next_unused_of f) (next_unused_of s) (next_unused_of e) old.unused f.unused s.unused e.unused
    c.args.number c.in-Some.child (edge_of c.in-Some-free.edge) (edge_of c.in-Some-free.edge) c.as_str.result.now c.requires.whole c.in-Some.ensures.joint c.in-Some-free.ensures.edge inside
    c.in-Some-free.ensures.rows c.in-Some-free.ensures.child c.in-Some-free.ensures.up c.in-Some-free.ensures.next c.in-Some-free.ensures.first
    c.turn_child.ensures.rows c.turn_child.ensures.up c.turn_child.ensures.next c.turn_child.ensures.unused c.as_str.ensures.value c.turn_child.ensures.child
    c.turn_edge.ensures.rows c.turn_edge.ensures.child c.turn_edge.ensures.up refl c.turn_edge.ensures.next c.turn_edge.ensures.unused
    (get_or (rows_of old) c.args.number nothing) there
