use Rattle.std.proofs.Common.{◌<◌, ◌++◌, ◌∷◌, ◌∙◌, [], List, Ok, Err, Result, arith, ap, length, set, subst, sym}
use Rattle.std.specs.Prelude.{OnErr, slice_get}
use Rattle.std.specs.String.{string_bytes}
use Rattle.std.proofs.lemmas.List.{length-map}
use Rattle.spk_topics.specs.Edges.{IsSeat, Keeps}
use Rattle.spk_topics.specs.Levels.{levels}
use Rattle.spk_topics.specs.Nodes.{child_of, link_of, links_of, next_unused_of, row_of, rows_of, up_of}
use Rattle.spk_topics.specs.Paths.{Child, IsOn, Up}
use Rattle.spk_topics.specs.Rows.{Row}
use Rattle.spk_topics.proofs.ChangeLemmas.{keeps_more}
use Rattle.spk_topics.proofs.UnusedLemmas.{first_unused}
use Rattle.spk_topics.proofs.WholeChanges.{keeps_hung, keeps_with, leaf_seat, on_within, path_more, stays_more, unused_row, whole_but_same, whole_leaf}
use Rattle.spk_topics.proofs.nodes.Nodes.link.Goals as goal

either_way : {A E : Type 0} (r : Result A E) (P : Type 0) → P → OnErr r P
either_way (Ok a) P p = tt
either_way (Err e) P p = p

pub returns-in_err-child-clause-err : goal.returns-in_err-child-clause-err
returns-in_err-child-clause-err c = either_way c.from_residual.result _ (c.unused_node.ensures.whole c.args.number c.requires.whole)

pub returns-in_err-child-clause-keeps : goal.returns-in_err-child-clause-keeps
returns-in_err-child-clause-keeps c = keeps_with (rows_of c.args.self.now) (rows_of c.unused_node.new.self) c.unused_node.ensures.rows

pub returns-in_err-path-clause-err : goal.returns-in_err-path-clause-err
returns-in_err-path-clause-err c = either_way c.from_residual-in_err-path.result _ (c.unused_node.ensures.whole c.args.number c.requires.whole)

pub returns-in_err-path-clause-keeps : goal.returns-in_err-path-clause-keeps
returns-in_err-path-clause-keeps c = keeps_with (rows_of c.args.self.now) (rows_of c.unused_node.new.self) c.unused_node.ensures.rows

pub returns-in_err-text-clause-err : goal.returns-in_err-text-clause-err
returns-in_err-text-clause-err c = either_way c.from_residual-in_err-text.result _ (c.unused_node.ensures.whole c.args.number c.requires.whole)

pub returns-in_err-text-clause-keeps : goal.returns-in_err-text-clause-keeps
returns-in_err-text-clause-keeps c = keeps_with (rows_of c.args.self.now) (rows_of c.unused_node.new.self) c.unused_node.ensures.rows

pub add_child-requires : goal.add_child-requires
add_child-requires c =
    let old = c.args.self.now in
    let rooted : 0 < length (links_of old) = omega (arith, c.requires.rooted, old.list.ok.0, length-map old.list.items link_of) in
    let within : c.args.number < length (links_of old) = on_within (links_of old) c.args.number c.requires.on rooted in
    omega (arith, within, c.unused_node.ensures.longer, old.list.ok.0, length-map old.list.items link_of)

pub returns-in_err-add_child-clause-err : goal.returns-in_err-add_child-clause-err
returns-in_err-add_child-clause-err c =
    let u = c.unused_node.new.self in
    let a = c.add_child.new.self in
    either_way c.from_residual-in_err-add_child.result _
    (whole_but_same (rows_of u) (rows_of a) (links_of u) (links_of a) u.unused a.unused c.args.number c.add_child.ensures.rows c.in_err-add_child.ensures.err c.add_child.ensures.unused (c.unused_node.ensures.whole c.args.number c.requires.whole))

pub returns-in_err-add_child-clause-keeps : goal.returns-in_err-add_child-clause-keeps
returns-in_err-add_child-clause-keeps c =
    subst (λ (r : List Row). Keeps (rows_of c.args.self.now) r) (sym c.add_child.ensures.rows) (keeps_with (rows_of c.args.self.now) (rows_of c.unused_node.new.self) c.unused_node.ensures.rows)

pub hang-requires-clause-within : goal.hang-requires-clause-within
hang-requires-clause-within c =
    let u = c.unused_node.new.self in
    let w = c.unused_node.ensures.whole c.args.number c.requires.whole in
    let free = first_unused (rows_of u) (up_of u) (next_unused_of u) u.unused c.in_ok-child.child w.sound.unused c.in_ok-child.ensures.first in
    let inside : c.in_ok-child.child < length (rows_of u) = free.1 in
    omega (arith, inside, c.add_child.ensures.len, u.list.ok.0, length-map u.list.items row_of)

pub hang-requires-clause-empty : goal.hang-requires-clause-empty
hang-requires-clause-empty c =
    let u = c.unused_node.new.self in
    let w = c.unused_node.ensures.whole c.args.number c.requires.whole in
    ap (λ (r : List Row). slice_get r c.in_ok-child.child) c.add_child.ensures.rows
    ∙ unused_row (rows_of u) (child_of u) (up_of u) (next_unused_of u) u.unused c.in_ok-child.child w.sound c.in_ok-child.ensures.first

pub returns-clause-whole : goal.returns-clause-whole
returns-clause-whole c =
    let old = c.args.self.now in
    let u = c.unused_node.new.self in
    let a = c.add_child.new.self in
    let h = c.hang.new.self in
    let (rest, goes) = c.requires.goes_on in
    whole_leaf (rows_of u) (rows_of a) (rows_of h) (child_of u) (child_of a) (child_of h) (up_of u) (up_of a) (up_of h) (next_unused_of u) (next_unused_of a) (next_unused_of h) u.unused a.unused h.unused
    c.args.number c.args.level.now c.in_ok-child.child (string_bytes c.in_ok-path.path) (c.args.number, string_bytes c.in_ok-text.text)
    (c.unused_node.ensures.whole c.args.number c.requires.whole)
    (ap (λ (y : Child). y c.args.number c.args.level.now) c.unused_node.ensures.child ∙ c.requires.leads_nowhere)
    (subst (λ (y : Up). IsOn y c.args.number) (sym c.unused_node.ensures.up) c.requires.on)
    (stays_more (rows_of old) (rows_of u) (child_of old) (child_of u) (up_of old) (up_of u) c.args.number c.unused_node.ensures.rows c.unused_node.ensures.child c.unused_node.ensures.up c.requires.stays)
    (rest, ap levels c.in_ok-path.ensures.ok ∙ goes ∙ ap (λ p. p ++ c.args.level.now ∷ rest) (sym (path_more (rows_of old) (rows_of u) c.args.number c.unused_node.ensures.rows)))
    c.in_ok-child.ensures.first c.in_ok-add_child.ensures.child c.in_ok-add_child.ensures.up c.hang.ensures.child c.hang.ensures.up
    (ap (λ t. (c.args.number, t)) c.in_ok-text.ensures.ok) c.in_ok-add_child.ensures.rows c.hang.ensures.rows c.in_ok-add_child.ensures.next c.hang.ensures.next c.hang.ensures.first

pub returns-clause-keeps : goal.returns-clause-keeps
returns-clause-keeps c =
    let old = c.args.self.now in
    let u = c.unused_node.new.self in
    let h = c.hang.new.self in
    let text = string_bytes c.in_ok-path.path in
    let w = c.unused_node.ensures.whole c.args.number c.requires.whole in
    keeps_more (rows_of old) (rows_of u) (rows_of h) (keeps_with (rows_of old) (rows_of u) c.unused_node.ensures.rows)
    (keeps_hung (rows_of u) (rows_of h) (child_of u) (up_of u) (next_unused_of u) u.unused c.in_ok-child.child text w.sound c.in_ok-child.ensures.first
    (c.hang.ensures.rows ∙ ap (λ (y : List Row). set y c.in_ok-child.child (text, [])) c.in_ok-add_child.ensures.rows))

pub returns-clause-seat : goal.returns-clause-seat
returns-clause-seat c =
    let old = c.args.self.now in
    let u = c.unused_node.new.self in
    let a = c.add_child.new.self in
    let h = c.hang.new.self in
    let (rest, goes) = c.requires.goes_on in
    subst (λ t. IsSeat (rows_of h) (up_of h) t c.in_ok-child.child) c.in_ok-path.ensures.ok
    (leaf_seat (rows_of u) (rows_of a) (rows_of h) (child_of u) (child_of a) (child_of h) (up_of u) (up_of a) (up_of h) (next_unused_of u) (next_unused_of a) (next_unused_of h) u.unused a.unused h.unused
    c.args.number c.args.level.now c.in_ok-child.child (string_bytes c.in_ok-path.path) (c.args.number, string_bytes c.in_ok-text.text)
    (c.unused_node.ensures.whole c.args.number c.requires.whole)
    (ap (λ (y : Child). y c.args.number c.args.level.now) c.unused_node.ensures.child ∙ c.requires.leads_nowhere)
    (subst (λ (y : Up). IsOn y c.args.number) (sym c.unused_node.ensures.up) c.requires.on)
    (stays_more (rows_of old) (rows_of u) (child_of old) (child_of u) (up_of old) (up_of u) c.args.number c.unused_node.ensures.rows c.unused_node.ensures.child c.unused_node.ensures.up c.requires.stays)
    (rest, ap levels c.in_ok-path.ensures.ok ∙ goes ∙ ap (λ p. p ++ c.args.level.now ∷ rest) (sym (path_more (rows_of old) (rows_of u) c.args.number c.unused_node.ensures.rows)))
    c.in_ok-child.ensures.first c.in_ok-add_child.ensures.child c.in_ok-add_child.ensures.up c.hang.ensures.child c.hang.ensures.up
    (ap (λ t. (c.args.number, t)) c.in_ok-text.ensures.ok) c.in_ok-add_child.ensures.rows c.hang.ensures.rows c.in_ok-add_child.ensures.next c.hang.ensures.next c.hang.ensures.first)
