use Rattle.std.proofs.Common.{◌≡◌, ◌<◌, ◌∙◌, List, ℕ, None, Some, [], arith, ap, length, set}
use Rattle.std.specs.Prelude.{slice_get}
use Rattle.std.specs.String.{string_bytes}
use Rattle.std.proofs.lemmas.List.{length-map}
use Rattle.spk_topics.specs.declared.nodes.Nodes.{Nodes}
use Rattle.spk_topics.specs.Nodes.{IsWhole, child_of, edge_of, link_of, links_of, next_unused_of, row_of, rows_of, up_of}
use Rattle.spk_topics.specs.Paths.{Child}
use Rattle.spk_topics.specs.Rows.{Row}
use Rattle.spk_topics.specs.Unused.{IsUnused}
use Rattle.spk_topics.proofs.ChangeLemmas.{set_there}
use Rattle.spk_topics.proofs.EdgeLemmas.{up_within}
use Rattle.spk_topics.proofs.TreeLemmas.{above_on, on_not}
use Rattle.spk_topics.proofs.UnusedLemmas.{first_unused}
use Rattle.spk_topics.proofs.WholeChanges.{childless, keeps_hung, on_within, split_leads, split_seat, unused_row, whole_split}
use Rattle.spk_topics.proofs.nodes.Nodes.set_between.Goals as goal

module _ (nodes : Nodes) (place : ℕ) (w : IsWhole nodes) (first : nodes.unused ≡ Some place) where
  free : IsUnused (rows_of nodes) (up_of nodes) place
  free = first_unused (rows_of nodes) (up_of nodes) (next_unused_of nodes) nodes.unused place w.sound.unused first

  here : place < length nodes.list.items
  here = let inside = free.1 in omega (arith, inside, length-map nodes.list.items row_of)

module _ (nodes : Nodes) (n : ℕ) (level : List ℕ) (m : ℕ) (w : IsWhole nodes) (leads : child_of nodes n level ≡ Some m) where
  child_here : m < length nodes.list.items
  child_here = let within = up_within (links_of nodes) m (n, level) (w.sound.tree.above n level m leads) in omega (arith, within, length-map nodes.list.items link_of)

  parent_here : n < length nodes.list.items
  parent_here =
      let rooted : 0 < length (links_of nodes) = omega (arith, child_here, length-map nodes.list.items link_of) in
      let within = on_within (links_of nodes) n (w.sound.tree.hangs n level m (w.sound.tree.above n level m leads)) rooted in
      omega (arith, within, length-map nodes.list.items link_of)

pub turn_edge-requires : goal.turn_edge-requires
turn_edge-requires c =
    let h = child_here c.args.self.now c.args.number c.args.level.now c.args.child c.requires.whole c.requires.leads in
    omega (arith, h, c.args.self.now.list.ok.0)

pub set_only_child-requires-clause-within : goal.set_only_child-requires-clause-within
set_only_child-requires-clause-within c =
    let h = here c.args.self.now c.args.place c.requires.whole c.requires.first in
    omega (arith, h, c.turn_edge.ensures.len, c.args.self.now.list.ok.0)

pub set_only_child-requires-clause-none : goal.set_only_child-requires-clause-none
set_only_child-requires-clause-none c = λ l.
    let old = c.args.self.now in
    ap (λ (y : Child). y c.args.place l) c.turn_edge.ensures.child ∙ childless (rows_of old) (child_of old) (up_of old) c.args.place l c.requires.whole.sound.tree (free old c.args.place c.requires.whole c.requires.first)

pub turn_child-requires-clause-within : goal.turn_child-requires-clause-within
turn_child-requires-clause-within c =
    let h = parent_here c.args.self.now c.args.number c.args.level.now c.args.child c.requires.whole c.requires.leads in
    omega (arith, h, c.turn_edge.ensures.len, c.set_only_child.ensures.len, c.args.self.now.list.ok.0)

pub turn_child-requires-clause-leads : goal.turn_child-requires-clause-leads
turn_child-requires-clause-leads c =
    let old = c.args.self.now in
    let t = c.requires.whole.sound.tree in
    let unused = free old c.args.place c.requires.whole c.requires.first in
    let off : c.args.number ≡ c.args.place → ⊥ =
    on_not (rows_of old) (child_of old) (up_of old) t c.args.number c.args.place None (above_on (rows_of old) (child_of old) (up_of old) t c.args.number c.args.level.now c.args.child c.requires.leads) unused.2 unused.0 in (
      c.args.child,
      set_there (child_of c.turn_edge.new.self) (child_of c.set_only_child.new.self) c.args.place (string_bytes c.args.key) (Some c.args.child) c.args.number c.args.level.now c.set_only_child.ensures.child (λ a _. off a)
          ∙ ap (λ (y : Child). y c.args.number c.args.level.now) c.turn_edge.ensures.child
          ∙ c.requires.leads,
    )

pub hang-requires-clause-within : goal.hang-requires-clause-within
hang-requires-clause-within c =
    let h = here c.args.self.now c.args.place c.requires.whole c.requires.first in
    omega (arith, h, c.turn_edge.ensures.len, c.set_only_child.ensures.len, c.turn_child.ensures.len, c.args.self.now.list.ok.0)

pub hang-requires-clause-empty : goal.hang-requires-clause-empty
hang-requires-clause-empty c =
    let old = c.args.self.now in
    ap (λ (r : List Row). slice_get r c.args.place) (c.turn_child.ensures.rows ∙ c.set_only_child.ensures.rows ∙ c.turn_edge.ensures.rows)
    ∙ unused_row (rows_of old) (child_of old) (up_of old) (next_unused_of old) old.unused c.args.place c.requires.whole.sound c.requires.first

pub returns-clause-whole : goal.returns-clause-whole
returns-clause-whole c =
    let old = c.args.self.now in
    let a = c.turn_edge.new.self in
    let b = c.set_only_child.new.self in
    let t = c.turn_child.new.self in
    let h = c.hang.new.self in
    whole_split (rows_of old) (rows_of t) (rows_of h) (child_of old) (child_of a) (child_of b) (child_of t) (child_of h) (up_of old) (up_of a) (up_of t) (up_of h) (next_unused_of old) (next_unused_of t) (next_unused_of h) old.unused t.unused h.unused
    c.args.number c.args.level.now c.args.child c.args.place (string_bytes c.args.key) (string_bytes c.args.upper) (edge_of c.args.lower) (edge_of c.in-Some.edge) c.requires.whole
    c.requires.leads (c.requires.inside.common, c.requires.inside.between_is) (c.requires.inside.more, c.requires.inside.below_is)
    c.requires.first c.turn_edge.ensures.child c.set_only_child.ensures.child c.turn_child.ensures.child c.hang.ensures.child c.turn_edge.ensures.up c.requires.lower
    (c.turn_child.ensures.up ∙ c.set_only_child.ensures.up) c.hang.ensures.up c.in-Some.ensures.some
    (c.turn_child.ensures.rows ∙ c.set_only_child.ensures.rows ∙ c.turn_edge.ensures.rows) c.hang.ensures.rows
    (c.turn_child.ensures.next ∙ c.set_only_child.ensures.next ∙ c.turn_edge.ensures.next) c.hang.ensures.next c.hang.ensures.first

pub returns-clause-seat : goal.returns-clause-seat
returns-clause-seat c =
    let old = c.args.self.now in
    let a = c.turn_edge.new.self in
    let b = c.set_only_child.new.self in
    let t = c.turn_child.new.self in
    let h = c.hang.new.self in
    split_seat (rows_of old) (rows_of t) (rows_of h) (child_of old) (child_of a) (child_of b) (child_of t) (child_of h) (up_of old) (up_of a) (up_of t) (up_of h) (next_unused_of old) (next_unused_of t) (next_unused_of h) old.unused t.unused h.unused
    c.args.number c.args.level.now c.args.child c.args.place (string_bytes c.args.key) (string_bytes c.args.upper) (edge_of c.args.lower) (edge_of c.in-Some.edge) c.requires.whole
    c.requires.leads (c.requires.inside.common, c.requires.inside.between_is) (c.requires.inside.more, c.requires.inside.below_is)
    c.requires.first c.turn_edge.ensures.child c.set_only_child.ensures.child c.turn_child.ensures.child c.hang.ensures.child c.turn_edge.ensures.up c.requires.lower
    (c.turn_child.ensures.up ∙ c.set_only_child.ensures.up) c.hang.ensures.up c.in-Some.ensures.some
    (c.turn_child.ensures.rows ∙ c.set_only_child.ensures.rows ∙ c.turn_edge.ensures.rows) c.hang.ensures.rows
    (c.turn_child.ensures.next ∙ c.set_only_child.ensures.next ∙ c.turn_edge.ensures.next) c.hang.ensures.next c.hang.ensures.first

pub returns-clause-leads : goal.returns-clause-leads
returns-clause-leads c = λ l.
    let old = c.args.self.now in
    let a = c.turn_edge.new.self in
    let b = c.set_only_child.new.self in
    let t = c.turn_child.new.self in
    let h = c.hang.new.self in
    split_leads (rows_of old) (rows_of t) (rows_of h) (child_of old) (child_of a) (child_of b) (child_of t) (child_of h) (up_of old) (up_of a) (up_of t) (up_of h) (next_unused_of old) (next_unused_of t) (next_unused_of h) old.unused t.unused h.unused
    c.args.number c.args.level.now c.args.child c.args.place (string_bytes c.args.key) (string_bytes c.args.upper) (edge_of c.args.lower) (edge_of c.in-Some.edge) c.requires.whole
    c.requires.leads (c.requires.inside.common, c.requires.inside.between_is) (c.requires.inside.more, c.requires.inside.below_is)
    c.requires.first c.turn_edge.ensures.child c.set_only_child.ensures.child c.turn_child.ensures.child c.hang.ensures.child c.turn_edge.ensures.up c.requires.lower
    (c.turn_child.ensures.up ∙ c.set_only_child.ensures.up) c.hang.ensures.up c.in-Some.ensures.some
    (c.turn_child.ensures.rows ∙ c.set_only_child.ensures.rows ∙ c.turn_edge.ensures.rows) c.hang.ensures.rows
    (c.turn_child.ensures.next ∙ c.set_only_child.ensures.next ∙ c.turn_edge.ensures.next) c.hang.ensures.next c.hang.ensures.first l

pub returns-clause-keeps : goal.returns-clause-keeps
returns-clause-keeps c =
    let old = c.args.self.now in
    let h = c.hang.new.self in
    keeps_hung (rows_of old) (rows_of h) (child_of old) (up_of old) (next_unused_of old) old.unused c.args.place (string_bytes c.args.upper) c.requires.whole.sound c.requires.first
    (c.hang.ensures.rows ∙ ap (λ (y : List Row). set y c.args.place (string_bytes c.args.upper, [])) (c.turn_child.ensures.rows ∙ c.set_only_child.ensures.rows ∙ c.turn_edge.ensures.rows))
