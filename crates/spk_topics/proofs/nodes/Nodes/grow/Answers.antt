use Rattle.std.proofs.Common.{◌++◌, ◌<◌, ◌∙◌, ap, arith, length, sym}
use Rattle.std.specs.Option.{option_map}
use Rattle.std.proofs.lemmas.List.{length-map}
use Rattle.spk_topics.specs.Levels.{levels_left}
use Rattle.spk_topics.specs.Nodes.{child_of, link_of, links_of, next_unused_of, row_of, rows_of, up_of}
use Rattle.spk_topics.specs.Paths.{path}
use Rattle.spk_topics.proofs.ChangeLemmas.{keeps_more}
use Rattle.spk_topics.proofs.EdgeLemmas.{up_within}
use Rattle.spk_topics.proofs.PathLemmas.{to_end}
use Rattle.spk_topics.proofs.WholeChanges.{seat_here, stays_whole}
use Rattle.spk_topics.proofs.nodes.Nodes.grow.Goals as goal

pub returns-in_default-clause-seat : goal.returns-in_default-clause-seat
returns-in_default-clause-seat c =
    let p = c.plant.new.self in
    let rows = rows_of p in
    let number = c.walk-number.result.0 in
    seat_here rows (child_of p) (up_of p) c.args.filter.now number c.plant.ensures.whole.sound.tree c.walk-number.ensures.on
    (sym (to_end (path rows number)) ∙ ap (λ o. path rows number ++ levels_left (option_map (λ t. t.now) o)) (sym c.in_default.is) ∙ c.walk-number.ensures.path)
    (λ e h. let within : number < length (links_of p) = up_within (links_of p) number e h in omega (arith, within, length-map p.list.items link_of, length-map p.list.items row_of))

pub grow_inside-requires-clause-stops : goal.grow_inside-requires-clause-stops
grow_inside-requires-clause-stops c = λ more h.
    c.walk-number.ensures.stops c.cut.result.0.now (levels_left (option_map (λ t. t.now) c.cut.result.1)) more c.in-Some-child.child
    (ap (λ o. levels_left (option_map (λ t. t.now) o)) c.in-Some.is ∙ c.cut.ensures.levels) (sym c.in-Some-child.ensures) h

pub add_leaf-requires-clause-stays : goal.add_leaf-requires-clause-stays
add_leaf-requires-clause-stays c =
    let p = c.plant.new.self in
    stays_whole (rows_of p) (child_of p) (up_of p) (next_unused_of p) p.unused c.walk-number.result.0 c.plant.ensures.whole

pub returns-in-Some-child-clause-keeps : goal.returns-in-Some-child-clause-keeps
returns-in-Some-child-clause-keeps c = keeps_more (rows_of c.args.self.now) (rows_of c.plant.new.self) (rows_of c.grow_inside.new.self) c.plant.ensures.keeps c.grow_inside.ensures.keeps

pub returns-in-None-clause-keeps : goal.returns-in-None-clause-keeps
returns-in-None-clause-keeps c = keeps_more (rows_of c.args.self.now) (rows_of c.plant.new.self) (rows_of c.add_leaf.new.self) c.plant.ensures.keeps c.add_leaf.ensures.keeps
