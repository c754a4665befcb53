use Rattle.std.proofs.Common.{◌≡◌, ◌++◌, ◌∙◌, ◌<◌, [], List, ℕ, Option, Bor, Some, None, false, true, ap, arith, length, sym}
use Rattle.std.specs.Prelude.{IfNone, is_some}
use Rattle.std.specs.Option.{option_map}
use Rattle.std.proofs.lemmas.List.{length-map}
use Rattle.std.proofs.lemmas.Option.{slice_get-map}
use Rattle.spk_topics.specs.Levels.{is_empty, levels_left}
use Rattle.spk_topics.specs.Nodes.{child_of, link_of, links_of, row_of, rows_of, up_of}
use Rattle.spk_topics.specs.Paths.{path}
use Rattle.spk_topics.proofs.EdgeLemmas.{row_at, up_within}
use Rattle.spk_topics.proofs.LevelLemmas.{is_empty-levels}
use Rattle.spk_topics.proofs.PathLemmas.{to_end}
use Rattle.spk_topics.proofs.WholeChanges.{absent_left, absent_nowhere, absent_there, seat_here}
use Rattle.spk_topics.proofs.nodes.Nodes.place_of.Goals as goal

something : (o : Option (Bor (List ℕ))) → is_some o ≡ true → is_empty (levels_left (option_map (λ t. t.now) o)) ≡ false
something None h = cc
something (Some t) h = is_empty-levels t.now

nothing : (o : Option (Bor (List ℕ))) → is_some o ≡ false → levels_left (option_map (λ t. t.now) o) ≡ []
nothing None h = ap levels_left no
  where
    no : option_map (λ (t : Bor (List ℕ)). t.now) None ≡ None
    no = cc
nothing (Some t) h = cc

either_way : {A : Type 0} (o : Option A) (P : Type 0) → P → IfNone o P
either_way None P p = p
either_way (Some a) P p = tt

pub returns-then-is_some-clause-none : goal.returns-then-is_some-clause-none
returns-then-is_some-clause-none c =
    absent_left (rows_of c.args.self.now) (child_of c.args.self.now) (up_of c.args.self.now) c.args.filter.now c.walk-number.result.0 (levels_left (option_map (λ t. t.now) c.walk-number.result.1)) c.requires.sound.tree c.requires.sound.empty
    c.walk-number.ensures.on c.walk-number.ensures.path c.walk-number.ensures.stops (something c.walk-number.result.1 (sym c.is_some.ensures ∙ c.if-is_some.true))

pub returns-in_err-node-clause-none : goal.returns-in_err-node-clause-none
returns-in_err-node-clause-none c =
    let rows = rows_of c.args.self.now in
    let number = c.walk-number.result.0 in
    either_way c.from_residual.result _
    (absent_nowhere rows (child_of c.args.self.now) (up_of c.args.self.now) c.args.filter.now number c.requires.sound.tree c.requires.sound.empty c.walk-number.ensures.on
    (ap (λ ls. path rows number ++ ls) (sym (nothing c.walk-number.result.1 (sym c.is_some.ensures ∙ c.if-is_some.false))) ∙ c.walk-number.ensures.path)
    (slice_get-map row_of c.args.self.now.list.items number ∙ ap (option_map row_of) (sym c.in_err-node.ensures)))

pub returns-then-has_grants-clause-seat : goal.returns-then-has_grants-clause-seat
returns-then-has_grants-clause-seat c =
    let rows = rows_of c.args.self.now in
    let number = c.walk-number.result.0 in
    let items = c.args.self.now.list.items in
    seat_here rows (child_of c.args.self.now) (up_of c.args.self.now) c.args.filter.now number c.requires.sound.tree c.walk-number.ensures.on
    (sym (to_end (path rows number)) ∙ ap (λ ls. path rows number ++ ls) (sym (nothing c.walk-number.result.1 (sym c.is_some.ensures ∙ c.if-is_some.false))) ∙ c.walk-number.ensures.path)
    (λ e h. let within : number < length (links_of c.args.self.now) = up_within (links_of c.args.self.now) number e h in omega (arith, within, length-map items link_of, length-map items row_of))

pub returns-else-has_grants-clause-none : goal.returns-else-has_grants-clause-none
returns-else-has_grants-clause-none c =
    let rows = rows_of c.args.self.now in
    let number = c.walk-number.result.0 in
    absent_there rows (child_of c.args.self.now) (up_of c.args.self.now) c.args.filter.now number (row_of c.in_ok-node.node.now) c.requires.sound.tree c.requires.sound.empty c.walk-number.ensures.on
    (ap (λ ls. path rows number ++ ls) (sym (nothing c.walk-number.result.1 (sym c.is_some.ensures ∙ c.if-is_some.false))) ∙ c.walk-number.ensures.path)
    (row_at c.args.self.now.list.items number c.in_ok-node.node.now (sym c.in_ok-node.ensures))
    (c.has_grants.ensures.no c.if-has_grants.false)
