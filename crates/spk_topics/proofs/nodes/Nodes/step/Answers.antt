use Rattle.std.proofs.Common.{Bor, List, Option, ℕ, subst, sym}
use Rattle.std.specs.Prelude.{OnOk}
use Rattle.std.specs.Option.{option_map}
use Rattle.spk_topics.specs.Levels.{levels_left}
use Rattle.spk_topics.specs.Walk.{Settles}
use Rattle.spk_topics.proofs.nodes.Nodes.step.Goals as goal

pub returns-in-Some-clause-settled : goal.returns-in-Some-clause-settled
returns-in-Some-clause-settled c =
    subst (λ (o : Option (Bor (List ℕ))). OnOk c.step_along.result (Settles c.args.self.now c.args.topic.now c.args.level.now c.step_along.new.found c.step_along.new.next.items (c.args.ahead.now.number, levels_left (option_map (λ t. t.now) o))))
    (sym c.in-Some.is) c.step_along.ensures.settled

pub returns-in-None-clause-settled : goal.returns-in-None-clause-settled
returns-in-None-clause-settled c =
    subst (λ (o : Option (Bor (List ℕ))). OnOk c.step_from.result (Settles c.args.self.now c.args.topic.now c.args.level.now c.step_from.new.found c.step_from.new.next.items (c.args.ahead.now.number, levels_left (option_map (λ t. t.now) o))))
    (sym c.in-None.is) c.step_from.ensures.settled
