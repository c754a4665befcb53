use Rattle.std.proofs.Common.{◌∙◌, subst, List, ℕ}
use Rattle.std.specs.Prelude.{IfErr, IfOk}
use Rattle.spk_edge_rules.specs.Inputs as edge
use Rattle.spk_world_rules.specs.Files as file
use Rattle.spk_world.specs.Outcome.{IsDone, IsRefused}
use Rattle.spk_world.proofs.world.World.tell_state.Goals as goal

pub returns-clause-done : goal.returns-clause-done
returns-clause-done c =
    subst (λ (b : List ℕ). IfOk c.act.result (IsDone c.args.self.now (file.at_node c.args.node c.args.now (edge.State b)) c.act.new.self))
    (c.as_bytes.ensures.value ∙ c.in-Ok.ensures.text) c.act.ensures.done

pub returns-clause-refused : goal.returns-clause-refused
returns-clause-refused c =
    subst (λ (b : List ℕ). IfErr c.act.result (IsRefused c.args.self.now (file.at_node c.args.node c.args.now (edge.State b))))
    (c.as_bytes.ensures.value ∙ c.in-Ok.ensures.text) c.act.ensures.refused
