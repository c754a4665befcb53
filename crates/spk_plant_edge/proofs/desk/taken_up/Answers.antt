use Rattle.std.proofs.Common.{◌≡◌, ◌∙◌, ap, rules}
use Rattle.spk_edge.specs.Patch.{patched}
use Rattle.spk_edge.specs.View.{NodeData}
use Rattle.spk_plant_edge.proofs.desk.taken_up.Goals as goal

pub returns-clause-taken : goal.returns-clause-taken
returns-clause-taken c = record {
  plan = c.in_ok-plan.plan.plan;
  planned = c.in_ok-plan.ensures.planned;
  stands = (search rules) ∙ (c.take_up.ensures.data ∙ ap (λ (n : NodeData). patched n c.in_ok-plan.plan.plan) c.in_ok-plan.ensures.same);
  out = c.take_up.ensures.out;
  messages = c.take_up.ensures.messages;
}
