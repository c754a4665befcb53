use Rattle.std.proofs.Common.{◌≡◌, ◌∙◌, ◌+◌, subst, List, [], ◌∷◌, Some}
use Rattle.spk_payload.specs.Typing.{typed_view}
use Rattle.spk_edge_rules.specs.Inputs.{Act, Change}
use Rattle.spk_plant_edge.specs.Script.{Asked, ramp}
use Rattle.spk_plant_edge.proofs.Leading.{asked-then, ramp-more}
use Rattle.spk_plant_edge.proofs.Putting.{puts-then}
use Rattle.spk_plant_edge.proofs.desk.Desk.ramp.Goals as goal

pub loop-before-preserved : goal.loop-before-preserved
loop-before-preserved g c = record {
  puts = puts-then c.args.ingress.now c.args.self.now.sender.pass c.loop-before.self.sender.pass c.once.new.self.sender.pass c.loop-before.invariant.puts c.in_ok-once.ensures.pass;
  went = λ o log at.
      let so_far = c.loop-before.invariant.went o log at in
      let asked = c.in_ok-once.ensures.asked o so_far.0 so_far.1 in (
        asked.0,
        asked.1,
        subst (λ (acts : List Act). Asked acts log asked.0) (ramp-more c.args.alias c.loop-before.before c.args.sort (typed_view c.value_of.result) c.value_of.ensures)
            (asked-then (ramp c.args.alias c.args.sort c.loop-before.before) (Change c.args.alias (Some (typed_view c.value_of.result)) ∷ []) log so_far.0 asked.0 so_far.2 asked.2),
      );
}
