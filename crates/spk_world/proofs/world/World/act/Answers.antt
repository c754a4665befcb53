use Rattle.std.proofs.Common.{◌≡◌, subst, refl, length, arith, None}
use Rattle.std.proofs.lemmas.Option.{slice_get_read}
use Rattle.std.specs.Prelude.{slice_get, Some}
use Rattle.spk_edge.specs.View.{act_view}
use Rattle.spk_edge_rules.specs.Inputs.{Input}
use Rattle.spk_world_rules.specs.Events.{AtNode}
use Rattle.spk_world_run.specs.Data.{WorldData}
use Rattle.spk_world_run.specs.Step.{with_node}
use Rattle.spk_world.specs.Outcome.{IsDone}
use Rattle.spk_world.specs.declared.answer.Done.TheVariants as done
use Rattle.spk_world.proofs.Whole.{input-done, world_of}
use Rattle.spk_world.proofs.world.World.act.Goals as goal

pub returns-clause-done : goal.returns-clause-done
returns-clause-done c =
    let nodes = c.self.inside.nodes.items in
    let d = world_of nodes c.self.inside.hosts.items in
    let input : Input = record { now = c.args.now; ack = None; act = act_view c.args.act } in
    let there : slice_get nodes c.args.node ≡ Some c.index_mut.result.now =
    slice_get_read nodes (length nodes) c.args.node c.index_mut.result.now refl
    (omega (arith, c.self.inside.nodes.ok.0, c.len.ensures, c.if-node-len.false)) c.index_mut.ensures.value in
    subst (λ (w : WorldData). IsDone w (AtNode c.args.node input) (with_node d c.args.node c.take.new.self) (done.Edge c.in_ok-added.added))
    c.self.view_is
    (input-done d c.args.node input c.index_mut.result.now c.take.new.self c.in_ok-added.added there refl c.in_ok-added.ensures.done)
