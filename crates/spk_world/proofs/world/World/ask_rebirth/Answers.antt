use Rattle.std.proofs.Common.{◌≡◌, ◌∙◌, ap, sym, subst, refl, length, List, ℕ, arith}
use Rattle.std.proofs.lemmas.Option.{slice_get_read}
use Rattle.std.specs.Prelude.{slice_get, Some, IfErr, IfOk}
use Rattle.spk_payload.specs.Spelling.{spelling}
use Rattle.spk_topics.specs.Spark.{topic_of}
use Rattle.spk_topics.specs.Spark.Named.{of_node}
use Rattle.spk_topics.specs.declared.spark.Verb.TheVariants.{Command}
use Rattle.spk_edge_rules.specs.Config.{Config}
use Rattle.spk_edge_rules.specs.Inputs as edge
use Rattle.spk_world_rules.specs.Events.{node_at}
use Rattle.spk_world_rules.specs.Files as file
use Rattle.spk_world_run.specs.Data.{WorldData}
use Rattle.spk_world.specs.Outcome.{IsDone, IsRefused}
use Rattle.spk_world.specs.Steps.{configs_at}
use Rattle.spk_world.proofs.Whole.{config-at, world_of}
use Rattle.spk_world.proofs.world.World.ask_rebirth.Goals as goal

abbrev topic_at : Config → List ℕ
topic_at k = topic_of (of_node k.group Command k.node)

pub returns-clause-done : goal.returns-clause-done
returns-clause-done c =
    let nodes = c.self.inside.nodes.items in
    let there : slice_get nodes c.args.node ≡ Some c.index.result.now =
    slice_get_read nodes (length nodes) c.args.node c.index.result.now refl
    (omega (arith, c.self.inside.nodes.ok.0, c.len.ensures, c.if-node-len.false)) c.index.ensures in
    let same : c.index.result.now.node.config ≡ (node_at (configs_at c.args.self.now) c.args.node).config =
    sym (config-at (world_of nodes c.self.inside.hosts.items) c.args.node c.index.result.now there) ∙ ap (λ (d : WorldData). (node_at (configs_at d) c.args.node).config) c.self.view_is in
    subst (λ (b : List ℕ). IfOk c.act.result (IsDone c.args.self.now (file.at_node c.args.node c.args.now
    (edge.Command (topic_at (node_at (configs_at c.args.self.now) c.args.node).config) b)) c.act.new.self))
    (c.deref.ensures.value ∙ c.in_ok-payload.ensures)
    (subst (λ (b : List ℕ). IfOk c.act.result (IsDone c.args.self.now (file.at_node c.args.node c.args.now (edge.Command b c.deref.result.now)) c.act.new.self))
    (c.as_str.ensures.value ∙ c.in_ok-topic.ensures ∙ ap topic_at (c.config.ensures ∙ same)) c.act.ensures.done)

pub returns-clause-refused : goal.returns-clause-refused
returns-clause-refused c =
    let nodes = c.self.inside.nodes.items in
    let there : slice_get nodes c.args.node ≡ Some c.index.result.now =
    slice_get_read nodes (length nodes) c.args.node c.index.result.now refl
    (omega (arith, c.self.inside.nodes.ok.0, c.len.ensures, c.if-node-len.false)) c.index.ensures in
    let same : c.index.result.now.node.config ≡ (node_at (configs_at c.args.self.now) c.args.node).config =
    sym (config-at (world_of nodes c.self.inside.hosts.items) c.args.node c.index.result.now there) ∙ ap (λ (d : WorldData). (node_at (configs_at d) c.args.node).config) c.self.view_is in
    subst (λ (b : List ℕ). IfErr c.act.result (IsRefused c.args.self.now (file.at_node c.args.node c.args.now
    (edge.Command (topic_at (node_at (configs_at c.args.self.now) c.args.node).config) b))))
    (c.deref.ensures.value ∙ c.in_ok-payload.ensures)
    (subst (λ (b : List ℕ). IfErr c.act.result (IsRefused c.args.self.now (file.at_node c.args.node c.args.now (edge.Command b c.deref.result.now))))
    (c.as_str.ensures.value ∙ c.in_ok-topic.ensures ∙ ap topic_at (c.config.ensures ∙ same)) c.act.ensures.refused)
