use Rattle.std.proofs.Common.{◌≡◌, ◌∙◌, sym, true}
use Rattle.std.proofs.lemmas.Bool.{and_parts, leb-true}
use Rattle.spk_edge.specs.Patch.{is_good}
use Rattle.spk_edge.specs.View.{config_view, record_view}
use Rattle.spk_edge.proofs.Good.{has-names}
use Rattle.spk_edge.proofs.node.EdgeNode.new.Goals as goal

pub new-requires : goal.new-requires
new-requires c =
    let good : is_good (config_view c.args.config) c.args.config.capacity ≡ true = sym c.is_good.ensures ∙ c.if-not-is_good.false in
    let (others, high) = and_parts _ _ good in
    let (names, low) = and_parts _ _ others in
    (leb-true 1 c.args.config.capacity low, leb-true c.args.config.capacity 4096 high)

pub returns-clause-names : goal.returns-clause-names
returns-clause-names c =
    let good : is_good (config_view c.args.config) c.args.config.capacity ≡ true = sym c.is_good.ensures ∙ c.if-not-is_good.false in
    has-names (config_view c.args.config) c.args.config.capacity (record_view c.args.start) c.args.registry good c.is_lawful.ensures
