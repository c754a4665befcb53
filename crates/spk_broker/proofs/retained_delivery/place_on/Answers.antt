use Rattle.std.proofs.Common.{◌∙◌, ap, map, Global}
use Rattle.spk_broker.specs.Offering.{offers_in}
use Rattle.spk_broker.specs.Parts.{retained_view}
use Rattle.spk_broker.proofs.Named.{named-in}
use Rattle.spk_broker.proofs.retained_delivery.place_on.Goals as goal

pub returns : goal.returns
returns c = λ qos plain.
    ap (λ o. offers_in o (map (retained_view {A = Global}) c.args.retained.now.entries) (c.args.topic.now, qos)) c.get_index_of.ensures.index
    ∙ named-in c.args.topic.now qos c.args.retained.now.entries plain c.get_index_of.ensures.unique
