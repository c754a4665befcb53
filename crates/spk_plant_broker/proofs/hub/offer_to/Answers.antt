use Rattle.spk_plant_broker.proofs.Lines.{offers_line}
use Rattle.spk_plant_broker.proofs.hub.offer_to.Goals as goal

pub returns-clause-gives : goal.returns-clause-gives
returns-clause-gives c firsts dropped got taken fits =
    offers_line firsts dropped got taken c.args.lines.now.items c.args.client c.args.bytes c.index_mut.result.now c.offer.new.self c.offer.result fits
    c.requires c.index_mut.ensures.value c.offer.ensures
