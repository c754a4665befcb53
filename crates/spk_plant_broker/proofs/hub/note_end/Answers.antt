use Rattle.spk_plant_broker.proofs.Lines.{lines_ended}
use Rattle.spk_plant_broker.proofs.hub.note_end.Goals as goal

pub returns-clause-fits : goal.returns-clause-fits
returns-clause-fits c firsts dropped got taken fits =
    lines_ended firsts dropped got taken c.args.client c.args.lines.now.items c.index_mut.result.now fits c.requires c.index_mut.ensures.value
