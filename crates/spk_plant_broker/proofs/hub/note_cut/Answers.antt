use Rattle.spk_plant_broker.proofs.Each.{read_at}
use Rattle.spk_plant_broker.proofs.Lines.{lines_cut}
use Rattle.spk_plant_broker.proofs.hub.note_cut.Goals as goal

pub cut-requires : goal.cut-requires
cut-requires c = c.requires.few _ (read_at c.args.lines.now.items c.args.client c.index_mut.result.now c.requires.below c.index_mut.ensures.value)

pub returns-clause-fits : goal.returns-clause-fits
returns-clause-fits c firsts dropped got taken fits =
    lines_cut firsts dropped got taken c.args.client c.args.lines.now.items c.index_mut.result.now c.cut.new.self fits c.requires.below c.index_mut.ensures.value c.cut.ensures
