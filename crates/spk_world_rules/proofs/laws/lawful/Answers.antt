use Rattle.spk_world_rules.proofs.Lawful.{pairs}
use Rattle.spk_world_rules.proofs.laws.lawful.Goals as goal

pub returns : goal.returns
returns c = λ w done h n widths all.
    let pair = pairs c.positions.ensures.grows c.positions.ensures.still_lawful c.published.ensures.grows c.any_list.ensures.record w done h n widths all in
    record { lawful = pair.0; near = pair.1 }
