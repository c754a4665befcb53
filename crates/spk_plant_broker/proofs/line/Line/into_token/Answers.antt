use Rattle.spk_plant_broker.proofs.Lines.{token_is}
use Rattle.spk_plant_broker.proofs.line.Line.into_token.Goals as goal

pub returns : goal.returns
returns c first dropped got cuts ended fits = token_is first got cuts ended c.finish.new.self (c.finish.ensures first dropped got cuts ended fits)
