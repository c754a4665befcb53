use Rattle.spk_payload.proofs.Choices.{whole_meaning, whole_reading}
use Rattle.spk_payload.proofs.laws.choices.Goals as goal

pub returns-clause-reading : goal.returns-clause-reading
returns-clause-reading c = whole_reading

pub returns-clause-meaning : goal.returns-clause-meaning
returns-clause-meaning c = whole_meaning
