use Rattle.spk_history.proofs.Whole.{torn_front, torn_whole}
use Rattle.spk_history.proofs.laws.torn.Goals as goal

pub returns-clause-front : goal.returns-clause-front
returns-clause-front c = torn_front

pub returns-clause-whole : goal.returns-clause-whole
returns-clause-whole c = torn_whole
