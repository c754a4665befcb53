use Rattle.spk_frames.proofs.Whole.{torn_front, torn_whole}
use Rattle.spk_frames.proofs.laws.torn.Goals as goal

pub returns-clause-front : goal.returns-clause-front
returns-clause-front c = λ most contents read front lost rest narrow. torn_front most narrow contents read front lost rest

pub returns-clause-whole : goal.returns-clause-whole
returns-clause-whole c = λ most kept more read front lost rest narrow. torn_whole most narrow kept more read front lost rest
