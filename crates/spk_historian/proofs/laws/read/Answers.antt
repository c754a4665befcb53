use Rattle.spk_historian.proofs.Parted.{torn_read, whole_read}
use Rattle.spk_historian.proofs.laws.read.Goals as goal

pub returns-clause-whole : goal.returns-clause-whole
returns-clause-whole c = whole_read c.parts.ensures.whole

pub returns-clause-torn : goal.returns-clause-torn
returns-clause-torn c = torn_read c.parts.ensures.torn
