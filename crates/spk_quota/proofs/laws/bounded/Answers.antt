use Rattle.spk_quota.proofs.Growing.{calls-within, fresh-within, resume-given}
use Rattle.spk_quota.proofs.laws.bounded.Goals as goal

pub returns-clause-fresh : goal.returns-clause-fresh
returns-clause-fresh c = fresh-within

pub returns-clause-behind : goal.returns-clause-behind
returns-clause-behind c = calls-within

pub returns-clause-given : goal.returns-clause-given
returns-clause-given c = resume-given
