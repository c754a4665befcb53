use Rattle.spk_edge_rules.proofs.Drains.{never, never-along, sends, takes, whole}
use Rattle.spk_edge_rules.proofs.laws.drains.Goals as goal

pub returns-clause-never : goal.returns-clause-never
returns-clause-never c = never

pub returns-clause-never_along : goal.returns-clause-never_along
returns-clause-never_along c = never-along

pub returns-clause-takes : goal.returns-clause-takes
returns-clause-takes c = takes

pub returns-clause-longest : goal.returns-clause-longest
returns-clause-longest c = sends

pub returns-clause-whole : goal.returns-clause-whole
returns-clause-whole c = whole
