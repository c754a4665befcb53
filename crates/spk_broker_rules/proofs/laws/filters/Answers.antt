use Rattle.spk_broker_rules.proofs.Topics.{alike-first, alike-heard, alike-kept, heard-joined}
use Rattle.spk_broker_rules.proofs.laws.filters.Goals as goal

pub returns-clause-heard : goal.returns-clause-heard
returns-clause-heard c = heard-joined

pub returns-clause-first : goal.returns-clause-first
returns-clause-first c = alike-first

pub returns-clause-kept : goal.returns-clause-kept
returns-clause-kept c = alike-kept

pub returns-clause-alike : goal.returns-clause-alike
returns-clause-alike c = alike-heard
