use Rattle.spk_sequence.proofs.NumberLemmas.{keeps_numbers, tick_remains, death_remains, tick_whole, death_whole}
use Rattle.spk_sequence.proofs.laws.numbers.Goals as goal

pub returns-clause-hand : goal.returns-clause-hand
returns-clause-hand c = keeps_numbers

pub returns-clause-tick : goal.returns-clause-tick
returns-clause-tick c = tick_remains

pub returns-clause-death : goal.returns-clause-death
returns-clause-death c = death_remains

pub returns-clause-tick_whole : goal.returns-clause-tick_whole
returns-clause-tick_whole c = tick_whole

pub returns-clause-death_whole : goal.returns-clause-death_whole
returns-clause-death_whole c = death_whole
