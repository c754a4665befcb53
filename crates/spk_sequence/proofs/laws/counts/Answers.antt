use Rattle.spk_sequence.proofs.FateLemmas.{balance, one_fate_each, consumed_fates, dropped_fates, held_at_end, away_fates}
use Rattle.spk_sequence.proofs.laws.counts.Goals as goal

pub returns-clause-balance : goal.returns-clause-balance
returns-clause-balance c = balance

pub returns-clause-handed : goal.returns-clause-handed
returns-clause-handed c = one_fate_each

pub returns-clause-consumed : goal.returns-clause-consumed
returns-clause-consumed c = consumed_fates

pub returns-clause-dropped : goal.returns-clause-dropped
returns-clause-dropped c = dropped_fates

pub returns-clause-held : goal.returns-clause-held
returns-clause-held c = held_at_end

pub returns-clause-turned_away : goal.returns-clause-turned_away
returns-clause-turned_away c = away_fates
