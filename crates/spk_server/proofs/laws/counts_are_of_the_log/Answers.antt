use Rattle.spk_server.proofs.Counted.{dropped_is, heard_is, sent_is, stalls_is}
use Rattle.spk_server.proofs.laws.counts_are_of_the_log.Goals as goal

pub returns-clause-heard : goal.returns-clause-heard
returns-clause-heard c = heard_is

pub returns-clause-sent : goal.returns-clause-sent
returns-clause-sent c = sent_is

pub returns-clause-dropped : goal.returns-clause-dropped
returns-clause-dropped c = dropped_is

pub returns-clause-stalls : goal.returns-clause-stalls
returns-clause-stalls c = stalls_is
