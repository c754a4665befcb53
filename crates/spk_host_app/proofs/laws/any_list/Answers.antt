use Rattle.spk_host_app.proofs.Along.{connections, hosts, worded}
use Rattle.spk_host_app.proofs.laws.any_list.Goals as goal

pub returns-clause-host : goal.returns-clause-host
returns-clause-host c = hosts

pub returns-clause-read : goal.returns-clause-read
returns-clause-read c = λ config keep spread login ds a run.
    c.any_list.ensures.read keep spread _ a.connection (connections config keep spread login c.any_list.ensures.writes ds a run)

pub returns-clause-written : goal.returns-clause-written
returns-clause-written c = λ config keep spread login ds a run.
    c.any_list.ensures.written keep spread _ a.connection (connections config keep spread login c.any_list.ensures.writes ds a run)

pub returns-clause-closed : goal.returns-clause-closed
returns-clause-closed c = λ config keep spread login ds a run.
    c.any_list.ensures.closed keep spread _ a.connection (connections config keep spread login c.any_list.ensures.writes ds a run)

pub returns-clause-link : goal.returns-clause-link
returns-clause-link c = λ config keep spread login ds a run.
    c.any_list.ensures.link keep spread _ a.connection (connections config keep spread login c.any_list.ensures.writes ds a run)

pub returns-clause-said : goal.returns-clause-said
returns-clause-said c = worded
