use Rattle.std.proofs.Common.{[], refl}
use Rattle.spk_broker_replay.specs.Replay.{restored}
use Rattle.spk_server.specs.Data.{Begun}
use Rattle.spk_server.specs.Step.{after}
use Rattle.spk_server.proofs.Notes.{broker_run, none_run, notes_run}
use Rattle.spk_server.proofs.laws.notes_are_of_the_log.Goals as goal

pub returns-clause-broker : goal.returns-clause-broker
returns-clause-broker c = broker_run

pub returns-clause-notes : goal.returns-clause-notes
returns-clause-notes c = λ limit log r s run none. notes_run c.noted.ensures.notes log (after Begun r) s (record { clock = 0; bytes = [] }) (restored limit r.noted.broker) run none refl refl

pub returns-clause-none : goal.returns-clause-none
returns-clause-none c = none_run
