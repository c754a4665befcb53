use Rattle.spk_broker.proofs.Visits.{Met}
use Rattle.spk_broker.proofs.receivers.places.Given as goal

abbrev pub invariant-loop-entry : goal.invariant-loop-entry
invariant-loop-entry l = Met l.found l.entry-index l.places.items l.from l.sessions
