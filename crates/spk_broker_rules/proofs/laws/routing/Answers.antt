use Rattle.spk_broker_rules.proofs.Routing.{route-done, route-next}
use Rattle.spk_broker_rules.proofs.laws.routing.Goals as goal

pub returns-clause-done : goal.returns-clause-done
returns-clause-done c = route-done

pub returns-clause-next : goal.returns-clause-next
returns-clause-next c = λ t m ms is. route-next m ms t is
