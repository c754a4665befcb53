use Rattle.spk_broker.proofs.Visits.{found-called}
use Rattle.spk_broker.proofs.route.found_places.Goals as goal

pub returns-in_ok-places-in-Some-clause-others : goal.returns-in_ok-places-in-Some-clause-others
returns-in_ok-places-in-Some-clause-others c =
    found-called c.in_ok-places-in-Some.field-0.items c.args.found.now c.in-Some.found c.deref.result.now c.args.sessions.now c.in-Some.is c.deref.ensures.value c.in_ok-places-in-Some.ensures.others
