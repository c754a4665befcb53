use Rattle.spk_broker.proofs.Touched.{few-touched}
use Rattle.spk_broker.proofs.packet_end.Ending.few.Goals as goal

pub returns-clause-ready : goal.returns-clause-ready
returns-clause-ready c old new here there same =
    few-touched c.args.sender c.args.places c.in-Some.sender c.in-Some-places.places old new c.in-Some.is c.in-Some-places.is here there same
