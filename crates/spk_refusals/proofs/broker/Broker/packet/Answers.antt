use Rattle.std.proofs.Common.{arith, sym}
use Rattle.spk_refusals.proofs.broker.Broker.packet.Goals as goal

pub returns-clause-sends : goal.returns-clause-sends
returns-clause-sends c = rw (sym c.self.view_is) (first_of (assumption c.packet.ensures.sends, grind arith))

pub returns-clause-closes : goal.returns-clause-closes
returns-clause-closes c = rw (sym c.self.view_is) (first_of (assumption c.packet.ensures.closes, grind arith))

pub returns-clause-done : goal.returns-clause-done
returns-clause-done c = rw (sym c.self.view_is) (first_of (assumption c.packet.ensures.done, grind arith))

pub returns-clause-accepted : goal.returns-clause-accepted
returns-clause-accepted c = rw (sym c.self.view_is) (first_of (assumption c.packet.ensures.accepted, grind arith))

pub returns-clause-fault : goal.returns-clause-fault
returns-clause-fault c = rw (sym c.self.view_is) (first_of (assumption c.packet.ensures.fault, grind arith))

pub returns-clause-err : goal.returns-clause-err
returns-clause-err c = rw (sym c.self.view_is) (first_of (assumption c.packet.ensures.err, grind arith))
