use Rattle.spk_server.proofs.Taking.{broke_is, want_is}
use Rattle.spk_server.proofs.server.Server.take_fault.Goals as goal

pub returns-in-NoMemory-clause-takes : goal.returns-in-NoMemory-clause-takes
returns-in-NoMemory-clause-takes c settled has more = want_is c.args.self.now c.give_up.new.self c.args.conn c.in_ok-give_up-in-NoMemory.ensures.ends

pub returns-in_default-clause-takes : goal.returns-in_default-clause-takes
returns-in_default-clause-takes c settled has more =
    broke_is c.args.self.now c.fault.new.self c.args.conn c.args.fault settled has more c.in_default.not-NoMemory c.in_ok-fault-in_default.ensures.comes
