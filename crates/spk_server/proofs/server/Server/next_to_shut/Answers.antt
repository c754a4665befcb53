use Rattle.spk_server.proofs.Shutting.{none_shut, shut_done, some_shut}
use Rattle.spk_server.proofs.server.Server.next_to_shut.Goals as goal

pub returns-clause-done : goal.returns-clause-done
returns-clause-done c settled =
    shut_done c.args.self.now c.next_to_shut.new.self c.next_to_shut.result c.next_to_shut.ensures.some c.next_to_shut.ensures.none c.next_to_shut.ensures.nobody settled.0

pub returns-clause-some : goal.returns-clause-some
returns-clause-some c = some_shut c.args.self.now c.next_to_shut.new.self c.next_to_shut.result c.next_to_shut.ensures.some

pub returns-clause-none : goal.returns-clause-none
returns-clause-none c = none_shut c.args.self.now c.next_to_shut.new.self c.next_to_shut.result c.next_to_shut.ensures.none
