use Rattle.std.proofs.Common.{◌||◌, refl, ap}
use Rattle.spk_clients.proofs.Noted.{noted_put}
use Rattle.spk_clients.proofs.clients.Clients.insert.Goals as goal

pub returns-clause-noted : goal.returns-clause-noted
returns-clause-noted c noted none =
    noted_put c.args.self.now (record c.args.self.now { table = c.insert.new.self; soonest = c.min-self.result; unnamed = c.args.self.now.unnamed || c.is_to_shut-is_to_shut.result }) c.args.conn c.args.client none c.in_ok-insert.ensures.updates.0 refl c.min-self.ensures refl (ap (λ b. c.args.self.now.unnamed || b) c.is_to_shut-is_to_shut.ensures) noted
