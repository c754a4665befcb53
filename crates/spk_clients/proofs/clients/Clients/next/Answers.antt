use Rattle.std.proofs.Common.{arith}
use Rattle.spk_clients.proofs.Noted.{front_keeps, noted_kept}
use Rattle.spk_clients.specs.Data.{client_at}
use Rattle.spk_clients.specs.declared.clients.Clients.{Clients}
use Rattle.spk_clients.proofs.clients.Clients.next.Goals as goal

pub returns-clause-noted : goal.returns-clause-noted
returns-clause-noted c noted =
    let new : Clients = record c.args.self.now { table = c.next_at.new.table } in
    noted_kept c.args.self.now new c.args.conn c.next_at.ensures.others
    (front_keeps new c.args.conn (client_at c.args.self.now c.args.conn) (client_at new c.args.conn) c.next_at.result c.next_at.ensures.here)
    (λ k h. h) (omega arith) (λ k h. h) noted
