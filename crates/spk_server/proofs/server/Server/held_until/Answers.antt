use Rattle.std.proofs.Common.{◌∙◌, ap, arith}
use Rattle.std.specs.VecDeque.Iter.{deque_iter_rest}
use Rattle.spk_clients.specs.Data.{client_at}
use Rattle.spk_server.proofs.Due.{all_waits, no_more_waits}
use Rattle.spk_server.proofs.server.Server.held_until.Goals as goal

pub loop-conn-init : goal.loop-conn-init
loop-conn-init c =
    (all_waits (client_at c.args.self.now.clients) (deque_iter_rest c.into_iter-conn-iterator.result) c.args.self.now.held.items (ap deque_iter_rest c.into_iter-conn-iterator.ensures.into_iter_gives ∙ c.iter-conn-items.ensures.rest), omega arith)

pub returns : goal.returns
returns c =
    no_more_waits (client_at c.args.self.now.clients) (deque_iter_rest c.loop-conn.conn-iterator) c.loop-conn.first _ c.in-None.ensures.steps.0 c.loop-conn.invariant.1 c.loop-conn.invariant.0
