use Rattle.std.proofs.Common.{◌≡◌, ◌≤◌, min}
use Rattle.std.specs.VecDeque.Iter.{deque_iter_rest}
use Rattle.spk_clients.specs.Client.{most_number}
use Rattle.spk_clients.specs.Data.{client_at}
use Rattle.spk_server.specs.Step.{first_wait}
use Rattle.spk_server.proofs.server.Server.held_until.Given as goal

-- the first of all waits is the first of what stands noted and of the rest
abbrev pub invariant-loop-conn : goal.invariant-loop-conn
invariant-loop-conn l = (min l.first (first_wait (client_at l.self.clients) (deque_iter_rest l.conn-iterator)) ≡ first_wait (client_at l.self.clients) l.self.held.items)
    × (l.first ≤ most_number)
