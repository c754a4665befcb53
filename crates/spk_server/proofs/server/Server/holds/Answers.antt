use Rattle.std.proofs.Common.{Option, ℕ, [], ◌∷◌, ◌++◌, subst, sym, ap, ◌∙◌}
use Rattle.spk_server.specs.declared.tally.Tally.{Tally}
use Rattle.spk_server.specs.Data.{Room}
use Rattle.spk_server.specs.Log.{Reaches, takes}
use Rattle.spk_server.specs.Rooms.{amid, room_of, slow_for}
use Rattle.spk_server.proofs.Taking.{tried_is, tried_not}
use Rattle.spk_server.proofs.server.Server.holds.Goals as goal

pub returns-then-not-begin_waiting-clause-takes : goal.returns-then-not-begin_waiting-clause-takes
returns-then-not-begin_waiting-clause-takes c settled =
    subst (λ (o : Option ℕ). Reaches (takes c.args.conn) (amid c.args.self.now [] [] (slow_for c.args.conn o)) (room_of (record c.args.self.now { clients = c.begin_waiting.new.self }))) (sym c.in-Some.is)
    (tried_not c.args.self.now c.begin_waiting.new.self c.args.conn c.in-Some.slow c.begin_waiting.result settled c.begin_waiting.ensures.done c.begin_waiting.ensures.waits c.if-not-begin_waiting.true)

pub returns-clause-takes : goal.returns-clause-takes
returns-clause-takes c settled =
    subst (λ (o : Option ℕ). Reaches (takes c.args.conn) (amid c.args.self.now [] [] (slow_for c.args.conn o)) (room_of (record c.args.self.now { clients = c.wait.new.self; held = c.push_back.new.self; tally = c.stall.new.self }))) (sym c.in-Some.is)
    (tried_is c.args.self.now (record c.args.self.now { clients = c.wait.new.self; held = c.push_back.new.self; tally = c.stall.new.self }) c.begin_waiting.new.self c.wait.new.self c.args.conn c.in-Some.slow c.begin_waiting.result settled
    c.begin_waiting.ensures.done c.begin_waiting.ensures.waits c.if-not-begin_waiting.false c.wait.ensures.done
    (ap {B = Room} (λ h. record (room_of (record c.args.self.now { clients = c.wait.new.self; tally = c.stall.new.self })) { held = h }) c.in_ok-push_back.ensures.items
    ∙ ap {A = Tally} {B = Room} (λ t. record (room_of (record c.args.self.now { clients = c.wait.new.self })) { held = c.args.self.now.held.items ++ c.args.conn ∷ []; tally = t }) c.stall.ensures))
