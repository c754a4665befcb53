use Rattle.std.proofs.Common.{◌∙◌, sym, ap, refl}
use Rattle.spk_server.specs.Data.{Room}
use Rattle.spk_server.specs.Rooms.{room_of}
use Rattle.spk_server.proofs.Times.{freed_is, waited_is}
use Rattle.spk_server.proofs.server.Server.go_on_with_next.Goals as goal

pub returns-then-still_waits-clause-goes : goal.returns-then-still_waits-clause-goes
returns-then-still_waits-clause-goes c settled =
    waited_is c.args.self.now (record c.args.self.now { held = c.push_back.new.self }) c.in-Some.conn c.pop_front.new.self.items settled c.in-Some.ensures.items (sym c.still_waits.ensures ∙ c.if-still_waits.true)
    (ap {B = Room} (λ h. record (room_of c.args.self.now) { held = h }) c.in_ok-push_back.ensures.items)

pub returns-clause-goes : goal.returns-clause-goes
returns-clause-goes c settled =
    freed_is c.args.self.now (record c.args.self.now { held = c.pop_front.new.self }) c.in-Some.conn c.pop_front.new.self.items _ settled c.in-Some.ensures.items (sym c.still_waits.ensures ∙ c.if-still_waits.false)
    refl (c.in_ok-release.ensures.takes settled)
