use Rattle.std.proofs.Common.{None, if◌then◌else◌, sym, ap, ◌∙◌}
use Rattle.spk_packets.specs.View.{view}
use Rattle.spk_server.proofs.Taking.{came_on, came_to_end}
use Rattle.spk_server.proofs.server.Server.come_packet.Goals as goal

pub returns-in_default-clause-comes : goal.returns-in_default-clause-comes
returns-in_default-clause-comes c =
    came_to_end c.args.self.now c.heard.new.self c.packet_on.new.noted c.hear.new.self c.args.conn (view c.args.packet.now) c.end.new.self c.heard.ensures.done c.in_default.ensures.err c.hear.ensures (c.in_ok-end.ensures.ends None)

pub returns-then-is_publish-clause-comes : goal.returns-then-is_publish-clause-comes
returns-then-is_publish-clause-comes c =
    came_on c.args.self.now c.heard.new.self c.packet_on.new.noted c.hear.new.self c.args.conn (view c.args.packet.now) c.cause_other-other.result c.in-Ok.answer c.in_ok-slow.slow c.in_ok-slow.slow c.hand_on.new.self c.leave_behind.new.self
    c.cause_other-other.ensures c.heard.ensures.done c.hear.ensures c.in-Ok.ensures.on c.in_ok-slow.ensures.hands c.in_ok-leave_behind.ensures.ends
    (ap (λ b. if b then c.in_ok-slow.slow else None) (sym c.if-is_publish.true ∙ c.is_publish.ensures))

pub returns-clause-comes : goal.returns-clause-comes
returns-clause-comes c =
    came_on c.args.self.now c.heard.new.self c.packet_on.new.noted c.hear.new.self c.args.conn (view c.args.packet.now) c.cause_other-other.result c.in-Ok.answer c.in_ok-slow.slow None c.hand_on.new.self c.leave_behind.new.self
    c.cause_other-other.ensures c.heard.ensures.done c.hear.ensures c.in-Ok.ensures.on c.in_ok-slow.ensures.hands c.in_ok-leave_behind.ensures.ends
    (ap (λ b. if b then c.in_ok-slow.slow else None) (sym c.if-is_publish.false ∙ c.is_publish.ensures))
