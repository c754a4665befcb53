use Rattle.std.proofs.Common.{length, ap, arith}
use Rattle.spk_packets.specs.View.{view}
use Rattle.spk_broker_rules.specs.Plan as plan
use Rattle.spk_broker_events.specs.Record.{content}
use Rattle.spk_broker_events.proofs.Saying.{small-said}
use Rattle.spk_broker_events.proofs.writing.append_packet.Goals as goal

pub put-requires : goal.put-requires
put-requires c =
    let event = plan.Packet c.args.conn (view c.args.packet.now) c.args.moment in
    let few = small-said (content event) event c.in_ok-content.ensures.says in
    omega (arith, few, ap length c.in_ok-content.ensures.is, ap length c.deref.ensures.value)
