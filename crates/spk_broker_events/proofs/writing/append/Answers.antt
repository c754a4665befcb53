use Rattle.std.proofs.Common.{length, ap, arith}
use Rattle.spk_broker_events.specs.Record.{content, said}
use Rattle.spk_broker_events.proofs.Saying.{small-said}
use Rattle.spk_broker_events.proofs.writing.append.Goals as goal

pub put-requires : goal.put-requires
put-requires c =
    let few = small-said (content (said c.args.event.now)) (said c.args.event.now) c.in_ok-content.ensures.says in
    omega (arith, few, ap length c.in_ok-content.ensures.is, ap length c.deref.ensures.value)
