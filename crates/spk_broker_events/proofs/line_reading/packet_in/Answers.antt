use Rattle.std.proofs.Common.{arith, length}
use Rattle.spk_packets.specs.View.{view}
use Rattle.spk_broker_events.proofs.Lines.{anything-else, more-than-one}
use Rattle.spk_broker_events.proofs.Saying.{not-nil}
use Rattle.spk_broker_events.proofs.line_reading.packet_in.Goals as goal

pub returns-else-len-bytes : goal.returns-else-len-bytes
returns-else-len-bytes c =
    more-than-one c.args.bytes.now (view c.in-Ok.packet) c.in-Ok.len c.if-len-bytes.false (not-nil c.args.bytes.now c.is_empty.result c.is_empty.ensures c.if-is_empty.false)
    (λ p s. c.in-Ok.ensures.only p (length c.args.bytes.now) (omega arith) s)

pub returns-in-Err : goal.returns-in-Err
returns-in-Err c =
    anything-else c.args.bytes.now c.in-Err.fault c.none_by.result c.none_by.ensures.none c.none_by.ensures.named (not-nil c.args.bytes.now c.is_empty.result c.is_empty.ensures c.if-is_empty.false)
    (λ p s. c.in-Err.ensures.only p (length c.args.bytes.now) (omega arith) s)
