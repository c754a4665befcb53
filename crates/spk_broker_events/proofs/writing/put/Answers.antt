use Rattle.std.proofs.Common.{◌<◌, length, subst, arith}
use Rattle.spk_frames.specs.Fault.{IsRefusedFor}
use Rattle.spk_broker_events.proofs.writing.put.Goals as goal

pub unreachable-requires : goal.unreachable-requires
unreachable-requires c =
    let long : 1048593 < length c.args.content.now = subst (IsRefusedFor 1048593 c.args.content.now) c.in-Err-LongContent.field-0-is c.in-Err-LongContent.ensures.refused in
    omega (arith, c.requires, long)
