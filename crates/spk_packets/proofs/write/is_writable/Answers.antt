use Rattle.std.proofs.Common.{◌∙◌}
use Rattle.spk_packets.specs.View.{view}
use Rattle.spk_packets.proofs.Written.{held, is_ok_writable}
use Rattle.spk_packets.proofs.write.is_writable.Goals as goal

pub returns-then-is_ok : goal.returns-then-is_ok
returns-then-is_ok c = c.is_ok-then-is_ok.ensures.value ∙ is_ok_writable (view c.args.packet.now) c.whole_of.result c.body_size.result c.body_size.ensures (held c.judge.result c.is_ok.result c.is_ok.ensures.value c.if-is_ok.true c.judge.ensures.ok) c.whole_of.ensures.ok c.whole_of.ensures.err
