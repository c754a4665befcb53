use Rattle.spk_broker_events.proofs.Lines.{no-line-of-none}
use Rattle.spk_broker_events.proofs.Saying.{nil-few}
use Rattle.spk_broker_events.proofs.line_reading.read_line.Goals as goal

pub returns-in_default : goal.returns-in_default
returns-in_default c = no-line-of-none c.args.content.now (nil-few c.args.content.now c.in_default.len_below)
