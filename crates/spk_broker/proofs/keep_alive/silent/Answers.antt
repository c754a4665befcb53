use Rattle.std.proofs.Common.{arith, ◌∙◌, sym}
use Rattle.spk_broker.specs.Asking.{sessions_now}
use Rattle.spk_broker.proofs.Silence.{nobody-silent}
use Rattle.spk_broker.proofs.keep_alive.silent.Goals as goal

pub returns-then-clock-calm-clause-silent : goal.returns-then-clock-calm-clause-silent
returns-then-clock-calm-clause-silent c =
    c.new.ensures.items ∙ sym (nobody-silent c.args.calm.now c.args.clock (omega (arith, c.if-clock-calm.true)) (sessions_now c.args.sessions.now) c.requires.calm)
