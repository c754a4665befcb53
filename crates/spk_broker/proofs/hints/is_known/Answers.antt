use Rattle.std.proofs.Common.{◌||◌, ◌∙◌, ap, arith, is_some, sym}
use Rattle.spk_broker_rules.specs.Step.{session_by}
use Rattle.spk_broker.specs.Asking.{sessions_now}
use Rattle.spk_broker.proofs.Near.{joined-in}
use Rattle.spk_broker.proofs.hints.is_known.Goals as goal

pub returns : goal.returns
returns c =
    c.is_some.ensures ∙ joined-in c.args.conn c.args.state.now.sessions.items c.args.place c.requires.place
    ∙ sym (ap (λ b. b || is_some (session_by c.args.conn (sessions_now c.args.state.now.sessions.items))) (c.requires.new (omega (arith, c.if-near-len.false, c.len.ensures))))
