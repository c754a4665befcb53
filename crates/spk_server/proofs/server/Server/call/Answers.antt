use Rattle.std.proofs.Common.{sym, ◌∙◌}
use Rattle.spk_server.proofs.Times.{dropped_is, silent_is}
use Rattle.spk_server.proofs.server.Server.call.Goals as goal

pub returns-then-is_quiet-clause-calls : goal.returns-then-is_quiet-clause-calls
returns-then-is_quiet-clause-calls c settled has =
    silent_is c.args.self.now c.give_up.new.self c.args.conn settled has (sym c.is_quiet.ensures ∙ c.if-is_quiet.true) c.in_ok-give_up.ensures.ends

pub returns-clause-calls : goal.returns-clause-calls
returns-clause-calls c settled has =
    dropped_is c.args.self.now c.give_up-2.new.self c.args.conn settled has (sym c.is_quiet.ensures ∙ c.if-is_quiet.false) c.in_ok-give_up-2.ensures.done
