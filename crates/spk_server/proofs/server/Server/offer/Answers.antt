use Rattle.std.proofs.Common.{Some, if◌then◌else◌, sym, ap, ◌∙◌}
use Rattle.spk_broker.specs.Sent.{sent_view}
use Rattle.spk_server.specs.Tallies.{handed_with}
use Rattle.spk_server.proofs.Rooms.{handed_is}
use Rattle.spk_server.proofs.server.Server.offer.Goals as goal

pub returns-then-has_many-clause-hands : goal.returns-then-has_many-clause-hands
returns-then-has_many-clause-hands c by rest closes before =
    let r = c.in_ok-answer in
    handed_is c.args.self.now c.offer.new.self c.hand.new.self (sent_view c.args.send) r.answer.0 r.answer.1 c.args.slow _ r.ensures.offered r.ensures.others r.ensures.many
    (c.hand.ensures ∙ ap (λ m. handed_with r.answer.0 m c.args.self.now.tally) c.is_message-message.ensures)
    (ap (λ b. if b then Some c.args.send.conn else c.args.slow) (sym c.if-has_many.true)) by rest closes before

pub returns-clause-hands : goal.returns-clause-hands
returns-clause-hands c by rest closes before =
    let r = c.in_ok-answer in
    handed_is c.args.self.now c.offer.new.self c.hand.new.self (sent_view c.args.send) r.answer.0 r.answer.1 c.args.slow _ r.ensures.offered r.ensures.others r.ensures.many
    (c.hand.ensures ∙ ap (λ m. handed_with r.answer.0 m c.args.self.now.tally) c.is_message-message.ensures)
    (ap (λ b. if b then Some c.args.send.conn else c.args.slow) (sym c.if-has_many.false)) by rest closes before
