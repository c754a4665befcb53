use Rattle.std.proofs.Common.{◌∙◌, [], ◌∷◌, ap}
use Rattle.spk_broker.specs.Drafts.{draft_view}
use Rattle.spk_broker.specs.Entering.{again, with_sends}
use Rattle.spk_broker.specs.Parts.{in_flight_view}
use Rattle.spk_broker.proofs.Sending.{all-resent, no-sends, one-resent}
use Rattle.spk_broker.proofs.accept.resend_all.Goals as goal

pub loop-message-init : goal.loop-message-init
loop-message-init c = no-sends (draft_view c.args.draft.now)

pub loop-message-preserved : goal.loop-message-preserved
loop-message-preserved c =
    c.in_ok-resend.ensures ∙ ap (with_sends (again c.args.conn (in_flight_view c.message-item.result) ∷ [])) c.loop-message.invariant
    ∙ one-resent c.args.conn c.args.in_flight.now c.loop-message.message-index c.message-item.result c.message-item.result (draft_view c.args.draft.now) c.loop-message-test.true c.message-item.is

pub returns : goal.returns
returns c = c.loop-message.invariant ∙ all-resent c.args.conn c.args.in_flight.now c.loop-message.message-index (draft_view c.args.draft.now) c.loop-message-test.false
