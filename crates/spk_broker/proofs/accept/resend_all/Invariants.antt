use Rattle.std.proofs.Common.{◌≡◌, map, take}
use Rattle.spk_broker_rules.specs.Words.{resent}
use Rattle.spk_broker.specs.Drafts.{draft_view}
use Rattle.spk_broker.specs.Entering.{with_sends}
use Rattle.spk_broker.specs.Parts.{in_flight_view}
use Rattle.spk_broker.proofs.accept.resend_all.Given as goal

abbrev pub invariant-loop-message : goal.invariant-loop-message
invariant-loop-message l = draft_view l.draft ≡ with_sends (resent l.conn (map in_flight_view (take l.message-index l.in_flight))) (draft_view l.initial.draft)
