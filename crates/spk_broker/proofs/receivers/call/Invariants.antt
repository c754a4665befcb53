use Rattle.std.proofs.Common.{◌≡◌}
use Rattle.spk_broker.specs.Called.{AreKeyed}
use Rattle.spk_broker.specs.Drafts.{draft_view}
use Rattle.spk_broker.specs.Parts.{app_message_view}
use Rattle.spk_broker.proofs.Touched.{IsApart}
use Rattle.spk_broker.proofs.Visits.{Calling}
use Rattle.spk_broker.proofs.receivers.call.Given as goal

abbrev pub invariant-loop-place : goal.invariant-loop-place
invariant-loop-place l = record {
  keyed : AreKeyed l.initial.sessions → AreKeyed l.sessions;
  delivery : l.delivery ≡ app_message_view l.app_message;
  calling : Calling (app_message_view l.app_message) l.places l.place-index l.initial.sessions l.sessions (draft_view l.initial.draft) (draft_view l.draft);
  apart : IsApart l.places l.initial.sessions l.sessions;
}
