use Rattle.std.proofs.Common.{◌≡◌, map, drop}
use Rattle.spk_broker_rules.specs.Step.{serve}
use Rattle.spk_broker.specs.Called.{AreKeyed}
use Rattle.spk_broker.specs.Drafts.{draft_view}
use Rattle.spk_broker.specs.Parts.{app_message_view}
use Rattle.spk_broker.specs.View.{session_was}
use Rattle.spk_broker.proofs.Rounds.{left_all, left_so_far, round_all}
use Rattle.spk_broker.proofs.route.visit.Given as goal

abbrev pub invariant-loop-session : goal.invariant-loop-session
invariant-loop-session l = record {
  keyed : AreKeyed l.initial.sessions → AreKeyed l.sessions;
  delivery : l.delivery ≡ app_message_view l.app_message;
  was : map session_was l.sessions ≡ map session_was l.initial.sessions;
  left : left_so_far (serve (app_message_view l.app_message)) l.sessions l.session-index ≡ left_all (serve (app_message_view l.app_message)) l.initial.sessions;
  drafted : round_all (serve (app_message_view l.app_message)) (drop l.session-index l.sessions) (draft_view l.draft) ≡ round_all (serve (app_message_view l.app_message)) l.initial.sessions (draft_view l.initial.draft);
}
