use Rattle.std.proofs.Common.{◌≡◌, map, rules, sym, subst, true}
use Rattle.spk_broker.specs.Parts.{app_message_view, retained_view}
use Rattle.spk_broker.specs.Sendable.{are_sendable}
use Rattle.spk_broker.proofs.Keepers.{good-retained}
use Rattle.spk_broker.proofs.retained.retain_all.Goals as goal

pub loop-app_message-preserved : goal.loop-app_message-preserved
loop-app_message-preserved c = record {
  table = search rules;
  room = search rules;
  sendable = λ h. subst (λ t. are_sendable t ≡ true) (sym c.retain.ensures.table)
      (good-retained (app_message_view c.in-Some.app_message) (map retained_view c.loop-app_message.retained.entries) c.in-Some.app_message.sendable (c.loop-app_message.invariant.sendable h));
}
