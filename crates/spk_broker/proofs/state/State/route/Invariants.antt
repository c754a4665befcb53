use Rattle.std.proofs.Common.{◌≡◌}
use Rattle.spk_broker.specs.View.{state_now, state_was, how_many}
use Rattle.spk_broker.specs.Called.{AreInOrder}
use Rattle.spk_broker.specs.Filing.{IsIndex}
use Rattle.spk_broker.proofs.Routes.{Leads}
use Rattle.spk_broker.proofs.state.State.route.Given as goal

abbrev pub invariant-loop-app_message : goal.invariant-loop-app_message
invariant-loop-app_message l = record {
  same : state_was l.self ≡ state_was l.initial.self;
  index : IsIndex l.tree (state_now l.self).sessions;
  order : AreInOrder l.tree l.self.sessions.items;
  leads : Leads l.initial.self l.self l.initial.draft l.draft;
}

abbrev pub decreases-loop-app_message : goal.decreases-loop-app_message
decreases-loop-app_message l = how_many l.self l.draft
