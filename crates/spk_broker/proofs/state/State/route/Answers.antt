use Rattle.std.proofs.Common.{◌≡◌, ◌∙◌, sym, ap, refl, List, map, arith}
use Rattle.spk_broker.specs.declared.app_message.AppMessage.{AppMessage}
use Rattle.spk_broker.specs.Drafts.{draft_view}
use Rattle.spk_broker.specs.Parts.{app_message_view}
use Rattle.spk_broker.proofs.Refilled.{without-length}
use Rattle.spk_broker.proofs.Routes.{leads-on, leads-end}
use Rattle.spk_broker.proofs.state.State.route.Goals as goal

pub loop-app_message-preserved : goal.loop-app_message-preserved
loop-app_message-preserved c = record {
  same = c.route_one.ensures.same ∙ c.loop-app_message.invariant.same;
  index = c.in_ok-route_one.ensures.index;
  order = c.in_ok-route_one.ensures.order;
  leads = leads-on c.args.self.now c.loop-app_message.self c.route_one.new.self c.args.draft.now c.loop-app_message.draft (record c.loop-app_message.draft { waiting = c.pop_front.new.self }) c.route_one.new.draft
      (app_message_view c.in-Some.app_message) (map app_message_view c.pop_front.new.self.items)
      (ap (λ (l : List AppMessage). map app_message_view l) c.in-Some.ensures.items) refl c.in_ok-route_one.ensures.done c.loop-app_message.invariant.leads;
}

pub loop-app_message-preserved-in_ok-route_one : goal.loop-app_message-preserved-in_ok-route_one
loop-app_message-preserved-in_ok-route_one c = record {
  same = c.route_one.ensures.same ∙ c.loop-app_message.invariant.same;
  index = c.in_ok-route_one.ensures.index;
  order = c.in_ok-route_one.ensures.order;
  leads = leads-on c.args.self.now c.loop-app_message.self c.route_one.new.self c.args.draft.now c.loop-app_message.draft (record c.loop-app_message.draft { waiting = c.pop_front.new.self }) c.route_one.new.draft
      (app_message_view c.in-Some.app_message) (map app_message_view c.pop_front.new.self.items)
      (ap (λ (l : List AppMessage). map app_message_view l) c.in-Some.ensures.items) refl c.in_ok-route_one.ensures.done c.loop-app_message.invariant.leads;
}

pub returns-clause-done : goal.returns-clause-done
returns-clause-done c =
    let same : map app_message_view c.loop-app_message.draft.waiting.items ≡ map app_message_view c.pop_front.new.self.items = ap (λ (l : List AppMessage). map app_message_view l) c.in_default.ensures.items in
    leads-end c.args.self.now c.loop-app_message.self c.args.draft.now c.loop-app_message.draft (record c.loop-app_message.draft { waiting = c.pop_front.new.self })
    (same ∙ ap (λ (l : List AppMessage). map app_message_view l) (without-length c.pop_front.new.self.items (omega (arith, c.in_default.ensures.cases.1, c.pop_front.new.self.ok)))) (ap (λ l. record (draft_view c.loop-app_message.draft) { waiting = l }) (sym same)) c.loop-app_message.invariant.leads
