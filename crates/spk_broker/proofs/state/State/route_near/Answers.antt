use Rattle.std.proofs.Common.{◌≡◌, ◌∙◌, sym, ap, refl, List, length, map, arith, subst}
use Rattle.std.specs.VecDeque.{deque_len}
use Rattle.spk_broker_rules.specs.Plan.{Route}
use Rattle.spk_broker_rules.specs.Step.{Turn, act}
use Rattle.spk_broker_rules.proofs.Lists.{eqb-is}
use Rattle.spk_broker.specs.declared.app_message.AppMessage.{AppMessage}
use Rattle.spk_broker.specs.Drafts.{draft_view}
use Rattle.spk_broker.specs.Parts.{app_message_view}
use Rattle.spk_broker.specs.View.{Stands}
use Rattle.spk_broker.proofs.Packeted.{leads-plain, leads-same}
use Rattle.spk_broker.proofs.Refilled.{without-length}
use Rattle.spk_broker.proofs.Routes.{leads-begin, leads-end, leads-on}
use Rattle.spk_broker.proofs.state.State.route_near.Goals as goal

pub returns-in_default-clause-done : goal.returns-in_default-clause-done
returns-in_default-clause-done c t s =
    let d = c.args.self.now in
    let x = c.args.draft.now in
    let y = record x { waiting = c.pop_front.new.self } in
    let same : map app_message_view x.waiting.items ≡ map app_message_view c.pop_front.new.self.items = ap (λ (l : List AppMessage). map app_message_view l) c.in_default.ensures.items in
    leads-same d y (act Route t) c.alone.result c.alone.ensures.nothing
    (leads-end d d x x y
    (same ∙ ap (λ (l : List AppMessage). map app_message_view l) (without-length c.pop_front.new.self.items (omega (arith, c.in_default.ensures.cases.1, c.pop_front.new.self.ok))))
    (ap (λ l. record (draft_view x) { waiting = l }) (sym same)) (leads-begin d x) t s)

pub returns-then-is_empty-clause-done : goal.returns-then-is_empty-clause-done
returns-then-is_empty-clause-done c t s =
    let d = c.args.self.now in
    let x = c.args.draft.now in
    let y = c.route_one.new.draft in
    let none : deque_len c.route_one.new.draft.waiting ≡ 0 = eqb-is (deque_len c.route_one.new.draft.waiting) 0 (sym c.is_empty.ensures ∙ c.if-is_empty.true) in
    let long : length c.route_one.new.draft.waiting.items ≡ 0 = omega (arith, none, c.route_one.new.draft.waiting.ok) in
    let lead = leads-on d d c.route_one.new.self x x (record x { waiting = c.pop_front.new.self }) y (app_message_view c.in-Some.app_message) (map app_message_view c.pop_front.new.self.items)
    (ap (λ (l : List AppMessage). map app_message_view l) c.in-Some.ensures.items) refl c.in_ok-places.ensures.done (leads-begin d x) in
    leads-same c.route_one.new.self y (act Route t) c.few.result c.few.ensures.nothing
    (leads-end d c.route_one.new.self x y y (ap (λ (l : List AppMessage). map app_message_view l) (without-length y.waiting.items long)) refl lead t s)

pub returns-clause-done : goal.returns-clause-done
returns-clause-done c t s =
    let d = c.args.self.now in
    let x = c.args.draft.now in
    let lead = leads-on d d c.route_one.new.self x x (record x { waiting = c.pop_front.new.self }) c.route_one.new.draft (app_message_view c.in-Some.app_message) (map app_message_view c.pop_front.new.self.items)
    (ap (λ (l : List AppMessage). map app_message_view l) c.in-Some.ensures.items) refl c.in_ok-places.ensures.done (leads-begin d x) in
    let w = lead.at t s in
    leads-plain c.route.new.self c.route.new.draft (act Route t) (subst (λ (u : Turn). Stands c.route.new.self c.route.new.draft u) w.2 (c.in_ok-route.ensures.done w.0 w.1))

pub returns-then-is_empty-clause-ready : goal.returns-then-is_empty-clause-ready
returns-then-is_empty-clause-ready c =
    c.few.ensures.ready c.args.self.now c.route_one.new.self c.requires.alone c.in_ok-places.ensures.visited c.route_one.ensures.newcomers

pub returns-in_default-clause-ready : goal.returns-in_default-clause-ready
returns-in_default-clause-ready c = c.alone.ensures.ready c.args.self.now c.requires.alone
