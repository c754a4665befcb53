use Rattle.std.proofs.Common.{Global, Vec, ◌∙◌, ap, subst, sym}
use Rattle.std.specs.List.{flat_map}
use Rattle.spk_broker_rules.specs.Plan.{At}
use Rattle.spk_broker_rules.specs.Step.{act, silent_at}
use Rattle.spk_broker.specs.Asking.{sessions_now}
use Rattle.spk_broker.specs.Called.{AreKeyed}
use Rattle.spk_broker.specs.declared.session.Session.{Session}
use Rattle.spk_broker.proofs.Leaving.{order-left}
use Rattle.spk_broker.proofs.Packeted.{leads-plain}
use Rattle.spk_broker.proofs.Ruled.{tick-stands}
use Rattle.spk_broker.proofs.Touched.{alone-as, low-as, settled-at}
use Rattle.spk_broker.proofs.state.State.draft_tick.Goals as goal

pub returns-clause-done : goal.returns-clause-done
returns-clause-done c t s =
    let s1 = c.at.ensures.done c.args.draft.now t s in
    leads-plain c.route_after.new.self c.route_after.new.draft _
    (tick-stands c.at.new.self c.route_after.new.self c.args.draft.now c.route_after.new.draft c.args.now c.deref-2.result.now t s1
    (c.deref-2.ensures.value ∙ c.in_ok-conns.ensures.silent ∙ ap (λ l. flat_map (silent_at c.at.new.self.clock) (sessions_now l)) c.deref.ensures.value)
    (c.in_ok-route_after.ensures.done _ (c.in_ok-end_all.ensures.done (act (At c.args.now) t) s1)))

pub route_near-requires-clause-alone : goal.route_near-requires-clause-alone
route_near-requires-clause-alone c =
    alone-as c.first_place-first.result c.args.self.now c.at.new.self c.at.ensures.sessions c.at.ensures.newcomers
    (settled-at c.args.self.now c.first_place-first.result c.requires.settled
    (low-as c.first_place-first.result c.deref-then-is_empty.result.now c.args.self.now.sessions.items (c.deref-then-is_empty.ensures.value ∙ ap (λ (v : Vec Session Global). v.items) c.at.ensures.sessions) c.first_place-first.ensures.some))

pub route_after-requires-clause-order : goal.route_after-requires-clause-order
route_after-requires-clause-order c =
    order-left c.args.tree.now c.args.self.now c.end_all.new.self (c.end_all.ensures.same ∙ c.at.ensures.same)
    (λ keyed. c.in_ok-end_all.ensures.keyed (subst (λ (v : Vec Session Global). AreKeyed v.items) (sym c.at.ensures.sessions) keyed)) c.requires.order
