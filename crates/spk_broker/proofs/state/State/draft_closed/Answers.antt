use Rattle.std.proofs.Common.{Global, Vec, ◌∙◌, ap, subst, sym}
use Rattle.spk_broker.specs.Asking.{place_in}
use Rattle.spk_broker.specs.Called.{AreKeyed}
use Rattle.spk_broker.specs.declared.session.Session.{Session}
use Rattle.spk_broker.proofs.Leaving.{order-left}
use Rattle.spk_broker.proofs.Touched.{alone-as}
use Rattle.spk_broker.proofs.state.State.draft_closed.Goals as goal

pub leave_at-requires : goal.leave_at-requires
leave_at-requires c = ap (λ v. place_in c.args.conn v.items) c.at.ensures.sessions ∙ c.requires.place

pub route_near-requires-clause-alone : goal.route_near-requires-clause-alone
route_near-requires-clause-alone c =
    c.in_ok-leave_at.ensures.alone (alone-as c.args.place c.args.self.now c.at.new.self c.at.ensures.sessions c.at.ensures.newcomers c.requires.alone)

pub returns-clause-done : goal.returns-clause-done
returns-clause-done c t s = c.in_ok-ending.ensures.done _ (c.in_ok-leave_at.ensures.done _ (c.at.ensures.done c.args.draft.now t s))

pub route_near-requires-clause-order : goal.route_near-requires-clause-order
route_near-requires-clause-order c =
    order-left c.args.tree.now c.args.self.now c.leave_at.new.self (c.leave_at.ensures.same ∙ c.at.ensures.same)
    (λ keyed. c.in_ok-leave_at.ensures.keyed (subst (λ (v : Vec Session Global). AreKeyed v.items) (sym c.at.ensures.sessions) keyed)) c.requires.order
