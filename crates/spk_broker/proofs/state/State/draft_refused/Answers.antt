use Rattle.std.proofs.Common.{◌∙◌, ap, sym, subst}
use Rattle.spk_broker_rules.specs.Plan.{Refused}
use Rattle.spk_broker.specs.Asking.{place_in}
use Rattle.spk_broker.specs.Endings.{Leads}
use Rattle.spk_broker.specs.View.{stepped}
use Rattle.spk_broker.proofs.Touched.{alone-as}
use Rattle.spk_broker.proofs.state.State.draft_refused.Goals as goal

pub shut_at-requires-clause-place : goal.shut_at-requires-clause-place
shut_at-requires-clause-place c = ap (λ v. place_in c.args.conn v.items) c.at.ensures.sessions ∙ c.requires.place

pub shut_at-requires-clause-alone : goal.shut_at-requires-clause-alone
shut_at-requires-clause-alone c = alone-as c.args.place c.args.self.now c.at.new.self c.at.ensures.sessions c.at.ensures.newcomers c.requires.alone

pub returns-in_ok-ending-in-Other-clause-done : goal.returns-in_ok-ending-in-Other-clause-done
returns-in_ok-ending-in-Other-clause-done c t s =
    subst (λ x. Leads c.shut_at.new.self c.shut_at.new.draft c.in_ok-ending-in-Other.ending (stepped (Refused c.args.conn x c.args.now) t)) (sym c.in-Other.is)
    (c.in_ok-ending-in-Other.ensures.done _ (c.at.ensures.done c.args.draft.now t s))
