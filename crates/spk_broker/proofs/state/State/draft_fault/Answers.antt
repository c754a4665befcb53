use Rattle.std.proofs.Common.{◌∙◌, ap, sym, true, false}
use Rattle.spk_broker.specs.Asking.{place_in}
use Rattle.spk_broker.specs.declared.packet_end.Ending.TheVariants.{Nothing}
use Rattle.spk_broker.proofs.Packeted.{leads-plain}
use Rattle.spk_broker.proofs.Ruled.{fault-leads}
use Rattle.spk_broker.proofs.Touched.{alone-as}
use Rattle.spk_broker.proofs.state.State.draft_fault.Goals as goal

pub returns-then-is_of_other_level-clause-done : goal.returns-then-is_of_other_level-clause-done
returns-then-is_of_other_level-clause-done c t s =
    let s1 = c.at.ensures.done c.args.draft.now t s in
    fault-leads c.at.new.self c.turn_away.new.self c.args.draft.now c.turn_away.new.draft Nothing c.args.conn c.args.now c.args.place c.args.fault t true s1
    (ap (λ v. place_in c.args.conn v.items) c.at.ensures.sessions ∙ c.requires.place)
    (sym c.is_of_other_level.ensures ∙ c.if-is_of_other_level.true) (leads-plain c.turn_away.new.self c.turn_away.new.draft _ (c.in_ok-turn_away.ensures.done _ s1))

pub shut_at-requires-clause-place : goal.shut_at-requires-clause-place
shut_at-requires-clause-place c = ap (λ v. place_in c.args.conn v.items) c.at.ensures.sessions ∙ c.requires.place

pub shut_at-requires-clause-alone : goal.shut_at-requires-clause-alone
shut_at-requires-clause-alone c = alone-as c.args.place c.args.self.now c.at.new.self c.at.ensures.sessions c.at.ensures.newcomers c.requires.alone

pub returns-clause-done : goal.returns-clause-done
returns-clause-done c t s =
    let s1 = c.at.ensures.done c.args.draft.now t s in
    fault-leads c.at.new.self c.shut_at.new.self c.args.draft.now c.shut_at.new.draft c.in_ok-ending.ending c.args.conn c.args.now c.args.place c.args.fault t false s1
    (ap (λ v. place_in c.args.conn v.items) c.at.ensures.sessions ∙ c.requires.place)
    (sym c.is_of_other_level.ensures ∙ c.if-is_of_other_level.false) (c.in_ok-ending.ensures.done _ s1)
