use Rattle.std.proofs.Common.{◌≡◌, ◌+◌, sym, ◌∙◌, ap, refl}
use Rattle.spk_sequence.specs.declared.answer.Step.TheVariants.{Consumed}
use Rattle.spk_sequence.specs.contracts.sequence.Sequence.{the_view}
use Rattle.spk_sequence.specs.Data.{Standing}
use Rattle.spk_sequence.proofs.WindowLemmas.{whole_from, consumed_is, within_consumed, run_of-rest}
use Rattle.spk_sequence.proofs.sequence.Sequence.consume.Goals as goal

number_is : (c : goal.After-self-3-1) → c.args.number ≡ c.self.inside.next
number_is c = c.requires ∙ ap (λ (s : Standing). s.next) (sym c.self.view_is)

pub invariant_of-self : goal.invariant_of-self
invariant_of-self c =
    within_consumed c.self.inside.slots c.take_run-run.new.self c.self.inside.next c.self.inside.width c.args.number c.take_run-run.result c.get.result c.self.invariant (number_is c) c.get.ensures.value c.take_run-run.ensures.count c.take_run-run.ensures.cleared

pub returns-clause-step : goal.returns-clause-step
returns-clause-step c = rw (← c.self.view_is) (ap (λ n. Consumed (1 + n))
    (run_of-rest (the_view c.self.inside) c.self.inside.slots c.args.number c.take_run-run.result c.get.result refl c.self.invariant (number_is c) c.get.ensures.value c.take_run-run.ensures.count))

pub returns-clause-data : goal.returns-clause-data
returns-clause-data c = rw (← c.self.view_is)
    (consumed_is (the_view c.self.inside) c.self.inside.slots c.take_run-run.new.self c.args.number c.take_run-run.result c.get.result c.args.now refl c.self.invariant (number_is c) c.get.ensures.value c.take_run-run.ensures.count c.take_run-run.ensures.cleared)

pub returns-clause-whole : goal.returns-clause-whole
returns-clause-whole c = whole_from _ c.take_run-run.new.self refl (invariant_of-self c)
