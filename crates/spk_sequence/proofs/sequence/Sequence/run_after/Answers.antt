use Rattle.std.proofs.Common.{◌∙◌, ap, refl, sym}
use Rattle.spk_sequence.specs.contracts.sequence.Sequence.{the_view}
use Rattle.spk_sequence.specs.Data.{Standing}
use Rattle.spk_sequence.proofs.WindowLemmas.{run_of-rest}
use Rattle.spk_sequence.proofs.sequence.Sequence.run_after.Goals as goal

pub returns-clause-value : goal.returns-clause-value
returns-clause-value c = rw (← c.self.view_is)
    (run_of-rest (the_view c.self.inside) c.self.inside.slots c.args.number c.run.result c.get.result refl c.self.invariant (c.requires ∙ ap (λ (s : Standing). s.next) (sym c.self.view_is)) c.get.ensures.value c.run.ensures.count)
