use Rattle.spk_ingress.proofs.frame.Whole.front.Goals as goal

pub returns-in-Err-clause-only : goal.returns-in-Err-clause-only
returns-in-Err-clause-only c n few one = c.in-Err.ensures.memory one.0 n few one.1
