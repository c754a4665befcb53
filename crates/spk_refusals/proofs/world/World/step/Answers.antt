use Rattle.std.proofs.Common.{arith, sym}
use Rattle.spk_refusals.proofs.world.World.step.Goals as goal

pub returns-clause-step : goal.returns-clause-step
returns-clause-step c = rw (sym c.self.view_is) (first_of (assumption c.step.ensures.step, grind arith))

pub returns-clause-passed : goal.returns-clause-passed
returns-clause-passed c = rw (sym c.self.view_is) (first_of (assumption c.step.ensures.passed, grind arith))

pub returns-clause-refused : goal.returns-clause-refused
returns-clause-refused c = rw (sym c.self.view_is) (first_of (assumption c.step.ensures.refused, grind arith))

pub returns-clause-unchanged : goal.returns-clause-unchanged
returns-clause-unchanged c = rw (sym c.self.view_is) (first_of (assumption c.step.ensures.unchanged, grind arith))

pub returns-clause-runs : goal.returns-clause-runs
returns-clause-runs c = rw (sym c.self.view_is) (first_of (assumption c.step.ensures.runs, grind arith))

pub returns-clause-answers : goal.returns-clause-answers
returns-clause-answers c = rw (sym c.self.view_is) (first_of (assumption c.step.ensures.answers, grind arith))

pub returns-clause-allowed : goal.returns-clause-allowed
returns-clause-allowed c = rw (sym c.self.view_is) (first_of (assumption c.step.ensures.allowed, grind arith))

pub returns-clause-ruled : goal.returns-clause-ruled
returns-clause-ruled c = rw (sym c.self.view_is) (first_of (assumption c.step.ensures.ruled, grind arith))

pub returns-clause-after_gap : goal.returns-clause-after_gap
returns-clause-after_gap c = rw (sym c.self.view_is) (first_of (assumption c.step.ensures.after_gap, grind arith))

pub returns-clause-after_death : goal.returns-clause-after_death
returns-clause-after_death c = rw (sym c.self.view_is) (first_of (assumption c.step.ensures.after_death, grind arith))

pub returns-clause-births : goal.returns-clause-births
returns-clause-births c = rw (sym c.self.view_is) (first_of (assumption c.step.ensures.births, grind arith))

pub returns-clause-cause : goal.returns-clause-cause
returns-clause-cause c = rw (sym c.self.view_is) (first_of (assumption c.step.ensures.cause, grind arith))
