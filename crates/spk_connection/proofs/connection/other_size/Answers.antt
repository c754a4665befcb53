use Rattle.std.proofs.Common.{◌≡◌, ◌∙◌, length, subst, sym}
use Rattle.spk_connection.specs.Step.{IsFront}
use Rattle.spk_connection.proofs.Front.{fails, is_long, same_size, spells_cut}
use Rattle.spk_connection.proofs.connection.other_size.Goals as goal

pub returns-in-Ok-clause-found : goal.returns-in-Ok-clause-found
returns-in-Ok-clause-found c = subst (λ n. IsFront c.args.bytes.now n) (sym c.size_of.ensures)
    (record { packet = _; within = c.in-Ok.ensures.found.0; spelled = c.in-Ok.ensures.found.1 })

pub returns-in-Ok-clause-only : goal.returns-in-Ok-clause-only
returns-in-Ok-clause-only c = λ front rest p spells parts.
    c.size_of.ensures ∙ same_size p _ (length front) _ (c.in-Ok.ensures.only p (length front) (is_long _ front rest parts) (spells_cut _ front rest p parts spells))

pub returns-in-Err-clause-only : goal.returns-in-Err-clause-only
returns-in-Err-clause-only c = λ front rest p spells parts.
    fails _ p (length front) (c.in-Err.ensures.only p (length front) (is_long _ front rest parts) (spells_cut _ front rest p parts spells))
