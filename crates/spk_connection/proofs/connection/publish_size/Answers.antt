use Rattle.std.proofs.Common.{◌≡◌, ◌∙◌, length}
use Rattle.spk_connection.proofs.Front.{fails, is_long, same_size, spells_cut}
use Rattle.spk_packets.specs.View.{publish_view}
use Rattle.spk_connection.proofs.connection.publish_size.Goals as goal

pub returns-in-Ok-clause-found : goal.returns-in-Ok-clause-found
returns-in-Ok-clause-found c = record { packet = _; within = c.in-Ok.ensures.found.0; spelled = c.in-Ok.ensures.found.1 }

pub returns-in-Ok-clause-only : goal.returns-in-Ok-clause-only
returns-in-Ok-clause-only c = λ front rest p spells parts.
    same_size p _ (length front) _ (c.in-Ok.ensures.only p (length front) (is_long _ front rest parts) (spells_cut _ front rest p parts spells))

pub returns-in-Err-clause-only : goal.returns-in-Err-clause-only
returns-in-Err-clause-only c = λ front rest p spells parts.
    fails _ p (length front) (c.in-Err.ensures.only p (length front) (is_long _ front rest parts) (spells_cut _ front rest p parts spells))
