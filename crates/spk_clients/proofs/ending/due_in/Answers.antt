use Rattle.std.proofs.Common.{nat_eq}
use Rattle.std.specs.HashMap.{get}
use Rattle.spk_clients.proofs.Moments.{first_is, first_none, first_some}
use Rattle.spk_clients.proofs.ending.due_in.Goals as goal

pub returns-clause-none : goal.returns-clause-none
returns-clause-none c =
    first_none c.args.now c.args.table.now.entries c.loop-entry.first (first_is c.args.now _ c.loop-entry.first _ c.in-None.ensures.steps.0 c.loop-entry.invariant)

pub returns-clause-some : goal.returns-clause-some
returns-clause-some c =
    first_some (get nat_eq c.args.table.now) c.args.now c.args.table.now.entries c.loop-entry.first c.iter-entry-items.ensures.found
    (first_is c.args.now _ c.loop-entry.first _ c.in-None.ensures.steps.0 c.loop-entry.invariant)
