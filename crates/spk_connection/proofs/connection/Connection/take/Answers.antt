use Rattle.std.proofs.Common.{◌≡◌, ◌∙◌, sym, ap, length}
use Rattle.spk_connection.proofs.Front.{fails, is_long, more_is_no_want, same_message, spells_cut}
use Rattle.spk_connection.proofs.connection.Connection.take.Goals as goal
use Rattle.spk_connection.proofs.connection.Connection.take.Goals.{in-More, in_default}

pub returns-in-Ok-clause-only : goal.returns-in-Ok-clause-only
returns-in-Ok-clause-only c = λ front rest p spells parts.
    let whole = c.as_slice.ensures ∙ ap (λ x. x.unread) c.self.view_is ∙ parts in
    same_message p _ (length front) _ (c.in-Ok.ensures.only p (length front) (is_long _ front rest whole) (spells_cut _ front rest p whole spells))

pub returns-after-fault-clause-only : goal.returns-after-fault-clause-only
returns-after-fault-clause-only c = λ front rest p spells parts.
    let whole = c.as_slice.ensures ∙ ap (λ x. x.unread) c.self.view_is ∙ parts in
    let none = fails _ p (length front) (c.in-Err.ensures.only p (length front) (is_long _ front rest whole) (spells_cut _ front rest p whole spells)) in
    elim c.match-fault.branch [
      | in-More w ↦ absurd (more_is_no_want _ w.in-More.is none)
      | in_default w ↦ rw w.result-is none
    ]
