use Rattle.std.proofs.Common.{◌≡◌, ◌∙◌, ap, ℕ, false}
use Rattle.spk_sequence.specs.Step.{is_over}
use Rattle.spk_order.specs.Ordered.{Ordered}
use Rattle.spk_order.proofs.Left.{stands}
use Rattle.spk_order.proofs.Steps.{still_at}
use Rattle.spk_order.proofs.order.Order.due.Goals as goal

moved : {T : Type 0} {o p : Ordered T} (now : ℕ) → o ≡ p → is_over p.standing now ≡ false → is_over o.standing now ≡ false
moved {T} {o} {p} now same still = ap (λ (x : Ordered T). is_over x.standing now) same ∙ still

pub returns-clause-still : goal.returns-clause-still
returns-clause-still g c = λ now still.
    rw (← c.self.view_is) (still_at (stands c.self.inside.sequence c.self.inside.slots.items) now c.self.invariant (moved now c.self.view_is still))
