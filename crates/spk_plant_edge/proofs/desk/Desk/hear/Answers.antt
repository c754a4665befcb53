use Rattle.std.proofs.Common.{◌≡◌, ◌∙◌, ◌<◌, ◌≤◌, refl, subst, sym, ℕ, List, length, ◌+◌}
use Rattle.spk_plant_edge.specs.At.{IsReadAs, input_in}
use Rattle.spk_plant_edge.specs.Log.{Hears, Passes, inputs_of}
use Rattle.spk_plant_edge.proofs.Hearing.{arrives}
use Rattle.spk_plant_edge.proofs.desk.Desk.hear.Goals as goal

pub returns-then-item-self-clause-heard : goal.returns-then-item-self-clause-heard
returns-then-item-self-clause-heard g c = λ o log h.
    (Passes c.args.item, h, subst (λ (n : ℕ). c.args.item.cuts < n) h.cuts c.if-item-self.true, refl)

pub returns-clause-heard : goal.returns-clause-heard
returns-clause-heard g c = λ o log h.
    let read : IsReadAs c.args.item.bytes c.in_ok-packet.packet =
    subst (λ (bytes : List ℕ). IsReadAs bytes c.in_ok-packet.packet) (c.as_slice.ensures.value ∙ c.in_ok-whole.ensures) c.in_ok-packet.ensures.read in (
      Hears c.args.item (input_in o.setup.config (1000000 + length (inputs_of log)) c.in_ok-packet.packet),
      c.in_ok-hear_packet.ensures.heard o (inputs_of log) h,
      (
        subst (λ (n : ℕ). n ≤ c.args.item.cuts) h.cuts c.if-item-self.false,
        arrives o.setup.config (1000000 + length (inputs_of log)) c.args.item.bytes c.in_ok-packet.packet read,
      ),
      refl,
    )
