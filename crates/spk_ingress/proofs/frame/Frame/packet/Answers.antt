use Rattle.std.proofs.Common.{ℕ, List, length, sym, ◌∙◌, ap, arith, subst}
use Rattle.spk_packets.specs.Grammar.{Spells}
use Rattle.spk_ingress.proofs.Fronts.{spells_whole}
use Rattle.spk_ingress.specs.declared.fault.FrameFault.TheVariants as fault
use Rattle.spk_ingress.proofs.frame.Frame.packet.Goals as goal

pub returns-in-Ok-2-clause-only : goal.returns-in-Ok-2-clause-only
returns-in-Ok-2-clause-only c one =
    let spells : Spells c.as_slice.result.now one.0 = subst (λ xs. Spells xs one.0) (sym c.as_slice.ensures.value) one.1 in
    let bytes : List ℕ = c.as_slice.result.now in
    absurd (c.if-count-len.false (c.in-Ok.ensures.front one.0 (length bytes) (omega arith) (spells_whole bytes one.0 spells) ∙ c.as_slice.ensures.len ∙ sym c.len.ensures))

pub returns-in-Err-clause-only : goal.returns-in-Err-clause-only
returns-in-Err-clause-only c one =
    let bytes : List ℕ = c.as_slice.result.now in
    let spells : Spells bytes one.0 = subst (λ xs. Spells xs one.0) (sym c.as_slice.ensures.value) one.1 in
    ap fault.Packet (c.in-Err.ensures.memory one.0 (length bytes) (omega arith) (spells_whole bytes one.0 spells))
