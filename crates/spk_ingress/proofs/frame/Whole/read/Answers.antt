use Rattle.std.proofs.Common.{ℕ, List, length, sym, ◌∙◌, arith, subst}
use Rattle.spk_packets.specs.Grammar.{Spells}
use Rattle.spk_packets.specs.View.{view}
use Rattle.spk_ingress.proofs.Fronts.{spells_whole, whole_view, memory_alone}
use Rattle.spk_ingress.proofs.frame.Whole.read.Goals as goal

pub returns-in-Ok-clause-packet : goal.returns-in-Ok-clause-packet
returns-in-Ok-clause-packet c =
    let bytes : List ℕ = c.as_slice.result.now in
    let spells : Spells bytes c.self.invariant.0 = subst (λ xs. Spells xs c.self.invariant.0) (sym c.as_slice.ensures.value) c.self.invariant.1 in
    let is : Spells bytes (view c.in-Ok.packet) = whole_view bytes c.self.invariant.0 c.in-Ok.packet c.in-Ok.field-0-1 spells (c.in-Ok.ensures.only c.self.invariant.0 (length bytes) (omega arith) (spells_whole bytes c.self.invariant.0 spells)) in
    subst (λ xs. Spells xs (view c.in-Ok.packet)) (c.as_slice.ensures.value ∙ c.self.view_is) is

pub returns-in-Err-clause-memory : goal.returns-in-Err-clause-memory
returns-in-Err-clause-memory c =
    let bytes : List ℕ = c.as_slice.result.now in
    let spells : Spells bytes c.self.invariant.0 = subst (λ xs. Spells xs c.self.invariant.0) (sym c.as_slice.ensures.value) c.self.invariant.1 in
    memory_alone c.in-Err.fault (c.self.invariant.0, length bytes) (c.in-Err.ensures.only c.self.invariant.0 (length bytes) (omega arith) (spells_whole bytes c.self.invariant.0 spells))
