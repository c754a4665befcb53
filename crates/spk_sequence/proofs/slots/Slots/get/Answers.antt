use Rattle.std.proofs.Common.{sym, ◌∙◌, ap, length}
use Rattle.std.proofs.lemmas.Nat.Bits.{shr_and_one}
use Rattle.spk_sequence.specs.Data.{held_at}
use Rattle.spk_sequence.proofs.SlotLemmas.{length-slots_of, slot_full, slot_empty}
use Rattle.spk_sequence.proofs.slots.Slots.get.Goals as goal

pub returns-then-self-slot-eq1-clause-entry : goal.returns-then-self-slot-eq1-clause-entry
returns-then-self-slot-eq1-clause-entry c =
    sym (slot_full c.self.inside.mask c.self.inside.stamps c.args.slot c.requires (sym (shr_and_one c.self.inside.mask c.args.slot) ∙ c.if-self-slot-eq1.true))
    ∙ ap (λ s. held_at s c.args.slot) c.self.view_is

pub returns-then-self-slot-eq1-clause-sized : goal.returns-then-self-slot-eq1-clause-sized
returns-then-self-slot-eq1-clause-sized c = ap length (sym c.self.view_is) ∙ length-slots_of _ _

pub returns-else-self-slot-eq1-clause-entry : goal.returns-else-self-slot-eq1-clause-entry
returns-else-self-slot-eq1-clause-entry c =
    sym (slot_empty c.self.inside.mask c.self.inside.stamps c.args.slot c.requires (λ one. c.if-self-slot-eq1.false (shr_and_one c.self.inside.mask c.args.slot ∙ one)))
    ∙ ap (λ s. held_at s c.args.slot) c.self.view_is

pub returns-else-self-slot-eq1-clause-sized : goal.returns-else-self-slot-eq1-clause-sized
returns-else-self-slot-eq1-clause-sized c = ap length (sym c.self.view_is) ∙ length-slots_of _ _
