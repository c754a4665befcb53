use Rattle.spk_sequence.proofs.sequence.Sequence.step_of.Goals as goal

pub returns-in-Other : goal.returns-in-Other
returns-in-Other c = record { step = rw c.in-Other.is (c.other_step.ensures c.args.now) }
