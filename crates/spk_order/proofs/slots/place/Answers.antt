use Rattle.spk_order.proofs.slots.place.Goals as goal

pub take_run-requires-clause-full : goal.take_run-requires-clause-full
take_run-requires-clause-full g c = λ i some below. c.requires.full c.in-Consumed.count i c.in-Consumed.is some below
