use Rattle.std.proofs.Common.{arith}
use Rattle.spk_history.specs.Entry.{said}
use Rattle.spk_history.proofs.Fronts.{is_broken, is_record}
use Rattle.spk_history.proofs.reading.read.Goals as goal

pub returns-in-Some : goal.returns-in-Some
returns-in-Some c =
    is_record c.args.bytes.now c.in-Content.content.now (said c.in-Some.entry) (λ i. omega (arith, c.type_inv.bytes i)) c.in-Content.ensures c.in-Some.ensures

pub returns-in-None : goal.returns-in-None
returns-in-None c = is_broken c.args.bytes.now c.in-Content.content.now c.in-Content.ensures c.in-None.ensures
