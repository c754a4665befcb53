use Rattle.spk_host_app.proofs.Reading.{read_of}
use Rattle.spk_host_app.proofs.meant.read_of.Goals as goal

pub returns : goal.returns
returns c = λ p spells. read_of p c.args.bytes.now spells c.read.result c.read.ensures.only c.read.ensures.only_fault
