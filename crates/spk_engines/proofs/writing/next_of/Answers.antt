use Rattle.spk_engines.proofs.Writes.{front_within}
use Rattle.spk_engines.proofs.writing.next_of.Goals as goal

pub returns-clause-within : goal.returns-clause-within
returns-clause-within c =
    front_within c.args.bytes.now c.behind.result.0.now c.behind.result.1.now c.args.start c.behind.ensures c.requires
