use Rattle.std.proofs.Common.{take}
use Rattle.spk_engines.proofs.Writes.{piece_taken, last_taken}
use Rattle.spk_engines.proofs.writing.write_some.Goals as goal

pub returns-then-count-len-clause-wrote : goal.returns-then-count-len-clause-wrote
returns-then-count-len-clause-wrote g c = (
  take c.in-Ok.more c.next_of.result.now,
  last_taken c.args.underway.item.bytes c.next_of.result.now c.next_of.ensures.front.0 c.args.underway.count c.in-Ok.more c.len-len.result
      c.next_of.ensures.front.1 c.in-Ok.ensures.bound c.len-len.ensures c.if-count-len.true,
  c.in-Ok.ensures.bytes,
)

pub returns-else-count-len-clause-wrote : goal.returns-else-count-len-clause-wrote
returns-else-count-len-clause-wrote g c = (
  take c.in-Ok.more c.next_of.result.now,
  piece_taken c.args.underway.item.bytes c.next_of.result.now c.next_of.ensures.front.0 c.args.underway.count c.in-Ok.more
      c.next_of.ensures.front.1 c.in-Ok.ensures.bound,
  c.in-Ok.ensures.bytes,
)
