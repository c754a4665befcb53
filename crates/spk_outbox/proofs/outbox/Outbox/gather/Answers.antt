use Rattle.spk_outbox.proofs.Waiting.{joined, joined_part}
use Rattle.spk_outbox.proofs.outbox.Outbox.gather.Goals as goal

pub returns-then-not-join : goal.returns-then-not-join
returns-then-not-join c = record {
  front = joined_part _ _ _ _ c.join.ensures.front.0 _ _ _ _ c.loop-i.invariant.0 c.packet_at.ensures c.loop-i.invariant.1 c.loop-i.invariant.2 c.join.ensures.front.1 c.join.ensures.longer;
}

pub returns : goal.returns
returns c = record { front = joined _ _ _ _ c.loop-i.invariant.1 c.loop-i.invariant.2 }
