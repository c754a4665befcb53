use Rattle.std.proofs.Common.{◌≡◌, ◌++◌, map}
use Rattle.std.specs.Prelude.{All, replicate}
use Rattle.spk_topics.specs.Spark.{named}
use Rattle.spk_host_session.specs.Packets.{IsPacket}
use Rattle.spk_host.specs.Step.{topics_to}
use Rattle.spk_host.proofs.asking.ask_copies.Given as goal

-- so many copies so far
abbrev pub invariant-loop-copy : goal.invariant-loop-copy
invariant-loop-copy l = record {
  topics : map named l.rebirths.items ≡ map named l.fn.rebirths.items ++ topics_to l.group l.node l._copy;
  packets : map (λ b. b.items) l.packets.items ≡ map (λ b. b.items) l.fn.packets.items ++ replicate l._copy l.bytes;
  whole : IsPacket l.bytes → All (λ b. IsPacket b.items) l.fn.packets.items → All (λ b. IsPacket b.items) l.packets.items;
}
