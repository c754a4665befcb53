use Rattle.std.proofs.Common.{◌≡◌, ◌++◌, map}
use Rattle.std.specs.Prelude.{All}
use Rattle.spk_topics.specs.Spark.{named}
use Rattle.spk_host_session.specs.Packets.{IsPacket}
use Rattle.spk_host.specs.Step.{requests_to, spelled, topics_to}
use Rattle.spk_host.proofs.asking.ask_all.Given as goal

-- so many requests so far
abbrev pub invariant-loop-request : goal.invariant-loop-request
invariant-loop-request l = record {
  topics : map named l.rebirths.items ≡ map named l.fn.rebirths.items ++ topics_to l.group l.node l._request;
  packets : map (λ b. b.items) l.packets.items ≡ map (λ b. b.items) l.fn.packets.items ++ spelled (requests_to l.group l.node l.now l._request);
  whole : All (λ b. IsPacket b.items) l.fn.packets.items → All (λ b. IsPacket b.items) l.packets.items;
}
