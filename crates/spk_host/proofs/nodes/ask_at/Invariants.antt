use Rattle.std.proofs.Common.{◌≡◌, ◌++◌, map, drop}
use Rattle.std.specs.Prelude.{All}
use Rattle.std.specs.List.{filter, range_with_len}
use Rattle.spk_topics.specs.Spark.{named}
use Rattle.spk_host_session.specs.Packets.{IsPacket}
use Rattle.spk_host.specs.Step.{gaps_at, is_gap_at, requests_at, spelled, topics_at}
use Rattle.spk_host.proofs.nodes.ask_at.Given as goal

-- what is there and that of the rest is all
abbrev pub invariant-loop-place : goal.invariant-loop-place
invariant-loop-place l = record {
  gaps : l.steps.items ++ gaps_at l.now (drop l.place l.nodes) ≡ gaps_at l.now l.nodes;
  places : l.gaps.items ≡ filter (is_gap_at l.now l.nodes) (range_with_len 0 l.place);
  topics : map named l.rebirths.items ++ topics_at l.now (drop l.place l.nodes) ≡ topics_at l.now l.nodes;
  packets : map (λ b. b.items) l.packets.items ++ spelled (requests_at l.now (drop l.place l.nodes)) ≡ spelled (requests_at l.now l.nodes);
  whole : All (λ b. IsPacket b.items) l.packets.items;
}
