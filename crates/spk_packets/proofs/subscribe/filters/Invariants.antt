use Rattle.std.proofs.Common.{◌≡◌, map, length, string_bytes}
use Rattle.spk_packets.specs.Reading.{text_at, each_at}
use Rattle.spk_packets.proofs.Each.{with_front}
use Rattle.spk_packets.proofs.Shorter.{text_shorter}
use Rattle.spk_packets.proofs.subscribe.filters.Given as goal

abbrev pub invariant-loop-rest : goal.invariant-loop-rest
invariant-loop-rest l = with_front text_at text_shorter (map (λ filter. string_bytes filter) l.filters.items) (each_at text_at l.rest) ≡ each_at text_at l.bytes

abbrev pub decreases-loop-rest : goal.decreases-loop-rest
decreases-loop-rest l = length l.rest
