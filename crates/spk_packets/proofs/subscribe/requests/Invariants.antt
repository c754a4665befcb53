use Rattle.std.proofs.Common.{◌≡◌, map, length}
use Rattle.spk_packets.specs.View.{request_view}
use Rattle.spk_packets.specs.Reading.{request_at, each_at}
use Rattle.spk_packets.proofs.Each.{with_front}
use Rattle.spk_packets.proofs.Shorter.{request_shorter}
use Rattle.spk_packets.proofs.subscribe.requests.Given as goal

abbrev pub invariant-loop-rest : goal.invariant-loop-rest
invariant-loop-rest l = with_front request_at request_shorter (map request_view l.requests.items) (each_at request_at l.rest) ≡ each_at request_at l.bytes

abbrev pub decreases-loop-rest : goal.decreases-loop-rest
decreases-loop-rest l = length l.rest
