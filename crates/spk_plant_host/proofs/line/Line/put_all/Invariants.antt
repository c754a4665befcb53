use Rattle.std.proofs.Common.{map}
use Rattle.std.specs.Prelude.{All}
use Rattle.std.specs.Vec.Iter.{into_iter_items}
use Rattle.spk_ingress.specs.Frame.{IsOnePacket}
use Rattle.spk_ingress.specs.Passes.{frames_put}
use Rattle.spk_plant_host.specs.Steps.{Puts, SamePass}
use Rattle.spk_plant_host.proofs.line.Line.put_all.Given as goal

-- all but the packets that are left were put, and each of these is one packet
abbrev pub invariant-loop-bytes : goal.invariant-loop-bytes
invariant-loop-bytes g l = record {
  pass : SamePass l.ingress l.fn.self.pass l.self.pass;
  puts : Puts (map (λ b. b.items) l.fn.packets.items) (map (λ b. b.items) (into_iter_items l.bytes-iterator)) (frames_put l.fn.self.pass) (frames_put l.self.pass);
  whole : All (λ b. IsOnePacket b.items) (into_iter_items l.bytes-iterator);
}
