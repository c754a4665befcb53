use Rattle.std.proofs.Common.{◌≡◌, List, [], ◌∷◌, ◌++◌, map}
use Rattle.std.specs.Vec.Iter.{into_iter_items}
use Rattle.spk_edge.specs.Sealing.{bytes_of}
use Rattle.spk_ingress.specs.declared.frame.Frame.TheVariants.{Packet}
use Rattle.spk_plant_edge.specs.At.{HasPut, PutsOn}
use Rattle.spk_plant_edge.proofs.sending.Sender.put_packets.Given as goal

-- the packets so far were put, and the others come
abbrev pub invariant-loop-bytes : goal.invariant-loop-bytes
invariant-loop-bytes g l = record {
  puts : PutsOn l.ingress l.fn.self.pass l.self.pass;
  put : HasPut l.fn.self l.self (map Packet (map bytes_of l.yielded));
}
