use Rattle.std.proofs.Common.{◌≡◌, true, map, take}
use Rattle.std.specs.List.{list_all}
use Rattle.spk_packets.specs.Spelling as packet
use Rattle.spk_packets.specs.View.{view}
use Rattle.spk_edge_rules.specs.Writable.{is_writable}
use Rattle.spk_edge.specs.Sealing.{bytes_of}
use Rattle.spk_edge.proofs.sealing.written_packets.Given as goal

-- those so far are written
abbrev pub invariant-loop-packet : goal.invariant-loop-packet
invariant-loop-packet l = record {
  bytes : map bytes_of l.out.items ≡ map packet.spelling (map view (take l.packet-index l.packets));
  writable : list_all is_writable (map view (take l.packet-index l.packets)) ≡ true;
}
