use Rattle.std.proofs.Common.{◌≡◌, true, map, take}
use Rattle.std.specs.List.{list_all}
use Rattle.spk_packets.specs.Spelling as packet
use Rattle.spk_edge.specs.Sealing.{AreWhole, wire_of}
use Rattle.spk_edge.specs.View.{message_view}
use Rattle.spk_edge_rules.specs.Writable.{is_writable}
use Rattle.spk_edge.specs.Sealing.{bytes_of}
use Rattle.spk_edge.proofs.sealing.written_messages.Given as goal

-- those so far are written
abbrev pub invariant-loop-message : goal.invariant-loop-message
invariant-loop-message l = record {
  bytes : map bytes_of l.out.items ≡ map packet.spelling (map (λ m. wire_of (message_view m)) (take l.message-index l.messages));
  writable : list_all is_writable (map (λ m. wire_of (message_view m)) (take l.message-index l.messages)) ≡ true;
  whole : AreWhole (map message_view (take l.message-index l.messages));
}
