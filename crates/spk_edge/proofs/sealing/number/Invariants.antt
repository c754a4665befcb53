use Rattle.std.proofs.Common.{◌≡◌, map}
use Rattle.spk_edge.specs.View.{message_view, numbering_view}
use Rattle.spk_edge.proofs.Numbered.{next_so_far, so_far}
use Rattle.spk_edge.proofs.sealing.number.Given as goal

-- the first ones have their numbers, the others are as they were
abbrev pub invariant-loop-message : goal.invariant-loop-message
invariant-loop-message l = record {
  messages : map message_view l.messages ≡ so_far (numbering_view l.numbering) l.seq (map message_view l.initial.messages) l.message-index;
  next : l.next ≡ next_so_far (numbering_view l.numbering) l.seq (map message_view l.initial.messages) l.message-index;
}
