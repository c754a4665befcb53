use Rattle.std.proofs.Common.{◌≡◌, ◌∙◌, ap, sym, refl, subst, true, List, ◌++◌, map, length}
use Rattle.std.specs.List.{last_or, list_all}
use Rattle.std.proofs.lemmas.Result.{err_from_is_err_and}
use Rattle.spk_packets.specs.Spelling.{spelling}
use Rattle.spk_packets.specs.View.{view}
use Rattle.spk_packets.specs.declared.packet.Packet.{Packet}
use Rattle.spk_edge_rules.specs.Writable.{is_writable}
use Rattle.spk_edge.specs.Patch.{are_timely, numbers_of, packets_of}
use Rattle.spk_edge.specs.Sealing.{AreWhole, seq_past, wire_of}
use Rattle.spk_edge.specs.View.{MessageData, NodeData, given_view, message_view, numbering_view}
use Rattle.spk_edge.specs.declared.message.Published.{Published}
use Rattle.spk_edge.proofs.Seals.{numbers-are, refilled, same-packets, still-known, unsealed}
use Rattle.spk_edge.proofs.node.EdgeNode.sealed.Goals as goal

pub packets-requires : goal.packets-requires
packets-requires c =
    let n = c.args.self.now in
    let g = given_view c.args.given in
    let numbering : numbering_view c.self.inside.config.numbering ≡ n.config.numbering = ap (λ (n : NodeData). n.config.numbering) c.self.view_is in
    let seq : c.self.inside.tally.seq ≡ n.standing.seq = ap (λ (n : NodeData). n.standing.seq) c.self.view_is in
    let size = ap (λ (l : List Published). length l) (sym c.deref.ensures.value) ∙ c.deref.ensures.len in
    let full = refilled c.args.given.messages.len (numbering_view c.self.inside.config.numbering) c.self.inside.tally.seq c.args.given.messages.items c.deref_mut.result.now c.number-seq.new.messages c.number-seq.ensures.messages c.deref_mut.ensures.value size in
    let numbers : map message_view c.number-seq.new.messages ≡ numbers_of n g =
    numbers-are n (numbering_view c.self.inside.config.numbering) c.self.inside.tally.seq c.args.given.messages.items c.deref_mut.result.now c.number-seq.new.messages numbering seq c.number-seq.ensures.messages c.deref_mut.ensures.value in
    let here : map message_view c.deref-3.result.now ≡ numbers_of n g = ap (map message_view) (c.deref-3.ensures.value ∙ full) ∙ numbers in
    still-known n g c.deref-3.result.now here c.requires

pub returns-in_err-packets-clause-fault : goal.returns-in_err-packets-clause-fault
returns-in_err-packets-clause-fault c =
    let n = c.args.self.now in
    let g = given_view c.args.given in
    let numbering : numbering_view c.self.inside.config.numbering ≡ n.config.numbering = ap (λ (n : NodeData). n.config.numbering) c.self.view_is in
    let seq : c.self.inside.tally.seq ≡ n.standing.seq = ap (λ (n : NodeData). n.standing.seq) c.self.view_is in
    let size = ap (λ (l : List Published). length l) (sym c.deref.ensures.value) ∙ c.deref.ensures.len in
    let full = refilled c.args.given.messages.len (numbering_view c.self.inside.config.numbering) c.self.inside.tally.seq c.args.given.messages.items c.deref_mut.result.now c.number-seq.new.messages c.number-seq.ensures.messages c.deref_mut.ensures.value size in
    let numbers : map message_view c.number-seq.new.messages ≡ numbers_of n g =
    numbers-are n (numbering_view c.self.inside.config.numbering) c.self.inside.tally.seq c.args.given.messages.items c.deref_mut.result.now c.number-seq.new.messages numbering seq c.number-seq.ensures.messages c.deref_mut.ensures.value in
    let here : map message_view c.deref-3.result.now ≡ numbers_of n g = ap (map message_view) (c.deref-3.ensures.value ∙ full) ∙ numbers in
    let timely : are_timely g.messages ≡ true =
    ap (λ (l : List Published). are_timely (map message_view l)) (sym c.deref.ensures.value) ∙ sym c.are_timely.ensures ∙ c.if-not-are_timely.false in
    let sent : map view c.deref-2.result.now ++ map (λ (m : Published). wire_of (message_view m)) c.deref-3.result.now ≡ packets_of n g =
    ap (λ (l : List Packet). map view l ++ map (λ (m : Published). wire_of (message_view m)) c.deref-3.result.now) c.deref-2.ensures.value
    ∙ same-packets n g c.deref-3.result.now here in
    let p = err_from_is_err_and c.from_residual.result c.from_residual.ensures.1 in
    rw (p.1, p.2) (unsealed n g _ c.in_err-packets.field-0.0 sent timely c.in_err-packets.ensures.fault)

pub returns-clause-sealed : goal.returns-clause-sealed
returns-clause-sealed c =
    let n = c.args.self.now in
    let g = given_view c.args.given in
    let numbering : numbering_view c.self.inside.config.numbering ≡ n.config.numbering = ap (λ (n : NodeData). n.config.numbering) c.self.view_is in
    let seq : c.self.inside.tally.seq ≡ n.standing.seq = ap (λ (n : NodeData). n.standing.seq) c.self.view_is in
    let size = ap (λ (l : List Published). length l) (sym c.deref.ensures.value) ∙ c.deref.ensures.len in
    let full = refilled c.args.given.messages.len (numbering_view c.self.inside.config.numbering) c.self.inside.tally.seq c.args.given.messages.items c.deref_mut.result.now c.number-seq.new.messages c.number-seq.ensures.messages c.deref_mut.ensures.value size in
    let numbers : map message_view c.number-seq.new.messages ≡ numbers_of n g =
    numbers-are n (numbering_view c.self.inside.config.numbering) c.self.inside.tally.seq c.args.given.messages.items c.deref_mut.result.now c.number-seq.new.messages numbering seq c.number-seq.ensures.messages c.deref_mut.ensures.value in
    let here : map message_view c.deref-3.result.now ≡ numbers_of n g = ap (map message_view) (c.deref-3.ensures.value ∙ full) ∙ numbers in
    let timely : are_timely g.messages ≡ true =
    ap (λ (l : List Published). are_timely (map message_view l)) (sym c.deref.ensures.value) ∙ sym c.are_timely.ensures ∙ c.if-not-are_timely.false in
    let sent : map view c.deref-2.result.now ++ map (λ (m : Published). wire_of (message_view m)) c.deref-3.result.now ≡ packets_of n g =
    ap (λ (l : List Packet). map view l ++ map (λ (m : Published). wire_of (message_view m)) c.deref-3.result.now) c.deref-2.ensures.value
    ∙ same-packets n g c.deref-3.result.now here in
    let last : map message_view c.deref-4.result.now ≡ numbers_of n g = ap (map message_view) (c.deref-4.ensures.value ∙ full) ∙ numbers in
    record {
      timely = timely;
      writable = ap (list_all is_writable) (sym sent) ∙ c.in_ok-packets.ensures.writable;
      packets = c.in_ok-packets.ensures.bytes ∙ ap (map spelling) sent;
      writes = refl;
      close = refl;
      messages = ap (map message_view) full ∙ numbers;
      whole = subst AreWhole here c.in_ok-packets.ensures.whole;
      tally = record {
        of_phase = c.tally_after-tally.ensures.of_phase;
        of_heard = c.tally_after-tally.ensures.of_heard;
        stamp = c.tally_after-tally.ensures.stamp ∙ ap (λ (l : List MessageData). last_or n.standing.asked.stamp (map (λ (m : MessageData). m.stamp) l)) last;
        of_seq = c.tally_after-tally.ensures.of_seq ∙ c.number-seq.ensures.next
            ∙ ap (λ (l : List Published). seq_past (numbering_view c.self.inside.config.numbering) c.self.inside.tally.seq (map message_view l)) c.deref_mut.ensures.value
            ∙ ap (λ m. seq_past m c.self.inside.tally.seq g.messages) numbering ∙ ap (λ s. seq_past n.config.numbering s g.messages) seq;
        bd = c.tally_after-tally.ensures.bd;
        will_bd = c.tally_after-tally.ensures.will_bd;
        will_time = c.tally_after-tally.ensures.will_time;
      };
      set = refl;
      kept = refl;
    }
