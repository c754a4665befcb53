use Rattle.std.proofs.Common.{◌≡◌, ◌∙◌, arith, ℕ, sym, ap, refl, subst, length, ◌++◌, ◌∷◌, [], Some}
use Rattle.std.specs.Prelude.{All, Vec, slice_get}
use Rattle.std.specs.declared.alloc.Global.{Global}
use Rattle.std.proofs.lemmas.Grind.{common_steps}
use Rattle.std.proofs.lemmas.Option.{slice_get_read}
use Rattle.spk_sequence.specs.Step as sequence
use Rattle.spk_host_node.specs.Data.{NodeData}
use Rattle.spk_host_session.specs.Packets.{IsPacket}
use Rattle.spk_host.specs.Step.{is_gap_at}
use Rattle.spk_host.proofs.GapPlaces.{gap-read, place-in, place-out}
use Rattle.spk_host.proofs.nodes.ask_at.Goals.{else-is_asked, else-is_over, then-is_asked+in_ok-ask, then-is_over+in_ok-push+in_ok-push-2}
use Rattle.spk_host.proofs.nodes.ask_at.Goals as goal

pub loop-place-preserved : goal.loop-place-preserved
loop-place-preserved c =
    let there : slice_get c.args.nodes.now c.loop-place.place ≡ Some c.index-nodes-place.result =
    slice_get_read c.args.nodes.now (length c.args.nodes.now) c.loop-place.place c.index-nodes-place.result refl c.loop-place-test.true c.index-nodes-place.is in
    let read : is_gap_at c.args.now c.args.nodes.now c.loop-place.place ≡ c.is_over.result =
    gap-read c.args.now c.args.nodes.now c.loop-place.place c.index-nodes-place.result there
    ∙ sym (c.is_over.ensures ∙ ap (λ (n : NodeData). sequence.is_over n.order.standing c.args.now) c.kept.ensures) in
    record {
      gaps = grind (arith, common_steps);
      places = elim c.if-is_over.branch [
        | then-is_over+in_ok-push+in_ok-push-2 w ↦ ap (λ (v : Vec ℕ Global). v.items) w.gaps-is ∙ w.in_ok-push-2.ensures.items
            ∙ ap (λ l. l ++ c.loop-place.place ∷ []) c.loop-place.invariant.places
            ∙ sym (place-in (is_gap_at c.args.now c.args.nodes.now) c.loop-place.place (read ∙ w.if-is_over.true))
        | else-is_over w ↦ ap (λ (v : Vec ℕ Global). v.items) w.gaps-is ∙ c.loop-place.invariant.places
            ∙ sym (place-out (is_gap_at c.args.now c.args.nodes.now) c.loop-place.place (read ∙ w.if-is_over.false))
      ];
      topics = grind (arith, common_steps);
      packets = grind (arith, common_steps);
      whole = elim c.if-is_asked.branch [
        | then-is_asked+in_ok-ask w ↦ subst (λ (v : Vec (Vec ℕ Global) Global). All (λ b. IsPacket b.items) v.items) (sym w.packets-is)
            (w.in_ok-ask.ensures.whole c.loop-place.invariant.whole)
        | else-is_asked w ↦ subst (λ (v : Vec (Vec ℕ Global) Global). All (λ b. IsPacket b.items) v.items) (sym w.packets-is) c.loop-place.invariant.whole
      ];
    }
