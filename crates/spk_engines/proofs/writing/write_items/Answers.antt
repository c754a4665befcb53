use Rattle.std.proofs.Common.{◌≡◌, ◌∙◌, sym, ap, length, subst, Some, [], arith}
use Rattle.spk_rings.specs.Ring.{SameInlet, popped}
use Rattle.spk_engines.specs.Counted.{taken}
use Rattle.spk_engines.specs.Writing.{Writes, rest_of, IsWithin}
use Rattle.spk_engines.proofs.Writes.{writes_more, writes_item, writes_same, same_then, took_one, took_none}
use Rattle.spk_engines.proofs.writing.write_items.Goals as goal
use Rattle.spk_engines.proofs.writing.write_items.Goals.{in-Some+in-Ok, in-None+in-Some-look, in-None+in-None-look+else-gone}

pub loop-turn-preserved : goal.loop-turn-preserved
loop-turn-preserved g c = elim c.match-current.branch [
  | in-Some+in-Ok w ↦ record {
    same = subst (SameInlet c.args.inlet.now) (sym w.inlet-is) c.loop-turn.invariant.same;
    before = c.loop-turn.invariant.before;
    within = subst IsWithin (sym w.current-is) w.in-Ok.ensures.within;
    writes = rw (w.writer-is, w.inlet-is, w.current-is)
        (writes_more (g.W.Write.contents c.args.writer.now.device) (g.W.Write.contents c.loop-turn.writer.device) (g.W.Write.contents w.write_some.new.writer.device) (popped c.args.inlet.now) (popped c.loop-turn.inlet)
        (rest_of (Some w.in-Some.underway)) (rest_of w.in-Ok.next) w.in-Ok.ensures.wrote.0
        (subst (λ u. Writes (g.W.Write.contents c.args.writer.now.device) (g.W.Write.contents c.loop-turn.writer.device) (popped c.args.inlet.now) (popped c.loop-turn.inlet) (rest_of u)) w.in-Some.is c.loop-turn.invariant.writes)
        w.in-Ok.ensures.wrote.1 w.in-Ok.ensures.wrote.2);
    count = rw w.writer-is (omega (arith, c.loop-turn.invariant.count, w.write_some.ensures.taken));
    turns = took_none (popped c.loop-turn.inlet) _ (length (popped c.args.inlet.now)) (taken c.loop-turn.writer) _ c.loop-turn.invariant.turns (ap taken w.writer-is ∙ w.write_some.ensures.taken) (ap popped w.inlet-is);
  }
  | in-None+in-Some-look w ↦
      let before : Writes (g.W.Write.contents c.args.writer.now.device) (g.W.Write.contents w.look.new.self.device) (popped c.args.inlet.now) (popped c.loop-turn.inlet) [] =
      writes_same g.W.Write.contents (g.W.Write.contents c.args.writer.now.device) c.loop-turn.writer.device w.look.new.self.device (popped c.args.inlet.now) (popped c.loop-turn.inlet) [] w.look.ensures.device
      (subst (λ u. Writes (g.W.Write.contents c.args.writer.now.device) (g.W.Write.contents c.loop-turn.writer.device) (popped c.args.inlet.now) (popped c.loop-turn.inlet) (rest_of u)) w.in-None.is c.loop-turn.invariant.writes) in
      record {
        same = subst (SameInlet c.args.inlet.now) (sym w.inlet-is) (same_then c.args.inlet.now c.loop-turn.inlet w.look.new.inlet c.loop-turn.invariant.same (same_then c.loop-turn.inlet w.gone-gone.new.self w.look.new.inlet w.gone-gone.ensures.end w.look.ensures.end));
        before = c.loop-turn.invariant.before;
        within = subst IsWithin (sym w.current-is) (omega arith);
        writes = rw (w.writer-is, w.inlet-is, w.current-is)
            (writes_item (g.W.Write.contents c.args.writer.now.device) (g.W.Write.contents w.look.new.self.device) (popped c.args.inlet.now) (popped w.gone-gone.new.self) (popped w.look.new.inlet) w.in-Some-look.item
            (subst (λ t. Writes (g.W.Write.contents c.args.writer.now.device) (g.W.Write.contents w.look.new.self.device) (popped c.args.inlet.now) t []) (sym w.gone-gone.ensures.same) before)
            w.in-Some-look.ensures.some);
        count = rw w.writer-is (omega (arith, c.loop-turn.invariant.count, w.look.ensures.taken));
        turns = took_one (popped c.loop-turn.inlet) (popped w.gone-gone.new.self) _ w.in-Some-look.item (length (popped c.args.inlet.now)) (taken c.loop-turn.writer) _ c.loop-turn.invariant.turns (ap taken w.writer-is ∙ w.look.ensures.taken) w.gone-gone.ensures.same (ap popped w.inlet-is ∙ w.in-Some-look.ensures.some);
      }
  | in-None+in-None-look+else-gone w ↦
      let before : Writes (g.W.Write.contents c.args.writer.now.device) (g.W.Write.contents w.look.new.self.device) (popped c.args.inlet.now) (popped c.loop-turn.inlet) [] =
      writes_same g.W.Write.contents (g.W.Write.contents c.args.writer.now.device) c.loop-turn.writer.device w.look.new.self.device (popped c.args.inlet.now) (popped c.loop-turn.inlet) [] w.look.ensures.device
      (subst (λ u. Writes (g.W.Write.contents c.args.writer.now.device) (g.W.Write.contents c.loop-turn.writer.device) (popped c.args.inlet.now) (popped c.loop-turn.inlet) (rest_of u)) w.in-None.is c.loop-turn.invariant.writes) in
      let stays : popped w.look.new.inlet ≡ popped c.loop-turn.inlet = (w.look.ensures.none w.in-None-look.is).0 ∙ w.gone-gone.ensures.same in
      record {
        same = subst (SameInlet c.args.inlet.now) (sym w.inlet-is) (same_then c.args.inlet.now c.loop-turn.inlet w.look.new.inlet c.loop-turn.invariant.same (same_then c.loop-turn.inlet w.gone-gone.new.self w.look.new.inlet w.gone-gone.ensures.end w.look.ensures.end));
        before = c.loop-turn.invariant.before;
        within = subst IsWithin (sym w.current-is) tt;
        writes = rw (w.writer-is, w.inlet-is, w.current-is)
            (subst (λ t. Writes (g.W.Write.contents c.args.writer.now.device) (g.W.Write.contents w.look.new.self.device) (popped c.args.inlet.now) t []) (sym stays) before);
        count = rw w.writer-is (omega (arith, c.loop-turn.invariant.count, w.look.ensures.taken));
        turns = took_none (popped c.loop-turn.inlet) _ (length (popped c.args.inlet.now)) (taken c.loop-turn.writer) _ c.loop-turn.invariant.turns (ap taken w.writer-is ∙ w.look.ensures.taken) (ap popped w.inlet-is ∙ stays);
      }
]
