use Rattle.std.proofs.Common.{◌∙◌, ◌<◌, sym, subst, length, arith}
use Rattle.spk_broker.specs.View.{Stands}
use Rattle.spk_broker.proofs.Ruled.{ends-more}
use Rattle.spk_broker.proofs.Standing.{tell-stands}
use Rattle.spk_broker.proofs.state.State.end_all.Goals as goal

pub loop-conn-preserved : goal.loop-conn-preserved
loop-conn-preserved c = record {
  same = c.in_ok-leave.ensures.same ∙ c.loop-conn.invariant.same;
  index = λ i h. c.in_ok-leave.ensures.index i (c.loop-conn.invariant.index i h);
  keyed = λ k. c.in_ok-leave.ensures.keyed (c.loop-conn.invariant.keyed k);
  done = λ t s.
      let below : c.loop-conn.conn-index < length c.args.conns.now = omega arith in
      subst (λ u. Stands c.leave.new.self c.tell.new.self u) (sym (ends-more c.args.conns.now c.loop-conn.conn-index _ t below))
      (tell-stands c.leave.new.self c.leave.new.draft c.tell.new.self _ _ c.in_ok-tell.ensures (c.in_ok-leave.ensures.done _ (c.loop-conn.invariant.done t s)));
}
