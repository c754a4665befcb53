use Rattle.std.proofs.Common.{◌≡◌, ◌<◌, ◌||◌, ℕ, List, refl, sym, ap, subst, ◌∙◌, length, take, arith}
use Rattle.std.proofs.Math.Seq.{take-length}
use Rattle.std.proofs.lemmas.Grind.{get_or_default_zero}
use Rattle.spk_plant_broker.specs.Holding.{Holds}
use Rattle.spk_plant_broker.specs.Log.{room_of}
use Rattle.spk_plant_broker.specs.Step.{holds_client}
use Rattle.spk_plant_broker.proofs.Desks.{or_false}
use Rattle.spk_plant_broker.proofs.Hubs.{holds_ext, one_more_closed}
use Rattle.spk_plant_broker.proofs.hub.Hub.close_all.Goals as goal

pub loop-conn-init : goal.loop-conn-init
loop-conn-init c = record {
  holds = λ s closed log f. holds_ext s closed _ c.args.self.now log (λ k. or_false (closed k)) f;
  taken = refl;
  rings = λ rings. rings;
}

pub loop-conn-preserved : goal.loop-conn-preserved
loop-conn-preserved c =
    let below : c.loop-conn.conn-index < length c.args.conns.now = omega (arith, c.loop-conn-test.true) in
    record {
      holds = λ s closed log f. one_more_closed s closed log c.close.new.self c.args.conns.now c.loop-conn.conn-index _ below (sym (get_or_default_zero c.args.conns.now c.loop-conn.conn-index _ below))
          (c.close.ensures.holds s (λ k. closed k || holds_client (room_of s.limit s.edges log).openers k (take c.loop-conn.conn-index c.args.conns.now)) log (c.loop-conn.invariant.holds s closed log f));
      taken = c.close.ensures.taken ∙ c.loop-conn.invariant.taken;
      rings = λ rings. c.close.ensures.rings (c.loop-conn.invariant.rings rings);
    }

pub returns-clause-holds : goal.returns-clause-holds
returns-clause-holds c s closed log f =
    let all : c.loop-conn.conn-index ≡ length c.args.conns.now = omega (arith, c.loop-conn-test.false, c.loop-conn.auto.conn-index-end) in
    subst (λ (cs : List ℕ). Holds s (λ k. closed k || holds_client (room_of s.limit s.edges log).openers k cs) c.loop-conn.self log) (ap (λ n. take n c.args.conns.now) all ∙ take-length c.args.conns.now)
    (c.loop-conn.invariant.holds s closed log f)
