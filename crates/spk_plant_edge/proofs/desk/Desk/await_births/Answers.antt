use Rattle.std.proofs.Common.{◌≡◌, subst}
use Rattle.spk_plant_edge.specs.At.{PutsOn}
use Rattle.spk_plant_edge.proofs.Leading.{reads-same, reads-then}
use Rattle.spk_plant_edge.proofs.Putting.{puts-then}
use Rattle.spk_plant_edge.proofs.desk.Desk.await_births.Goals as goal

pub returns-then-is_gone-clause-asked : goal.returns-then-is_gone-clause-asked
returns-then-is_gone-clause-asked g c =
    reads-then c.args.self.now c.is_ring_gone-is_gone.new.self c.read.new.self
    (reads-same c.args.self.now c.loop.self c.is_ring_gone-is_gone.new.self c.loop.invariant.went c.is_ring_gone-is_gone.ensures.same)
    c.in_ok-read.ensures.read

pub loop-preserved : goal.loop-preserved
loop-preserved g c = record {
  puts = puts-then c.args.ingress.now c.args.self.now.sender.pass c.loop.self.sender.pass c.read.new.self.sender.pass c.loop.invariant.puts
      (subst (λ x. PutsOn c.args.ingress.now x.pass c.read.new.self.sender.pass) c.is_ring_gone-is_gone.ensures.rest c.in_ok-read.ensures.pass);
  went = reads-then c.args.self.now c.is_ring_gone-is_gone.new.self c.read.new.self
      (reads-same c.args.self.now c.loop.self c.is_ring_gone-is_gone.new.self c.loop.invariant.went c.is_ring_gone-is_gone.ensures.same)
      c.in_ok-read.ensures.read;
}
