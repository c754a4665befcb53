use Rattle.std.proofs.Common.{◌≡◌, ◌∙◌}
use Rattle.spk_plant_edge.proofs.Leading.{reads-then}
use Rattle.spk_plant_edge.proofs.Putting.{puts-then}
use Rattle.spk_plant_edge.proofs.desk.Desk.read.Goals as goal

pub returns-then-not-branch-clause-read : goal.returns-then-not-branch-clause-read
returns-then-not-branch-clause-read g c = reads-then c.args.self.now c.loop.self c.read_one.new.self c.loop.invariant.went c.in_ok-read_one.ensures.read

pub loop-preserved : goal.loop-preserved
loop-preserved g c = record {
  puts = puts-then c.args.ingress.now c.args.self.now.sender.pass c.loop.self.sender.pass c.read_one.new.self.sender.pass c.loop.invariant.puts c.in_ok-read_one.ensures.pass;
  went = reads-then c.args.self.now c.loop.self c.read_one.new.self c.loop.invariant.went c.in_ok-read_one.ensures.read;
}
