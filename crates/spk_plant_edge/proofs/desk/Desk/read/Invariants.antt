use Rattle.std.proofs.Common.{◌≡◌, []}
use Rattle.spk_plant_edge.specs.At.{Goes, PutsOn}
use Rattle.spk_plant_edge.specs.Script.{Asked}
use Rattle.spk_plant_edge.proofs.desk.Desk.read.Given as goal

-- what was read so far
abbrev pub invariant-loop : goal.invariant-loop
invariant-loop g l = record {
  puts : PutsOn l.ingress l.fn.self.sender.pass l.self.sender.pass;
  went : Goes (λ s before after. Asked [] before after) l.fn.self l.self;
}
