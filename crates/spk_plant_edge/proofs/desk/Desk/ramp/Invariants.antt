use Rattle.std.proofs.Common.{◌≡◌}
use Rattle.spk_plant_edge.specs.At.{Goes, PutsOn}
use Rattle.spk_plant_edge.specs.Script.{Asked, ramp}
use Rattle.spk_plant_edge.proofs.desk.Desk.ramp.Given as goal

-- the changes so far
abbrev pub invariant-loop-before : goal.invariant-loop-before
invariant-loop-before g l = record {
  puts : PutsOn l.ingress l.fn.self.sender.pass l.self.sender.pass;
  went : Goes (λ s before after. Asked (ramp l.alias l.sort l.before) before after) l.fn.self l.self;
}
