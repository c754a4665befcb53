use Rattle.std.proofs.Common.{◌≡◌, [], take}
use Rattle.spk_plant_edge.specs.At.{Goes, PutsOn}
use Rattle.spk_plant_edge.specs.Script.{Leads}
use Rattle.spk_plant_edge.proofs.desk.Desk.run.Given as goal

-- the steps so far
abbrev pub invariant-loop-step : goal.invariant-loop-step
invariant-loop-step g l = record {
  puts : PutsOn l.ingress l.fn.self.sender.pass l.self.sender.pass;
  went : Goes (λ s before after. Leads s (take l.step-index l.script) before after) l.fn.self l.self;
}
