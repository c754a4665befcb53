use Rattle.std.proofs.Common.{◌≡◌}
use Rattle.spk_plant_edge.specs.At.{Draining, Goes, PutsOn}
use Rattle.spk_plant_edge.proofs.desk.Desk.drain.Given as goal

-- the drains so far, none of which was refused
abbrev pub invariant-loop : goal.invariant-loop
invariant-loop g l = record {
  puts : PutsOn l.ingress l.fn.self.sender.pass l.self.sender.pass;
  went : Goes (λ s before after. Draining s before after) l.fn.self l.self;
}
