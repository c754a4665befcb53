use Rattle.spk_ingress.specs.Passes.{frames_put}
use Rattle.spk_rings.specs.Ring.{SameInlet}
use Rattle.spk_plant_host.specs.Steps.{HasRun, SamePass}
use Rattle.spk_plant_host.proofs.body.run.Given as goal

-- all that came out of the ring was told
abbrev pub invariant-loop : goal.invariant-loop
invariant-loop g l = record {
  pass : SamePass l.ingress l.fn.desk.line.pass l.desk.line.pass;
  same : SameInlet l.fn.inlet l.inlet;
  ran : HasRun l.fn.desk.host.session.config (frames_put l.fn.desk.line.pass) l.fn.inlet l.inlet l.given.items l.desk.host (frames_put l.desk.line.pass);
}
