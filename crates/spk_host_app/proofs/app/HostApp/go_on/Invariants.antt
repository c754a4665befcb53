use Rattle.spk_host_app.specs.Log.{Reaches, takes}
use Rattle.spk_host_app.proofs.app.HostApp.go_on.Given as goal

-- packets are taken so far
abbrev pub invariant-loop : goal.invariant-loop
invariant-loop l = Reaches takes l.fn.self l.self
