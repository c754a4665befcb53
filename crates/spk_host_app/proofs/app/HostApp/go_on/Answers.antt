use Rattle.std.proofs.Common.{refl}
use Rattle.spk_host_app.specs.Data.{GaveUp}
use Rattle.spk_host_app.specs.Log.{takes}
use Rattle.spk_host_app.specs.declared.fault.HostAppFault.TheVariants.{NoMemory}
use Rattle.spk_host_app.proofs.Runs.{and_then, more, stays}
use Rattle.spk_host_app.proofs.Taking.{heard_reaches}
use Rattle.spk_host_app.proofs.app.HostApp.go_on.Goals as goal

pub loop-init : goal.loop-init
loop-init c = stays takes _

pub loop-preserved : goal.loop-preserved
loop-preserved c = and_then takes _ _ _ c.loop.invariant (heard_reaches _ _ _ c.hear.ensures.one c.hear.ensures.none c.hear.ensures.failed)

pub returns-in_err-hear-clause-takes : goal.returns-in_err-hear-clause-takes
returns-in_err-hear-clause-takes c = and_then takes _ _ _ c.loop.invariant (heard_reaches _ _ _ c.hear.ensures.one c.hear.ensures.none c.hear.ensures.failed)

pub returns-then-not-branch-clause-takes : goal.returns-then-not-branch-clause-takes
returns-then-not-branch-clause-takes c = and_then takes _ _ _ c.loop.invariant (heard_reaches _ _ _ c.hear.ensures.one c.hear.ensures.none c.hear.ensures.failed)

pub returns-clause-takes : goal.returns-clause-takes
returns-clause-takes c = more takes _ _ _ (GaveUp NoMemory) c.loop.invariant refl tt c.give_up.ensures.new
