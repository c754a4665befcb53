use Rattle.std.proofs.Common.{◌≡◌, map, take}
use Rattle.spk_world.specs.Steps.{AreSteps}
use Rattle.spk_world.specs.View.{event_view}
use Rattle.spk_world.proofs.world.World.run.Given as goal

-- the events so far were done
abbrev pub invariant-loop-index : goal.invariant-loop-index
invariant-loop-index l = AreSteps l.fn.self (map event_view (take l.index l.events)) l.self
