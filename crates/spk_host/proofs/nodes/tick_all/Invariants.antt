use Rattle.std.proofs.Common.{◌≡◌}
use Rattle.spk_host.specs.Step.{tick_entry}
use Rattle.spk_host.proofs.Idle.{AreFirstStill}
use Rattle.spk_host.proofs.Mapped.{mapped}
use Rattle.spk_host.proofs.nodes.tick_all.Given as goal

-- so many of them were told, and none of these has a gap before the moment
abbrev pub invariant-loop-entry : goal.invariant-loop-entry
invariant-loop-entry l = record {
  ticked : l.nodes ≡ mapped (tick_entry l.now) l.entry-index l.initial.nodes;
  still : AreFirstStill l.due l.nodes l.entry-index;
}
