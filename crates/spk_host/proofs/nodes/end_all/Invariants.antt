use Rattle.std.proofs.Common.{◌≡◌}
use Rattle.spk_host.specs.Step.{over_entry}
use Rattle.spk_host.proofs.Mapped.{mapped}
use Rattle.spk_host.proofs.nodes.end_all.Given as goal

-- so many of them were told
abbrev pub invariant-loop-entry : goal.invariant-loop-entry
invariant-loop-entry l = l.nodes ≡ mapped over_entry l.entry-index l.initial.nodes
