use Rattle.std.proofs.Common.{◌≡◌}
use Rattle.std.specs.Prelude.{take}
use Rattle.std.specs.List.{sum_by}
use Rattle.spk_story.specs.Data.{capped}
use Rattle.spk_page.specs.Totals.{figure_of}
use Rattle.spk_page.proofs.totals.sum_of.Given as goal

-- the sum so far
abbrev pub invariant-loop-node : goal.invariant-loop-node
invariant-loop-node l = l.sum ≡ capped (sum_by (figure_of l.figure) (take l.node-index l.nodes))
