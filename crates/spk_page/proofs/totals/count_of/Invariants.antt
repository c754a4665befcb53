use Rattle.std.proofs.Common.{◌≡◌, ◌≤◌}
use Rattle.std.specs.Prelude.{take}
use Rattle.std.specs.List.{count_by}
use Rattle.spk_page.specs.Looks.{is_same}
use Rattle.spk_page.proofs.totals.count_of.Given as goal

-- how many so far
abbrev pub invariant-loop-node : goal.invariant-loop-node
invariant-loop-node l = record {
  counted : l.count ≡ count_by (λ n. is_same l.look n.look) (take l.node-index l.nodes);
  few : l.count ≤ l.node-index;
}
