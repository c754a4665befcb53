use Rattle.std.proofs.Common.{◌≡◌, ◌++◌, drop, map}
use Rattle.std.specs.String.{string_bytes}
use Rattle.spk_plant.specs.Start.{names_in}
use Rattle.spk_plant.proofs.start.names_of.Given as goal

-- what is there and that of the rest is all
abbrev pub invariant-loop-node : goal.invariant-loop-node
invariant-loop-node l = map (λ name. string_bytes name) l.names.items ++ names_in (drop l.node-index l.nodes) ≡ names_in l.nodes
