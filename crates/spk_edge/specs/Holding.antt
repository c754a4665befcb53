-- A node that its plan holds.
use Rattle.std.specs.Prelude.{◌≡◌, Result}
use Rattle.std.specs.Borrow.{Fml, MutBor, RestsIfErr}
use Rattle.spk_edge_rules.specs.declared.fault.EdgeFault.{EdgeFault}
use Rattle.spk_edge.specs.View.{NodeData}
use Rattle.spk_edge.specs.contracts.node.EdgeNode.{the_row}
use Rattle.spk_edge.specs.declared.plan.Plan.{Plan}
use Rattle.spk_edge.specs.declared.taking.Planned.{Planned}

-- The node ends as its plan leaves it: as it is taken up, or let go. Where no plan is made it ends as it was.
abbrev pub Rests : MutBor NodeData → Result (Planned Plan) EdgeFault → Fml
Rests n r = RestsIfErr the_row n (λ p. p.node.ghost_name) r (λ last. last ≡ n.now)
