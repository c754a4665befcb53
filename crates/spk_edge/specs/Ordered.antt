-- What contracts see of commands.
use Rattle.std.specs.String.{string_bytes}
use Rattle.spk_edge_rules.specs.Commands as rule
use Rattle.spk_edge.specs.View.{write_view}
use Rattle.spk_edge.specs.declared.command.Order.{Order}
use Rattle.spk_edge.specs.declared.command.Order.TheVariants.{Rebirth, Writing}
use Rattle.spk_edge.specs.declared.command.Target.{Target}
use Rattle.spk_edge.specs.declared.command.Target.TheVariants.{Node, Device}

abbrev pub target_view : Target → rule.Target
target_view Node = rule.ToNode
target_view (Device name) = rule.ToDevice (string_bytes name)

abbrev pub order_view : Order → rule.Order
order_view (Rebirth asked) = rule.Rebirth asked
order_view (Writing w) = rule.Writing (write_view w)
