-- What a node of a plan's file gives (own rules). Which plans can run, says `spk_plan_rules`.
use Rattle.std.specs.Prelude.{◌&&◌, Bool, nat_le}
use Rattle.std.specs.String.{string_bytes}
use Rattle.spk_topics.specs.Spark.{is_name}
use Rattle.spk_plan.specs.declared.plan.PlanNode.{PlanNode}

-- the name and the capacity of a node are those of an edge node
abbrev pub is_well_made : PlanNode → Bool
is_well_made n = is_name (string_bytes n.node) && (nat_le 1 n.capacity && nat_le n.capacity 4096)
