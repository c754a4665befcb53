-- The plain data that a host application keeps of one node.
use Rattle.std.specs.Prelude.{ℕ}
use Rattle.spk_order.specs.Ordered.{Ordered}
use Rattle.spk_order.specs.Step.{fresh_order}
use Rattle.spk_host_rules.specs.Data.{Watch, unheard}
use Rattle.spk_reading.specs.Data.{NumberedData}

-- the order of its messages with the messages that it holds, and the view with what was asked for
pub record NodeData : Type 0 where
  pub order : Ordered NumberedData
  pub watch : Watch

-- a node of which nothing was ever heard
abbrev pub fresh_node : ℕ → ℕ → NodeData
fresh_node wait width = record { order = fresh_order wait width; watch = unheard }
