-- Who sends frames in a plant, and how many there are.
use Rattle.std.specs.Prelude.{ℕ, ◌+◌, ◌<◌, ◌≤◌, ◌^◌, List, length}
use Rattle.std.specs.List.{AllByRecursion}
use Rattle.spk_ingress.specs.declared.rule.Message.{Message}

-- Frames are of the edge nodes, at most sixteen, and of the host behind them; and a count of 64 bits counts them.
pub record AreSenders (edges : ℕ) (taken : List Message) : Type 0 where
  pub few : edges ≤ 16
  pub senders : AllByRecursion (λ (m : Message). m.sender < edges + 1) taken
  pub counted : length taken < 2 ^ 64
