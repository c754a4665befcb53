use Rattle.std.proofs.Common.{◌≡◌, ◌<◌, ℕ, Some, false}
use Rattle.std.specs.Prelude.{slice_get}
use Rattle.std.specs.Str.{bytes_eq}
use Rattle.spk_host_rules.specs.Data.{Device}
use Rattle.spk_view.proofs.node.NodeView.place_of.Given as goal

-- no device so far has the name
abbrev pub invariant-loop-place : goal.invariant-loop-place
invariant-loop-place l = (k : ℕ) (d : Device) → k < l.place → slice_get l.self.view.devices k ≡ Some d → bytes_eq l.name d.name ≡ false
