use Rattle.std.proofs.Common.{ℕ, List}
use Rattle.spk_access.specs.Rights.{may_subscribe}
use Rattle.spk_visitor.proofs.Weaving.{woven-is}
use Rattle.spk_visitor.proofs.laws.each_entry_has_its_code.Goals as goal

pub returns : goal.returns
returns c r granted entries = woven-is (λ (e : List ℕ × ℕ). may_subscribe r e.0) granted entries
