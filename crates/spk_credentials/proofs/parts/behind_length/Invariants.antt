use Rattle.std.proofs.Common.{◌≡◌, length}
use Rattle.spk_credentials.specs.Credentials.{behind_length}
use Rattle.spk_credentials.proofs.parts.behind_length.Given as goal

-- what is left decides
abbrev pub invariant-loop-left : goal.invariant-loop-left
invariant-loop-left l = behind_length l.initial.bytes ≡ behind_length l.left

abbrev pub decreases-loop-left : goal.decreases-loop-left
decreases-loop-left l = length l.left
