use Rattle.std.proofs.Common.{◌≡◌, ◌++◌, drop}
use Rattle.spk_visitor.specs.Replies.{woven}
use Rattle.spk_visitor.proofs.replies.weave.Given as goal

abbrev pub invariant-loop-may : goal.invariant-loop-may
invariant-loop-may l = l.all.items ++ woven (drop l.may-index l.allowed) l.rest ≡ woven l.allowed l.codes
