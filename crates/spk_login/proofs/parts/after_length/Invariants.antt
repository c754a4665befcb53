use Rattle.std.proofs.Common.{◌≡◌, ◌+◌, length}
use Rattle.spk_login.specs.Bytes.{after_length}
use Rattle.spk_login.proofs.parts.after_length.Given as goal

abbrev pub invariant-loop : goal.invariant-loop
invariant-loop l = (after_length l.rest ≡ after_length l.bytes) × (length l.rest + l.counter ≡ length l.bytes)
