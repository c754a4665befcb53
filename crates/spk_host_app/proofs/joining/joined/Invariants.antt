use Rattle.std.proofs.Common.{◌≡◌, map}
use Rattle.spk_host_app.specs.Step.{join}
use Rattle.spk_host_app.proofs.joining.joined.Given as goal

-- joined so far
abbrev pub invariant-loop-packet : goal.invariant-loop-packet
invariant-loop-packet l = l.bytes.items ≡ join (map (λ b. b.items) l.yielded)
