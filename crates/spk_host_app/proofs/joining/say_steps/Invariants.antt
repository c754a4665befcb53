use Rattle.std.proofs.Common.{◌≡◌, ◌++◌, map}
use Rattle.spk_host_app.specs.Data as plain
use Rattle.spk_host_app.specs.View.{word}
use Rattle.spk_host_app.proofs.joining.say_steps.Given as goal

-- said so far
abbrev pub invariant-loop-step : goal.invariant-loop-step
invariant-loop-step l = map word l.words.items ≡ map word l.fn.words.items ++ map plain.Became l.yielded
