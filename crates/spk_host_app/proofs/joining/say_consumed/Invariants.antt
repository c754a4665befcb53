use Rattle.std.proofs.Common.{◌≡◌, ◌++◌, map}
use Rattle.spk_reading.specs.View.{numbered_view}
use Rattle.spk_host_app.specs.Data as plain
use Rattle.spk_host_app.specs.View.{word}
use Rattle.spk_host_app.proofs.joining.say_consumed.Given as goal

-- said so far
abbrev pub invariant-loop-message : goal.invariant-loop-message
invariant-loop-message l = map word l.words.items ≡ map word l.fn.words.items ++ map plain.Consumed (map numbered_view l.yielded)
