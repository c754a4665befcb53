use Rattle.std.proofs.Common.{◌≡◌, ◌++◌, map}
use Rattle.spk_topics.specs.Spark.{named}
use Rattle.spk_host_app.specs.Data as plain
use Rattle.spk_host_app.specs.View.{word}
use Rattle.spk_host_app.proofs.joining.say_asked.Given as goal

-- said so far
abbrev pub invariant-loop-topic : goal.invariant-loop-topic
invariant-loop-topic l = map word l.words.items ≡ map word l.fn.words.items ++ map plain.Asked (map named l.yielded)
