use Rattle.std.proofs.Common.{◌≡◌, ◌++◌, map, drop}
use Rattle.spk_host_app.specs.Step.{lost_at}
use Rattle.spk_host_app.specs.View.{word}
use Rattle.spk_host_app.proofs.joining.lost_words.Given as goal

-- what is said and what is lost of the rest is all
abbrev pub invariant-loop-entry : goal.invariant-loop-entry
invariant-loop-entry l = map word l.words.items ++ lost_at l.now (drop l.entry-index l.nodes) ≡ lost_at l.now l.nodes
