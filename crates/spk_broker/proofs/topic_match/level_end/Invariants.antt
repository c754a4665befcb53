use Rattle.std.proofs.Common.{◌≡◌, ◌∷◌, [], List, ℕ, drop}
use Rattle.spk_topics.specs.Fitting.{fits}
use Rattle.spk_topics.specs.Levels.{levels}
use Rattle.spk_broker.proofs.topic_match.level_end.Given as goal

abbrev pub invariant-loop-at : goal.invariant-loop-at
invariant-loop-at l = (filter : List (List ℕ)) → fits ((43 ∷ []) ∷ filter) (levels l.topic) ≡ fits ((43 ∷ []) ∷ filter) (levels (drop l.at l.topic))
