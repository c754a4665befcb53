use Rattle.std.proofs.Common.{◌≡◌, ◌<◌, ◌∷◌, [], ℕ, Some}
use Rattle.std.specs.Prelude.{slice_get}
use Rattle.std.specs.Ordering.{nat_cmp}
use Rattle.std.specs.BTreeMap.{get}
use Rattle.spk_topics.specs.declared.walk.Ahead.{Ahead}
use Rattle.spk_topics.specs.Nodes.{rows_of, child_of}
use Rattle.spk_topics.specs.Walk.{Gains, Taken}
use Rattle.spk_topics.proofs.nodes.Nodes.arrive.Given as goal

-- the nodes so far are done
abbrev pub invariant-loop-ahead : goal.invariant-loop-ahead
invariant-loop-ahead l = record {
  gains : Gains (rows_of l.self) l.topic (get nat_cmp l.initial.found) (get nat_cmp l.found);
  taken : (k : ℕ) → k < l.ahead-index → (ahead : Ahead) → slice_get l.front k ≡ Some ahead
      → Taken (rows_of l.self) l.topic (get nat_cmp l.found) (Some ahead.number) × Taken (rows_of l.self) l.topic (get nat_cmp l.found) (child_of l.self ahead.number (35 ∷ []));
}
