use Rattle.std.proofs.Common.{◌≡◌, ◌<◌, ◌∷◌, ℕ, List, Some}
use Rattle.std.specs.Prelude.{slice_get}
use Rattle.std.specs.Ordering.{nat_cmp}
use Rattle.std.specs.BTreeMap.{get}
use Rattle.spk_topics.specs.declared.walk.Ahead.{Ahead}
use Rattle.spk_topics.specs.Nodes.{rows_of, up_of}
use Rattle.spk_topics.specs.Walk.{Gains, IsSettled, front_of, way_of}
use Rattle.spk_topics.proofs.nodes.Nodes.pass.Given as goal

-- the nodes so far are done
abbrev pub invariant-loop-ahead : goal.invariant-loop-ahead
invariant-loop-ahead l = record {
  gains : Gains (rows_of l.self) l.topic (get nat_cmp l.initial.found) (get nat_cmp l.found);
  settled : (k : ℕ) → k < l.ahead-index → (ahead : Ahead) → slice_get l.front k ≡ Some ahead → (rest : List (List ℕ))
      → IsSettled (rows_of l.self) l.topic (up_of l.self) (get nat_cmp l.found) (front_of l.next.items) (way_of ahead) (l.level ∷ rest) rest;
}
