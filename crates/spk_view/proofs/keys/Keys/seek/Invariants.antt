use Rattle.std.proofs.Common.{◌≡◌, ◌<◌, ◌≤◌, ℕ, suc, Some}
use Rattle.std.specs.Prelude.{slice_get}
use Rattle.spk_view.specs.Keyed.{chain_of}
use Rattle.spk_view.proofs.keys.Keys.seek.Given as goal

-- the key stands at none of the first places but those up to the end, the last of which is in its chain
abbrev pub invariant-loop-end : goal.invariant-loop-end
invariant-loop-end l = record {
  low : l.end ≤ l.count;
  seen : (k : ℕ) → k < l.count → slice_get l.self.keys k ≡ Some l.key → k < l.end;
  own : (k : ℕ) → l.end ≡ suc k → (other : ℕ) × (slice_get l.self.keys k ≡ Some other) × (chain_of l.self.count other ≡ chain_of l.self.count l.key);
}

abbrev pub decreases-loop-end : goal.decreases-loop-end
decreases-loop-end l = l.end
