use Rattle.std.proofs.Common.{◌≡◌, ◌++◌, ℕ, List, Bor, count_by, drop, length, map}
use Rattle.std.specs.List.{fold}
use Rattle.spk_quota.specs.Held.{is_filter_by}
use Rattle.spk_quota.specs.Names.{AreKnown}
use Rattle.spk_quota.specs.Step.{with_filter}
use Rattle.spk_quota.proofs.filters.missing.Given as goal

-- those that are named and those that are left come to all, and those that are named are known
abbrev pub invariant-loop-text : goal.invariant-loop-text
invariant-loop-text l = record {
  whole : fold (with_filter l.user l.client) (l.filters ++ l.more.items) (map (λ (n : Bor (List ℕ)). n.now) (drop l.text-index l.texts))
      ≡ fold (with_filter l.user l.client) l.filters (map (λ (n : Bor (List ℕ)). n.now) l.texts);
  known : AreKnown l.user l.client l.own l.named (l.filters ++ l.more.items);
  whose : count_by (is_filter_by l.user) l.more.items ≡ length l.more.items;
}
