use Rattle.std.proofs.Common.{◌≡◌, ℕ, List, [], Bor, map, drop}
use Rattle.std.specs.List.{fold}
use Rattle.spk_quota.specs.Step.{with_filter}
use Rattle.spk_quota.proofs.filters.each_once.Given as goal

abbrev pub invariant-loop-name : goal.invariant-loop-name
invariant-loop-name l =
    fold (with_filter l.user l.client) l.filters.items (map (λ (n : Bor (List ℕ)). n.now) (drop l.name-index l.names))
    ≡ fold (with_filter l.user l.client) [] (map (λ (n : Bor (List ℕ)). n.now) l.names)
