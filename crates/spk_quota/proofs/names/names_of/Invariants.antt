use Rattle.std.proofs.Common.{◌≡◌, ◌||◌, ℕ, List, Bor, bytes_eq, map, drop}
use Rattle.std.specs.List.{list_any}
use Rattle.spk_quota.specs.Names.{has}
use Rattle.spk_quota.proofs.names.names_of.Given as goal

-- those that are noted and those that are left are all
abbrev pub invariant-loop-text : goal.invariant-loop-text
invariant-loop-text l = (name : List ℕ)
    → has l.names name || list_any (λ n. bytes_eq n name) (map (λ (n : Bor (List ℕ)). n.now) (drop l.text-index l.texts))
    ≡ list_any (λ n. bytes_eq n name) (map (λ (n : Bor (List ℕ)). n.now) l.texts)
