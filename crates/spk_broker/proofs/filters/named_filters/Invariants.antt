use Rattle.std.proofs.Common.{◌≡◌, ℕ, List, map, take, is_some, string_bytes}
use Rattle.std.specs.List.{list_any}
use Rattle.std.specs.Str.{bytes_eq}
use Rattle.spk_broker.specs.Tables.{found}
use Rattle.spk_broker.proofs.filters.named_filters.Given as goal

abbrev pub invariant-loop-name : goal.invariant-loop-name
invariant-loop-name l = (q : List ℕ) → is_some (found l.table q) ≡ list_any (λ n. bytes_eq n q) (map (λ n. string_bytes n) (take l.name-index l.names))
