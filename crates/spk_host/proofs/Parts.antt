-- A node by its parts.
use Rattle.std.proofs.Common.{◌≡◌, ◌∙◌, ap, ℕ, List}
use Rattle.spk_host_node.specs.Data.{NodeData}
use Rattle.spk_host_session.specs.Data.{Session}
use Rattle.spk_host.specs.Data.{Entry, HostData}

abbrev pub entry_of : List ℕ → List ℕ → NodeData → Entry
entry_of g n k = record { group = g; node = n; kept = k }

pub same_entry : {g h n m : List ℕ} {k l : NodeData} → g ≡ h → n ≡ m → k ≡ l → entry_of g n k ≡ entry_of h m l
same_entry {g} {h} {n} {m} {k} {l} a b c = ap (λ x. entry_of x n k) a ∙ ap (λ x. entry_of h x k) b ∙ ap (entry_of h m) c

abbrev pub host_of : Session → List Entry → HostData
host_of s nodes = record { session = s; nodes = nodes }
