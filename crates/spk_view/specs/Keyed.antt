-- Keys in chains: what leads from a key to the entries that have it.
use Rattle.std.specs.Prelude.{◌≡◌, ℕ, suc, ◌-◌, ◌*◌, ◌/◌, ◌%◌, ◌^◌, ◌<◌, ◌≤◌, min, bit_and, bit_xor, List, length, map, slice_get, Option, Some, None}
use Rattle.std.specs.Hash.{le_bytes}
use Rattle.std.specs.Hash.FoldHasher as folding
use Rattle.spk_host_rules.specs.Data.{Row}
use Rattle.spk_view.specs.declared.keys.Link.{Link}

-- the key of a name
unfoldable pub key_of_name : List ℕ → ℕ
key_of_name name = folding.finish (folding.write folding.initial name)

abbrev pub key_of_row : Row → ℕ
key_of_row r = key_of_name r.name

-- keys in order, and in how many chains they stand
pub record KeyList : Type 0 where
  pub count : ℕ
  pub keys : List ℕ

-- a key's hash, its halves joined by xor
unfoldable pub spread_of : ℕ → ℕ
spread_of key = let hash = folding.finish (folding.write folding.initial (le_bytes 8 key)) in bit_and (bit_xor hash (hash / 2 ^ 32)) 0xffff_ffff

-- the chain of a key, of so many
unfoldable pub chain_of : ℕ → ℕ → ℕ
chain_of count key = min (((spread_of key * count) % (2 ^ 64)) / (2 ^ 32)) (count - 1)

-- So many of the first n keys reach up to the last one of a chain: each of that chain lies among them, and the last of them is of it.
pub record IsEnd (count : ℕ) (keys : List ℕ) (n chain end : ℕ) : Type 0 where
  pub low : end ≤ n
  pub all : (k key : ℕ) → k < n → slice_get keys k ≡ Some key → chain_of count key ≡ chain → k < end
  pub own : (k : ℕ) → end ≡ suc k → (key : ℕ) × (slice_get keys k ≡ Some key) × (chain_of count key ≡ chain)

abbrev pub key_in : Link → ℕ
key_in l = l.key

-- each chain leads to its last key, and each key to the one before it in its chain
pub record AreChained (ends : List ℕ) (links : List Link) : Type 0 where
  pub last : (chain end : ℕ) → slice_get ends chain ≡ Some end → IsEnd (length ends) (map key_in links) (length links) chain end
  pub before : (k : ℕ) (l : Link) → slice_get links k ≡ Some l → IsEnd (length ends) (map key_in links) k (chain_of (length ends) l.key) l.before

-- the last place of a key among the first n, or none where none of them is that key
abbrev pub IsLastOf : List ℕ → ℕ → ℕ → Option ℕ → Type 0
IsLastOf keys n key None = (k : ℕ) → k < n → slice_get keys k ≡ Some key → ⊥
IsLastOf keys n key (Some place) = (place < n) × (slice_get keys place ≡ Some key) × ((k : ℕ) → k < n → slice_get keys k ≡ Some key → k ≤ place)
