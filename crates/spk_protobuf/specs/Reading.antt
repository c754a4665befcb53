-- Reading from left to right. Private clauses and proofs alone rest on it: public clauses say what it gives by
-- Grammar and Faults.
use Rattle.std.specs.Prelude.{ℕ, zero, suc, ◌+◌, ◌*◌, ◌/◌, ◌%◌, ◌^◌, List, [], ◌∷◌, length, take, drop, Result, Ok, Err, nat_lt, ◌==◌, if◌then◌else◌}
use Rattle.spk_protobuf.specs.declared.fault.WireFault.{WireFault}
use Rattle.spk_protobuf.specs.declared.fault.WireFault.TheVariants.{Truncated, VarintTooLong, Group, FieldZero, WireType}
use Rattle.spk_protobuf.specs.Grammar.{Shape, Varint, Eight, Bytes, Four, Entry}

infixl 10 ◌>>=◌
abbrev pub ◌>>=◌ : {A B : Type 0} → Result A WireFault → (A → Result B WireFault) → Result B WireFault
(Ok x) >>= f = f x
(Err e) >>= f = Err e

-- The number that at most so many groups at the front say, and what follows them.
unfoldable pub groups_at : ℕ → List ℕ → Result (ℕ × List ℕ) WireFault
groups_at zero bytes = Err VarintTooLong
groups_at (suc k) [] = Err Truncated
groups_at (suc k) (b ∷ bs) = if nat_lt b 128 then Ok (b, bs) else (groups_at k bs >>= λ high. Ok (b % 128 + 128 * high.0, high.1))

unfoldable pub varint_at : List ℕ → Result (ℕ × List ℕ) WireFault
varint_at bytes = groups_at 10 bytes >>= λ whole. Ok (whole.0 % 2 ^ 64, whole.1)

-- So many bytes, and what follows them.
unfoldable pub some_at : ℕ → List ℕ → Result (List ℕ × List ℕ) WireFault
some_at n bytes = if nat_lt (length bytes) n then Err Truncated else Ok (take n bytes, drop n bytes)

unfoldable pub value_at : ℕ → List ℕ → Result (Shape × List ℕ) WireFault
value_at kind bytes =
    if kind == 0 then (varint_at bytes >>= λ n. Ok (Varint n.0, n.1)) else (
    if kind == 1 then (some_at 8 bytes >>= λ x. Ok (Eight x.0, x.1)) else (
    if kind == 2 then (varint_at bytes >>= λ n. some_at n.0 n.1 >>= λ x. Ok (Bytes x.0, x.1)) else (
    if kind == 3 then Err Group else (
    if kind == 4 then Err Group else (
    if kind == 5 then (some_at 4 bytes >>= λ x. Ok (Four x.0, x.1)) else
    Err WireType)))))

unfoldable pub field_at : List ℕ → Result (Entry × List ℕ) WireFault
field_at bytes = varint_at bytes >>= λ tag. if tag.0 / 8 == 0 then Err FieldZero else (value_at (tag.0 % 8) tag.1 >>= λ value. Ok (record { number = tag.0 / 8; shape = value.0 }, value.1))

abbrev pub item_then : Result (Entry × List ℕ) WireFault → (List ℕ → List (Result Entry WireFault)) → List (Result Entry WireFault)
item_then (Ok x) others = Ok x.0 ∷ others x.1
item_then (Err w) others = Err w ∷ []

unfoldable pub items_within : ℕ → List ℕ → List (Result Entry WireFault)
items_within k [] = []
items_within zero (b ∷ bs) = []
items_within (suc k) (b ∷ bs) = item_then (field_at (b ∷ bs)) (items_within k)

-- The items of a text, as the reader finds them.
unfoldable pub items_of : List ℕ → List (Result Entry WireFault)
items_of bytes = items_within (length bytes) bytes
