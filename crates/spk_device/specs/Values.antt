-- Values: when two are equal, and which are of a datatype.
use Rattle.std.specs.Prelude.{ℕ, Bool, true, false, not, ◌&&◌, ◌||◌, ◌==◌, nat_le, Option, Some, None, is_some}
use Rattle.std.specs.Ordering.{int_eq}
use Rattle.std.specs.Str.{bytes_eq}
use Rattle.spk_payload.specs.Typing.{Typed, Signed, Unsigned, Truth, Text, Bytes, Binary32, Binary64, written_of}
use Rattle.spk_payload.specs.declared.values.Values.{Values}
use Rattle.spk_payload.specs.declared.values.Values.TheVariants as choice

abbrev pub flag_eq : Bool → Bool → Bool
flag_eq true b = b
flag_eq false b = not b

-- Equal values: numbers, flags, texts and octets byte by byte, and floats and doubles by their bits: a NaN is equal to itself, and
-- 0 and -0 differ.
abbrev pub typed_eq : Typed → Typed → Bool
typed_eq (Signed x) (Signed y) = int_eq x y
typed_eq (Unsigned x) (Unsigned y) = x == y
typed_eq (Truth x) (Truth y) = flag_eq x y
typed_eq (Text x) (Text y) = bytes_eq x y
typed_eq (Bytes x) (Bytes y) = bytes_eq x y
typed_eq (Binary32 x) (Binary32 y) = x == y
typed_eq (Binary64 x) (Binary64 y) = x == y
typed_eq _ _ = false

-- the same of values that may be missing
abbrev pub value_eq : Option Typed → Option Typed → Bool
value_eq (Some v) (Some w) = typed_eq v w
value_eq None None = true
value_eq _ _ = false

-- Int8 1 to UInt64 8, Boolean 11 to UUID 15, Bytes 17 and File 18
abbrev pub is_whole : ℕ → Bool
is_whole d = (nat_le 1 d && nat_le d 8) || ((nat_le 11 d && nat_le d 15) || ((d == 17) || (d == 18)))

-- Float 9 and Double 10
abbrev pub is_float : ℕ → Bool
is_float d = (d == 9) || (d == 10)

-- the datatypes that are written: those of whole values alone, or of floats and doubles as well
abbrev pub is_written : Values → ℕ → Bool
is_written choice.Whole d = is_whole d
is_written choice.All d = is_whole d || is_float d

-- a value that is missing, or one that the datatype writes
abbrev pub is_of : ℕ → Option Typed → Bool
is_of d None = true
is_of d (Some v) = is_some (written_of d v)
