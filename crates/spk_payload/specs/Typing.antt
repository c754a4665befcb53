-- What a value is by its datatype (Sparkplug 3.0.0, 6.4.16 "Datatype Details"). Which field a datatype is read
-- from, and the readings of a narrow signed number from one byte or two, are the project's own.
use Rattle.std.specs.Prelude.{ℕ, suc, ℤ, pos, negsuc, ◌-ℤ◌, ◌-◌, ◌*◌, ◌^◌, ◌<◌, Bool, true, false, List, Option, Some, None, nat_lt, option_and_then, ◌==◌, if◌then◌else◌}
use Rattle.std.specs.Option.{option_map}
use Rattle.spk_payload.specs.declared.typing.Value.{Value}
use Rattle.spk_payload.specs.declared.typing.Value.TheVariants as value
use Rattle.std.specs.String.{string_bytes}
use Rattle.spk_payload.specs.Meaning.{Content, Int, Long, Flag, Words, Octets, Float, Double}

-- A value with its type, without where it lies in memory: a float and a double by the bits of IEEE 754 binary32 and binary64, so
-- that a NaN is equal to itself, and 0 and -0 differ.
pub data Typed : Type 0 where
  Signed : ℤ → Typed
  Unsigned : ℕ → Typed
  Truth : Bool → Typed
  Text : List ℕ → Typed
  Bytes : List ℕ → Typed
  Binary32 : ℕ → Typed
  Binary64 : ℕ → Typed

abbrev pub typed_view : Value → Typed
typed_view (value.Signed z) = Signed z
typed_view (value.Unsigned n) = Unsigned n
typed_view (value.Flag b) = Truth b
typed_view (value.Words s) = Text (string_bytes s)
typed_view (value.Octets v) = Bytes v.items
typed_view (value.Float n) = Binary32 n
typed_view (value.Double n) = Binary64 n

-- whether a value is a text or bytes: to write or copy any other takes no memory
abbrev pub is_text_or_bytes : Typed → Bool
is_text_or_bytes (Text bytes) = true
is_text_or_bytes (Bytes bytes) = true
is_text_or_bytes _ = false

-- ---- what stands in a field of the value

abbrev pub int_in : Content → Option ℕ
int_in (Int n) = Some n
int_in _ = None

abbrev pub long_in : Content → Option ℕ
long_in (Long n) = Some n
long_in _ = None

abbrev pub int_or_long_in : Content → Option ℕ
int_or_long_in (Int n) = Some n
int_or_long_in (Long n) = Some n
int_or_long_in _ = None

abbrev pub truth_in : Content → Option Typed
truth_in (Flag b) = Some (Truth b)
truth_in _ = None

abbrev pub text_in : Content → Option Typed
text_in (Words bytes) = Some (Text bytes)
text_in _ = None

abbrev pub bytes_in : Content → Option Typed
bytes_in (Octets bytes) = Some (Bytes bytes)
bytes_in _ = None

abbrev pub float_in : Content → Option Typed
float_in (Float n) = Some (Binary32 n)
float_in _ = None

abbrev pub double_in : Content → Option Typed
double_in (Double n) = Some (Binary64 n)
double_in _ = None

-- ---- the table

-- A signed number of so many bits, half being 2 to the bits less one, in an int_value: as its own bits, or as the
-- 32 bits of its two's complement.
abbrev pub narrow_signed : ℕ → ℕ → Option Typed
narrow_signed half n =
    if nat_lt n half then Some (Signed (pos n)) else (
    if nat_lt n (2 * half) then Some (Signed (pos n -ℤ pos (2 * half))) else (
    if nat_lt n (2 ^ 32 - half) then None else Some (Signed (pos n -ℤ pos (2 ^ 32)))))

-- Two's complement on 64 bits.
abbrev pub signed_64 : ℕ → Typed
signed_64 n = if nat_lt n (2 ^ 63) then Signed (pos n) else Signed (pos n -ℤ pos (2 ^ 64))

abbrev pub below : ℕ → ℕ → Option Typed
below limit n = if nat_lt n limit then Some (Unsigned n) else None

-- 1 Int8, 2 Int16, 3 Int32, 4 Int64, 5 UInt8, 6 UInt16, 7 UInt32, 8 UInt64, 9 Float, 10 Double, 11 Boolean, 12 String,
-- 13 DateTime, 14 Text, 15 UUID, 17 Bytes, 18 File. Nothing else is read.
abbrev pub typed_of : ℕ → Content → Option Typed
typed_of datatype c =
    if datatype == 1 then option_and_then (narrow_signed (2 ^ 7)) (int_in c) else (
    if datatype == 2 then option_and_then (narrow_signed (2 ^ 15)) (int_in c) else (
    if datatype == 3 then option_and_then (narrow_signed (2 ^ 31)) (int_in c) else (
    if datatype == 4 then option_map signed_64 (long_in c) else (
    if datatype == 5 then option_and_then (below (2 ^ 8)) (int_in c) else (
    if datatype == 6 then option_and_then (below (2 ^ 16)) (int_in c) else (
    if datatype == 7 then option_and_then (below (2 ^ 32)) (int_or_long_in c) else (
    if datatype == 8 then option_map Unsigned (long_in c) else (
    if datatype == 9 then float_in c else (
    if datatype == 10 then double_in c else (
    if datatype == 11 then truth_in c else (
    if datatype == 12 then text_in c else (
    if datatype == 13 then option_map Unsigned (int_or_long_in c) else (
    if datatype == 14 then text_in c else (
    if datatype == 15 then text_in c else (
    if datatype == 17 then bytes_in c else (
    if datatype == 18 then bytes_in c else None))))))))))))))))

-- ---- what is written

-- Two's complement on 32 and on 64 bits.
abbrev pub bits_32 : ℤ → ℕ
bits_32 (pos n) = n
bits_32 (negsuc n) = 2 ^ 32 - suc n

abbrev pub bits_64 : ℤ → ℕ
bits_64 (pos n) = n
bits_64 (negsuc n) = 2 ^ 64 - suc n

-- A signed number from -half to half - 1.
abbrev pub is_signed_below : ℕ → ℤ → Bool
is_signed_below half (pos n) = nat_lt n half
is_signed_below half (negsuc n) = nat_lt n half

abbrev pub int_of_signed : ℕ → Typed → Option Content
int_of_signed half (Signed z) = if is_signed_below half z then Some (Int (bits_32 z)) else None
int_of_signed half _ = None

abbrev pub long_of_signed : Typed → Option Content
long_of_signed (Signed z) = Some (Long (bits_64 z))
long_of_signed _ = None

abbrev pub int_of_unsigned : ℕ → Typed → Option Content
int_of_unsigned limit (Unsigned n) = if nat_lt n limit then Some (Int n) else None
int_of_unsigned limit _ = None

abbrev pub long_of_unsigned : Typed → Option Content
long_of_unsigned (Unsigned n) = Some (Long n)
long_of_unsigned _ = None

abbrev pub flag_of : Typed → Option Content
flag_of (Truth b) = Some (Flag b)
flag_of _ = None

abbrev pub words_of : Typed → Option Content
words_of (Text bytes) = Some (Words bytes)
words_of _ = None

abbrev pub octets_of : Typed → Option Content
octets_of (Bytes bytes) = Some (Octets bytes)
octets_of _ = None

abbrev pub float_written : Typed → Option Content
float_written (Binary32 n) = Some (Float n)
float_written _ = None

abbrev pub double_written : Typed → Option Content
double_written (Binary64 n) = Some (Double n)
double_written _ = None

-- How a value of a datatype is written: signed numbers of up to 32 bits as int in 32 bits of two's complement, Int64 as
-- long, UInt8 to UInt32 as int, UInt64 and DateTime as long, Float, Double, Boolean, texts and bytes as they are. Nothing else is.
abbrev pub written_of : ℕ → Typed → Option Content
written_of datatype v =
    if datatype == 1 then int_of_signed (2 ^ 7) v else (
    if datatype == 2 then int_of_signed (2 ^ 15) v else (
    if datatype == 3 then int_of_signed (2 ^ 31) v else (
    if datatype == 4 then long_of_signed v else (
    if datatype == 5 then int_of_unsigned (2 ^ 8) v else (
    if datatype == 6 then int_of_unsigned (2 ^ 16) v else (
    if datatype == 7 then int_of_unsigned (2 ^ 32) v else (
    if datatype == 8 then long_of_unsigned v else (
    if datatype == 9 then float_written v else (
    if datatype == 10 then double_written v else (
    if datatype == 11 then flag_of v else (
    if datatype == 12 then words_of v else (
    if datatype == 13 then long_of_unsigned v else (
    if datatype == 14 then words_of v else (
    if datatype == 15 then words_of v else (
    if datatype == 17 then octets_of v else (
    if datatype == 18 then octets_of v else None))))))))))))))))

-- The numbers of a value have 64 bits, those of a float 32.
abbrev pub TypedFits : Typed → Type 0
TypedFits (Signed (pos n)) = n < 2 ^ 63
TypedFits (Signed (negsuc n)) = n < 2 ^ 63
TypedFits (Unsigned n) = n < 2 ^ 64
TypedFits (Binary32 n) = n < 2 ^ 32
TypedFits (Binary64 n) = n < 2 ^ 64
TypedFits _ = Unit {0}
