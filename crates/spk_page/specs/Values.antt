-- The JSON of a metric's value (own rules): whole numbers of 64 bits are texts, since a reader in JavaScript would round them; of floats what is no
-- finite number is a word; bytes are hexadecimal digits; what this host doesn't read is an object that says so.
use Rattle.std.specs.Prelude.{ℕ, ℤ, Bool, true, false, ◌||◌, ◌==◌, List, Option, Some, None, codes, decimal, from_bits, if◌then◌else◌}
use Rattle.std.specs.Fmt.{signed_decimal}
use Rattle.std.specs.Float.{Float, binary32, binary64, float_is_finite}
use Rattle.serde_json.specs.Data.{Data, null, boolean, number, string, object, unsigned, float, member, no_members}
use Rattle.serde_json.specs.Find.{of_integer}
use Rattle.hex.specs.Hex.{encode_lower}
use Rattle.spk_floats.specs.Text.{word_of}
use Rattle.spk_page.specs.declared.node.Shown.{Shown}
use Rattle.spk_page.specs.declared.node.Shown.TheVariants.{Nothing, Other, Signed, Unsigned, Flag, Words, Octets, Float as Single, Double}

-- Int64, UInt64 and DateTime (Sparkplug 3.0.0, 6.4.16)
abbrev pub is_wide : Option ℕ → Bool
is_wide None = false
is_wide (Some n) = (n == 4) || ((n == 8) || (n == 13))

abbrev pub signed_data : Option ℕ → ℤ → Data
signed_data datatype z = if is_wide datatype then string (signed_decimal z) else number (of_integer z)

abbrev pub unsigned_data : Option ℕ → ℕ → Data
unsigned_data datatype n = if is_wide datatype then string (decimal n) else number (unsigned n)

-- a finite number, or its word
abbrev pub float_data : Float → Data
float_data x = if float_is_finite x then number (float x) else string (word_of x)

abbrev pub shown_data : Option ℕ → Shown → Data
shown_data datatype Nothing = null
shown_data datatype Other = object (member (codes "other") (boolean true) no_members)
shown_data datatype (Signed z) = signed_data datatype z
shown_data datatype (Unsigned n) = unsigned_data datatype n
shown_data datatype (Flag b) = boolean b
shown_data datatype (Words w) = string w.now
shown_data datatype (Octets o) = string (encode_lower o.now)
shown_data datatype (Single bits) = float_data (from_bits binary32 bits)
shown_data datatype (Double bits) = float_data (from_bits binary64 bits)
