-- What a text says as a Float or a Double (Sparkplug 3.0.0, chapter 6), by its bits (IEEE 754), and the words for what is no finite number (own rules).
use Rattle.std.specs.Prelude.{ℕ, true, false, List, [], Option, Some, None, codes, from_bits, to_bits, is_nan, if◌then◌else◌}
use Rattle.std.specs.Option.{option_and_then, option_map, option_or}
use Rattle.std.specs.Str.{bytes_eq}
use Rattle.std.specs.Float.{Float, Format, nan, inf, fin, float_is_finite}
use Rattle.fast_float.specs.Parse.{parse_float}

-- the words of what isn't a number, and of the infinities
abbrev pub word_of : Float → List ℕ
word_of nan = codes "NaN"
word_of (inf false) = codes "Infinity"
word_of (inf true) = codes "-Infinity"
word_of (fin negative m e) = []

-- what a word says
abbrev pub said_by : List ℕ → Option Float
said_by text =
    if bytes_eq text (codes "NaN") then Some nan
    else (if bytes_eq text (codes "Infinity") then Some (inf false)
    else (if bytes_eq text (codes "-Infinity") then Some (inf true) else None))

-- the bits of a finite number, and of nothing else
abbrev pub finite_bits : Format → Float → Option ℕ
finite_bits f x = if float_is_finite x then Some (to_bits f x) else None

-- of a decimal number: the bits of the nearest of the format's values, where that is finite
abbrev pub finite_bits_in : Format → List ℕ → Option ℕ
finite_bits_in f text = option_and_then (finite_bits f) (parse_float f text)

-- of a word
abbrev pub word_bits : Format → List ℕ → Option ℕ
word_bits f text = option_map (to_bits f) (said_by text)

-- The bits of what a text says.
abbrev pub bits_in : Format → List ℕ → Option ℕ
bits_in f text = option_or (finite_bits_in f text) (word_bits f text)

-- The same bits, but one pattern for all that isn't a number: the quiet one without a sign.
abbrev pub one_nan : Format → ℕ → ℕ
one_nan f bits = if is_nan (from_bits f bits) then to_bits f nan else bits
