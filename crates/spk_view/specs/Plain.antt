-- Data and its texts: to copy any other value takes no memory.
use Rattle.std.specs.Prelude.{Bool, List, [], ◌∷◌, Option, if◌then◌else◌}
use Rattle.std.specs.List.{flat_map, list_any}
use Rattle.spk_payload.specs.Meaning.{Content, MetricData, has_text_or_bytes}

-- the value of a metric is a text or bytes
abbrev pub has_texts : List MetricData → Bool
has_texts ms = list_any (λ m. has_text_or_bytes m.value) ms

-- a value, if it is a text or bytes
abbrev pub text_in : Option Content → List (Option Content)
text_in value = if has_text_or_bytes value then value ∷ [] else []

-- those among the values of metrics, in order
abbrev pub texts_in : List MetricData → List (Option Content)
texts_in ms = flat_map (λ m. text_in m.value) ms
