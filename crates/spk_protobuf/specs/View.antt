-- What contracts see of the crate's types.
use Rattle.std.specs.Prelude.{◌≡◌, List, Result, Ok, Err}
use Rattle.spk_protobuf.specs.declared.fault.WireFault.{WireFault}
use Rattle.spk_protobuf.specs.declared.field.Wire.{Wire}
use Rattle.spk_protobuf.specs.declared.field.Wire.TheVariants as wire
use Rattle.spk_protobuf.specs.declared.field.Field.{Field}
use Rattle.spk_protobuf.specs.declared.field.Fields.{Fields}
use Rattle.spk_protobuf.specs.Grammar.{Shape, Varint, Eight, Bytes, Four, Entry}
use Rattle.spk_protobuf.specs.Reading.{items_of}

abbrev pub shape_of : Wire → Shape
shape_of (wire.Varint n) = Varint n
shape_of (wire.Eight bytes) = Eight bytes
shape_of (wire.Bytes bytes) = Bytes bytes.now
shape_of (wire.Four bytes) = Four bytes

abbrev pub entry_of : Field → Entry
entry_of f = record { number = f.number; shape = shape_of f.wire }

abbrev pub item_of : Result Field WireFault → Result Entry WireFault
item_of (Ok f) = Ok (entry_of f)
item_of (Err w) = Err w

-- What the iterator has still to give.
abbrev pub items_left : Fields → List (Result Entry WireFault)
items_left s = items_of s.rest.now

-- What a reader answered, seen by view, is what reading gives.
abbrev pub Gives : {X Y : Type 0} → (X → Y) → Result X WireFault → Result Y WireFault → Type 0
Gives view (Ok x) read = read ≡ Ok (view x)
Gives view (Err w) read = read ≡ Err w
