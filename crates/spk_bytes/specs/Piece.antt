-- What contracts see of bytes in one piece.
use Rattle.std.specs.Prelude.{ℕ, List}
use Rattle.spk_bytes.specs.declared.piece.Held.{Held}
use Rattle.spk_bytes.specs.declared.piece.Held.TheVariants.{Alone, Together}

abbrev pub held_items : Held → List ℕ
held_items (Alone bytes) = bytes.items
held_items (Together bytes) = bytes.items.value.items
