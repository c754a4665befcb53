-- What contracts see of the bytes of a packet: those of its pieces, one behind the other.
use Rattle.std.specs.Prelude.{ℕ, List, ◌++◌}
use Rattle.spk_bytes.specs.declared.packet.Headed.{Headed as Both}
use Rattle.spk_bytes.specs.declared.packet.Laid.{Laid}
use Rattle.spk_bytes.specs.declared.packet.Laid.TheVariants.{Alone, Together, Headed}

abbrev pub both_items : Both → List ℕ
both_items b = b.head.items ++ b.body

abbrev pub laid_items : Laid → List ℕ
laid_items (Alone bytes) = bytes.items
laid_items (Together bytes) = bytes.items.value.items
laid_items (Headed both) = both_items both.value
