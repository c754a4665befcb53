-- Records of lines behind bytes, and why they were refused (own rules).
use Rattle.std.specs.Prelude.{◌≡◌, ℕ, List, [], ◌∷◌, ◌++◌, Option, Some, None}
use Rattle.std.specs.List.{flat_map}
use Rattle.spk_packets.specs.Fault.{IsNamed}
use Rattle.spk_packets.specs.declared.fault.PacketFault.{PacketFault}
use Rattle.spk_broker_events.specs.Line.{Kept, line_record, line_refusal}

abbrev pub records : List Kept → List ℕ
records ls = flat_map line_record ls

-- what is named first: by the one, else by the other
abbrev pub or_named : Option PacketFault → Option PacketFault → Option PacketFault
or_named None other = other
or_named (Some e) other = Some e

-- why the first line that has no record has none
abbrev pub first_refusal : List Kept → Option PacketFault
first_refusal [] = None
first_refusal (l ∷ ls) = or_named (line_refusal l.packet) (first_refusal ls)

-- the records of these lines stand behind what was there, and each line has one
pub record IsAdded (ls : List Kept) (old new : List ℕ) : Type 0 where
  pub are : new ≡ old ++ records ls
  pub writable : first_refusal ls ≡ None

-- one of these lines is refused for this, or memory was
pub record IsNamedIn (e : PacketFault) (ls : List Kept) : Type 0 where
  pub named : IsNamed e (first_refusal ls)

-- what was there stands in front
pub record Begins (old new : List ℕ) : Type 0 where
  pub more : List ℕ
  pub are : new ≡ old ++ more
