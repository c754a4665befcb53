-- Whether a packet of an edge node can be written.
use Rattle.std.specs.Prelude.{Bool, is_none}
use Rattle.spk_packets.specs.Fault.{first_of}
use Rattle.spk_packets.specs.Message.{Message}
use Rattle.spk_packets.specs.Spelling.{unwritable}

-- a packet that the writer doesn't refuse
abbrev pub is_writable : Message → Bool
is_writable p = is_none (first_of (unwritable p))
