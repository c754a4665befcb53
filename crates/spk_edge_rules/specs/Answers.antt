-- What an edge node answers: the packets as they are sent, if all of them can be written.
use Rattle.std.specs.Prelude.{List, Result, Ok, Err, if◌then◌else◌}
use Rattle.std.specs.List.{list_all}
use Rattle.spk_packets.specs.Message.{Message}
use Rattle.spk_edge_rules.specs.declared.fault.EdgeFault.{EdgeFault}
use Rattle.spk_edge_rules.specs.declared.fault.EdgeFault.TheVariants.{TooLarge}
use Rattle.spk_edge_rules.specs.Rules.{Given}
use Rattle.spk_edge_rules.specs.Writable.{is_writable}

-- What an input comes to where it is taken: what the rules give, and the packets.
pub record Answer : Type 0 where
  pub given : Given
  pub packets : List Message

-- the answer, where each of its packets can be written; TooLarge (64) else
abbrev pub checked : Given → List Message → Result Answer EdgeFault
checked g packets = if list_all is_writable packets then Ok (record { given = g; packets = packets }) else Err TooLarge
