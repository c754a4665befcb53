-- Births that are sent at once, and what they make of a node's data.
use Rattle.std.specs.Prelude.{◌≡◌, ◌⊎◌, ℕ, ◌^◌, true, false, nat_lt, List, [], ◌∷◌, ◌++◌, map, Option, Some, None}
use Rattle.std.specs.List.{list_all}
use Rattle.spk_packets.specs.Message as packets
use Rattle.spk_packets.specs.Spelling.{spelling}
use Rattle.spk_edge_rules.specs.Writable.{is_writable}
use Rattle.spk_edge_rules.specs.Births.{birth_stamp, births_at}
use Rattle.spk_edge_rules.specs.Inputs.{Command, Input, WriteData}
use Rattle.spk_edge_rules.specs.declared.fault.EdgeFault.{EdgeFault}
use Rattle.spk_edge_rules.specs.declared.fault.EdgeFault.TheVariants.{NoMemory, ClockEnd, TooLarge}
use Rattle.spk_edge_rules.specs.declared.phase.Phase.TheVariants.{Born}
use Rattle.spk_edge.specs.Rows.{all_born}
use Rattle.spk_edge.specs.Sealing.{AreWhole, bytes_of, seq_past, wire_of}
use Rattle.spk_edge.specs.View.{NodeData, unnumbered, write_view}
use Rattle.spk_edge.specs.declared.message.Out.{Out}

-- the acknowledgement of what came at QoS 1
abbrev pub acks : Option ℕ → List packets.Message
acks None = []
acks (Some id) = packets.PubAck id ∷ []

-- a command as an input
abbrev pub command_input : ℕ → Option ℕ → List ℕ → List ℕ → Input
command_input now ack topic payload = record { now = now; ack = ack; act = Command topic payload }

-- the stamp of the births, and the packets
abbrev pub stamp_at : NodeData → ℕ → ℕ
stamp_at n now = birth_stamp n.standing.asked.stamp now

abbrev pub births_sent : NodeData → ℕ → Option ℕ → List packets.Message
births_sent n now ack = acks ack ++ map wire_of (all_born n (stamp_at n now))

-- the node behind its births
abbrev pub born_node : NodeData → ℕ → NodeData
born_node n stamp = record n {
  standing = record {
    asked = record n.standing.asked { phase = Born; stamp = Some stamp };
    seq = seq_past n.config.numbering n.standing.seq (map (unnumbered n.config) (births_at n.standing.asked.book n.standing.asked.will_bd stamp));
  };
}

-- The births were sent behind the acknowledgement, and these writes handed out.
pub record IsReborn (n : NodeData) (now : ℕ) (ack : Option ℕ) (handed : List WriteData) (after : NodeData) (out : Out) : Type 0 where
  pub timely : nat_lt (stamp_at n now) (2 ^ 63) ≡ true
  pub writable : list_all is_writable (births_sent n now ack) ≡ true
  pub packets : map bytes_of out.packets.items ≡ map spelling (births_sent n now ack)
  pub writes : map write_view out.writes.items ≡ handed
  pub close : out.close ≡ false
  pub whole : AreWhole (all_born n (stamp_at n now))
  pub stands : after ≡ born_node n (stamp_at n now)

-- memory was refused, the births have no stamp, or one of the packets can't be written
abbrev pub IsUnborn : NodeData → ℕ → Option ℕ → EdgeFault → Type 0
IsUnborn n now ack e = (e ≡ NoMemory) ⊎ (((e ≡ ClockEnd) × (nat_lt (stamp_at n now) (2 ^ 63) ≡ false))
    ⊎ ((e ≡ TooLarge) × (nat_lt (stamp_at n now) (2 ^ 63) ≡ true) × (list_all is_writable (births_sent n now ack) ≡ false)))
