-- Lives that are worked out by hand: a node without metrics, no primary host, and numbers that restart.
use Rattle.std.proofs.Common.{◌≡◌, ℕ, true, false, List, [], ◌∷◌, Option, Some, None, refl, codes}
use Rattle.spk_packets.specs.Spelling as packet
use Rattle.spk_payload.specs.declared.values.Values.TheVariants as choice
use Rattle.spk_payload.specs.Spelling as payload
use Rattle.spk_protobuf.specs.Spelling as wire
use Rattle.spk_sequence.specs.NodeRecord.{Restarts}
use Rattle.spk_edge.specs.Patch.{plain_input}
use Rattle.spk_edge.specs.declared.message.Out.{Out}
use Rattle.spk_edge_rules.specs.Config.{Setup}
use Rattle.spk_edge_rules.specs.Inputs.{Cut, Open}
use Rattle.spk_record.specs.declared.record.Record.{Record}
use Rattle.spk_edge_app.specs.Data.{Deed, Opened, Over, Saved, Wrote}
use Rattle.spk_lives.specs.Lives.{Begins, Keeps, Says}
use Rattle.spk_edge_lives.specs.Life.{before_write, life_of}

-- made with the record of a node that ran before: the next bdSeq is 254
abbrev node : Setup
node = record {
  config = record { group = codes "G"; node = codes "N"; primary = None; keep = 60; numbering = Restarts };
  capacity = 3;
  seq = 0;
  bd = 254;
  stamp = Some 100;
  book = record { devices = []; gauges = []; values = choice.Whole };
}

abbrev found : Record
found = record { bd = 254; stamp = 100 }

-- the record of one session more, reserved five seconds ahead
abbrev reserved : Record
reserved = record { bd = 255; stamp = 5100 }

-- cut before its record was saved, it said nothing
begun : (out : Out) (bytes : List ℕ) → life_of node found (Opened 1000 out bytes true ∷ []) ≡ Begins 1 5100 ∷ []
unfolding packet.spelling packet.body packet.shortest packet.has_bad_text packet.has_bad_body packet.is_qos_two payload.spelling payload.metric_spelling wire.varint wire.groups_of wire.bytes_field
begun out bytes = refl

-- cut behind the first byte of its CONNECT, it said that
connecting : (out : Out) (bytes : List ℕ) → life_of node found (Wrote 16 [] 1002 ∷ Saved reserved ∷ Opened 1000 out bytes true ∷ [])
    ≡ Says (plain_input 1000 Open) ∷ Keeps ∷ Begins 1 5100 ∷ []
unfolding packet.spelling packet.body packet.shortest packet.has_bad_text packet.has_bad_body packet.is_qos_two payload.spelling payload.metric_spelling wire.varint wire.groups_of wire.bytes_field
connecting out bytes = refl

-- what it is told behind the last write leaves no trace
over : (out : Out) (bytes : List ℕ) → before_write node (Over 1003 ∷ Wrote 16 [] 1002 ∷ Saved reserved ∷ Opened 1000 out bytes true ∷ []) ≡ plain_input 1000 Open ∷ []
over out bytes = refl

-- an answer that was dropped is told with a cut behind it
dropped : (out : Out) (bytes : List ℕ) → before_write node (Wrote 16 [] 1002 ∷ Opened 1000 out bytes false ∷ []) ≡ plain_input 0 Cut ∷ plain_input 1000 Open ∷ []
dropped out bytes = refl
