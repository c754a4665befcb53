-- A change of a metric that is done at once, and what it makes of a node's data.
use Rattle.std.specs.Prelude.{◌≡◌, ℕ, ◌+◌, ◌%◌, [], ◌∷◌, Option, Some, None, Ok}
use Rattle.spk_packets.specs.Message as packets
use Rattle.spk_payload.specs.Typing.{Typed}
use Rattle.spk_device.specs.Book.{Book}
use Rattle.spk_store.specs.Calls.{Push}
use Rattle.spk_store.specs.Data.{Kept}
use Rattle.spk_edge_rules.specs.Births.{data_draft, data_metric, later_stamp, owner_at}
use Rattle.spk_edge_rules.specs.Inputs.{Change, ChangeData, Input}
use Rattle.spk_edge_rules.specs.Messages.{Draft, wire}
use Rattle.spk_edge_rules.specs.Rules.{Asked, Given, acts, nothing}
use Rattle.spk_edge.specs.Patch.{plain_input}
use Rattle.spk_edge.specs.Sealing.{with_number}
use Rattle.spk_edge.specs.View.{MessageData, NodeData, unnumbered}
use Rattle.spk_edge.specs.declared.node.Tally.{Tally}

abbrev pub change_of : ℕ → ℕ → Option Typed → Input
change_of now alias value = plain_input now (Change alias value)

-- the rules ask this of it
abbrev pub Asks : NodeData → ℕ → ℕ → Option Typed → Given → Type 0
Asks n now alias value g = acts n.config n.standing.seq n.standing.asked now (Change alias value) ≡ Ok g

-- ---- what is given

-- its message, before it has its number, and with it; and the packet
abbrev pub change_draft : Asked → ℕ → ℕ → Option Typed → Draft
change_draft a now alias value =
    let stamp = later_stamp a.stamp now in
    data_draft a.book (owner_at a.book alias) stamp (data_metric a.book alias stamp None value ∷ [])

abbrev pub change_message : NodeData → ℕ → ℕ → Option Typed → MessageData
change_message n now alias value = with_number n.standing.seq (unnumbered n.config (change_draft n.standing.asked now alias value))

abbrev pub change_wire : NodeData → ℕ → ℕ → Option Typed → packets.Message
change_wire n now alias value = wire n.config n.standing.seq (change_draft n.standing.asked now alias value)

-- it is sent
abbrev pub sent : Asked → ℕ → ℕ → Option Typed → Given
sent a now alias value = record (nothing a) { drafts = change_draft a now alias value ∷ [] }

-- it is kept
abbrev pub change_at : Book → ℕ → ℕ → Option Typed → ChangeData
change_at b now alias value = record { owner = owner_at b alias; alias = alias; value = value; time = now }

abbrev pub kept : Asked → ℕ → ℕ → Option Typed → Given
kept a now alias value = record (nothing a) { store = Some (Push (change_at a.book now alias value)) }

-- ---- the data after it

abbrev pub with_asked : NodeData → Asked → NodeData
with_asked n a = record n { standing = record n.standing { asked = a } }

abbrev pub with_book : NodeData → Book → NodeData
with_book n b = with_asked n (record n.standing.asked { book = b })

abbrev pub with_store : NodeData → Kept ChangeData → NodeData
with_store n s = with_asked n (record n.standing.asked { store = s })

-- a message with this stamp was sent under the number that comes next
abbrev pub with_sent : NodeData → ℕ → NodeData
with_sent n stamp = record n {
  standing = record { asked = record n.standing.asked { stamp = Some stamp }; seq = (n.standing.seq + 1) % 256 };
}

-- the counts of a node, as they are
pub record IsTally (n : NodeData) (t : Tally) : Type 0 where
  pub phase : t.phase ≡ n.standing.asked.phase
  pub heard : t.heard ≡ n.standing.asked.heard
  pub stamp : t.stamp ≡ n.standing.asked.stamp
  pub seq : t.seq ≡ n.standing.seq
  pub bd : t.bd ≡ n.standing.asked.bd
  pub will_bd : t.will_bd ≡ n.standing.asked.will_bd
  pub will_time : t.will_time ≡ n.standing.asked.will_time

-- and behind a message with this stamp
pub record IsSentTally (n : NodeData) (last : ℕ) (t : Tally) : Type 0 where
  pub phase : t.phase ≡ n.standing.asked.phase
  pub heard : t.heard ≡ n.standing.asked.heard
  pub stamp : t.stamp ≡ Some last
  pub seq : t.seq ≡ (n.standing.seq + 1) % 256
  pub bd : t.bd ≡ n.standing.asked.bd
  pub will_bd : t.will_bd ≡ n.standing.asked.will_bd
  pub will_time : t.will_time ≡ n.standing.asked.will_time
