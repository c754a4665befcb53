-- What is kept beside the nodes: what leads to them, and up to which moment none has a gap.
use Rattle.std.specs.Prelude.{◌≡◌, ℕ, ◌<◌, false, List, map, slice_get, Some}
use Rattle.spk_sequence.specs.Step.{is_over}
use Rattle.spk_host_node.specs.Data.{NodeData}
use Rattle.spk_host_node.specs.Step.{tick}
use Rattle.spk_host.specs.Data.{Entry}
use Rattle.spk_host.specs.Index.{IndexData, IsIndexed, names_of}

-- no moment before this one is a gap, or changes anything
abbrev pub IsStillUntil : ℕ → NodeData → Type 0
IsStillUntil due n = (now : ℕ) → now < due → (is_over n.order.standing now ≡ false) × (tick n now ≡ n)

abbrev pub AreStillUntil : ℕ → List Entry → Type 0
AreStillUntil due nodes = (k : ℕ) (e : Entry) → slice_get nodes k ≡ Some e → IsStillUntil due e.kept

pub record IsInOrder (nodes : List Entry) (index : IndexData) (due : ℕ) : Type 0 where
  pub indexed : IsIndexed (map names_of nodes) index
  pub still : AreStillUntil due nodes
