-- Data without texts.
use Rattle.std.specs.Prelude.{◌≡◌, false}
use Rattle.spk_reading.specs.Data as said
use Rattle.spk_reading.specs.Data.{NumberedData, SubjectData}
use Rattle.spk_view.specs.Plain.{has_texts}

-- data of a node's own or of a device
abbrev pub IsData : SubjectData → Type 0
IsData said.NodeData = Unit {0}
IsData (said.DeviceData device) = Unit {0}
IsData _ = ⊥

-- data, none of whose values is a text or bytes
pub record IsPlain (m : NumberedData) : Type 0 where
  pub is_data : IsData m.subject
  pub no_texts : has_texts m.payload.metrics ≡ false
