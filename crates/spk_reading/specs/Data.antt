-- What a host hears, without where it lies in memory. Texts are their bytes.
use Rattle.std.specs.Prelude.{ℕ, List, Option}
use Rattle.spk_payload.specs.Meaning.{PayloadData}
use Rattle.spk_sequence.specs.declared.message.Kind.{Kind}

-- what a numbered message is about: the node, or a device by its name
pub data SubjectData : Type 0 where
  NodeBirth : SubjectData
  NodeData : SubjectData
  DeviceBirth : (device : List ℕ) → SubjectData
  DeviceData : (device : List ℕ) → SubjectData
  DeviceDeath : (device : List ℕ) → SubjectData

-- a message of a node that carries a sequence number
pub record NumberedData : Type 0 where
  pub group : List ℕ
  pub node : List ℕ
  pub subject : SubjectData
  pub number : ℕ
  pub kind : Kind
  pub topic : List ℕ
  pub payload : PayloadData

-- what a PUBLISH says: a numbered message, an NDEATH with its bdSeq, or nothing that is read
pub data ContentData : Type 0 where
  Message : NumberedData → ContentData
  Death : (group node : List ℕ) (bd : ℕ) → ContentData
  Nothing : ContentData

-- what a packet says: a PUBLISH with the identifier to acknowledge, a CONNACK with its code, a SUBACK, or any other
pub data HeardData : Type 0 where
  Published : (ack : Option ℕ) (content : ContentData) → HeardData
  Answered : (code : ℕ) → HeardData
  Granted : HeardData
  Other : HeardData
