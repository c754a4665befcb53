-- What an edge node is, and what it begins with.
use Rattle.std.specs.Prelude.{ℕ, List, Option}
use Rattle.spk_device.specs.Book.{Book}
use Rattle.spk_sequence.specs.NodeRecord.{Numbering}

-- The names of its group and of itself, as bytes; its primary host application, if it has one (Sparkplug 3.0.0, chapter 5);
-- its keep alive, in seconds; and whether its sequence numbers run on over births, or begin with 0 at each NBIRTH.
pub record Config : Type 0 where
  pub group : List ℕ
  pub node : List ℕ
  pub primary : Option (List ℕ)
  pub keep : ℕ
  pub numbering : Numbering

-- What it was made with: how many changes it keeps, what it takes over from the node that ran before it, which are the
-- sequence number and the bdSeq that come next and the last stamp, and its registry.
pub record Setup : Type 0 where
  pub config : Config
  pub capacity : ℕ
  pub seq : ℕ
  pub bd : ℕ
  pub stamp : Option ℕ
  pub book : Book
