-- What is kept along the items.
use Rattle.std.specs.Prelude.{◌≡◌, ℕ, List, take}
use Rattle.spk_ingress.specs.declared.rule.Message.{Message}
use Rattle.spk_plant_host.specs.Told.{told_in}
use Rattle.spk_plant_host.specs.declared.ends.Given.{Given}
use Rattle.spk_plant_relay.specs.Topics.{is_numbered_topic}
use Rattle.spk_plant_given.specs.Numbered.{IsCount}
use Rattle.spk_plant_given.specs.Handed.{AreHanded, consumed_in, handed_in}
use Rattle.spk_plant_given.specs.declared.book.Book.{Book}

-- these are the first items
pub record Follows (group name : List ℕ) (k : ℕ) (taken : List Message) (accepted : List ℕ) (given : List Given) (place : ℕ) (b : Book) : Type 0 where
  pub handed : AreHanded (is_numbered_topic group name) k group name taken accepted (told_in (take place given)) (handed_in b.given.items)
  pub consumed : b.consumed.items ≡ consumed_in given b.given.items
  pub counted : IsCount (is_numbered_topic group name) k taken b.count
