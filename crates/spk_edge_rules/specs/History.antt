-- Kept changes that go out in one message, as historical data (Sparkplug 3.0.0, chapter 6), and how many can (own rule).
use Rattle.std.specs.Prelude.{ℕ, zero, suc, min, Bool, List, map, take, if◌then◌else◌}
use Rattle.spk_device.specs.Book.{Book, is_owner}
use Rattle.spk_device.specs.declared.owner.Owner.{Owner}
use Rattle.spk_store.specs.Step.{run_of}
use Rattle.spk_edge_rules.specs.Births.{data_draft, kept_metric}
use Rattle.spk_edge_rules.specs.Config.{Config}
use Rattle.spk_edge_rules.specs.Inputs.{ChangeData}
use Rattle.spk_edge_rules.specs.Messages.{Draft, wire}
use Rattle.spk_edge_rules.specs.Writable.{is_writable}

-- two changes are of one owner
abbrev pub have_one_owner : ChangeData → ChangeData → Bool
have_one_owner x y = is_owner x.owner y.owner

-- at most so many go into one message
abbrev pub most : ℕ
most = 32

-- how many changes at the front are of one owner, and go into one message
abbrev pub front_run : List ChangeData → ℕ
front_run changes = min most (run_of have_one_owner changes)

-- the message of the first n of the changes, which are an owner's
abbrev pub history : Book → Owner → ℕ → List ChangeData → ℕ → Draft
history b owner stamp changes n = data_draft b owner stamp (map (kept_metric b) (take n changes))

-- it can be written under a number
abbrev pub can_go : Config → ℕ → Book → Owner → ℕ → List ChangeData → ℕ → Bool
can_go c number b owner stamp changes n = is_writable (wire c number (history b owner stamp changes n))

-- the greatest number, at most n, of which a fact holds; 0 where it holds of none
abbrev pub longest : (ℕ → Bool) → ℕ → ℕ
longest holds zero = 0
longest holds (suc n) = if holds (suc n) then suc n else longest holds n

-- how many of the changes go, under a number: the longest front of the front run that can
abbrev pub front_going : Config → ℕ → Book → Owner → ℕ → List ChangeData → ℕ
front_going c number b owner stamp changes = longest (can_go c number b owner stamp changes) (front_run changes)
