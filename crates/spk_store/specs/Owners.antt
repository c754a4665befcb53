-- Changes of one owner.
use Rattle.std.specs.Prelude.{Bool, false, Option, Some, None}
use Rattle.spk_device.specs.declared.owner.Owner.{Owner}
use Rattle.spk_device.specs.Book.{is_owner}
use Rattle.spk_store.specs.declared.change.Change.{Change}

-- a change of an owner's metric
abbrev pub is_of : Owner → Change → Bool
is_of owner change = is_owner owner change.owner

abbrev pub is_at : Owner → Option Change → Bool
is_at owner None = false
is_at owner (Some change) = is_of owner change

abbrev pub have_one_owner : Change → Change → Bool
have_one_owner a b = is_of a.owner b
