-- The broker that a journal's bytes say (own rules).
use Rattle.std.specs.Prelude.{◌≡◌, ℕ, Bool, true, false, ◌&&◌, List, [], ◌∷◌, length}
use Rattle.std.specs.List.{fold}
use Rattle.spk_frames.specs.File.{Holds, frames_of}
use Rattle.spk_broker_rules.specs.Data.{Broker, fresh_broker}
use Rattle.spk_broker_events.specs.Record.{most}
use Rattle.spk_broker.specs.declared.part_fault.PartFault.{PartFault}
use Rattle.spk_broker.specs.declared.part_fault.PartFault.TheVariants.{NoMemory, Unfit}
use Rattle.spk_broker_snapshot.specs.Together.{Stand, apart, ended}
use Rattle.spk_broker_journal.specs.Fitting.{Item, SaysItem, after_item, is_ended_fit, is_item_fit}

-- the contents say these, one by one
abbrev pub AreSaid : List (List ℕ) → List Item → Type 0
AreSaid [] [] = Unit {0}
AreSaid [] (i ∷ is) = ⊥
AreSaid (c ∷ cs) [] = ⊥
AreSaid (c ∷ cs) (i ∷ is) = SaysItem c i × AreSaid cs is

-- each fits what those before it put together, and so does the session at the end
abbrev pub are_fit : ℕ → Stand → List Item → Bool
are_fit limit st [] = is_ended_fit st
are_fit limit st (i ∷ is) = is_item_fit st i && are_fit limit (after_item limit st i) is

abbrev pub first : ℕ → Stand
first limit = apart (fresh_broker limit)

-- what items put together
abbrev pub together : ℕ → List Item → Broker
together limit is = ended (fold (after_item limit) (first limit) is)

-- Bytes hold contents that say these items, and so many bytes are their frames.
pub record AreRead (bytes : List ℕ) (items : List Item) (whole : ℕ) : Type 0 where
  pub contents : List (List ℕ)
  pub rest : List ℕ
  pub hold : Holds most bytes contents rest
  pub said : AreSaid contents items
  pub front : whole ≡ length (frames_of contents)

-- the broker that bytes say: what their items put together, each of which fits
pub record IsReplayed (limit : ℕ) (bytes : List ℕ) (whole : ℕ) (b : Broker) : Type 0 where
  pub items : List Item
  pub read : AreRead bytes items whole
  pub fit : are_fit limit (first limit) items ≡ true
  pub is : b ≡ together limit items

-- what is refused with Unfit: no items that fit are read of the bytes
abbrev pub IsUnread : ℕ → List ℕ → PartFault → Type 0
IsUnread limit bytes NoMemory = Unit {0}
IsUnread limit bytes Unfit = (items : List Item) (whole : ℕ) → AreRead bytes items whole → are_fit limit (first limit) items ≡ false
