-- The index of grants: for each standing grant it has an entry of its filter and the session's number.
use Rattle.std.specs.Prelude.{◌≡◌, ◌==◌, ◌<◌, ◌≤◌, ◌+◌, ◌-◌, nat_lt, ℕ, Bool, true, false, ◌&&◌, not, List, [], length, map, get_or, if◌then◌else◌, Option, Some, None, is_some, Vec}
use Rattle.std.specs.declared.alloc.Global.{Global}
use Rattle.std.specs.List.{AllByRecursion, flat_map, fold, list_any}
use Rattle.std.specs.FinMap as tree
use Rattle.std.specs.Str.{bytes_eq}
use Rattle.spk_packets.specs.Message.{Message, Publish}
use Rattle.spk_topics.specs.Grants.{Finds, Grants}
use Rattle.spk_topics.specs.Text.{topic_refusal}
use Rattle.spk_broker_rules.specs.Data.{Session}
use Rattle.spk_broker_rules.specs.Table.{Table, has}
use Rattle.spk_broker_rules.specs.Words.{best}
use Rattle.spk_broker.specs.Both.{Both}
use Rattle.spk_broker.specs.Granting.{standing_grants}
use Rattle.spk_broker.specs.Sizes.{size_of, size_of_all}

-- ---- what an index is

-- a grant in an index: its QoS by its filter and the number of its session
abbrev pub Entry : Type 0
Entry = (List ℕ × ℕ) × ℕ

-- a grant of the session of this number
abbrev pub entry_of : ℕ → List ℕ × ℕ → Entry
entry_of key g = ((g.0, key), g.1)

-- the grants of a session
abbrev pub entries_of : Session → List Entry
entries_of s = map (λ g. ((g.0, s.key), g.1)) s.grants

abbrev pub with_entry : Grants → Entry → Grants
with_entry index e = tree.insert index e.0 e.1

-- the grants of these sessions, and no others
abbrev pub index_of : List Session → Grants
index_of sessions = fold with_entry tree.empty (flat_map entries_of sessions)

-- the index that is made for these sessions: none where the filters of their grants are too many (own rule)
abbrev pub made_index : List Session → Option Grants
made_index sessions = if nat_lt 100000 (size_of_all sessions) then None else Some (index_of sessions)

-- ---- what it has

-- something holds of the key and the grants of each session
abbrev pub AllOf : (ℕ → Table ℕ → Type 0) → List Session → Type 0
AllOf Q ss = AllByRecursion (λ (s : Session). Q s.key s.grants) ss

-- each of these grants has its entry in the index
abbrev pub IsFiled : Grants → ℕ → Table ℕ → Type 0
IsFiled index key grants = (filter : List ℕ) → has filter grants ≡ true → is_some (tree.get index (filter, key)) ≡ true

abbrev pub AreFiled : Grants → List Session → Type 0
AreFiled index sessions = AllOf (IsFiled index) sessions

-- whether a session of this number has a grant of this filter
abbrev pub is_granted : List ℕ → ℕ → List Session → Bool
is_granted filter key sessions = list_any (λ (s : Session). s.key == key && has filter s.grants) sessions

-- each entry of an index is a grant of one of these sessions
abbrev pub HasNoOther : Grants → List Session → Type 0
HasNoOther index sessions = (filter : List ℕ) (key : ℕ) → is_some (tree.get index (filter, key)) ≡ true → is_granted filter key sessions ≡ true

-- ---- when it is made

-- a message, for which an index is made where there is none
abbrev pub is_publish : Message → Bool
is_publish (Publish dup qos retain topic id payload) = true
is_publish _ = false

-- ---- what it finds

-- what is found for a topic: none exactly where there is no index, or where the text is no topic name
abbrev pub IsReached : Option Grants → List ℕ → Option (Vec (ℕ × ℕ) Global) → Type 0
IsReached None topic found = found ≡ None
IsReached (Some index) topic None = topic_refusal topic ≡ None → ⊥
IsReached (Some index) topic (Some found) = (topic_refusal topic ≡ None) × Finds index topic found.items

-- whether a session of this number was found
abbrev pub has_key : ℕ → List (ℕ × ℕ) → Bool
has_key key found = list_any (λ g. g.0 == key) found

-- whether it is known that the index has none of its grants
abbrev pub is_passed : Option (Vec (ℕ × ℕ) Global) → ℕ → Bool
is_passed None key = false
is_passed (Some found) key = not (has_key key found.items)

-- a session that is passed over has no grant that fits the topic
abbrev pub ArePassed : Option (Vec (ℕ × ℕ) Global) → List ℕ → List Session → Type 0
ArePassed found topic sessions = AllOf (λ key grants. is_passed found key ≡ true → best topic grants ≡ None) sessions

-- the index, where there is one, has the grants of these sessions
abbrev pub IsIndex : Option Grants → List Session → Type 0
IsIndex None sessions = Unit {0}
IsIndex (Some index) sessions = AreFiled index sessions

-- the index has the grants of these sessions and no others, and the size beside it is what their filters take, no more than may be
pub record Holds (index : Grants) (size : ℕ) (sessions : List Session) : Type 0 where
  pub exact : (filter : List ℕ) (key : ℕ) → is_some (tree.get index (filter, key)) ≡ is_granted filter key sessions
  pub total : size ≡ size_of_all sessions
  pub small : size ≤ 100000

-- that, where there is one
abbrev pub IsHeld : Option Grants → ℕ → List Session → Type 0
IsHeld None size sessions = Unit {0}
IsHeld (Some index) size sessions = Holds index size sessions

-- ---- how it follows a call

-- whether the new grant at this place is of this one's filter
abbrev pub is_next : Table ℕ → ℕ → List ℕ × ℕ → Bool
is_next new met g = nat_lt met (length new) && bytes_eq (get_or new met ([], 0)).0 g.0

-- without the entry of a session's grant, unless it is among the new ones
abbrev pub without_entry : ℕ → Table ℕ → Grants → List ℕ × ℕ → Grants
without_entry key new index g = if has g.0 new then index else tree.remove index (g.0, key)

-- the index with its size, and how many of the new grants were met
pub record Walk : Type 0 where
  pub index : Grants
  pub size : ℕ
  pub met : ℕ

-- one grant that a session had: it is met, or it is gone
abbrev pub walked : ℕ → Table ℕ → Walk → List ℕ × ℕ → Walk
walked key new w g =
    if is_next new w.met g then record w { met = w.met + 1 }
    else record { index = without_entry key new w.index g; size = w.size - size_of g.0; met = w.met }

-- of the session of this number the index had these grants, and has those of by now; of each other one it has what it had
pub record IsTurned (old new : Grants) (session : Both) : Type 0 where
  pub others : (filter : List ℕ) (key : ℕ) → (key == session.was.key) ≡ false → is_some (tree.get new (filter, key)) ≡ is_some (tree.get old (filter, key))
  pub own : ((filter : List ℕ) → is_some (tree.get old (filter, session.was.key)) ≡ has filter session.was.grants)
      → (filter : List ℕ) → is_some (tree.get new (filter, session.was.key)) ≡ has filter (standing_grants session.now)

-- a session has its number and the grants of before the call
pub record IsAlike (session : Both) : Type 0 where
  pub by_now : Session
  pub there : session.now ≡ Some by_now
  pub key : by_now.key ≡ session.was.key
  pub grants : by_now.grants ≡ session.was.grants

abbrev pub AreAlikeAt : List ℕ → List Both → Type 0
AreAlikeAt places sessions = (k : ℕ) (d : Both) → k < length places → IsAlike (get_or sessions (get_or places k 0) d)
