-- Places at which a message calls, where all other sessions have no grant that fits.
use Rattle.std.specs.Prelude.{◌≡◌, ◌==◌, ◌<◌, ◌≤◌, ℕ, Bool, false, ◌&&◌, List, length, map, get_or, Option, Some, None, IfSome, is_some, Vec}
use Rattle.std.specs.declared.alloc.Global.{Global}
use Rattle.std.specs.List.{list_any}
use Rattle.std.specs.List.Sorted.{IsStrictlyIncreasing}
use Rattle.spk_topics.specs.Grants.{Grants}
use Rattle.spk_broker_rules.specs.Data as plain
use Rattle.spk_broker_rules.specs.Lawful.{Rises}
use Rattle.spk_broker_rules.specs.Words.{best}
use Rattle.spk_broker.specs.Both.{Both}
use Rattle.spk_broker.specs.Filing.{has_key}

-- whether a place is one of these
abbrev pub is_place : ℕ → List ℕ → Bool
is_place place places = list_any (λ p. p == place) places

-- the places rise, and sessions stand there
pub record ArePlaces (places : List ℕ) (sessions : List Both) : Type 0 where
  pub rise : (i j : ℕ) → i < j → j < length places → get_or places i 0 < get_or places j 0
  pub low : (k : ℕ) → k < length places → get_or places k 0 < length sessions

-- whether a session has this number
abbrev pub has_number : ℕ → plain.Session → Bool
has_number key s = s.key == key

-- sessions stand in the order of their numbers, those that ended in the call too
abbrev pub AreOrdered : List Both → Type 0
AreOrdered sessions = (low : ℕ) × (top : ℕ) × Rises low top (map (λ (b : Both). b.was) sessions)

-- a session has the number that it had before the call, where it didn't end
abbrev pub IsKeyed : Both → Type 0
IsKeyed b = IfSome b.now (λ s. s.key ≡ b.was.key)

abbrev pub AreKeyed : List Both → Type 0
AreKeyed sessions = (i : ℕ) (d : Both) → i < length sessions → IsKeyed (get_or sessions i d)

-- where there is an index, sessions are found by their numbers
abbrev pub AreInOrder : Option Grants → List Both → Type 0
AreInOrder None sessions = Unit {0}
AreInOrder (Some index) sessions = AreOrdered sessions × AreKeyed sessions

-- whether this one is the session of a number, and didn't end
abbrev pub is_there : ℕ → Both → Bool
is_there key session = is_some session.now && session.was.key == key

-- no session of this number stands here or further on
abbrev pub IsPast : ℕ → ℕ → List Both → Type 0
IsPast key from sessions = (i : ℕ) (d : Both) → from ≤ i → i < length sessions → is_there key (get_or sessions i d) ≡ false

-- the numbers that were found rise
abbrev pub AreAscending : Option (Vec (ℕ × ℕ) Global) → Type 0
AreAscending None = Unit {0}
AreAscending (Some found) = IsStrictlyIncreasing (map (λ g. g.0) found.items)

-- a session that stands elsewhere has none of these numbers
abbrev pub AreAllFound : List (ℕ × ℕ) → List ℕ → List Both → Type 0
AreAllFound found places sessions =
    (i : ℕ) (d : Both) (s : plain.Session) → i < length sessions → (get_or sessions i d).now ≡ Some s → is_place i places ≡ false → has_key s.key found ≡ false

-- the message does nothing to a session that stands elsewhere
abbrev pub AreCalled : List ℕ → List ℕ → List Both → Type 0
AreCalled topic places sessions =
    (i : ℕ) (d : Both) (s : plain.Session) → i < length sessions → (get_or sessions i d).now ≡ Some s → is_place i places ≡ false → best topic s.grants ≡ None
