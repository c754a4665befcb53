-- The lives of one edge node, each begun from what the disk held when the one before was cut, at whatever moment that was (Sparkplug 3.0.0, chapter 6,
-- on `bdSeq` and timestamps; the record is an own rule). Deeds and lives stand newest first.
use Rattle.std.specs.Prelude.{◌≡◌, ℕ, ◌+◌, ◌-◌, ◌<◌, ◌≤◌, ◌⊎◌, List, [], ◌∷◌, ◌++◌, get_or, length, map, slice_get, take, Option, Some, None}
use Rattle.std.specs.List.{AllByRecursion, range_with_len}
use Rattle.spk_record.specs.declared.record.Record.{Record}
use Rattle.spk_edge_rules.specs.Config.{Setup}
use Rattle.spk_edge_rules.specs.Inputs.{Input}
use Rattle.spk_edge_rules.specs.Run.{Done, Message, number_at, opened, published, run_of, session_number, stamp_of}

-- ---- what the disk holds

-- What a record allows the life that writes it: so many sessions, and stamps up to its own. Without a stamp it is no record: what a node's very first life
-- finds, and where it has nothing on the disk yet.
pub record Reserve : Type 0 where
  pub sessions : ℕ
  pub stamp : Option ℕ

-- the record as it is written: the bdSeq that comes after that of the last session that it allows
abbrev pub record_in : Setup → ℕ → ℕ → Record
record_in s sessions stamp = record { bd = session_number s sessions; stamp = stamp }

-- ---- what a life does

pub data Deed : Type 0 where
  -- a record of so many sessions and of this stamp begins to be written: the disk may hold it from now on
  Begins : (sessions stamp : ℕ) → Deed
  -- the record begun last is kept: the disk holds it, and none that is older
  Keeps : Deed
  -- the node is told an input, and what it answers is given out to be written to the broker, or let go where its connection is over
  Says : Input → Deed

-- what the node was told
abbrev pub said : List Deed → List Input
said [] = []
said (Begins sessions stamp ∷ ds) = said ds
said (Keeps ∷ ds) = said ds
said (Says i ∷ ds) = i ∷ said ds

-- Whatever the disk may hold, the newest first: the record kept last and each one that was begun since. At first it is what the life began from.
abbrev pub on_disk : Setup → List Deed → List Reserve
on_disk s [] = (record { sessions = 0; stamp = s.stamp }) ∷ []
on_disk s (Begins sessions stamp ∷ ds) = (record { sessions = sessions; stamp = Some stamp }) ∷ on_disk s ds
on_disk s (Keeps ∷ ds) = take 1 (on_disk s ds)
on_disk s (Says i ∷ ds) = on_disk s ds

-- nothing was used, or nothing past what is reserved
abbrev pub IsUpTo : Option ℕ → Option ℕ → Type 0
IsUpTo None reserved = Unit {0}
IsUpTo (Some used) None = ⊥
IsUpTo (Some used) (Some reserved) = used ≤ reserved

-- The record covers what a node did: no more sessions were opened than it allows, and the last stamp isn't past its own.
pub record CoversRun (s : Setup) (h : List Done) (r : Reserve) : Type 0 where
  pub sessions : opened h ≤ r.sessions
  pub stamp : IsUpTo (stamp_of s h) r.stamp

-- Nothing is given out before its record is kept: whatever the disk may hold covers it. And no record is begun that doesn't cover what was given out.
abbrev pub MayDo : Setup → List Deed → Deed → Type 0
MayDo s ds (Begins sessions stamp) = CoversRun s (run_of s (said ds)) (record { sessions = sessions; stamp = Some stamp })
MayDo s ds Keeps = Unit {0}
MayDo s ds (Says i) = AllByRecursion (CoversRun s (run_of s (i ∷ said ds))) (on_disk s ds)

abbrev pub IsCareful : Setup → List Deed → Type 0
IsCareful s [] = Unit {0}
IsCareful s (d ∷ ds) = MayDo s ds d × IsCareful s ds

-- ---- lives

-- A life up to the moment at which it was cut: what its node was made with, what it did, and which of the records that the disk may then hold survived.
pub record Life : Type 0 where
  pub setup : Setup
  pub deeds : List Deed
  pub left : Reserve

abbrev pub run : Life → List Done
run l = run_of l.setup (said l.deeds)

-- one of them
abbrev pub IsAmong : Reserve → List Reserve → Type 0
IsAmong r [] = ⊥
IsAmong r (x ∷ xs) = (r ≡ x) ⊎ IsAmong r xs

pub record IsLife (l : Life) : Type 0 where
  pub careful : IsCareful l.setup l.deeds
  pub survived : IsAmong l.left (on_disk l.setup l.deeds)

-- A node goes on from the record that the life before left: with its bdSeq and behind its stamp.
pub record GoesOn (s : Setup) (before : Life) : Type 0 where
  pub config : s.config ≡ before.setup.config
  pub bd : s.bd ≡ session_number before.setup before.left.sessions
  pub stamp : s.stamp ≡ before.left.stamp

abbrev pub GoesOnFrom : Setup → List Life → Type 0
GoesOnFrom s [] = Unit {0}
GoesOnFrom s (l ∷ ls) = GoesOn s l

-- the lives of one node
abbrev pub AreLives : List Life → Type 0
AreLives [] = Unit {0}
AreLives (l ∷ ls) = IsLife l × GoesOnFrom l.setup ls × AreLives ls

-- ---- all of them end to end

-- what the first life was made with: this one is the newest
abbrev pub first_setup : Life → List Life → Setup
first_setup l [] = l.setup
first_setup l (b ∷ ls) = first_setup b ls

-- one past the birth of the last message, and 0 where there is none
abbrev pub next_birth : List Message → ℕ
next_birth messages = get_or (map (λ m. m.birth + 1) messages) (length messages - 1) 0

-- the sessions of all lives: those that were opened, and those whose record survived though the life was cut before they were
abbrev pub sessions_in : List Life → ℕ
sessions_in [] = 0
sessions_in (l ∷ ls) = sessions_in ls + l.left.sessions

-- a message behind so many births and sessions
abbrev pub moved : ℕ → ℕ → Message → Message
moved births sessions m = record m { birth = births + m.birth; session = sessions + m.session }

-- What all lives published, oldest first: births and sessions go on from life to life.
abbrev pub end_to_end : List Life → List Message
end_to_end [] = []
end_to_end (l ∷ ls) = end_to_end ls ++ map (moved (next_birth (end_to_end ls)) (sessions_in ls)) (published (run l))

-- ---- what is said of them

-- the bdSeqs of all their sessions, in order
abbrev pub bds_of : List Life → List ℕ
bds_of [] = []
bds_of (l ∷ ls) = bds_of ls ++ map (session_number l.setup) (range_with_len 0 l.left.sessions)

-- none comes twice among 256 in a row
abbrev pub AreApart : List ℕ → Type 0
AreApart bds =
    (i j bd : ℕ) → slice_get bds i ≡ Some bd → slice_get bds j ≡ Some bd → i < j → i + 256 ≤ j

-- each message of each life has the sequence number that its place end to end has
abbrev pub AreNumbered : Setup → List Message → List Life → Type 0
AreNumbered s all [] = Unit {0}
AreNumbered s all (l ∷ ls) =
    ((p : ℕ) → p < length (published (run l)) → number_at l.setup (published (run l)) p ≡ number_at s all (length (end_to_end ls) + p))
    × AreNumbered s all ls
