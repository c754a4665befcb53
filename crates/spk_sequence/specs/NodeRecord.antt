-- What a node published, by positions: all messages end to end, counted from 0 (Sparkplug 3.0.0, chapter 6 on `seq`).
use Rattle.std.specs.Prelude.{◌≡◌, ℕ, zero, suc, ◌+◌, ◌-◌, ◌%◌, ◌<◌, ◌≤◌, ◌⊎◌, Bool, true, ◌||◌, ◌==◌, nat_lt, List, length, get_or, if◌then◌else◌}

-- the birth that a message is published under, the session of that birth, and the message's stamp
pub record Message : Type 0 where
  pub birth : ℕ
  pub session : ℕ
  pub stamp : ℕ

abbrev pub NodeRecord : Type 0
NodeRecord = List Message

abbrev pub message_at : NodeRecord → ℕ → Message
message_at published p = get_or published p (record { birth = 0; session = 0; stamp = 0 })

abbrev pub birth_at : NodeRecord → ℕ → ℕ
birth_at published p = (message_at published p).birth

abbrev pub session_at : NodeRecord → ℕ → ℕ
session_at published p = (message_at published p).session

abbrev pub stamp_at : NodeRecord → ℕ → ℕ
stamp_at published p = (message_at published p).stamp

-- the message is the first of its birth, the NBIRTH
abbrev pub opens : NodeRecord → ℕ → Bool
opens published p = (p == 0) || nat_lt (birth_at published (p - 1)) (birth_at published p)

-- the position of the NBIRTH of a message's birth
abbrev pub start_of : NodeRecord → ℕ → ℕ
start_of published zero = zero
start_of published (suc p) = if opens published (suc p) then suc p else start_of published p

-- Births come one by one, none without a message. Sessions and stamps never fall, a birth has one session, and an
-- NBIRTH's stamp is greater than that of each message before it.
pub record IsNodeRecord (published : NodeRecord) : Type 0 where
  pub first_birth : 0 < length published → birth_at published 0 ≡ 0
  pub births : (p : ℕ) → p + 1 < length published → (birth_at published (p + 1) ≡ birth_at published p) ⊎ (birth_at published (p + 1) ≡ birth_at published p + 1)
  pub one_session : (p q : ℕ) → p < length published → q < length published → birth_at published p ≡ birth_at published q → session_at published p ≡ session_at published q
  pub sessions : (p q : ℕ) → p ≤ q → q < length published → session_at published p ≤ session_at published q
  pub stamps : (p q : ℕ) → p ≤ q → q < length published → stamp_at published p ≤ stamp_at published q
  pub newer : (p q : ℕ) → p < q → q < length published → opens published q ≡ true → stamp_at published p < stamp_at published q

-- whether the sequence number goes on over births, or begins with 0 at each NBIRTH
pub data Numbering : Type 0 where
  RunsOn : Numbering
  Restarts : Numbering

-- What a host session of one node is about: what the node published, its numbering with the first sequence number and
-- the first bdSeq, how long a held message waits, and the width of the window.
pub record Setting : Type 0 where
  pub published : NodeRecord
  pub numbering : Numbering
  pub seq : ℕ
  pub bd : ℕ
  pub wait : ℕ
  pub width : ℕ

-- the sequence number that a position is written as
abbrev pub number_by : Numbering → Setting → ℕ → ℕ
number_by RunsOn s p = (s.seq + p) % 256
number_by Restarts s p = (p - start_of s.published p) % 256

abbrev pub written_number : Setting → ℕ → ℕ
written_number s p = number_by s.numbering s p

-- the bdSeq that a session is written as
abbrev pub written_session : Setting → ℕ → ℕ
written_session s session = (s.bd + session) % 256
