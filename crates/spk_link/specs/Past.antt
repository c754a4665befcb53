-- What happened to a link, newest first, and what follows from it: questions to the list, without any data.
use Rattle.std.specs.Prelude.{ℕ, ◌+◌, ◌*◌, ◌^◌, ◌-◌, min, Bool, true, false, ◌&&◌, List, [], ◌∷◌, if◌then◌else◌}
use Rattle.spk_link.specs.declared.stand.Moments.{Moments}
use Rattle.spk_link.specs.declared.stand.Stand.{Stand}
use Rattle.spk_link.specs.declared.stand.Stand.TheVariants.{Off, On}
use Rattle.spk_link.specs.Data.{Link}
use Rattle.spk_link.specs.Step.{after_asked, after_heard, after_opened, after_over, after_sent, due_behind, fresh_link, is_over, lasting, longest, shortest}

-- each with its moment
pub data Event : Type 0 where
  Opened : ℕ → Event
  Sent : ℕ → Event
  Heard : ℕ → Event
  Asked : ℕ → Event
  Over : ℕ → Event

abbrev pub after_event : Event → Link → Link
after_event (Opened now) l = after_opened l now
after_event (Sent now) l = after_sent l now
after_event (Heard now) l = after_heard l now
after_event (Asked now) l = after_asked l now
after_event (Over now) l = after_over l now

-- the link after these events
abbrev pub after : ℕ → ℕ → List Event → Link
after keep spread [] = fresh_link keep spread
after keep spread (e ∷ es) = after_event e (after keep spread es)

-- ---- there is a connection: it began, and wasn't over since

abbrev pub is_open : List Event → Bool
is_open [] = false
is_open (Opened now ∷ es) = true
is_open (Over now ∷ es) = false
is_open (_ ∷ es) = is_open es

-- when it began; a beginning while there is one is none
abbrev pub began : List Event → ℕ
began [] = 0
began (Opened now ∷ es) = if is_open es then began es else now
began (_ ∷ es) = began es

-- when something was heard last of it, or when it began
abbrev pub last_heard : List Event → ℕ
last_heard [] = 0
last_heard (Opened now ∷ es) = if is_open es then last_heard es else now
last_heard (Heard now ∷ es) = now
last_heard (_ ∷ es) = last_heard es

-- when something was sent last, PINGREQ too
abbrev pub last_sent : List Event → ℕ
last_sent [] = 0
last_sent (Opened now ∷ es) = if is_open es then last_sent es else now
last_sent (Over now ∷ es) = last_sent es
last_sent (Sent now ∷ es) = now
last_sent (Heard now ∷ es) = last_sent es
last_sent (Asked now ∷ es) = now

-- when PINGREQ was sent last
abbrev pub last_asked : List Event → ℕ
last_asked [] = 0
last_asked (Opened now ∷ es) = if is_open es then last_asked es else now
last_asked (Asked now ∷ es) = now
last_asked (_ ∷ es) = last_asked es

abbrev pub moments : List Event → Moments
moments es = record { since = began es; sent = last_sent es; heard = last_heard es; asked = last_asked es }

-- ---- pauses

-- a connection that lasted ends at this moment
abbrev pub lasted : ℕ → List Event → Bool
lasted now es = is_open es && is_over now (began es) lasting

-- how many ends stand in a row, of connections and tries, the first of them perhaps of a connection that lasted
abbrev pub row : List Event → ℕ
row [] = 0
row (Over now ∷ es) = if lasted now es then 1 else row es + 1
row (_ ∷ es) = row es

-- the pause behind so many ends before: twice as long each time, up to the longest
abbrev pub pause_of : ℕ → ℕ
pause_of ends = min (shortest * 2 ^ ends) longest

-- when the next try is due: behind the pause of the last end, at once where there was none
abbrev pub due_in : ℕ → List Event → ℕ
due_in spread [] = 0
due_in spread (Over now ∷ es) = due_behind spread (pause_of (row (Over now ∷ es) - 1)) now
due_in spread (_ ∷ es) = due_in spread es

-- how it stands by all that
abbrev pub stand_in : ℕ → List Event → Stand
stand_in spread es = if is_open es then On (moments es) else Off (due_in spread es)
