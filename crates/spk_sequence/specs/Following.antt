-- What a host follows, what waits, gaps, matching deaths and causes, read off the record of what was done.
use Rattle.std.specs.Prelude.{ℕ, ◌+◌, ◌-◌, Bool, true, false, not, ◌&&◌, ◌||◌, ◌==◌, nat_lt, nat_le, List, [], ◌∷◌, Option, Some, None, if◌then◌else◌}
use Rattle.std.specs.List.{list_any}
use Rattle.spk_sequence.specs.NodeRecord.{Setting, NodeRecord, opens, session_at}
use Rattle.spk_sequence.specs.HostRecord.{Input, MessageComes, DeathComes, TickComes, Done, HostRecord, next_after}

abbrev pub contains : ℕ → List ℕ → Bool
contains p ps = list_any (λ q. q == p) ps

-- the event takes a birth: it consumes an NBIRTH
abbrev pub takes : Setting → Done → Bool
takes s e = list_any (opens s.published) e.consumed

abbrev pub last_opening : NodeRecord → Option ℕ → List ℕ → Option ℕ
last_opening published o [] = o
last_opening published o (p ∷ ps) = last_opening published (if opens published p then Some p else o) ps

-- the position of the birth taken last
abbrev pub taken : Setting → HostRecord → Option ℕ
taken s [] = None
taken s (e ∷ h) = last_opening s.published (taken s h) e.consumed

abbrev pub is_session_of : Setting → Option ℕ → ℕ → Bool
is_session_of s None session = false
is_session_of s (Some b) session = session == session_at s.published b

-- the death of the session of the birth taken last
abbrev pub is_matching_death : Setting → HostRecord → Input → Bool
is_matching_death s h (DeathComes session now) = is_session_of s (taken s h) session
is_matching_death s h _ = false

-- the matching death came, and no birth was taken since
abbrev pub is_session_dead : Setting → HostRecord → Bool
is_session_dead s [] = false
is_session_dead s (e ∷ h) = not (takes s e) && (is_matching_death s h e.input || is_session_dead s h)

abbrev pub with_dead : Setting → HostRecord → Input → List ℕ → List ℕ
with_dead s h (DeathComes session now) sessions = if is_matching_death s h (DeathComes session now) then session ∷ sessions else sessions
with_dead s h _ sessions = sessions

-- the sessions whose matching death came
abbrev pub dead_sessions : Setting → HostRecord → List ℕ
dead_sessions s [] = []
dead_sessions s (e ∷ h) = with_dead s h e.input (dead_sessions s h)

-- Whether the host follows the node, the positions handed since it began to, and the moment at which the wait began.
pub record Following : Type 0 where
  pub on : Bool
  pub handed : List ℕ
  pub began : ℕ

-- some of the positions handed are above n
abbrev pub is_waiting : List ℕ → ℕ → Bool
is_waiting handed n = list_any (λ q. nat_lt n q) handed

-- a position that waits: it was handed since the host began to follow, and is above the one that comes next
abbrev pub waits : Following → ℕ → ℕ → Bool
waits f n q = contains q f.handed && nat_lt n q

-- Messages were lost: one that is not an NBIRTH comes that is `width` or more past the last one consumed, or a position
-- has waited long enough. A moment before the wait began counts as no time passed.
abbrev pub is_gap_of : Setting → Following → ℕ → Input → Bool
is_gap_of s f n (MessageComes p now) = f.on && not (opens s.published p) && nat_le (n + s.width) p
is_gap_of s f n (TickComes now) = f.on && is_waiting f.handed n && nat_le s.wait (now - f.began)
is_gap_of s f n (DeathComes session now) = false

abbrev pub moment_of : Input → ℕ
moment_of (MessageComes p now) = now
moment_of (DeathComes session now) = now
moment_of (TickComes now) = now

abbrev pub and_handed : Input → List ℕ → List ℕ
and_handed (MessageComes p now) handed = p ∷ handed
and_handed _ handed = handed

abbrev pub is_empty : List ℕ → Bool
is_empty [] = true
is_empty (p ∷ ps) = false

-- A host begins to follow when it takes a birth, and stops at a gap and at a matching death. The wait begins at the event
-- that makes the first position waiting, and anew at each that consumes something and leaves some waiting.
abbrev pub following : Setting → HostRecord → Following
following s [] = record { on = false; handed = []; began = 0 }
following s (e ∷ h) =
    let before = following s h in
    let on = takes s e || (before.on && not (is_gap_of s before (next_after h) e.input) && not (is_matching_death s h e.input)) in
    let goes_on = is_waiting before.handed (next_after h) && is_empty e.consumed in
    record {
      on = on;
      handed = if on then and_handed e.input before.handed else [];
      began = if goes_on then before.began else moment_of e.input;
    }

abbrev pub is_gap : Setting → HostRecord → Input → Bool
is_gap s h input = is_gap_of s (following s h) (next_after h) input
