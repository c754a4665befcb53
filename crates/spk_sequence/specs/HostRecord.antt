-- What was done in one host session of a node: the list of what was handed over, what was answered, and the positions
-- that were consumed. Newest first.
use Rattle.std.specs.Prelude.{ℕ, ◌+◌, ◌-◌, ◌%◌, Bool, false, ◌==◌, max, List, [], ◌∷◌, ◌++◌, Option, Some, None, filter_map, if◌then◌else◌}
use Rattle.std.specs.List.{range_with_len}
use Rattle.spk_sequence.specs.declared.message.Kind.{Kind}
use Rattle.spk_sequence.specs.declared.message.Kind.TheVariants.{Birth, Other}
use Rattle.spk_sequence.specs.declared.answer.Step.TheVariants as step
use Rattle.spk_sequence.specs.Data.{Standing}
use Rattle.spk_sequence.specs.Step.{fresh_standing}
use Rattle.spk_sequence.specs.Calls.{Call, Hand, Tick, Death, Reply, Stepped, reply_of, after_call}
use Rattle.spk_sequence.specs.NodeRecord.{Setting, opens, stamp_at, session_at, written_number, written_session}

pub data Input : Type 0 where
  -- the message of a position, at a moment
  MessageComes : ℕ → ℕ → Input
  -- the NDEATH of a session, at a moment
  DeathComes : ℕ → ℕ → Input
  -- a moment
  TickComes : ℕ → Input

pub record Done : Type 0 where
  pub input : Input
  pub reply : Reply
  pub consumed : List ℕ

abbrev pub HostRecord : Type 0
HostRecord = List Done

-- what a position's message is on the wire
abbrev pub kind_of : Setting → ℕ → Kind
kind_of s p =
    if opens s.published p then Birth (stamp_at s.published p) (written_session s (session_at s.published p)) else Other (Some (stamp_at s.published p))

-- the call that an input is, in bytes
abbrev pub call_of : Setting → Input → Call
call_of s (MessageComes p now) = Hand (written_number s p) (kind_of s p) now
call_of s (DeathComes session now) = Death (written_session s session)
call_of s (TickComes now) = Tick now

-- the number is that of this event's message, and it was held
abbrev pub is_held_under : Setting → ℕ → Input → Reply → Bool
is_held_under s number (MessageComes p now) (Stepped step.Held) = written_number s p == number
is_held_under s number _ _ = false

abbrev pub position_of : Input → Option ℕ
position_of (MessageComes p now) = Some p
position_of _ = None

-- the position that was handed last under this number among those that were held
abbrev pub held_under : Setting → HostRecord → ℕ → Option ℕ
held_under s [] number = None
held_under s (e ∷ h) number = if is_held_under s number e.input e.reply then position_of e.input else held_under s h number

-- The positions that an event consumes: the one handed, and those that are held under the numbers that follow its own.
abbrev pub consumed_by : Setting → HostRecord → Input → Reply → List ℕ
consumed_by s h (MessageComes p now) (Stepped (step.Consumed n)) =
    p ∷ filter_map (λ i. held_under s h ((written_number s p + i) % 256)) (range_with_len 1 (n - 1))
consumed_by s h _ _ = []

abbrev pub done_at : Setting → HostRecord → Standing → Input → Done
done_at s h d input =
    let reply = reply_of d (call_of s input) in record { input = input; reply = reply; consumed = consumed_by s h input reply }

-- the data after these inputs, and the record of them; inputs too stand newest first
abbrev pub standing_of : Setting → List Input → Standing
standing_of s [] = fresh_standing s.wait s.width
standing_of s (input ∷ inputs) = after_call (standing_of s inputs) (call_of s input)

abbrev pub record_of : Setting → List Input → HostRecord
record_of s [] = []
record_of s (input ∷ inputs) = done_at s (record_of s inputs) (standing_of s inputs) input ∷ record_of s inputs

-- all positions consumed, in the order of time
abbrev pub consumed_of : HostRecord → List ℕ
consumed_of [] = []
consumed_of (e ∷ h) = consumed_of h ++ e.consumed

abbrev pub after_last : ℕ → List ℕ → ℕ
after_last n [] = n
after_last n (p ∷ ps) = after_last (p + 1) ps

-- one past the last position consumed
abbrev pub next_after : HostRecord → ℕ
next_after [] = 0
next_after (e ∷ h) = after_last (next_after h) e.consumed

abbrev pub reach_past : Input → ℕ → ℕ
reach_past (MessageComes p now) n = max (p + 1) n
reach_past _ n = n

-- one past the greatest position handed, and 0 before the first
abbrev pub reach : HostRecord → ℕ
reach [] = 0
reach (e ∷ h) = reach_past e.input (reach h)
