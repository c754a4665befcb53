-- What an event answers and consumes, by positions alone.
use Rattle.std.specs.Prelude.{ℕ, ◌+◌, Bool, false, ◌&&◌, ◌==◌, nat_lt, nat_le, List, [], Option, Some, None, if◌then◌else◌}
use Rattle.std.specs.List.{range_with_len, prefix_len}
use Rattle.spk_sequence.specs.declared.answer.Step.{Step}
use Rattle.spk_sequence.specs.declared.answer.Step.TheVariants as step
use Rattle.spk_sequence.specs.declared.answer.Match.TheVariants.{Matched, Ignored}
use Rattle.spk_sequence.specs.Calls.{Reply, Stepped, Ticked, Told}
use Rattle.spk_sequence.specs.NodeRecord.{Setting, opens, session_at}
use Rattle.spk_sequence.specs.HostRecord.{Input, MessageComes, DeathComes, TickComes, Done, HostRecord, next_after}
use Rattle.spk_sequence.specs.Following.{taken, following, waits, is_gap, is_matching_death, is_session_dead, is_session_of}

-- how many waiting positions follow p without a hole
abbrev pub run_after : Setting → HostRecord → ℕ → ℕ
run_after s h p = prefix_len (waits (following s h) (next_after h)) (range_with_len (p + 1) s.width)

-- that birth, or a later one, was taken before
abbrev pub is_taken_before : Option ℕ → ℕ → Bool
is_taken_before None p = false
is_taken_before (Some b) p = nat_le p b

-- the matching death of its session came, and no birth was taken since
abbrev pub is_of_dead : Setting → HostRecord → ℕ → Bool
is_of_dead s h p = is_session_dead s h && is_session_of s (taken s h) (session_at s.published p)

abbrev pub birth_step : Setting → HostRecord → ℕ → Step
birth_step s h p =
    if is_taken_before (taken s h) p then step.OldBirth
    else if is_of_dead s h p then step.DeadSession
    else step.Consumed (1 + run_after s h p)

abbrev pub message_step : Setting → HostRecord → ℕ → Step
message_step s h p =
    let n = next_after h in
    if (following s h).on then
    (if nat_lt p n then step.Old
    else if p == n then step.Consumed (1 + run_after s h p)
    else if nat_lt p (n + s.width) then (if waits (following s h) n p then step.Old else step.Held)
    else step.Gap)
    else step.NotLive

abbrev pub right_reply : Setting → HostRecord → Input → Reply
right_reply s h (MessageComes p now) = Stepped (if opens s.published p then birth_step s h p else message_step s h p)
right_reply s h (DeathComes session now) = Told (if is_matching_death s h (DeathComes session now) then Matched else Ignored)
right_reply s h (TickComes now) = Ticked (is_gap s h (TickComes now))

-- an event consumes the position handed and as many after it as it says
abbrev pub right_consumed : Input → Reply → List ℕ
right_consumed (MessageComes p now) (Stepped (step.Consumed n)) = range_with_len p n
right_consumed _ _ = []

abbrev pub right_at : Setting → HostRecord → Input → Done
right_at s h input = let reply = right_reply s h input in record { input = input; reply = reply; consumed = right_consumed input reply }
