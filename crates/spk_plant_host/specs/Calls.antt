-- Calls that a host is asked to do, newest first: which of them it does, and what they hand out (Sparkplug 3.0.0, chapter 5).
use Rattle.std.specs.Prelude.{ℕ, Bool, true, not, is_some, List, [], ◌∷◌, ◌++◌, if◌then◌else◌}
use Rattle.spk_host_session.specs.Data.{Config}
use Rattle.spk_host_session.specs.Step as session
use Rattle.spk_host.specs.Data.{HostData, OutData}
use Rattle.spk_host.specs.Inputs.{Call, Heard, Ticked, Connected, Stopped, Ended, Renewed, host_after, host_with}
use Rattle.spk_host.specs.Step.{nothing, packet_out, said_by, sends, tick_out}

-- A session is begun outside one; packets, moments and a farewell are for one within. Any other such call is refused.
abbrev pub is_done : HostData → Call → Bool
is_done h (Connected now) = not (is_some h.session.began)
is_done h Ended = true
is_done h (Renewed now) = true
is_done h _ = is_some h.session.began

-- what a call that is done hands out
abbrev pub out_at : HostData → Call → OutData
out_at h (Heard heard now) = packet_out h heard now
out_at h (Ticked now) = tick_out h.nodes now
out_at h (Connected now) = sends (said_by (session.says h.session (session.Connected now)))
out_at h (Stopped now) = sends (said_by (session.says h.session (session.Stopped now)))
out_at h Ended = nothing
out_at h (Renewed now) = sends (said_by (session.says h.session (session.Renewed now)))

-- A call that is refused hands out nothing, and the host stays.
abbrev pub answer_at : HostData → Call → OutData
answer_at h call = if is_done h call then out_at h call else nothing

abbrev pub host_asked : HostData → Call → HostData
host_asked h call = if is_done h call then host_with h call else h

-- of the calls that a new host is asked to do, those that it does
unfoldable pub done : Config → List Call → List Call
done config [] = []
done config (call ∷ before) =
    if is_done (host_after config (done config before)) call then call ∷ done config before else done config before

-- the bytes of the packets that calls hand out, oldest first
unfoldable pub packets_of : Config → List Call → List (List ℕ)
packets_of config [] = []
packets_of config (call ∷ before) = packets_of config before ++ (out_at (host_after config before) call).packets
