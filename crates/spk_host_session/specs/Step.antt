-- What a host says at each call, and whether it is within a session after it.
use Rattle.std.specs.Prelude.{ℕ, ◌==◌, List, [], ◌∷◌, Option, Some, None, Result, Ok, Err, if◌then◌else◌}
use Rattle.spk_packets.specs.Message.{Message}
use Rattle.spk_host_session.specs.Data.{Session}
use Rattle.spk_host_session.specs.Packets.{connect_of, farewell, online_of, subscribe_of}
use Rattle.spk_host_session.specs.declared.fault.HostFault.{HostFault}
use Rattle.spk_host_session.specs.declared.fault.HostFault.TheVariants.{WrongPhase}

-- CONNACK comes with its code, SUBACK comes; a session is begun, left with a farewell, or is over.
pub data Call : Type 0 where
  Connected : (now : ℕ) → Call
  Answered : (code : ℕ) → Call
  Granted : Call
  Stopped : (now : ℕ) → Call
  Ended : Call
  Renewed : (now : ℕ) → Call

-- outside a session alone
abbrev pub outside : Option ℕ → List Message → Result (List Message) HostFault
outside None packets = Ok packets
outside (Some began) packets = Err WrongPhase

-- within a session alone, by the moment at which it began
abbrev pub within : Option ℕ → (ℕ → List Message) → Result (List Message) HostFault
within None packets = Err WrongPhase
within (Some began) packets = Ok (packets began)

-- what it says, or why it refuses
abbrev pub says : Session → Call → Result (List Message) HostFault
says s (Connected now) = outside s.began (connect_of s.config now ∷ [])
says s (Answered code) = within s.began (λ began. if code == 0 then subscribe_of s.config ∷ [] else [])
says s Granted = within s.began (λ began. online_of s.config began ∷ [])
says s (Stopped now) = within s.began (λ began. farewell s.config now)
says s Ended = Ok []
says s (Renewed now) = Ok (connect_of s.config now ∷ [])

-- A CONNACK that turns the host away ends the session.
abbrev pub began_after : Option ℕ → Call → Option ℕ
began_after None (Connected now) = Some now
began_after (Some began) (Connected now) = Some began
began_after began (Answered code) = if code == 0 then began else None
began_after began Granted = began
began_after began (Stopped now) = None
began_after began Ended = None
began_after began (Renewed now) = Some now

abbrev pub after : Session → Call → Session
after s call = record s { began = began_after s.began call }
