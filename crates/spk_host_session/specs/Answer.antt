-- What it means that a call answered as the definitions say.
use Rattle.std.specs.Prelude.{◌≡◌, ℕ, List, map, Result, Ok, Err}
use Rattle.spk_packets.specs.Message.{Message}
use Rattle.spk_packets.specs.Spelling.{spelling}
use Rattle.spk_host_session.specs.declared.fault.HostFault.{HostFault}
use Rattle.spk_host_session.specs.declared.fault.HostFault.TheVariants.{NoMemory, NotSparkplug, BadPayload, NoSeq, NoStamp, NoBdSeq, WrongPhase}

-- the packets' bytes, each packet by its canonical spelling
abbrev pub spelled : Result (List Message) HostFault → Result (List (List ℕ)) HostFault
spelled (Ok packets) = Ok (map spelling packets)
spelled (Err f) = Err f

-- A fault is the one that is due; memory is refused only where something is to be said.
abbrev pub Fails : {Y : Type 0} → HostFault → Result Y HostFault → Type 0
Fails {Y} NoMemory due = (y : Y) × (due ≡ Ok y)
Fails NotSparkplug due = due ≡ Err NotSparkplug
Fails BadPayload due = due ≡ Err BadPayload
Fails NoSeq due = due ≡ Err NoSeq
Fails NoStamp due = due ≡ Err NoStamp
Fails NoBdSeq due = due ≡ Err NoBdSeq
Fails WrongPhase due = due ≡ Err WrongPhase

-- What was answered, seen by view, is what is due.
abbrev pub Gives : {X Y : Type 0} → (X → Y) → Result X HostFault → Result Y HostFault → Type 0
Gives view (Ok x) due = due ≡ Ok (view x)
Gives view (Err f) due = Fails f due
