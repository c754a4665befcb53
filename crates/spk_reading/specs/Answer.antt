-- What it means that a call answered as the definitions say.
use Rattle.std.specs.Prelude.{◌≡◌, Result, Ok, Err}
use Rattle.spk_reading.specs.declared.fault.ReadFault.{ReadFault}
use Rattle.spk_reading.specs.declared.fault.ReadFault.TheVariants.{NoMemory, NotSparkplug, BadPayload, NoSeq, NoStamp, NoBdSeq}

-- A fault is the one that is due, unless memory was refused.
abbrev pub Fails : {Y : Type 0} → ReadFault → Result Y ReadFault → Type 0
Fails NoMemory due = Unit {0}
Fails NotSparkplug due = due ≡ Err NotSparkplug
Fails BadPayload due = due ≡ Err BadPayload
Fails NoSeq due = due ≡ Err NoSeq
Fails NoStamp due = due ≡ Err NoStamp
Fails NoBdSeq due = due ≡ Err NoBdSeq

-- What was answered, seen by view, is the answer that is due, unless memory was refused.
abbrev pub Gives : {X Y : Type 0} → (X → Y) → Result X ReadFault → Result Y ReadFault → Type 0
Gives view (Ok x) due = due ≡ Ok (view x)
Gives view (Err f) due = Fails f due
