-- Why bytes mean no payload: the first item of the text that is a fault, or an entry that holds one.
use Rattle.std.specs.Prelude.{◌≡◌, ℕ, List, ◌∷◌, ◌++◌, All, Result, Ok, Err, IfSome, MatchOption}
use Rattle.spk_protobuf.specs.declared.fault.WireFault.{WireFault}
use Rattle.spk_protobuf.specs.Grammar.{Entry}
use Rattle.spk_protobuf.specs.Faults.{AreItems}
use Rattle.spk_payload.specs.declared.fault.PayloadFault.{PayloadFault}
use Rattle.spk_payload.specs.declared.fault.PayloadFault.TheVariants.{Wire, NotText}
use Rattle.spk_payload.specs.declared.values.Values.TheVariants as choice
use Rattle.spk_payload.specs.Meaning.{MetricData, bytes_in, HasText, MeansMetric}

-- An item of a metric's text that is no fault, and one that is.
abbrev pub IsSoundField : Result Entry WireFault → Type 0
IsSoundField (Ok e) = HasText e
IsSoundField (Err w) = ⊥

abbrev pub IsFieldFault : Result Entry WireFault → PayloadFault → Type 0
IsFieldFault (Ok e) f = (HasText e → ⊥) × (f ≡ NotText)
IsFieldFault (Err w) f = f ≡ Wire w

-- The first fault of a metric's text: all items before it are sound.
pub record IsMetricFault (text : List ℕ) (f : PayloadFault) : Type 0 where
  pub before : List (Result Entry WireFault)
  pub item : Result Entry WireFault
  pub after : List (Result Entry WireFault)
  pub items : AreItems text (before ++ item ∷ after)
  pub sound : All IsSoundField before
  pub is : IsFieldFault item f

-- An item of a payload that holds no fault, and one that is a fault or a metric with one.
abbrev pub IsSoundEntry : Result Entry WireFault → Type 0
IsSoundEntry (Ok e) = IfSome (bytes_in 2 e) (λ text. (m : MetricData) × MeansMetric choice.All text m)
IsSoundEntry (Err w) = ⊥

abbrev pub IsEntryFault : Result Entry WireFault → PayloadFault → Type 0
IsEntryFault (Ok e) f = MatchOption (bytes_in 2 e) ⊥ (λ text. IsMetricFault text f)
IsEntryFault (Err w) f = f ≡ Wire w

-- The first fault of a payload.
pub record IsPayloadFault (text : List ℕ) (f : PayloadFault) : Type 0 where
  pub before : List (Result Entry WireFault)
  pub item : Result Entry WireFault
  pub after : List (Result Entry WireFault)
  pub items : AreItems text (before ++ item ∷ after)
  pub sound : All IsSoundEntry before
  pub is : IsEntryFault item f
