-- A payload that was read is what its bytes mean.
use Rattle.std.proofs.Common.{◌≡◌, ◌∙◌, ◌⊎◌, inl, inr, sym, refl, ℕ, List, Ok, Err, Result}
use Rattle.spk_payload.specs.declared.fault.PayloadFault.{PayloadFault}
use Rattle.spk_payload.specs.Meaning.{PayloadData}
use Rattle.spk_payload.specs.declared.values.Values.TheVariants as choice
use Rattle.spk_payload.specs.Reading.{payload_at}
use Rattle.spk_reading.specs.Meaning.{payload_in}
use Rattle.spk_reading.specs.declared.fault.ReadFault.{ReadFault}
use Rattle.spk_reading.specs.declared.fault.ReadFault.TheVariants.{BadPayload}

either : (r : Result PayloadData PayloadFault) → ((p : PayloadData) × (r ≡ Ok p)) ⊎ ((f : PayloadFault) × (r ≡ Err f))
either (Ok p) = inl (p, refl)
either (Err f) = inr (f, refl)

abbrev read : PayloadData → Result PayloadData ReadFault
read p = Ok p

abbrev refused : Result PayloadData ReadFault
refused = Err BadPayload

same : (p q : PayloadData) → read p ≡ read q → p ≡ q
same p q e = cc

other : (p : PayloadData) → refused ≡ read p → ⊥
other p e = absurd cc

pub read_as : (bytes : List ℕ) (p : PayloadData) → payload_in bytes ≡ Ok p → payload_at choice.All bytes ≡ Ok p
read_as bytes p h =
    elim (either (payload_at choice.All bytes)) [
      | inl x ↦
          let r : payload_in bytes ≡ read x.0 = rw x.1 refl in
          let e : x.0 ≡ p = same x.0 p (sym r ∙ h) in
          rw (sym e) x.1
      | inr x ↦
          let r : payload_in bytes ≡ refused = rw x.1 refl in
          absurd (other p (sym r ∙ h))
    ]
