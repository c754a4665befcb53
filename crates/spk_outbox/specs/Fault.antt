-- The numbers of the refusals.
use Rattle.std.specs.Prelude.{ℕ}
use Rattle.spk_outbox.specs.declared.fault.OfferFault.{OfferFault}
use Rattle.spk_outbox.specs.declared.fault.OfferFault.TheVariants.{NoMemory, Full}

abbrev pub number_of : OfferFault → ℕ
number_of NoMemory = 1
number_of Full = 91
