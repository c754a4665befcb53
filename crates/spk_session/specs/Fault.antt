-- The numbers of the refusals.
use Rattle.std.specs.Prelude.{ℕ}
use Rattle.spk_session.specs.declared.fault.SessionFault.{SessionFault}
use Rattle.spk_session.specs.declared.fault.SessionFault.TheVariants as fault

abbrev pub number_of : SessionFault → ℕ
number_of fault.Unacked = 32
