-- The numbers of the refusals.
use Rattle.std.specs.Prelude.{ℕ}
use Rattle.http1.specs.declared.error.WriteError.{WriteError}
use Rattle.http1.specs.declared.error.WriteError.TheVariants.{OutOfMemory}
use Rattle.spk_page.specs.declared.fault.PageFault.{PageFault}
use Rattle.spk_page.specs.declared.fault.PageFault.TheVariants.{NoMemory, NotSent}

abbrev pub number_of : PageFault → ℕ
number_of NoMemory = 1
number_of NotSent = 122

-- by what `http1` refuses
abbrev pub fault_of : WriteError → PageFault
fault_of OutOfMemory = NoMemory
fault_of _ = NotSent
