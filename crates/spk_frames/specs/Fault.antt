-- The number of each fault, and why a content isn't put into a frame.
use Rattle.std.specs.Prelude.{ℕ, ◌<◌, List, length}
use Rattle.spk_frames.specs.declared.fault.FrameFault.{FrameFault}
use Rattle.spk_frames.specs.declared.fault.FrameFault.TheVariants.{NoMemory, LongContent}

abbrev pub number_of : FrameFault → ℕ
number_of NoMemory = 1
number_of LongContent = 138

-- it is too long; NoMemory says nothing of it
abbrev pub IsRefusedFor : (most : ℕ) → List ℕ → FrameFault → Type 0
IsRefusedFor most content NoMemory = Unit {0}
IsRefusedFor most content LongContent = most < length content
