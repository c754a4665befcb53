-- Messages that come in order, by numbers alone.
use Rattle.std.specs.Prelude.{◌≡◌, ◌≢◌, ℕ, ◌+◌, ◌%◌, ◌≤◌, false, List, [], ◌∷◌}
use Rattle.spk_sequence.specs.declared.message.Kind.TheVariants.{Birth, Other}
use Rattle.spk_sequence.specs.declared.answer.Step.TheVariants as step
use Rattle.spk_sequence.specs.declared.answer.Match.TheVariants.{Ignored}
use Rattle.spk_sequence.specs.Step.{is_below}
use Rattle.spk_sequence.specs.Calls.{Call, Hand, Tick, Death, Reply, Stepped, Ticked, Told}

-- From the number that comes next on, numbers follow without loss, and stamps are missing or not below the birth's.
-- Moments, deaths of another bdSeq and births that are not newer may stand between the messages.
abbrev pub IsInLine : ℕ → ℕ → ℕ → List Call → Type 0
IsInLine next stamp bd [] = Unit {0}
IsInLine next stamp bd (Hand number (Other own) now ∷ calls) = (number ≡ next) × (is_below own stamp ≡ false) × IsInLine ((next + 1) % 256) stamp bd calls
IsInLine next stamp bd (Hand number (Birth other session) now ∷ calls) = (other ≤ stamp) × IsInLine next stamp bd calls
IsInLine next stamp bd (Tick now ∷ calls) = IsInLine next stamp bd calls
IsInLine next stamp bd (Death other ∷ calls) = (other ≢ bd) × IsInLine next stamp bd calls

-- each message is consumed alone, a birth is old, and the rest changes nothing
abbrev pub reply_in_line : Call → Reply
reply_in_line (Hand number (Birth stamp bd) now) = Stepped step.OldBirth
reply_in_line (Hand number (Other stamp) now) = Stepped (step.Consumed 1)
reply_in_line (Tick now) = Ticked false
reply_in_line (Death bd) = Told Ignored

abbrev pub replies_in_line : List Call → List Reply
replies_in_line [] = []
replies_in_line (call ∷ calls) = reply_in_line call ∷ replies_in_line calls
