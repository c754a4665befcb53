-- How a STATE is heard, and the greatest timestamp heard after it, from the one before it.
use Rattle.std.specs.Prelude.{ℕ, Bool, false, nat_lt, List, [], ◌∷◌, Option, Some, None, if◌then◌else◌}
use Rattle.spk_state.specs.declared.state.State.{State}
use Rattle.spk_state.specs.declared.primary.Heard.{Heard}
use Rattle.spk_state.specs.declared.primary.Heard.TheVariants.{Ignored}
use Rattle.spk_state.specs.Past.{host_is}

-- a timestamp less than the one heard
abbrev pub is_less : ℕ → Option ℕ → Bool
is_less timestamp None = false
is_less timestamp (Some heard) = nat_lt timestamp heard

abbrev pub heard_as : Option ℕ → State → Heard
heard_as heard s = if is_less s.timestamp heard then Ignored else host_is s

abbrev pub after_heard : Option ℕ → State → Option ℕ
after_heard heard s = if is_less s.timestamp heard then heard else Some s.timestamp

-- after all of them, oldest first
abbrev pub after_all : Option ℕ → List State → Option ℕ
after_all heard [] = heard
after_all heard (s ∷ states) = after_all (after_heard heard s) states
