-- Questions to the list of all STATEs that came.
use Rattle.std.specs.Prelude.{◌≡◌, ℕ, ◌<◌, ◌≤◌, List, [], Option, Some, None, if◌then◌else◌}
use Rattle.std.specs.List.{All, Any}
use Rattle.spk_state.specs.declared.state.State.{State}
use Rattle.spk_state.specs.declared.primary.Heard.{Heard}
use Rattle.spk_state.specs.declared.primary.Heard.TheVariants.{Online, Offline}

-- the greatest of the timestamps: one of them, and none is greater; None where nothing came
abbrev pub IsGreatest : Option ℕ → List State → Type 0
IsGreatest None states = states ≡ []
IsGreatest (Some greatest) states = Any (λ s. s.timestamp ≡ greatest) states × All (λ s. s.timestamp ≤ greatest) states

-- earlier than one of them
abbrev pub IsEarlier : State → List State → Type 0
IsEarlier s states = Any (λ other. s.timestamp < other.timestamp) states

-- what a STATE says of the host
abbrev pub host_is : State → Heard
host_is s = if s.online then Online else Offline
