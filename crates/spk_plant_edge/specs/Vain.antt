-- Whether a node would wait for its births in vain: the last STATE since a connection was opened says that its primary host is offline,
-- or the node refused it (Sparkplug 3.0.0, chapter 6; that a script's wait ends then is an own rule).
use Rattle.std.specs.Prelude.{Bool, true, false, not, ◌&&◌, ◌||◌, ℕ, List, [], ◌∷◌, Option, Some, None, is_err}
use Rattle.spk_state.specs.Text.{state_at}
use Rattle.spk_state.specs.declared.state.State.{State as Said}
use Rattle.spk_edge_rules.specs.Config.{Setup}
use Rattle.spk_edge_rules.specs.Inputs.{Act, Open, State, Input}
use Rattle.spk_edge_rules.specs.Run.{right_at, run_of}

-- what a STATE says, if it can be read
abbrev pub is_off : Option Said → Bool
is_off (Some s) = not s.online
is_off None = true

-- it says that its host is offline, or can't be read
abbrev pub is_offline : List ℕ → Bool
is_offline payload = is_off (state_at payload)

-- Behind an act that the node refused or took: a STATE counts, and a connection that is opened, if that isn't refused.
abbrev pub vain_after : Act → Bool → Bool → Bool
vain_after Open refused before = refused && before
vain_after (State payload) refused before = refused || is_offline payload
vain_after _ refused before = before

-- behind a list of inputs, newest first
abbrev pub in_vain : Setup → List Input → Bool
in_vain s [] = false
in_vain s (i ∷ is) = vain_after i.act (is_err (right_at s (run_of s is) i)) (in_vain s is)
