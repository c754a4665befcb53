-- The text of a STATE, and that it is read back.
use Rattle.std.proofs.Common.{◌≡◌, ℕ, ◌^◌, ◌<◌, Bool, true, false, List, refl, Some}
use Rattle.std.specs.Str.{IsUtf8}
use Rattle.serde_json.specs.Read.{read}
use Rattle.serde_json.specs.Written.{compact_text}
use Rattle.serde_json.proofs.OnLiterals.{serde_json_on_literals}
use Rattle.spk_state.specs.declared.state.State.{State}
use Rattle.spk_state.specs.Text.{MeansState, state_text, state_data}

-- what serde_json writes for the value
spelled : (online : Bool) (n : ℕ) → (let s : State = record { online = online; timestamp = n } in compact_text (state_data s) ≡ state_text s)
unfolding serde_json_on_literals
spelled true n = refl
spelled false n = refl

pub written : (s : State) → compact_text (state_data s) ≡ state_text s
written s = spelled s.online s.timestamp

-- a text that is read as the value means the STATE
pub means_data : (bytes : List ℕ) (s : State) → IsUtf8 bytes → read bytes ≡ Some (state_data s) → s.timestamp < 2 ^ 63 → MeansState bytes s
means_data bytes s text is below = record { text = text; value = state_data s; is_value = is; online = refl; timestamp = refl; below = below }
