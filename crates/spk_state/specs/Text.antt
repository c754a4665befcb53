-- What bytes mean as the payload of a STATE (Sparkplug 3.0.0, chapter 6), and how one is written.
use Rattle.std.specs.Prelude.{◌≡◌, ℕ, ◌^◌, ◌<◌, Bool, true, false, nat_lt, List, ◌++◌, codes, decimal, Option, Some, None, option_and_then, Result, Ok, Err, if◌then◌else◌}
use Rattle.std.specs.Str.{IsUtf8, is_utf8}
use Rattle.serde_json.specs.Data.{Data, boolean, number, unsigned, object, member, no_members}
use Rattle.serde_json.specs.Read.{read}
use Rattle.serde_json.specs.Find.{get, as_bool, as_number, as_u64}
use Rattle.spk_state.specs.declared.state.State.{State}
use Rattle.spk_state.specs.declared.fault.StateFault.{StateFault}
use Rattle.spk_state.specs.declared.fault.StateFault.TheVariants.{NoMemory, BadState}

-- A text of JSON, as serde_json reads it, whose member `online` is a Boolean and whose member `timestamp` is a whole
-- number below 2^63. What is no object has no members.
pub record MeansState (bytes : List ℕ) (s : State) : Type 0 where
  pub text : IsUtf8 bytes
  pub value : Data
  pub is_value : read bytes ≡ Some value
  pub online : get (codes "online") value ≡ Some (boolean s.online)
  pub timestamp : get (codes "timestamp") value ≡ Some (number (unsigned s.timestamp))
  pub below : s.timestamp < 2 ^ 63

-- the answer is this STATE, or memory was refused
abbrev pub Gives : Result State StateFault → State → Type 0
Gives (Ok t) s = t ≡ s
Gives (Err NoMemory) s = Unit {0}
Gives (Err BadState) s = ⊥

abbrev pub flag_text : Bool → List ℕ
flag_text true = codes "true"
flag_text false = codes "false"

-- the members in this order, without spaces, and the timestamp in decimal
abbrev pub state_text : State → List ℕ
state_text s = codes "{\"online\":" ++ flag_text s.online ++ codes ",\"timestamp\":" ++ decimal s.timestamp ++ codes "}"

-- the value that says a STATE
abbrev pub state_data : State → Data
state_data s = object (member (codes "online") (boolean s.online) (member (codes "timestamp") (number (unsigned s.timestamp)) no_members))

-- The same as a function (`laws::reading`): what the bytes mean, or None where they mean nothing.
abbrev pub with_timestamp : Bool → ℕ → Option State
with_timestamp online timestamp = if nat_lt timestamp (2 ^ 63) then Some (record { online = online; timestamp = timestamp }) else None

abbrev pub state_of : Data → Option State
state_of d =
    option_and_then (λ online.
    option_and_then (with_timestamp online) (option_and_then as_u64 (option_and_then as_number (get (codes "timestamp") d))))
    (option_and_then as_bool (get (codes "online") d))

abbrev pub state_at : List ℕ → Option State
state_at bytes = if is_utf8 bytes then option_and_then state_of (read bytes) else None
