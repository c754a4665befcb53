-- Which sessions a call may have changed, where these are few.
use Rattle.std.specs.Prelude.{◌≡◌, ◌<◌, ℕ, false, List, [], ◌∷◌, length, map, get_or, Option, Some, None}
use Rattle.std.specs.List.{flat_map}
use Rattle.spk_broker.specs.Both.{Both}
use Rattle.spk_broker.specs.Called.{is_place}
use Rattle.spk_broker.specs.Entering.{whole}
use Rattle.spk_broker.specs.View.{state_now, state_was, newcomer_now, newcomer_was}
use Rattle.spk_broker.specs.declared.state.State.{State}

-- sessions stand at these places, and each one that stands elsewhere is as before the call
pub record AreTouched (places : List ℕ) (sessions : List Both) : Type 0 where
  pub low : (k : ℕ) → k < length places → get_or places k 0 < length sessions
  pub rest : (i : ℕ) (d : Both) → i < length sessions → is_place i places ≡ false → get_or sessions i d ≡ whole (get_or sessions i d).was

-- sessions stand at these places, and each one that stands elsewhere is as it was
pub record AreVisited (places : List ℕ) (old new : List Both) : Type 0 where
  pub long : length new ≡ length old
  pub low : (k : ℕ) → k < length places → get_or places k 0 < length new
  pub rest : (i : ℕ) (d : Both) → is_place i places ≡ false → get_or new i d ≡ get_or old i d

-- of the sessions the call has changed those at these places alone, and no connection without CONNECT
pub record OnlyAt (places : List ℕ) (state : State) : Type 0 where
  pub sessions : AreTouched places state.sessions.items
  pub newcomers : flat_map newcomer_now state.newcomers.items ≡ map newcomer_was state.newcomers.items

-- the call has changed no session
abbrev pub IsStill : State → Type 0
IsStill state = (state_now state).sessions ≡ (state_was state).sessions

-- where a connection sits in a session, the call has changed that one alone
abbrev pub IsAlone : Option ℕ → State → Type 0
IsAlone None state = Unit {0}
IsAlone (Some place) state = OnlyAt (place ∷ []) state
