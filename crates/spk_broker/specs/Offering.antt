-- Retained messages are offered to the session at a place.
use Rattle.std.specs.Prelude.{◌≡◌, ◌<◌, ℕ, List, true, [], ◌∷◌, length, Option, Some, None, slice_index_or, slice_get}
use Rattle.spk_broker_rules.specs.Data as plain
use Rattle.spk_broker_rules.specs.Step.{Turn, with_key}
use Rattle.spk_broker_rules.specs.Table.{Table}
use Rattle.spk_broker_rules.specs.Words.{offers_to}
use Rattle.spk_broker.specs.Both.{Both}
use Rattle.spk_broker.specs.View.{Stands}
use Rattle.spk_broker.specs.declared.state.State.{State}
use Rattle.spk_broker.specs.declared.out.Draft.{Draft}

-- the session has this key; where it ended, none has it
abbrev pub IsOf : ℕ → Option plain.Session → List plain.Session → Type 0
IsOf key None sessions = with_key key sessions ≡ None
IsOf key (Some s) sessions = s.key ≡ key

-- the state and the draft stand for the turn, and at the place is the session of this key
pub record Offering (state : State) (draft : Draft) (place key : ℕ) (turn : Turn) : Type 0 where
  pub stands : Stands state draft turn
  pub low : place < length state.sessions.items
  pub here : (d : Both) → IsOf key (slice_index_or state.sessions.items place d).now turn.broker.sessions

-- what the retained message at a place, where there is one, offers to a grant
abbrev pub offers_at : Option (List ℕ × plain.Stored) → List ℕ × ℕ → List plain.AppMessage
offers_at None grant = []
offers_at (Some e) grant = offers_to (e ∷ []) grant

-- what the retained message at a place that is known, or none, offers to a grant
abbrev pub offers_in : Option ℕ → Table plain.Stored → List ℕ × ℕ → List plain.AppMessage
offers_in None table grant = []
offers_in (Some place) table grant = offers_at (slice_get table place) grant

-- a retained message at a QoS
abbrev pub retained_at : ℕ → List ℕ → plain.Stored → plain.AppMessage
retained_at qos topic stored = record { topic = topic; payload = stored.payload; qos = qos; retain = true }
