-- What is asked of connections and sessions by now: of each that hasn't left or ended.
use Rattle.std.specs.Prelude.{◌≡◌, ◌<◌, ℕ, Bool, true, false, ◌&&◌, List, length, get_or, Option, Some, None, is_some, if◌then◌else◌}
use Rattle.std.specs.List.{flat_map, position}
use Rattle.std.specs.Option.{option_map_or}
use Rattle.std.specs.Str.{bytes_eq}
use Rattle.spk_broker_rules.specs.Data as plain
use Rattle.spk_broker_rules.specs.Step.{sits}
use Rattle.spk_broker.specs.Both.{Both}
use Rattle.spk_broker.specs.View.{session_now, newcomer_now}
use Rattle.spk_broker.specs.declared.newcomer.Newcomer.{Newcomer}

-- the sessions by now
abbrev pub sessions_now : List Both → List plain.Session
sessions_now sessions = flat_map session_now sessions

-- the connections without CONNECT by now
abbrev pub newcomers_now : List Newcomer → List plain.Newcomer
newcomers_now newcomers = flat_map newcomer_now newcomers

-- whether what is there passes; nothing doesn't
abbrev pub test_at : {X Y : Type 0} → (X → Option Y) → (Y → Bool) → X → Bool
test_at here test x = option_map_or test (here x) false

abbrev pub session_here : Both → Option plain.Session
session_here session = session.now

-- whether a session passes by now; one that ended doesn't
abbrev pub passes : (plain.Session → Bool) → Both → Bool
passes test session = test_at session_here test session

-- it is a session of this client
abbrev pub is_named : List ℕ → plain.Session → Bool
is_named client session = bytes_eq session.client client

-- a connection of this client sits here
abbrev pub is_joined_by : List ℕ → plain.Session → Bool
is_joined_by client session = is_some session.here && bytes_eq session.client client

-- a connection by now, unless it left
abbrev pub newcomer_here : Newcomer → Option plain.Newcomer
newcomer_here g = if g.gone then None else Some (record { conn = g.conn; heard = g.heard; drops = g.drops })

-- how many sends were dropped on the connection that sits here
abbrev pub drops_at : plain.Session → ℕ
drops_at session = option_map_or (λ (l : plain.Connection). l.drops) session.here 0

-- where this connection sits by now, if it does
abbrev pub place_in : ℕ → List Both → Option ℕ
place_in conn sessions = position (passes (sits conn)) sessions

-- this connection sits at this place by now
abbrev pub SitsAt : ℕ → ℕ → List Both → Type 0
SitsAt conn place sessions = (place < length sessions) × ((d : Both) → passes (sits conn) (get_or sessions place d) ≡ true)
