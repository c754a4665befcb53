-- What follows once a call is settled.
use Rattle.std.specs.Prelude.{◌≡◌, ℕ, ◌∷◌, ◌++◌, [], Option, Some, None, Vec}
use Rattle.std.specs.declared.alloc.Global.{Global}
use Rattle.spk_broker_rules.specs.Data as plain
use Rattle.spk_broker_rules.specs.Plan.{Ack}
use Rattle.spk_broker_rules.specs.Step.{Turn, act, begun}
use Rattle.spk_broker.specs.Entering.{HasRoom, IsWhole, entered}
use Rattle.spk_broker.specs.Touched.{IsStill, OnlyAt}
use Rattle.spk_broker.specs.View.{Stands}
use Rattle.spk_broker.specs.declared.state.State.{State}
use Rattle.spk_broker.specs.declared.packet_end.Ending.{Ending}
use Rattle.spk_broker.specs.declared.packet_end.Ending.TheVariants.{Nothing, One, Few, Enters, Joins, Acked}
use Rattle.spk_broker.specs.declared.out.Draft.{Draft}
use Rattle.spk_broker.specs.declared.session.Session.{Session}

abbrev pub ended : Ending → plain.Broker → plain.Broker
ended (Enters entry) b = entered entry b
ended (Joins entry) b = entered entry b
ended (Acked conn place id) b = (act (Ack conn id) (begun b)).broker
ended _ b = b

-- the session of a connection, where it sits in one
abbrev pub alone_at : Option ℕ → Ending
alone_at None = Nothing
alone_at (Some place) = One place

-- the sessions at which a message called and its sender's, where both are known
abbrev pub few_at : Option ℕ → Option (Vec ℕ Global) → Ending
few_at None places = Nothing
few_at (Some sender) None = Nothing
few_at (Some sender) (Some places) = Few places sender

-- an entry is whole and finds room
abbrev pub IsFit : Ending → Vec Session Global → Type 0
IsFit (Enters entry) sessions = IsWhole entry × HasRoom entry sessions
IsFit (Joins entry) sessions = IsWhole entry × HasRoom entry sessions
IsFit _ sessions = Unit {0}

-- that, and where sessions are named, the call has changed no other one, and no connection without CONNECT; where an entry joins, no session
abbrev pub IsReady : Ending → State → Type 0
IsReady Nothing state = Unit {0}
IsReady (One place) state = OnlyAt (place ∷ []) state
IsReady (Few places sender) state = OnlyAt (places.items ++ sender ∷ []) state
IsReady (Enters entry) state = IsWhole entry × HasRoom entry state.sessions
IsReady (Joins entry) state = IsWhole entry × HasRoom entry state.sessions × IsStill state
IsReady (Acked conn place id) state = OnlyAt (place ∷ []) state

-- the state and the draft stand for a turn that is this one once the rest is done
pub record Leads (state : State) (draft : Draft) (ending : Ending) (turn : Turn) : Type 0 where
  pub before : Turn
  pub stands : Stands state draft before
  pub is : record before { broker = ended ending before.broker } ≡ turn
