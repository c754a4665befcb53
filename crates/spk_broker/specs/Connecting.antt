-- How a CONNECT is judged, and what its acts come to before the call is settled and at its end.
use Rattle.std.specs.Prelude.{◌≡◌, ℕ, Bool, not, ◌&&◌, List, Option, Some, None, if◌then◌else◌}
use Rattle.spk_packets.specs.Message.{WillData}
use Rattle.spk_broker_rules.specs.Data.{AppMessage}
use Rattle.spk_broker_rules.specs.Plan.{Act, has_bad_topic, join, shut, turn_away}
use Rattle.spk_broker_rules.specs.Step.{Turn}
use Rattle.spk_packets.specs.Spelling.{is_empty}
use Rattle.spk_broker.specs.Entering.{entered}
use Rattle.spk_broker.specs.View.{Stands}
use Rattle.spk_broker.specs.declared.connect.Judged.{Judged}
use Rattle.spk_broker.specs.declared.connect.Judged.TheVariants.{Refused, Shut, Joins}
use Rattle.spk_broker.specs.declared.state.State.{State}
use Rattle.spk_broker.specs.declared.accept.Entry.{Entry}
use Rattle.spk_broker.specs.declared.out.Draft.{Draft}

-- the client id, then the will's topic, then the number of kept sessions
abbrev pub judged : Bool → List ℕ → Bool → Option WillData → Judged
judged welcome client clean will =
    if is_empty client && not clean then Refused 2
    else if has_bad_topic will then Shut
    else if not clean && not welcome then Refused 3
    else Joins

abbrev pub acts_of : Judged → Option ℕ → ℕ → List ℕ → Bool → ℕ → Option AppMessage → List Act
acts_of (Refused code) older conn client clean alive will = turn_away conn code
acts_of Shut older conn client clean alive will = shut conn
acts_of Joins older conn client clean alive will = join older conn client clean alive will

-- what enters, enters last
abbrev pub finished : Option Entry → Turn → Turn
finished None t = t
finished (Some e) t = record t { broker = entered e t.broker }

-- the state and the draft stand for a turn that is this one once the entry has entered
pub record Comes (state : State) (draft : Draft) (entry : Option Entry) (turn : Turn) : Type 0 where
  pub before : Turn
  pub stands : Stands state draft before
  pub is : finished entry before ≡ turn
