-- What contracts see of the broker: its data before the call, and by now.
use Rattle.std.specs.Prelude.{◌≡◌, ◌+◌, ◌≤◌, ℕ, Bool, true, ◌||◌, nat_lt, List, [], ◌∷◌, map, length, if◌then◌else◌}
use Rattle.std.specs.List.{flat_map, fold}
use Rattle.indexmap.specs.IndexMap.{spare}
use Rattle.spk_broker_rules.specs.Data as plain
use Rattle.spk_broker_rules.specs.Lawful.{IsLawful}
use Rattle.spk_broker_rules.specs.Plan.{Act, Event, Leave, Tell, before, plan}
use Rattle.spk_broker_rules.specs.Step.{Turn, acts, retained_with, seen}
use Rattle.spk_broker_rules.specs.Table.{Table, has}
use Rattle.spk_broker_rules.specs.Words.{most_topics, option_list}
use Rattle.spk_broker.specs.Both.{Both}
use Rattle.spk_broker.specs.Calm.{IsCalm}
use Rattle.spk_broker.specs.Drafts.{draft_view}
use Rattle.spk_broker.specs.Filing.{IsHeld}
use Rattle.spk_broker.specs.Parts.{retained_view}
use Rattle.spk_broker.specs.Sent.{outgoing}
use Rattle.spk_broker.specs.declared.broker.Broker.TheInside.{Inside}
use Rattle.spk_broker.specs.declared.state.State.{State}
use Rattle.spk_broker.specs.declared.newcomer.Newcomer.{Newcomer}
use Rattle.spk_broker.specs.declared.out.Draft.{Draft}

abbrev pub newcomer_was : Newcomer → plain.Newcomer
newcomer_was g = record { conn = g.conn; heard = g.heard_before; drops = g.drops_before }

abbrev pub newcomer_now : Newcomer → List plain.Newcomer
newcomer_now g = if g.gone then [] else (record { conn = g.conn; heard = g.heard; drops = g.drops }) ∷ []

abbrev pub session_was : Both → plain.Session
session_was b = b.was

abbrev pub session_now : Both → List plain.Session
session_now b = option_list b.now

-- there is a message on this topic, or there are fewer topics than there may be
abbrev pub may_retain : List ℕ → Table plain.Stored → Bool
may_retain topic table = has topic table || nat_lt (length table) most_topics

-- the data before the call
abbrev pub state_was : State → plain.Broker
state_was d = record {
  limit = d.limit;
  given = d.given;
  made = d.made;
  clock = d.clock_before;
  newcomers = map newcomer_was d.newcomers.items;
  sessions = map session_was d.sessions.items;
  retained = map retained_view d.retained.entries;
}

-- the data by now, but for what is to be retained
abbrev pub state_now : State → plain.Broker
state_now d = record {
  limit = d.limit;
  given = d.given;
  made = d.made;
  clock = d.clock;
  newcomers = flat_map newcomer_now d.newcomers.items;
  sessions = flat_map session_now d.sessions.items;
  retained = map retained_view d.retained.entries;
}

-- with these messages retained, one after the other
abbrev pub with_keeps : List plain.AppMessage → plain.Broker → plain.Broker
with_keeps keeps b = record b { retained = fold retained_with b.retained keeps }

-- the state and the draft are this turn, and there is room for what is to be retained
pub record Stands (state : State) (draft : Draft) (turn : Turn) : Type 0 where
  pub broker : with_keeps (draft_view draft).keeps (state_now state) ≡ turn.broker
  pub sends : (draft_view draft).sends ≡ map outgoing turn.sends
  pub closes : (draft_view draft).closes ≡ turn.closes
  pub waiting : (draft_view draft).waiting ≡ turn.waiting
  pub room : length (draft_view draft).keeps ≤ spare state.retained
  pub lawful : IsLawful turn.broker

-- no call is under way
abbrev pub IsSettled : State → Type 0
IsSettled d = state_now d ≡ state_was d

abbrev pub broker_view : Inside → plain.Broker
broker_view b = state_was b.state

-- no call is under way, and the data are lawful
pub record IsSound (d : State) : Type 0 where
  pub settled : IsSettled d
  pub lawful : IsLawful (state_was d)

-- the index, where there is one, has all grants and no others, and no more levels than may be, and nobody is silent for too long up to the moment that is noted
pub record IsKept (b : Inside) : Type 0 where
  pub sound : IsSound b.state
  pub index : IsHeld b.index.tree b.index.size (state_was b.state).sessions
  pub calm : IsCalm b.calm (state_was b.state)

-- how many messages wait and how many sessions there are
abbrev pub how_many : State → Draft → ℕ
how_many state draft = length (draft_view draft).waiting + length (flat_map session_now state.sessions.items)

-- a whole event, from any turn: what is noted first, then what the rules plan
abbrev pub stepped : Event → Turn → Turn
stepped e t = acts (plan (seen (acts (before e) t).broker e) e) (acts (before e) t)

-- a connection that ends, with its will, and that the caller closes
abbrev pub ends : ℕ → List Act
ends conn = Leave conn true ∷ Tell conn ∷ []
