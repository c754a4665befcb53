-- Events told by the past: which may come, how each is told, and where a list of them leads.
use Rattle.std.specs.Prelude.{◌≡◌, ℕ, Bool, true, List, [], ◌∷◌}
use Rattle.spk_broker_rules.specs.Plan.{Event, Open, Packet, Fault, Closed, Tick, Refused, before, plan}
use Rattle.spk_broker_rules.specs.Past.{Past, is_open, may_open, seen_in}
use Rattle.spk_broker_rules.specs.Step.{Turn}
use Rattle.spk_broker_rules.specs.Story.{Story, TellsAll}

-- A connection may be opened where one more may be; what speaks of a connection may come while it is open.
abbrev pub may_be : Past → Event → Bool
may_be h (Open moment) = may_open h
may_be h (Packet conn p moment) = is_open h conn
may_be h (Fault conn f moment) = is_open h conn
may_be h (Closed conn moment) = is_open h conn
may_be h (Tick moment) = true
may_be h (Refused conn s moment) = is_open h conn

-- an event begins here: nothing is sent or closed yet, and nothing waits
abbrev pub story_at : Past → Story
story_at h = record { past = h; sends = []; closes = []; waiting = [] }

-- An event told: first what is noted before the rules look, then the acts that the rules give.
pub record Telling (limit : ℕ) (h : Past) (e : Event) : Type 0 where
  pub first : Story
  pub noted : TellsAll (before e) (story_at h) first
  pub end : Story
  pub done : TellsAll (plan (seen_in limit first.past e) e) first end

-- The past after these events, newest first, each of which might come.
abbrev pub Leads : ℕ → List Event → Past → Type 0
Leads limit [] h = h ≡ []
Leads limit (e ∷ es) h = (g : Past) × Leads limit es g × (may_be g e ≡ true) × (t : Telling limit g e) × (t.end.past ≡ h)

-- there is a telling with these sends and closes
pub record Answers (limit : ℕ) (h : Past) (e : Event) (t : Turn) : Type 0 where
  pub telling : Telling limit h e
  pub sends : telling.end.sends ≡ t.sends
  pub closes : telling.end.closes ≡ t.closes
