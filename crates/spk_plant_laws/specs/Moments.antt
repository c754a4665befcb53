-- What holds at every moment of what a host is told of an edge node (Sparkplug 3.0.0, chapter 5). Inputs stand newest first.
use Rattle.std.specs.Prelude.{◌≡◌, ℕ, List, ◌∷◌, ◌++◌}
use Rattle.spk_sequence.specs.Claims.{AfterDeath, AfterGap, BirthPrefixes, HasCause, SameStep, TakesBirth}
use Rattle.spk_sequence.specs.HostRecord.{Done, Input, MessageComes, consumed_of, done_at, record_of, standing_of}
use Rattle.spk_sequence.specs.NodeRecord.{Setting}
use Rattle.spk_edge_rules.specs.Config.{Setup}
use Rattle.spk_edge_rules.specs.Run.{Message}
use Rattle.spk_host_node.specs.Inputs as node
use Rattle.spk_tie.specs.Tie.{host_setting}
use Rattle.spk_plant_relay.specs.Given.{IsHeard}

-- what an input does after those before it
abbrev pub doing : Setting → List Input → Input → Done
doing s before input = done_at s (record_of s before) (standing_of s before) input

-- at the moment after these inputs
pub record HoldsAfter (s : Setting) (before : List Input) : Type 0 where
  -- what was consumed is, birth by birth in increasing order, a prefix of the messages published under that birth, each once
  pub prefixes : BirthPrefixes s.published (consumed_of (record_of s before))
  -- wherever consumption stands, it stands for a cause
  pub cause : HasCause s (record_of s before)

-- at an input after those before it
pub record HoldsAt (s : Setting) (before : List Input) (input : Input) : Type 0 where
  -- after a gap nothing is consumed but a newer birth
  pub after_gap : AfterGap s (record_of s before) (doing s before input)
  -- nothing is consumed of a session whose matching death came
  pub after_death : AfterDeath s (record_of s before) (doing s before input)
  -- what is answered by numbers is what positions ask for
  pub step : SameStep s before input
  -- a birth that comes is taken, but for that birth or a later one taken before, or its session's death with no birth taken since
  pub birth : (p now : ℕ) → input ≡ MessageComes p now → TakesBirth s (record_of s before) p (doing s before (MessageComes p now))

-- at every moment of these inputs
pub record HoldsAlways (s : Setting) (inputs : List Input) : Type 0 where
  pub after : (later before : List Input) → inputs ≡ later ++ before → HoldsAfter s before
  pub at_each : (later before : List Input) (input : Input) → inputs ≡ later ++ input ∷ before → HoldsAt s before input

-- What a host was told of a node was read at inputs of these positions, one by one, which are relayed; and at every moment of them all
-- that holds.
pub record KeepsOrder (s : Setup) (published : List Message) (wait width : ℕ) (positions : List ℕ) (told : List node.Input) : Type 0 where
  pub heard : IsHeard s published wait width positions told
  pub always : HoldsAlways (host_setting s published wait width) heard.inputs
