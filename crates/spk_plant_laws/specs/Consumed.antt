-- What a report says that a host consumed of an edge node, by the record of what the host was told of it (Sparkplug 3.0.0, chapter 5).
-- Inputs stand newest first, and what was given oldest first.
use Rattle.std.specs.Prelude.{◌≡◌, ℕ, List, ◌++◌}
use Rattle.std.specs.List.{flat_map}
use Rattle.spk_sequence.specs.HostRecord.{Input, consumed_of, record_of}
use Rattle.spk_edge_rules.specs.Config.{Setup}
use Rattle.spk_edge_rules.specs.Run.{Message}
use Rattle.spk_tie.specs.Tie.{host_setting}
use Rattle.spk_heard.specs.Read.{AreMessagesAt, AreRead}
use Rattle.spk_host.specs.Inputs.{node_calls}
use Rattle.spk_plant_host.specs.Told.{asked, consumed_for, told_in}
use Rattle.spk_plant_host.specs.declared.ends.Given.{Given}

-- What was consumed of the node at these items is what the record of these inputs consumes: the message of each position, one by one, in
-- order.
abbrev pub IsConsumedBy : Setup → List Message → (wait width : ℕ) → List Input → List Given → Type 0
IsConsumedBy s published wait width inputs given =
    AreMessagesAt s published (consumed_of (record_of (host_setting s published wait width) inputs))
    (flat_map (consumed_for s.config.group s.config.node) given)

-- After these first items: what they told the host of the node was read at the inputs by then, and what was consumed of it at them is what
-- the record consumes by then.
pub record IsTiedBy (s : Setup) (published : List Message) (wait width : ℕ) (inputs : List Input) (first : List Given) : Type 0 where
  pub later : List Input
  pub before : List Input
  pub parts : inputs ≡ later ++ before
  pub read : AreRead s published before (node_calls (asked (told_in first)) s.config.group s.config.node)
  pub consumed : IsConsumedBy s published wait width before first

-- and so at every moment
abbrev pub IsTied : Setup → List Message → (wait width : ℕ) → List Input → List Given → Type 0
IsTied s published wait width inputs given = (first rest : List Given) → given ≡ first ++ rest → IsTiedBy s published wait width inputs first
