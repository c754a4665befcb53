-- What the laws say of a world, of each host and node.
use Rattle.std.specs.Prelude.{◌≡◌, ℕ, List, ◌∷◌}
use Rattle.spk_sequence.specs.Claims.{IsLawful}
use Rattle.spk_sequence.specs.HostRecord as order
use Rattle.spk_sequence.specs.Window.{AllNearDeaths}
use Rattle.spk_world_rules.specs.Events.{World, Deed}
use Rattle.spk_world_rules.specs.Queries.{inputs_of, setting_of}

-- What came to a host of a node may come, its numbers tell positions apart, and deaths are of near sessions.
pub record IsLawfulPair (w : World) (done : List Deed) (h n : ℕ) : Type 0 where
  pub lawful : IsLawful (setting_of w done h n) (inputs_of done h n)
  pub near : AllNearDeaths (setting_of w done h n) (inputs_of done h n)

-- the event of a host that a thing done is: what it answered and consumed
abbrev pub event_of : World → List Deed → (h n : ℕ) → order.Input → order.Done
event_of w done h n input =
    order.done_at (setting_of w done h n) (order.record_of (setting_of w done h n) (inputs_of done h n))
    (order.standing_of (setting_of w done h n) (inputs_of done h n)) input

-- a thing done that comes to this host of this node, as that input
abbrev pub ComesAs : List Deed → Deed → (h n : ℕ) → order.Input → Type 0
ComesAs done e h n input = inputs_of (e ∷ done) h n ≡ input ∷ inputs_of done h n

-- a thing done that doesn't come to this host of this node
abbrev pub IsPassedBy : List Deed → Deed → (h n : ℕ) → Type 0
IsPassedBy done e h n = inputs_of (e ∷ done) h n ≡ inputs_of done h n
