-- Which positions a host was given of a node, by the lists of a report alone (own rules). What the items of the host's ring said to it
-- stands newest first, and so does how many frames were taken before the ring got each; frames stand oldest first.
use Rattle.std.specs.Prelude.{◌≡◌, ℕ, ◌+◌, Bool, true, false, List, [], ◌∷◌, reverse, take, Option}
use Rattle.spk_ingress.specs.declared.rule.Message.{Message}
use Rattle.spk_reading.specs.Data.{HeardData}
use Rattle.spk_plant_host.specs.Told.{told_in}
use Rattle.spk_plan.specs.declared.plan.Plan.{Plan}
use Rattle.spk_plant.specs.declared.report.Report.{Report}
use Rattle.spk_plant_given.specs.Numbered.{AreNumbered}
use Rattle.spk_plant_given.specs.Part.{is_message_of}
use Rattle.spk_plant_laws.specs.Places.{is_topic_at, setup_at}

-- A message of the node has the first of these positions, where one more numbered frame of the node had been taken; the others are of
-- what was given before it. Whatever else is given has none.
abbrev pub IsPlaced : (List ℕ → Bool) → ℕ → Bool → (taken : List Message) → (before : List ℕ → Type 0) → List ℕ → Type 0
IsPlaced on k true taken before [] = ⊥
IsPlaced on k true taken before (p ∷ ps) = AreNumbered on k taken (p + 1) × before ps
IsPlaced on k false taken before ps = before ps

-- The positions of the node's messages that the host was given: of each, how many numbered frames of the node had been taken, less one.
abbrev pub ArePlaced : (List ℕ → Bool) → ℕ → (group name : List ℕ) → List Message → List (Option HeardData) → List ℕ → List ℕ → Type 0
ArePlaced on k group name taken [] [] ps = ps ≡ []
ArePlaced on k group name taken (t ∷ told) (n ∷ counts) ps =
    IsPlaced on k (is_message_of group name t) (take n taken) (ArePlaced on k group name taken told counts) ps
ArePlaced on k group name taken _ _ ps = ⊥

-- those of the node at place k of a plan, by the report's lists `given`, `accepted` and `taken`
abbrev pub ArePlacedAt : Plan → Report → ℕ → List ℕ → Type 0
ArePlacedAt p r k =
    ArePlaced (is_topic_at p k) k (setup_at p k).config.group (setup_at p k).config.node
    r.taken.items (told_in r.given.items) (reverse r.accepted.items)
