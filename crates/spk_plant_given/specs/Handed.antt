-- What a plant's host was handed of an edge node, by positions, and what it consumed of it: by the lists of a report alone (own rules).
-- Items stand oldest first; what was told, and what was handed, newest first.
use Rattle.std.specs.Prelude.{◌≡◌, ℕ, zero, suc, ◌+◌, ◌-◌, ◌==◌, Bool, List, [], ◌∷◌, length, get_or, map, reverse, take, Option, if◌then◌else◌}
use Rattle.std.specs.List.{flat_map, range_with_len, slice_get}
use Rattle.std.specs.Option.{option_map_or}
use Rattle.spk_sequence.specs.HostRecord.{Input, MessageComes, DeathComes, TickComes}
use Rattle.spk_ingress.specs.declared.rule.Message.{Message}
use Rattle.spk_reading.specs.Data.{HeardData}
use Rattle.spk_plant_host.specs.Told.{told_in}
use Rattle.spk_plant_host.specs.declared.ends.Given.{Given}
use Rattle.spk_plant_relay.specs.Topics.{is_numbered_topic}
use Rattle.spk_plant_given.specs.Numbered.{AreNumbered}
use Rattle.spk_plant_given.specs.Part.{part_of}
use Rattle.spk_plant_given.specs.declared.part.Part.{Part}
use Rattle.spk_plant_given.specs.declared.part.Part.TheVariants as part
use Rattle.spk_plant_given.specs.declared.handed.Handed.{Handed}
use Rattle.spk_plant_given.specs.declared.handed.Handed.TheVariants as handed

-- as an input of the order of the node's messages
abbrev pub handed_view : Handed → Input
handed_view (handed.Message position now) = MessageComes position now
handed_view (handed.Death session now) = DeathComes session now

abbrev pub handed_in : List Handed → List Input
handed_in hs = reverse (map handed_view hs)

-- ---- what was handed

-- the frames that the broker had taken when the host's ring took its item of this place
abbrev pub frames_before : (taken : List Message) (accepted : List ℕ) (place : ℕ) → List Message
frames_before taken accepted place = take (get_or accepted place 0) taken

-- A message has the position that is how many numbered frames of the node had been taken, less one; an NDEATH is that of the session of
-- its bdSeq. It stands first, and what was handed before behind it.
abbrev pub IsNext : (List ℕ → Bool) → ℕ → Part → List Message → (now : ℕ) → (before : List Input → Type 0) → List Input → Type 0
IsNext on k part.Message frames now before [] = ⊥
IsNext on k part.Message frames now before (e ∷ es) = ((n : ℕ) × AreNumbered on k frames n × (e ≡ MessageComes (n - 1) now)) × before es
IsNext on k (part.Death bd) frames now before [] = ⊥
IsNext on k (part.Death bd) frames now before (e ∷ es) = (e ≡ DeathComes bd now) × before es
IsNext on k part.Nothing frames now before es = before es

-- Of each item that says something of the node that, at the moment of the item: how many items there were by then.
abbrev pub AreHanded : (List ℕ → Bool) → ℕ → (group name : List ℕ) → List Message → (accepted : List ℕ) → List (Option HeardData) → List Input → Type 0
AreHanded on k group name taken accepted [] es = es ≡ []
AreHanded on k group name taken accepted (t ∷ told) es =
    IsNext on k (part_of group name t) (frames_before taken accepted (length told)) (length told + 1) (AreHanded on k group name taken accepted told) es

-- ---- the moments

abbrev pub moment_of : Input → ℕ
moment_of (MessageComes position now) = now
moment_of (DeathComes session now) = now
moment_of (TickComes now) = now

-- Behind each of so many items a moment passes: what was handed, and the moments, newest first.
abbrev pub with_moments : ℕ → List Input → List Input
with_moments zero es = []
with_moments (suc n) [] = TickComes (n + 1) ∷ with_moments n []
with_moments (suc n) (e ∷ es) =
    if moment_of e == n + 1 then TickComes (n + 1) ∷ e ∷ with_moments n es else TickComes (n + 1) ∷ with_moments n (e ∷ es)

-- ---- what was consumed

-- how many messages were consumed at the item of this moment
abbrev pub count_at : List Given → ℕ → ℕ
count_at given now = option_map_or (λ (g : Given). length g.consumed.items) (slice_get given (now - 1)) 0

-- A message is consumed at its item with those that follow it, as many as were consumed there.
abbrev pub consumed_with : List Given → Input → List ℕ
consumed_with given (MessageComes position now) = range_with_len position (count_at given now)
consumed_with given (DeathComes session now) = []
consumed_with given (TickComes now) = []

-- the positions consumed, oldest first
abbrev pub consumed_in : List Given → List Handed → List ℕ
consumed_in given hs = flat_map (λ h. consumed_with given (handed_view h)) hs

-- ---- of one node

-- What was handed of the node of these names, the sender at place k, and consumed of it, by these lists.
pub record IsOfNode (group name : List ℕ) (k : ℕ) (taken : List Message) (accepted : List ℕ) (given : List Given) (hs : List Handed) (ps : List ℕ) : Type 0 where
  pub handed : AreHanded (is_numbered_topic group name) k group name taken accepted (told_in given) (handed_in hs)
  pub consumed : ps ≡ consumed_in given hs
