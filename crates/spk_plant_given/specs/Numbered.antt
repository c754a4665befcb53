-- How many of the frames that a plant's broker took are numbered messages of one edge node (own rules). Frames stand oldest first.
use Rattle.std.specs.Prelude.{◌≡◌, ◌⊎◌, ℕ, ◌+◌, ◌≤◌, Bool, true, List, [], ◌∷◌, length, take}
use Rattle.spk_ingress.specs.declared.rule.Message.{Message}
use Rattle.spk_plant_broker.specs.Data.{Input}
use Rattle.spk_plant_broker.specs.Log.{Means}
use Rattle.spk_plant_relay.specs.Shown.{is_numbered}
use Rattle.spk_plant_given.specs.declared.count.Count.{Count}

-- a frame of the sender that is a PUBLISH on one of these topics
abbrev pub IsNumberedFrame : (List ℕ → Bool) → ℕ → Message → Type 0
IsNumberedFrame on k m = (i : Input) × Means m.frame i × (is_numbered on k m i ≡ true)

-- so many of these frames are
abbrev pub AreNumbered : (List ℕ → Bool) → ℕ → List Message → ℕ → Type 0
AreNumbered on k [] n = n ≡ 0
AreNumbered on k (m ∷ ms) n =
    (IsNumberedFrame on k m × ((less : ℕ) × (n ≡ less + 1) × AreNumbered on k ms less))
    ⊎ ((IsNumberedFrame on k m → ⊥) × AreNumbered on k ms n)

-- of so many of the first frames, so many are
pub record IsCount (on : List ℕ → Bool) (k : ℕ) (taken : List Message) (c : Count) : Type 0 where
  pub within : c.frames ≤ length taken
  pub most : c.numbered ≤ c.frames
  pub counted : AreNumbered on k (take c.frames taken) c.numbered
