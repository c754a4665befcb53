-- The rule of the channel. For each sender the frames taken, and behind them those on their way, are the frames it put.
use Rattle.std.specs.Prelude.{◌≡◌, ℕ, ◌+◌, ◌<◌, ◌≤◌, ◌^◌, ◌==◌, List, [], ◌∷◌, ◌++◌, length, if◌then◌else◌}
use mathlib.Core.Option.{some}
use lib.ListN.{get_elem?}
use Rattle.spk_ingress.specs.declared.frame.Frame.{Frame}
use Rattle.spk_ingress.specs.declared.rule.Message.{Message}
use Rattle.spk_ingress.specs.declared.rule.Ended.{Ended}
use Rattle.spk_ingress.specs.declared.rule.View.{View}
use Rattle.spk_ingress.specs.declared.rule.View.TheVariants.{Puts, Takes, Spent}

-- a sender's share: its frames among these, in order
abbrev pub share_of : ℕ → List Message → List Frame
share_of i [] = []
share_of i (m ∷ ms) = if m.sender == i then m.frame ∷ share_of i ms else share_of i ms

abbrev pub ended : ℕ → List Frame → Ended
ended i put = record { sender = i; put = put }

-- of senders that aren't made nothing is there, and no sender put more than a `u64` counts
pub record IsCounted (made : ℕ) (all : List Message) : Type 0 where
  pub none : (i : ℕ) → made ≤ i → share_of i all ≡ []
  pub few : (i : ℕ) → length (share_of i all) < 2 ^ 64

-- all that an ended sender put is its share; its pass is with the reader
pub record IsEnded (owner : ℕ → ℕ) (reader made : ℕ) (all : List Message) (e : Ended) : Type 0 where
  pub given_back : owner e.sender ≡ reader
  pub was_made : e.sender < made
  pub share : share_of e.sender all ≡ e.put

abbrev pub AreEnded : (ℕ → ℕ) → ℕ → ℕ → List Message → List Ended → Type 0
AreEnded owner reader made all [] = Unit {0}
AreEnded owner reader made all (e ∷ es) = IsEnded owner reader made all e × AreEnded owner reader made all es

-- What a pass knows is so: `all` is what was taken and what is on its way.
abbrev pub Fits : (ℕ → ℕ) → ℕ → ℕ → List Message → List Message → ℕ → View → Type 0
Fits owner reader made got all pass (Puts i put) = (owner i ≡ pass) × (i < made) × (share_of i all ≡ put)
Fits owner reader made got all pass (Takes m g es) = (pass ≡ reader) × (m ≡ made) × (g ≡ got) × AreEnded owner reader made all es
Fits owner reader made got all pass Spent = Unit {0}

-- Each sender's pass has one owner, so there are no two passes of one sender.
pub record Carries (items : List Message) (views : List View) : Type 0 where
  pub owner : ℕ → ℕ
  pub reader : ℕ
  pub made : ℕ
  pub got : List Message
  pub counted : IsCounted made (got ++ items)
  pub fits : (pass : ℕ) (v : View) → get_elem? views pass ≡ some v → Fits owner reader made got (got ++ items) pass v

-- ---- what the steps make of a view

abbrev pub with_sender : View → View
with_sender (Takes m g es) = Takes (m + 1) g es
with_sender (Puts i put) = Puts i put
with_sender Spent = Spent

abbrev pub new_sender : View → View
new_sender (Takes m g es) = Puts m []
new_sender (Puts i put) = Spent
new_sender Spent = Spent

abbrev pub after_put : View → Message → View
after_put (Puts i put) x = Puts i (put ++ x.frame ∷ [])
after_put (Takes m g es) x = Takes m g es
after_put Spent x = Spent

-- a frame of a sender that was made, which put fewer than a `u64` counts
abbrev pub IsTaken : View → Message → View → Type 0
IsTaken (Takes m g es) x w = (w ≡ Takes m (g ++ x ∷ []) es) × (x.sender < m) × (length (share_of x.sender g) + 1 < 2 ^ 64)
IsTaken (Puts i put) x w = ⊥
IsTaken Spent x w = ⊥

abbrev pub with_ended : View → View → View
with_ended (Takes m g es) (Puts i put) = Takes m g (ended i put ∷ es)
with_ended (Takes m g es) (Takes n h fs) = Takes m g es
with_ended (Takes m g es) Spent = Takes m g es
with_ended (Puts i put) w = Puts i put
with_ended Spent w = Spent

-- of each ended sender, what was taken and what is on its way is what it put
abbrev pub HavePut : List Message → List Ended → Type 0
HavePut all [] = Unit {0}
HavePut all (e ∷ es) = (share_of e.sender all ≡ e.put) × HavePut all es

abbrev pub AreOnTheWay : View → List Message → Type 0
AreOnTheWay (Takes m g es) items = HavePut (g ++ items) es
AreOnTheWay (Puts i put) items = Unit {0}
AreOnTheWay Spent items = Unit {0}
