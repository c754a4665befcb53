-- What contracts see of an ingress and its passes.
use Rattle.std.specs.Prelude.{◌≡◌, ℕ, suc, ◌<◌, ◌≤◌, Bool, true, false, List, [], ◌∷◌, length, ◌==◌, ◌||◌, slice_index, get_or}
use Rattle.crossbeam_channel.specs.Ends.{sends_on, receives_on}
use Rattle.crossbeam_channel.specs.Claims.{view, IsSeatAt}
use Rattle.spk_ingress.specs.declared.frame.Frame.{Frame}
use Rattle.spk_ingress.specs.declared.rule.Message.{Message}
use Rattle.spk_ingress.specs.declared.rule.Ended.{Ended}
use Rattle.spk_ingress.specs.declared.rule.View.{View}
use Rattle.spk_ingress.specs.declared.rule.View.TheVariants.{Puts, Takes, Spent}
use Rattle.spk_ingress.specs.declared.channel.Ingress.{Ingress}
use Rattle.spk_ingress.specs.declared.channel.PutPass.{PutPass}
use Rattle.spk_ingress.specs.declared.channel.TakePass.{TakePass}
use Rattle.spk_ingress.specs.Lanes.{share_of}

abbrev pub IsCapacity : ℕ → Type 0
IsCapacity n = (1 ≤ n) × (n ≤ 65536)

abbrev pub AreSenders : ℕ → Type 0
AreSenders n = (1 ≤ n) × (n ≤ 1024)

abbrev pub puts_in : View → List Frame
puts_in (Puts i put) = put
puts_in (Takes m g es) = []
puts_in Spent = []

abbrev pub taken_in : View → List Message
taken_in (Takes m g es) = g
taken_in (Puts i put) = []
taken_in Spent = []

-- the frames put through a pass, oldest first
abbrev pub frames_put : PutPass → List Frame
frames_put p = puts_in (view p.seat)

-- the frames taken, with their senders, oldest first
abbrev pub frames_taken : TakePass → List Message
frames_taken t = taken_in (view t.seat)

-- the pass puts into this ingress
pub record PutsInto (n : Ingress) (p : PutPass) : Type 0 where
  pub seat : IsSeatAt (sends_on n.end) p.seat
  pub sees : view p.seat ≡ Puts p.sender (frames_put p)
  pub below : p.sender < n.senders
  pub count : length (frames_put p) ≡ p.count

-- the pass takes from this ingress
pub record TakesFrom (n : Ingress) (t : TakePass) : Type 0 where
  pub seat : IsSeatAt (sends_on n.end) t.seat
  pub channel : receives_on t.end ≡ sends_on n.end
  pub ended : List Ended
  pub sees : view t.seat ≡ Takes n.senders (frames_taken t) ended
  pub room : length t.counts.items ≡ n.senders
  pub counts : (i : ℕ) → i < n.senders → slice_index t.counts.items i ≡ length (share_of i (frames_taken t))

-- so many senders were made, and nothing was taken
pub record TakesNone (n : Ingress) (t : TakePass) (made : ℕ) : Type 0 where
  pub seat : IsSeatAt (sends_on n.end) t.seat
  pub channel : receives_on t.end ≡ sends_on n.end
  pub sees : view t.seat ≡ Takes made [] []

-- ---- what settling asks

abbrev pub has_sender : ℕ → List PutPass → Bool
has_sender i [] = false
has_sender i (p ∷ ps) = (p.sender == i) || has_sender i ps

-- all that was put through each of these passes was taken
abbrev pub AllTaken : List Message → List PutPass → Type 0
AllTaken taken [] = Unit {0}
AllTaken taken (p ∷ ps) = (share_of p.sender taken ≡ frames_put p) × AllTaken taken ps

abbrev pub AllPutInto : Ingress → List PutPass → Type 0
AllPutInto n [] = Unit {0}
AllPutInto n (p ∷ ps) = PutsInto n p × AllPutInto n ps

-- the marks of the senders of these passes
pub record IsMarked (n : Ingress) (marks : List Bool) (passes : List PutPass) : Type 0 where
  pub marked : length marks ≡ n.senders
  pub each : (i : ℕ) → i < n.senders → get_or marks i false ≡ has_sender i passes

-- All passes are there, and every frame put was taken.
pub record IsSettled (n : Ingress) (t : TakePass) (passes : List PutPass) : Type 0 where
  pub there : (i : ℕ) → i < n.senders → has_sender i passes ≡ true
  pub taken : AllTaken (frames_taken t) passes

-- the lengths of the senders' shares
pub record AreLengths (n : Ingress) (t : TakePass) (lengths : List ℕ) : Type 0 where
  pub sized : length lengths ≡ n.senders
  pub each : (i : ℕ) → i < n.senders → slice_index lengths i ≡ length (share_of i (frames_taken t))

abbrev pub AllFresh : ℕ → List PutPass → Type 0
AllFresh i [] = Unit {0}
AllFresh i (p ∷ ps) = (p.sender ≡ i) × (frames_put p ≡ []) × AllFresh (suc i) ps

-- new passes: sender i's at place i, with nothing put through it
pub record ArePasses (n : Ingress) (passes : List PutPass) : Type 0 where
  pub sized : length passes ≡ n.senders
  pub puts_into : AllPutInto n passes
  pub fresh : AllFresh 0 passes
