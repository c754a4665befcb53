-- What becomes of a packet, in the code's words.
use Rattle.std.proofs.Common.{◌≡◌, ◌∙◌, sym, ap, subst, refl, ℕ, List, append-nil, length, length-drop, ◌-◌, take, drop, Bool, true, false, Some, Result, Ok, Err}
use Rattle.std.specs.Prelude.{if◌then◌else◌}
use Rattle.std.proofs.Math.Seq.{take-length}
use Rattle.std.specs.Result.{IfOk}
use Rattle.spk_packets.specs.Message.{Message, Connect, ConnAck, Publish, PubAck, Subscribe, SubAck, Unsubscribe, UnsubAck, PingReq, PingResp, Disconnect}
use Rattle.spk_access.specs.Rights.{RightsData}
use Rattle.spk_door.specs.Data.{VerdictData}
use Rattle.spk_door.specs.Data as door
use Rattle.spk_door.specs.View.{rights_of}
use Rattle.spk_door.specs.declared.door.Door.{Door}
use Rattle.spk_door.specs.declared.door.Who.{Who}
use Rattle.spk_visitor.specs.Data.{AnswerData, Outcome, StageData, More, Goes, Cuts, Refuses, Closes, Inside, Over}
use Rattle.spk_visitor.specs.Next.{Comes, IsBehind, Keeps}
use Rattle.spk_visitor.specs.Rules.{cut_off, ends, further}
use Rattle.spk_visitor.specs.View.{stage_view}
use Rattle.spk_visitor.specs.declared.answer.Answer.TheVariants as answer
use Rattle.spk_visitor.specs.declared.visitor.Stage.{Stage}
use Rattle.spk_visitor.specs.declared.visitor.Stage.TheVariants as stage

pub some-same : {X : Type 0} (a b : X) → Some a ≡ Some b → a ≡ b
some-same a b h = cc

-- two facts of an answer make a third
pub if-ok-both : {A E : Type 0} (P Q R : A → Type 0) → ((a : A) → P a → Q a → R a) → (r : Result A E) → IfOk r P → IfOk r Q → IfOk r R
if-ok-both P Q R f (Ok a) p q = f a p q
if-ok-both P Q R f (Err e) p q = tt

-- what stands behind a place, taken whole
pub rest-all : (n : ℕ) (xs : List ℕ) → take (length xs - n) (drop n xs) ≡ drop n xs
rest-all n xs = ap (λ k. take k (drop n xs)) (sym (length-drop n xs)) ∙ take-length (drop n xs)

-- whoever isn't let in is over
pub turned-away : (d : Door) (l : Bool) (o : Outcome) (out : List ℕ) → l ≡ false → Comes d (if l then o else ends Closes) answer.Closes stage.Over out out
turned-away d true o out e = cc
turned-away d false o out e = record { stands = refl; answers = refl; passes = sym (append-nil out) }

-- ---- how a client stands behind an answer

abbrev pub stage_by : AnswerData → RightsData → StageData
stage_by More r = Inside r
stage_by Goes r = Inside r
stage_by (Cuts id allowed) r = Inside r
stage_by (Refuses code) r = Inside r
stage_by Closes r = Over

inside : (d : Door) (who : Who) (rest : List ℕ) (r : RightsData) → rights_of d who ≡ Some r → (new : Stage) → new ≡ stage.Inside who rest → (stage_view d new ≡ Inside r) × Keeps new rest
inside d who rest r is new e = (ap (stage_view d) e ∙ rw is refl, subst (λ s. Keeps s rest) (sym e) refl)

pub stands-behind : (d : Door) (who : Who) (rest : List ℕ) (r : RightsData) → rights_of d who ≡ Some r → (a : AnswerData) (new : Stage) → IsBehind who rest a new
    → (stage_view d new ≡ stage_by a r) × Keeps new rest
stands-behind d who rest r is More new e = inside d who rest r is new e
stands-behind d who rest r is Goes new e = inside d who rest r is new e
stands-behind d who rest r is (Cuts id allowed) new e = inside d who rest r is new e
stands-behind d who rest r is (Refuses code) new e = inside d who rest r is new e
stands-behind d who rest r is Closes new e = (ap (stage_view d) e, subst (λ s. Keeps s rest) (sym e) tt)

cut-stands : (r : RightsData) (allowed : List Bool) (p : Message) → (cut_off r allowed p).stage ≡ stage_by (cut_off r allowed p).answer r
cut-stands r allowed (Connect client clean keep will) = refl
cut-stands r allowed (ConnAck present code) = refl
cut-stands r allowed (Publish dup qos retain topic id payload) = refl
cut-stands r allowed (PubAck id) = refl
cut-stands r allowed (Subscribe id entries) = refl
cut-stands r allowed (SubAck id codes) = refl
cut-stands r allowed (Unsubscribe id filters) = refl
cut-stands r allowed (UnsubAck id) = refl
cut-stands r allowed PingReq = refl
cut-stands r allowed PingResp = refl
cut-stands r allowed Disconnect = refl

further-stands : (r : RightsData) (p : Message) (v : VerdictData) → (further r p v).stage ≡ stage_by (further r p v).answer r
further-stands r p door.Passes = refl
further-stands r p (door.Cuts allowed) = cut-stands r allowed p
further-stands r p door.Closes = refl

-- of somebody who came in
pub stands-by : (d : Door) (who : Who) (rest : List ℕ) (r : RightsData) (p : Message) (v : VerdictData) → rights_of d who ≡ Some r → (a : AnswerData) (new : Stage)
    → a ≡ (further r p v).answer → IsBehind who rest a new → stage_view d new ≡ (further r p v).stage
stands-by d who rest r p v is a new same behind =
    (stands-behind d who rest r is a new behind).0 ∙ ap (λ x. stage_by x r) same ∙ sym (further-stands r p v)

-- the same of one whose client identifier isn't too long
pub turned-away-named : (d : Door) (n l : Bool) (o p : Outcome) (out : List ℕ) → n ≡ true → l ≡ false → Comes d (if n then (if l then o else ends Closes) else p) answer.Closes stage.Over out out
turned-away-named d true l o p out e h = turned-away d l o out h
turned-away-named d false l o p out e h = cc
