-- Several changes of one owner that are done at once, and what they make of a node's data.
use Rattle.std.specs.Prelude.{◌≡◌, ◌⊎◌, ℕ, ◌^◌, true, false, List, [], ◌∷◌, map, nat_lt, Option, Some, None, Ok, Err, if◌then◌else◌}
use Rattle.std.specs.Option.{option_map}
use Rattle.spk_payload.specs.Meaning.{MetricData}
use Rattle.spk_payload.specs.Typing.{Typed, typed_view}
use Rattle.spk_payload.specs.declared.typing.Value.{Value}
use Rattle.spk_device.specs.Book.{Book}
use Rattle.spk_device.specs.Calls.{unless_refused}
use Rattle.spk_device.specs.Step.{set_refusal, with_value}
use Rattle.spk_device.specs.declared.owner.Owner.{Owner}
use Rattle.spk_store.specs.Data.{Kept}
use Rattle.spk_store.specs.Step.{after_push}
use Rattle.spk_edge_rules.specs.declared.fault.EdgeFault.{EdgeFault}
use Rattle.spk_edge_rules.specs.declared.fault.EdgeFault.TheVariants.{NoMemory, ClockEnd}
use Rattle.spk_edge_rules.specs.Answers.{Answer}
use Rattle.spk_edge_rules.specs.Births.{data_metric}
use Rattle.spk_edge_rules.specs.Inputs.{ChangeData, Changes, Input}
use Rattle.spk_edge_rules.specs.Rules.{changes_draft, changes_fault, is_born, refused_first}
use Rattle.spk_edge_rules.specs.Several.{single}
use Rattle.spk_edge_rules.specs.Step.{answer_at, stepped}
use Rattle.spk_edge.specs.Changing.{change_at}
use Rattle.spk_edge.specs.Patch.{IsDone, plain_input}
use Rattle.spk_edge.specs.Sealing.{with_number}
use Rattle.spk_edge.specs.View.{MessageData, NodeData, unnumbered}
use Rattle.spk_edge.specs.declared.message.Out.{Out}

-- ---- what they are

-- an alias and its value
abbrev pub pair_view : ℕ × Option Value → ℕ × Option Typed
pair_view x = (x.0, option_map typed_view x.1)

abbrev pub pairs : List (ℕ × Option Value) → List (ℕ × Option Typed)
pairs changes = map pair_view changes

abbrev pub changes_of : ℕ → List (ℕ × Option Typed) → Input
changes_of now changes = plain_input now (Changes changes)

-- ---- what is given

-- their metrics, and the message of an owner that says them, under the number that comes next
abbrev pub rows : Book → ℕ → List (ℕ × Option Typed) → List MetricData
rows b stamp changes = map (λ x. data_metric b x.0 stamp None x.1) changes

abbrev pub message : NodeData → Owner → ℕ → List (ℕ × Option Typed) → MessageData
message n owner stamp changes = with_number n.standing.seq (unnumbered n.config (changes_draft n.standing.asked.book owner stamp changes))

-- ---- the data after them

-- each is set after the one before it; what a registry refuses leaves it as it is
abbrev pub set_each : Book → List (ℕ × Option Typed) → Book
set_each b [] = b
set_each b (x ∷ xs) = set_each (unless_refused (set_refusal b x.0 x.1) (with_value b x.0 x.1) b) xs

-- as changes that are kept
abbrev pub all_at : Book → ℕ → List (ℕ × Option Typed) → List ChangeData
all_at b now changes = map (λ x. change_at b now x.0 x.1) changes

abbrev pub push_each : Kept ChangeData → List ChangeData → Kept ChangeData
push_each s [] = s
push_each s (c ∷ cs) = push_each (after_push s c) cs

-- ---- what was done

-- an answer that gives nothing
pub record IsSilence (answer : Answer) : Type 0 where
  pub packets : answer.packets ≡ []
  pub drafts : answer.given.drafts ≡ []
  pub writes : answer.given.writes ≡ []
  pub close : answer.given.close ≡ false

-- Each of them is done by itself, one after the other, and gives nothing.
abbrev pub AreDone : NodeData → ℕ → List (ℕ × Option Typed) → NodeData → Type 0
AreDone n now [] after = after ≡ n
AreDone n now (x ∷ xs) after =
    (answer : Answer) × (answer_at n.config n.standing (single now x) ≡ Ok answer) × IsSilence answer
    × AreDone (record n { standing = stepped n.config n.standing (single now x) answer.given }) now xs after

-- A Born node does them as one input. Any other one does each by itself, and answers nothing.
pub record IsTold (n : NodeData) (now : ℕ) (changes : List (ℕ × Option Typed)) (after : NodeData) (out : Out) : Type 0 where
  pub born : is_born n.standing.asked.phase ≡ true → IsDone n (changes_of now changes) after out
  pub each : is_born n.standing.asked.phase ≡ false → AreDone n now changes after
  pub silent : is_born n.standing.asked.phase ≡ false → out.packets.items ≡ []
  pub writes : out.writes.items ≡ []
  pub close : out.close ≡ false

-- ---- what was refused

-- what a node that isn't Born refuses them with: a moment of 2^63 or more, then what the first one is refused with
abbrev pub fault_at : Book → ℕ → List (ℕ × Option Typed) → Option EdgeFault
fault_at b now changes = if nat_lt now (2 ^ 63) then changes_fault b changes else Some ClockEnd

-- memory was refused, or the rules refuse them with this fault
pub record IsUntaken (n : NodeData) (now : ℕ) (changes : List (ℕ × Option Typed)) (e : EdgeFault) : Type 0 where
  pub born : is_born n.standing.asked.phase ≡ true → answer_at n.config n.standing (changes_of now changes) ≡ Err e
  pub others : is_born n.standing.asked.phase ≡ false → fault_at n.standing.asked.book now changes ≡ Some e

abbrev pub IsRefused : NodeData → ℕ → List (ℕ × Option Typed) → EdgeFault → Type 0
IsRefused n now changes e = (e ≡ NoMemory) ⊎ IsUntaken n now changes e

-- the place of the first one that is refused, at a moment
abbrev pub place_at : Book → ℕ → List (ℕ × Option Typed) → Option ℕ
place_at b now changes = if nat_lt now (2 ^ 63) then option_map (λ e. e.0) (refused_first b changes) else None
