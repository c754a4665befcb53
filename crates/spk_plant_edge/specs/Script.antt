-- What a script asks, step by step (own rule).
use Rattle.std.specs.Prelude.{◌≡◌, ℕ, zero, suc, pos, Bool, true, false, not, ◌&&◌, List, [], ◌∷◌, ◌++◌, Some, is_err, length, nat_lt}
use Rattle.std.specs.Option.{option_map}
use Rattle.std.specs.String.{string_bytes}
use Rattle.spk_payload.specs.Typing.{Typed, Signed, Unsigned, typed_view}
use Rattle.spk_plan.specs.declared.script.Sort.{Sort}
use Rattle.spk_plan.specs.declared.script.Sort.TheVariants as sort
use Rattle.spk_plan.specs.declared.script.Step.{Step}
use Rattle.spk_plan.specs.declared.script.Step.TheVariants as step
use Rattle.spk_edge_rules.specs.Config.{Setup}
use Rattle.spk_edge_rules.specs.Inputs.{Act, Open, Change, Turn, Drain, Stop, Cut, Input}
use Rattle.spk_edge_rules.specs.Rules.{is_born}
use Rattle.spk_edge_rules.specs.Run.{right_at, run_of}
use Rattle.spk_edge_rules.specs.Step.{standing_of}
use Rattle.spk_plant_edge.specs.Log.{Move, Asks, asked_at, asked_in, inputs_of}

-- a whole number as a value of a ramp
abbrev pub number_of : Sort → ℕ → Typed
number_of sort.Signed n = Signed (pos n)
number_of sort.Unsigned n = Unsigned n

-- the changes of a metric to 1, to 2 and so on to n, newest first
abbrev pub ramp : ℕ → Sort → ℕ → List Act
ramp alias s zero = []
ramp alias s (suc n) = Change alias (Some (number_of s (suc n))) ∷ ramp alias s n

-- a log grew by what was heard and by these acts of the script, newest first
abbrev pub Asked : List Act → List Move → List Move → Type 0
Asked acts before after = (more : List Move) × (after ≡ more ++ before) × (asked_in more ≡ acts)

-- ---- drains

-- the node refuses an input behind a log
abbrev pub is_refused : Setup → List Move → Input → Bool
is_refused s log i = is_err (right_at s (run_of s (inputs_of log)) i)

-- the node is Born, and changes are kept
abbrev pub may_drain : Setup → List Move → Bool
may_drain s log =
    let a = (standing_of s (inputs_of log)).asked in is_born a.phase && nat_lt 0 (length a.store.items)

-- the last of these drains was refused
abbrev pub was_refused : Setup → List Move → List Move → Bool
was_refused s before [] = false
was_refused s before (move ∷ drains) = is_refused s (drains ++ before) (asked_at (drains ++ before) Drain)

-- drains go on while the node is Born and changes are kept, until one is refused
abbrev pub goes_on : Setup → List Move → List Move → Bool
goes_on s before drains = may_drain s (drains ++ before) && not (was_refused s before drains)

-- moves that are drains, each of which had to be
abbrev pub AreDrains : Setup → List Move → List Move → Type 0
AreDrains s before [] = Unit {0}
AreDrains s before (move ∷ drains) =
    (move ≡ Asks (asked_at (drains ++ before) Drain)) × (goes_on s before drains ≡ true) × AreDrains s before drains

-- as many drains as have to be
pub record Drained (s : Setup) (before after : List Move) : Type 0 where
  pub drains : List Move
  pub grown : after ≡ drains ++ before
  pub each : AreDrains s before drains
  pub over : goes_on s before drains ≡ false

-- ---- steps

-- A step of the script leads from a log to another.
abbrev pub StepLeads : Setup → Step → List Move → List Move → Type 0
StepLeads s step.Open before after = Asked (Open ∷ []) before after
StepLeads s step.Born before after = Asked [] before after
StepLeads s (step.Set alias value) before after = Asked (Change alias (option_map typed_view value) ∷ []) before after
StepLeads s (step.Ramp alias kind changes) before after = Asked (ramp alias kind changes) before after
StepLeads s (step.Device name up) before after = Asked (Turn (string_bytes name) up ∷ []) before after
StepLeads s step.Drain before after = (read : List Move) × Asked [] before read × Drained s read after
StepLeads s step.Cut before after = Asked (Cut ∷ []) before after
StepLeads s step.Stop before after = Asked (Stop ∷ []) before after

-- a script's steps, one after the other
abbrev pub Leads : Setup → List Step → List Move → List Move → Type 0
Leads s [] before after = before ≡ after
Leads s (x ∷ xs) before after = (between : List Move) × StepLeads s x before between × Leads s xs between after
