-- How many connections a node opens: no more than its script has steps that open one.
use Rattle.std.proofs.Common.{◌≡◌, ◌∙◌, ℕ, zero, suc, ◌+◌, ◌≤◌, Bool, true, false, ◌&&◌, ◌==◌, List, [], ◌∷◌, ◌++◌, Result, Ok, Err, refl, sym, ap, subst, arith, inl, inr, if◌then◌else◌, nat_le, cond, count_by, leb-true}
use Rattle.std.specs.Option.{option_map}
use Rattle.std.specs.String.{string_bytes}
use Rattle.std.proofs.lemmas.List.Sums.{sum_by-append}
use Rattle.spk_packets.specs.Message.{Connect, ConnAck, Publish, PubAck, Subscribe, SubAck, Unsubscribe, UnsubAck, PingReq, PingResp, Disconnect}
use Rattle.spk_packets.specs.Message.{Message as Packet}
use Rattle.spk_payload.specs.Typing.{typed_view}
use Rattle.spk_edge_rules.specs.Arriving.{input_of, is_primary}
use Rattle.spk_edge_rules.specs.Config.{Config, Setup}
use Rattle.spk_edge_rules.specs.Inputs.{Accepted, Act, Change, Command, Cut, Input, Open, State, Stop, Turn, TurnedAway}
use Rattle.spk_edge_rules.specs.Run.{Done, opened, right_at, run_of, with_done}
use Rattle.spk_edge_rules.specs.Step.{is_open}
use Rattle.spk_edge_rules.specs.Answers.{Answer}
use Rattle.spk_edge_rules.specs.declared.fault.EdgeFault.{EdgeFault}
use Rattle.spk_plant_edge.specs.Log.{Asks, Hears, IsArrival, IsLog, Move, Passes, asked_in, inputs_of}
use Rattle.spk_plant_edge.specs.Script.{AreDrains, Asked, Leads, StepLeads, ramp}
use Rattle.spk_plan.specs.declared.plan.PlanNode.{PlanNode}
use Rattle.spk_plan.specs.declared.script.Sort.{Sort}
use Rattle.spk_plan.specs.declared.script.Step.{Step}
use Rattle.spk_plan.specs.declared.script.Step.TheVariants as step
use Rattle.spk_plan_rules.specs.Plan as plan
use Rattle.spk_plan_rules.specs.Plan.{changes_in, fits}

-- how many of these acts open a connection
abbrev pub opens : List Act → ℕ
opens [] = 0
opens (a ∷ as_) = if is_open a then opens as_ + 1 else opens as_

-- how many of these inputs do
abbrev pub inputs_open : List Input → ℕ
inputs_open [] = 0
inputs_open (i ∷ is) = if is_open i.act then inputs_open is + 1 else inputs_open is

-- ---- the run

both_more : (b : Bool) (m n : ℕ) → m ≤ n → (if b then m + 1 else m) ≤ (if b then n + 1 else n)
both_more true m n le = omega (arith, le)
both_more false m n le = le

one_more : (b : Bool) (m n : ℕ) → m ≤ n → m ≤ (if b then n + 1 else n)
one_more true m n le = omega (arith, le)
one_more false m n le = le

done_opens : (h : List Done) (i : Input) (is : List Input) (res : Result Answer EdgeFault) → opened h ≤ inputs_open is → opened (with_done h i res) ≤ inputs_open (i ∷ is)
done_opens h i is (Ok answer) le = both_more (is_open i.act) (opened h) (inputs_open is) le
done_opens h i is (Err fault) le = one_more (is_open i.act) (opened h) (inputs_open is) le

pub run_opens : (s : Setup) (is : List Input) → opened (run_of s is) ≤ inputs_open is
run_opens s [] = omega arith
run_opens s (i ∷ is) = done_opens (run_of s is) i is (right_at s (run_of s is) i) (run_opens s is)

-- ---- the log

one_of : (b : Bool) (x y : Act) → is_open x ≡ false → is_open y ≡ false → is_open (if b then x else y) ≡ false
one_of true x y p q = p
one_of false x y p q = q

-- no packet of the server opens a connection
arrives : (c : Config) (now : ℕ) (p : Packet) → is_open (input_of c now p).act ≡ false
arrives c now (ConnAck present code) = one_of (code == 0) Accepted TurnedAway refl refl
arrives c now (Publish dup qos retain topic id payload) = one_of (is_primary c topic) (State payload) (Command topic payload) refl refl
arrives c now (Connect client clean keep will) = refl
arrives c now (PubAck id) = refl
arrives c now (Subscribe id filters) = refl
arrives c now (SubAck id codes) = refl
arrives c now (Unsubscribe id filters) = refl
arrives c now (UnsubAck id) = refl
arrives c now PingReq = refl
arrives c now PingResp = refl
arrives c now Disconnect = refl

heard_opens : (c : Config) (now : ℕ) (bytes : List ℕ) (i : Input) → IsArrival c now bytes i → is_open i.act ≡ false
heard_opens c now bytes i (inl packet) = ap (λ (j : Input). is_open j.act) packet.2 ∙ arrives c now packet.0
heard_opens c now bytes i (inr other) = ap (λ (j : Input). is_open j.act) other.1

pub log_opens : (s : Setup) (log : List Move) → IsLog s log → inputs_open (inputs_of log) ≡ opens (asked_in log)
log_opens s [] l = refl
log_opens s (Asks i ∷ log) l = ap (λ n. if is_open i.act then n + 1 else n) (log_opens s log l.1)
log_opens s (Hears item i ∷ log) l =
    ap (λ b. if b then inputs_open (inputs_of log) + 1 else inputs_open (inputs_of log)) (heard_opens s.config _ item.bytes i l.0.1) ∙ log_opens s log l.1
log_opens s (Passes item ∷ log) l = log_opens s log l.1

-- ---- the script

grows : (b : Bool) (m n : ℕ) → (if b then (m + n) + 1 else m + n) ≡ (if b then m + 1 else m) + n
grows true m n = omega arith
grows false m n = refl

-- moves more
pub more_opens : (more before : List Move) → opens (asked_in (more ++ before)) ≡ opens (asked_in more) + opens (asked_in before)
more_opens [] before = omega arith
more_opens (Asks i ∷ more) before =
    ap (λ n. if is_open i.act then n + 1 else n) (more_opens more before) ∙ grows (is_open i.act) (opens (asked_in more)) (opens (asked_in before))
more_opens (Hears item i ∷ more) before = more_opens more before
more_opens (Passes item ∷ more) before = more_opens more before

asked_opens : (acts : List Act) (before after : List Move) → Asked acts before after → opens (asked_in after) ≡ opens acts + opens (asked_in before)
asked_opens acts before after a =
    ap (λ log. opens (asked_in log)) a.1 ∙ (more_opens a.0 before ∙ ap (λ xs. opens xs + opens (asked_in before)) a.2)

ramp_opens : (alias : ℕ) (s : Sort) (n : ℕ) → opens (ramp alias s n) ≡ 0
ramp_opens alias s zero = refl
ramp_opens alias s (suc n) = ramp_opens alias s n

drains_open : (s : Setup) (before drains : List Move) → AreDrains s before drains → opens (asked_in (drains ++ before)) ≡ opens (asked_in before)
drains_open s before [] d = refl
drains_open s before (move ∷ drains) d =
    ap (λ m. opens (asked_in (m ∷ (drains ++ before)))) d.0 ∙ drains_open s before drains d.2

-- how many connections a script opens
abbrev pub steps_open : List Step → ℕ
steps_open [] = 0
steps_open (x ∷ xs) = if plan.is_open x then steps_open xs + 1 else steps_open xs

abbrev one_step : (x : Step) → ℕ
one_step x = if plan.is_open x then 1 else 0

step_opens : (s : Setup) (x : Step) (before after : List Move) → StepLeads s x before after → opens (asked_in after) ≡ one_step x + opens (asked_in before)
step_opens s step.Open before after l = asked_opens (Open ∷ []) before after l
step_opens s step.Born before after l = asked_opens [] before after l
step_opens s (step.Set alias value) before after l = asked_opens (Change alias (option_map typed_view value) ∷ []) before after l
step_opens s (step.Ramp alias kind changes) before after l =
    asked_opens (ramp alias kind changes) before after l ∙ ap (λ n. n + opens (asked_in before)) (ramp_opens alias kind changes)
step_opens s (step.Device name up) before after l = asked_opens (Turn (string_bytes name) up ∷ []) before after l
step_opens s step.Drain before after l =
    ap (λ log. opens (asked_in log)) l.2.grown ∙ (drains_open s l.0 l.2.drains l.2.each ∙ asked_opens [] before l.0 l.1)
step_opens s step.Cut before after l = asked_opens (Cut ∷ []) before after l
step_opens s step.Stop before after l = asked_opens (Stop ∷ []) before after l

steps_more : (b : Bool) (m n : ℕ) → m + ((if b then 1 else 0) + n) ≡ (if b then m + 1 else m) + n
steps_more true m n = omega arith
steps_more false m n = omega arith

pub leads_opens : (s : Setup) (xs : List Step) (before after : List Move) → Leads s xs before after → opens (asked_in after) ≡ steps_open xs + opens (asked_in before)
leads_opens s [] before after l =
    let same : opens (asked_in after) ≡ opens (asked_in before) = ap (λ log. opens (asked_in log)) (sym l) in
    omega (arith, same)
leads_opens s (x ∷ xs) before after l =
    leads_opens s xs l.0 after l.2 ∙ (ap (λ n. steps_open xs + n) (step_opens s x before l.0 l.1) ∙ steps_more (plan.is_open x) (steps_open xs) (opens (asked_in before)))

-- a last stop opens none
pub stop_opens : (xs : List Step) → steps_open (xs ++ step.Stop ∷ []) ≡ steps_open xs
stop_opens [] = refl
stop_opens (x ∷ xs) = ap (λ n. if plan.is_open x then n + 1 else n) (stop_opens xs)

-- it is as the limits count
counts : (b : Bool) (m : ℕ) → (if b then m + 1 else m) ≡ (if b then 1 else 0) + m
counts true m = omega arith
counts false m = omega arith

one_counted : (b : Bool) → 0 + cond b 1 0 ≡ (if b then 1 else 0)
one_counted true = refl
one_counted false = refl

pub steps_counted : (xs : List Step) → steps_open xs ≡ count_by plan.is_open xs
steps_counted [] = refl
steps_counted (x ∷ xs) =
    ap (λ n. if plan.is_open x then n + 1 else n) (steps_counted xs) ∙ (counts (plan.is_open x) (count_by plan.is_open xs)
    ∙ (ap (λ n. n + count_by plan.is_open xs) (sym (one_counted (plan.is_open x))) ∙ sym (sum_by-append (λ y. cond (plan.is_open y) 1 0) (x ∷ []) xs)))

both : (a b : Bool) → (a && b) ≡ true → a ≡ true
both true b e = refl
both false b e = cc

-- a script within its limits opens at most 200
pub fits_opens : (n : PlanNode) → fits n ≡ true → steps_open n.script.items ≤ 200
fits_opens n h =
    let few : count_by plan.is_open n.script.items ≤ 200 =
    leb-true (count_by plan.is_open n.script.items) 200 (both (nat_le (count_by plan.is_open n.script.items) 200) (nat_le (changes_in n.script.items) 100000) h) in
    subst (λ m. m ≤ 200) (sym (steps_counted n.script.items)) few
