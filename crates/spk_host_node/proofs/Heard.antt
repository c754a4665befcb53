-- What the view hears by a step: how much it is, and that it is what the order consumes.
use Rattle.std.proofs.Common.{◌≡◌, ◌∙◌, sym, ap, refl, subst, arith, ℕ, suc, ◌+◌, ◌-◌, ◌%◌, ◌≤◌, Bool, true, false, List, [], ◌∷◌, map, length, Option, Some, None}
use Rattle.std.specs.Prelude.{if◌then◌else◌}
use Rattle.std.specs.List.{filter_map, range_with_len}
use Rattle.std.proofs.lemmas.List.{length-map}
use Rattle.std.proofs.lemmas.List.FromFn.{length-map-range_with_len}
use Rattle.spk_sequence.specs.declared.answer.Step.{Step}
use Rattle.spk_sequence.specs.declared.answer.Step.TheVariants as step
use Rattle.spk_order.specs.Ordered.{Ordered, kept_at}
use Rattle.spk_order.specs.Step.{IsAlone, consumed_with}
use Rattle.spk_reading.specs.Data.{NumberedData}
use Rattle.spk_host_rules.specs.Data.{Event, Watch}
use Rattle.spk_host_rules.specs.Step as rules
use Rattle.spk_host_node.specs.Data.{NodeData}
use Rattle.spk_host_node.specs.Room.{IsDropped, IsNothing, most_heard}
use Rattle.spk_host_node.specs.Step.{heard_by, heard_of, requests, requests_of, step_of, taken_of, watched}

-- those that are there, of some that all are
pub all_there : {X : Type 0} (xs : List X) (ys : List (Option X)) → map Some xs ≡ ys → xs ≡ filter_map (λ p. p) ys
all_there xs ys e = sym (by xs) ∙ ap (filter_map (λ p. p)) e
  where
    by : {X : Type 0} (xs : List X) → filter_map (λ p. p) (map Some xs) ≡ xs
    by [] = refl
    by (x ∷ xs) = ap (λ l. x ∷ l) (by xs)

pub few_requests : (wait : ℕ) (w : Watch) (es : List Event) → requests wait w es ≤ length es
few_requests wait w [] = omega arith
few_requests wait w (e ∷ es) = by (rules.asks wait w e) (few_requests wait (rules.step wait w e) es)
  where
    by : (b : Bool) → requests wait (rules.step wait w e) es ≤ length es → (if b then 1 else 0) + requests wait (rules.step wait w e) es ≤ suc (length es)
    by true h = omega (arith, h)
    by false h = omega (arith, h)

few_there : {X : Type 0} (ys : List (Option X)) → length (filter_map (λ p. p) ys) ≤ length ys
few_there [] = omega arith
few_there (None ∷ ys) = let h : length (filter_map (λ p. p) ys) ≤ length ys = few_there ys in omega (arith, h)
few_there (Some y ∷ ys) = let h : length (filter_map (λ p. p) ys) ≤ length ys = few_there ys in omega (arith, h)

-- no more are consumed than the step says, or one
pub few_taken : {X : Type 0} (kept : List (Option X)) (number n : ℕ) (payload : X) →
    length (filter_map (λ p. p) (consumed_with kept number payload (step.Consumed n))) ≤ 1 + (n - 1)
few_taken kept number n payload =
    let all : length (filter_map (λ p. p) (consumed_with kept number payload (step.Consumed n))) ≤ length (consumed_with kept number payload (step.Consumed n)) =
    few_there (consumed_with kept number payload (step.Consumed n)) in
    let long : length (map (λ i. kept_at kept ((number + i) % 256)) (range_with_len 1 (n - 1))) ≡ n - 1 = length-map-range_with_len (λ i. kept_at kept ((number + i) % 256)) 1 (n - 1) in
    omega (arith, long, all)

-- no more is heard than the step says
pub few_heard : (answer : Step) (kept : List (Option NumberedData)) (number : ℕ) (payload : NumberedData) (now : ℕ) →
    length (heard_by answer (filter_map (λ p. p) (consumed_with kept number payload answer)) now) ≤ most_heard answer
few_heard (step.Consumed n) kept number payload now =
    rw (length-map) (few_taken kept number n payload)
few_heard step.Gap kept number payload now = omega arith
few_heard step.NotLive kept number payload now = omega arith
few_heard step.Held kept number payload now = omega arith
few_heard step.Old kept number payload now = omega arith
few_heard step.OldBirth kept number payload now = omega arith
few_heard step.DeadSession kept number payload now = omega arith

pub few_asked : (n : NodeData) (m : NumberedData) (now most : ℕ) → most ≡ most_heard (step_of n.order m now) → requests_of n m now ≤ most
few_asked n m now most is =
    let asked : requests_of n m now ≤ length (heard_of n.order m now) = few_requests n.order.standing.wait n.watch (heard_of n.order m now) in
    let heard : length (heard_of n.order m now) ≤ most_heard (step_of n.order m now) = few_heard (step_of n.order m now) n.order.kept m.number m now in
    omega (arith, is, asked, heard)

-- where the step consumes nothing, nothing comes out
pub none_taken : {X : Type 0} (answer : Step) (kept : List (Option X)) (number : ℕ) (payload : X) (taken : List X) →
    map Some taken ≡ consumed_with kept number payload answer → IsNothing answer taken
none_taken (step.Consumed n) kept number payload taken are = tt
none_taken step.Gap kept number payload taken are = all_there taken [] are
none_taken step.NotLive kept number payload taken are = all_there taken [] are
none_taken step.Held kept number payload taken are = all_there taken [] are
none_taken step.Old kept number payload taken are = all_there taken [] are
none_taken step.OldBirth kept number payload taken are = all_there taken [] are
none_taken step.DeadSession kept number payload taken are = all_there taken [] are

-- and no more than there is room for
pub fits : {X : Type 0} (answer : Step) (kept : List (Option X)) (number : ℕ) (payload : X) (taken : List X) →
    map Some taken ≡ consumed_with kept number payload answer → length taken ≤ most_heard answer
fits answer kept number payload taken are = rw (all_there taken (consumed_with kept number payload answer) are) (by answer)
  where
    by : (a : Step) → length (filter_map (λ p. p) (consumed_with kept number payload a)) ≤ most_heard a
    by (step.Consumed n) = few_taken kept number n payload
    by step.Gap = omega arith
    by step.NotLive = omega arith
    by step.Held = omega arith
    by step.Old = omega arith
    by step.OldBirth = omega arith
    by step.DeadSession = omega arith

-- ---- what a node's order hands out, for the message that was handed in

pub taken_are : (o : Ordered NumberedData) (m p : NumberedData) (now : ℕ) (answer : Step) (taken : List NumberedData) → p ≡ m →
    answer ≡ step_of o m now → map Some taken ≡ consumed_with o.kept m.number p answer → taken ≡ taken_of o m now
taken_are o m p now answer taken same is are =
    all_there taken (consumed_with o.kept m.number p answer) are
    ∙ ap (λ q. filter_map (λ x. x) (consumed_with o.kept m.number q answer)) same
    ∙ ap (λ a. filter_map (λ x. x) (consumed_with o.kept m.number m a)) is

pub heard_is : (o : Ordered NumberedData) (m p : NumberedData) (now : ℕ) (answer : Step) (taken : List NumberedData) → p ≡ m →
    answer ≡ step_of o m now → map Some taken ≡ consumed_with o.kept m.number p answer → heard_by answer taken now ≡ heard_of o m now
heard_is o m p now answer taken same is are =
    ap (λ a. heard_by a taken now) is ∙ ap (λ t. heard_by (step_of o m now) t now) (taken_are o m p now answer taken same is are)

pub asked_are : (wait other : ℕ) (w v : Watch) (es fs : List Event) → wait ≡ other → w ≡ v → es ≡ fs → requests wait w es ≡ requests other v fs
asked_are wait other w v es fs e h k = ap (λ x. requests x w es) e ∙ ap (λ x. requests other x es) h ∙ ap (requests other v) k

pub watched_are : (wait other : ℕ) (w v : Watch) (es fs : List Event) → wait ≡ other → w ≡ v → es ≡ fs → watched wait w es ≡ watched other v fs
watched_are wait other w v es fs e h k = ap (λ x. watched x w es) e ∙ ap (λ x. watched other x es) h ∙ ap (watched other v) k

-- ---- a message that is dropped

pub dropped_alone : (answer : Step) → IsDropped answer → IsAlone answer
dropped_alone (step.Consumed n) h = absurd h
dropped_alone step.Held h = absurd h
dropped_alone step.Gap h = tt
dropped_alone step.NotLive h = tt
dropped_alone step.Old h = tt
dropped_alone step.OldBirth h = tt
dropped_alone step.DeadSession h = tt

pub dropped_nothing : {X : Type 0} (answer : Step) (taken : List X) → IsDropped answer → taken ≡ [] → IsNothing answer taken
dropped_nothing (step.Consumed n) taken h e = tt
dropped_nothing step.Held taken h e = e
dropped_nothing step.Gap taken h e = e
dropped_nothing step.NotLive taken h e = e
dropped_nothing step.Old taken h e = e
dropped_nothing step.OldBirth taken h e = e
dropped_nothing step.DeadSession taken h e = e

taken_none : (kept : List (Option NumberedData)) (number : ℕ) (payload : NumberedData) (answer : Step) → IsDropped answer →
    [] ≡ filter_map (λ p. p) (consumed_with kept number payload answer)
taken_none kept number payload (step.Consumed n) h = absurd h
taken_none kept number payload step.Held h = absurd h
taken_none kept number payload step.Gap h = refl
taken_none kept number payload step.NotLive h = refl
taken_none kept number payload step.Old h = refl
taken_none kept number payload step.OldBirth h = refl
taken_none kept number payload step.DeadSession h = refl

pub dropped_taken : (o : Ordered NumberedData) (m : NumberedData) (now : ℕ) (answer : Step) → answer ≡ step_of o m now → IsDropped answer →
    [] ≡ taken_of o m now
dropped_taken o m now answer is h = taken_none o.kept m.number m (step_of o m now) (subst IsDropped is h)

pub dropped_heard : (o : Ordered NumberedData) (m : NumberedData) (now : ℕ) (answer : Step) (taken : List NumberedData) → answer ≡ step_of o m now →
    IsDropped answer → taken ≡ [] → heard_by answer taken now ≡ heard_of o m now
dropped_heard o m now answer taken is h e =
    ap (λ a. heard_by a taken now) is ∙ ap (λ t. heard_by (step_of o m now) t now) (e ∙ dropped_taken o m now answer is h)
