-- Along any list of calls: the order is that of the present session, the watch that of all that was heard.
use Rattle.std.proofs.Common.{◌≡◌, ◌∙◌, sym, ap, refl, ℕ, ◌+◌, Bool, true, false, List, [], ◌∷◌, ◌++◌, reverse, append_assoc, Option}
use Rattle.std.specs.Prelude.{◌-◌, ◌==◌, ◌&&◌, not, nat_le, nat_lt, is_some, if◌then◌else◌}
use Rattle.std.proofs.lemmas.List.{reverse-append}
use Rattle.spk_sequence.specs.declared.answer.Step.{Step}
use Rattle.spk_sequence.specs.declared.answer.Step.TheVariants as step
use Rattle.spk_sequence.specs.declared.phase.Phase.TheVariants as phase
use Rattle.spk_sequence.specs.declared.message.Kind.{Kind}
use Rattle.spk_sequence.specs.declared.message.Kind.TheVariants.{Birth, Other}
use Rattle.spk_sequence.specs.Data.{Standing, held_at}
use Rattle.spk_sequence.specs.Step as sequence
use Rattle.spk_order.specs.Ordered.{Ordered}
use Rattle.spk_order.specs.Step.{fresh_order}
use Rattle.spk_reading.specs.Data.{NumberedData}
use Rattle.spk_host_rules.specs.Data.{Event, Gap, Over}
use Rattle.spk_host_rules.specs.Step.{after, asked_at}
use Rattle.spk_host_rules.specs.Step as rules
use Rattle.spk_host_node.specs.Data.{NodeData}
use Rattle.spk_host_node.specs.Inputs.{Input, Comes, Dies, Ticks, Ends, asked_in, events_of, gap_asked, heard_at, node_after, node_with, order_after, order_with, since_end}
use Rattle.spk_host_node.specs.Step.{heard_of, requests, requests_of, tick_asks, watched}

-- ---- what the host waits and how many numbers it takes stay

record Stays (s t : Standing) : Type 0 where
  wait : t.wait ≡ s.wait
  width : t.width ≡ s.width

itself : (s : Standing) → Stays s s
itself s = record { wait = refl; width = refl }

one : (s : Standing) (b : Bool) (x y : Standing) → Stays s x → Stays s y → Stays s (if b then x else y)
one s true x y h k = h
one s false x y h k = k

abbrev after_it : Step × Standing → Standing
after_it p = p.1

birth_stays : (s : Standing) (known dead : Bool) (taken : Step) (t : Standing) → Stays s t →
    Stays s (after_it (if known then (step.OldBirth, s) else if dead then (step.DeadSession, s) else (taken, t)))
birth_stays s true dead taken t h = itself s
birth_stays s false true taken t h = itself s
birth_stays s false false taken t h = h

ahead_stays : (s : Standing) (near full far : Bool) (held lost : Standing) → Stays s held → Stays s lost →
    Stays s (after_it (if near then (if full then (step.Old, s) else (step.Held, held)) else if far then (step.Gap, lost) else (step.Old, s)))
ahead_stays s true true far held lost h k = itself s
ahead_stays s true false far held lost h k = h
ahead_stays s false full true held lost h k = k
ahead_stays s false full false held lost h k = itself s

other_stays : (s : Standing) (off below at : Bool) (taken : Step) (t : Standing) (p : Step × Standing) → Stays s t → Stays s p.1 →
    Stays s (after_it (if off then (step.NotLive, s) else if below then (step.Old, s) else if at then (taken, t) else p))
other_stays s true below at taken t p h k = itself s
other_stays s false true at taken t p h k = itself s
other_stays s false false true taken t p h k = h
other_stays s false false false taken t p h k = k

hand_stays : (s : Standing) (number : ℕ) (kind : Kind) (now : ℕ) → Stays s (sequence.hand s number kind now).1
hand_stays s number (Birth stamp bd) now =
    birth_stays s (sequence.is_known s.phase && nat_le stamp s.stamp) (sequence.is_dead s.phase && (bd == s.bd))
    (step.Consumed (1 + sequence.run_of (sequence.kept_places s number stamp))) (sequence.after_birth s number stamp bd now)
    (record { wait = refl; width = refl })
hand_stays s number (Other stamp) now =
    let place : ℕ = sequence.ahead number s.next in
    let rest : List (Option (Option ℕ)) = sequence.places_after s in
    other_stays s (not (sequence.is_live s.phase)) (sequence.is_below stamp s.stamp) (place == 0) (step.Consumed (1 + sequence.run_of rest))
    (sequence.after_consumed s number rest now) (sequence.hand_ahead s place stamp now) (record { wait = refl; width = refl })
    (ahead_stays s (nat_lt place s.width) (is_some (held_at s.held place)) (nat_lt place (256 - s.width)) (sequence.after_held s place stamp now)
    (sequence.after_stop s phase.Gap) (record { wait = refl; width = refl }) (record { wait = refl; width = refl }))

order_stays : (o : Ordered NumberedData) (i : Input) → Stays o.standing (order_with o i).standing
order_stays o (Comes m now) = let h = hand_stays o.standing m.number m.kind now in record { wait = h.wait; width = h.width }
order_stays o (Dies bd) = one o.standing _ _ _ (record { wait = refl; width = refl }) (itself o.standing)
order_stays o (Ticks now) = one o.standing _ _ _ (record { wait = refl; width = refl }) (itself o.standing)
order_stays o Ends = record { wait = refl; width = refl }

-- ---- the order

with_order : (n : NodeData) (i : Input) → (node_with n i).order ≡ order_with n.order i
with_order n (Comes m now) = refl
with_order n (Dies bd) = refl
with_order n (Ticks now) = refl
with_order n Ends = refl

pub record SetSo (wait width : ℕ) (s : Standing) : Type 0 where
  pub wait_is : s.wait ≡ wait
  pub width_is : s.width ≡ width

pub node_set : (wait width : ℕ) (inputs : List Input) → SetSo wait width (node_after wait width inputs).order.standing
node_set wait width [] = record { wait_is = refl; width_is = refl }
node_set wait width (i ∷ before) =
    let n = node_after wait width before in
    let h = node_set wait width before in
    let k = order_stays n.order i in
    record {
      wait_is = ap (λ (o : Ordered NumberedData). o.standing.wait) (with_order n i) ∙ k.wait ∙ h.wait_is;
      width_is = ap (λ (o : Ordered NumberedData). o.standing.width) (with_order n i) ∙ k.width ∙ h.width_is;
    }

pub order_is : (wait width : ℕ) (inputs : List Input) → (node_after wait width inputs).order ≡ order_after wait width (since_end inputs)
order_is wait width [] = refl
order_is wait width (Comes m now ∷ before) = ap (λ o. order_with o (Comes m now)) (order_is wait width before)
order_is wait width (Dies bd ∷ before) = ap (λ o. order_with o (Dies bd)) (order_is wait width before)
order_is wait width (Ticks now ∷ before) = ap (λ o. order_with o (Ticks now)) (order_is wait width before)
order_is wait width (Ends ∷ before) =
    let h = node_set wait width before in
    ap (λ x. fresh_order x (node_after wait width before).order.standing.width) h.wait_is ∙ ap (fresh_order wait) h.width_is

-- ---- the watch

pub watched_after : (wait : ℕ) (es before : List Event) → watched wait (after wait before) es ≡ after wait (reverse es ++ before)
watched_after wait [] before = refl
watched_after wait (e ∷ es) before =
    watched_after wait es (e ∷ before)
    ∙ ap (after wait) (sym (append_assoc (reverse es) (e ∷ []) before) ∙ ap (λ xs. xs ++ before) (sym (reverse-append (e ∷ []) es)))

one_event : (wait : ℕ) (b : Bool) (e : Event) (before : List Event) →
    (if b then rules.step wait (after wait before) e else after wait before) ≡ after wait ((if b then e ∷ [] else []) ++ before)
one_event wait true e before = refl
one_event wait false e before = refl

with_watch : (wait : ℕ) (o : Ordered NumberedData) (i : Input) (before : List Event) → o.standing.wait ≡ wait →
    (node_with (record { order = o; watch = after wait before }) i).watch ≡ after wait (heard_at o i ++ before)
with_watch wait o (Comes m now) before set = ap (λ w. watched w (after wait before) (heard_of o m now)) set ∙ watched_after wait (heard_of o m now) before
with_watch wait o (Dies bd) before set =
    ap (λ w. if sequence.is_match o.standing bd then rules.step w (after wait before) Over else after wait before) set
    ∙ one_event wait (sequence.is_match o.standing bd) Over before
with_watch wait o (Ticks now) before set =
    ap (λ w. if sequence.is_over o.standing now then rules.step w (after wait before) (Gap now) else after wait before) set
    ∙ one_event wait (sequence.is_over o.standing now) (Gap now) before
with_watch wait o Ends before set = ap (λ w. rules.step w (after wait before) Over) set

pub watch_is : (wait width : ℕ) (inputs : List Input) → (node_after wait width inputs).watch ≡ after wait (events_of wait width inputs)
watch_is wait width [] = refl
watch_is wait width (i ∷ before) =
    let n = node_after wait width before in
    let h = node_set wait width before in
    ap (λ w. (node_with (record { order = n.order; watch = w }) i).watch) (watch_is wait width before)
    ∙ with_watch wait n.order i (events_of wait width before) h.wait_is
    ∙ ap (λ o. after wait (heard_at o i ++ events_of wait width before)) (order_is wait width before)

-- ---- requests

asked_after : (wait : ℕ) (es before : List Event) → requests wait (after wait before) es ≡ asked_in wait before es
asked_after wait [] before = refl
asked_after wait (e ∷ es) before = ap (λ k. (if asked_at wait before e then 1 else 0) + k) (asked_after wait es (e ∷ before))

pub asked_is : (wait width : ℕ) (inputs : List Input) (m : NumberedData) (now : ℕ) →
    requests_of (node_after wait width inputs) m now ≡
    asked_in wait (events_of wait width inputs) (heard_of (order_after wait width (since_end inputs)) m now)
asked_is wait width inputs m now =
    let n = node_after wait width inputs in
    let h = node_set wait width inputs in
    ap (λ w. requests w n.watch (heard_of n.order m now)) h.wait_is
    ∙ ap (λ w. requests wait w (heard_of n.order m now)) (watch_is wait width inputs)
    ∙ asked_after wait (heard_of n.order m now) (events_of wait width inputs)
    ∙ ap (λ o. asked_in wait (events_of wait width inputs) (heard_of o m now)) (order_is wait width inputs)

pub gap_is : (wait width : ℕ) (inputs : List Input) (now : ℕ) → tick_asks (node_after wait width inputs) now ≡ gap_asked wait width inputs now
gap_is wait width inputs now =
    let n = node_after wait width inputs in
    let h = node_set wait width inputs in
    ap (λ k. sequence.is_over n.order.standing now && rules.asks k n.watch (Gap now)) h.wait_is
    ∙ ap (λ w. sequence.is_over n.order.standing now && rules.asks wait w (Gap now)) (watch_is wait width inputs)
    ∙ ap (λ (o : Ordered NumberedData). sequence.is_over o.standing now && asked_at wait (events_of wait width inputs) (Gap now))
    (order_is wait width inputs)
