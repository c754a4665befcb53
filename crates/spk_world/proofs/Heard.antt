-- What a message consumes, at most; and what a death passes.
use Rattle.std.proofs.Common.{◌≡◌, ◌∙◌, sym, ap, refl, ℕ, suc, ◌+◌, ◌-◌, ◌%◌, ◌≤◌, ◌<◌, List, [], ◌∷◌, length, map, Option, Some, None, false, true, cond, arith}
use Rattle.std.proofs.lemmas.Bool.{lt-ltb}
use Rattle.std.proofs.lemmas.Option.{slice_get_within}
use Rattle.std.specs.Prelude.{slice_get, nat_lt, not, if◌then◌else◌}
use Rattle.std.specs.List.{filter_map, range_with_len}
use Rattle.spk_sequence.specs.declared.answer.Step.{Step}
use Rattle.spk_sequence.specs.declared.answer.Step.TheVariants as step
use Rattle.spk_order.specs.Ordered.{kept_at}
use Rattle.spk_order.specs.Step.{consumed_with}
use Rattle.spk_reading.specs.Data as said
use Rattle.spk_reading.specs.Data.{HeardData, NumberedData}
use Rattle.spk_host.specs.Data.{HostData, OutData}
use Rattle.spk_host.specs.View.{out_view}
use Rattle.spk_host.specs.declared.out.Out.{Out}
use Rattle.spk_reading.specs.View.{numbered_view}
use Rattle.spk_world_rules.specs.Refusals.{NotPublished, TooFar}
use Rattle.std.proofs.lemmas.List.FromFn.{length-range_with_len}
use Rattle.spk_host.specs.Step.{packet_out}
use Rattle.spk_world_run.specs.Data.{NodePart, Track}
use Rattle.spk_world_run.specs.Step.{step_in}
use Rattle.spk_world_run.specs.Tests.{death_test, is_far_at}
use Rattle.spk_world.specs.Handed.{most_of}
use Rattle.std.proofs.lemmas.List.{length-map}

length-filter_map : {X : Type 0} (xs : List (Option X)) → length (filter_map (λ p. p) xs) ≤ length xs
length-filter_map [] = omega arith
length-filter_map (None ∷ xs) = let h = length-filter_map xs in omega (arith, h)
length-filter_map (Some x ∷ xs) = let h = length-filter_map xs in omega (arith, h)

few-with : (kept : List (Option NumberedData)) (number : ℕ) (m : NumberedData) (s : Step) → length (filter_map (λ p. p) (consumed_with kept number m s)) ≤ most_of s
few-with kept number m (step.Consumed n) =
    let h = length-filter_map (map (λ i. kept_at kept ((number + i) % 256)) (range_with_len 1 (n - 1))) in
    let k = length-map (range_with_len 1 (n - 1)) (λ i. kept_at kept ((number + i) % 256)) in
    let l = length-range_with_len 1 (n - 1) in
    omega (arith, h, k, l)
few-with kept number m step.Held = omega arith
few-with kept number m step.Old = omega arith
few-with kept number m step.Gap = omega arith
few-with kept number m step.OldBirth = omega arith
few-with kept number m step.DeadSession = omega arith
few-with kept number m step.NotLive = omega arith

pub few : (h : HostData) (heard : HeardData) (now : ℕ) → length (packet_out h heard now).consumed ≤ most_of (step_in (packet_out h heard now).steps)
few h (said.Published ack (said.Message m)) now = few-with _ m.number m _
few h (said.Published ack (said.Death group name bd)) now = omega arith
few h (said.Published ack said.Nothing) now = omega arith
few h (said.Answered code) now = omega arith
few h said.Granted now = omega arith
few h said.Other now = omega arith

pub death-passes : (n : NodePart) (t : Track) (s time : ℕ) → slice_get n.opened s ≡ Some time → is_far_at t.session s ≡ false → death_test n t s ≡ None
death-passes n t s time there near =
    let low : nat_lt s (length n.opened) ≡ true = lt-ltb s (length n.opened) (slice_get_within n.opened s time there) in
    ap (λ b. if not b then Some NotPublished else if is_far_at t.session s then Some TooFar else None) low
    ∙ ap (λ b. if b then Some TooFar else None) near

-- what a host hands out is few, by what its step says
pub few-out : (o : Out) (h : HostData) (heard : HeardData) (now : ℕ) (s : Step) → out_view o ≡ packet_out h heard now → s ≡ step_in o.steps.items → most_of s ≤ 256
    → length o.consumed.items ≤ 256
few-out o h heard now s is only low =
    let size = length-map o.consumed.items numbered_view in
    let same : length (map numbered_view o.consumed.items) ≡ length (packet_out h heard now).consumed = ap (λ (x : OutData). length x.consumed) is in
    let steps : most_of s ≡ most_of (step_in (packet_out h heard now).steps) = ap most_of (only ∙ ap (λ (x : OutData). step_in x.steps) is) in
    let most = few h heard now in
    omega (arith, size, same, steps, most, low)
