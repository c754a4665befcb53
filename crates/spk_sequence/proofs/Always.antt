-- The data is tied to the record after every list of inputs.
use Rattle.std.proofs.Common.{◌≡◌, ℕ, suc, ◌+◌, ◌<◌, ◌≤◌, ◌||◌, Bool, true, false, cond, not, List, [], ◌∷◌, refl, ◌∙◌, ap, arith, Option, Some, None, inl, inr, sym}
use Rattle.std.specs.List.{range_with_len, list_any}
use Rattle.std.proofs.lemmas.List.{length-replicate}
use Rattle.std.proofs.lemmas.Bool.{true≢false, cases_Bool, or_left}
use Rattle.spk_sequence.specs.declared.answer.Step.TheVariants as step
use Rattle.spk_sequence.specs.Data.{Standing, IsWhole}
use Rattle.spk_sequence.specs.Step.{fresh_standing}
use Rattle.spk_sequence.specs.Calls.{Stepped}
use Rattle.spk_sequence.specs.NodeRecord.{Setting, RunsOn, IsNodeRecord, opens}
use Rattle.spk_sequence.specs.HostRecord.{Input, MessageComes, DeathComes, TickComes, HostRecord, record_of, standing_of}
use Rattle.spk_sequence.specs.Following.{taken, takes, following}
use Rattle.spk_sequence.specs.Window.{MayCome, AllMayCome}
use Rattle.spk_sequence.specs.Positions.{right_at, right_consumed, run_after, is_taken_before, is_of_dead}
use Rattle.spk_sequence.proofs.Places.{held_at-empty}
use Rattle.spk_sequence.proofs.Tied.{Tied, InStep, in_step_runs_on}
use Rattle.spk_sequence.proofs.Outcomes.{Outcome}
use Rattle.spk_sequence.proofs.Messages.{message_outcome}
use Rattle.spk_sequence.proofs.Births.{birth_outcome}
use Rattle.spk_sequence.proofs.Ends.{death_outcome, tick_outcome}

-- a message of the birth that is followed, or of a later one, is in step with it
abbrev pub StepsOf : Setting → HostRecord → Input → Type 0
StepsOf s h (MessageComes p now) = (b : ℕ) → opens s.published p ≡ false → taken s h ≡ Some b → (following s h).on ≡ true → b ≤ p → InStep s p b
StepsOf s h _ = Unit {0}

abbrev pub AllStep : Setting → List Input → Type 0
AllStep s [] = Unit {0}
AllStep s (input ∷ inputs) = StepsOf s (record_of s inputs) input × AllStep s inputs

pub all_step_runs_on : (s : Setting) → s.numbering ≡ RunsOn → (inputs : List Input) → AllStep s inputs
all_step_runs_on s e [] = tt
all_step_runs_on s e (MessageComes p now ∷ inputs) = ((λ b closed tk on after. in_step_runs_on s e p b), all_step_runs_on s e inputs)
all_step_runs_on s e (DeathComes j now ∷ inputs) = (tt, all_step_runs_on s e inputs)
all_step_runs_on s e (TickComes now ∷ inputs) = (tt, all_step_runs_on s e inputs)

pub outcome : (s : Setting) (h : HostRecord) (d : Standing) (input : Input) → IsNodeRecord s.published → Tied s h d → MayCome s h input → StepsOf s h input → Outcome s h d input
outcome s h d (MessageComes p now) node t may steps = elim (cases_Bool (opens s.published p)) [
  | inl opening ↦ birth_outcome s h d p now node t may opening
  | inr closed ↦ message_outcome s h d p now node t may closed (λ b tk on after. steps b closed tk on after)
]
outcome s h d (DeathComes j now) node t may steps = death_outcome s h d j now t may
outcome s h d (TickComes now) node t may steps = tick_outcome s h d now t

pub whole_fresh : (wait width : ℕ) → 0 < width → width ≤ 96 → IsWhole (fresh_standing wait width)
whole_fresh wait width low high = record { some_places = low; few_places = high; one_byte = omega arith; all_places = length-replicate {A = Option (Option ℕ)} width None; next_not_held = held_at-empty width 0 }

tied_fresh : (s : Setting) → 0 < s.width → s.width ≤ 96 → Tied s [] (fresh_standing s.wait s.width)
tied_fresh s low high = record {
  whole = whole_fresh s.wait s.width low high;
  wait = refl;
  width = refl;
  live = refl;
  known = refl;
  dead = λ gone. absurd (true≢false (sym gone));
  fits = omega arith;
  birth = λ b e. absurd (cc);
  followed = λ b e on. absurd (cc);
  off_held = λ off. held_at-empty s.width;
  off_handed = λ off. refl;
}

pub tied_always : (s : Setting) → IsNodeRecord s.published → 0 < s.width → s.width ≤ 96 → (inputs : List Input) → AllMayCome s inputs → AllStep s inputs → Tied s (record_of s inputs) (standing_of s inputs)
tied_always s node low high [] may steps = tied_fresh s low high
tied_always s node low high (input ∷ inputs) may steps =
    (outcome s (record_of s inputs) (standing_of s inputs) input node (tied_always s node low high inputs may.1 steps.1) may.0 steps.0).tied

pub right_takes : (s : Setting) (h : HostRecord) (p now : ℕ) → opens s.published p ≡ true → takes s (right_at s h (MessageComes p now)) ≡ not (is_taken_before (taken s h) p || is_of_dead s h p)
right_takes s h p now opening =
    let more : 1 + run_after s h p ≡ suc (run_after s h p) = omega arith in
    let ran : list_any (opens s.published) (range_with_len p (1 + run_after s h p)) ≡ true =
    ap (λ k. list_any (opens s.published) (range_with_len p k)) more ∙ or_left (opens s.published p) (list_any (opens s.published) (range_with_len (p + 1) (run_after s h p))) opening in
    rw opening (go (is_taken_before (taken s h) p) (is_of_dead s h p) (run_after s h p) ran)
  where
    go : (a b : Bool) (k : ℕ) → list_any (opens s.published) (range_with_len p (1 + k)) ≡ true → takes s (record { input = MessageComes p now; reply = Stepped (cond a step.OldBirth (cond b step.DeadSession (step.Consumed (1 + k)))); consumed = right_consumed (MessageComes p now) (Stepped (cond a step.OldBirth (cond b step.DeadSession (step.Consumed (1 + k))))) }) ≡ not (a || b)
    go true b k e = refl
    go false true k e = refl
    go false false k e = e
