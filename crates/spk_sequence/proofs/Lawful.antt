-- What holds of every lawful list of inputs.
use Rattle.std.proofs.Common.{◌≡◌, ℕ, List, ◌∷◌, refl, ◌∙◌, ap, Some}
use Rattle.spk_sequence.specs.NodeRecord.{Setting, Numbering, RunsOn, Restarts}
use Rattle.spk_sequence.specs.HostRecord.{Input, MessageComes, record_of, standing_of, done_at}
use Rattle.spk_sequence.specs.Following.{taken, takes}
use Rattle.spk_sequence.specs.Window.{NumbersFit, IsNearBirth, AllNearDeaths}
use Rattle.spk_sequence.specs.Claims.{IsLawful, SameStep, IsLiveByPositions, TakesBirth, HasCause}
use Rattle.spk_sequence.proofs.Tied.{Tied}
use Rattle.spk_sequence.proofs.Outcomes.{Ate}
use Rattle.spk_sequence.proofs.Messages.{birth_of}
use Rattle.spk_sequence.proofs.Always.{StepsOf, AllStep, all_step_runs_on, outcome, tied_always, right_takes}
use Rattle.spk_sequence.proofs.Restarts.{all_step_restarts}
use Rattle.spk_sequence.proofs.Exact.{exact_always}

-- each message is in step with the birth that is followed, in either numbering
pub steps_all : (s : Setting) (inputs : List Input) → IsLawful s inputs → AllStep s inputs
steps_all s inputs l = go s.numbering refl l.numbered
  where
    go : (numbering : Numbering) → s.numbering ≡ numbering → NumbersFit numbering s inputs → AllStep s inputs
    go RunsOn e fit = all_step_runs_on s e inputs
    go Restarts e fit = all_step_restarts s e l.node l.some_places l.few_places inputs l.may_come fit

fits_before : (numbering : Numbering) (s : Setting) (inputs : List Input) (input : Input) → NumbersFit numbering s (input ∷ inputs) → NumbersFit numbering s inputs
fits_before RunsOn s inputs input fit = tt
fits_before Restarts s inputs input fit = fit.2

pub tied_of : (s : Setting) (inputs : List Input) → IsLawful s inputs → Tied s (record_of s inputs) (standing_of s inputs)
tied_of s inputs l = tied_always s l.node l.some_places l.few_places inputs l.may_come (steps_all s inputs l)

steps_of : (s : Setting) (inputs : List Input) (input : Input) → IsLawful s (input ∷ inputs) → StepsOf s (record_of s inputs) input
steps_of s inputs input l = (steps_all s (input ∷ inputs) l).0

pub before_of : (s : Setting) (inputs : List Input) (input : Input) → IsLawful s (input ∷ inputs) → IsLawful s inputs
before_of s inputs input l = record { node = l.node; some_places = l.some_places; few_places = l.few_places; numbered = fits_before s.numbering s inputs input l.numbered; may_come = l.may_come.1 }

-- what an event consumes
pub ate_of : (s : Setting) (inputs : List Input) (input : Input) → IsLawful s (input ∷ inputs) → Ate s (record_of s inputs) input (done_at s (record_of s inputs) (standing_of s inputs) input).consumed
ate_of s inputs input l =
    (outcome s (record_of s inputs) (standing_of s inputs) input l.node (tied_of s inputs (before_of s inputs input l)) l.may_come.0 (steps_of s inputs input l)).ate

pub same_step : (s : Setting) (inputs : List Input) (input : Input) → IsLawful s (input ∷ inputs) → AllNearDeaths s (input ∷ inputs) → IsNearBirth s (record_of s inputs) input → SameStep s inputs input
same_step s inputs input l deaths near =
    let old : IsLawful s inputs = before_of s inputs input l in
    (outcome s (record_of s inputs) (standing_of s inputs) input l.node (tied_of s inputs (before_of s inputs input l)) l.may_come.0 (steps_of s inputs input l)).same
    (near, deaths.0, exact_always s l.node l.some_places l.few_places inputs old.may_come (steps_all s inputs old) deaths.1)

pub live_by_positions : (s : Setting) (inputs : List Input) → IsLawful s inputs → IsLiveByPositions s inputs
live_by_positions s inputs l =
    let t : Tied s (record_of s inputs) (standing_of s inputs) = tied_of s inputs l in
    record { live = t.live; next = λ b on tk. (t.followed b tk on).next }

pub has_cause : (s : Setting) (inputs : List Input) → IsLawful s inputs → HasCause s (record_of s inputs)
has_cause s inputs l on =
    let t : Tied s (record_of s inputs) (standing_of s inputs) = tied_of s inputs l in
    let b : (c : ℕ) × (taken s (record_of s inputs) ≡ Some c) = birth_of s (record_of s inputs) (standing_of s inputs) t on in
    (t.followed b.0 b.1 on).cause

pub takes_birth : (s : Setting) (inputs : List Input) (p now : ℕ) → IsLawful s (MessageComes p now ∷ inputs) → AllNearDeaths s (MessageComes p now ∷ inputs) → IsNearBirth s (record_of s inputs) (MessageComes p now) →
    TakesBirth s (record_of s inputs) p (done_at s (record_of s inputs) (standing_of s inputs) (MessageComes p now))
takes_birth s inputs p now l deaths near opening =
    ap (takes s) (same_step s inputs (MessageComes p now) l deaths near) ∙ right_takes s (record_of s inputs) p now opening
