-- Lists of calls that change a registry, newest first, and what they leave and answer step by step.
use Rattle.std.specs.Prelude.{ℕ, ◌+◌, Bool, List, [], ◌∷◌, length, Option, Some, None, Result, Ok, Err}
use Rattle.spk_payload.specs.Typing.{Typed}
use Rattle.spk_device.specs.declared.outcome.Outcome.{Outcome}
use Rattle.spk_device.specs.declared.fault.Refusal.{Refusal}
use Rattle.spk_device.specs.declared.owner.Owner.{Owner}
use Rattle.spk_device.specs.Book.{Book, empty_book}
use Rattle.spk_device.specs.Step as step

pub data Call : Type 0 where
  -- a device's name
  AddDevice : List ℕ → Call
  -- a metric's owner, name, datatype and first value
  AddMetric : Owner → List ℕ → ℕ → Option Typed → Call
  -- an alias and a value
  Set : ℕ → Option Typed → Call
  -- a device's name, and whether it is up from now on
  Turn : List ℕ → Bool → Call

pub data Reply : Type 0 where
  Done : Reply
  Alias : ℕ → Reply
  Told : Outcome → Reply

abbrev pub refusal : Book → Call → Option Refusal
refusal b (AddDevice name) = step.add_device_refusal b name
refusal b (AddMetric owner name datatype value) = step.add_metric_refusal b owner name datatype value
refusal b (Set alias value) = step.set_refusal b alias value
refusal b (Turn name up) = step.turn_refusal b name

-- what is answered, and the data after it, where nothing is refused
abbrev pub reply : Book → Call → Reply
reply b (AddDevice name) = Done
reply b (AddMetric owner name datatype value) = Alias (length b.gauges + 1)
reply b (Set alias value) = Told (step.set_change b alias value)
reply b (Turn name up) = Told (step.turn_change b name up)

abbrev pub changed : Book → Call → Book
changed b (AddDevice name) = step.with_device b name
changed b (AddMetric owner name datatype value) = step.with_metric b owner name datatype value
changed b (Set alias value) = step.with_value b alias value
changed b (Turn name up) = step.with_turn b name up

abbrev pub unless_refused : {X : Type 0} → Option Refusal → X → X → X
unless_refused None done refused = done
unless_refused (Some r) done refused = refused

abbrev pub answer_to : Option Refusal → Reply → Result Reply Refusal
answer_to None x = Ok x
answer_to (Some r) x = Err r

abbrev pub answer_of : Book → Call → Result Reply Refusal
answer_of b call = answer_to (refusal b call) (reply b call)

abbrev pub after : Book → Call → Book
after b call = unless_refused (refusal b call) (changed b call) b

-- the data after all calls, from a first book on, and from an empty one
abbrev pub standing_from : Book → List Call → Book
standing_from first [] = first
standing_from first (call ∷ calls) = after (standing_from first calls) call

abbrev pub standing : List Call → Book
standing calls = standing_from empty_book calls
