-- What is kept and consumed at a call, from the order's own step (`spk_sequence`). No rule of the order stands here.
use Rattle.std.specs.Prelude.{◌≡◌, ℕ, ◌+◌, ◌-◌, ◌%◌, List, [], ◌∷◌, map, set, replicate, Option, Some, None, is_some, true, if◌then◌else◌, ◌<◌, ◌≤◌}
use Rattle.std.specs.List.{range_with_len}
use Rattle.spk_sequence.specs.declared.message.Kind.{Kind}
use Rattle.spk_sequence.specs.declared.answer.Step.{Step}
use Rattle.spk_sequence.specs.declared.answer.Step.TheVariants as step
use Rattle.spk_sequence.specs.Data.{Standing}
use Rattle.spk_sequence.specs.Numbers.{held_as}
use Rattle.spk_sequence.specs.Step.{ahead, hand, fresh_standing}
use Rattle.spk_order.specs.Ordered.{Ordered, kept_at}

-- the payload under a number, if the order holds a message of that number
abbrev pub left_at : {T : Type 0} → Standing → List (Option T) → ℕ → Option T
left_at s kept x = if is_some (held_as s x) then kept_at kept x else None

-- what stays of the payloads once the order stands so
unfoldable pub left_by : {T : Type 0} → Standing → List (Option T) → List (Option T)
left_by s kept = map (left_at s kept) (range_with_len 0 256)

-- the payload handed is kept under its number where the order holds the message
abbrev pub placed : {T : Type 0} → List (Option T) → ℕ → T → Step → List (Option T)
placed kept number payload step.Held = set kept number (Some payload)
placed kept number payload _ = kept

-- the payload handed, and those kept under the numbers that follow its own, as many as are consumed
abbrev pub consumed_with : {T : Type 0} → List (Option T) → ℕ → T → Step → List (Option T)
consumed_with kept number payload (step.Consumed n) =
    Some payload ∷ map (λ i. kept_at kept ((number + i) % 256)) (range_with_len 1 (n - 1))
consumed_with kept number payload _ = []

-- the data once the order stands so
abbrev pub stands_so : {T : Type 0} → Standing → List (Option T) → Ordered T
stands_so s kept = record { standing = s; kept = left_by s kept }

-- a message is handed: its number, kind and payload, and the moment
abbrev pub handed : {T : Type 0} → Ordered T → ℕ → Kind → T → ℕ → Ordered T
handed o number kind payload now =
    let done = hand o.standing number kind now in
    stands_so done.1 (placed o.kept number payload done.0)

-- what a host session begins with
abbrev pub fresh_order : {T : Type 0} → ℕ → ℕ → Ordered T
fresh_order wait width = record { standing = fresh_standing wait width; kept = replicate 256 None }

-- the numbers that a step consumes after the one handed have their payloads
abbrev pub HasRun : {T : Type 0} → List (Option T) → ℕ → Step → Type 0
HasRun kept number answer =
    (n i : ℕ) → answer ≡ step.Consumed n → 0 < i → i < n → is_some (kept_at kept ((number + i) % 256)) ≡ true

-- a number that a step does not consume after the one handed
abbrev pub IsBeyond : ℕ → ℕ → Step → Type 0
IsBeyond x number answer = (n : ℕ) → answer ≡ step.Consumed n → 0 < ahead x number → n ≤ ahead x number

-- a step that holds nothing, and consumes no message behind the one handed
abbrev pub IsAlone : Step → Type 0
IsAlone (step.Consumed n) = n ≤ 1
IsAlone step.Held = ⊥
IsAlone _ = Unit {0}
