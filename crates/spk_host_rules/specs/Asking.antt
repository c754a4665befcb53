-- When a rebirth is asked for, by the list of all that was heard, newest first.
use Rattle.std.specs.Prelude.{◌≡◌, ℕ, ◌-◌, ◌≤◌, ◌⊎◌, true, false, List, [], ◌∷◌, ◌++◌}
use Rattle.std.specs.List.{list_any}
use Rattle.spk_host_rules.specs.Data.{Event}
use Rattle.spk_host_rules.specs.Step.{after, asked_at, is_cause, is_birth, moment_of}

-- at none of these, each after the ones before it, a rebirth was asked for
abbrev pub NoneAsked : ℕ → List Event → List Event → Type 0
NoneAsked wait [] older = Unit {0}
NoneAsked wait (e ∷ newer) older = (asked_at wait (newer ++ older) e ≡ false) × NoneAsked wait newer older

-- If e was the last event at which a rebirth was asked for, then a birth was taken since, or `wait` or more has passed.
abbrev pub IsDue : ℕ → ℕ → List Event → Type 0
IsDue wait now before = (newer older : List Event) (e : Event) → before ≡ newer ++ (e ∷ older) →
    asked_at wait older e ≡ true → NoneAsked wait newer (e ∷ older) →
    (list_any is_birth newer ≡ true) ⊎ (wait ≤ now - moment_of e)

-- a cause that is due, and nothing else
abbrev pub IsAsked : ℕ → List Event → Event → Type 0
IsAsked wait before e = (is_cause (after wait before).view e ≡ true) × IsDue wait (moment_of e) before
