-- How a node stands, since when, and when something of it was used: questions to the list of events, newest first (own rules).
use Rattle.std.specs.Prelude.{ℕ, Bool, true, false, List, [], ◌∷◌, Option, Some, None, is_some, if◌then◌else◌}
use Rattle.std.specs.Option.{unwrap_or}
use Rattle.spk_story.specs.declared.stand.Stand.{Stand}
use Rattle.spk_story.specs.declared.stand.Stand.TheVariants.{Unborn, Current, Lost, Dead, OutOfReach}
use Rattle.spk_story.specs.Events.{Event, Born, Gap, Died, Ended, is_birth, is_use, moment, newest}

abbrev pub is_same : Stand → Stand → Bool
is_same Unborn Unborn = true
is_same Current Current = true
is_same Lost Lost = true
is_same Dead Dead = true
is_same OutOfReach OutOfReach = true
is_same _ _ = false

-- when a birth was consumed last, and when anything was
abbrev pub moment_of_birth : Event → Option ℕ
moment_of_birth e = if is_birth e then Some (moment e) else None

abbrev pub born_at : List Event → Option ℕ
born_at es = newest moment_of_birth es

abbrev pub moment_of_use : Event → Option ℕ
moment_of_use e = if is_use e then Some (moment e) else None

abbrev pub used_at : List Event → Option ℕ
used_at es = newest moment_of_use es

-- how a node stands that was born, where the event says it
abbrev pub stand_by : Event → Option Stand
stand_by (Born now) = Some Current
stand_by (Gap now) = Some Lost
stand_by (Died now) = Some Dead
stand_by (Ended now) = Some OutOfReach
stand_by _ = None

-- until its first birth it is unborn; then it stands as the newest event says that says it
abbrev pub stand : List Event → Stand
stand es = if is_some (born_at es) then unwrap_or (newest stand_by es) Unborn else Unborn

-- since when it stands so: the newest event before which it stood otherwise; without one, since it was first heard
abbrev pub since : ℕ → List Event → ℕ
since first [] = first
since first (e ∷ es) = if is_same (stand es) (stand (e ∷ es)) then since first es else moment e
