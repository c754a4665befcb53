-- Where a list of events stops.
use Rattle.std.specs.Prelude.{◌≡◌, List, slice_get, take, Some}
use Rattle.spk_world_rules.specs.Files.{Event}
use Rattle.spk_world_run.specs.Data.{WorldData}
use Rattle.spk_world.specs.declared.answer.Stopped.{Stopped}
use Rattle.spk_world.specs.Outcome.{IsRefused}
use Rattle.spk_world.specs.Steps.{AreSteps, deed_at}

-- The events before it were done, one after another, and it is refused after them.
pub record IsStopped (d : WorldData) (events : List Event) (after : WorldData) (s : Stopped) : Type 0 where
  pub event : Event
  pub there : slice_get events s.index ≡ Some event
  pub before : AreSteps d (take s.index events) after
  pub refused : IsRefused after (deed_at after event) s.fault
