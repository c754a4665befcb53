-- The story that a list of events tells, newest first, of a node that was first heard at a moment.
use Rattle.std.specs.Prelude.{ℕ, List, length, map, take}
use Rattle.std.specs.List.{count_by, sum_by}
use Rattle.std.specs.Option.{option_map}
use Rattle.spk_story.specs.declared.counts.Counts.{Counts}
use Rattle.spk_story.specs.Data.{Story, capped, capped_hole, most_kept}
use Rattle.spk_story.specs.Events.{Event, is_birth, is_death, is_gap, is_ignored, is_request, is_use, missing_by, unused_by}
use Rattle.spk_story.specs.Gaps as gaps
use Rattle.spk_story.specs.Standing as standing

abbrev pub counts : List Event → Counts
counts es = record {
  births = capped (count_by is_birth es);
  used = capped (count_by is_use es);
  gaps = capped (count_by is_gap es);
  deaths = capped (count_by is_death es);
  ignored = capped (count_by is_ignored es);
  requests = capped (count_by is_request es);
  missing = capped (sum_by missing_by es);
  unused = capped (sum_by unused_by es);
  holes = capped (length (gaps.over es));
}

abbrev pub told : ℕ → List Event → Story
told first es = record {
  stand = standing.stand es;
  since = standing.since first es;
  born_at = standing.born_at es;
  used_at = standing.used_at es;
  counts = counts es;
  hole = option_map capped_hole (gaps.open_now es);
  kept = take most_kept (map capped_hole (gaps.over es));
}
