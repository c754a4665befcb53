-- The plain data of a story. Counts stop at the greatest number of 64 bits. Moments are in milliseconds.
use Rattle.std.specs.Prelude.{ℕ, ◌-◌, ◌^◌, min, List, Option, Some, None}
use Rattle.std.specs.Option.{option_or}
use Rattle.spk_story.specs.declared.hole.End.{End}
use Rattle.spk_story.specs.declared.counts.Counts.{Counts}
use Rattle.spk_story.specs.declared.hole.End.TheVariants.{Death, Session}
use Rattle.spk_story.specs.declared.hole.Hole.{Hole}
use Rattle.spk_story.specs.declared.stand.Stand.{Stand}
use Rattle.spk_story.specs.declared.stand.Stand.TheVariants.{Dead, OutOfReach}

-- own rule: how many holes that are over are kept
abbrev pub most_kept : ℕ
most_kept = 64

-- a count, as far as 64 bits go
abbrev pub capped : ℕ → ℕ
capped n = min n (2 ^ 64 - 1)

abbrev pub capped_hole : Hole → Hole
capped_hole h = record h { missing = capped h.missing; unused = capped h.unused }

-- what is over where a node stands so: its session, or the host's own
abbrev pub end_of : Stand → Option End
end_of Dead = Some Death
end_of OutOfReach = Some Session
end_of _ = None

-- a hole that begins while the node stands so
abbrev pub fresh_hole : ℕ → Stand → Hole
fresh_hole from stand = record { from = from; until = None; missing = 0; unused = 0; end = end_of stand }

-- it is ended by this, where nothing ended it before
abbrev pub with_end : End → Hole → Hole
with_end end h = record h { end = option_or h.end (Some end) }

pub record Story : Type 0 where
  pub stand : Stand
  pub since : ℕ
  -- when a birth was consumed last, and when anything was
  pub born_at : Option ℕ
  pub used_at : Option ℕ
  pub counts : Counts
  -- the hole that is open, and the last ones that are over, newest first
  pub hole : Option Hole
  pub kept : List Hole
