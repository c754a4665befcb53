-- How a node is shown (own rules). Moments are in milliseconds.
use Rattle.std.specs.Prelude.{ℕ, ◌+◌, List, Bool, true, false, ◌&&◌, nat_le, Option, Some, None, codes, if◌then◌else◌}
use Rattle.std.specs.Option.{option_and_then, unwrap_or, option_map}
use Rattle.spk_story.specs.Data.{Story, capped}
use Rattle.spk_story.specs.Standing as standing
use Rattle.spk_story.specs.declared.stand.Stand.{Stand}
use Rattle.spk_story.specs.declared.stand.Stand.TheVariants as Stand
use Rattle.spk_page.specs.declared.look.Look.{Look}
use Rattle.spk_page.specs.declared.look.Look.TheVariants.{Unborn, Current, Silent, Lost, Offline, Away}

abbrev pub look_of : Stand → Look
look_of Stand.Unborn = Unborn
look_of Stand.Current = Current
look_of Stand.Lost = Lost
look_of Stand.Dead = Offline
look_of Stand.OutOfReach = Away

-- the moment, if it has come for a node whose values stand current
abbrev pub if_silent : Stand → ℕ → ℕ → Option ℕ
if_silent stand now until = if standing.is_same stand Stand.Current && nat_le until now then Some until else None

-- since when nothing was consumed for too long
abbrev pub silent_since : Story → Option ℕ → ℕ → Option ℕ
silent_since s patience now =
    option_and_then (λ used. option_and_then (λ p. if_silent s.stand now (capped (used + p))) patience) s.used_at

-- silent, or as it stands
abbrev pub look_by : Option ℕ → Stand → Look
look_by None stand = look_of stand
look_by (Some _) stand = Silent

abbrev pub look_at : Story → Option ℕ → ℕ → Look
look_at s patience now = look_by (silent_since s patience now) s.stand

abbrev pub since_at : Story → Option ℕ → ℕ → ℕ
since_at s patience now = unwrap_or (silent_since s patience now) s.since

abbrev pub word_of : Look → List ℕ
word_of Unborn = codes "unborn"
word_of Current = codes "current"
word_of Silent = codes "silent"
word_of Lost = codes "lost"
word_of Offline = codes "offline"
word_of Away = codes "away"

abbrev pub is_same : Look → Look → Bool
is_same Unborn Unborn = true
is_same Current Current = true
is_same Silent Silent = true
is_same Lost Lost = true
is_same Offline Offline = true
is_same Away Away = true
is_same _ _ = false
