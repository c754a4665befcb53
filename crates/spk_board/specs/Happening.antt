-- What a board keeps of what happened, and when it is to be drawn (own rules).
use Rattle.std.specs.Prelude.{ℕ, ◌+◌, ◌-◌, ◌^◌, ◌==◌, Bool, true, false, ◌&&◌, nat_le, min, List, [], ◌∷◌, ◌++◌, length, drop, Option, Some, None, if◌then◌else◌}
use Rattle.std.specs.List.{list_any}
use Rattle.spk_story.specs.Data.{Story}
use Rattle.spk_story.specs.declared.hole.Hole.{Hole}
use Rattle.spk_board.specs.declared.happened.Happened.{Happened}
use Rattle.spk_board.specs.declared.happened.What.{What}
use Rattle.spk_board.specs.declared.happened.What.TheVariants.{Asked, Born, BornAgain, Mended}
use Rattle.spk_board.specs.declared.screen.Screen.{Screen}
use Rattle.spk_board.specs.declared.screen.Screen.TheVariants.{Plain, Terminal, Colours}
use Rattle.spk_board.specs.Data.{BoardData}

-- own rules: how many events are kept, how often a board is drawn, and how soon after a change on a terminal
abbrev pub most_events : ℕ
most_events = 12

abbrev pub second : ℕ
second = 1000

abbrev pub quarter : ℕ
quarter = 250

-- one more behind those that are kept, of which the oldest goes where there are as many as are kept
abbrev pub kept_with : Happened → List Happened → List Happened
kept_with h hs = (if nat_le most_events (length hs) then drop 1 hs else hs) ++ h ∷ []

abbrev pub noted : Option ℕ → What → ℕ → BoardData → BoardData
noted place what now b = record b { is_changed = true; events = kept_with (record { at = now; place = place; what = what }) b.events }

-- what a birth is, by the story before it
abbrev pub birth_by : Option Hole → Option ℕ → What
birth_by (Some hole) born = Mended hole
birth_by None (Some at) = BornAgain
birth_by None None = Born

abbrev pub birth_noted : ℕ → ℕ → Option Story → BoardData → BoardData
birth_noted place now None b = b
birth_noted place now (Some s) b = noted (Some place) (birth_by s.hole s.born_at) now b

-- a request for the node at a place that was told at a moment or behind it
abbrev pub is_at : ℕ → Option ℕ → Bool
is_at place None = false
is_at place (Some p) = p == place

abbrev pub is_request : What → Bool
is_request Asked = true
is_request _ = false

abbrev pub is_asking : ℕ → ℕ → Happened → Bool
is_asking place since h = is_at place h.place && (is_request h.what && nat_le since h.at)

-- a request is told once while the node stands as it does
abbrev pub request_noted : ℕ → ℕ → Option Story → BoardData → BoardData
request_noted place now None b = b
request_noted place now (Some s) b = if list_any (is_asking place s.since) b.events then b else noted (Some place) Asked now b

-- how long after it was drawn it is to be drawn again
abbrev pub pause : Screen → Bool → ℕ
pause Plain changed = second
pause Terminal changed = if changed then quarter else second
pause Colours changed = if changed then quarter else second

abbrev pub due : BoardData → Option ℕ → ℕ
due b None = 0
due b (Some drawn) = min (drawn + pause b.screen b.is_changed) (2 ^ 64 - 1)
