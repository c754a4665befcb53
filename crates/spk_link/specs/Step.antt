-- What is due of a link at a moment, and the link after each call. Moments and times are in milliseconds.
use Rattle.std.specs.Prelude.{ℕ, ◌+◌, ◌-◌, ◌*◌, ◌/◌, ◌^◌, min, Bool, ◌&&◌, ◌||◌, nat_eq, nat_le, if◌then◌else◌}
use Rattle.spk_link.specs.declared.stand.Due.{Due}
use Rattle.spk_link.specs.declared.stand.Due.TheVariants as due
use Rattle.spk_link.specs.declared.stand.Moments.{Moments}
use Rattle.spk_link.specs.declared.stand.Stand.{Stand}
use Rattle.spk_link.specs.declared.stand.Stand.TheVariants.{Off, On}
use Rattle.spk_link.specs.Data.{Link}

-- own rules: the shortest and the longest pause, and how long a connection lasts behind which pauses begin anew
abbrev pub shortest : ℕ
shortest = 500

abbrev pub longest : ℕ
longest = 30000

abbrev pub lasting : ℕ
lasting = 10000

-- half the keep alive, and one and a half of it
abbrev pub half : ℕ → ℕ
half keep = keep / 2

abbrev pub and_half : ℕ → ℕ
and_half keep = keep + keep / 2

-- whether so much time is over since a moment; a moment before it counts as no time passed
abbrev pub is_over : ℕ → ℕ → ℕ → Bool
is_over now moment time = nat_le time (now - moment)

-- there was no connection yet: a try is due at once
abbrev pub fresh_link : ℕ → ℕ → Link
fresh_link keep spread = record { keep = 1000 * keep; spread = spread; pause = shortest; stand = Off 0 }

-- nothing was sent, or nothing was heard, for half the keep alive, and no PINGREQ was sent for as long
abbrev pub is_quiet : ℕ → Moments → ℕ → Bool
is_quiet keep m now = is_over now m.asked (half keep) && (is_over now m.sent (half keep) || is_over now m.heard (half keep))

abbrev pub due_of : ℕ → Stand → ℕ → Due
due_of keep (Off at) now = if nat_le at now then due.Connect else due.Nothing
due_of keep (On m) now =
    if nat_eq keep 0 then due.Nothing
    else if is_over now m.heard (and_half keep) then due.End
    else if is_quiet keep m now then due.Ping
    else due.Nothing

abbrev pub due_at : Link → ℕ → Due
due_at l now = due_of l.keep l.stand now

-- ---- the link after each call

abbrev pub opened : ℕ → Stand → Stand
opened now (Off at) = On (record { since = now; sent = now; heard = now; asked = now })
opened now (On m) = On m

abbrev pub with_moments : (Moments → Moments) → Stand → Stand
with_moments f (Off at) = Off at
with_moments f (On m) = On (f m)

abbrev pub after_opened : Link → ℕ → Link
after_opened l now = record l { stand = opened now l.stand }

abbrev pub after_sent : Link → ℕ → Link
after_sent l now = record l { stand = with_moments (λ m. record m { sent = now }) l.stand }

abbrev pub after_heard : Link → ℕ → Link
after_heard l now = record l { stand = with_moments (λ m. record m { heard = now }) l.stand }

abbrev pub after_asked : Link → ℕ → Link
after_asked l now = record l { stand = with_moments (λ m. record m { sent = now; asked = now }) l.stand }

-- the pause behind a try that came to no connection, or behind one
abbrev pub pause_behind : Stand → ℕ → ℕ → ℕ
pause_behind (Off at) pause now = pause
pause_behind (On m) pause now = if is_over now m.since lasting then shortest else pause

-- the moment behind a pause, up to the greatest one
abbrev pub due_behind : ℕ → ℕ → ℕ → ℕ
due_behind spread pause now = min (now + (pause + pause * spread / 1024)) (2 ^ 64 - 1)

abbrev pub after_over : Link → ℕ → Link
after_over l now =
    let pause = pause_behind l.stand l.pause now in
    record l { pause = min (2 * pause) longest; stand = Off (due_behind l.spread pause now) }
