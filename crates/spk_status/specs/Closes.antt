-- How many clients' sockets were shut, by cause (own rules). A count stands at the greatest number.
use Rattle.std.specs.Prelude.{ℕ, ◌+◌, min}
use Rattle.spk_clients.specs.declared.cause.Cause.{Cause}
use Rattle.spk_clients.specs.declared.cause.Cause.TheVariants.{Left, Gone, Silent, Unreadable, Refused, KeepAlive, TakenOver, Slow, Memory}
use Rattle.spk_clients.specs.Client.{most_number}
use Rattle.spk_status.specs.declared.closes.Closes.{Closes}

abbrev pub fresh_closes : Closes
fresh_closes = record { left = 0; gone = 0; silent = 0; unreadable = 0; refused = 0; keep_alive = 0; taken_over = 0; slow = 0; memory = 0 }

abbrev pub one_more : ℕ → ℕ
one_more n = min (n + 1) most_number

-- one more for this cause
abbrev pub counted : Cause → Closes → Closes
counted Left c = record c { left = one_more c.left }
counted Gone c = record c { gone = one_more c.gone }
counted Silent c = record c { silent = one_more c.silent }
counted Unreadable c = record c { unreadable = one_more c.unreadable }
counted Refused c = record c { refused = one_more c.refused }
counted KeepAlive c = record c { keep_alive = one_more c.keep_alive }
counted TakenOver c = record c { taken_over = one_more c.taken_over }
counted Slow c = record c { slow = one_more c.slow }
counted Memory c = record c { memory = one_more c.memory }

-- how many for this cause
abbrev pub of_cause : Cause → Closes → ℕ
of_cause Left c = c.left
of_cause Gone c = c.gone
of_cause Silent c = c.silent
of_cause Unreadable c = c.unreadable
of_cause Refused c = c.refused
of_cause KeepAlive c = c.keep_alive
of_cause TakenOver c = c.taken_over
of_cause Slow c = c.slow
of_cause Memory c = c.memory
