-- How many turns were taken over a reader or writer.
use Rattle.std.specs.Prelude.{ℕ}
use Rattle.spk_engines.specs.declared.counted.Counted.{Counted}

abbrev pub taken : {S : Type 0} → Counted S → ℕ
taken c = c.taken
