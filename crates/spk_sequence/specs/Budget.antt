-- How many messages lost in a row a byte of number tells apart beside a reorder window of this width (own rule).
use Rattle.std.specs.Prelude.{ℕ, ◌-◌, ◌*◌}

abbrev pub budget : ℕ → ℕ
budget width = 256 - 2 * width
