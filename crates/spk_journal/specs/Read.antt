-- What a file says, as it is answered.
use Rattle.std.specs.Prelude.{◌≡◌, ℕ, ◌≤◌, ◌==◌, not, List, map, drop, length}
use Rattle.spk_journal.specs.File.{Says, waiting}
use Rattle.spk_journal.specs.declared.reading.Lines.{Lines}

-- the lines as bytes
abbrev pub lines_read : Lines → List (List ℕ)
lines_read r = map (λ line. line.now) r.lines.items

-- The lines that the bytes say; those behind `settled` wait; it is torn where something stands behind the last end.
pub record IsRead (bytes : List ℕ) (r : Lines) : Type 0 where
  pub rest : List ℕ
  pub says : Says bytes (lines_read r) rest
  pub within : r.settled ≤ length (lines_read r)
  pub wait : drop r.settled (lines_read r) ≡ waiting (lines_read r)
  pub torn : r.is_torn ≡ not (length rest == 0)
