use Rattle.std.proofs.Common.{◌≡◌, [], ◌∷◌, ◌++◌, map, take, string_bytes}
use Rattle.spk_journal.specs.File.{mark, text_of}
use Rattle.spk_journal.proofs.journal.Journal.made_anew.Given as goal

-- the lines before this place are there
abbrev pub invariant-loop-place : goal.invariant-loop-place
invariant-loop-place l = l.bytes.items ≡ l.fn.base ++ text_of (mark ∷ []) ++ text_of (map string_bytes (take l.place l.self-inside.lines.items))
