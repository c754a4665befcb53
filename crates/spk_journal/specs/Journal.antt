-- What a journal keeps, and what its file says beside it (own rules).
use Rattle.std.specs.Prelude.{◌≡◌, ℕ, Bool, false, ◌||◌, List, [], ◌∷◌, ◌++◌}
use Rattle.spk_journal.specs.File.{Says, has_end, is_mark, mark, text_of, waiting}

-- A journal: the lines that wait, without their ends; what is to be written behind what stands in the file; whether that is to be made anew.
pub record JournalData : Type 0 where
  pub lines : List (List ℕ)
  pub unwritten : List ℕ
  pub is_broken : Bool

-- a line that can't be noted
abbrev pub is_bad : List ℕ → Bool
is_bad line = has_end line || is_mark line

-- lines that can
abbrev pub AreGood : List (List ℕ) → Type 0
AreGood [] = Unit {0}
AreGood (line ∷ lines) = (is_bad line ≡ false) × AreGood lines

-- Bytes say that these lines wait, last; those before them wait no more by the journal alone.
pub record SayThatWait (bytes : List ℕ) (last : List (List ℕ)) : Type 0 where
  pub lines : List (List ℕ)
  pub before : List (List ℕ)
  pub says : Says bytes lines []
  pub wait : waiting lines ≡ before ++ last

-- What stands in the file, with what is to be written behind it, says that the lines which wait wait. Of a file that is to be made anew nothing is said.
abbrev pub Stands : List ℕ → JournalData → Type 0
Stands file j = j.is_broken ≡ false → SayThatWait (file ++ j.unwritten) j.lines

-- a file made anew: lines that only set values, a mark, and the lines that wait
abbrev pub made_anew : List ℕ → List (List ℕ) → List ℕ
made_anew base lines = base ++ text_of (mark ∷ []) ++ text_of lines
