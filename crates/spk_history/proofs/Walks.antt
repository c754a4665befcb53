-- A walk over entries, one step on and at its end.
use Rattle.std.proofs.Common.{◌≡◌, ℕ, ◌+◌, ◌≤◌, List, [], ◌∷◌, ◌++◌, length, take, drop, sym, ap, ◌∙◌, append-nil, length-append, length-drop, arith}
use Rattle.std.proofs.lemmas.List.{drop-take, take-append-drop, take-take, take_at}
use Rattle.spk_history.specs.Entries.{AreTaken, EntriesData}
use Rattle.spk_history.specs.Entry.{EntryData}
use Rattle.spk_history.specs.File.{AreEntries, HasNoRecord, Holds, IsTorn, records_of}
use Rattle.spk_history.specs.Record.{IsEntry, content, record_of}
use Rattle.spk_history.proofs.Framing.{framed_stands}
use Rattle.spk_history.proofs.Whole.{records_join, some_bytes}

pub within : (bytes first rest : List ℕ) (whole n : ℕ) → whole ≤ length bytes → drop whole bytes ≡ first ++ rest → n ≡ length first → whole + n ≤ length bytes
within bytes first rest whole n le e is = omega (arith, length-drop whole bytes, ap length e, length-append first rest)

taken_more : (bytes first rest : List ℕ) (whole n : ℕ) → drop whole bytes ≡ first ++ rest → n ≡ length first → take (whole + n) bytes ≡ take whole bytes ++ first
taken_more bytes first rest whole n e is =
    let front : take whole (take (whole + n) bytes) ≡ take whole bytes = take-take whole (whole + n) bytes (omega arith) in
    let back : drop whole (take (whole + n) bytes) ≡ first = drop-take whole n bytes ∙ ap (take n) e ∙ take_at first rest n (sym is) in
    sym (take-append-drop whole (take (whole + n) bytes)) ∙ ap (λ t. t ++ drop whole (take (whole + n) bytes)) front ∙ ap (λ t. take whole bytes ++ t) back

pub fit_more : (entries : List EntryData) (e : EntryData) → AreEntries entries → IsEntry e → AreEntries (entries ++ e ∷ [])
fit_more [] e a is = (is, tt)
fit_more (f ∷ entries) e a is = (a.0, fit_more entries e a.1 is)

abbrev pub walk : List ℕ → ℕ → EntriesData
walk bytes whole = record { bytes = bytes; whole = whole }

pub step : (bytes rest : List ℕ) (whole n : ℕ) (e : EntryData) → IsEntry e → drop whole bytes ≡ record_of e ++ rest → n ≡ length (record_of e)
    → (entries : List EntryData) → AreTaken (walk bytes whole) entries → AreTaken (walk bytes (whole + n)) (entries ++ e ∷ [])
step bytes rest whole n e is here long entries taken = record {
  are = taken_more bytes (record_of e) rest whole n here long ∙ ap (λ t. t ++ record_of e) taken.are ∙ ap (λ t. records_of entries ++ t) (sym (append-nil (record_of e))) ∙ sym (records_join entries (e ∷ []));
  fit = fit_more entries e taken.fit is;
}

-- ---- the end

pub none_at_end : (bytes : List ℕ) → bytes ≡ [] → HasNoRecord bytes
none_at_end bytes nothing e rest is here = some_bytes e rest (sym here ∙ nothing)

pub none_torn : (bytes : List ℕ) → IsTorn bytes → HasNoRecord bytes
none_torn bytes torn e rest is here = (framed_stands bytes (content e) (is.small, (rest, here))).1 torn

pub over : (bytes : List ℕ) (whole : ℕ) → HasNoRecord (drop whole bytes) → (entries : List EntryData) → AreTaken (walk bytes whole) entries → Holds bytes entries (drop whole bytes)
over bytes whole none entries taken = record {
  are = sym (take-append-drop whole bytes) ∙ ap (λ t. t ++ drop whole bytes) taken.are;
  fit = taken.fit;
  all = none;
}
