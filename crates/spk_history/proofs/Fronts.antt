-- The entry at the front of bytes, by the content in its frame.
use Rattle.std.proofs.Common.{◌≡◌, ℕ, ◌+◌, ◌<◌, ◌≤◌, List, ◌++◌, length, Option, Some, None, sym, ap, ◌∙◌, subst}
use Rattle.spk_history.specs.Entry.{EntryData}
use Rattle.spk_history.specs.File.{HasNoRecord, IsTorn}
use Rattle.spk_history.specs.Frame.{IsFramed}
use Rattle.spk_history.specs.Reading.{entry_at}
use Rattle.spk_frames.specs.Numbers.{four}
use Rattle.spk_frames.specs.Frame.{framed}
use Rattle.spk_history.specs.Record.{IsEntry, content, most, record_of}
use Rattle.spk_frames.specs.Sum.{crc32}
use Rattle.spk_history.proofs.Contents.{entry_again, entry_takes}
use Rattle.spk_history.proofs.Framing.{framed_parts, framed_same, framed_stands}
use Rattle.spk_frames.proofs.Lengths.{length-framed}
use Rattle.spk_frames.proofs.Numbers.{IsBytes, IsBytes-before, IsBytes-behind}

content_fits : (bytes c : List ℕ) → IsBytes bytes → IsFramed bytes c → IsBytes c
content_fits bytes c fits f =
    let behind = four (crc32 c) ++ f.1.0 in
    IsBytes-before c behind (IsBytes-behind bytes (four (length c)) (c ++ behind) (framed_parts bytes c f.1.0 f.1.1) fits)

pub is_record : (bytes c : List ℕ) (e : EntryData) → IsBytes bytes → IsFramed bytes c → entry_at c ≡ Some e
    → IsEntry e × ((rest : List ℕ) × (bytes ≡ record_of e ++ rest)) × (length c + 8 ≡ length (record_of e))
is_record bytes c e fits f h =
    let s = entry_takes c e (content_fits bytes c fits f) h in (
      record { words = s.words; texts = s.texts; small = subst (λ t. length t ≤ most) (sym s.are) f.0 },
      (f.1.0, f.1.1 ∙ ap (λ t. framed t ++ f.1.0) (sym s.are)),
      sym (length-framed c) ∙ ap (λ t. length (framed t)) (sym s.are),
    )

abbrev nothing : Option EntryData
nothing = None

other : (c : List ℕ) (e : EntryData) → entry_at c ≡ None → entry_at c ≡ Some e → ⊥
other c e n s = let x : nothing ≡ Some e = sym n ∙ s in absurd cc

pub is_broken : (bytes c : List ℕ) → IsFramed bytes c → entry_at c ≡ None → (0 < length bytes) × ¬ (IsTorn bytes) × HasNoRecord bytes
is_broken bytes c f h =
    let s = framed_stands bytes c f in (
      s.0,
      s.1,
      λ e rest is g. other c e h (ap entry_at (framed_same bytes c (content e) f (is.small, (rest, g))).0 ∙ entry_again e is.words is.texts),
    )
