-- Records one behind the other, and what is read of them.
use Rattle.std.proofs.Common.{◌≡◌, inl, inr, ℕ, ◌+◌, ◌≤◌, List, [], ◌∷◌, ◌++◌, length, map, take, drop, refl, sym, ap, ◌∙◌, subst, append_assoc, append-nil, length-append, arith}
use Rattle.std.proofs.lemmas.List.{append_cancel_left, take-append-drop, take-append-le, take_at}
use Rattle.std.proofs.lemmas.Option.{same_Some}
use Rattle.spk_history.specs.Entry.{EntryData}
use Rattle.spk_history.specs.File.{AreEntries, AreParts, AreRead, Begins, HasNoRecord, IsRead, file_of, head, joined, records_of}
use Rattle.spk_history.specs.Reading.{entry_at}
use Rattle.spk_history.specs.Record.{IsEntry, content, record_of}
use Rattle.spk_history.proofs.Contents.{entry_again}
use Rattle.spk_history.proofs.Framing.{framed_same}
use Rattle.spk_frames.proofs.Lengths.{length-framed}

-- one entry at the front of bytes
pub record_is : (e f : EntryData) (x y : List ℕ) → IsEntry e → IsEntry f → record_of e ++ x ≡ record_of f ++ y → (e ≡ f) × (x ≡ y)
record_is e f x y is other same =
    let first = framed_same (record_of e ++ x) (content e) (content f) (is.small, (x, refl)) (other.small, (y, same)) in
    (same_Some e f (sym (entry_again e is.words is.texts) ∙ ap entry_at first.0 ∙ entry_again f other.words other.texts), first.1)

heads : (p q : EntryData) (ps qs : List EntryData) → p ≡ q → ps ≡ qs → p ∷ ps ≡ q ∷ qs
heads p q ps qs e f = cc

-- the first record of a list, and what follows it
headed : (e : EntryData) (es : List EntryData) (x : List ℕ) → records_of (e ∷ es) ++ x ≡ record_of e ++ (records_of es ++ x)
headed e es x = append_assoc (record_of e) (records_of es) x

pub some_bytes : (e : EntryData) (x : List ℕ) → record_of e ++ x ≡ [] → ⊥
some_bytes e x none =
    let long : length (record_of e ++ x) ≡ (length (content e) + 8) + length x = length-append (record_of e) x ∙ ap (λ n. n + length x) (length-framed (content e)) in
    absurd (omega (arith, ap length none))

-- ---- behind the head

pub one : (es fs : List EntryData) (x y : List ℕ) → AreEntries es → AreEntries fs → HasNoRecord x → HasNoRecord y → records_of es ++ x ≡ records_of fs ++ y → (es ≡ fs) × (x ≡ y)
one [] [] x y a b p q e = (refl, e)
one [] (f ∷ fs) x y a b p q e = absurd (p f (records_of fs ++ y) b.0 (e ∙ headed f fs y))
one (e ∷ es) [] x y a b p q h = absurd (q e (records_of es ++ x) a.0 (sym h ∙ headed e es x))
one (e ∷ es) (f ∷ fs) x y a b p q h =
    let first = record_is e f (records_of es ++ x) (records_of fs ++ y) a.0 b.0 (sym (headed e es x) ∙ h ∙ headed f fs y) in
    let others = one es fs x y a.1 b.1 p q first.1 in
    (heads e f es fs first.0 others.0, others.1)

-- what was written is read first, whatever stands behind it
pub first_read : (es fs : List EntryData) (x y : List ℕ) → AreEntries es → AreEntries fs → HasNoRecord y → records_of es ++ x ≡ records_of fs ++ y → Begins es fs
first_read [] fs x y a b q e = (fs, refl)
first_read (e ∷ es) [] x y a b q h = absurd (q e (records_of es ++ x) a.0 (sym h ∙ headed e es x))
first_read (e ∷ es) (f ∷ fs) x y a b q h =
    let first = record_is e f (records_of es ++ x) (records_of fs ++ y) a.0 b.0 (sym (headed e es x) ∙ h ∙ headed f fs y) in
    let others = first_read es fs x y a.1 b.1 q first.1 in
    (others.0, heads f e fs (es ++ others.0) (sym first.0) others.1)

-- what is read of bytes that were cut off was written
pub cut_read : (es fs : List EntryData) (rest lost : List ℕ) → AreEntries es → AreEntries fs → (records_of fs ++ rest) ++ lost ≡ records_of es → Begins fs es
cut_read es [] rest lost a b e = (es, refl)
cut_read [] (f ∷ fs) rest lost a b e =
    absurd (some_bytes f ((records_of fs ++ rest) ++ lost) (sym (append_assoc (record_of f) (records_of fs ++ rest) lost) ∙ ap (λ t. t ++ lost) (sym (headed f fs rest)) ∙ e))
cut_read (e ∷ es) (f ∷ fs) rest lost a b h =
    let first = record_is f e ((records_of fs ++ rest) ++ lost) (records_of es) b.0 a.0
    (sym (append_assoc (record_of f) (records_of fs ++ rest) lost) ∙ ap (λ t. t ++ lost) (sym (headed f fs rest)) ∙ h) in
    let others = cut_read es fs rest lost a.1 b.1 first.1 in
    (others.0, heads e f es (fs ++ others.0) (sym first.0) others.1)

-- ---- whole files

-- bytes that reach past what stands in front
pub reaches : (front lost kept more : List ℕ) → front ++ lost ≡ kept ++ more → length kept ≤ length front → (rest : List ℕ) × (front ≡ kept ++ rest)
reaches front lost kept more e le =
    let k = length kept in
    let first : take k front ≡ kept = sym (take-append-le k front lost le) ∙ ap (take k) e ∙ take_at kept more k refl in
    (drop k front, sym (take-append-drop k front) ∙ ap (λ t. t ++ drop k front) first)

pub one_reading : (bytes rest other : List ℕ) (entries more : List EntryData) → IsRead bytes entries rest → IsRead bytes more other → (entries ≡ more) × (rest ≡ other)
one_reading bytes rest other entries more (inl a) (inl b) =
    let same : a.0 ≡ b.0 = append_cancel_left head a.0 b.0 (sym a.1 ∙ b.1) in
    one entries more rest other a.2.fit b.2.fit a.2.all b.2.all (sym a.2.are ∙ same ∙ b.2.are)
one_reading bytes rest other entries more (inl a) (inr b) = absurd (b.0 a.0 a.1)
one_reading bytes rest other entries more (inr a) (inl b) = absurd (a.0 b.0 b.1)
one_reading bytes rest other entries more (inr a) (inr b) = (a.1 ∙ sym b.1, a.2 ∙ sym b.2)

behind_file : (entries : List EntryData) (more : List ℕ) → file_of entries ++ more ≡ head ++ (records_of entries ++ more)
behind_file entries more = append_assoc head (records_of entries) more

pub synced_at : (bytes : List ℕ) (entries read : List EntryData) (more rest : List ℕ) → AreEntries entries → bytes ≡ file_of entries ++ more → IsRead bytes read rest → Begins entries read
synced_at bytes entries read more rest fit e (inl a) =
    let body : a.0 ≡ records_of entries ++ more = append_cancel_left head a.0 (records_of entries ++ more) (sym a.1 ∙ e ∙ behind_file entries more) in
    first_read entries read more rest fit a.2.fit a.2.all (sym body ∙ a.2.are)
synced_at bytes entries read more rest fit e (inr a) = absurd (a.0 (records_of entries ++ more) (e ∙ behind_file entries more))

pub synced : (entries read : List EntryData) (more rest : List ℕ) → AreEntries entries → IsRead (file_of entries ++ more) read rest → Begins entries read
synced entries read more rest fit r = synced_at (file_of entries ++ more) entries read more rest fit refl r

pub torn_front : (entries read : List EntryData) (front lost rest : List ℕ) → AreEntries entries → front ++ lost ≡ file_of entries → IsRead front read rest → Begins read entries
torn_front entries read front lost rest fit e (inl a) =
    let body : a.0 ++ lost ≡ records_of entries = append_cancel_left head (a.0 ++ lost) (records_of entries) (sym (append_assoc head a.0 lost) ∙ ap (λ t. t ++ lost) (sym a.1) ∙ e) in
    cut_read entries read rest lost fit a.2.fit (ap (λ t. t ++ lost) (sym a.2.are) ∙ body)
torn_front entries read front lost rest fit e (inr a) = (entries, ap (λ t. t ++ entries) (sym a.1))

pub records_join : (es fs : List EntryData) → records_of (es ++ fs) ≡ records_of es ++ records_of fs
records_join [] fs = refl
records_join (e ∷ es) fs = ap (λ t. record_of e ++ t) (records_join es fs) ∙ sym (append_assoc (record_of e) (records_of es) (records_of fs))

pub entries_front : (es fs : List EntryData) → AreEntries (es ++ fs) → AreEntries es
entries_front [] fs a = tt
entries_front (e ∷ es) fs a = (a.0, entries_front es fs a.1)

pub torn_whole : (kept more read : List EntryData) (front lost rest : List ℕ) → AreEntries (kept ++ more) → front ++ lost ≡ file_of (kept ++ more)
    → length (file_of kept) ≤ length front → IsRead front read rest → Begins kept read
torn_whole kept more read front lost rest fit e le r =
    let whole : file_of (kept ++ more) ≡ file_of kept ++ records_of more = ap (λ t. head ++ t) (records_join kept more) ∙ sym (append_assoc head (records_of kept) (records_of more)) in
    let reach = reaches front lost (file_of kept) (records_of more) (e ∙ whole) le in
    synced_at front kept read reach.0 rest (entries_front kept more fit) reach.1 r

-- ---- parts

-- a whole file is read whole
pub whole_read : (entries read : List EntryData) (rest : List ℕ) → AreEntries entries → IsRead (file_of entries) read rest → read ≡ entries
whole_read entries read rest fit r =
    let front = synced_at (file_of entries) entries read [] rest fit (sym (append-nil (file_of entries))) r in
    let back = torn_front entries read (file_of entries) [] rest fit (append-nil (file_of entries)) r in
    both_ways entries read front back
  where
    none_more : (xs ys : List EntryData) → xs ≡ xs ++ ys → ys ≡ []
    none_more xs ys e = sym (append_cancel_left xs [] ys (append-nil xs ∙ e))

    front_nil : (xs ys : List EntryData) → xs ++ ys ≡ [] → xs ≡ []
    front_nil [] ys e = refl
    front_nil (x ∷ xs) ys e = absurd cc

    both_ways : (es fs : List EntryData) → Begins es fs → Begins fs es → fs ≡ es
    both_ways es fs a b =
        let loop : es ≡ es ++ (a.0 ++ b.0) = b.1 ∙ ap (λ t. t ++ b.0) a.1 ∙ append_assoc es a.0 b.0 in
        a.1 ∙ ap (λ t. es ++ t) (front_nil a.0 b.0 (none_more es (a.0 ++ b.0) loop)) ∙ append-nil es

pub parts_read : (parts : List (List EntryData)) (read : List EntryData) → AreParts parts → AreRead (map file_of parts) read → read ≡ joined parts
parts_read [] read fit r = r
parts_read (part ∷ parts) read fit r =
    r.5 ∙ ap (λ t. t ++ r.2) (whole_read part r.0 r.1 fit.0 r.3) ∙ ap (λ t. part ++ t) (parts_read parts r.2 fit.1 r.4)

pub parts_cut : (parts : List (List EntryData)) (last read : List EntryData) (front lost : List ℕ) → AreParts parts → AreEntries last → front ++ lost ≡ file_of last
    → AreRead (map file_of parts ++ front ∷ []) read → Begins (joined parts) read × Begins read (joined parts ++ last)
parts_cut [] last read front lost fit is e r =
    let whole : read ≡ r.0 = r.5 ∙ ap (λ t. r.0 ++ t) r.4 ∙ append-nil r.0 in
    ((read, refl), subst (λ (t : List EntryData). Begins t last) (sym whole) (torn_front last r.0 front lost r.1 is e r.3))
parts_cut (part ∷ parts) last read front lost fit is e r =
    let first : r.0 ≡ part = whole_read part r.0 r.1 fit.0 r.3 in
    let others = parts_cut parts last r.2 front lost fit.1 is e r.4 in
    let whole : read ≡ part ++ r.2 = r.5 ∙ ap (λ t. t ++ r.2) first in (
      (others.0.0, whole ∙ ap (λ t. part ++ t) others.0.1 ∙ sym (append_assoc part (joined parts) others.0.0)),
      (
        others.1.0,
        append_assoc part (joined parts) last ∙ ap (λ t. part ++ t) others.1.1 ∙ sym (append_assoc part r.2 others.1.0) ∙ ap (λ t. t ++ others.1.0) (sym whole),
      ),
    )
