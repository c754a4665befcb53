-- A history in parts: an entry more, and the next part.
use Rattle.std.proofs.Common.{◌≡◌, ℕ, ◌+◌, ◌≤◌, Bool, true, false, List, [], ◌∷◌, ◌++◌, length, drop, sym, ap, ◌∙◌, subst, append_assoc, append-nil, length-append, arith}
use Rattle.std.proofs.lemmas.List.{drop-append-le}
use Rattle.spk_history.specs.Entry.{EntryData, Session, Node, Birth, Death, Gap, Hole, Message}
use Rattle.spk_history.specs.File.{AreEntries, file_of, head, records_of}
use Rattle.spk_history.specs.Parts.{AreNamed, PartsData, Stands, is_full, is_over, named}
use Rattle.spk_history.specs.Record.{IsEntry, content, record_of}
use Rattle.spk_frames.proofs.Lengths.{length-framed}
use Rattle.spk_history.proofs.Walks.{fit_more}
use Rattle.spk_history.proofs.Whole.{records_join}

-- ---- an entry more

pub record_long : (e : EntryData) (n : ℕ) → n ≡ length (content e) → n + 8 ≡ length (record_of e)
record_long e n is = ap (λ k. k + 8) is ∙ sym (length-framed (content e))

-- whether the part is full, as it was judged by the size of the content
pub full_is : (w v : PartsData) (e : EntryData) (n : ℕ) (b : Bool) → w ≡ v → n ≡ length (content e) → is_over w.len (n + 8) w.most w.has_record ≡ b → is_full v e ≡ b
full_is w v e n b same is h =
    ap (λ (p : PartsData). is_full p e) (sym same) ∙ ap (λ k. is_over w.len k w.most w.has_record) (sym (record_long e n is)) ∙ h

-- whether a number counts the bytes
pub over_is : (w v : PartsData) (e : EntryData) (n : ℕ) → w ≡ v → n ≡ length (content e) → is_over w.len (n + 8) w.most false ≡ true → is_over v.len (length (record_of e)) v.most false ≡ true
over_is w v e n same is h =
    ap (λ (p : PartsData). is_over p.len (length (record_of e)) p.most false) (sym same) ∙ ap (λ k. is_over w.len k w.most false) (sym (record_long e n is)) ∙ h

file_more : (entries : List EntryData) (e : EntryData) → file_of (entries ++ e ∷ []) ≡ file_of entries ++ record_of e
file_more entries e =
    ap (λ t. head ++ t) (records_join entries (e ∷ []) ∙ ap (λ t. records_of entries ++ t) (append-nil (record_of e))) ∙ sym (append_assoc head (records_of entries) (record_of e))

-- what is to be written is longer by the record
pub unwritten_more : (bytes more record_bytes : List ℕ) (done : ℕ) → done ≤ length bytes → more ≡ bytes ++ record_bytes → drop done more ≡ drop done bytes ++ record_bytes
unwritten_more bytes more record_bytes done le e = ap (drop done) e ∙ drop-append-le done bytes record_bytes le

pub put_stands : (p q : PartsData) (e : EntryData) (n : ℕ) → IsEntry e → q.unwritten ≡ p.unwritten ++ record_of e → n ≡ length (content e) → q.len ≡ p.len + (n + 8)
    → (part : List ℕ) (entries : List EntryData) → Stands part entries p → Stands part (entries ++ e ∷ []) q
put_stands p q e n is unwritten size len part entries stands =
    let file = file_more entries e in
    let long : length (file_of (entries ++ e ∷ [])) ≡ length (file_of entries) + length (record_of e) = ap length file ∙ length-append (file_of entries) (record_of e) in
    let one : n + 8 ≡ length (record_of e) = record_long e n size in
    let was : p.len ≡ length (file_of entries) = stands.long in
    record {
      are = ap (λ t. part ++ t) unwritten ∙ sym (append_assoc part p.unwritten (record_of e)) ∙ ap (λ t. t ++ record_of e) stands.are ∙ sym file;
      fit = fit_more entries e stands.fit is;
      long = omega arith;
    }

pub found_stands : (p q : PartsData) (e : EntryData) (n : ℕ) → q.unwritten ≡ p.unwritten → n ≡ length (content e) → q.len ≡ p.len + (n + 8)
    → (part : List ℕ) (entries : List EntryData) → IsEntry e → p.unwritten ≡ [] → Stands part entries p → Stands (part ++ record_of e) (entries ++ e ∷ []) q
found_stands p q e n same size len part entries is none stands =
    let file = file_more entries e in
    let long : length (file_of (entries ++ e ∷ [])) ≡ length (file_of entries) + length (record_of e) = ap length file ∙ length-append (file_of entries) (record_of e) in
    let one : n + 8 ≡ length (record_of e) = record_long e n size in
    let was : p.len ≡ length (file_of entries) = stands.long in
    let before : part ≡ file_of entries = sym (append-nil part) ∙ ap (λ t. part ++ t) (sym none) ∙ stands.are in
    record {
      are = ap (λ t. (part ++ record_of e) ++ t) (same ∙ none) ∙ append-nil (part ++ record_of e) ∙ ap (λ t. t ++ record_of e) before ∙ sym file;
      fit = fit_more entries e stands.fit is;
      long = omega arith;
    }

fit_named : (nodes : List EntryData) (e : EntryData) → AreEntries nodes → IsEntry e → AreEntries (nodes ++ named e)
fit_named nodes (Session at what) a is = subst AreEntries (sym (append-nil nodes)) a
fit_named nodes (Node node group name) a is = fit_more nodes (Node node group name) a is
fit_named nodes (Birth at node stamp bd payload) a is = subst AreEntries (sym (append-nil nodes)) a
fit_named nodes (Death at node bd) a is = subst AreEntries (sym (append-nil nodes)) a
fit_named nodes (Gap at node awaited missing) a is = subst AreEntries (sym (append-nil nodes)) a
fit_named nodes (Hole node from to missing unused ended_by) a is = subst AreEntries (sym (append-nil nodes)) a
fit_named nodes (Message at node kind seq payload) a is = subst AreEntries (sym (append-nil nodes)) a

pub put_named : (p q : PartsData) (e : EntryData) → IsEntry e → q.nodes ≡ p.nodes ++ records_of (named e)
    → (nodes : List EntryData) → AreNamed p nodes → AreNamed q (nodes ++ named e)
put_named p q e is more nodes are = record {
  are = more ∙ ap (λ t. t ++ records_of (named e)) are.are ∙ sym (records_join nodes (named e));
  fit = fit_named nodes e are.fit is;
}

-- ---- the next part

pub rolled : (p q : PartsData) → q.unwritten ≡ head ++ p.nodes → q.len ≡ length (head ++ p.nodes) → (nodes : List EntryData) → AreNamed p nodes → Stands [] nodes q
rolled p q is len nodes are = record {
  are = is ∙ ap (λ t. head ++ t) are.are;
  fit = are.fit;
  long = len ∙ ap (λ t. length (head ++ t)) are.are;
}
