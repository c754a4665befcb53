-- The items that the reader finds are the items of the text, and no other list is.
use Rattle.std.proofs.Common.{◌≡◌, ◌≢◌, ◌↔◌, ℕ, zero, suc, ◌<◌, ◌≤◌, List, [], ◌∷◌, ◌++◌, length, map, Result, Ok, Err, refl, sym, ap, subst, ◌∙◌, append_assoc, length-append, arith}
use Rattle.spk_protobuf.specs.declared.fault.WireFault.{WireFault}
use Rattle.spk_protobuf.specs.Grammar.{Entry, FieldList}
use Rattle.spk_protobuf.specs.Faults.{AreItems}
use Rattle.spk_protobuf.specs.Reading.{field_at, item_then, items_within, items_of}
use Rattle.spk_protobuf.proofs.Values.{field_take, field_again, IsField-length, field_fault, field_fault_again}

abbrev Items : Type 0
Items = List (Result Entry WireFault)

abbrev read : Result (Entry × List ℕ) WireFault → Result (Entry × List ℕ) WireFault
read r = r

-- a field leaves fewer bytes
shorter : (bytes : List ℕ) (x : Entry × List ℕ) → field_at bytes ≡ Ok x → length x.1 < length bytes
shorter bytes x e =
    let t = field_take bytes x e in
    rw t.parts (omega (arith, length-append t.text x.1, IsField-length t.text x.0 t.is))

-- with as many turns as there are bytes, or more, the items are the same
enough : (k j : ℕ) (bytes : List ℕ) → length bytes ≤ k → length bytes ≤ j → items_within k bytes ≡ items_within j bytes
unfolding items_within
enough k j [] a b = refl
enough zero j (c ∷ bs) a b = absurd (omega arith)
enough (suc k) zero (c ∷ bs) a b = absurd (omega arith)
enough (suc k) (suc j) (c ∷ bs) a b = step (field_at (c ∷ bs)) refl (λ rest ka ja. enough k j rest ka ja)
  where
    step : (r : Result (Entry × List ℕ) WireFault) → field_at (c ∷ bs) ≡ r → ((rest : List ℕ) → length rest ≤ k → length rest ≤ j → items_within k rest ≡ items_within j rest) → item_then r (items_within k) ≡ item_then r (items_within j)
    step (Ok x) e go = let lt = shorter (c ∷ bs) x e in ap (λ (others : Items). Ok x.0 ∷ others) (go x.1 (omega arith) (omega arith))
    step (Err w) e go = refl

pub items_of-nil : items_of [] ≡ []
unfolding items_of items_within
items_of-nil = refl

pub items_of-ok : (bytes : List ℕ) (x : Entry × List ℕ) → field_at bytes ≡ Ok x → items_of bytes ≡ Ok x.0 ∷ items_of x.1
unfolding items_of items_within
items_of-ok [] x e = absurd (omega (arith, shorter [] x e))
items_of-ok (b ∷ bs) x e =
    let lt = shorter (b ∷ bs) x e in
    rw e (ap (λ (others : Items). Ok x.0 ∷ others) (enough (length bs) (length x.1) x.1 (omega arith) (omega arith)))

pub items_of-err : (bytes : List ℕ) (w : WireFault) → bytes ≢ [] → field_at bytes ≡ Err w → items_of bytes ≡ Err w ∷ []
unfolding items_of items_within
items_of-err [] w ne e = absurd (ne refl)
items_of-err (b ∷ bs) w ne e = rw e refl

-- ---- the two laws

within_are : (k : ℕ) (bytes : List ℕ) → length bytes ≤ k → AreItems bytes (items_within k bytes)
unfolding items_within
within_are k [] le = refl
within_are zero (b ∷ bs) le = absurd (omega arith)
within_are (suc k) (b ∷ bs) le = step (field_at (b ∷ bs)) refl (λ rest short. within_are k rest short)
  where
    step : (r : Result (Entry × List ℕ) WireFault) → field_at (b ∷ bs) ≡ r → ((rest : List ℕ) → length rest ≤ k → AreItems rest (items_within k rest)) → AreItems (b ∷ bs) (item_then r (items_within k))
    step (Ok x) e go =
        let t = field_take (b ∷ bs) x e in
        let lt = shorter (b ∷ bs) x e in
        (t.text, x.1, t.is, go x.1 (omega arith), t.parts)
    step (Err w) e go = ((λ h. absurd cc), field_fault (b ∷ bs) w e, refl)

pub items_are : (bytes : List ℕ) → AreItems bytes (items_of bytes)
unfolding items_of
items_are bytes = within_are (length bytes) bytes (omega arith)

pub items_only : (bytes : List ℕ) (items : List (Result Entry WireFault)) → AreItems bytes items → items ≡ items_of bytes
items_only bytes [] h = sym (ap items_of h ∙ items_of-nil)
items_only bytes (Ok f ∷ items) h =
    let one = items_of-ok bytes (f, h.1) (ap field_at h.4 ∙ field_again h.0 h.1 f h.2) in
    ap (λ (others : Items). Ok f ∷ others) (items_only h.1 items h.3) ∙ sym one
items_only bytes (Err w ∷ items) h = ap (λ (others : Items). Err w ∷ others) h.2 ∙ sym (items_of-err bytes w h.0 (field_fault_again bytes w h.1))

abbrev fields : List Entry → List (Result Entry WireFault)
fields fs = map Ok fs

-- ---- the field list

list_items : (bytes : List ℕ) (fs : List Entry) → FieldList bytes fs → AreItems bytes (fields fs)
list_items bytes [] h = h
list_items bytes (f ∷ fs) h = (h.0, h.1, h.2, list_items h.1 fs h.3, h.4)

items_list : (bytes : List ℕ) (fs : List Entry) → AreItems bytes (fields fs) → FieldList bytes fs
items_list bytes [] h = h
items_list bytes (f ∷ fs) h = (h.0, h.1, h.2, items_list h.1 fs h.3, h.4)

-- A text has this field list exactly where its items are these fields, without a fault.
pub same_fields : (bytes : List ℕ) (fs : List Entry) → FieldList bytes fs ↔ (items_of bytes ≡ map Ok fs)
same_fields bytes fs = (λ h. sym (items_only bytes (fields fs) (list_items bytes fs h)), λ e. items_list bytes fs (subst (λ (items : Items). AreItems bytes items) e (items_are bytes)))

-- The fields of a front come first.
pub items_of-front : (front rest : List ℕ) (fs : List Entry) → FieldList front fs → items_of (front ++ rest) ≡ map Ok fs ++ items_of rest
items_of-front front rest [] h = ap (λ (x : List ℕ). items_of (x ++ rest)) h
items_of-front front rest (f ∷ fs) h =
    let regrouped : front ++ rest ≡ h.0 ++ (h.1 ++ rest) = ap (λ (x : List ℕ). x ++ rest) h.4 ∙ append_assoc h.0 h.1 rest in
    let one = items_of-ok (front ++ rest) (f, h.1 ++ rest) (ap field_at regrouped ∙ field_again h.0 (h.1 ++ rest) f h.2) in
    one ∙ ap (λ (others : Items). Ok f ∷ others) (items_of-front h.1 rest fs h.3)
