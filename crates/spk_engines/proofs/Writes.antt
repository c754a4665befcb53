-- Items that are written one behind the other.
use Rattle.std.proofs.Common.{◌≡◌, ℕ, ◌+◌, ◌≤◌, length, take, drop, arith, List, [], ◌∷◌, ◌++◌, Option, Some, None, refl, sym, ◌∙◌, ap, subst}
use Rattle.std.proofs.lemmas.List.{append_assoc, append-nil, length-append, drop-append-le, drop-drop, length-drop, take-append-drop}
use Rattle.std.proofs.Math.Seq.{drop-length}
use Rattle.std.specs.Io.KnownBytes.{Appends}
use Rattle.spk_rings.specs.declared.item.Item.{Item}
use Rattle.spk_rings.specs.declared.inlet.Inlet.{Inlet}
use Rattle.spk_rings.specs.Ring.{SameInlet}
use Rattle.spk_engines.specs.Writing.{Writes, bytes_of}

pub bytes_end : (items : List Item) (i : Item) → bytes_of (items ++ i ∷ []) ≡ bytes_of items ++ i.bytes
bytes_end [] i = append-nil i.bytes
bytes_end (x ∷ items) i = ap (λ l. x.bytes ++ l) (bytes_end items i) ∙ sym (append_assoc x.bytes (bytes_of items) i.bytes)

pub appends_then : (a b c : Option (List ℕ)) (xs ys : List ℕ) → Appends a b xs → Appends b c ys → Appends a c (xs ++ ys)
appends_then None b c xs ys f g = tt
appends_then (Some l) None c xs ys f g = absurd f
appends_then (Some l) (Some m) None xs ys f g = absurd g
appends_then (Some l) (Some m) (Some n) xs ys f g = g ∙ ap (λ k. k ++ ys) f ∙ append_assoc l xs ys

pub appends_none : (a : Option (List ℕ)) → Appends a a []
appends_none None = tt
appends_none (Some l) = sym (append-nil l)

-- nothing was taken yet
pub writes_none : (a : Option (List ℕ)) (t : List Item) → Writes a a t t []
writes_none a t = record { items = []; bytes = []; took = sym (append-nil t); parts = refl; wrote = appends_none a }

-- more of the same items was written
pub writes_more : (a b c : Option (List ℕ)) (t u : List Item) (rest left bytes : List ℕ) → Writes a b t u rest → bytes ++ left ≡ rest → Appends b c bytes → Writes a c t u left
writes_more a b c t u rest left bytes w e g = record {
  items = w.items;
  bytes = w.bytes ++ bytes;
  took = w.took;
  parts = append_assoc w.bytes bytes left ∙ ap (λ l. w.bytes ++ l) e ∙ w.parts;
  wrote = appends_then a b c w.bytes bytes w.wrote g;
}

-- one item more was taken
pub writes_item : (a b : Option (List ℕ)) (t u v : List Item) (i : Item) → Writes a b t u [] → v ≡ u ++ i ∷ [] → Writes a b t v i.bytes
writes_item a b t u v i w e = record {
  items = w.items ++ i ∷ [];
  bytes = w.bytes;
  took = e ∙ ap (λ l. l ++ i ∷ []) w.took ∙ append_assoc t w.items (i ∷ []);
  parts = ap (λ l. l ++ i.bytes) (sym (append-nil w.bytes) ∙ w.parts) ∙ sym (bytes_end w.items i);
  wrote = w.wrote;
}

-- a look leaves the writer as it was
pub writes_same : {W : Type 0} (held : W → Option (List ℕ)) (a : Option (List ℕ)) (old new : W) (t u : List Item) (rest : List ℕ) → new ≡ old → Writes a (held old) t u rest → Writes a (held new) t u rest
writes_same held a old new t u rest same w = subst (λ d. Writes a (held d) t u rest) (sym same) w

-- one item was taken in a turn, or none
pub took_one : (t u v : List Item) (i : Item) (n k m : ℕ) → length t ≤ n + k → m ≡ k + 1 → u ≡ t → v ≡ u ++ i ∷ [] → length v ≤ n + m
took_one t u v i n k m most turn same more = (let long : length v ≡ length t + 1 = ap length more ∙ length-append u (i ∷ []) ∙ ap (λ l. length l + 1) same in omega arith)

pub took_none : (t v : List Item) (n k m : ℕ) → length t ≤ n + k → m ≡ k + 1 → v ≡ t → length v ≤ n + m
took_none t v n k m most turn same = (let long : length v ≡ length t = ap length same in omega arith)

pub same_then : (a b c : Inlet) → SameInlet a b → SameInlet b c → SameInlet a c
same_then a b c s t = (t.0 ∙ s.0, t.1 ∙ s.1, t.2 ∙ s.2, t.3 ∙ s.3)

-- a front of a piece was written, and what is left stands behind it
pub piece_taken : (bytes piece rest : List ℕ) (count more : ℕ) → piece ++ rest ≡ drop count bytes → more ≤ length piece
    → take more piece ++ drop (count + more) bytes ≡ drop count bytes
piece_taken bytes piece rest count more e le =
    ap (λ x. take more piece ++ x) (sym (drop-drop more count bytes) ∙ ap (drop more) (sym e) ∙ drop-append-le more piece rest le)
    ∙ sym (append_assoc (take more piece) (drop more piece) rest)
    ∙ ap (λ x. x ++ rest) (take-append-drop more piece)
    ∙ e

-- the same where nothing is left
pub last_taken : (bytes piece rest : List ℕ) (count more len : ℕ) → piece ++ rest ≡ drop count bytes → more ≤ length piece → len ≡ length bytes → count + more ≡ len
    → take more piece ++ [] ≡ drop count bytes
last_taken bytes piece rest count more len e le is all =
    ap (λ x. take more piece ++ x) (sym (drop-length bytes) ∙ ap (λ n. drop n bytes) (sym (all ∙ is)))
    ∙ piece_taken bytes piece rest count more e le

-- a piece at the front of what is left ends within the bytes
pub front_within : (bytes head body : List ℕ) (start : ℕ) → head ++ body ≡ drop start bytes → start ≤ length bytes → start + length head ≤ length bytes
front_within bytes head body start e le =
    let all : length (head ++ body) ≡ length (drop start bytes) = ap length e in
    omega (arith, le, length-append head body, all, length-drop start bytes)
