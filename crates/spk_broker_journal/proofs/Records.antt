-- Records of lines behind bytes, step by step.
use Rattle.std.proofs.Common.{◌≡◌, ℕ, zero, suc, ◌+◌, List, [], ◌∷◌, ◌++◌, drop, take, length, refl, sym, ap, ◌∙◌, subst, append_assoc, arith, Option, Some, None, Result, Ok, Err, OnOk, IfErr}
use Rattle.std.specs.Prelude.{slice_get}
use Rattle.std.specs.List.{flat_map}
use Rattle.std.proofs.lemmas.List.{append-nil}
use Rattle.spk_packets.specs.Fault.{IsNamed}
use Rattle.spk_packets.specs.declared.fault.PacketFault.{PacketFault}
use Rattle.spk_packets.specs.declared.fault.PacketFault.TheVariants as fault
use Rattle.spk_broker_events.specs.Line.{Kept, line_record, line_refusal}
use Rattle.spk_broker_journal.specs.Adding.{Begins, IsAdded, IsNamedIn, first_refusal, or_named, records}

-- ---- lists of lines

records-both : (xs ys : List Kept) → records (xs ++ ys) ≡ records xs ++ records ys
records-both [] ys = refl
records-both (x ∷ xs) ys = ap (λ t. line_record x ++ t) (records-both xs ys) ∙ sym (append_assoc (line_record x) (records xs) (records ys))

or-same : (a b c : Option PacketFault) → or_named (or_named a b) c ≡ or_named a (or_named b c)
or-same None b c = refl
or-same (Some e) b c = refl

refusal-both : (xs ys : List Kept) → first_refusal (xs ++ ys) ≡ or_named (first_refusal xs) (first_refusal ys)
refusal-both [] ys = refl
refusal-both (x ∷ xs) ys = ap (or_named (line_refusal x.packet)) (refusal-both xs ys) ∙ sym (or-same (line_refusal x.packet) (first_refusal xs) (first_refusal ys))

or-keeps : (e : PacketFault) (a b : Option PacketFault) → IsNamed e a → IsNamed e (or_named a b)
or-keeps fault.NoMemory a b n = tt
or-keeps fault.More a b n = ap (λ o. or_named o b) n
or-keeps fault.BadLength a b n = ap (λ o. or_named o b) n
or-keeps fault.BadFlags a b n = ap (λ o. or_named o b) n
or-keeps fault.BadType a b n = ap (λ o. or_named o b) n
or-keeps fault.BadText a b n = ap (λ o. or_named o b) n
or-keeps fault.BadBody a b n = ap (λ o. or_named o b) n
or-keeps fault.TooLarge a b n = ap (λ o. or_named o b) n
or-keeps fault.QosTwo a b n = ap (λ o. or_named o b) n
or-keeps fault.BadLevel a b n = ap (λ o. or_named o b) n

-- ---- one behind the other

pub added-both : (xs ys : List Kept) (a b c : List ℕ) → IsAdded xs a b → IsAdded ys b c → IsAdded (xs ++ ys) a c
added-both xs ys a b c p q = record {
  are = q.are ∙ ap (λ t. t ++ records ys) p.are ∙ append_assoc a (records xs) (records ys) ∙ ap (λ t. a ++ t) (sym (records-both xs ys));
  writable = refusal-both xs ys ∙ ap (λ o. or_named o (first_refusal ys)) p.writable ∙ q.writable;
}

pub named-left : (e : PacketFault) (xs ys : List Kept) → IsNamedIn e xs → IsNamedIn e (xs ++ ys)
named-left e xs ys n = record { named = subst (IsNamed e) (sym (refusal-both xs ys)) (or-keeps e (first_refusal xs) (first_refusal ys) n.named) }

pub named-right : (e : PacketFault) (xs ys : List Kept) → first_refusal xs ≡ None → IsNamedIn e ys → IsNamedIn e (xs ++ ys)
named-right e xs ys w n = record { named = subst (IsNamed e) (sym (refusal-both xs ys ∙ ap (λ o. or_named o (first_refusal ys)) w)) n.named }

pub begins-self : (a : List ℕ) → Begins a a
begins-self a = record { more = []; are = sym (append-nil a) }

pub begins-added : (xs : List Kept) (a b : List ℕ) → IsAdded xs a b → Begins a b
begins-added xs a b p = record { more = records xs; are = p.are }

pub begins-both : (a b c : List ℕ) → Begins a b → Begins b c → Begins a c
begins-both a b c p q = record { more = p.more ++ q.more; are = q.are ∙ ap (λ t. t ++ q.more) p.are ∙ append_assoc a p.more q.more }

pub front-again : (a b : List ℕ) → Begins a b → take (length a) b ≡ a
front-again a b p = ap (take (length a)) p.are ∙ front a p.more
  where
    front : (xs ys : List ℕ) → take (length xs) (xs ++ ys) ≡ xs
    front [] ys = refl
    front (x ∷ xs) ys = ap (λ t. x ∷ t) (front xs ys)

-- ---- what two calls come to, one behind the other

pub on-both : {E : Type 0} (r : Result (Unit {0}) E) (P Q : Type 0) → (P → Q) → OnOk r P → OnOk r Q
on-both (Ok x) P Q f p = f p
on-both (Err e) P Q f p = tt

pub if-both : {E : Type 0} (r : Result (Unit {0}) E) (P Q : E → Type 0) → ((e : E) → P e → Q e) → IfErr r P → IfErr r Q
if-both (Ok x) P Q f p = tt
if-both (Err e) P Q f p = f e p

-- ---- in the midst of lines

-- of all these lines the rest is still to be added
pub record Going (all rest : List Kept) (old new : List ℕ) : Type 0 where
  pub begins : Begins old new
  pub are : new ++ records rest ≡ old ++ records all
  pub fine : first_refusal rest ≡ first_refusal all

pub going-first : (all : List Kept) (a : List ℕ) → Going all all a a
going-first all a = record { begins = begins-self a; are = refl; fine = refl }

going-on : (all ls rest : List Kept) (a b c : List ℕ) → Going all (ls ++ rest) a b → IsAdded ls b c → Going all rest a c
going-on all ls rest a b c g q = record {
  begins = begins-both a b c g.begins (begins-added ls b c q);
  are = ap (λ t. t ++ records rest) q.are ∙ append_assoc b (records ls) (records rest) ∙ ap (λ t. b ++ t) (sym (records-both ls rest)) ∙ g.are;
  fine = sym (refusal-both ls rest ∙ ap (λ o. or_named o (first_refusal rest)) q.writable) ∙ g.fine;
}

going-over : (all rest : List Kept) (a b : List ℕ) → Going all rest a b → rest ≡ [] → IsAdded all a b
going-over all rest a b g e = record {
  are = sym (append-nil b) ∙ ap (λ r. b ++ records r) (sym e) ∙ g.are;
  writable = sym g.fine ∙ ap first_refusal e;
}

going-fails : (e : PacketFault) (all ls rest : List Kept) (a b : List ℕ) → Going all (ls ++ rest) a b → IsNamedIn e ls → IsNamedIn e all
going-fails e all ls rest a b g n = record { named = subst (IsNamed e) g.fine (named-left e ls rest n).named }

-- ---- places

pub drop-at : {X : Type 0} (xs : List X) (at : ℕ) (x : X) → slice_get xs at ≡ Some x → drop at xs ≡ x ∷ drop (suc at) xs
drop-at [] at x e = cc
drop-at (y ∷ ys) zero x e = cc
drop-at (y ∷ ys) (suc at) x e = drop-at ys at x e

pub drop-none : {X : Type 0} (xs : List X) (at : ℕ) → slice_get xs at ≡ None → drop at xs ≡ []
drop-none [] zero e = refl
drop-none [] (suc at) e = refl
drop-none (y ∷ ys) zero e = cc
drop-none (y ∷ ys) (suc at) e = drop-none ys at e

pub one-more : (at : ℕ) → suc at ≡ at + 1
one-more at = omega arith

one-added : (l : Kept) (b c : List ℕ) → c ≡ b ++ line_record l → line_refusal l.packet ≡ None → IsAdded (l ∷ []) b c
one-added l b c e w = record {
  are = e ∙ ap (λ t. b ++ t) (sym (append-nil (line_record l)));
  writable = ap (λ o. or_named o None) w;
}

pub next-line : (all : List Kept) (at : ℕ) (l : Kept) (a b c : List ℕ) → Going all (drop at all) a b → Some l ≡ slice_get all at → c ≡ b ++ line_record l
    → line_refusal l.packet ≡ None → Going all (drop (at + 1) all) a c
next-line all at l a b c g e p w =
    let r : drop at all ≡ l ∷ drop (at + 1) all = drop-at all at l (sym e) ∙ ap (λ n. l ∷ drop n all) (one-more at) in
    going-on all (l ∷ []) (drop (at + 1) all) a b c (subst (λ rest. Going all rest a b) r g) (one-added l b c p w)

pub no-line : (all : List Kept) (at : ℕ) (a b : List ℕ) → Going all (drop at all) a b → None ≡ slice_get all at → IsAdded all a b
no-line all at a b g e = going-over all (drop at all) a b g (drop-none all at (sym e))

pub line-fails : (e : PacketFault) (all : List Kept) (at : ℕ) (l : Kept) (a b : List ℕ) → Going all (drop at all) a b → Some l ≡ slice_get all at
    → IsNamed e (line_refusal l.packet) → IsNamedIn e all
line-fails e all at l a b g is n =
    let r : drop at all ≡ l ∷ drop (suc at) all = drop-at all at l (sym is) in
    going-fails e all (l ∷ []) (drop (suc at) all) a b (subst (λ rest. Going all rest a b) r g) (record { named = or-keeps e (line_refusal l.packet) None n })

pub next-lines : {X : Type 0} (f : X → List Kept) (xs : List X) (at : ℕ) (x : X) (a b c : List ℕ) → Going (flat_map f xs) (flat_map f (drop at xs)) a b → Some x ≡ slice_get xs at
    → IsAdded (f x) b c → Going (flat_map f xs) (flat_map f (drop (at + 1) xs)) a c
next-lines {X} f xs at x a b c g e p =
    let r : drop at xs ≡ x ∷ drop (at + 1) xs = drop-at xs at x (sym e) ∙ ap (λ n. x ∷ drop n xs) (one-more at) in
    going-on (flat_map f xs) (f x) (flat_map f (drop (at + 1) xs)) a b c (subst (λ rest. Going (flat_map f xs) (flat_map f rest) a b) r g) p

pub no-lines : {X : Type 0} (f : X → List Kept) (xs : List X) (at : ℕ) (a b : List ℕ) → Going (flat_map f xs) (flat_map f (drop at xs)) a b → None ≡ slice_get xs at
    → IsAdded (flat_map f xs) a b
no-lines {X} f xs at a b g e = going-over (flat_map f xs) (flat_map f (drop at xs)) a b g (ap (flat_map f) (drop-none xs at (sym e)))

pub lines-fail : {X : Type 0} (e : PacketFault) (f : X → List Kept) (xs : List X) (at : ℕ) (x : X) (a b : List ℕ) → Going (flat_map f xs) (flat_map f (drop at xs)) a b
    → Some x ≡ slice_get xs at → IsNamedIn e (f x) → IsNamedIn e (flat_map f xs)
lines-fail {X} e f xs at x a b g is n =
    let r : drop at xs ≡ x ∷ drop (suc at) xs = drop-at xs at x (sym is) in
    going-fails e (flat_map f xs) (f x) (flat_map f (drop (suc at) xs)) a b (subst (λ rest. Going (flat_map f xs) (flat_map f rest) a b) r g) n
