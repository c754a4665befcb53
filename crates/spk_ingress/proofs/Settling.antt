-- Passes that are given back.
use Rattle.std.proofs.Common.{◌≡◌, ℕ, ◌+◌, ◌<◌, Bool, true, false, ◌||◌, eqb, List, [], ◌∷◌, ◌++◌, length, set, get_or, refl, sym, ◌∙◌, ap, arith, inl, inr, subst, length-append}
use Rattle.std.proofs.lemmas.Bool.{cases_eq, eq-eqb, ne_eqb, or_left}
use Rattle.std.proofs.lemmas.List.{get_or-set_same, get_or-set_other, length-set}
use Rattle.spk_ingress.specs.declared.frame.Frame.{Frame}
use Rattle.spk_ingress.specs.declared.rule.Message.{Message}
use Rattle.spk_ingress.specs.declared.channel.Ingress.{Ingress}
use Rattle.spk_ingress.specs.declared.channel.PutPass.{PutPass}
use Rattle.spk_ingress.specs.Lanes.{share_of}
use Rattle.spk_ingress.specs.Passes.{PutsInto, AllPutInto, AllTaken, IsMarked, has_sender, frames_put}
use Rattle.spk_ingress.proofs.Shares.{share-append}

append_none : {A : Type 0} (xs : List A) → xs ++ [] ≡ xs
append_none [] = refl
append_none (x ∷ xs) = ap (λ ys. x ∷ ys) (append_none xs)

none_of : {A : Type 0} (xs : List A) → length xs ≡ 0 → xs ≡ []
none_of [] e = refl
none_of (x ∷ xs) e = absurd (omega arith)

-- a list that is continued, and is as long as the whole, is the whole
pub none_left : {A : Type 0} (xs ys zs : List A) → xs ++ ys ≡ zs → length xs ≡ length zs → xs ≡ zs
none_left xs ys zs e l =
    let both : length (xs ++ ys) ≡ length xs + length ys = length-append xs ys in
    let whole : length (xs ++ ys) ≡ length zs = ap length e in
    let none : ys ≡ [] = none_of ys (omega arith) in
    sym (append_none xs) ∙ ap (λ y. xs ++ y) (sym none) ∙ e

pub share_all : (i : ℕ) (taken items : List Message) (put : List Frame) → share_of i (taken ++ items) ≡ put → length (share_of i taken) ≡ length put → share_of i taken ≡ put
share_all i taken items put e l = none_left (share_of i taken) (share_of i items) put (sym (share-append i taken items) ∙ e) l

pub put_into_front : (n : Ingress) (ps : List PutPass) (p : PutPass) → AllPutInto n (ps ++ p ∷ []) → AllPutInto n ps × PutsInto n p
put_into_front n [] p all = (tt, all.0)
put_into_front n (q ∷ ps) p all = (let r : AllPutInto n ps × PutsInto n p = put_into_front n ps p all.1 in ((all.0, r.0), r.1))

pub taken_middle : (taken : List Message) (ps done : List PutPass) (p : PutPass) → AllTaken taken (ps ++ p ∷ done) → share_of p.sender taken ≡ frames_put p
taken_middle taken [] done p all = all.0
taken_middle taken (q ∷ ps) done p all = taken_middle taken ps done p all.1

-- one sender more is marked
pub marked_more : (n : Ingress) (marks : List Bool) (p : PutPass) (done : List PutPass) → p.sender < n.senders → IsMarked n marks done → IsMarked n (set marks p.sender true) (p ∷ done)
marked_more n marks p done below m =
    let sized : length marks ≡ n.senders = m.marked in
    record {
      marked = length-set marks p.sender true ∙ sized;
      each = λ i inside. elim (cases_eq p.sender i) [
        | inl own ↦ subst (λ j. get_or (set marks p.sender true) j false ≡ has_sender j (p ∷ done)) own
            (get_or-set_same marks p.sender true false (omega arith) ∙ sym (or_left (eqb p.sender p.sender) (has_sender p.sender done) (eq-eqb p.sender p.sender refl)))
        | inr other ↦ get_or-set_other marks p.sender i true false (λ e. absurd (other (sym e))) ∙ m.each i inside
            ∙ sym (ap (λ b. b || has_sender i done) (ne_eqb p.sender i other))
      ];
    }
