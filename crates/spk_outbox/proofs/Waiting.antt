-- What waits, after each call.
use Rattle.std.proofs.Common.{◌≡◌, ℕ, zero, suc, ◌+◌, ◌-◌, ◌≤◌, nat_le, true, false, if◌then◌else◌, List, [], ◌∷◌, ◌++◌, length, take, drop, refl, sym, subst, ◌∙◌, ap, arith, append_assoc, length-append}
use Rattle.std.specs.List.{concat}
use Rattle.std.proofs.lemmas.Bool.{leb-true}
use Rattle.std.proofs.lemmas.List.{take-append-drop, drop-append-le, append-nil}
use Rattle.std.proofs.lemmas.List.Folds.{concat-append}
use Rattle.std.proofs.Math.Seq.{drop-append-add, take-append_seam, take-append-add}
use Rattle.spk_outbox.specs.Data.{Outbox, IsPartOfFirst, waiting}
use Rattle.spk_outbox.specs.Step.{put, left_of, written}
use Rattle.spk_outbox.specs.Calls.{Call, Took, Wrote, after, owed, sent}

pub drop-nil : (n : ℕ) → drop n (let e : List ℕ = [] in e) ≡ []
drop-nil zero = refl
drop-nil (suc n) = refl

-- first so many, then some more
pub drop-more : (n m : ℕ) (l : List ℕ) → drop (n + m) l ≡ drop m (drop n l)
drop-more zero m l = let e : 0 + m ≡ m = omega arith in rw e refl
drop-more (suc n) m [] = drop-nil (suc n + m) ∙ sym (drop-nil m)
drop-more (suc n) m (x ∷ xs) = let e : suc n + m ≡ suc (n + m) = omega arith in rw e (drop-more n m xs)

-- what stands behind one list and some of the next
pub drop-past : (n : ℕ) (p rest : List ℕ) → length p ≤ n → drop n (p ++ rest) ≡ drop (n - length p) rest
drop-past n p rest le =
    let e : n ≡ length p + (n - length p) = omega arith in
    ap (λ k. drop k (p ++ rest)) e ∙ drop-append-add p rest (n - length p)

-- of the packets that are left, what waits is all that waits
pub drops : (n : ℕ) (ps : List (List ℕ)) → drop (left_of n ps).written (concat (left_of n ps).packets) ≡ drop n (concat ps)
drops n [] = sym (drop-nil n)
drops n (p ∷ ps) =
    elim (nat_le (length p) n) as (λ b. nat_le (length p) n ≡ b
    → drop (if b then left_of (n - length p) ps else record { packets = p ∷ ps; written = n }).written (concat (if b then left_of (n - length p) ps else record { packets = p ∷ ps; written = n }).packets) ≡ drop n (p ++ concat ps)) [
      | true ↦ λ e. drops (n - length p) ps ∙ sym (drop-past n p (concat ps) (leb-true _ _ e))
      | false ↦ λ e. refl
    ] refl

pub first_in_all : (n : ℕ) (ps : List (List ℕ)) → IsPartOfFirst n ps → n ≤ length (concat ps)
first_in_all n [] h = h
first_in_all n (p ∷ ps) h = rw length-append (omega arith)

pub put_part : (n : ℕ) (p : List ℕ) (ps : List (List ℕ)) → IsPartOfFirst n ps → IsPartOfFirst n (ps ++ p ∷ [])
put_part n p [] h = omega arith
put_part n p (q ∷ ps) h = h

pub not_whole : (n : ℕ) (p : List ℕ) → nat_le (length p) n ≡ false → n ≤ length p
not_whole n p e = grind arith

pub left_part : (n : ℕ) (ps : List (List ℕ)) → IsPartOfFirst (left_of n ps).written (left_of n ps).packets
left_part n [] = omega arith
left_part n (p ∷ ps) =
    elim (nat_le (length p) n) as (λ b. nat_le (length p) n ≡ b
    → IsPartOfFirst (if b then left_of (n - length p) ps else record { packets = p ∷ ps; written = n }).written (if b then left_of (n - length p) ps else record { packets = p ∷ ps; written = n }).packets) [
      | true ↦ λ e. left_part (n - length p) ps
      | false ↦ λ e. not_whole n p e
    ] refl

pub put_waits : (p : List ℕ) (o : Outbox) → IsPartOfFirst o.written o.packets → waiting (put p o) ≡ waiting o ++ p
put_waits p o h =
    ap (drop o.written) (concat-append o.packets (p ∷ []) ∙ ap (λ x. concat o.packets ++ x) (append-nil p))
    ∙ drop-append-le o.written (concat o.packets) p (first_in_all o.written o.packets h)

pub written_waits : (n : ℕ) (o : Outbox) → waiting (written n o) ≡ drop n (waiting o)
written_waits n o = drops (o.written + n) o.packets ∙ drop-more o.written n (concat o.packets)

-- what is written from here on and what waits then are what waits now and what is owed from here on
pub owes : (calls : List Call) (o : Outbox) → IsPartOfFirst o.written o.packets
    → sent calls o ++ waiting (after calls o) ≡ waiting o ++ owed calls
owes [] o h = sym (append-nil (waiting o))
owes (Took p ∷ cs) o h =
    owes cs (put p o) (put_part o.written p o.packets h)
    ∙ ap (λ w. w ++ owed cs) (put_waits p o h)
    ∙ append_assoc (waiting o) p (owed cs)
owes (Wrote n ∷ cs) o h =
    append_assoc (take n (waiting o)) (sent cs (written n o)) (waiting (after cs (written n o)))
    ∙ ap (λ x. take n (waiting o) ++ x) (owes cs (written n o) (left_part (o.written + n) o.packets))
    ∙ ap (λ x. take n (waiting o) ++ (x ++ owed cs)) (written_waits n o)
    ∙ sym (append_assoc (take n (waiting o)) (drop n (waiting o)) (owed cs))
    ∙ ap (λ w. w ++ owed cs) (take-append-drop n (waiting o))

-- joined so far, of what stood before and all that waits
pub joined : (old batch waits rest : List ℕ) → batch ++ rest ≡ old ++ waits → length old ≤ length batch
    → batch ≡ old ++ take (length batch - length old) waits
joined old batch waits rest e le =
    let n : length batch ≡ length old + (length batch - length old) = omega arith in
    sym (take-append_seam batch rest)
    ∙ ap (take (length batch)) e
    ∙ ap (λ k. take k (old ++ waits)) n
    ∙ take-append-add old waits (length batch - length old)

-- the same where of the next packet a front was joined
pub joined_part : (old batch new waits rest p : List ℕ) (ps qs : List (List ℕ)) (n : ℕ) → IsPartOfFirst n qs → qs ≡ p ∷ ps
    → batch ++ drop n (concat qs) ≡ old ++ waits → length old ≤ length batch → new ++ rest ≡ batch ++ drop n p → length batch ≤ length new
    → new ≡ old ++ take (length new - length old) waits
joined_part old batch new waits rest p ps qs n h q e le f longer =
    let part : n ≤ length p = subst (IsPartOfFirst n) q h in
    joined old new waits (rest ++ concat ps)
    (sym (append_assoc new rest (concat ps))
    ∙ ap (λ x. x ++ concat ps) f
    ∙ append_assoc batch (drop n p) (concat ps)
    ∙ ap (λ x. batch ++ x) (sym (drop-append-le n p (concat ps) part) ∙ sym (ap (λ x. drop n (concat x)) q))
    ∙ e)
    (omega (arith, le, longer))
