-- Sessions that a message is handed to one after the other, in place.
use Rattle.std.proofs.Common.{◌≡◌, ℕ, zero, suc, ◌+◌, ◌<◌, ◌≤◌, List, [], ◌∷◌, ◌++◌, length, map, take, drop, set, get_or, refl, sym, ap, ◌∙◌, arith, append_assoc, Option, Some, None}
use Rattle.std.specs.List.{flat_map}
use Rattle.spk_broker_rules.specs.Data as plain
use Rattle.spk_broker_rules.specs.Step.{Served}
use Rattle.spk_broker_rules.specs.Words.{option_list}
use Rattle.spk_broker.specs.Both.{Both}
use Rattle.spk_broker.specs.Drafts.{Drafted, left_by, served_by, with_served}
use Rattle.spk_broker.specs.Rounds.{with_round, left_of_round}
use Rattle.spk_broker.specs.Sent.{outgoing}
use Rattle.spk_broker.specs.View.{session_was, session_now}
use Rattle.std.proofs.lemmas.List.{map-append}

-- one session after the other
abbrev pub round_all : (plain.Session → Served) → List Both → Drafted → Drafted
round_all f [] d = d
round_all f (b ∷ bs) d = round_all f bs (served_by f b.now d)

abbrev pub left_all : (plain.Session → Served) → List Both → List plain.Session
left_all f bs = flat_map (λ (b : Both). left_by f b.now) bs

-- the first i as they are left, the others as they will be
abbrev pub left_so_far : (plain.Session → Served) → List Both → ℕ → List plain.Session
left_so_far f bs i = flat_map session_now (take i bs) ++ left_all f (drop i bs)

-- what was before stays in view
pub was-step : (cur : List Both) (i : ℕ) (d x new : Both) → x ≡ get_or cur i d → new.was ≡ x.was → map session_was (set cur i new) ≡ map session_was cur
was-step [] i d x new is was = refl
was-step (c ∷ cs) zero d x new is was = ap (λ w. w ∷ map session_was cs) (was ∙ ap (λ (b : Both). b.was) is)
was-step (c ∷ cs) (suc i) d x new is was = ap (λ w. c.was ∷ w) (was-step cs i d x new is was)

pub record Stepped (f : plain.Session → Served) (cur : List Both) (i : ℕ) (x new : Both) : Type 0 where
  pub was : map session_was (set cur i new) ≡ map session_was cur
  pub left : left_so_far f (set cur i new) (i + 1) ≡ left_so_far f cur i
  pub drafted : (d : Drafted) → round_all f (drop (i + 1) (set cur i new)) (served_by f x.now d) ≡ round_all f (drop i cur) d

pub round-step : (f : plain.Session → Served) (cur : List Both) (i : ℕ) (e x new : Both)
    → i < length cur → x ≡ get_or cur i e → new.was ≡ x.was → option_list new.now ≡ left_by f x.now → Stepped f cur i x new
round-step f [] i e x new lt is was left = absurd (omega (arith, lt))
round-step f (c ∷ cs) zero e x new lt is was left = record {
  was = ap (λ w. w ∷ map session_was cs) (was ∙ ap (λ (b : Both). b.was) is);
  left = ap (λ (l : List plain.Session). (l ++ []) ++ left_all f cs) left ∙ one (left_by f x.now) (left_all f cs)
      ∙ ap (λ (b : Both). left_by f b.now ++ left_all f cs) is;
  drafted = λ d. ap (λ (b : Both). round_all f cs (served_by f b.now d)) is;
}
  where
    one : (l m : List plain.Session) → (l ++ []) ++ m ≡ l ++ m
    one [] m = refl
    one (y ∷ l) m = ap (λ k. y ∷ k) (one l m)
round-step f (c ∷ cs) (suc i) e x new lt is was left =
    let z : suc i + 1 ≡ suc (i + 1) = omega arith in
    let later = round-step f cs i e x new (omega (arith, lt)) is was left in
    record {
      was = ap (λ w. c.was ∷ w) later.was;
      left = ap (λ k. left_so_far f (set (c ∷ cs) (suc i) new) k) z
          ∙ append_assoc (session_now c) (flat_map session_now (take (i + 1) (set cs i new))) (left_all f (drop (i + 1) (set cs i new)))
          ∙ ap (λ l. session_now c ++ l) later.left
          ∙ sym (append_assoc (session_now c) (flat_map session_now (take i cs)) (left_all f (drop i cs)));
      drafted = λ d. ap (λ k. round_all f (drop k (set (c ∷ cs) (suc i) new)) (served_by f x.now d)) z ∙ later.drafted d;
    }

-- ---- at the end

pub left-end : (f : plain.Session → Served) (bs : List Both) (i : ℕ) → length bs ≤ i → left_so_far f bs i ≡ flat_map session_now bs
left-end f [] zero le = refl
left-end f [] (suc i) le = refl
left-end f (b ∷ bs) zero le = absurd (omega (arith, le))
left-end f (b ∷ bs) (suc i) le =
    append_assoc (session_now b) (flat_map session_now (take i bs)) (left_all f (drop i bs))
    ∙ ap (λ l. session_now b ++ l) (left-end f bs i (omega (arith, le)))

pub drafted-end : (f : plain.Session → Served) (bs : List Both) (i : ℕ) (d : Drafted) → length bs ≤ i → round_all f (drop i bs) d ≡ d
drafted-end f [] zero d le = refl
drafted-end f [] (suc i) d le = refl
drafted-end f (b ∷ bs) zero d le = absurd (omega (arith, le))
drafted-end f (b ∷ bs) (suc i) d le = drafted-end f bs i d (omega (arith, le))

-- ---- as a whole

pub left-whole : (f : plain.Session → Served) (bs : List Both) → left_all f bs ≡ left_of_round f (flat_map session_now bs)
left-whole f [] = refl
left-whole f (b ∷ bs) = by b.now (left-whole f bs)
  where
    by : (o : Option plain.Session) → left_all f bs ≡ left_of_round f (flat_map session_now bs) → left_by f o ++ left_all f bs ≡ left_of_round f (option_list o ++ flat_map session_now bs)
    by None rest = rest
    by (Some s) rest = ap (λ l. (f s).left ++ l) rest

-- behind what one does, what the others do
with-more : (f : plain.Session → Served) (s : plain.Session) (ss : List plain.Session) (d : Drafted) → with_round f ss (with_served (f s) d) ≡ with_round f (s ∷ ss) d
with-more f s ss d =
    ap (λ x. record d {
      sends = x;
      closes = (d.closes ++ (f s).closes) ++ flat_map (λ (s : plain.Session). (f s).closes) ss;
      waiting = (d.waiting ++ (f s).wills) ++ flat_map (λ (s : plain.Session). (f s).wills) ss;
    })
    (append_assoc d.sends (map outgoing (f s).sends) (map outgoing (flat_map (λ (s : plain.Session). (f s).sends) ss))
    ∙ ap (λ l. d.sends ++ l) (sym (map-append outgoing (f s).sends (flat_map (λ (s : plain.Session). (f s).sends) ss))))
    ∙ ap (λ x. record d { sends = (with_round f (s ∷ ss) d).sends; closes = x; waiting = (d.waiting ++ (f s).wills) ++ flat_map (λ (s : plain.Session). (f s).wills) ss })
    (append_assoc d.closes (f s).closes (flat_map (λ (s : plain.Session). (f s).closes) ss))
    ∙ ap (λ x. record d { sends = (with_round f (s ∷ ss) d).sends; closes = (with_round f (s ∷ ss) d).closes; waiting = x })
    (append_assoc d.waiting (f s).wills (flat_map (λ (s : plain.Session). (f s).wills) ss))

-- nobody does nothing
none-more : (f : plain.Session → Served) (d : Drafted) → d ≡ with_round f [] d
none-more f d =
    ap (λ x. record d { sends = x }) (sym (end d.sends))
    ∙ ap (λ x. record d { sends = d.sends ++ []; closes = x }) (sym (end d.closes))
    ∙ ap (λ x. record d { sends = d.sends ++ []; closes = d.closes ++ []; waiting = x }) (sym (end d.waiting))
  where
    end : {X : Type 0} (xs : List X) → xs ++ [] ≡ xs
    end [] = refl
    end (x ∷ xs) = ap (λ ys. x ∷ ys) (end xs)

pub drafted-whole : (f : plain.Session → Served) (bs : List Both) (d : Drafted) → round_all f bs d ≡ with_round f (flat_map session_now bs) d
drafted-whole f [] d = none-more f d
drafted-whole f (b ∷ bs) d = by b.now (λ x. drafted-whole f bs x)
  where
    by : (o : Option plain.Session) → ((x : Drafted) → round_all f bs x ≡ with_round f (flat_map session_now bs) x) → round_all f bs (served_by f o d) ≡ with_round f (option_list o ++ flat_map session_now bs) d
    by None rest = rest d
    by (Some s) rest = rest (with_served (f s) d) ∙ with-more f s (flat_map session_now bs) d
