-- One settled session is changed.
use Rattle.std.proofs.Common.{◌≡◌, ℕ, zero, suc, ◌<◌, ◌≤◌, true, false, Bool, List, [], ◌∷◌, ◌++◌, length, map, set, get_or, refl, sym, ap, ◌∙◌, subst, arith, Option, Some, None}
use Rattle.std.proofs.lemmas.List.Quantifiers.{position-Some}
use Rattle.std.specs.List.{find, position}
use Rattle.spk_broker_rules.specs.Data.{Session}
use Rattle.spk_broker_rules.specs.Lawful.{Rises}
use Rattle.spk_broker_rules.specs.Step.{swap}
use Rattle.spk_broker_rules.specs.Words.{option_list}
use Rattle.spk_broker.specs.Asking.{passes, session_here, sessions_now}
use Rattle.spk_broker.specs.Both.{Both}
use Rattle.spk_broker.specs.Changes.{IsChanged, changed_at, forgot}
use Rattle.spk_broker.specs.Entering.{whole}
use Rattle.spk_broker.specs.View.{session_was}
use Rattle.spk_broker.proofs.Alive.{found-alive, lost-alive}
use Rattle.spk_broker.proofs.Places.{swap-at}
use Rattle.std.specs.Option.{option_map, option_map_or}

-- no more are there by now than were
few : (bs : List Both) → length (sessions_now bs) ≤ length bs
few [] = omega arith
few (b ∷ bs) = by b.now (few bs)
  where
    by : (o : Option Session) → length (sessions_now bs) ≤ length bs → length (option_list o ++ sessions_now bs) ≤ length (b ∷ bs)
    by None le = omega arith
    by (Some s) le = omega arith

length-was : (bs : List Both) → length (map session_was bs) ≡ length bs
length-was [] = refl
length-was (b ∷ bs) = ap suc (length-was bs)

-- where what is there is what was there, it is so of each
pub whole-at : (bs : List Both) (i : ℕ) (d : Both) → sessions_now bs ≡ map session_was bs → i < length bs → get_or bs i d ≡ whole (get_or bs i d).was
whole-at [] i d e lt = absurd (omega arith)
whole-at (b ∷ bs) i d e lt = by b.now refl e i lt (λ f j less. whole-at bs j d f less)
  where
    by : (o : Option Session) → b.now ≡ o → option_list o ++ sessions_now bs ≡ b.was ∷ map session_was bs → (j : ℕ) → j < length (b ∷ bs)
        → (sessions_now bs ≡ map session_was bs → (k : ℕ) → k < length bs → get_or bs k d ≡ whole (get_or bs k d).was)
        → get_or (b ∷ bs) j d ≡ whole (get_or (b ∷ bs) j d).was
    by None is f j less rest = absurd (let n = few bs in let m : length (sessions_now bs) ≡ suc (length (map session_was bs)) = ap length f in omega (arith, length-was bs, n, m))
    by (Some s) is f zero less rest = let same : s ≡ b.was = cc in ap (λ (o : Option Session). record b { now = o }) (is ∙ ap (λ (x : Session). Some x) same)
    by (Some s) is f (suc k) less rest = let tail : sessions_now bs ≡ map session_was bs = cc in rest tail k (omega arith)

-- and it stays so where one is written
pub settled-set : (bs : List Both) (i : ℕ) (x : Session) → sessions_now bs ≡ map session_was bs → sessions_now (set bs i (whole x)) ≡ map session_was (set bs i (whole x))
settled-set [] i x e = e
settled-set (b ∷ bs) i x e = by b.now refl e i (λ f j. settled-set bs j x f)
  where
    by : (o : Option Session) → b.now ≡ o → option_list o ++ sessions_now bs ≡ b.was ∷ map session_was bs → (j : ℕ)
        → (sessions_now bs ≡ map session_was bs → (k : ℕ) → sessions_now (set bs k (whole x)) ≡ map session_was (set bs k (whole x)))
        → sessions_now (set (b ∷ bs) j (whole x)) ≡ map session_was (set (b ∷ bs) j (whole x))
    by None is f j rest = absurd (let n = few bs in let m : length (sessions_now bs) ≡ suc (length (map session_was bs)) = ap length f in omega (arith, length-was bs, n, m))
    by (Some s) is f zero rest = let tail : sessions_now bs ≡ map session_was bs = cc in ap (λ xs. x ∷ xs) tail
    by (Some s) is f (suc k) rest =
        let same : s ≡ b.was = cc in let tail : sessions_now bs ≡ map session_was bs = cc in
        ap (λ o. option_list o ++ sessions_now (set bs k (whole x))) is ∙ ap (λ y. y ∷ sessions_now (set bs k (whole x))) same ∙ ap (λ xs. b.was ∷ xs) (rest tail k)

-- the one that was found is changed
pub change-found : (test : Session → Bool) (change : Session → Session) (bs : List Both) (i : ℕ) (d : Both) → sessions_now bs ≡ map session_was bs → position (passes test) bs ≡ Some i
    → IsChanged bs (set bs i (whole (change (get_or bs i d).was))) test change
change-found test change bs i d e f =
    let at = found-alive session_here test bs i d f in
    let lt : i < length bs = at.0 in
    let one : (get_or bs i d).now ≡ Some (get_or bs i d).was = ap (λ (b : Both). b.now) (whole-at bs i d e lt) in
    let there : find test (map session_was bs) ≡ Some (get_or bs i d).was = ap (find test) (sym e) ∙ at.1 ∙ one in
    record {
      done = λ top r.
          sym (settled-set bs i (change (get_or bs i d).was) e)
          ∙ sym (swap-at bs i d (whole (change (get_or bs i d).was)) (get_or bs i d).was 0 top (subst (Rises 0 top) (sym e) r) lt one)
          ∙ ap (swap (get_or bs i d).was.key (change (get_or bs i d).was ∷ [])) e
          ∙ ap (λ o. changed_at o change (map session_was bs)) (sym there);
      settled = settled-set bs i (change (get_or bs i d).was) e;
    }

pub change-lost : (test : Session → Bool) (change : Session → Session) (bs : List Both) → sessions_now bs ≡ map session_was bs → position (passes test) bs ≡ None
    → IsChanged bs bs test change
change-lost test change bs e f = record {
  done = λ top r. ap (λ o. changed_at o change (map session_was bs)) (sym (ap (find test) (sym e) ∙ lost-alive session_here test bs f));
  settled = e;
}

-- where one was found, it is there
pub is-there : (test : Session → Bool) (o : Option Session) → option_map_or test o false ≡ true → (s : Session) × (o ≡ Some s)
is-there test None e = cc
is-there test (Some s) e = (s, refl)

-- the one that was found ends
pub end-found : (test : Session → Bool) (bs : List Both) (i : ℕ) (d : Both) (low top : ℕ) → position (passes test) bs ≡ Some i → passes test (get_or bs i d) ≡ true
    → Rises low top (sessions_now bs) → sessions_now (set bs i (record (get_or bs i d) { now = None })) ≡ forgot (find test (sessions_now bs)) (sessions_now bs)
end-found test bs i d low top e passed r =
    let at = found-alive session_here test bs i d e in
    let there = is-there test (get_or bs i d).now passed in
    sym (swap-at bs i d (record (get_or bs i d) { now = None }) there.0 low top r at.0 there.1)
    ∙ ap (λ o. forgot o (sessions_now bs)) (sym (at.1 ∙ there.1))

pub end-lost : (test : Session → Bool) (bs : List Both) → position (passes test) bs ≡ None → sessions_now bs ≡ forgot (find test (sessions_now bs)) (sessions_now bs)
end-lost test bs e = ap (λ o. forgot o (sessions_now bs)) (sym (lost-alive session_here test bs e))

-- the one that was found is changed, in the midst of a call
pub change-now : (test : Session → Bool) (change : Session → Session) (bs : List Both) (i : ℕ) (d b : Both) (low top : ℕ) → position (passes test) bs ≡ Some i
    → b.now ≡ option_map change (get_or bs i d).now → Rises low top (sessions_now bs)
    → sessions_now (set bs i b) ≡ changed_at (find test (sessions_now bs)) change (sessions_now bs)
change-now test change bs i d b low top e new r =
    let at = found-alive session_here test bs i d e in
    let there = is-there test (get_or bs i d).now (position-Some (passes test) bs i d e).1 in
    let now : b.now ≡ Some (change there.0) = new ∙ ap (option_map change) there.1 in
    sym (swap-at bs i d b there.0 low top r at.0 there.1)
    ∙ ap (λ o. swap there.0.key (option_list o) (sessions_now bs)) now
    ∙ ap (λ o. changed_at o change (sessions_now bs)) (sym (at.1 ∙ there.1))

pub change-none : (test : Session → Bool) (change : Session → Session) (bs : List Both) → position (passes test) bs ≡ None → sessions_now bs ≡ changed_at (find test (sessions_now bs)) change (sessions_now bs)
change-none test change bs e = ap (λ o. changed_at o change (sessions_now bs)) (sym (lost-alive session_here test bs e))
