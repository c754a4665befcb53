-- What is retained can be written, where what is to be retained can.
use Rattle.std.proofs.Common.{◌≡◌, ℕ, zero, suc, Bool, true, false, not, ◌&&◌, ◌||◌, cond, List, [], ◌∷◌, ◌++◌, length, map, Some, refl, sym, ap, subst, true≢false}
use Rattle.std.specs.Prelude.{nat_lt, unwrap_or}
use Rattle.std.specs.List.{list_all, slice_get}
use Rattle.std.specs.Str.{bytes_eq}
use Rattle.std.proofs.lemmas.Slice.Eq.{bytes_eq-Decides}
use Rattle.spk_broker_rules.specs.Data as plain
use Rattle.spk_broker_rules.specs.Step.{retained_with}
use Rattle.spk_broker_rules.specs.Table.{Table, has, put, remove, replaced}
use Rattle.spk_packets.specs.Spelling.{is_empty}
use Rattle.spk_broker_rules.specs.Words.{most_topics, stored}
use Rattle.spk_broker.specs.Sendable.{are_sendable, is_sendable}

and-join : (a b : Bool) → a ≡ true → b ≡ true → (a && b) ≡ true
and-join true b p q = q
and-join false b p q = p

and-left : (a b : Bool) → (a && b) ≡ true → a ≡ true
and-left true b e = refl
and-left false b e = e

and-right : (a b : Bool) → (a && b) ≡ true → b ≡ true
and-right true b e = e
and-right false b e = absurd (true≢false (sym e))

-- a retained message can be written
abbrev is_good : List ℕ × plain.Stored → Bool
is_good e = is_sendable e.0 e.1.payload e.1.qos

good-replaced : (key : List ℕ) (v : plain.Stored) (e : List ℕ × plain.Stored) → is_good (key, v) ≡ true → is_good e ≡ true → is_good (replaced key v e) ≡ true
good-replaced key v e new old = by (bytes_eq e.0 key) (λ same. subst (λ k. is_good (k, v) ≡ true) (sym ((bytes_eq-Decides e.0 key).0 same)) new)
  where
    by : (b : Bool) → (b ≡ true → is_good (e.0, v) ≡ true) → is_good (cond b (e.0, v) e) ≡ true
    by true f = f refl
    by false f = old

good-each : (key : List ℕ) (v : plain.Stored) (t : Table plain.Stored) → is_good (key, v) ≡ true → list_all is_good t ≡ true → list_all is_good (map (replaced key v) t) ≡ true
good-each key v [] new old = refl
good-each key v (e ∷ es) new old = and-join _ _ (good-replaced key v e new (and-left _ _ old)) (good-each key v es new (and-right _ _ old))

good-last : (e : List ℕ × plain.Stored) (t : Table plain.Stored) → is_good e ≡ true → list_all is_good t ≡ true → list_all is_good (t ++ e ∷ []) ≡ true
good-last e [] new old = and-join _ _ new refl
good-last e (x ∷ xs) new old = and-join _ _ (and-left _ _ old) (good-last e xs new (and-right _ _ old))

good-put : (key : List ℕ) (v : plain.Stored) (t : Table plain.Stored) → is_good (key, v) ≡ true → list_all is_good t ≡ true → list_all is_good (put key v t) ≡ true
good-put key v t new old = by (has key t)
  where
    by : (b : Bool) → list_all is_good (cond b (map (replaced key v) t) (t ++ (key, v) ∷ [])) ≡ true
    by true = good-each key v t new old
    by false = good-last (key, v) t new old

good-removed : (key : List ℕ) (t : Table plain.Stored) → list_all is_good t ≡ true → list_all is_good (remove key t) ≡ true
good-removed key [] old = refl
good-removed key (e ∷ es) old = by (not (bytes_eq e.0 key)) (good-removed key es (and-right _ _ old))
  where
    by : (b : Bool) → list_all is_good (remove key es) ≡ true → list_all is_good (cond b (e ∷ remove key es) (remove key es)) ≡ true
    by true rest = and-join _ _ (and-left _ _ old) rest
    by false rest = rest

pub good-retained : (m : plain.AppMessage) (t : Table plain.Stored) → is_sendable m.topic m.payload m.qos ≡ true → are_sendable t ≡ true → are_sendable (retained_with t m) ≡ true
unfolding are_sendable
good-retained m t new old = by m.retain (is_empty m.payload) (has m.topic t || nat_lt (length t) most_topics)
  where
    by : (a b c : Bool) → list_all is_good (cond a (cond b (remove m.topic t) (cond c (put m.topic (stored m) t) t)) t) ≡ true
    by false b c = old
    by true true c = good-removed m.topic t old
    by true false true = good-put m.topic (stored m) t new old
    by true false false = old

-- one of them
good-at : {X : Type 0} (test : X → Bool) (xs : List X) (i : ℕ) (x : X) → list_all test xs ≡ true → slice_get xs i ≡ Some x → test x ≡ true
good-at test [] i x all e = absurd cc
good-at test (y ∷ ys) zero x all e = subst (λ z. test z ≡ true) (ap (λ o. unwrap_or o y) e) (and-left _ _ all)
good-at test (y ∷ ys) (suc i) x all e = good-at test ys i x (and-right _ _ all) e

pub sendable-at : (t : Table plain.Stored) (i : ℕ) (e : List ℕ × plain.Stored) → are_sendable t ≡ true → slice_get t i ≡ Some e → is_sendable e.0 e.1.payload e.1.qos ≡ true
unfolding are_sendable
sendable-at t i e all at = good-at is_good t i e all at

pub none-sendable : are_sendable [] ≡ true
unfolding are_sendable
none-sendable = refl
