-- How often bells were rung.
use Rattle.std.proofs.Common.{◌≡◌, ◌∙◌, ℕ, ◌+◌, ◌-◌, ◌<◌, ◌^◌, min, refl, sym, ap, subst, arith, length, length-append, List, [], ◌∷◌, ◌++◌, Result, Ok, Err, OnErr}
use Rattle.std.specs.List.{AllByRecursion}
use Rattle.spk_plant_broker.specs.declared.bells.Bells.{Bells}
use Rattle.spk_plant_broker.specs.Bells.{AreRung}

none_more : (k : ℕ) → k < 2 ^ 64 → k ≡ min (2 ^ 64 - 1) (k + 0)
none_more k small = omega (arith, small)

counted_small : (j k : ℕ) → j ≡ min (2 ^ 64 - 1) k → j < 2 ^ 64
counted_small j k is = omega (arith, is)

more : (i j k n m : ℕ) → j ≡ min (2 ^ 64 - 1) (i + n) → k ≡ min (2 ^ 64 - 1) (j + m) → k ≡ min (2 ^ 64 - 1) (i + (n + m))
more i j k n m first then = omega (arith, first, then)

pub not_rung : (b : Bells) → AreRung 0 b b
not_rung b = record { same = refl; rung = none_more b.rung }

pub rung_more : (n m : ℕ) (a b c : Bells) → AreRung n a b → AreRung m b c → AreRung (n + m) a c
rung_more n m a b c first then = record {
  same = then.same ∙ first.same;
  rung = λ small.
      let before = first.rung small in
      more a.rung b.rung c.rung n m before (then.rung (counted_small b.rung (a.rung + n) before));
}

-- after one frame more
pub rung_frame : {A : Type 0} (xs ys : List A) (x : A) (a b c : Bells) → ys ≡ xs ++ x ∷ [] → AreRung (length xs) a b → AreRung 1 b c → AreRung (length ys) a c
rung_frame xs ys x a b c is first then =
    subst (λ n. AreRung n a c) (sym (ap length is ∙ length-append xs (x ∷ []))) (rung_more (length xs) 1 a b c first then)

pub on_err_any : {T E P : Type 0} (r : Result T E) → P → OnErr r P
on_err_any (Ok x) p = tt
on_err_any (Err e) p = p

-- and once more, after whatever went before
pub broke_once : {T E : Type 0} (r : Result T E) (a b c : Bells) → OnErr r ((n : ℕ) × AreRung n a b) → AreRung 1 b c → OnErr r ((n : ℕ) × AreRung (n + 1) a c)
broke_once (Ok x) a b c broke then = tt
broke_once (Err e) a b c broke then = (broke.0, rung_more broke.0 1 a b c broke.1 then)

-- one more, of whom the same holds
pub all_more : {A : Type 0} (P : A → Type 0) (xs ys : List A) (x : A) → ys ≡ xs ++ x ∷ [] → P x → AllByRecursion P xs → AllByRecursion P ys
all_more {A = A} P xs ys x is one all = subst (AllByRecursion P) (sym is) (go xs all)
  where
    go : (zs : List A) → AllByRecursion P zs → AllByRecursion P (zs ++ x ∷ [])
    go [] rest = (one, tt)
    go (z ∷ zs) rest = (rest.0, go zs rest.1)
