-- The first moment of a table's clients, and whose has come: entry by entry.
use Rattle.std.proofs.Common.{◌≡◌, ◌⊎◌, inl, inr, ℕ, suc, ◌≤◌, min, nat_eq, if◌then◌else◌, Bool, true, false, cond, List, [], ◌∷◌, All, Option, Some, None, refl, sym, ◌∙◌, ap, subst, arith}
use Rattle.std.specs.Option.{option_map_or, IfNone, IfSome}
use Rattle.std.specs.Map.{lookup}
use Rattle.spk_clients.specs.declared.client.Client.{Client}
use Rattle.spk_clients.specs.Client.{has_moment, is_due, is_to_shut, most_number}
use Rattle.spk_clients.specs.Data.{IsEarly, IsSoonest}

abbrev pub Entry : Type 0
Entry = ℕ × Client

-- ---- the first moment

abbrev pub sooner : ℕ → Entry → ℕ
sooner m e = if has_moment e.1.phase then min m e.1.until else m

abbrev pub soonest_among : ℕ → List Entry → ℕ
soonest_among m [] = m
soonest_among m (e ∷ es) = soonest_among (sooner m e) es

sooner_by : (b : Bool) (m u : ℕ) → (if b then min m u else m) ≤ m
sooner_by true m u = omega arith
sooner_by false m u = omega arith

among_less : (m : ℕ) (es : List Entry) → soonest_among m es ≤ m
among_less m [] = omega arith
among_less m (e ∷ es) =
    let here : sooner m e ≤ m = sooner_by (has_moment e.1.phase) m e.1.until in
    let rest : soonest_among (sooner m e) es ≤ sooner m e = among_less (sooner m e) es in
    omega (arith, here, rest)

within : (b : Bool) (m u x : ℕ) → x ≤ (if b then min m u else m) → b ≡ true → x ≤ u
within true m u x h t = omega (arith, h)
within false m u x h t = cc

at_key : (b : Bool) (c : Client) (o : Option Client) (x : ℕ) → (has_moment c.phase ≡ true → x ≤ c.until)
    → IfSome o (λ d. has_moment d.phase ≡ true → x ≤ d.until) → IfSome (cond b (Some c) o) (λ d. has_moment d.phase ≡ true → x ≤ d.until)
at_key true c o x h rest = h
at_key false c o x h rest = rest

pub among_early : (m : ℕ) (es : List Entry) → IsEarly (soonest_among m es) (λ k. lookup (nat_eq k) es)
among_early m [] = λ k. tt
among_early m (e ∷ es) = λ k.
    at_key (nat_eq k e.0) e.1 (lookup (nat_eq k) es) (soonest_among (sooner m e) es)
    (within (has_moment e.1.phase) m e.1.until _ (among_less (sooner m e) es))
    (among_early (sooner m e) es k)

-- the moment of one of these
abbrev pub IsOneOf : (ℕ → Option Client) → ℕ → Type 0
IsOneOf clients moment = (k : ℕ) × (c : Client) × (clients k ≡ Some c) × (has_moment c.phase ≡ true) × (moment ≡ c.until)

pub tail_found : (P : Entry → Type 0) (e : Entry) (es : List Entry) → All P (e ∷ es) → All P es
tail_found P e es h = λ k d lt. h (suc k) d (omega (arith, lt))

pub head_found : (P : Entry → Type 0) (e : Entry) (es : List Entry) → All P (e ∷ es) → P e
head_found P e es h = h 0 e (omega arith)

min_is : (m u : ℕ) → (min m u ≡ m) ⊎ (min m u ≡ u)
min_is m u = grind arith

sooner_is : (b : Bool) (m u : ℕ) → ((if b then min m u else m) ≡ m) ⊎ ((b ≡ true) × ((if b then min m u else m) ≡ u))
sooner_is true m u = elim (min_is m u) [ inl p ↦ inl p | inr p ↦ inr (refl, p) ]
sooner_is false m u = inl refl

among_is : (clients : ℕ → Option Client) (m : ℕ) (es : List Entry) → All (λ (e : Entry). clients e.0 ≡ Some e.1) es
    → (soonest_among m es ≡ m) ⊎ IsOneOf clients (soonest_among m es)
among_is clients m [] h = inl refl
among_is clients m (e ∷ es) h =
    let P : Entry → Type 0 = λ (x : Entry). clients x.0 ≡ Some x.1 in
    elim (among_is clients (sooner m e) es (tail_found P e es h)) [
      | inl p ↦ elim (sooner_is (has_moment e.1.phase) m e.1.until) [
        | inl q ↦ inl (p ∙ q)
        | inr q ↦ inr (e.0, e.1, head_found P e es h, q.0, p ∙ q.1)
      ]
      | inr p ↦ inr p
    ]

pub among_soonest : (clients : ℕ → Option Client) (es : List Entry) → All (λ (e : Entry). clients e.0 ≡ Some e.1) es
    → ((k : ℕ) → clients k ≡ lookup (nat_eq k) es) → IsSoonest clients (soonest_among most_number es)
among_soonest clients es found is = (
  λ k. subst (λ (o : Option Client). IfSome o (λ c. has_moment c.phase ≡ true → soonest_among most_number es ≤ c.until)) (sym (is k)) (among_early most_number es k),
  among_is clients most_number es found,
)

-- ---- whose moment has come

abbrev pub first_due : ℕ → List Entry → Option ℕ
first_due now [] = None
first_due now (e ∷ es) = if is_due now e.1 then Some e.0 else first_due now es

due_by : (now : ℕ) (b : Bool) (k : ℕ) (rest : Option ℕ) (c : Bool) (d : Client) (o : Option Client) → is_due now d ≡ b
    → (if b then Some k else rest) ≡ None → (rest ≡ None → option_map_or (is_due now) o false ≡ false)
    → option_map_or (is_due now) (cond c (Some d) o) false ≡ false
due_by now true k rest c d o is e later = cc
due_by now false k rest true d o is e later = is
due_by now false k rest false d o is e later = later e

pub none_is_due : (now : ℕ) (es : List Entry) → first_due now es ≡ None → (k : ℕ) → option_map_or (is_due now) (lookup (nat_eq k) es) false ≡ false
none_is_due now [] e k = refl
none_is_due now (x ∷ es) e k =
    due_by now (is_due now x.1) x.0 (first_due now es) (nat_eq k x.0) x.1 (lookup (nat_eq k) es) refl e (λ rest. none_is_due now es rest k)

is_due_at : (clients : ℕ → Option Client) (now : ℕ) (b : Bool) (e : Entry) (rest : Option ℕ) (k : ℕ) → is_due now e.1 ≡ b → clients e.0 ≡ Some e.1
    → (if b then Some e.0 else rest) ≡ Some k → (rest ≡ Some k → option_map_or (is_due now) (clients k) false ≡ true)
    → option_map_or (is_due now) (clients k) false ≡ true
is_due_at clients now true e rest k is at here later = grind (arith, is, at, here)
is_due_at clients now false e rest k is at here later = later here

pub who_is_due : (clients : ℕ → Option Client) (now : ℕ) (es : List Entry) → All (λ (e : Entry). clients e.0 ≡ Some e.1) es
    → (k : ℕ) → first_due now es ≡ Some k → option_map_or (is_due now) (clients k) false ≡ true
who_is_due clients now [] found k e = cc
who_is_due clients now (x ∷ es) found k e =
    let P : Entry → Type 0 = λ (y : Entry). clients y.0 ≡ Some y.1 in
    is_due_at clients now (is_due now x.1) x (first_due now es) k refl (head_found P x es found) e
    (λ rest. who_is_due clients now es (tail_found P x es found) k rest)

-- ---- the first whose moment has come, among those so far and the rest

abbrev pub or_first : Option ℕ → Option ℕ → Option ℕ
or_first None o = o
or_first (Some k) o = Some k

pub first_kept : (now : ℕ) (e : Entry) (es : List Entry) (first all : Option ℕ) → is_due now e.1 ≡ true → or_first first (first_due now (e ∷ es)) ≡ all
    → or_first (Some (option_map_or (λ (k : ℕ). k) first e.0)) (first_due now es) ≡ all
first_kept now e es None all is h = sym (ap (λ (b : Bool). if b then Some e.0 else first_due now es) is) ∙ h
first_kept now e es (Some k) all is h = h

pub first_passed : (now : ℕ) (e : Entry) (es : List Entry) (first all : Option ℕ) → is_due now e.1 ≡ false → or_first first (first_due now (e ∷ es)) ≡ all
    → or_first first (first_due now es) ≡ all
first_passed now e es None all is h = sym (ap (λ (b : Bool). if b then Some e.0 else first_due now es) is) ∙ h
first_passed now e es (Some k) all is h = h

pub first_is : (now : ℕ) (es : List Entry) (first all : Option ℕ) → es ≡ [] → or_first first (first_due now es) ≡ all → first ≡ all
first_is now es first all none h = or_none first ∙ sym (ap (λ xs. or_first first (first_due now xs)) none) ∙ h
  where
    or_none : (o : Option ℕ) → o ≡ or_first o None
    or_none None = refl
    or_none (Some k) = refl

pub first_none : (now : ℕ) (es : List Entry) (first : Option ℕ) → first ≡ first_due now es
    → IfNone first ((k : ℕ) → option_map_or (is_due now) (lookup (nat_eq k) es) false ≡ false)
first_none now es None h = none_is_due now es (sym h)
first_none now es (Some k) h = tt

pub first_some : (clients : ℕ → Option Client) (now : ℕ) (es : List Entry) (first : Option ℕ) → All (λ (e : Entry). clients e.0 ≡ Some e.1) es → first ≡ first_due now es
    → IfSome first (λ k. option_map_or (is_due now) (clients k) false ≡ true)
first_some clients now es None found h = tt
first_some clients now es (Some k) found h = who_is_due clients now es found k (sym h)

-- ---- whose socket is to be shut

abbrev pub any_to_shut : List Entry → Bool
any_to_shut [] = false
any_to_shut (e ∷ es) = if is_to_shut e.1 then true else any_to_shut es

shut_by : (b : Bool) (rest c : Bool) (d : Client) (o : Option Client) → is_to_shut d ≡ b → (if b then true else rest) ≡ false
    → (rest ≡ false → option_map_or is_to_shut o false ≡ false) → option_map_or is_to_shut (cond c (Some d) o) false ≡ false
shut_by true rest c d o is e later = cc
shut_by false rest true d o is e later = is
shut_by false rest false d o is e later = later e

pub none_to_shut : (es : List Entry) → any_to_shut es ≡ false → (k : ℕ) → option_map_or is_to_shut (lookup (nat_eq k) es) false ≡ false
none_to_shut [] e k = refl
none_to_shut (x ∷ es) e k = shut_by (is_to_shut x.1) (any_to_shut es) (nat_eq k x.0) x.1 (lookup (nat_eq k) es) refl e (λ rest. none_to_shut es rest k)
