-- Where nothing is missing, each message is consumed when it comes.
use Rattle.std.proofs.Common.{◌≡◌, ◌⊎◌, inl, inr, ℕ, zero, suc, ◌+◌, ◌-◌, ◌<◌, ◌≤◌, nat_lt, nat_le, Bool, true, false, not, ◌&&◌, ◌||◌, cond, eqb, List, [], ◌∷◌, ◌++◌, length, refl, sym, ◌∙◌, ap, subst, arith, append-nil, eq-eqb, eqb-true, true≢false, Option, Some, None}
use Rattle.std.specs.List.{prefix_len, range_with_len}
use Rattle.std.proofs.lemmas.Bool.{and_left, and_right, cases_Bool, le-ltb, lt-leb, lt-ltb, or_cases, or_from, or_left, or_parts, or_right}
use Rattle.spk_sequence.specs.declared.answer.Step.{Step}
use Rattle.spk_sequence.specs.declared.answer.Step.TheVariants as step
use Rattle.spk_sequence.specs.Calls.{Stepped}
use Rattle.spk_sequence.specs.Claims.{SameStep}
use Rattle.spk_sequence.specs.Following.{contains, following, is_gap, is_session_dead, is_session_of, is_waiting, taken, waits}
use Rattle.spk_sequence.specs.HostRecord.{Done, HostRecord, Input, MessageComes, DeathComes, TickComes, consumed_of, next_after, record_of}
use Rattle.spk_sequence.specs.NodeRecord.{IsNodeRecord, NodeRecord, Setting, birth_at, opens, session_at}
use Rattle.spk_sequence.specs.Positions.{birth_step, is_of_dead, is_taken_before, message_step, right_at, right_consumed, run_after}
use Rattle.spk_plant_relay.specs.Relayed.{positions_in}
use Rattle.spk_plant_lossless.specs.Whole.{ComeInLife, all_below, has_died}

yes_no : true ≡ false → ⊥
yes_no e = true≢false e

no_yes : false ≡ true → ⊥
no_yes e = true≢false (sym e)

-- the session of the newest of the positions below n
abbrev pub last_session : NodeRecord → ℕ → ℕ
last_session published zero = 0
last_session published (suc p) = session_at published p

-- the birth taken is one below n, of the session of the newest
abbrev pub IsBirthOf : NodeRecord → ℕ → Option ℕ → Type 0
IsBirthOf published n None = n ≡ 0
IsBirthOf published n (Some b) = (b < n) × (session_at published b ≡ last_session published n)

-- After inputs in which all positions below n came each was consumed, and the host follows the node unless its session has died.
pub record Whole (s : Setting) (h : HostRecord) (is : List Input) (n : ℕ) : Type 0 where
  pub consumed : consumed_of h ≡ range_with_len 0 n
  pub next : next_after h ≡ n
  pub handed : (q : ℕ) → contains q (following s h).handed ≡ true → q < n
  pub birth : IsBirthOf s.published n (taken s h)
  pub follows : (following s h).on ≡ false → 0 < n → has_died (last_session s.published n) is ≡ true
  pub dead : is_session_dead s h ≡ true → has_died (last_session s.published n) is ≡ true

-- ---- lists and tests

range-snoc : (a n : ℕ) → range_with_len a n ++ (a + n) ∷ [] ≡ range_with_len a (suc n)
range-snoc a zero = let e : a + 0 ≡ a = omega arith in ap (λ x. x ∷ []) e
range-snoc a (suc n) =
    let e : a + suc n ≡ (a + 1) + n = omega arith in
    ap (λ xs. a ∷ xs) (ap (λ x. range_with_len (a + 1) n ++ x ∷ []) e ∙ range-snoc (a + 1) n)

run-none : (f : ℕ → Bool) (a w : ℕ) → f a ≡ false → prefix_len f (range_with_len a w) ≡ 0
run-none f a zero e = refl
run-none f a (suc w) e = ap (λ b. cond b (1 + prefix_len f (range_with_len (a + 1) w)) 0) e

waiting-none : (xs : List ℕ) (n : ℕ) → ((q : ℕ) → contains q xs ≡ true → q < n) → is_waiting xs n ≡ false
waiting-none [] n low = refl
waiting-none (x ∷ xs) n low =
    let first : x < n = low x (or_left (eqb x x) (contains x xs) (eq-eqb x x refl)) in
    or_from (nat_lt n x) (is_waiting xs n) (le-ltb n x (omega (arith, first))) (waiting-none xs n (λ q e. low q (or_right (eqb x q) (contains q xs) e)))

birth-cond : (a b : Bool) (n : ℕ) → a ≡ false → b ≡ false → n ≡ 0 → cond a step.OldBirth (cond b step.DeadSession (step.Consumed (1 + n))) ≡ step.Consumed 1
birth-cond a b n e f g = rw (e, f, g) refl

message-cond : (on low is : Bool) (n : ℕ) (x : Step) → on ≡ true → low ≡ false → is ≡ true → n ≡ 0 → cond on (cond low step.Old (cond is (step.Consumed (1 + n)) x)) step.NotLive ≡ step.Consumed 1
message-cond on low is n x e f g k = rw (e, f, g, k) refl

-- ---- sessions

opens-first : (published : NodeRecord) → opens published 0 ≡ true
opens-first published = refl

same_session : (published : NodeRecord) → IsNodeRecord published → (p : ℕ) → p < length published → opens published p ≡ false → session_at published p ≡ last_session published p
same_session published node zero below e = absurd (yes_no e)
same_session published node (suc p) below e =
    node.one_session (suc p) p below (omega (arith, below)) (by (node.births p (omega (arith, below))))
  where
    size : suc p ≡ p + 1
    size = omega arith

    less : suc p - 1 ≡ p
    less = omega arith

    above : nat_lt (birth_at published p) (birth_at published (suc p)) ≡ false
    above = ap (λ x. nat_lt (birth_at published x) (birth_at published (suc p))) (sym less) ∙ (or_parts (eqb (suc p) 0) (nat_lt (birth_at published (suc p - 1)) (birth_at published (suc p))) e).1

    grows : (b : ℕ) → nat_lt b (b + 1) ≡ true
    grows b = lt-ltb b (b + 1) (omega arith)

    by : (birth_at published (p + 1) ≡ birth_at published p) ⊎ (birth_at published (p + 1) ≡ birth_at published p + 1) → birth_at published (suc p) ≡ birth_at published p
    by (inl same) = ap (birth_at published) size ∙ same
    by (inr next) = absurd (yes_no (sym (ap (λ b. nat_lt (birth_at published p) b) (ap (birth_at published) size ∙ next) ∙ grows (birth_at published p)) ∙ above))

-- ---- a message

module _ (s : Setting) (h : HostRecord) (is : List Input) (p now : ℕ) (node : IsNodeRecord s.published) (some : 0 < s.width) (below : p < length s.published)
    (w : Whole s h is p) (alive : has_died (session_at s.published p) is ≡ false) where
  not-handed : (q : ℕ) → p ≤ q → contains q (following s h).handed ≡ false
  not-handed q above = elim (cases_Bool (contains q (following s h).handed)) [
    | inl yes_it ↦ (let low : q < p = w.handed q yes_it in absurd (omega (arith, above, low)))
    | inr no_it ↦ no_it
  ]

  none-run : run_after s h p ≡ 0
  none-run = run-none (waits (following s h) (next_after h)) (p + 1) s.width
      (and_left (contains (p + 1) (following s h).handed) (nat_lt (next_after h) (p + 1)) (not-handed (p + 1) (omega arith)))

  newer : (o : Option ℕ) → IsBirthOf s.published p o → is_taken_before o p ≡ false
  newer None b = refl
  newer (Some b) (low, same) = lt-leb p b low

  other-session : (o : Option ℕ) → IsBirthOf s.published p o → has_died (last_session s.published p) is ≡ true → is_session_of s o (session_at s.published p) ≡ false
  other-session None b died = refl
  other-session (Some b) (low, same) died = elim (cases_Bool (eqb (session_at s.published p) (session_at s.published b))) [
    | inl e ↦ absurd (yes_no (sym died ∙ ap (λ x. has_died x is) (sym (eqb-true _ _ e ∙ same)) ∙ alive))
    | inr e ↦ e
  ]

  not-dead : is_of_dead s h p ≡ false
  not-dead = elim (cases_Bool (is_session_dead s h)) [
    | inl e ↦ and_right (is_session_dead s h) (is_session_of s (taken s h) (session_at s.published p)) (other-session (taken s h) w.birth (w.dead e))
    | inr e ↦ and_left (is_session_dead s h) (is_session_of s (taken s h) (session_at s.published p)) e
  ]

  same-last : opens s.published p ≡ false → session_at s.published p ≡ last_session s.published p
  same-last e = same_session s.published node p below e

  on-of : opens s.published p ≡ false → (following s h).on ≡ true
  on-of e = elim (cases_Bool (following s h).on) [
    | inl on ↦ on
    | inr off ↦ absurd (yes_no (sym (w.follows off (some-before p e)) ∙ ap (λ x. has_died x is) (sym (same-last e)) ∙ alive))
  ]
    where
      some-before : (q : ℕ) → opens s.published q ≡ false → 0 < q
      some-before zero f = absurd (yes_no f)
      some-before (suc q) f = omega arith

  step-is : cond (opens s.published p) (birth_step s h p) (message_step s h p) ≡ step.Consumed 1
  step-is = by (opens s.published p) refl
    where
      by : (b : Bool) → opens s.published p ≡ b → cond b (birth_step s h p) (message_step s h p) ≡ step.Consumed 1
      by true e = birth-cond (is_taken_before (taken s h) p) (is_of_dead s h p) (run_after s h p) (newer (taken s h) w.birth) not-dead none-run
      by false e = message-cond (following s h).on (nat_lt p (next_after h)) (eqb p (next_after h)) (run_after s h p) _ (on-of e)
          (let n : next_after h ≡ p = w.next in le-ltb p (next_after h) (omega (arith, n))) (eq-eqb p (next_after h) (sym w.next)) none-run

  abbrev eaten : Done
  eaten = record { input = MessageComes p now; reply = Stepped (step.Consumed 1); consumed = p ∷ [] }

  right-is : right_at s h (MessageComes p now) ≡ eaten
  right-is = ap as_done step-is
    where
      as_done : Step → Done
      as_done x = record { input = MessageComes p now; reply = Stepped x; consumed = right_consumed (MessageComes p now) (Stepped x) }

  handed-more : (b : Bool) (q : ℕ) → contains q (cond b (p ∷ (following s h).handed) []) ≡ true → q < suc p
  handed-more true q e = elim (or_cases (eqb p q) (contains q (following s h).handed) e) [
    | inl same ↦ (let is_it : p ≡ q = eqb-true p q same in omega (arith, is_it))
    | inr old ↦ (let low : q < p = w.handed q old in omega (arith, low))
  ]
  handed-more false q e = absurd (no_yes e)

  birth-more : (b : Bool) → opens s.published p ≡ b → IsBirthOf s.published (suc p) (cond b (Some p) (taken s h))
  birth-more true e = ((omega arith), refl)
  birth-more false e = by (taken s h) w.birth
    where
      by : (o : Option ℕ) → IsBirthOf s.published p o → IsBirthOf s.published (suc p) o
      by None none = absurd (yes_no (sym (ap (opens s.published) none ∙ opens-first s.published) ∙ e))
      by (Some b) (low, same) = ((omega (arith, low)), same ∙ sym (same-last e))

  on-more : (following s (eaten ∷ h)).on ≡ true
  on-more = by (opens s.published p) refl
    where
      keeps : (a g : Bool) → a ≡ true → g ≡ false → (false || (a && not g && not false)) ≡ true
      keeps a g e f = rw (e, f) refl

      far : (a b c : Bool) → c ≡ false → (a && not b && c) ≡ false
      far a b c e = rw e (ends a (not b))
        where
          ends : (x y : Bool) → (x && y && false) ≡ false
          ends true true = refl
          ends true false = refl
          ends false true = refl
          ends false false = refl

      by : (b : Bool) → opens s.published p ≡ b → ((b || false) || ((following s h).on && not (is_gap s h (MessageComes p now)) && not false)) ≡ true
      by true e = refl
      by false e = keeps (following s h).on (is_gap s h (MessageComes p now)) (on-of e)
          (far (following s h).on (opens s.published p) (nat_le (next_after h + s.width) p) (let n : next_after h ≡ p = w.next in lt-leb (next_after h + s.width) p (omega (arith, n, some))))

  dead-more : is_session_dead s (eaten ∷ h) ≡ true → has_died (session_at s.published p) is ≡ true
  dead-more = by (opens s.published p) refl
    where
      by : (b : Bool) → opens s.published p ≡ b → (not (b || false) && (false || is_session_dead s h)) ≡ true → has_died (session_at s.published p) is ≡ true
      by true e f = absurd (no_yes f)
      by false e f = ap (λ x. has_died x is) (same-last e) ∙ w.dead f

  none-more : 0 + p ≡ p
  none-more = omega arith

  message-whole : Whole s (eaten ∷ h) (MessageComes p now ∷ is) (suc p)
  message-whole = record {
    consumed = ap (λ xs. xs ++ p ∷ []) w.consumed ∙ (ap (λ x. range_with_len 0 p ++ x ∷ []) (sym none-more) ∙ range-snoc 0 p);
    next = omega arith;
    handed = λ q e. handed-more (following s (eaten ∷ h)).on q e;
    birth = birth-more (opens s.published p) refl;
    follows = λ off n. absurd (yes_no (sym on-more ∙ off));
    dead = λ e. dead-more e;
  }

  pub message-right : Whole s (right_at s h (MessageComes p now) ∷ h) (MessageComes p now ∷ is) (suc p)
  message-right = subst (λ e. Whole s (e ∷ h) (MessageComes p now ∷ is) (suc p)) (sym right-is) message-whole

-- ---- a death

module _ (s : Setting) (h : HostRecord) (is : List Input) (dead now n : ℕ) (w : Whole s h is n) where
  abbrev pub died : Done
  died = right_at s h (DeathComes dead now)

  matched : (o : Option ℕ) → IsBirthOf s.published n o → is_session_of s o dead ≡ true → eqb dead (last_session s.published n) ≡ true
  matched None b e = absurd (no_yes e)
  matched (Some b) (low, same) e = ap (λ x. eqb dead x) (sym same) ∙ e

  handed-left : (b : Bool) (q : ℕ) → contains q (cond b (following s h).handed []) ≡ true → q < n
  handed-left true q e = w.handed q e
  handed-left false q e = absurd (no_yes e)

  pub death-right : Whole s (died ∷ h) (DeathComes dead now ∷ is) n
  death-right = record {
    consumed = append-nil (consumed_of h) ∙ w.consumed;
    next = w.next;
    handed = λ q e. handed-left (following s (died ∷ h)).on q e;
    birth = w.birth;
    follows = λ off some. follow (following s h).on refl (is_session_of s (taken s h) dead) refl off some;
    dead = λ e. die (is_session_of s (taken s h) dead) refl e;
  }
    where
      follow : (a : Bool) → (following s h).on ≡ a → (m : Bool) → is_session_of s (taken s h) dead ≡ m → (false || (a && not false && not m)) ≡ false → 0 < n
          → (eqb dead (last_session s.published n) || has_died (last_session s.published n) is) ≡ true
      follow false i m j off some = or_right (eqb dead (last_session s.published n)) _ (w.follows i some)
      follow true i true j off some = or_left (eqb dead (last_session s.published n)) _ (matched (taken s h) w.birth j)
      follow true i false j off some = absurd (yes_no off)

      die : (m : Bool) → is_session_of s (taken s h) dead ≡ m → (true && (m || is_session_dead s h)) ≡ true → (eqb dead (last_session s.published n) || has_died (last_session s.published n) is) ≡ true
      die true j e = or_left (eqb dead (last_session s.published n)) _ (matched (taken s h) w.birth j)
      die false j e = or_right (eqb dead (last_session s.published n)) _ (w.dead e)

-- ---- a moment

module _ (s : Setting) (h : HostRecord) (is : List Input) (now n : ℕ) (w : Whole s h is n) where
  abbrev pub ticked : Done
  ticked = right_at s h (TickComes now)

  no-gap : is_gap s h (TickComes now) ≡ false
  no-gap = none (following s h).on (is_waiting (following s h).handed (next_after h)) _ (ap (is_waiting (following s h).handed) w.next ∙ waiting-none (following s h).handed n w.handed)
    where
      none : (a b c : Bool) → b ≡ false → (a && b && c) ≡ false
      none true b c e = rw e refl
      none false b c e = refl

  handed-then : (b : Bool) (q : ℕ) → contains q (cond b (following s h).handed []) ≡ true → q < n
  handed-then true q e = w.handed q e
  handed-then false q e = absurd (no_yes e)

  pub tick-right : Whole s (ticked ∷ h) (TickComes now ∷ is) n
  tick-right = record {
    consumed = append-nil (consumed_of h) ∙ w.consumed;
    next = w.next;
    handed = λ q e. handed-then (following s (ticked ∷ h)).on q e;
    birth = w.birth;
    follows = λ off some. follow (following s h).on refl (is_gap s h (TickComes now)) no-gap off some;
    dead = λ e. w.dead e;
  }
    where
      follow : (a : Bool) → (following s h).on ≡ a → (g : Bool) → g ≡ false → (false || (a && not g && not false)) ≡ false → 0 < n → has_died (last_session s.published n) is ≡ true
      follow false i g j off some = w.follows i some
      follow true i true j off some = absurd (yes_no j)
      follow true i false j off some = absurd (yes_no off)

-- ---- all inputs

-- each input is on numbers what it is on positions
abbrev pub AllSame : Setting → List Input → Type 0
AllSame s [] = Unit {0}
AllSame s (i ∷ is) = SameStep s is i × AllSame s is

first-is : (x y : ℕ) (xs ys : List ℕ) → x ∷ xs ≡ y ∷ ys → x ≡ y
first-is x y xs ys e = cc

rest-is : (x y : ℕ) (xs ys : List ℕ) → x ∷ xs ≡ y ∷ ys → xs ≡ ys
rest-is x y xs ys e = cc

all-whole : (s : Setting) → IsNodeRecord s.published → 0 < s.width → (is : List Input) → AllSame s is → (n : ℕ) → n ≤ length s.published → positions_in is ≡ all_below n → ComeInLife s.published is
    → Whole s (record_of s is) is n
all-whole s node some [] same zero low e alive = record {
  consumed = refl;
  next = refl;
  handed = λ q f. absurd (no_yes f);
  birth = refl;
  follows = λ off f. absurd (omega (arith, f));
  dead = λ f. absurd (no_yes f);
}
all-whole s node some [] same (suc n) low e alive = absurd (no e)
  where
    no : [] ≡ n ∷ all_below n → ⊥
    no f = cc
all-whole s node some (MessageComes p now ∷ is) same zero low e alive = absurd (no e)
  where
    no : p ∷ positions_in is ≡ [] → ⊥
    no f = cc
all-whole s node some (MessageComes p now ∷ is) same (suc n) low e alive =
    let at : p ≡ n = first-is p n (positions_in is) (all_below n) e in
    let before : Whole s (record_of s is) is n = all-whole s node some is same.1 n (omega (arith, low)) (rest-is p n (positions_in is) (all_below n) e) alive.1 in
    subst (λ d. Whole s (d ∷ record_of s is) (MessageComes p now ∷ is) (suc n)) (sym same.0)
    (subst (λ m. Whole s (right_at s (record_of s is) (MessageComes p now) ∷ record_of s is) (MessageComes p now ∷ is) (suc m)) at
    (message-right s (record_of s is) is p now node some (omega (arith, low, at)) (subst (Whole s (record_of s is) is) (sym at) before) alive.0))
all-whole s node some (DeathComes dead now ∷ is) same n low e alive =
    subst (λ d. Whole s (d ∷ record_of s is) (DeathComes dead now ∷ is) n) (sym same.0)
    (death-right s (record_of s is) is dead now n (all-whole s node some is same.1 n low e alive))
all-whole s node some (TickComes now ∷ is) same n low e alive =
    subst (λ d. Whole s (d ∷ record_of s is) (TickComes now ∷ is) n) (sym same.0)
    (tick-right s (record_of s is) is now n (all-whole s node some is same.1 n low e alive))

pub all-consumed : (s : Setting) → IsNodeRecord s.published → 0 < s.width → (is : List Input) → AllSame s is → positions_in is ≡ all_below (length s.published) → ComeInLife s.published is
    → consumed_of (record_of s is) ≡ range_with_len 0 (length s.published)
all-consumed s node some is same e alive = (all-whole s node some is same (length s.published) (omega arith) e alive).consumed

pub all-same : (s : Setting) (is : List Input) → ((later before : List Input) (i : Input) → is ≡ later ++ i ∷ before → SameStep s before i) → AllSame s is
all-same s [] f = tt
all-same s (i ∷ is) f = (f [] is i refl, all-same s is (λ later before j e. f (i ∷ later) before j (ap (λ xs. i ∷ xs) e)))
