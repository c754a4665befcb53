-- Whom a run of going on looks at: those who wait, from the front.
use Rattle.std.proofs.Common.{◌≡◌, ℕ, ◌+◌, ◌<◌, ◌==◌, if◌then◌else◌, Bool, true, false, List, [], ◌∷◌, ◌++◌, length, take, Option, Some, None, refl, sym, ◌∙◌, ap, append_assoc, append-nil, arith}
use Rattle.std.proofs.lemmas.List.{length-append}
use Rattle.spk_broker_rules.specs.Plan.{Event}
use Rattle.spk_broker_rules.specs.Step.{knows}
use Rattle.spk_broker_rules.specs.Plan as event
use Rattle.spk_clients.specs.declared.cause.Cause.TheVariants as cause
use Rattle.spk_clients.specs.Client.{awaited, leaves, told}
use Rattle.spk_server.specs.Data.{Deed, InHand, Room, Slow, Timed, Joined, Fed, Skipped, Took, Came, Broke, Left, Ticked, Handed, Shut, Told, Cut, Tried, Waited, Freed, Dropped, Wrote, Blocked, Named, Forgot, Kept, Begun}
use Rattle.spk_server.specs.Step.{after, behind, called, called_on, came, cause_why, changed, freed_from, grace, is_slow, later, tried, tried_at}
use Rattle.spk_server.specs.Log.{IsRun, LooksAt, May, goes_on, looked_at, looks_at, takes}
use Rattle.spk_server.proofs.Runs.{joined}

no : {A : Type 0} → false ≡ true → A
no e = cc

-- ---- what a deed leaves of those who wait

pub freed_held : (o : Option ℕ) (conn : ℕ) (r : Room) → (freed_from o conn r).held ≡ r.held
freed_held None conn r = refl
freed_held (Some slow) conn r = refl

pub called_held : (by : Option ℕ) (conn : ℕ) (e : Event) (r : Room) → (called_on by conn e r).held ≡ r.held
called_held by conn e r = go (knows r.noted.broker conn)
  where
    go : (b : Bool) → (if b then called by e r else r).held ≡ r.held
    go true = refl
    go false = refl

pub came_held : (h : Option InHand) (r : Room) → (came h r).held ≡ r.held
came_held None r = refl
came_held (Some h) r = called_held _ h.conn _ (record r { in_hand = None })

-- whom a deed looks at and who waits behind it are those who waited, and maybe one more behind them
abbrev Grows : Deed → Room → Type 0
Grows d r = (more : List ℕ) × (looks_at d ++ (after d r).held ≡ r.held ++ more)

nobody : (held was : List ℕ) → held ≡ was → (more : List ℕ) × (held ≡ was ++ more)
nobody held was e = ([], e ∙ sym (append-nil was))

tried_grows : (o : Option Slow) (r : Room) → (more : List ℕ) × ((tried o r).held ≡ r.held ++ more)
tried_grows None r = nobody r.held r.held refl
tried_grows (Some s) r = go (is_slow s r)
  where
    go : (b : Bool) → (more : List ℕ) × ((tried_at b s (changed (awaited (s.client == s.publisher) r.now) s.client r)).held ≡ r.held ++ more)
    go true = (s.publisher ∷ [], refl)
    go false = nobody r.held r.held refl

first_again : (conn : ℕ) (held rest : List ℕ) → held ≡ conn ∷ rest → conn ∷ behind held ≡ held
first_again conn held rest e = ap (λ h. conn ∷ behind h) e ∙ sym e

grows : (d : Deed) (r : Room) → goes_on d ≡ true → May d r → Grows d r
grows (Handed o f) r e may = nobody r.held r.held refl
grows (Shut c) r e may = nobody r.held r.held refl
grows (Told c s) r e may = nobody _ r.held (called_held None c (event.Refused c s r.now) (changed told c r))
grows (Cut c s) r e may = nobody _ r.held (called_held None c (event.Closed c r.now) (record (changed (leaves (later grace r.now) cause.Memory) c (changed told c r)) { in_hand = None }))
grows Ticked r e may = nobody r.held r.held refl
grows (Took c p rest) r e may = nobody r.held r.held refl
grows Came r e may = nobody _ r.held (came_held r.in_hand r)
grows (Broke c f) r e may = nobody _ r.held (called_held None c (event.Fault c f r.now) r)
grows (Left c w) r e may = nobody _ r.held (called_held None c (event.Closed c r.now) (record (changed (leaves (later grace r.now) (cause_why w)) c r) { in_hand = None }))
grows Tried r e may = tried_grows r.slow r
grows (Waited c) r e may = (c ∷ [], ap (λ x. x ++ c ∷ []) (first_again c r.held may.1.0 may.1.1))
grows (Freed c) r e may = nobody _ r.held (ap (λ x. c ∷ x) (freed_held _ c (record r { held = behind r.held })) ∙ first_again c r.held may.1.0 may.1.1)
grows (Timed m) r e may = no e
grows (Joined c) r e may = no e
grows (Fed c p) r e may = no e
grows (Skipped c p) r e may = no e
grows (Dropped c) r e may = no e
grows (Wrote c n) r e may = no e
grows (Blocked c) r e may = no e
grows (Named c) r e may = no e
grows (Kept b) r e may = no e
grows Begun r e may = no e
grows (Forgot c) r e may = no e

-- whom a run looked at and who waits behind it are those who waited, and maybe others behind them
pub looked_and_held : (ds : List Deed) (r s : Room) → IsRun goes_on r ds s → (more : List ℕ) × (looked_at ds ++ s.held ≡ r.held ++ more)
looked_and_held [] r s a = ([], ap (λ (x : Room). x.held) (sym a) ∙ sym (append-nil r.held))
looked_and_held (d ∷ ds) r s a =
    let one : Grows d r = grows d r a.0 a.1 in
    let rest : (more : List ℕ) × (looked_at ds ++ s.held ≡ (after d r).held ++ more) = looked_and_held ds (after d r) s a.2 in (
      one.0 ++ rest.0,
      append_assoc (looks_at d) (looked_at ds) s.held
          ∙ ap (λ x. looks_at d ++ x) rest.1
          ∙ sym (append_assoc (looks_at d) (after d r).held rest.0)
          ∙ ap (λ x. x ++ rest.0) one.1
          ∙ append_assoc r.held one.0 rest.0,
    )

pub looked_more : (ds es : List Deed) → looked_at (ds ++ es) ≡ looked_at ds ++ looked_at es
looked_more [] es = refl
looked_more (d ∷ ds) es = ap (λ x. looks_at d ++ x) (looked_more ds es) ∙ sym (append_assoc (looks_at d) (looked_at ds) (looked_at es))

-- ---- taking the packets of one looks at nobody

takes_nobody : (conn : ℕ) (d : Deed) → takes conn d ≡ true → looks_at d ≡ []
takes_nobody conn (Handed o f) e = refl
takes_nobody conn (Shut c) e = refl
takes_nobody conn (Told c s) e = refl
takes_nobody conn (Cut c s) e = refl
takes_nobody conn Ticked e = refl
takes_nobody conn (Timed m) e = refl
takes_nobody conn (Joined c) e = refl
takes_nobody conn (Fed c p) e = refl
takes_nobody conn (Skipped c p) e = refl
takes_nobody conn (Took c p rest) e = refl
takes_nobody conn Came e = refl
takes_nobody conn (Broke c f) e = refl
takes_nobody conn (Left c w) e = refl
takes_nobody conn Tried e = refl
takes_nobody conn (Waited c) e = no e
takes_nobody conn (Freed c) e = no e
takes_nobody conn (Dropped c) e = refl
takes_nobody conn (Wrote c n) e = refl
takes_nobody conn (Blocked c) e = refl
takes_nobody conn (Named c) e = refl
takes_nobody conn (Kept b) e = refl
takes_nobody conn Begun e = refl
takes_nobody conn (Forgot c) e = refl

pub looked_none : (conn : ℕ) (ds : List Deed) (r s : Room) → IsRun (takes conn) r ds s → looked_at ds ≡ []
looked_none conn [] r s a = refl
looked_none conn (d ∷ ds) r s a = ap (λ x. x ++ looked_at ds) (takes_nobody conn d a.0) ∙ looked_none conn ds (after d r) s a.2

-- ---- one after the other

-- so many were looked at
abbrev pub LookedFor : ℕ → Room → Room → Type 0
LookedFor n r s = (ds : List Deed) × IsRun goes_on r ds s × (length (looked_at ds) ≡ n)

some_held : (n more held : ℕ) (rest : List ℕ) → n + length rest ≡ held + more → n < held → length (take 1 rest) ≡ 1
some_held n more held [] e less = absurd (omega (arith, e))
some_held n more held (x ∷ xs) e less = refl

pub looks_on : (n : ℕ) (r m s : Room) → n < length r.held → LookedFor n r m → LooksAt (take 1 m.held) m s → LookedFor (n + 1) r s
looks_on n r m s less a b =
    let all = looked_and_held a.0 r m a.1 in
    let sizes : n + length m.held ≡ length r.held + length all.0 =
    ap (λ k. k + length m.held) (sym a.2) ∙ sym (length-append (looked_at a.0) m.held) ∙ ap length all.1 ∙ length-append r.held all.0 in (
      a.0 ++ b.0,
      joined goes_on a.0 b.0 r m s a.1 b.1,
      ap length (looked_more a.0 b.0) ∙ length-append (looked_at a.0) (looked_at b.0) ∙ ap (λ k. k + length (looked_at b.0)) a.2
          ∙ ap (λ k. n + k) (ap length b.2 ∙ some_held n (length all.0) (length r.held) m.held sizes less),
    )

fronts_are : (xs ys us vs : List ℕ) → xs ++ us ≡ ys ++ vs → length xs ≡ length ys → xs ≡ ys
fronts_are [] [] us vs e n = refl
fronts_are [] (y ∷ ys) us vs e n = absurd (omega arith)
fronts_are (x ∷ xs) [] us vs e n = absurd (omega arith)
fronts_are (x ∷ xs) (y ∷ ys) us vs e n =
    let same : xs ≡ ys = fronts_are xs ys us vs (ap behind e) (omega (arith, n)) in
    ap (λ z. z ∷ xs) (first_is x y (xs ++ us) (ys ++ vs) e) ∙ ap (λ zs. y ∷ zs) same
  where
    first_is : (x y : ℕ) (xs ys : List ℕ) → x ∷ xs ≡ y ∷ ys → x ≡ y
    first_is x y xs ys e = cc

-- each who waited was looked at, in order
pub looked_all : (r s : Room) → LookedFor (length r.held) r s → LooksAt r.held r s
looked_all r s a =
    let all = looked_and_held a.0 r s a.1 in
    (a.0, a.1, fronts_are (looked_at a.0) r.held s.held all.0 all.1 a.2)
