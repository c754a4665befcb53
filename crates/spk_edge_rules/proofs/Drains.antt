-- What a Drain gives: it can be written, and takes at least one of the changes kept.
use Rattle.std.proofs.Common.{◌≡◌, ℕ, zero, suc, ◌<◌, ◌≤◌, ◌^◌, Bool, true, false, not, ◌&&◌, cond, List, [], ◌∷◌, ◌++◌, ◌+◌, length, min, nat_lt, Option, Some, None, Result, Ok, Err, refl, sym, ◌∙◌, ap, subst, arith}
use Rattle.std.specs.List.{list_all, prefix_len}
use Rattle.std.proofs.lemmas.Bool.{true≢false, eq-eqb, ltb-true, ltb-false}
use Rattle.spk_packets.specs.Message as packets
use Rattle.spk_device.specs.Book.{is_owner, owner_number}
use Rattle.spk_device.specs.declared.owner.Owner.{Owner}
use Rattle.spk_store.specs.Calls.{DropFront}
use Rattle.spk_store.specs.Data.{Kept}
use Rattle.spk_edge_rules.specs.declared.fault.EdgeFault.{EdgeFault}
use Rattle.spk_edge_rules.specs.declared.fault.EdgeFault.TheVariants as fault
use Rattle.spk_edge_rules.specs.Answers.{Answer, checked}
use Rattle.spk_edge_rules.specs.Births.{later_stamp, owner_is_up}
use Rattle.spk_edge_rules.specs.Claims.{IsLongest, SendsLongest, TakesSome}
use Rattle.spk_edge_rules.specs.Config.{Config, Setup}
use Rattle.spk_edge_rules.specs.History.{can_go, front_going, front_run, have_one_owner, history, longest}
use Rattle.spk_edge_rules.specs.Inputs.{Act, ChangeData, Drain, Input}
use Rattle.spk_edge_rules.specs.Messages.{Draft, opens, wire}
use Rattle.spk_edge_rules.specs.Rules as rule
use Rattle.spk_edge_rules.specs.Rules.{Given, acked, acts, draining, fits, nothing, on_ok, rules, timely}
use Rattle.spk_edge_rules.specs.Run.{asked_of, book_of, kept_of, next_number, right_at, run_of, stamp_of, with_done}
use Rattle.spk_edge_rules.specs.Step.{Standing, answer_at, standing_of, store_after, wires}
use Rattle.spk_edge_rules.specs.Writable.{is_writable}
use Rattle.spk_edge_rules.proofs.Courses.{by_if, front-few, longest-few, rules-lawful, rules-taken}
use Rattle.spk_edge_rules.proofs.Moments.{store-step}
use Rattle.spk_edge_rules.proofs.Published.{acked-drafts}
use Rattle.spk_edge_rules.proofs.Records.{no-birth-number, right-given, runs-all, told-all}
use Rattle.spk_edge_rules.proofs.Told.{same_steps}

-- ---- the longest front

pub longest-is : (fact : ℕ → Bool) (most : ℕ) → IsLongest fact most (longest fact most)
longest-is fact zero = record { few = omega arith; holds = λ some. absurd (omega (arith, some)); greatest = λ k above below. absurd (omega (arith, above, below)) }
longest-is fact (suc n) =
    by_if (IsLongest fact (suc n)) (fact (suc n)) (suc n) (longest fact n)
    (λ e. record { few = omega arith; holds = λ some. e; greatest = λ k above below. absurd (omega (arith, above, below)) })
    (λ e. let rest = longest-is fact n in
    let few = rest.few in
    record { few = omega (arith, few); holds = rest.holds; greatest = λ k above below. last fact n k (longest fact n) e rest.greatest above below })
  where
    at : (fact : ℕ → Bool) (n k : ℕ) → fact (suc n) ≡ false → k ≡ suc n → fact k ≡ false
    at fact n k e same = ap fact same ∙ e

    last : (fact : ℕ → Bool) (n k m : ℕ) → fact (suc n) ≡ false → ((k : ℕ) → m < k → k ≤ n → fact k ≡ false) → m < k → k ≤ suc n → fact k ≡ false
    last fact n k m e rest above below = by (nat_lt n k) refl
      where
        by : (b : Bool) → nat_lt n k ≡ b → fact k ≡ false
        by true is = let l = ltb-true n k is in at fact n k e (omega (arith, l, below))
        by false is = let l = ltb-false n k is in rest k above (omega (arith, l))

-- ---- what is given

-- the message of a front that can go can be written under the number that comes next
data-wires : (c : Config) (seq : ℕ) (d : Draft) → opens d ≡ false → is_writable (wire c seq d) ≡ true → list_all is_writable (wires c seq (d ∷ [])) ≡ true
data-wires c seq d closed writable =
    ap (λ n. is_writable (wire c n d) && true) (no-birth-number c.numbering seq d closed) ∙ ap (λ b. b && true) writable

abbrev Fits : Config → ℕ → Given → Type 0
Fits c seq g = list_all is_writable (g.plain ++ wires c seq g.drafts) ≡ true

draining-fits : (c : Config) (seq : ℕ) (a : rule.Asked) (now : ℕ) (changes : List ChangeData) → Fits c seq (draining c seq a now changes)
draining-fits c seq a now [] = refl
draining-fits c seq a now (x ∷ xs) =
    let stamp = later_stamp a.stamp now in
    let n = front_going c seq a.book x.owner stamp (x ∷ xs) in
    by_if (Fits c seq) (owner_is_up a.book x.owner) _ _
    (λ up. by_if (Fits c seq) (nat_lt 0 n) _ _
    (λ some. data-wires c seq (history a.book x.owner stamp (x ∷ xs) n) refl
    ((longest-is (can_go c seq a.book x.owner stamp (x ∷ xs)) (front_run (x ∷ xs))).holds (ltb-true 0 n some)))
    (λ none. refl))
    (λ down. refl)

-- ---- never TooLarge

abbrev gave : Given → Result Given EdgeFault
gave g = Ok g

abbrev too_large : Result Answer EdgeFault
too_large = Err fault.TooLarge

checked-fits : (g : Given) (ps : List packets.Message) → list_all is_writable ps ≡ true → checked g ps ≡ too_large → ⊥
checked-fits g ps fits = by (list_all is_writable ps) fits
  where
    by : (b : Bool) → b ≡ true → cond b (Ok (record { given = g; packets = ps })) (Err fault.TooLarge) ≡ too_large → ⊥
    by true e is = let x : ⊥ = cc in x
    by false e is = true≢false (sym e)

timely-fits : (c : Config) (seq : ℕ) (g : Given) → Fits c seq g → on_ok (timely g) (λ g. checked g (g.plain ++ wires c seq g.drafts)) ≡ too_large → ⊥
timely-fits c seq g fits = by (rule.is_timely g)
  where
    by : (b : Bool) → on_ok (cond b (gave g) (Err fault.ClockEnd)) (λ g. checked g (g.plain ++ wires c seq g.drafts)) ≡ too_large → ⊥
    by true is = checked-fits g (g.plain ++ wires c seq g.drafts) fits is
    by false is = let x : ⊥ = cc in x

never-at : (c : Config) (st : Standing) (now : ℕ) → answer_at c st (record { now = now; ack = None; act = Drain }) ≡ too_large → ⊥
never-at c st now = by (rule.is_born st.asked.phase) (nat_lt now (2 ^ 63))
  where
    given : Given
    given = draining c st.seq st.asked now st.asked.store.items

    by : (b1 b2 : Bool) → on_ok (cond (not b1) (Err fault.WrongPhase) (cond (not b2) (Err fault.ClockEnd) (timely given))) (λ g. checked g (g.plain ++ wires c st.seq g.drafts)) ≡ too_large → ⊥
    by false b2 is = let x : ⊥ = cc in x
    by true false is = let x : ⊥ = cc in x
    by true true is = timely-fits c st.seq given (draining-fits c st.seq st.asked now st.asked.store.items) is

pub never : (c : Config) (st : Standing) (i : Input) → i.act ≡ Drain → i.ack ≡ None → answer_at c st i ≡ Err fault.TooLarge → ⊥
never c st i drain plain is =
    never-at c st i.now
    (sym (ap (λ (act : Act). answer_at c st (record { now = i.now; ack = i.ack; act = act })) drain
    ∙ ap (λ (ack : Option ℕ). answer_at c st (record { now = i.now; ack = ack; act = Drain })) plain) ∙ is)

pub never-along : (s : Setup) (is : List Input) (i : Input) → i.act ≡ Drain → i.ack ≡ None → right_at s (run_of s is) i ≡ Err fault.TooLarge → ⊥
never-along s is i drain plain e = never s.config (standing_of s is) i drain plain (same_steps s is i ∙ e)

-- ---- what an answer gave

acked-store : (ack : Option ℕ) (g : Given) → (acked ack g).store ≡ g.store
acked-store None g = refl
acked-store (Some id) g = refl

abbrev at_drain : (s : Setup) (is : List Input) (now : ℕ) → Given
at_drain s is now =
    let h = run_of s is in
    draining s.config (next_number s h) (asked_of s h) now (asked_of s h).store.items

drained-given : (s : Setup) (is : List Input) (i : Input) (answer : Answer) → i.act ≡ Drain → right_at s (run_of s is) i ≡ Ok answer
    → (answer.given.drafts ≡ (at_drain s is i.now).drafts) × (answer.given.store ≡ (at_drain s is i.now).store)
drained-given s is i answer drain e =
    let h = run_of s is in
    let k = next_number s h in
    let a = asked_of s h in
    let t = rules-taken s.config k a i answer.given (right-given s h i answer e) in
    let acted : gave (at_drain s is i.now) ≡ Ok t.given = sym (ap (acts s.config k a i.now) drain) ∙ t.acted in
    let same : at_drain s is i.now ≡ t.given = cc in (
      ap (λ (g : Given). g.drafts) t.is ∙ acked-drafts i.ack t.given ∙ ap (λ (g : Given). g.drafts) (sym same),
      ap (λ (g : Given). g.store) t.is ∙ acked-store i.ack t.given ∙ ap (λ (g : Given). g.store) (sym same),
    )

-- ---- at least one of the changes kept goes

owns-itself : (owner : Owner) → is_owner owner owner ≡ true
owns-itself owner = eq-eqb (owner_number owner) (owner_number owner) refl

front-some : (x : ChangeData) (xs : List ChangeData) → 1 ≤ front_run (x ∷ xs)
front-some x xs =
    subst (λ n. 1 ≤ min 32 n) (sym (ap (λ b. cond b (1 + prefix_len (have_one_owner x) xs) 0) (owns-itself x.owner))) (omega arith)

record Dropped (g : Given) (changes : List ChangeData) : Type 0 where
  count : ℕ
  is_lost : Bool
  is : g.store ≡ Some (DropFront count is_lost)
  some : 1 ≤ count
  few : count ≤ 32
  there : count ≤ length changes

draining-drops : (c : Config) (k : ℕ) (a : rule.Asked) (now : ℕ) (x : ChangeData) (xs : List ChangeData) → Dropped (draining c k a now (x ∷ xs)) (x ∷ xs)
draining-drops c k a now x xs =
    let going = longest-few (can_go c k a.book x.owner (later_stamp a.stamp now) (x ∷ xs)) (front_run (x ∷ xs)) in
    let there = front-few x xs in
    by_if (λ g. Dropped g (x ∷ xs)) (owner_is_up a.book x.owner) _ _
    (λ up. by_if (λ g. Dropped g (x ∷ xs)) (nat_lt 0 (front_going c k a.book x.owner (later_stamp a.stamp now) (x ∷ xs))) _ _
    (λ some. record {
      count = front_going c k a.book x.owner (later_stamp a.stamp now) (x ∷ xs);
      is_lost = false;
      is = refl;
      some = ltb-true 0 _ some;
      few = omega (arith, going);
      there = omega (arith, going, there);
    })
    (λ none. record { count = 1; is_lost = true; is = refl; some = omega arith; few = omega arith; there = omega arith }))
    (λ down. record { count = front_run (x ∷ xs); is_lost = true; is = refl; some = front-some x xs; few = omega arith; there = there })

dropped-some : (c : Config) (k : ℕ) (a : rule.Asked) (now : ℕ) (changes : List ChangeData) → 0 < length changes → Dropped (draining c k a now changes) changes
dropped-some c k a now [] some = absurd (omega (arith, some))
dropped-some c k a now (x ∷ xs) some = draining-drops c k a now x xs

pub takes : (s : Setup) (is : List Input) (i : Input) (answer : Answer) → i.act ≡ Drain → right_at s (run_of s is) i ≡ Ok answer → 0 < length (kept_of s (run_of s is)).items
    → TakesSome (kept_of s (run_of s is)).items (kept_of s (run_of s (i ∷ is))).items
takes s is i answer drain e some =
    let h = run_of s is in
    let k = next_number s h in
    let a = asked_of s h in
    let given = right-given s h i answer e in
    let keeps = (rules-lawful s.config k a i answer.given given).keeps in
    let lawful = (runs-all s h (told-all s is).right).kept in
    let d = dropped-some s.config k a i.now a.store.items some in
    let run : run_of s (i ∷ is) ≡ (record { input = i; given = answer.given }) ∷ h = ap (with_done h i) e in
    record {
      count = d.count;
      some = d.some;
      few = d.few;
      there = d.there;
      left = ap (λ h. (kept_of s h).items) run
          ∙ ap (λ (k : Kept ChangeData). k.items) (sym (store-step s h i.now i.ack i.act answer.given keeps lawful))
          ∙ ap (λ call. (store_after (kept_of s h) call).items) ((drained-given s is i answer drain e).1 ∙ d.is);
    }

-- ---- the longest front goes

abbrev Sends : Config → ℕ → rule.Asked → ℕ → ChangeData → List ChangeData → Given → Type 0
Sends c k a now x xs g = SendsLongest c k a.book x.owner (later_stamp a.stamp now) (x ∷ xs) g

none-above : (n : ℕ) → nat_lt 0 n ≡ false → 0 < n → ⊥
none-above n is some = let l = ltb-false 0 n is in let x : ⊥ = omega (arith, l, some) in x

some-above : (n : ℕ) → nat_lt 0 n ≡ true → n ≡ 0 → ⊥
some-above n is none = let l = ltb-true 0 n is in let x : ⊥ = omega (arith, l, none) in x

draining-sends : (c : Config) (k : ℕ) (a : rule.Asked) (now : ℕ) (x : ChangeData) (xs : List ChangeData) → owner_is_up a.book x.owner ≡ true
    → Sends c k a now x xs (draining c k a now (x ∷ xs))
draining-sends c k a now x xs up =
    let fact = can_go c k a.book x.owner (later_stamp a.stamp now) (x ∷ xs) in
    let run = front_run (x ∷ xs) in
    by_if (Sends c k a now x xs) (owner_is_up a.book x.owner) _ _
    (λ e. by_if (Sends c k a now x xs) (nat_lt 0 (longest fact run)) _ _
    (λ some. record { count = longest fact run; longest = longest-is fact run; sent = λ above. (refl, refl); lost = λ none. absurd (some-above (longest fact run) some none) })
    (λ none. record { count = longest fact run; longest = longest-is fact run; sent = λ above. absurd (none-above (longest fact run) none above); lost = λ e. (refl, refl) }))
    (λ down. absurd (true≢false (sym up ∙ down)))

pub sends : (s : Setup) (is : List Input) (i : Input) (answer : Answer) (x : ChangeData) (xs : List ChangeData) → i.act ≡ Drain → right_at s (run_of s is) i ≡ Ok answer
    → (kept_of s (run_of s is)).items ≡ x ∷ xs → owner_is_up (book_of s (run_of s is)) x.owner ≡ true
    → SendsLongest s.config (next_number s (run_of s is)) (book_of s (run_of s is)) x.owner (later_stamp (stamp_of s (run_of s is)) i.now) (x ∷ xs) answer.given
sends s is i answer x xs drain e items up =
    let h = run_of s is in
    let k = next_number s h in
    let a = asked_of s h in
    let given = drained-given s is i answer drain e in
    let rest = draining-sends s.config k a i.now x xs up in
    let same : at_drain s is i.now ≡ draining s.config k a i.now (x ∷ xs) = ap (draining s.config k a i.now) items in
    let drafts = given.0 ∙ ap (λ (g : Given). g.drafts) same in
    let store = given.1 ∙ ap (λ (g : Given). g.store) same in
    record {
      count = rest.count;
      longest = rest.longest;
      sent = λ some. (drafts ∙ (rest.sent some).0, store ∙ (rest.sent some).1);
      lost = λ none. (drafts ∙ (rest.lost none).0, store ∙ (rest.lost none).1);
    }

pub whole : (s : Setup) (is : List Input) (i : Input) (answer : Answer) (x : ChangeData) (xs : List ChangeData) → i.act ≡ Drain → right_at s (run_of s is) i ≡ Ok answer
    → (kept_of s (run_of s is)).items ≡ x ∷ xs → owner_is_up (book_of s (run_of s is)) x.owner ≡ true
    → can_go s.config (next_number s (run_of s is)) (book_of s (run_of s is)) x.owner (later_stamp (stamp_of s (run_of s is)) i.now) (x ∷ xs) (front_run (x ∷ xs)) ≡ true
    → answer.given.drafts ≡ history (book_of s (run_of s is)) x.owner (later_stamp (stamp_of s (run_of s is)) i.now) (x ∷ xs) (front_run (x ∷ xs)) ∷ []
whole s is i answer x xs drain e items up can =
    let sent = sends s is i answer x xs drain e items up in
    let run = front_run (x ∷ xs) in
    let few = sent.longest.few in
    let above = front-some x xs in
    let same : sent.count ≡ run = by (nat_lt sent.count run) refl in
    (sent.sent (omega (arith, same, above))).0
    ∙ ap (λ n. history (book_of s (run_of s is)) x.owner (later_stamp (stamp_of s (run_of s is)) i.now) (x ∷ xs) n ∷ []) same
  where
    sent_ : SendsLongest s.config (next_number s (run_of s is)) (book_of s (run_of s is)) x.owner (later_stamp (stamp_of s (run_of s is)) i.now) (x ∷ xs) answer.given
    sent_ = sends s is i answer x xs drain e items up

    by : (b : Bool) → nat_lt sent_.count (front_run (x ∷ xs)) ≡ b → sent_.count ≡ front_run (x ∷ xs)
    by true is =
        let l = ltb-true sent_.count (front_run (x ∷ xs)) is in
        absurd (true≢false (sym can ∙ sent_.longest.greatest (front_run (x ∷ xs)) l (omega arith)))
    by false is =
        let l = ltb-false sent_.count (front_run (x ∷ xs)) is in
        let few = sent_.longest.few in
        omega (arith, l, few)
