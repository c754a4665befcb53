-- A client whose end came is to be shut once it is done or its five seconds are over, and then the next calls shut it.
use Rattle.std.proofs.Common.{◌≡◌, ◌⊎◌, inl, inr, ℕ, suc, ◌-◌, ◌<◌, ◌≤◌, nat_le, ◌==◌, ◌&&◌, ◌||◌, if◌then◌else◌, Bool, true, false, not, List, [], ◌∷◌, ◌++◌, length, Option, Some, None, Contains, refl, sym, ◌∙◌, ap, subst, le_trans, arith}
use Rattle.std.proofs.lemmas.Bool.{eqb-true, le-leb}
use Rattle.std.proofs.lemmas.Bool.Decides.{eqb_tells}
use Rattle.std.specs.List.{list_all}
use Rattle.std.specs.Option.{IfSome, option_map, option_map_or}
use Rattle.spk_broker_rules.specs.Plan.{Event}
use Rattle.spk_broker_rules.specs.Plan as event
use Rattle.spk_broker_rules.specs.Step.{knows}
use Rattle.spk_outbox.specs.Step.{written}
use Rattle.spk_session.specs.declared.answer.Sort.{Sort}
use Rattle.spk_session.specs.declared.answer.Sort.TheVariants as sort
use Rattle.spk_clients.specs.declared.cause.Cause.{Cause}
use Rattle.spk_clients.specs.declared.cause.Cause.TheVariants as cause
use Rattle.spk_clients.specs.declared.client.Client.{Client}
use Rattle.spk_clients.specs.declared.client.Phase.{Phase}
use Rattle.spk_clients.specs.declared.client.Phase.TheVariants.{Quiet, Open, Over, Done}
use Rattle.spk_clients.specs.declared.client.Offered.{Offered}
use Rattle.spk_clients.specs.declared.client.Offered.TheVariants.{Taken, Refused, Passed}
use Rattle.spk_clients.specs.Client.{after_hearing, awaited, cut_off, fresh_client, given_up, has_ended, has_moment, heard_phase, is_done, is_due, is_leaving, is_over, is_shut, is_to_shut, leaves, may_be_awaited, over_until, refused_with, settled, settles, takes_in, told, untouched, waiting_for, written_to}
use Rattle.spk_clients.specs.Data.{NobodyIsDue}
use Rattle.spk_server.specs.Data.{Deed, InHand, Offer, Room, Slow, Timed, Joined, Fed, Skipped, Took, Came, Broke, Left, Ticked, Handed, Shut, Told, Cut, Tried, Waited, Freed, Dropped, Wrote, Blocked, Named, Forgot, Kept, Begun}
use Rattle.spk_server.specs.Step.{after, behind, called, called_on, came, cause_why, change, changed, freed_from, grace, is_slow, later, left, offered, placed, quiet, set_free, slow_of, tried, tried_at}
use Rattle.spk_broker_notes.specs.Noted.{Noted}
use Rattle.spk_server.specs.Calls.{AreDone, room_with, shut_calls}
use Rattle.spk_server.specs.Log.{IsRun, any_deed}
use Rattle.spk_server.specs.Past.{joins}
use Rattle.spk_server.proofs.Ends.{both, heard_over, not_true}
use Rattle.spk_server.proofs.Histories.{unequal}
use Rattle.spk_server.proofs.Lives.{called_keeps, came_keeps, pick}

-- ---- what a deed makes of a client

-- an end stays, and its moment; one that is new has five seconds
record Goes (now : ℕ) (c d : Client) : Type 0 where
  pub over : is_over c ≡ true → (is_over d ≡ true) × (d.until ≡ c.until)
  pub leaving : is_leaving d.phase ≡ true → (is_leaving c.phase ≡ true) ⊎ ((is_over c ≡ false) × (d.until ≡ later grace now))

-- who may read what is left isn't done
abbrev Busy : Client → Type 0
Busy c = is_leaving c.phase ≡ true → is_done c ≡ false

record Moves (now : ℕ) (c d : Client) : Type 0 where
  pub goes : Goes now c d
  pub busy : Busy c → Busy d

stays_so : (now : ℕ) (c : Client) → Moves now c c
stays_so now c = record { goes = record { over = λ e. (e, refl); leaving = λ l. inl l }; busy = λ b. b }

one_of : (now : ℕ) (c : Client) (b : Bool) (x y : Client) → Moves now c x → Moves now c y → Moves now c (if b then x else y)
one_of now c true x y p q = p
one_of now c false x y p q = q

nobody : {A : Type 0} → false ≡ true → A
nobody e = cc

not_both : {A : Type 0} (b : Bool) → b ≡ false → b ≡ true → A
not_both b e t = cc

and_false : (a b : Bool) → (a && b) ≡ false → a ≡ true → b ≡ false
and_false true b e t = e
and_false false b e t = cc

settles_so : (now : ℕ) (c x : Client) → Goes now c x → Moves now c (settled x)
settles_so now c x g = pick (λ b. Moves now c (if b then record x { phase = Done } else x)) (settles x)
    (λ t. record { goes = record { over = λ e. (refl, (g.over e).1); leaving = nobody }; busy = λ b l. nobody l })
    (λ f. record { goes = g; busy = λ b l. and_false (is_leaving x.phase) (is_done x) f l })

over_so : (now : ℕ) (why : Cause) (c : Client) → Goes now c (over_until (later grace now) why c)
over_so now why c = pick (λ b. Goes now c (if b then c else record c { phase = Over; until = later grace now; cause = why })) (is_over c)
    (λ t. record { over = λ e. (e, refl); leaving = λ l. inl l })
    (λ f. record { over = λ e. not_both (is_over c) f e; leaving = λ l. inr (f, refl) })

leaves_so : (now : ℕ) (why : Cause) (c : Client) → Moves now c (leaves (later grace now) why c)
leaves_so now why c = settles_so now c (over_until (later grace now) why c) (over_so now why c)

given_up_so : (now : ℕ) (c : Client) → Moves now c (given_up c)
given_up_so now c = one_of now c (is_leaving c.phase) (record c { phase = Done }) c
    (record { goes = record { over = λ e. (refl, refl); leaving = nobody }; busy = λ b l. nobody l }) (stays_so now c)

heard_leaving : (p : Phase) → is_leaving (heard_phase p) ≡ true → is_leaving p ≡ true
heard_leaving Quiet e = cc
heard_leaving Open e = cc
heard_leaving Over e = refl
heard_leaving Done e = cc

-- its phase is told apart no further, and what waits, its moment and its cause stay
same_so : (now : ℕ) (c d : Client) → (is_over c ≡ true → is_over d ≡ true) → (is_leaving d.phase ≡ true → is_leaving c.phase ≡ true)
    → d.until ≡ c.until → is_done d ≡ is_done c → Moves now c d
same_so now c d over leaving until done = record {
  goes = record { over = λ e. (over e, until); leaving = λ l. inl (leaving l) };
  busy = λ b l. done ∙ b (leaving l);
}

refused_so : (now : ℕ) (s : Sort) (c : Client) → Moves now c (refused_with s c)
refused_so now sort.QosZero c = same_so now c _ (λ e. e) (λ l. l) refl refl
refused_so now sort.Other c = same_so now c _ (λ e. e) (λ l. l) refl refl

put_some : (xs : List (List ℕ)) (x : List ℕ) → (length (xs ++ x ∷ []) == 0) ≡ false
put_some xs x = elim (eqb_tells (length (xs ++ x ∷ [])) 0) [
  | inl p ↦ absurd (none xs p.1)
  | inr p ↦ p.0
]
  where
    none : (xs : List (List ℕ)) → length (xs ++ x ∷ []) ≡ 0 → ⊥
    none [] e = omega (arith, e)
    none (y ∷ ys) e = omega (arith, e)

more_waits : (ps : List (List ℕ)) (p : List ℕ) (cut : Bool) → ((length ps == 0) || cut) ≡ false → ((length (ps ++ p ∷ []) == 0) || cut) ≡ false
more_waits ps p cut e = ap (λ b. b || cut) (put_some ps p) ∙ no_cut (length ps == 0) cut e
  where
    no_cut : (a b : Bool) → (a || b) ≡ false → b ≡ false
    no_cut true b e = cc
    no_cut false b e = e

offered_so : (now : ℕ) (o : Offer) (fate : Offered) (c : Client) → Moves now c (offered o.send fate c)
offered_so now o Taken c = record {
  goes = record { over = λ e. (e, refl); leaving = λ l. inl l };
  busy = λ b l. more_waits c.outbox.packets o.send.bytes c.cut (b l);
}
offered_so now o Refused c = refused_so now o.send.sort c
offered_so now o Passed c = stays_so now c

told_so : (now : ℕ) (c : Client) → Moves now c (told c)
told_so now c = one_of now c c.lost (record c { lost = false }) (record c { drops = c.drops - 1 })
    (same_so now c _ (λ e. e) (λ l. l) refl refl) (same_so now c _ (λ e. e) (λ l. l) refl refl)

awaited_so : (now : ℕ) (own : Bool) (at : ℕ) (c : Client) → Moves now c (awaited own at c)
awaited_so now own at c = one_of now c (may_be_awaited own c) _ c (same_so now c _ (λ e. e) (λ l. l) refl refl) (stays_so now c)

takes_in_so : (now : ℕ) (piece : List ℕ) (c : Client) → Moves now c (takes_in piece c)
takes_in_so now piece c = one_of now c (is_over c) c (record c { feed = c.feed ++ piece }) (stays_so now c) (same_so now c _ (λ e. e) (λ l. l) refl refl)

-- ---- a deed, for each client

-- it is kept by whatever a deed makes of a client
abbrev Stable : ℕ → (Client → Type 0) → Type 0
Stable now P = (c d : Client) → Moves now c d → P c → P d

moved_at : (now : ℕ) (P : Client → Type 0) → Stable now P → (f : Client → Client) → ((c : Client) → Moves now c (f c)) → (conn k : ℕ) (cs : ℕ → Option Client)
    → IfSome (cs k) P → IfSome (change f conn cs k) P
moved_at now P stable f h conn k cs s = go (k == conn) (cs k) s
  where
    go : (b : Bool) (o : Option Client) → IfSome o P → IfSome (if b then option_map f o else o) P
    go true None s = tt
    go true (Some c) s = stable c (f c) (h c) s
    go false o s = s

same_clients : (P : Client → Type 0) (k : ℕ) (cs ds : ℕ → Option Client) → cs ≡ ds → IfSome (ds k) P → IfSome (cs k) P
same_clients P k cs ds same s = subst (λ (q : ℕ → Option Client). IfSome (q k) P) (sym same) s

left_step : (P : Client → Type 0) (k conn : ℕ) (why : Cause) (r : Room) → Stable r.now P → IfSome (r.clients k) P → IfSome ((left conn why r).clients k) P
left_step P k conn why r stable s =
    same_clients P k _ _ (called_keeps None conn (event.Closed conn r.now) (record (changed (leaves (later grace r.now) why) conn r) { in_hand = None }))
    (moved_at r.now P stable (leaves (later grace r.now) why) (leaves_so r.now why) conn k r.clients s)

tried_step : (P : Client → Type 0) (k : ℕ) (o : Option Slow) (r : Room) → Stable r.now P → IfSome (r.clients k) P → IfSome ((tried o r).clients k) P
tried_step P k None r stable s = s
tried_step P k (Some w) r stable s = go (is_slow w r) (moved_at r.now P stable (awaited (w.client == w.publisher) r.now) (awaited_so r.now (w.client == w.publisher) r.now) w.client k r.clients s)
  where
    go : (b : Bool) → IfSome (change (awaited (w.client == w.publisher) r.now) w.client r.clients k) P
        → IfSome ((tried_at b w (changed (awaited (w.client == w.publisher) r.now) w.client r)).clients k) P
    go true q = moved_at r.now P stable (waiting_for (Some w.client)) (λ c. same_so r.now c _ (λ e. e) (λ l. l) refl refl) w.publisher k (change (awaited (w.client == w.publisher) r.now) w.client r.clients) q
    go false q = q

freed_step : (P : Client → Type 0) (k : ℕ) (o : Option ℕ) (conn : ℕ) (r : Room) → Stable r.now P → IfSome (r.clients k) P → IfSome ((freed_from o conn r).clients k) P
freed_step P k None conn r stable s = s
freed_step P k (Some slow) conn r stable s = moved_at r.now P stable (set_free r.now (slow == conn)) (λ c. same_so r.now c _ (λ e. e) (λ l. l) refl refl) slow k r.clients s

freed_now : (o : Option ℕ) (conn : ℕ) (r : Room) → (freed_from o conn r).now ≡ r.now
freed_now None conn r = refl
freed_now (Some slow) conn r = refl

forgot_step : (P : Client → Type 0) (k conn : ℕ) (cs : ℕ → Option Client) → IfSome (cs k) P → IfSome (placed None conn cs k) P
forgot_step P k conn cs s = pick (λ b. IfSome (if b then None else cs k) P) (k == conn) (λ q. tt) (λ q. s)

kept_step : (P : Client → Type 0) (k : ℕ) (d : Deed) (r : Room) → Stable r.now P → joins k d ≡ false → IfSome (r.clients k) P → IfSome ((after d r).clients k) P
kept_step P k (Timed m) r st j s = s
kept_step P k (Joined conn) r st j s = subst (λ (b : Bool). IfSome (if b then Some (fresh_client (later quiet r.now)) else r.clients k) P) (sym (unequal conn k j)) s
kept_step P k (Fed conn piece) r st j s = moved_at r.now P st (takes_in piece) (takes_in_so r.now piece) conn k r.clients s
kept_step P k (Skipped conn piece) r st j s = s
kept_step P k (Took conn p rest) r st j s =
    moved_at r.now P st (λ c. after_hearing p (record c { feed = rest }))
    (λ c. same_so r.now c _ (heard_over c.phase) (heard_leaving c.phase) refl refl) conn k r.clients s
kept_step P k Came r st j s = same_clients P k _ _ (came_keeps r.in_hand r) s
kept_step P k (Broke conn f) r st j s = same_clients P k _ _ (called_keeps None conn (event.Fault conn f r.now) r) s
kept_step P k (Left conn why) r st j s = left_step P k conn (cause_why why) r st s
kept_step P k Ticked r st j s = s
kept_step P k (Handed o fate) r st j s = moved_at r.now P st (offered o.send fate) (offered_so r.now o fate) o.send.conn k r.clients s
kept_step P k (Shut q) r st j s = moved_at r.now P st (leaves (later grace r.now) q.cause) (leaves_so r.now q.cause) q.conn k r.clients s
kept_step P k (Told conn t) r st j s = same_clients P k _ _ (called_keeps None conn (event.Refused conn t r.now) (changed told conn r)) (moved_at r.now P st told (told_so r.now) conn k r.clients s)
kept_step P k (Cut conn t) r st j s = left_step P k conn cause.Memory (changed told conn r) st (moved_at r.now P st told (told_so r.now) conn k r.clients s)
kept_step P k Tried r st j s = tried_step P k r.slow r st s
kept_step P k (Waited conn) r st j s = s
kept_step P k (Freed conn) r st j s = moved_at r.now P st (waiting_for None) (λ c. same_so r.now c _ (λ e. e) (λ l. l) refl refl) conn k
    (freed_from (slow_of r.clients conn) conn (record r { held = behind r.held })).clients
    (freed_step P k (slow_of r.clients conn) conn (record r { held = behind r.held }) st s)
kept_step P k (Dropped conn) r st j s = moved_at r.now P st given_up (given_up_so r.now) conn k r.clients s
kept_step P k (Wrote conn n) r st j s = moved_at r.now P st (written_to n)
    (λ c. settles_so r.now c (record c { outbox = written n c.outbox }) (record { over = λ e. (e, refl); leaving = λ l. inl l })) conn k r.clients s
kept_step P k (Blocked conn) r st j s = moved_at r.now P st cut_off
    (λ c. settles_so r.now c (record c { cut = true }) (record { over = λ e. (e, refl); leaving = λ l. inl l })) conn k r.clients s
kept_step P k (Named conn) r st j s = moved_at r.now P st untouched (λ c. same_so r.now c _ (λ e. e) (λ l. l) refl refl) conn k r.clients s
kept_step P k (Kept b) r st j s = s
kept_step P k Begun r st j s = s
kept_step P k (Forgot conn) r st j s = forgot_step P k conn r.clients s

-- ---- time goes on

called_now : (by : Option ℕ) (conn : ℕ) (e : Event) (r : Room) → (called_on by conn e r).now ≡ r.now
called_now by conn e r = go (knows r.noted.broker conn)
  where
    go : (b : Bool) → (if b then called by e r else r).now ≡ r.now
    go true = refl
    go false = refl

came_now : (h : Option InHand) (r : Room) → (came h r).now ≡ r.now
came_now None r = refl
came_now (Some h) r = called_now _ h.conn _ (record r { in_hand = None })

tried_now : (o : Option Slow) (r : Room) → (tried o r).now ≡ r.now
tried_now None r = refl
tried_now (Some w) r = go (is_slow w r)
  where
    go : (b : Bool) → (tried_at b w (changed (awaited (w.client == w.publisher) r.now) w.client r)).now ≡ r.now
    go true = refl
    go false = refl

no_less : (a b : ℕ) → b ≡ a → a ≤ b
no_less a b e = omega (arith, e)

time_goes : (d : Deed) (r : Room) → r.now ≤ (after d r).now
time_goes (Timed m) r = omega arith
time_goes (Joined conn) r = omega arith
time_goes (Fed conn piece) r = omega arith
time_goes (Skipped conn piece) r = omega arith
time_goes (Took conn p rest) r = omega arith
time_goes Came r = no_less _ _ (came_now r.in_hand r)
time_goes (Broke conn f) r = no_less _ _ (called_now None conn (event.Fault conn f r.now) r)
time_goes (Left conn why) r = no_less _ _ (called_now None conn (event.Closed conn r.now) (record (changed (leaves (later grace r.now) (cause_why why)) conn r) { in_hand = None }))
time_goes Ticked r = omega arith
time_goes (Handed o fate) r = omega arith
time_goes (Shut q) r = omega arith
time_goes (Told conn t) r = no_less _ _ (called_now None conn (event.Refused conn t r.now) (changed told conn r))
time_goes (Cut conn t) r = no_less _ _ (called_now None conn (event.Closed conn r.now) (record (changed (leaves (later grace r.now) cause.Memory) conn (changed told conn r)) { in_hand = None }))
time_goes Tried r = no_less _ _ (tried_now r.slow r)
time_goes (Waited conn) r = omega arith
time_goes (Freed conn) r = no_less _ _ (freed_now (slow_of r.clients conn) conn (record r { held = behind r.held }))
time_goes (Dropped conn) r = omega arith
time_goes (Wrote conn n) r = omega arith
time_goes (Blocked conn) r = omega arith
time_goes (Named conn) r = omega arith
time_goes (Kept b) r = omega arith
time_goes Begun r = omega arith
time_goes (Forgot conn) r = omega arith

-- ---- who leaves isn't done, and has five seconds at most

-- who may read what is left has until five seconds from now at the latest
abbrev Timely : ℕ → Client → Type 0
Timely now c = is_leaving c.phase ≡ true → c.until ≤ later grace now

abbrev InOrder : ℕ → Client → Type 0
InOrder now c = Busy c × Timely now c

leaving_over : (p : Phase) → is_leaving p ≡ true → has_ended p ≡ true
leaving_over Quiet e = cc
leaving_over Open e = cc
leaving_over Over e = refl
leaving_over Done e = cc

timely_so : (now : ℕ) (c d : Client) → Goes now c d → Timely now c → Timely now d
timely_so now c d g t l = elim (g.leaving l) [
  | inl p ↦ (let same : d.until ≡ c.until = (g.over (leaving_over c.phase p)).1 in let less : c.until ≤ later grace now = t p in omega (arith, same, less))
  | inr q ↦ no_less _ _ (sym q.1)
]

order_so : (now : ℕ) → Stable now (InOrder now)
order_so now c d m o = (m.busy o.0, timely_so now c d m.goes o.1)

order_later : (now at : ℕ) (o : Option Client) → now ≤ at → IfSome o (InOrder now) → IfSome o (InOrder at)
order_later now at None less s = tt
order_later now at (Some c) less s = (s.0, λ l. (let h : c.until ≤ later grace now = s.1 l in omega (arith, h, less)))

order_step : (k : ℕ) (d : Deed) (r : Room) (b : Bool) → joins k d ≡ b → IfSome (r.clients k) (InOrder r.now) → IfSome ((after d r).clients k) (InOrder r.now)
order_step k d r false j s = kept_step (InOrder r.now) k d r (order_so r.now) j s
order_step k (Joined conn) r true j s = pick (λ b. IfSome (if b then Some (fresh_client (later quiet r.now)) else r.clients k) (InOrder r.now)) (k == conn) (λ q. (λ l. nobody l, λ l. nobody l)) (λ q. s)
order_step k (Timed m) r true j s = nobody j
order_step k (Fed conn piece) r true j s = nobody j
order_step k (Skipped conn piece) r true j s = nobody j
order_step k (Took conn p rest) r true j s = nobody j
order_step k Came r true j s = nobody j
order_step k (Broke conn f) r true j s = nobody j
order_step k (Left conn why) r true j s = nobody j
order_step k Ticked r true j s = nobody j
order_step k (Handed o fate) r true j s = nobody j
order_step k (Shut q) r true j s = nobody j
order_step k (Told conn t) r true j s = nobody j
order_step k (Cut conn t) r true j s = nobody j
order_step k Tried r true j s = nobody j
order_step k (Waited conn) r true j s = nobody j
order_step k (Freed conn) r true j s = nobody j
order_step k (Dropped conn) r true j s = nobody j
order_step k (Wrote conn n) r true j s = nobody j
order_step k (Blocked conn) r true j s = nobody j
order_step k (Named conn) r true j s = nobody j
order_step k (Kept b) r true j s = nobody j
order_step k Begun r true j s = nobody j
order_step k (Forgot conn) r true j s = nobody j

in_order : (log : List Deed) (r s : Room) (k : ℕ) → IsRun any_deed r log s → IfSome (r.clients k) (InOrder r.now) → IfSome (s.clients k) (InOrder s.now)
in_order [] r s k a h = subst (λ (q : Room). IfSome (q.clients k) (InOrder q.now)) a h
in_order (d ∷ ds) r s k a h =
    in_order ds (after d r) s k a.2 (order_later r.now (after d r).now ((after d r).clients k) (time_goes d r) (order_step k d r (joins k d) refl h))

-- ---- an end stays, and its moment

abbrev EndedBy : ℕ → Client → Type 0
EndedBy last c = (is_over c ≡ true) × (is_leaving c.phase ≡ true → c.until ≤ last)

ended_so : (last now : ℕ) → Stable now (EndedBy last)
ended_so last now c d m e = (
  (m.goes.over e.0).0,
  λ l. elim (m.goes.leaving l) [
    | inl p ↦ (let same : d.until ≡ c.until = (m.goes.over e.0).1 in let less : c.until ≤ last = e.1 p in omega (arith, same, less))
    | inr q ↦ not_both (is_over c) q.0 e.0
  ],
)

stays_ended : (last : ℕ) (log : List Deed) (r s : Room) (k : ℕ) → IsRun any_deed r log s → list_all (λ d. not (joins k d)) log ≡ true
    → IfSome (r.clients k) (EndedBy last) → IfSome (s.clients k) (EndedBy last)
stays_ended last [] r s k a n h = subst (λ (q : Room). IfSome (q.clients k) (EndedBy last)) a h
stays_ended last (d ∷ ds) r s k a n h =
    let b = both (not (joins k d)) (list_all (λ y. not (joins k y)) ds) n in
    stays_ended last ds (after d r) s k a.2 b.1 (kept_step (EndedBy last) k d r (ended_so last r.now) (not_true (joins k d) b.0) h)

-- ---- who is to be shut

over_shut : (p : Phase) → has_ended p ≡ true → (is_leaving p ≡ true → ⊥) → is_shut p ≡ true
over_shut Quiet e h = cc
over_shut Open e h = cc
over_shut Over e h = absurd (h refl)
over_shut Done e h = refl

at_client : (P : Client → Type 0) (o : Option Client) (c : Client) → o ≡ Some c → IfSome o P → P c
at_client P o c e s = subst (λ (q : Option Client). IfSome q P) e s

-- nothing waits for it, or its socket takes no more
pub done_shut : (x : Noted) (log : List Deed) (r : Room) (k : ℕ) (c : Client) → IsRun any_deed (room_with x) log r → r.clients k ≡ Some c
    → is_over c ≡ true → is_done c ≡ true → is_to_shut c ≡ true
done_shut x log r k c run is over done =
    let order : InOrder r.now c = at_client (InOrder r.now) (r.clients k) c is (in_order log (room_with x) r k run tt) in
    over_shut c.phase over (λ l. not_both (is_done c) (order.0 l) done)

due_when : (now until : ℕ) (p : Phase) → until ≤ now → is_leaving p ≡ true → (has_moment p && nat_le until now) ≡ false → ⊥
due_when now until Quiet less l e = cc
due_when now until Open less l e = cc
due_when now until Over less l e = not_both (nat_le until now) e (le-leb until now less)
due_when now until Done less l e = cc

-- its five seconds are over, and nobody's moment has come any more
pub late_shut : (x : Noted) (before behind : List Deed) (q r : Room) (k : ℕ) (c : Client) → IsRun any_deed (room_with x) before q → IfSome (q.clients k) (λ b. is_over b ≡ true)
    → IsRun any_deed q behind r → list_all (λ d. not (joins k d)) behind ≡ true → r.clients k ≡ Some c → NobodyIsDue r.now r.clients → later grace q.now ≤ r.now
    → is_to_shut c ≡ true
late_shut x before behind q r k c run over more none is nobody_due late =
    let ended : EndedBy (later grace q.now) c = at_client (EndedBy (later grace q.now)) (r.clients k) c is
    (stays_ended (later grace q.now) behind q r k more none (ended_at (q.clients k) over (in_order before (room_with x) q k run tt))) in
    over_shut c.phase ended.0 (λ l. due_when r.now c.until c.phase (le_trans (ended.1 l) late) l
    (ap (λ o. option_map_or (is_due r.now) o false) (sym is) ∙ nobody_due k))
  where
    ended_at : (o : Option Client) → IfSome o (λ b. is_over b ≡ true) → IfSome o (InOrder q.now) → IfSome o (EndedBy (later grace q.now))
    ended_at None e h = tt
    ended_at (Some b) e h = (e, h.1)

-- ---- who is to be shut is shut

first_in : (x : ℕ × Cause) (xs : List (ℕ × Cause)) → Contains (x ∷ xs) x
first_in x xs = (0, omega arith, refl)

later_in : (x : ℕ × Cause) (xs : List (ℕ × Cause)) (y : ℕ × Cause) → Contains xs y → Contains (x ∷ xs) y
later_in x xs y h = (suc h.0, (let less : h.0 < length xs = h.1 in omega (arith, less)), h.2)

none_stays : (k : ℕ) (shut : List (ℕ × Cause)) (r s : Room) → r.clients k ≡ None → AreDone r (shut_calls shut) s → s.clients k ≡ None
none_stays k [] r s e a = ap {A = Room} (λ x. x.clients k) (sym a.3 ∙ a.1.0) ∙ e
none_stays k (x ∷ xs) r s e a =
    none_stays k xs a.0 s (ap {A = Room} (λ y. y.clients k) a.1.1 ∙ still (k == x.0)) a.3
  where
    still : (b : Bool) → (if b then None else r.clients k) ≡ None
    still true = refl
    still false = e

same_client : (o : Option Client) (c d : Client) → o ≡ Some c → o ≡ Some d → d ≡ c
same_client o c d e f = some_same (sym f ∙ e)
  where
    some_same : Some d ≡ Some c → d ≡ c
    some_same h = cc

pub shut_by_calls : (k : ℕ) (c : Client) (shut : List (ℕ × Cause)) (r s : Room) → r.clients k ≡ Some c → is_to_shut c ≡ true → AreDone r (shut_calls shut) s
    → Contains shut (k, c.cause) × (s.clients k ≡ None)
shut_by_calls k c [] r s is done a =
    not_both (is_to_shut c) (ap (λ o. option_map_or is_to_shut o false) (sym is) ∙ a.1.1 k) done
shut_by_calls k c (x ∷ xs) r s is done a =
    pick (λ b. (k == x.0) ≡ b → Contains (x ∷ xs) (k, c.cause) × (s.clients k ≡ None)) (k == x.0)
    (λ t h.
    let at : k ≡ x.0 = eqb-true k x.0 t in
    let here : r.clients k ≡ Some a.1.0.0 = ap r.clients at ∙ a.1.0.1 in
    let why : c.cause ≡ x.1 = ap {A = Client} (λ d. d.cause) (sym (same_client (r.clients k) c a.1.0.0 is here)) ∙ a.1.0.2.1 in
    let same : x ≡ (k, c.cause) = ap {A = ℕ} {B = ℕ × Cause} (λ n. (n, x.1)) (sym at) ∙ ap {A = Cause} {B = ℕ × Cause} (λ w. (k, w)) (sym why) in (
      subst (Contains (x ∷ xs)) same (first_in x xs),
      none_stays k xs a.0 s (ap {A = Room} (λ y. y.clients k) a.1.1 ∙ ap (λ (b : Bool). if b then None else r.clients k) t) a.3,
    ))
    (λ f h.
    let rest = shut_by_calls k c xs a.0 s (ap {A = Room} (λ y. y.clients k) a.1.1 ∙ ap (λ (b : Bool). if b then None else r.clients k) f ∙ is) done a.3 in
    (later_in x xs (k, c.cause) rest.0, rest.1))
    refl
