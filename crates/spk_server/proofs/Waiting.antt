-- Whoever waits for another stands among those who are looked at.
use Rattle.std.proofs.Common.{◌≡◌, inl, inr, ℕ, ◌-◌, ◌==◌, if◌then◌else◌, Bool, true, false, ◌||◌, List, [], ◌∷◌, ◌++◌, Option, Some, None, is_some, refl, sym, ◌∙◌, ap, subst}
use Rattle.std.proofs.lemmas.Bool.{eq-eqb, eqb-true, ne_eqb, or_cases, or_left, or_right}
use Rattle.std.specs.Option.{option_map, option_map_or}
use Rattle.spk_session.specs.declared.answer.Sort.{Sort}
use Rattle.spk_session.specs.declared.answer.Sort.TheVariants as sort
use Rattle.spk_clients.specs.declared.cause.Cause.{Cause}
use Rattle.spk_clients.specs.declared.cause.Cause.TheVariants as cause
use Rattle.spk_clients.specs.declared.client.Client.{Client}
use Rattle.spk_clients.specs.declared.client.Offered.{Offered}
use Rattle.spk_clients.specs.declared.client.Offered.TheVariants.{Taken, Refused, Passed}
use Rattle.spk_clients.specs.Client.{after_hearing, awaited, cut_off, fresh_client, given_up, is_over, is_leaving, leaves, may_be_awaited, over_until, refused_with, settled, settles, takes_in, told, untouched, waiting_for, written_to}
use Rattle.spk_outbox.specs.Step.{written}
use Rattle.spk_broker_rules.specs.Plan.{Event}
use Rattle.spk_broker_rules.specs.Plan as event
use Rattle.spk_broker.specs.Sent.{Sent}
use Rattle.spk_server.specs.Data.{Deed, InHand, Room, Slow, Timed, Joined, Fed, Skipped, Took, Came, Broke, Left, Ticked, Handed, Shut, Told, Cut, Tried, Waited, Freed, Dropped, Wrote, Blocked, Named, Forgot, Kept, Begun}
use Rattle.spk_server.specs.Step.{after, awaits, behind, called_on, came, cause_why, change, changed, freed_from, grace, is_among, is_slow, later, offered, placed, quiet, set_free, slow_of, tried, tried_at}
use Rattle.spk_server.specs.Log.{IsRun, May}
use Rattle.spk_server.proofs.Lives.{called_keeps, came_keeps, either}
use Rattle.spk_server.proofs.Looking.{called_held, came_held, freed_held}

-- each who waits is among these
abbrev Seen : (ℕ → Option Client) → List ℕ → Type 0
Seen clients held = (k : ℕ) → awaits clients k ≡ true → is_among k held ≡ true

eq_turned : (a b : ℕ) → (a == b) ≡ true → (b == a) ≡ true
eq_turned a b e = eq-eqb b a (sym (eqb-true a b e))

ne_turned : (a b : ℕ) → (a == b) ≡ false → (b == a) ≡ false
ne_turned a b e = ne_eqb b a (λ q. apart (sym (eq-eqb a b (sym q)) ∙ e))
  where
    apart : true ≡ false → ⊥
    apart q = cc

-- ---- changes that leave for whom a client waits

same_wait : (f : Client → Client) → ((c : Client) → (f c).waits_for ≡ c.waits_for) → (conn k : ℕ) (cs : ℕ → Option Client) → slow_of (change f conn cs) k ≡ slow_of cs k
same_wait f same conn k cs = go (k == conn) (cs k)
  where
    go : (b : Bool) (o : Option Client) → option_map_or (λ (c : Client). c.waits_for) (if b then option_map f o else o) None ≡ option_map_or (λ (c : Client). c.waits_for) o None
    go true None = refl
    go true (Some c) = same c
    go false o = refl

kept : (f : Client → Client) → ((c : Client) → (f c).waits_for ≡ c.waits_for) → (conn : ℕ) (cs : ℕ → Option Client) (held : List ℕ) → Seen cs held → Seen (change f conn cs) held
kept f same conn cs held seen = λ k e. seen k (sym (ap is_some (same_wait f same conn k cs)) ∙ e)

w_takes_in : (piece : List ℕ) (c : Client) → (takes_in piece c).waits_for ≡ c.waits_for
w_takes_in piece c = go (is_over c)
  where
    go : (b : Bool) → (if b then c else record c { feed = c.feed ++ piece }).waits_for ≡ c.waits_for
    go true = refl
    go false = refl

w_settled : (c : Client) → (settled c).waits_for ≡ c.waits_for
w_settled c = either (λ (x : Client). x.waits_for) (settles c) _ c refl

w_leaves : (until : ℕ) (why : Cause) (c : Client) → (leaves until why c).waits_for ≡ c.waits_for
w_leaves until why c = w_settled (over_until until why c) ∙ go (is_over c)
  where
    go : (b : Bool) → (if b then c else record c { phase = Rattle.spk_clients.specs.declared.client.Phase.TheVariants.Over; until = until; cause = why }).waits_for ≡ c.waits_for
    go true = refl
    go false = refl

w_told : (c : Client) → (told c).waits_for ≡ c.waits_for
w_told c = either (λ (x : Client). x.waits_for) c.lost _ (record c { drops = c.drops - 1 }) refl

w_given_up : (c : Client) → (given_up c).waits_for ≡ c.waits_for
w_given_up c = either (λ (x : Client). x.waits_for) (is_leaving c.phase) _ c refl

w_awaited : (own : Bool) (now : ℕ) (c : Client) → (awaited own now c).waits_for ≡ c.waits_for
w_awaited own now c = either (λ (x : Client). x.waits_for) (may_be_awaited own c) _ c refl

w_refused : (s : Sort) (c : Client) → (refused_with s c).waits_for ≡ c.waits_for
w_refused sort.QosZero c = refl
w_refused sort.Other c = refl

w_offered : (s : Sent) (fate : Offered) (c : Client) → (offered s fate c).waits_for ≡ c.waits_for
w_offered s Taken c = refl
w_offered s Refused c = w_refused s.sort c
w_offered s Passed c = refl

-- ---- who is among them

among_more : (k p : ℕ) (xs : List ℕ) → is_among k xs ≡ true → is_among k (xs ++ p ∷ []) ≡ true
among_more k p [] e = cc
among_more k p (x ∷ xs) e =
    elim (or_cases (x == k) (is_among k xs) e) [
      | inl here ↦ or_left (x == k) (is_among k (xs ++ p ∷ [])) here
      | inr there ↦ or_right (x == k) (is_among k (xs ++ p ∷ [])) (among_more k p xs there)
    ]

among_last : (k p : ℕ) (xs : List ℕ) → (p == k) ≡ true → is_among k (xs ++ p ∷ []) ≡ true
among_last k p [] e = or_left (p == k) false e
among_last k p (x ∷ xs) e = or_right (x == k) (is_among k (xs ++ p ∷ [])) (among_last k p xs e)

-- the first goes behind the others
turned : (k c : ℕ) (held rest : List ℕ) → held ≡ c ∷ rest → is_among k held ≡ true → is_among k (behind held ++ c ∷ []) ≡ true
turned k c held rest first e =
    subst (λ h. is_among k (behind h ++ c ∷ []) ≡ true) (sym first)
    (elim (or_cases (c == k) (is_among k rest) (sym (ap (is_among k) first) ∙ e)) [
      | inl here ↦ among_last k c rest here
      | inr there ↦ among_more k c rest there
    ])

-- the first goes
gone : (k c : ℕ) (held rest : List ℕ) → held ≡ c ∷ rest → (c == k) ≡ false → is_among k held ≡ true → is_among k (behind held) ≡ true
gone k c held rest first other e =
    subst (λ h. is_among k (behind h) ≡ true) (sym first) (sym (ap (λ b. b || is_among k rest) other) ∙ sym (ap (is_among k) first) ∙ e)

-- ---- deeds

tried_seen : (o : Option Slow) (r : Room) → Seen r.clients r.held → Seen (tried o r).clients (tried o r).held
tried_seen None r seen = seen
tried_seen (Some s) r seen = go (is_slow s r)
  where
    q : Room
    q = changed (awaited (s.client == s.publisher) r.now) s.client r

    seen_q : Seen q.clients r.held
    seen_q = kept (awaited (s.client == s.publisher) r.now) (w_awaited (s.client == s.publisher) r.now) s.client r.clients r.held seen

    go : (b : Bool) → Seen (tried_at b s q).clients (tried_at b s q).held
    go false = seen_q
    go true = λ k e. at k (k == s.publisher) refl e
      where
        at : (k : ℕ) (b : Bool) → (k == s.publisher) ≡ b → awaits (change (waiting_for (Some s.client)) s.publisher q.clients) k ≡ true → is_among k (r.held ++ s.publisher ∷ []) ≡ true
        at k true same e = among_last k s.publisher r.held (eq_turned k s.publisher same)
        at k false other e = among_more k s.publisher r.held (seen_q k (sym (ap (λ b. is_some (option_map_or (λ (c : Client). c.waits_for) (if b then option_map (waiting_for (Some s.client)) (q.clients k) else q.clients k) None)) other) ∙ e))

joined_seen : (conn : ℕ) (c : Option Client) (clients : ℕ → Option Client) (held : List ℕ) → option_map_or (λ (x : Client). x.waits_for) c None ≡ None → Seen clients held → Seen (placed c conn clients) held
joined_seen conn c clients held none seen = λ k e. go k (k == conn) refl e
  where
    go : (k : ℕ) (b : Bool) → (k == conn) ≡ b → awaits (placed c conn clients) k ≡ true → is_among k held ≡ true
    go k true same e = absurd (no_wait (sym (ap (λ b. is_some (option_map_or (λ (x : Client). x.waits_for) (if b then c else clients k) None)) same ∙ ap is_some none) ∙ e))
      where
        no_wait : false ≡ true → ⊥
        no_wait e = cc
    go k false other e = seen k (sym (ap (λ b. is_some (option_map_or (λ (x : Client). x.waits_for) (if b then c else clients k) None)) other) ∙ e)

freed_wait : (o : Option ℕ) (conn : ℕ) (r : Room) (k : ℕ) → slow_of (freed_from o conn r).clients k ≡ slow_of r.clients k
freed_wait None conn r k = refl
freed_wait (Some slow) conn r k = same_wait (set_free r.now (slow == conn)) (λ c. refl) slow k r.clients

freed_seen : (conn : ℕ) (r : Room) (rest : List ℕ) → r.held ≡ conn ∷ rest → Seen r.clients r.held →
    Seen (after (Freed conn) r).clients (after (Freed conn) r).held
freed_seen conn r rest first seen = λ k e. subst (λ h. is_among k h ≡ true) (sym (freed_held (slow_of r.clients conn) conn q)) (go k (k == conn) refl e)
  where
    q : Room
    q = record r { held = behind r.held }

    f : Room
    f = freed_from (slow_of r.clients conn) conn q

    waits_not : (o : Option Client) → is_some (option_map_or (λ (c : Client). c.waits_for) (option_map (waiting_for None) o) None) ≡ true → ⊥
    waits_not None e = cc
    waits_not (Some c) e = cc

    go : (k : ℕ) (b : Bool) → (k == conn) ≡ b → awaits (change (waiting_for None) conn f.clients) k ≡ true → is_among k (behind r.held) ≡ true
    go k true same e = absurd (waits_not (f.clients k) (sym (ap (λ b. is_some (option_map_or (λ (c : Client). c.waits_for) (if b then option_map (waiting_for None) (f.clients k) else f.clients k) None)) same) ∙ e))
    go k false other e =
        gone k conn r.held rest first (ne_turned k conn other)
        (seen k (sym (ap is_some (freed_wait (slow_of r.clients conn) conn q k))
        ∙ sym (ap (λ b. is_some (option_map_or (λ (c : Client). c.waits_for) (if b then option_map (waiting_for None) (f.clients k) else f.clients k) None)) other) ∙ e))

-- an event leaves them
called_seen : (by : Option ℕ) (conn : ℕ) (e : Event) (r : Room) → Seen r.clients r.held → Seen (called_on by conn e r).clients (called_on by conn e r).held
called_seen by conn e r seen =
    subst (λ h. Seen (called_on by conn e r).clients h) (sym (called_held by conn e r)) (subst (λ cs. Seen cs r.held) (sym (called_keeps by conn e r)) seen)

came_seen : (h : Option InHand) (r : Room) → Seen r.clients r.held → Seen (came h r).clients (came h r).held
came_seen h r seen = subst (λ x. Seen (came h r).clients x) (sym (came_held h r)) (subst (λ cs. Seen cs r.held) (sym (came_keeps h r)) seen)

seen_after : (d : Deed) (r : Room) → May d r → Seen r.clients r.held → Seen (after d r).clients (after d r).held
seen_after (Timed m) r may seen = seen
seen_after (Joined c) r may seen = joined_seen c (Some (fresh_client (later quiet r.now))) r.clients r.held refl seen
seen_after (Fed c p) r may seen = kept (takes_in p) (w_takes_in p) c r.clients r.held seen
seen_after (Skipped c p) r may seen = seen
seen_after (Took c p rest) r may seen = kept (λ x. after_hearing p (record x { feed = rest })) (λ x. refl) c r.clients r.held seen
seen_after Came r may seen = came_seen r.in_hand r seen
seen_after (Broke c f) r may seen = called_seen None c (event.Fault c f r.now) r seen
seen_after (Left c w) r may seen =
    called_seen None c (event.Closed c r.now) (record (changed (leaves (later grace r.now) (cause_why w)) c r) { in_hand = None })
    (kept (leaves (later grace r.now) (cause_why w)) (w_leaves (later grace r.now) (cause_why w)) c r.clients r.held seen)
seen_after Ticked r may seen = seen
seen_after (Handed o f) r may seen = kept (offered o.send f) (w_offered o.send f) o.send.conn r.clients r.held seen
seen_after (Shut q) r may seen = kept (leaves (later grace r.now) q.cause) (w_leaves (later grace r.now) q.cause) q.conn r.clients r.held seen
seen_after (Told c s) r may seen = called_seen None c (event.Refused c s r.now) (changed told c r) (kept told w_told c r.clients r.held seen)
seen_after (Cut c s) r may seen =
    called_seen None c (event.Closed c r.now) (record (changed (leaves (later grace r.now) cause.Memory) c (changed told c r)) { in_hand = None })
    (kept (leaves (later grace r.now) cause.Memory) (w_leaves (later grace r.now) cause.Memory) c (change told c r.clients) r.held (kept told w_told c r.clients r.held seen))
seen_after Tried r may seen = tried_seen r.slow r seen
seen_after (Waited c) r may seen = λ k e. turned k c r.held may.1.0 may.1.1 (seen k e)
seen_after (Freed c) r may seen = freed_seen c r may.1.0 may.1.1 seen
seen_after (Dropped c) r may seen = kept given_up w_given_up c r.clients r.held seen
seen_after (Wrote c n) r may seen = kept (written_to n) (λ x. w_settled (record x { outbox = written n x.outbox })) c r.clients r.held seen
seen_after (Blocked c) r may seen = kept cut_off (λ x. w_settled (record x { cut = true })) c r.clients r.held seen
seen_after (Named c) r may seen = kept untouched (λ x. refl) c r.clients r.held seen
seen_after (Kept b) r may seen = seen
seen_after Begun r may seen = seen
seen_after (Forgot c) r may seen = joined_seen c None r.clients r.held refl seen

pub seen_run : (f : Deed → Bool) (ds : List Deed) (r s : Room) → IsRun f r ds s → Seen r.clients r.held → Seen s.clients s.held
seen_run f [] r s a seen = subst (λ (x : Room). Seen x.clients x.held) a seen
seen_run f (d ∷ ds) r s a seen = seen_run f ds (after d r) s a.2 (seen_after d r a.1 seen)
