-- Of a client whose end came the cause stays.
use Rattle.std.proofs.Common.{◌≡◌, ℕ, ◌-◌, ◌==◌, if◌then◌else◌, Bool, true, false, not, List, [], ◌∷◌, ◌++◌, Option, Some, None, refl, sym, ◌∙◌, ap, subst}
use Rattle.std.specs.List.{list_all}
use Rattle.std.specs.Option.{IfSome, option_map}
use Rattle.spk_broker_rules.specs.Plan as event
use Rattle.spk_outbox.specs.Step.{written}
use Rattle.spk_session.specs.declared.answer.Sort.{Sort}
use Rattle.spk_session.specs.declared.answer.Sort.TheVariants as sort
use Rattle.spk_clients.specs.declared.cause.Cause.{Cause}
use Rattle.spk_clients.specs.declared.cause.Cause.TheVariants as cause
use Rattle.spk_clients.specs.declared.client.Client.{Client}
use Rattle.spk_clients.specs.declared.client.Offered.{Offered}
use Rattle.spk_clients.specs.declared.client.Offered.TheVariants.{Taken, Refused, Passed}
use Rattle.spk_clients.specs.declared.client.Phase.TheVariants.{Over, Done}
use Rattle.spk_clients.specs.Client.{after_hearing, awaited, cut_off, fresh_client, given_up, is_leaving, is_over, leaves, may_be_awaited, over_until, refused_with, settled, settles, takes_in, told, untouched, waiting_for, written_to}
use Rattle.spk_server.specs.Data.{Deed, Offer, Room, Slow, Timed, Joined, Fed, Skipped, Took, Came, Broke, Left, Ticked, Handed, Shut, Told, Cut, Tried, Waited, Freed, Dropped, Wrote, Blocked, Named, Forgot, Kept, Begun}
use Rattle.spk_server.specs.Step.{after, behind, cause_why, change, changed, freed_from, grace, is_slow, later, left, offered, placed, quiet, set_free, slow_of, tried, tried_at}
use Rattle.spk_server.specs.Log.{IsRun, any_deed}
use Rattle.spk_server.specs.Past.{IsEndedBy, joins}
use Rattle.spk_server.proofs.Ends.{both, ends_awaited, ends_given_up, ends_leaves, ends_offered, ends_settled, ends_takes_in, ends_told, heard_over, not_true}
use Rattle.spk_server.proofs.Histories.{unequal}
use Rattle.spk_server.proofs.Lives.{called_keeps, came_keeps, either, pick}

-- a change that leaves an end and its cause
abbrev Keeps : (Client → Client) → Type 0
Keeps f = (c : Client) → is_over c ≡ true → (is_over (f c) ≡ true) × ((f c).cause ≡ c.cause)

ended_at : (x : Cause) (f : Client → Client) → Keeps f → (conn k : ℕ) (cs : ℕ → Option Client) → IfSome (cs k) (IsEndedBy x) → IfSome (change f conn cs k) (IsEndedBy x)
ended_at x f h conn k cs s = go (k == conn) (cs k) s
  where
    go : (b : Bool) (o : Option Client) → IfSome o (IsEndedBy x) → IfSome (if b then option_map f o else o) (IsEndedBy x)
    go true None s = tt
    go true (Some c) s = let n = h c s.0 in (n.0, n.1 ∙ s.1)
    go false o s = s

settled_cause : (c : Client) → (settled c).cause ≡ c.cause
settled_cause c = either (λ (q : Client). q.cause) (settles c) (record c { phase = Done }) c refl

keeps_settled : Keeps settled
keeps_settled c e = (ends_settled c e, settled_cause c)

over_cause : (until : ℕ) (why : Cause) (c : Client) → is_over c ≡ true → (over_until until why c).cause ≡ c.cause
over_cause until why c e = ap (λ (b : Bool). (if b then c else record c { phase = Over; until = until; cause = why }).cause) e

keeps_leaves : (until : ℕ) (why : Cause) → Keeps (leaves until why)
keeps_leaves until why c e = (ends_leaves until why c e, settled_cause (over_until until why c) ∙ over_cause until why c e)

keeps_told : Keeps told
keeps_told c e = (ends_told c e, either (λ (q : Client). q.cause) c.lost (record c { lost = false }) (record c { drops = c.drops - 1 }) refl)

refused_cause : (s : Sort) (c : Client) → (refused_with s c).cause ≡ c.cause
refused_cause sort.QosZero c = refl
refused_cause sort.Other c = refl

offered_cause : (o : Offer) (fate : Offered) (c : Client) → (offered o.send fate c).cause ≡ c.cause
offered_cause o Taken c = refl
offered_cause o Refused c = refused_cause o.send.sort c
offered_cause o Passed c = refl

keeps_offered : (o : Offer) (fate : Offered) → Keeps (offered o.send fate)
keeps_offered o fate c e = (ends_offered o fate c e, offered_cause o fate c)

keeps_given_up : Keeps given_up
keeps_given_up c e = (ends_given_up c e, either (λ (q : Client). q.cause) (is_leaving c.phase) (record c { phase = Done }) c refl)

keeps_awaited : (own : Bool) (now : ℕ) → Keeps (awaited own now)
keeps_awaited own now c e = (ends_awaited own now c e, either (λ (q : Client). q.cause) (may_be_awaited own c) _ c refl)

keeps_takes_in : (piece : List ℕ) → Keeps (takes_in piece)
keeps_takes_in piece c e = (ends_takes_in piece c e, either (λ (q : Client). q.cause) (is_over c) c (record c { feed = c.feed ++ piece }) refl)

same_clients : (x : Cause) (k : ℕ) (cs ds : ℕ → Option Client) → cs ≡ ds → IfSome (ds k) (IsEndedBy x) → IfSome (cs k) (IsEndedBy x)
same_clients x k cs ds same s = subst (λ (q : ℕ → Option Client). IfSome (q k) (IsEndedBy x)) (sym same) s

left_ended : (x : Cause) (k conn : ℕ) (why : Cause) (r : Room) → IfSome (r.clients k) (IsEndedBy x) → IfSome ((left conn why r).clients k) (IsEndedBy x)
left_ended x k conn why r s =
    same_clients x k _ _ (called_keeps None conn (event.Closed conn r.now) (record (changed (leaves (later grace r.now) why) conn r) { in_hand = None }))
    (ended_at x (leaves (later grace r.now) why) (keeps_leaves (later grace r.now) why) conn k r.clients s)

tried_ended : (x : Cause) (k : ℕ) (o : Option Slow) (r : Room) → IfSome (r.clients k) (IsEndedBy x) → IfSome ((tried o r).clients k) (IsEndedBy x)
tried_ended x k None r s = s
tried_ended x k (Some w) r s = go (is_slow w r) (ended_at x (awaited (w.client == w.publisher) r.now) (keeps_awaited (w.client == w.publisher) r.now) w.client k r.clients s)
  where
    go : (b : Bool) → IfSome (change (awaited (w.client == w.publisher) r.now) w.client r.clients k) (IsEndedBy x)
        → IfSome ((tried_at b w (changed (awaited (w.client == w.publisher) r.now) w.client r)).clients k) (IsEndedBy x)
    go true q = ended_at x (waiting_for (Some w.client)) (λ c e. (e, refl)) w.publisher k (change (awaited (w.client == w.publisher) r.now) w.client r.clients) q
    go false q = q

freed_ended : (x : Cause) (k : ℕ) (o : Option ℕ) (conn : ℕ) (r : Room) → IfSome (r.clients k) (IsEndedBy x) → IfSome ((freed_from o conn r).clients k) (IsEndedBy x)
freed_ended x k None conn r s = s
freed_ended x k (Some slow) conn r s = ended_at x (set_free r.now (slow == conn)) (λ c e. (e, refl)) slow k r.clients s

forgot_ended : (x : Cause) (k conn : ℕ) (cs : ℕ → Option Client) → IfSome (cs k) (IsEndedBy x) → IfSome (placed None conn cs k) (IsEndedBy x)
forgot_ended x k conn cs s = pick (λ b. IfSome (if b then None else cs k) (IsEndedBy x)) (k == conn) (λ q. tt) (λ q. s)

joined_ended : (x : Cause) (k conn : ℕ) (o : Option Client) (cs : ℕ → Option Client) → (k == conn) ≡ false → IfSome (cs k) (IsEndedBy x) → IfSome (placed o conn cs k) (IsEndedBy x)
joined_ended x k conn o cs other s = subst (λ (b : Bool). IfSome (if b then o else cs k) (IsEndedBy x)) (sym other) s

ended_step : (x : Cause) (k : ℕ) (d : Deed) (r : Room) → joins k d ≡ false → IfSome (r.clients k) (IsEndedBy x) → IfSome ((after d r).clients k) (IsEndedBy x)
ended_step x k (Timed m) r j s = s
ended_step x k (Joined conn) r j s = joined_ended x k conn (Some (fresh_client (later quiet r.now))) r.clients (unequal conn k j) s
ended_step x k (Fed conn piece) r j s = ended_at x (takes_in piece) (keeps_takes_in piece) conn k r.clients s
ended_step x k (Skipped conn piece) r j s = s
ended_step x k (Took conn p rest) r j s = ended_at x (λ c. after_hearing p (record c { feed = rest })) (λ c e. (heard_over c.phase e, refl)) conn k r.clients s
ended_step x k Came r j s = same_clients x k _ _ (came_keeps r.in_hand r) s
ended_step x k (Broke conn f) r j s = same_clients x k _ _ (called_keeps None conn (event.Fault conn f r.now) r) s
ended_step x k (Left conn why) r j s = left_ended x k conn (cause_why why) r s
ended_step x k Ticked r j s = s
ended_step x k (Handed o fate) r j s = ended_at x (offered o.send fate) (keeps_offered o fate) o.send.conn k r.clients s
ended_step x k (Shut q) r j s = ended_at x (leaves (later grace r.now) q.cause) (keeps_leaves (later grace r.now) q.cause) q.conn k r.clients s
ended_step x k (Told conn t) r j s = same_clients x k _ _ (called_keeps None conn (event.Refused conn t r.now) (changed told conn r)) (ended_at x told keeps_told conn k r.clients s)
ended_step x k (Cut conn t) r j s = left_ended x k conn cause.Memory (changed told conn r) (ended_at x told keeps_told conn k r.clients s)
ended_step x k Tried r j s = tried_ended x k r.slow r s
ended_step x k (Waited conn) r j s = s
ended_step x k (Freed conn) r j s = ended_at x (waiting_for None) (λ c e. (e, refl)) conn k (freed_from (slow_of r.clients conn) conn (record r { held = behind r.held })).clients
    (freed_ended x k (slow_of r.clients conn) conn (record r { held = behind r.held }) s)
ended_step x k (Dropped conn) r j s = ended_at x given_up keeps_given_up conn k r.clients s
ended_step x k (Wrote conn n) r j s = ended_at x (written_to n) (λ c e. keeps_settled (record c { outbox = written n c.outbox }) e) conn k r.clients s
ended_step x k (Blocked conn) r j s = ended_at x cut_off (λ c e. keeps_settled (record c { cut = true }) e) conn k r.clients s
ended_step x k (Named conn) r j s = ended_at x untouched (λ c e. (e, refl)) conn k r.clients s
ended_step x k (Kept b) r j s = s
ended_step x k Begun r j s = s
ended_step x k (Forgot conn) r j s = forgot_ended x k conn r.clients s

pub cause_stays : (log : List Deed) (r s : Room) (k : ℕ) (x : Cause) → IsRun any_deed r log s → list_all (λ d. not (joins k d)) log ≡ true
    → IfSome (r.clients k) (IsEndedBy x) → IfSome (s.clients k) (IsEndedBy x)
cause_stays [] r s k x a n h = subst (λ (q : Room). IfSome (q.clients k) (IsEndedBy x)) a h
cause_stays (d ∷ ds) r s k x a n h =
    let b = both (not (joins k d)) (list_all (λ y. not (joins k y)) ds) n in
    cause_stays ds (after d r) s k x a.2 b.1 (ended_step x k d r (not_true (joins k d) b.0) h)
