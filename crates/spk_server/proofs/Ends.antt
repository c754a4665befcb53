-- A client whose end came, or who isn't here, stays so.
use Rattle.std.proofs.Common.{◌≡◌, ℕ, ◌-◌, ◌==◌, ◌&&◌, if◌then◌else◌, Bool, true, false, not, List, [], ◌∷◌, ◌++◌, Option, Some, None, refl, ◌∙◌, ap, subst}
use Rattle.std.proofs.lemmas.Bool.{eqb-true}
use Rattle.std.specs.List.{list_all}
use Rattle.std.specs.Option.{option_map, option_map_or}
use Rattle.spk_session.specs.declared.answer.Sort.{Sort}
use Rattle.spk_session.specs.declared.answer.Sort.TheVariants as sort
use Rattle.spk_broker_rules.specs.Plan as event
use Rattle.spk_outbox.specs.Step.{written}
use Rattle.spk_clients.specs.declared.cause.Cause.{Cause}
use Rattle.spk_clients.specs.declared.client.Client.{Client}
use Rattle.spk_clients.specs.declared.client.Phase.{Phase}
use Rattle.spk_clients.specs.declared.client.Phase.TheVariants.{Quiet, Open, Over, Done}
use Rattle.spk_clients.specs.declared.client.Offered.{Offered}
use Rattle.spk_clients.specs.declared.client.Offered.TheVariants.{Taken, Refused, Passed}
use Rattle.spk_clients.specs.Client.{after_hearing, awaited, cut_off, fresh_client, given_up, has_ended, heard_phase, is_leaving, is_over, leaves, may_be_awaited, over_until, refused_with, settled, settles, takes_in, told, untouched, waiting_for, written_to}
use Rattle.spk_server.specs.Data.{Deed, Offer, Room, Slow, Timed, Joined, Skipped, Took, Came, Broke, Left, Ticked, Handed, Shut, Told, Cut, Tried, Waited, Freed, Dropped, Wrote, Blocked, Named, Forgot, Kept, Begun}
use Rattle.spk_server.specs.Data as deed
use Rattle.spk_server.specs.Step.{after, behind, cause_why, change, changed, freed_from, grace, is_slow, later, offered, placed, quiet, set_free, slow_of, tried, tried_at}
use Rattle.spk_server.specs.Log.{IsRun, May, any_deed, is_open}
use Rattle.spk_server.specs.Past.{hears, joins}
use Rattle.spk_server.proofs.Histories.{unequal}
use Rattle.spk_server.proofs.Lives.{called_keeps, came_keeps, pick}

abbrev pub Ends : (Client → Client) → Type 0
Ends f = (c : Client) → is_over c ≡ true → is_over (f c) ≡ true

over_not : (b : Bool) → (if b then false else true) ≡ false → b ≡ true
over_not true e = refl
over_not false e = cc

closed_at : (f : Client → Client) → Ends f → (conn k : ℕ) (cs : ℕ → Option Client) → option_map_or (λ c. if is_over c then false else true) (cs k) false ≡ false
    → option_map_or (λ c. if is_over c then false else true) (change f conn cs k) false ≡ false
closed_at f h conn k cs e = go (k == conn) (cs k) e
  where
    go : (b : Bool) (o : Option Client) → option_map_or (λ c. if is_over c then false else true) o false ≡ false
        → option_map_or (λ c. if is_over c then false else true) (if b then option_map f o else o) false ≡ false
    go true None e = refl
    go true (Some c) e = ap (λ (q : Bool). if q then false else true) (h c (over_not (is_over c) e))
    go false o e = e

either_over : (b : Bool) (x y : Client) → is_over x ≡ true → is_over y ≡ true → is_over (if b then x else y) ≡ true
either_over true x y p q = p
either_over false x y p q = q

pub ends_settled : Ends settled
ends_settled c e = either_over (settles c) (record c { phase = Done }) c refl e

pub ends_over : (until : ℕ) (why : Cause) → Ends (over_until until why)
ends_over until why c e = either_over (is_over c) c (record c { phase = Over; until = until; cause = why }) e refl

pub ends_leaves : (until : ℕ) (why : Cause) → Ends (leaves until why)
ends_leaves until why c e = ends_settled (over_until until why c) (ends_over until why c e)

pub ends_told : Ends told
ends_told c e = either_over c.lost (record c { lost = false }) (record c { drops = c.drops - 1 }) e e

ends_refused : (s : Sort) → Ends (refused_with s)
ends_refused sort.QosZero c e = e
ends_refused sort.Other c e = e

pub ends_offered : (o : Offer) (fate : Offered) → Ends (offered o.send fate)
ends_offered o Taken c e = e
ends_offered o Refused c e = ends_refused o.send.sort c e
ends_offered o Passed c e = e

pub ends_given_up : Ends given_up
ends_given_up c e = either_over (is_leaving c.phase) (record c { phase = Done }) c refl e

pub ends_awaited : (own : Bool) (now : ℕ) → Ends (awaited own now)
ends_awaited own now c e = either_over (may_be_awaited own c) _ c e e

pub ends_takes_in : (piece : List ℕ) → Ends (takes_in piece)
ends_takes_in piece c e = either_over (is_over c) c (record c { feed = c.feed ++ piece }) e e

pub heard_over : (p : Phase) → has_ended p ≡ true → has_ended (heard_phase p) ≡ true
heard_over Quiet e = cc
heard_over Open e = cc
heard_over Over e = refl
heard_over Done e = refl

came_closed : (k : ℕ) (cs ds : ℕ → Option Client) → cs ≡ ds → option_map_or (λ c. if is_over c then false else true) (ds k) false ≡ false
    → option_map_or (λ c. if is_over c then false else true) (cs k) false ≡ false
came_closed k cs ds same e = ap (λ q. option_map_or (λ c. if is_over c then false else true) (q k) false) same ∙ e

left_closed : (k conn : ℕ) (why : deed.Why) (r : Room) → is_open r k ≡ false → is_open (after (Left conn why) r) k ≡ false
left_closed k conn why r e =
    came_closed k _ _ (called_keeps None conn (event.Closed conn r.now) (record (changed (leaves (later grace r.now) (cause_why why)) conn r) { in_hand = None }))
    (closed_at (leaves (later grace r.now) (cause_why why)) (ends_leaves (later grace r.now) (cause_why why)) conn k r.clients e)

tried_closed : (k : ℕ) (o : Option Slow) (r : Room) → is_open r k ≡ false → is_open (tried o r) k ≡ false
tried_closed k None r e = e
tried_closed k (Some w) r e = go (is_slow w r) (closed_at (awaited (w.client == w.publisher) r.now) (ends_awaited (w.client == w.publisher) r.now) w.client k r.clients e)
  where
    go : (b : Bool) → option_map_or (λ c. if is_over c then false else true) (change (awaited (w.client == w.publisher) r.now) w.client r.clients k) false ≡ false
        → is_open (tried_at b w (changed (awaited (w.client == w.publisher) r.now) w.client r)) k ≡ false
    go true q = closed_at (waiting_for (Some w.client)) (λ c x. x) w.publisher k (change (awaited (w.client == w.publisher) r.now) w.client r.clients) q
    go false q = q

freed_closed : (k : ℕ) (o : Option ℕ) (conn : ℕ) (r : Room) → is_open r k ≡ false → is_open (freed_from o conn r) k ≡ false
freed_closed k None conn r e = e
freed_closed k (Some slow) conn r e = closed_at (set_free r.now (slow == conn)) (λ c x. x) slow k r.clients e

forgot_closed : (k conn : ℕ) (cs : ℕ → Option Client) → option_map_or (λ c. if is_over c then false else true) (cs k) false ≡ false
    → option_map_or (λ c. if is_over c then false else true) (placed None conn cs k) false ≡ false
forgot_closed k conn cs e = pick (λ b. option_map_or (λ c. if is_over c then false else true) (if b then None else cs k) false ≡ false) (k == conn) (λ q. refl) (λ q. e)

closed_step : (k : ℕ) (d : Deed) (r : Room) → joins k d ≡ false → is_open r k ≡ false → is_open (after d r) k ≡ false
closed_step k (Timed m) r j e = e
closed_step k (Joined conn) r j e = ap (λ b. option_map_or (λ c. if is_over c then false else true) (if b then Some (fresh_client (later quiet r.now)) else r.clients k) false) (unequal conn k j) ∙ e
closed_step k (deed.Fed conn piece) r j e = closed_at (takes_in piece) (ends_takes_in piece) conn k r.clients e
closed_step k (Skipped conn piece) r j e = e
closed_step k (Took conn p rest) r j e = closed_at (λ c. after_hearing p (record c { feed = rest })) (λ c x. heard_over c.phase x) conn k r.clients e
closed_step k Came r j e = came_closed k _ _ (came_keeps r.in_hand r) e
closed_step k (Broke conn f) r j e = came_closed k _ _ (called_keeps None conn _ r) e
closed_step k (Left conn why) r j e = left_closed k conn why r e
closed_step k Ticked r j e = e
closed_step k (Handed o fate) r j e = closed_at (offered o.send fate) (ends_offered o fate) o.send.conn k r.clients e
closed_step k (Shut q) r j e = closed_at (leaves (later grace r.now) q.cause) (ends_leaves (later grace r.now) q.cause) q.conn k r.clients e
closed_step k (Told conn s) r j e = came_closed k _ _ (called_keeps None conn _ (changed told conn r)) (closed_at told ends_told conn k r.clients e)
closed_step k (Cut conn s) r j e = left_closed k conn deed.Want (changed told conn r) (closed_at told ends_told conn k r.clients e)
closed_step k Tried r j e = tried_closed k r.slow r e
closed_step k (Waited conn) r j e = e
closed_step k (Freed conn) r j e = closed_at (waiting_for None) (λ c x. x) conn k (freed_from (slow_of r.clients conn) conn (record r { held = behind r.held })).clients
    (freed_closed k (slow_of r.clients conn) conn (record r { held = behind r.held }) e)
closed_step k (Dropped conn) r j e = closed_at given_up ends_given_up conn k r.clients e
closed_step k (Wrote conn n) r j e = closed_at (written_to n) (λ c x. ends_settled (record c { outbox = written n c.outbox }) x) conn k r.clients e
closed_step k (Blocked conn) r j e = closed_at cut_off (λ c x. ends_settled (record c { cut = true }) x) conn k r.clients e
closed_step k (Named conn) r j e = closed_at untouched (λ c x. x) conn k r.clients e
closed_step k (Kept b) r j e = e
closed_step k Begun r j e = e
closed_step k (Forgot conn) r j e = forgot_closed k conn r.clients e

-- who isn't open sends nothing that is taken
unheard : (k conn : ℕ) (r : Room) → is_open r k ≡ false → is_open r conn ≡ true → (conn == k) ≡ false
unheard k conn r e o = pick (λ b. (conn == k) ≡ b → b ≡ false) (conn == k)
    (λ t h. let same : conn ≡ k = eqb-true conn k t in let open_too : is_open r k ≡ true = subst (λ j. is_open r j ≡ true) same o in cc) (λ t h. refl) refl

opens : (conn : ℕ) (r : Room) (c : Client) → r.clients conn ≡ Some c → is_over c ≡ false → is_open r conn ≡ true
opens conn r c is e = ap (λ o. option_map_or (λ c. if is_over c then false else true) o false) is ∙ ap (λ (b : Bool). if b then false else true) e

silent_step : (k : ℕ) (d : Deed) (r : Room) → May d r → is_open r k ≡ false → hears k d ≡ false
silent_step k (deed.Fed conn piece) r may e = unheard k conn r e may.1
silent_step k (Took conn p rest) r may e = unheard k conn r e (opens conn r may.1.0 may.1.1 may.1.2.0)
silent_step k (Broke conn f) r may e = unheard k conn r e (opens conn r may.1.0 may.1.1 may.1.2.0)
silent_step k (Timed m) r may e = refl
silent_step k (Joined c) r may e = refl
silent_step k (Skipped c p) r may e = refl
silent_step k Came r may e = refl
silent_step k (Left c w) r may e = refl
silent_step k Ticked r may e = refl
silent_step k (Handed o f) r may e = refl
silent_step k (Shut c) r may e = refl
silent_step k (Told c s) r may e = refl
silent_step k (Cut c s) r may e = refl
silent_step k Tried r may e = refl
silent_step k (Waited c) r may e = refl
silent_step k (Freed c) r may e = refl
silent_step k (Dropped c) r may e = refl
silent_step k (Wrote c n) r may e = refl
silent_step k (Blocked c) r may e = refl
silent_step k (Named c) r may e = refl
silent_step k (Kept b) r may e = refl
silent_step k Begun r may e = refl
silent_step k (Forgot c) r may e = refl

pub both : (a b : Bool) → (a && b) ≡ true → (a ≡ true) × (b ≡ true)
both true b e = (refl, e)
both false b e = cc

pub not_true : (b : Bool) → not b ≡ true → b ≡ false
not_true true e = cc
not_true false e = refl

pub silent : (k : ℕ) (log : List Deed) (r s : Room) → IsRun any_deed r log s → is_open r k ≡ false → list_all (λ d. not (joins k d)) log ≡ true
    → list_all (λ d. not (hears k d)) log ≡ true
silent k [] r s a e n = refl
silent k (d ∷ ds) r s a e n =
    let b = both (not (joins k d)) (list_all (λ x. not (joins k x)) ds) n in
    ap (λ (q : Bool). not q && list_all (λ x. not (hears k x)) ds) (silent_step k d r a.1 e)
    ∙ silent k ds (after d r) s a.2 (closed_step k d r (not_true (joins k d) b.0) e) b.1
