-- The broker that was told of the time within the last second is so behind each deed of a call; and whose moment hasn't come.
use Rattle.std.proofs.Common.{◌≡◌, ℕ, ◌<◌, ◌≤◌, nat_le, ◌&&◌, if◌then◌else◌, Bool, true, false, List, [], ◌∷◌, Option, Some, None, refl, subst, arith}
use Rattle.std.specs.Option.{option_map_or, IfSome}
use Rattle.std.proofs.lemmas.Bool.{lt-leb}
use Rattle.spk_broker_rules.specs.Plan.{Event}
use Rattle.spk_broker_rules.specs.Plan as event
use Rattle.spk_broker_rules.specs.Step.{knows}
use Rattle.spk_clients.specs.declared.cause.Cause.{Cause}
use Rattle.spk_clients.specs.declared.cause.Cause.TheVariants as cause
use Rattle.spk_clients.specs.declared.client.Client.{Client}
use Rattle.spk_clients.specs.declared.clients.Clients.{Clients}
use Rattle.spk_clients.specs.Client.{has_moment, is_due, leaves, told}
use Rattle.spk_clients.specs.Data.{AreNoted, NobodyIsDue, client_at}
use Rattle.spk_server.specs.Data.{Deed, Room, Timed, Joined, Fed, Skipped, Took, Came, Broke, Left, Ticked, Handed, Shut, Told, Cut, Tried, Waited, Freed, Dropped, Wrote, Blocked, Named, Forgot, Kept, Begun}
use Rattle.spk_server.specs.Calls.{IsTold}
use Rattle.spk_server.specs.Step.{after, called, called_on, cause_why, changed, grace, later, left}
use Rattle.spk_server.specs.Log.{IsRun, Reaches, calls, follows}
use Rattle.spk_server.proofs.Allowed.{follows_calls}
use Rattle.spk_server.proofs.Runs.{wider}

either_told : (b : Bool) (x y : Room) → IsTold x → IsTold y → IsTold (if b then x else y)
either_told true x y s t = s
either_told false x y s t = t

called_told : (conn : ℕ) (e : Event) (r : Room) → IsTold r → IsTold (called_on None conn e r)
called_told conn e r t = either_told (knows r.noted.broker conn) (called None e r) r t t

left_told : (conn : ℕ) (why : Cause) (r : Room) → IsTold r → IsTold (left conn why r)
left_told conn why r t = called_told conn (event.Closed conn r.now) (record (changed (leaves (later grace r.now) why) conn r) { in_hand = None }) t

after_told : (d : Deed) (r : Room) → calls d ≡ true → IsTold r → IsTold (after d r)
after_told (Timed moment) r ok t = cc
after_told (Joined conn) r ok t = cc
after_told (Fed conn piece) r ok t = cc
after_told (Skipped conn piece) r ok t = cc
after_told (Took conn p rest) r ok t = cc
after_told Came r ok t = cc
after_told (Broke conn fault) r ok t = cc
after_told (Left conn why) r ok t = left_told conn (cause_why why) r t
after_told Ticked r ok t = omega arith
after_told (Handed o fate) r ok t = t
after_told (Shut conn) r ok t = t
after_told (Told conn s) r ok t = called_told conn (event.Refused conn s r.now) (changed told conn r) t
after_told (Cut conn s) r ok t = left_told conn cause.Memory (changed told conn r) t
after_told Tried r ok t = cc
after_told (Waited conn) r ok t = cc
after_told (Freed conn) r ok t = cc
after_told (Dropped conn) r ok t = t
after_told (Wrote conn count) r ok t = cc
after_told (Blocked conn) r ok t = cc
after_told (Named conn) r ok t = cc
after_told (Kept bytes) r ok t = cc
after_told Begun r ok t = cc
after_told (Forgot conn) r ok t = cc

along : (ds : List Deed) (r s : Room) → IsRun calls r ds s → IsTold r → IsTold s
along [] r s a t = subst IsTold a t
along (d ∷ ds) r s a t = along ds (after d r) s a.2 (after_told d r a.0 t)

pub told_still : (r s : Room) → Reaches calls r s → IsTold r → IsTold s
told_still r s run t = along run.0 r s run.1 t

pub told_behind : (r s : Room) → Reaches follows r s → IsTold r → IsTold s
told_behind r s run t = told_still r s (wider follows calls follows_calls r s run) t

-- ---- whose moment hasn't come

not_yet : (b : Bool) (until now soonest : ℕ) → now < soonest → (b ≡ true → soonest ≤ until) → (b && nat_le until now) ≡ false
not_yet false until now soonest less h = refl
not_yet true until now soonest less h =
    let early : soonest ≤ until = h refl in
    lt-leb until now (omega (arith, less, early))

nobody_at : (now soonest : ℕ) (o : Option Client) → now < soonest → IfSome o (λ c. has_moment c.phase ≡ true → soonest ≤ c.until) → option_map_or (is_due now) o false ≡ false
nobody_at now soonest None less h = refl
nobody_at now soonest (Some c) less h = not_yet (has_moment c.phase) c.until now soonest less h

pub nobody_yet : (now : ℕ) (cs : Clients) → now < cs.soonest → AreNoted cs → NobodyIsDue now (client_at cs)
nobody_yet now cs less noted = λ k. nobody_at now cs.soonest (client_at cs k) less (noted.1 k)

pub nobody_same : (r s : Room) → r ≡ s → NobodyIsDue r.now r.clients → NobodyIsDue s.now s.clients
nobody_same r s e h = subst {A = Room} (λ x. NobodyIsDue x.now x.clients) e h
