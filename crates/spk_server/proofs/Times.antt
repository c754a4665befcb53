-- What time brings, and what calls of it leave, as deeds.
use Rattle.std.proofs.Common.{◌≡◌, ℕ, ◌<◌, nat_le, ◌&&◌, Bool, true, false, List, [], ◌∷◌, ◌++◌, map, take, Option, Some, None, refl, sym, ◌∙◌, ap, subst}
use Rattle.std.specs.Option.{option_map_or}
use Rattle.spk_broker.specs.Sent.{outgoing}
use Rattle.spk_broker.specs.declared.out.Out.{Out}
use Rattle.spk_broker_notes.specs.Noted.{Noted}
use Rattle.spk_broker_rules.specs.Plan as event
use Rattle.spk_broker_rules.specs.Step.{step}
use Rattle.spk_clients.specs.declared.cause.Cause.TheVariants as cause
use Rattle.spk_clients.specs.declared.client.Client.{Client}
use Rattle.spk_clients.specs.declared.client.Phase.{Phase}
use Rattle.spk_clients.specs.declared.client.Phase.TheVariants as phase
use Rattle.spk_clients.specs.declared.clients.Clients.{Clients}
use Rattle.spk_clients.specs.Client.{given_up, has_moment, is_due, waiting_for}
use Rattle.spk_clients.specs.Data.{Becomes, IsSettled, client_at}
use Rattle.spk_server.specs.declared.server.Server.{Server}
use Rattle.spk_server.specs.Answers.{Answers}
use Rattle.spk_server.specs.Data.{Deed, Room, Slow, Silent}
use Rattle.spk_server.specs.Data as deed
use Rattle.spk_server.specs.Step.{after, behind, called, changed, closes_of, freed_from, is_quiet, left, offer_of, slow_of, still_waits}
use Rattle.spk_server.specs.Log.{HasClient, IsRun, LooksAt, Reaches, calls, follows, goes_on, takes}
use Rattle.spk_server.specs.Rooms.{amid, closes_in, offers_in, offers_of, room_of}
use Rattle.spk_server.proofs.Allowed.{follows_calls, takes_goes_on}
use Rattle.spk_server.proofs.Rooms.{change_is, rested}
use Rattle.spk_server.proofs.Looking.{looked_none}
use Rattle.spk_server.proofs.Runs.{at_end, at_start, begins, stays, widened, wider}

pub ticked_is : (old : Server) (b : Noted) (out : Out) (before : Option Slow) → Answers old.noted b (event.Tick old.now) out
    → record (called None (event.Tick old.now) (amid old [] [] before)) { ticked = old.now } ≡ amid (record old { noted = b; ticked = old.now }) (offers_in None (Some out)) (closes_in None cause.KeepAlive (Some out)) before
ticked_is old b out before a =
    let r : Room = record (amid old [] [] before) { ticked = old.now } in
    ap {B = Room} (λ x. record r { noted = x; pending = map (offer_of None) (map outgoing (step old.noted.broker (event.Tick old.now)).sends); closing = closes_of None cause.KeepAlive (step old.noted.broker (event.Tick old.now)).closes }) (sym a.done)
    ∙ ap {B = Room} (λ ss. record r { noted = b; pending = map (offer_of None) ss; closing = closes_of None cause.KeepAlive (step old.noted.broker (event.Tick old.now)).closes }) (sym a.sends)
    ∙ ap {B = Room} (λ cs. record r { noted = b; pending = offers_of None out.sends.items; closing = closes_of None cause.KeepAlive cs }) (sym a.closes)

pub ticks_is : (old : Server) (b : Noted) (out : Out) (s : Room) (before : Option Slow) → IsSettled old.clients → old.ticked < old.now → Answers old.noted b (event.Tick old.now) out
    → Reaches follows (amid (record old { noted = b; ticked = old.now }) (offers_in None (Some out)) (closes_in None cause.KeepAlive (Some out)) before) s
    → Reaches follows (amid old [] [] before) s
ticks_is old b out s before settled less a t =
    begins follows deed.Ticked (amid old [] [] before) s refl (rested old before settled, less)
    (at_start follows _ _ _ (ticked_is old b out before a) t)

-- one that sent no packet in time
quiet_is : (p : Phase) → is_quiet p ≡ true → p ≡ phase.Quiet
quiet_is phase.Quiet e = refl
quiet_is phase.Open e = cc
quiet_is phase.Over e = cc
quiet_is phase.Done e = cc

quiet_at : (conn : ℕ) (r : Room) (b : Bool) (has : HasClient (λ c. is_due r.now c ≡ true) conn r) → option_map_or (λ (c : Client). is_quiet c.phase) (r.clients conn) false ≡ b → is_quiet has.0.phase ≡ b
quiet_at conn r b has e = ap (λ o. option_map_or (λ (c : Client). is_quiet c.phase) o false) (sym has.1) ∙ e

pub silent_is : (old new : Server) (conn : ℕ) → IsSettled old.clients → HasClient (λ c. is_due old.now c ≡ true) conn (room_of old)
    → option_map_or (λ (c : Client). is_quiet c.phase) (client_at old.clients conn) false ≡ true → Reaches follows (left conn cause.Silent (room_of old)) (room_of new) → Reaches calls (room_of old) (room_of new)
silent_is old new conn settled has is t =
    let quiet : has.0.phase ≡ phase.Quiet = quiet_is has.0.phase (quiet_at conn (room_of old) true has is) in
    begins calls (deed.Left conn Silent) (room_of old) (room_of new) refl ((refl, refl), (has.0, has.1, (quiet, has.2)))
    (wider follows calls follows_calls _ _ t)

over_is : (p : Phase) (b : Bool) → (has_moment p && b) ≡ true → is_quiet p ≡ false → p ≡ phase.Over
over_is phase.Quiet b e n = cc
over_is phase.Open b e n = cc
over_is phase.Over b e n = refl
over_is phase.Done b e n = cc

-- one whose end came, and whose time to read is over
pub dropped_is : (old : Server) (n : Clients) (conn : ℕ) → IsSettled old.clients → HasClient (λ c. is_due old.now c ≡ true) conn (room_of old)
    → option_map_or (λ (c : Client). is_quiet c.phase) (client_at old.clients conn) false ≡ false → Becomes given_up conn old.clients n → Reaches calls (room_of old) (room_of (record old { clients = n }))
dropped_is old n conn settled has is b =
    begins calls (deed.Dropped conn) (room_of old) _ refl (rested old None settled, (has.0, has.1, (over_is has.0.phase (nat_le has.0.until old.now) has.2 (quiet_at conn (room_of old) false has is), has.2)))
    (at_end calls _ _ _ (stays calls _) (ap {B = Room} (λ cs. record (room_of old) { clients = cs }) (sym (change_is given_up conn old.clients n b))))

due_at : (old : Server) (conn : ℕ) (o : Option Client) → client_at old.clients conn ≡ o → option_map_or (is_due old.now) o false ≡ true → HasClient (λ c. is_due old.now c ≡ true) conn (room_of old)
due_at old conn None e is = cc
due_at old conn (Some c) e is = (c, e, is)

pub due_is : (old : Server) (conn : ℕ) → option_map_or (is_due old.now) (client_at old.clients conn) false ≡ true → HasClient (λ c. is_due old.now c ≡ true) conn (room_of old)
due_is old conn is = due_at old conn _ refl is

-- ---- those who wait

pub waited_is : (old new : Server) (conn : ℕ) (rest : List ℕ) → IsSettled old.clients → old.held.items ≡ conn ∷ rest → still_waits old.now (client_at old.clients) conn ≡ true
    → room_of new ≡ record (room_of old) { held = rest ++ conn ∷ [] } → LooksAt (take 1 old.held.items) (room_of old) (room_of new)
waited_is old new conn rest settled is waits same =
    let one : LooksAt (conn ∷ []) (room_of old) (room_of new) =
    (deed.Waited conn ∷ [], (refl, (rested old None settled, (rest, is), waits), ap {A = List ℕ} {B = Room} (λ h. record (room_of old) { held = behind h ++ conn ∷ [] }) is ∙ sym same), refl) in
    subst (λ cs. LooksAt cs (room_of old) (room_of new)) (sym (ap {A = List ℕ} (λ h. take 1 h) is)) one

pub freed_is : (old s : Server) (conn : ℕ) (rest : List ℕ) (new : Room) → IsSettled old.clients → old.held.items ≡ conn ∷ rest → still_waits old.now (client_at old.clients) conn ≡ false
    → room_of s ≡ record (room_of old) { held = rest }
    → Reaches (takes conn) (changed (waiting_for None) conn (freed_from (slow_of (client_at s.clients) conn) conn (room_of s))) new → LooksAt (take 1 old.held.items) (room_of old) new
freed_is old s conn rest new settled is waits same t =
    let start : after (deed.Freed conn) (room_of old) ≡ changed (waiting_for None) conn (freed_from (slow_of (client_at s.clients) conn) conn (room_of s)) =
    ap {A = List ℕ} {B = Room} (λ h. changed (waiting_for None) conn (freed_from (slow_of (client_at old.clients) conn) conn (record (room_of old) { held = behind h }))) is
    ∙ ap {A = Room} {B = Room} (λ r. changed (waiting_for None) conn (freed_from (slow_of r.clients conn) conn r)) (sym same) in
    let one : LooksAt (conn ∷ []) (room_of old) new = (
      deed.Freed conn ∷ t.0,
      (refl, (rested old None settled, (rest, is), waits), subst (λ r. IsRun goes_on r t.0 new) (sym start) (widened (takes conn) goes_on (takes_goes_on conn) t.0 _ _ t.1)),
      ap (λ x. conn ∷ x) (looked_none conn t.0 _ _ t.1),
    ) in
    subst (λ cs. LooksAt cs (room_of old) new) (sym (ap {A = List ℕ} (λ h. take 1 h) is)) one
