-- Each act leads from the data that the past asks for to the data that the facts after it ask for.
use Rattle.std.proofs.Common.{◌≡◌, ℕ, ◌+◌, ◌≤◌, Bool, true, false, not, cond, eqb, List, [], ◌∷◌, ◌++◌, map, refl, sym, ◌∙◌, ap, ap₂, arith, Option, Some, None, ne_eqb}
use mathlib.Core.Path.{fun_ext}
use Rattle.std.specs.List.{find, AllByRecursion}
use Rattle.std.specs.Option.{option_map, option_map_or}
use Rattle.std.proofs.lemmas.List.{map-append}
use Rattle.spk_packets.specs.Message.{ConnAck}
use Rattle.spk_session.specs.Step.{without}
use Rattle.spk_broker_rules.specs.Data.{AppMessage, InFlight, Connection, Newcomer, Session}
use Rattle.spk_broker_rules.specs.Lawful.{IsLow, Rises, IsLawful}
use Rattle.spk_broker_rules.specs.Words.{option_list, resent, handed_out}
use Rattle.spk_broker_rules.specs.Step.{Turn, opens, on_connections, newcomer_heard, connection_heard, newcomer_dropped, connection_dropped, with_sessions, swap, leave_at, will_at, session_by, is_newcomer, other_newcomers, is_away, forget_at, connection_of as connection_from, new_session, take_up, away_for, accept_of, ack_at}
use Rattle.spk_broker_rules.specs.Past.{Past, OfConn, OfSession, Opened, Heard, Dropped, Ended, Made, Joined, Left, Over, Acked, Joining, deeds, clock, given, made, kept, here, in_flight, newcomers, sessions, session_at, newcomer_of, connection_of, session_with, session_of, broker_of}
use Rattle.spk_broker_rules.specs.Story as story
use Rattle.spk_broker_rules.specs.Story.{Story, note, session_facts, leaving, will_of, told_opens, told_leave, told_forget, told_take_up, told_accept, told_take, told_ack, granting, taking_back}
use Rattle.spk_broker_rules.proofs.Lists.{find-map, map-map, map-same, map-same_in, filter-map, all-map, all-also}
use Rattle.spk_broker_rules.proofs.Sessions.{deeds-self, session-self, session-other, swapped, dropped, session_by-same, away-same, newcomer-same, acked_session, acked-session, joined-session, newcomer_with, newcomer-ended, connection-ended, newcomer-heard, connection-heard, newcomer-dropped, connection-dropped, session-connections, fresh-conn, fresh-newcomer, fresh-connection}

abbrev pub turn_of : ℕ → Story → Turn
turn_of limit t = record { broker = broker_of limit t.past; sends = t.sends; closes = t.closes; waiting = t.waiting }

-- the same with other newcomers and sessions
abbrev with_both : Turn → List Newcomer → List Session → Turn
with_both t gs ss = record t { broker = record t.broker { newcomers = gs; sessions = ss } }

-- ---- connections

pub opened : (limit : ℕ) (t : Story) → IsLawful (broker_of limit t.past) → turn_of limit (told_opens t) ≡ opens (turn_of limit t)
opened limit t lawful = ap₂ (λ gs ss. record (with_both (turn_of limit t) gs ss) { broker = record (broker_of limit t.past) { given = given t.past + 1; newcomers = gs; sessions = ss } })
    (map-append (newcomer_of g) (newcomers t.past) ((given t.past + 1) ∷ [])
    ∙ ap (λ gs. gs ++ newcomer_of g (given t.past + 1) ∷ []) (map-same_in (newcomer_of g) (newcomer_of t.past) (newcomers t.past)
    (all-also (λ c. c ≤ given t.past) (λ c. newcomer_of g c ≡ newcomer_of t.past c) (λ c low. ap (newcomer_with c) (fresh-conn t.past (given t.past) c (clock t.past) low)) (newcomers t.past)
    (all-map (λ (x : Newcomer). x.conn ≤ given t.past) (newcomer_of t.past) (newcomers t.past) lawful.newcomers)))
    ∙ ap (λ x. map (newcomer_of t.past) (newcomers t.past) ++ x ∷ []) (fresh-newcomer t.past (given t.past) (clock t.past)))
    (map-same_in (session_of g) (session_of t.past) (sessions t.past)
    (all-also (λ s. IsLow (given t.past) (session_of t.past s).here) (λ s. session_of g s ≡ session_of t.past s) (λ s low. fresh-connection t.past (given t.past) (clock t.past) s low) (sessions t.past)
    (all-map (λ (x : Session). IsLow (given t.past) x.here) (session_of t.past) (sessions t.past) lawful.connections)))
  where
    g : Past
    g = OfConn (given t.past + 1) (Opened (clock t.past)) ∷ t.past

abbrev on_connection : (Connection → Connection) → Session → Session
on_connection change s = record s { here = option_map change s.here }

pub was_heard : (limit c : ℕ) (t : Story)
    → turn_of limit (note (OfConn c (Heard (clock t.past)) ∷ []) t) ≡ on_connections (newcomer_heard c (clock t.past)) (connection_heard c (clock t.past)) (turn_of limit t)
was_heard limit c t = ap₂ (with_both (turn_of limit t))
    (sym (map-map (newcomer_of t.past) (newcomer_heard c k) (newcomer_of (OfConn c (Heard k) ∷ t.past)) (λ x. sym (newcomer-heard t.past c k x)) (newcomers t.past)))
    (sym (map-map (session_of t.past) (on_connection (connection_heard c k)) (session_of (OfConn c (Heard k) ∷ t.past))
    (λ s. sym (session-connections t.past (OfConn c (Heard k) ∷ t.past) (connection_heard c k) (λ x. refl) (connection-heard t.past c k) s)) (sessions t.past)))
  where
    k : ℕ
    k = clock t.past

pub was_dropped : (limit c : ℕ) (t : Story) → turn_of limit (note (OfConn c Dropped ∷ []) t) ≡ on_connections (newcomer_dropped c) (connection_dropped c) (turn_of limit t)
was_dropped limit c t = ap₂ (with_both (turn_of limit t))
    (sym (map-map (newcomer_of t.past) (newcomer_dropped c) (newcomer_of (OfConn c Dropped ∷ t.past)) (λ x. sym (newcomer-dropped t.past c x)) (newcomers t.past)))
    (sym (map-map (session_of t.past) (on_connection (connection_dropped c)) (session_of (OfConn c Dropped ∷ t.past))
    (λ s. sym (session-connections t.past (OfConn c Dropped ∷ t.past) (connection_dropped c) (λ x. refl) (connection-dropped t.past c) s)) (sessions t.past)))

-- ---- leaving

others : (h : Past) (c : ℕ) → map (newcomer_of h) (without c (newcomers h)) ≡ other_newcomers c (map (newcomer_of h) (newcomers h))
others h c = sym (filter-map (newcomer_of h) (λ (g : Newcomer). not (eqb g.conn c)) (λ other. not (eqb other c)) (λ g. refl) (newcomers h))

newcomer_left : (limit c : ℕ) (t : Story)
    → turn_of limit (note (OfConn c Ended ∷ []) t) ≡ record (turn_of limit t) { broker = record (broker_of limit t.past) { newcomers = other_newcomers c (map (newcomer_of t.past) (newcomers t.past)) } }
newcomer_left limit c t = ap₂ (with_both (turn_of limit t))
    (map-same (newcomer_of (OfConn c Ended ∷ t.past)) (newcomer_of t.past) (newcomer-ended t.past c) (without c (newcomers t.past)) ∙ others t.past c)
    (map-same (session_of (OfConn c Ended ∷ t.past)) (session_of t.past) (λ s. ap (λ l. session_with l s (deeds t.past s)) (fun_ext (connection-ended t.past c))) (sessions t.past))

-- both notes of a session that ends
over-other : (h : Past) (s c t : ℕ) → eqb s t ≡ false → session_of (OfSession s Over ∷ OfSession s (Left c) ∷ h) t ≡ session_of h t
over-other h s c t e = session-other (OfSession s (Left c) ∷ h) s t Over e ∙ session-other h s t (Left c) e

session_left : (limit s c : ℕ) (ws : List AppMessage) (t : Story) (k : Bool)
    → turn_of limit (record (note (session_facts s (leaving k c)) t) { waiting = ws })
    ≡ record (with_sessions (swap s (cond k ((record (session_of t.past s) { here = None }) ∷ []) []) (map (session_of t.past) (sessions t.past))) (turn_of limit t)) { waiting = ws }
session_left limit s c ws t true = ap (λ ss. record (with_sessions ss (turn_of limit t)) { waiting = ws })
    (swapped t.past (OfSession s (Left c) ∷ t.past) s (record (session_of t.past s) { here = None }) (session-self t.past s (Left c)) (λ x e. session-other t.past s x (Left c) e) (sessions t.past))
session_left limit s c ws t false = ap (λ ss. record (with_sessions ss (turn_of limit t)) { waiting = ws })
    (dropped t.past (OfSession s Over ∷ OfSession s (Left c) ∷ t.past) s (λ x e. over-other t.past s c x e) (sessions t.past))

wills-same : (h : Past) (wills : Bool) (s : ℕ) → will_of wills (here (deeds h s)) ≡ will_at wills (session_of h s)
wills-same h true s = by (here (deeds h s))
  where
    by : (j : Option Joining) → option_map_or (λ (i : Joining). option_list i.will) j [] ≡ option_map_or (λ (l : Connection). option_list l.will) (option_map (connection_of h) j) []
    by None = refl
    by (Some j) = refl
wills-same h false s = refl

left_at : (limit c : ℕ) (wills : Bool) (t : Story) (o : Option ℕ)
    → turn_of limit (told_leave o c wills t) ≡ leave_at (option_map (session_of t.past) o) c wills (turn_of limit t)
left_at limit c wills t None = newcomer_left limit c t
left_at limit c wills t (Some s) = ap (λ ws. turn_of limit (record (note (session_facts s (leaving (kept (deeds t.past s)) c)) t) { waiting = t.waiting ++ ws })) (wills-same t.past wills s)
    ∙ session_left limit s c (t.waiting ++ will_at wills (session_of t.past s)) t (kept (deeds t.past s))

pub left : (limit c : ℕ) (wills : Bool) (t : Story)
    → turn_of limit (told_leave (session_at t.past c) c wills t) ≡ leave_at (session_by c (broker_of limit t.past).sessions) c wills (turn_of limit t)
left limit c wills t = left_at limit c wills t (session_at t.past c) ∙ ap (λ o. leave_at o c wills (turn_of limit t)) (sym (session_by-same t.past c))

forgot_at : (limit : ℕ) (t : Story) (o : Option ℕ) → turn_of limit (told_forget o t) ≡ forget_at (option_map (session_of t.past) o) (turn_of limit t)
forgot_at limit t None = refl
forgot_at limit t (Some s) = ap (λ ss. with_sessions ss (turn_of limit t))
    (dropped t.past (OfSession s Over ∷ t.past) s (λ x e. session-other t.past s x Over e) (sessions t.past))

away-found : (h : Past) (c : List ℕ) → find (is_away c) (map (session_of h) (sessions h)) ≡ option_map (session_of h) (find (story.is_away h c) (sessions h))
away-found h c = find-map (session_of h) (is_away c) (story.is_away h c) (away-same h c) (sessions h)

pub forgot : (limit : ℕ) (c : List ℕ) (t : Story)
    → turn_of limit (told_forget (find (story.is_away t.past c) (sessions t.past)) t) ≡ forget_at (find (is_away c) (broker_of limit t.past).sessions) (turn_of limit t)
forgot limit c t = forgot_at limit t (find (story.is_away t.past c) (sessions t.past)) ∙ ap (λ o. forget_at o (turn_of limit t)) (sym (away-found t.past c))

-- ---- joining

rises-low : (low top : ℕ) (ss : List Session) → Rises low top ss → low ≤ top
rises-low low top [] h = h
rises-low low top (s ∷ ss) h = let a = h.0 in let b = rises-low s.key top ss h.1 in omega arith

pub all-below : (low top : ℕ) (ss : List Session) → Rises low top ss → AllByRecursion (λ (s : Session). s.key ≤ top) ss
all-below low top [] h = tt
all-below low top (s ∷ ss) h = (rises-low s.key top ss h.1, all-below s.key top ss h.1)

made_anew : (limit c : ℕ) (name : List ℕ) (keeps : Bool) (alive : ℕ) (will : Option AppMessage) (t : Story) → IsLawful (broker_of limit t.past)
    → turn_of limit (told_take_up None c name keeps alive will t) ≡ take_up None name keeps (connection_from (newcomer_of t.past c) alive will) (turn_of limit t)
made_anew limit c name keeps alive will t lawful = ap₂ (λ gs ss. record (turn_of limit t) {
  broker = record (broker_of limit t.past) { made = n; newcomers = gs; sessions = ss };
  sends = t.sends ++ (record { conn = c; packet = ConnAck false 0 }) ∷ [];
})
    (others t.past c)
    (map-append (session_of g) (sessions t.past) (n ∷ [])
    ∙ ap₂ (λ xs x. xs ++ x ∷ [])
    (map-same_in (session_of g) (session_of t.past) (sessions t.past)
    (all-also (λ s. s ≤ made t.past) (λ s. session_of g s ≡ session_of t.past s) older (sessions t.past)
    (all-map (λ (x : Session). x.key ≤ made t.past) (session_of t.past) (sessions t.past) (all-below 0 (made t.past) (broker_of limit t.past).sessions lawful.keys))))
    newest)
  where
    n : ℕ
    n = made t.past + 1

    g : Past
    g = OfSession (made t.past + 1) (Joined c alive will) ∷ OfSession (made t.past + 1) (Made name keeps) ∷ t.past

    older : (s : ℕ) → s ≤ made t.past → session_of g s ≡ session_of t.past s
    older s low = session-other (OfSession (made t.past + 1) (Made name keeps) ∷ t.past) (made t.past + 1) s (Joined c alive will) (ne_eqb (made t.past + 1) s (λ e. omega arith))
        ∙ session-other t.past (made t.past + 1) s (Made name keeps) (ne_eqb (made t.past + 1) s (λ e. omega arith))

    none : (k : Bool) → cond {A = List InFlight} k [] [] ≡ []
    none true = refl
    none false = refl

    newest : session_of g (made t.past + 1) ≡ new_session (made t.past + 1) name keeps (connection_from (newcomer_of t.past c) alive will)
    newest = session-self (OfSession (made t.past + 1) (Made name keeps) ∷ t.past) (made t.past + 1) (Joined c alive will)
        ∙ ap (λ ds. session_with (connection_of t.past) (made t.past + 1) (Joined c alive will ∷ ds)) (deeds-self t.past (made t.past + 1) (Made name keeps))
        ∙ ap (λ cs. record (new_session (made t.past + 1) name keeps (connection_from (newcomer_of t.past c) alive will)) { in_flight = cs }) (none keeps)

taken_up : (limit c : ℕ) (name : List ℕ) (keeps : Bool) (alive : ℕ) (will : Option AppMessage) (t : Story) → IsLawful (broker_of limit t.past) → (o : Option ℕ)
    → turn_of limit (told_take_up o c name keeps alive will t) ≡ take_up (option_map (session_of t.past) o) name keeps (connection_from (newcomer_of t.past c) alive will) (turn_of limit t)
taken_up limit c name keeps alive will t lawful None = made_anew limit c name keeps alive will t lawful
taken_up limit c name keeps alive will t lawful (Some s) = ap₂ (λ gs ss. record (turn_of limit t) {
  broker = record (broker_of limit t.past) { newcomers = gs; sessions = ss };
  sends = t.sends ++ (record { conn = c; packet = ConnAck true 0 }) ∷ resent c (in_flight (deeds t.past s));
})
    (others t.past c)
    (swapped t.past (OfSession s (Joined c alive will) ∷ t.past) s
    (record (session_of t.past s) { here = Some (connection_from (newcomer_of t.past c) alive will); in_flight = map handed_out (in_flight (deeds t.past s)) })
    (session-self t.past s (Joined c alive will) ∙ joined-session (connection_of t.past) s c alive will (deeds t.past s))
    (λ x e. session-other t.past s x (Joined c alive will) e) (sessions t.past))

away_for-same : (h : Past) (keeps : Bool) (c : List ℕ) → away_for keeps c (map (session_of h) (sessions h)) ≡ option_map (session_of h) (story.away_for h keeps c)
away_for-same h true c = away-found h c
away_for-same h false c = refl

accepted_of : (limit : ℕ) (name : List ℕ) (keeps : Bool) (alive : ℕ) (will : Option AppMessage) (t : Story) → IsLawful (broker_of limit t.past) → (o : Option ℕ)
    → turn_of limit (told_accept o name keeps alive will t) ≡ accept_of (option_map (newcomer_of t.past) o) name keeps alive will (turn_of limit t)
accepted_of limit name keeps alive will t lawful None = refl
accepted_of limit name keeps alive will t lawful (Some c) =
    taken_up limit c name keeps alive will t lawful (story.away_for t.past keeps name)
    ∙ ap (λ o. take_up o name keeps (connection_from (newcomer_of t.past c) alive will) (turn_of limit t)) (sym (away_for-same t.past keeps name))

pub accepted : (limit c : ℕ) (name : List ℕ) (keeps : Bool) (alive : ℕ) (will : Option AppMessage) (t : Story) → IsLawful (broker_of limit t.past)
    → turn_of limit (told_accept (find (λ g. eqb g c) (newcomers t.past)) name keeps alive will t) ≡ accept_of (find (is_newcomer c) (broker_of limit t.past).newcomers) name keeps alive will (turn_of limit t)
accepted limit c name keeps alive will t lawful = accepted_of limit name keeps alive will t lawful (find (λ g. eqb g c) (newcomers t.past))
    ∙ ap (λ o. accept_of o name keeps alive will (turn_of limit t)) (sym (newcomer-same t.past c))

-- ---- acknowledgements and filters taken back

acked_at : (limit id : ℕ) (t : Story) (o : Option ℕ) → turn_of limit (told_ack o id t) ≡ ack_at (option_map (session_of t.past) o) id (turn_of limit t)
acked_at limit id t None = refl
acked_at limit id t (Some s) = ap (λ ss. with_sessions ss (turn_of limit t))
    (swapped t.past (OfSession s (Acked id) ∷ t.past) s (acked_session id (session_of t.past s))
    (session-self t.past s (Acked id) ∙ acked-session (connection_of t.past) s id (deeds t.past s)) (λ x e. session-other t.past s x (Acked id) e) (sessions t.past))

pub acked : (limit c id : ℕ) (t : Story) → turn_of limit (told_ack (session_at t.past c) id t) ≡ ack_at (session_by c (broker_of limit t.past).sessions) id (turn_of limit t)
acked limit c id t = acked_at limit id t (session_at t.past c) ∙ ap (λ o. ack_at o id (turn_of limit t)) (sym (session_by-same t.past c))
