-- How the data of sessions and connections change with the facts about them.
use Rattle.std.proofs.Common.{◌≡◌, ℕ, ◌+◌, ◌≤◌, Bool, true, false, not, ◌&&◌, cond, eqb, List, [], ◌∷◌, ◌++◌, map, refl, sym, ◌∙◌, ap, ap₂, arith, Option, Some, None, ne_eqb}
use mathlib.Core.Path.{fun_ext}
use Rattle.std.specs.List.{find, fold}
use Rattle.std.specs.Option.{option_map, option_map_or, is_some}
use Rattle.std.specs.Str.{bytes_eq}
use Rattle.std.proofs.lemmas.List.{map-append}
use Rattle.spk_session.specs.Step.{without, one_more}
use Rattle.spk_broker_rules.specs.Data.{AppMessage, InFlight, Connection, Newcomer, Session}
use Rattle.spk_broker_rules.specs.Lawful.{IsLow}
use Rattle.spk_broker_rules.specs.Table.{Table, put, remove}
use Rattle.spk_broker_rules.specs.Words.{handed_out, without_id}
use Rattle.spk_broker_rules.specs.Step.{sits, session_by, is_newcomer, is_away, swap, newcomer_heard, connection_heard, newcomer_dropped, connection_dropped}
use Rattle.spk_broker_rules.specs.Past.{Past, OfConn, OfSession, ConnDeed, Opened, Heard, Dropped, Ended, Deed, Joined, Left, Granted, TakenBack, Numbered, Acked, Joining, conn_deeds, deeds, heard, drops, client, kept, here, grant_notes, grants, unacked, used, in_flight, newcomers, sessions, session_at, sits_at, newcomer_of, connection_of, session_with, session_of}
use Rattle.spk_broker_rules.specs.Story as story
use Rattle.spk_broker_rules.specs.Story.{session_facts, granting, taking_back}
use Rattle.spk_broker_rules.proofs.Lists.{cond-ap, eqb-flip, eqb-is, eqb-self, find-map, map-map, filter-map}
use Rattle.spk_broker_rules.proofs.Tables.{table-put, table-remove}

-- ---- the facts of one session

pub deeds-self : (h : Past) (s : ℕ) (d : Deed) → deeds (OfSession s d ∷ h) s ≡ d ∷ deeds h s
deeds-self h s d = ap (λ b. cond b (d ∷ deeds h s) (deeds h s)) (eqb-self s)

pub deeds-other : (h : Past) (s t : ℕ) (d : Deed) → eqb s t ≡ false → deeds (OfSession s d ∷ h) t ≡ deeds h t
deeds-other h s t d e = ap (λ b. cond b (d ∷ deeds h t) (deeds h t)) e

pub deeds-selves : (ds : List Deed) (h : Past) (s : ℕ) → deeds (session_facts s ds ++ h) s ≡ ds ++ deeds h s
deeds-selves [] h s = refl
deeds-selves (d ∷ ds) h s = deeds-self (session_facts s ds ++ h) s d ∙ ap (λ es. d ∷ es) (deeds-selves ds h s)

pub deeds-others : (ds : List Deed) (h : Past) (s t : ℕ) → eqb s t ≡ false → deeds (session_facts s ds ++ h) t ≡ deeds h t
deeds-others [] h s t e = refl
deeds-others (d ∷ ds) h s t e = deeds-other (session_facts s ds ++ h) s t d e ∙ deeds-others ds h s t e

pub conns-same : (ds : List Deed) (h : Past) (s c : ℕ) → conn_deeds (session_facts s ds ++ h) c ≡ conn_deeds h c
conns-same [] h s c = refl
conns-same (d ∷ ds) h s c = conns-same ds h s c

abbrev pub connection_with : List ConnDeed → Joining → Connection
connection_with ds j = record { conn = j.conn; alive = j.alive; heard = heard ds; will = j.will; drops = drops ds }

-- connections speak of the facts of their connections alone
pub connections-same : (h g : Past) → ((c : ℕ) → conn_deeds g c ≡ conn_deeds h c) → connection_of g ≡ connection_of h
connections-same h g same = fun_ext (λ (j : Joining). ap (λ ds. connection_with ds j) (same j.conn))

pub session-from : (h g : Past) (s : ℕ) (ds : List Deed) → ((c : ℕ) → conn_deeds g c ≡ conn_deeds h c) → deeds g s ≡ ds → session_of g s ≡ session_with (connection_of h) s ds
session-from h g s ds same is = ap (λ l. session_with l s (deeds g s)) (connections-same h g same) ∙ ap (session_with (connection_of h) s) is

pub session-self : (h : Past) (s : ℕ) (d : Deed) → session_of (OfSession s d ∷ h) s ≡ session_with (connection_of h) s (d ∷ deeds h s)
session-self h s d = ap (session_with (connection_of h) s) (deeds-self h s d)

pub session-other : (h : Past) (s t : ℕ) (d : Deed) → eqb s t ≡ false → session_of (OfSession s d ∷ h) t ≡ session_of h t
session-other h s t d e = ap (session_with (connection_of h) t) (deeds-other h s t d e)

-- ---- one session among the others

pub swapped : (h g : Past) (s : ℕ) (new : Session) → session_of g s ≡ new → ((t : ℕ) → eqb s t ≡ false → session_of g t ≡ session_of h t)
    → (ss : List ℕ) → map (session_of g) ss ≡ swap s (new ∷ []) (map (session_of h) ss)
swapped h g s new self other [] = refl
swapped h g s new self other (t ∷ ss) = by (eqb t s) refl ∙ ap (λ xs. cond (eqb t s) (new ∷ []) (session_of h t ∷ []) ++ xs) (swapped h g s new self other ss)
  where
    by : (b : Bool) → eqb t s ≡ b → session_of g t ∷ map (session_of g) ss ≡ cond b (new ∷ []) (session_of h t ∷ []) ++ map (session_of g) ss
    by true is = ap (λ x. x ∷ map (session_of g) ss) (ap (session_of g) (eqb-is t s is) ∙ self)
    by false is = ap (λ x. x ∷ map (session_of g) ss) (other t (eqb-flip s t ∙ is))

pub dropped : (h g : Past) (s : ℕ) → ((t : ℕ) → eqb s t ≡ false → session_of g t ≡ session_of h t)
    → (ss : List ℕ) → map (session_of g) (without s ss) ≡ swap s [] (map (session_of h) ss)
dropped h g s other [] = refl
dropped h g s other (t ∷ ss) = by (eqb t s) refl ∙ ap (λ xs. cond (eqb t s) [] (session_of h t ∷ []) ++ xs) (dropped h g s other ss)
  where
    by : (b : Bool) → eqb t s ≡ b → map (session_of g) (cond (not b) (t ∷ without s ss) (without s ss)) ≡ cond b [] (session_of h t ∷ []) ++ map (session_of g) (without s ss)
    by true is = refl
    by false is = ap (λ x. x ∷ map (session_of g) (without s ss)) (other t (eqb-flip s t ∙ is))

-- ---- what is found on tables is what is found in the past

pub sits-same : (h : Past) (c s : ℕ) → sits c (session_of h s) ≡ sits_at h c s
sits-same h c s = by (here (deeds h s))
  where
    by : (j : Option Joining) → option_map_or (λ (l : Connection). eqb l.conn c) (option_map (connection_of h) j) false ≡ option_map_or (λ (i : Joining). eqb i.conn c) j false
    by None = refl
    by (Some j) = refl

pub session_by-same : (h : Past) (c : ℕ) → session_by c (map (session_of h) (sessions h)) ≡ option_map (session_of h) (session_at h c)
session_by-same h c = find-map (session_of h) (sits c) (sits_at h c) (sits-same h c) (sessions h)

pub has_connection : (h : Past) (s : ℕ) → is_some (session_of h s).here ≡ is_some (here (deeds h s))
has_connection h s = by (here (deeds h s))
  where
    by : (j : Option Joining) → is_some (option_map (connection_of h) j) ≡ is_some j
    by None = refl
    by (Some j) = refl

pub away-same : (h : Past) (c : List ℕ) (s : ℕ) → is_away c (session_of h s) ≡ story.is_away h c s
away-same h c s = ap (λ b. kept (deeds h s) && (not b && bytes_eq (client (deeds h s)) c)) (has_connection h s)

pub newcomer-same : (h : Past) (c : ℕ) → find (is_newcomer c) (map (newcomer_of h) (newcomers h)) ≡ option_map (newcomer_of h) (find (λ g. eqb g c) (newcomers h))
newcomer-same h c = find-map (newcomer_of h) (is_newcomer c) (λ g. eqb g c) (λ g. refl) (newcomers h)

-- ---- one session after one fact

pub left-session : (l : Joining → Connection) (s c : ℕ) (ds : List Deed) → session_with l s (Left c ∷ ds) ≡ record (session_with l s ds) { here = None }
left-session l s c ds = refl

abbrev pub acked_session : ℕ → Session → Session
acked_session id session = record session { used = without id session.used; in_flight = without_id id session.in_flight }

abbrev with_ids : Session → List ℕ → List InFlight → Session
with_ids session ids cs = record session { used = ids; in_flight = cs }

pub acked-session : (l : Joining → Connection) (s id : ℕ) (ds : List Deed) → session_with l s (Acked id ∷ ds) ≡ acked_session id (session_with l s ds)
acked-session l s id ds = ap₂ (with_ids (session_with l s ds))
    (sym (filter-map (λ (c : InFlight). c.id) (λ other. not (eqb other id)) (λ (c : InFlight). not (eqb c.id id)) (λ c. refl) (unacked ds)))
    (sym (cond-ap (without_id id) (kept ds) (unacked ds) []))

pub joined-session : (l : Joining → Connection) (s c alive : ℕ) (will : Option AppMessage) (ds : List Deed)
    → session_with l s (Joined c alive will ∷ ds)
    ≡ record (session_with l s ds) { here = Some (l (record { conn = c; alive = alive; will = will })); in_flight = map handed_out (in_flight ds) }
joined-session l s c alive will ds = ap₂ (with_ids (record (session_with l s ds) { here = Some (l (record { conn = c; alive = alive; will = will })) }))
    (map-map handed_out (λ (x : InFlight). x.id) (λ (x : InFlight). x.id) (λ x. refl) (unacked ds))
    (sym (cond-ap (map handed_out) (kept ds) (unacked ds) []))

abbrev pub in_flight_of : ℕ → AppMessage → Bool → InFlight
in_flight_of id app_message handed = record { id = id; app_message = app_message; handed = handed }

pub numbered-session : (l : Joining → Connection) (s id : ℕ) (app_message : AppMessage) (handed : Bool) (ds : List Deed)
    → session_with l s (Numbered id app_message handed ∷ ds)
    ≡ record (session_with l s ds) { used = used ds ++ id ∷ []; last = id; in_flight = cond (kept ds) (in_flight ds ++ in_flight_of id app_message handed ∷ []) (in_flight ds) }
numbered-session l s id app_message handed ds = ap₂ (with_ids (record (session_with l s ds) { last = id }))
    (map-append (λ (x : InFlight). x.id) (unacked ds) (in_flight_of id app_message handed ∷ []))
    (by (kept ds))
  where
    by : (k : Bool) → cond k (unacked ds ++ in_flight_of id app_message handed ∷ []) [] ≡ cond k (cond k (unacked ds) [] ++ in_flight_of id app_message handed ∷ []) (cond k (unacked ds) [])
    by true = refl
    by false = refl

pub granted-session : (l : Joining → Connection) (s qos : ℕ) (f : List ℕ) (ds : List Deed)
    → session_with l s (Granted f qos ∷ ds) ≡ record (session_with l s ds) { grants = put f qos (grants ds) }
granted-session l s qos f ds = ap (λ g. record (session_with l s ds) { grants = g }) (table-put (grant_notes ds) f qos)

pub taken-session : (l : Joining → Connection) (s : ℕ) (f : List ℕ) (ds : List Deed)
    → session_with l s (TakenBack f ∷ ds) ≡ record (session_with l s ds) { grants = remove f (grants ds) }
taken-session l s f ds = ap (λ g. record (session_with l s ds) { grants = g }) (table-remove (grant_notes ds) f)

-- ---- several grants

abbrev pub puts : Table ℕ → List (List ℕ × ℕ) → Table ℕ
puts g entries = fold (λ a e. put e.0 e.1 a) g entries

pub granted-self : (entries : List (List ℕ × ℕ)) (h : Past) (s : ℕ)
    → session_of (fold (granting s) h entries) s ≡ record (session_of h s) { grants = puts (session_of h s).grants entries }
granted-self [] h s = refl
granted-self (e ∷ es) h s = granted-self es (granting s h e) s
    ∙ ap (λ (x : Session). record x { grants = puts x.grants es }) (session-self h s (Granted e.0 e.1) ∙ granted-session (connection_of h) s e.1 e.0 (deeds h s))

pub granted-other : (entries : List (List ℕ × ℕ)) (h : Past) (s t : ℕ) → eqb s t ≡ false → session_of (fold (granting s) h entries) t ≡ session_of h t
granted-other [] h s t e = refl
granted-other (x ∷ es) h s t e = granted-other es (granting s h x) s t e ∙ session-other h s t (Granted x.0 x.1) e

pub taken-self : (filters : List (List ℕ)) (h : Past) (s : ℕ)
    → session_of (fold (taking_back s) h filters) s ≡ record (session_of h s) { grants = fold (λ g f. remove f g) (session_of h s).grants filters }
taken-self [] h s = refl
taken-self (f ∷ fs) h s = taken-self fs (taking_back s h f) s
    ∙ ap (λ (x : Session). record x { grants = fold (λ g k. remove k g) x.grants fs }) (session-self h s (TakenBack f) ∙ taken-session (connection_of h) s f (deeds h s))

pub taken-other : (filters : List (List ℕ)) (h : Past) (s t : ℕ) → eqb s t ≡ false → session_of (fold (taking_back s) h filters) t ≡ session_of h t
taken-other [] h s t e = refl
taken-other (f ∷ fs) h s t e = taken-other fs (taking_back s h f) s t e ∙ session-other h s t (TakenBack f) e

-- ---- the facts of a connection

abbrev deed_if : Bool → ConnDeed → List ConnDeed → List ConnDeed
deed_if b d ds = cond b (d ∷ ds) ds

abbrev pub newcomer_with : ℕ → List ConnDeed → Newcomer
newcomer_with g ds = record { conn = g; heard = heard ds; drops = drops ds }

pub newcomer-ended : (h : Past) (c g : ℕ) → newcomer_of (OfConn c Ended ∷ h) g ≡ newcomer_of h g
newcomer-ended h c g = by (eqb c g)
  where
    by : (b : Bool) → newcomer_with g (deed_if b Ended (conn_deeds h g)) ≡ newcomer_of h g
    by true = refl
    by false = refl

pub connection-ended : (h : Past) (c : ℕ) (j : Joining) → connection_of (OfConn c Ended ∷ h) j ≡ connection_of h j
connection-ended h c j = by (eqb c j.conn)
  where
    by : (b : Bool) → connection_with (deed_if b Ended (conn_deeds h j.conn)) j ≡ connection_of h j
    by true = refl
    by false = refl

pub newcomer-heard : (h : Past) (c k g : ℕ) → newcomer_of (OfConn c (Heard k) ∷ h) g ≡ newcomer_heard c k (newcomer_of h g)
newcomer-heard h c k g = ap (λ b. newcomer_with g (deed_if b (Heard k) (conn_deeds h g))) (eqb-flip c g) ∙ by (eqb g c)
  where
    by : (b : Bool) → newcomer_with g (deed_if b (Heard k) (conn_deeds h g)) ≡ cond b (record (newcomer_of h g) { heard = k }) (newcomer_of h g)
    by true = refl
    by false = refl

pub connection-heard : (h : Past) (c k : ℕ) (j : Joining) → connection_of (OfConn c (Heard k) ∷ h) j ≡ connection_heard c k (connection_of h j)
connection-heard h c k j = ap (λ b. connection_with (deed_if b (Heard k) (conn_deeds h j.conn)) j) (eqb-flip c j.conn) ∙ by (eqb j.conn c)
  where
    by : (b : Bool) → connection_with (deed_if b (Heard k) (conn_deeds h j.conn)) j ≡ cond b (record (connection_of h j) { heard = k }) (connection_of h j)
    by true = refl
    by false = refl

pub newcomer-dropped : (h : Past) (c g : ℕ) → newcomer_of (OfConn c Dropped ∷ h) g ≡ newcomer_dropped c (newcomer_of h g)
newcomer-dropped h c g = ap (λ b. newcomer_with g (deed_if b Dropped (conn_deeds h g))) (eqb-flip c g) ∙ by (eqb g c)
  where
    by : (b : Bool) → newcomer_with g (deed_if b Dropped (conn_deeds h g)) ≡ cond b (record (newcomer_of h g) { drops = one_more (drops (conn_deeds h g)) }) (newcomer_of h g)
    by true = refl
    by false = refl

pub connection-dropped : (h : Past) (c : ℕ) (j : Joining) → connection_of (OfConn c Dropped ∷ h) j ≡ connection_dropped c (connection_of h j)
connection-dropped h c j = ap (λ b. connection_with (deed_if b Dropped (conn_deeds h j.conn)) j) (eqb-flip c j.conn) ∙ by (eqb j.conn c)
  where
    by : (b : Bool) → connection_with (deed_if b Dropped (conn_deeds h j.conn)) j ≡ cond b (record (connection_of h j) { drops = one_more (drops (conn_deeds h j.conn)) }) (connection_of h j)
    by true = refl
    by false = refl

abbrev with_connection : Session → Option Connection → Session
with_connection session l = record session { here = l }

-- the connection of each session changes so
pub session-connections : (h g : Past) (change : Connection → Connection) → ((s : ℕ) → deeds g s ≡ deeds h s) → ((j : Joining) → connection_of g j ≡ change (connection_of h j))
    → (s : ℕ) → session_of g s ≡ record (session_of h s) { here = option_map change (session_of h s).here }
session-connections h g change same connections s = ap (session_with (connection_of g) s) (same s) ∙ by (here (deeds h s))
  where
    by : (j : Option Joining) → with_connection (session_of h s) (option_map (connection_of g) j) ≡ with_connection (session_of h s) (option_map change (option_map (connection_of h) j))
    by None = refl
    by (Some j) = ap (λ l. with_connection (session_of h s) (Some l)) (connections j)

-- ---- a connection that is opened

pub fresh-conn : (h : Past) (n c k : ℕ) → c ≤ n → conn_deeds (OfConn (n + 1) (Opened k) ∷ h) c ≡ conn_deeds h c
fresh-conn h n c k low = ap (λ b. deed_if b (Opened k) (conn_deeds h c)) (ne_eqb (n + 1) c (λ e. omega arith))

pub fresh-newcomer : (h : Past) (n k : ℕ) → newcomer_of (OfConn (n + 1) (Opened k) ∷ h) (n + 1) ≡ newcomer_with (n + 1) (Opened k ∷ [])
fresh-newcomer h n k = ap (λ b. newcomer_with (n + 1) (deed_if b (Opened k) (conn_deeds h (n + 1)))) (eqb-self (n + 1))

pub fresh-connection : (h : Past) (n k s : ℕ) → IsLow n (session_of h s).here → session_of (OfConn (n + 1) (Opened k) ∷ h) s ≡ session_of h s
fresh-connection h n k s low = by (here (deeds h s)) low
  where
    by : (j : Option Joining) → IsLow n (option_map (connection_of h) j) → with_connection (session_of h s) (option_map (connection_of (OfConn (n + 1) (Opened k) ∷ h)) j) ≡ with_connection (session_of h s) (option_map (connection_of h) j)
    by None low = refl
    by (Some j) low = ap (λ ds. with_connection (session_of h s) (Some (connection_with ds j))) (fresh-conn h n j.conn k low)
