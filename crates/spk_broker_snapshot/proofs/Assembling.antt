-- The lines of a broker put its data together again.
use Rattle.std.proofs.Common.{◌≡◌, ℕ, Bool, true, false, not, List, [], ◌∷◌, ◌++◌, map, refl, sym, ap, ◌∙◌, Option, Some, None}
use Rattle.std.specs.List.{flat_map, fold}
use Rattle.std.specs.Option.{option_map}
use Rattle.std.proofs.lemmas.List.{append-nil, append_assoc}
use Rattle.std.proofs.lemmas.List.Sums.{fold-append}
use Rattle.spk_broker_rules.specs.Data.{AppMessage, InFlight, Connection, Newcomer, Session, Stored, Broker}
use Rattle.spk_broker_rules.specs.Table.{Table}
use Rattle.spk_broker_replay.specs.Parts.{begun}
use Rattle.spk_broker_replay.specs.Replay.{bare_newcomer, restored, timed_session}
use Rattle.spk_broker_events.specs.Line.{Kept}
use Rattle.spk_broker_events.specs.declared.line.Kind.TheVariants as kind
use Rattle.spk_broker_snapshot.specs.Lines.{in_flight_line, grant_line, in_use_line, line, lines, retained_line, session_lines, sits_lines, waiting_line, will_packet}
use Rattle.spk_broker_snapshot.specs.Together.{Sent, Stand, after, apart, bare_session, ended, of_packet, sent_in}

abbrev with : Broker → Session → Stand
with b s = record { broker = b; session = Some s }

abbrev newcomers_on : Broker → List Newcomer → Broker
newcomers_on b gs = record b { newcomers = gs }

abbrev sessions_on : Broker → List Session → Broker
sessions_on b ss = record b { sessions = ss }

abbrev retained_on : Broker → Table Stored → Broker
retained_on b t = record b { retained = t }

module _ (limit : ℕ) where
  -- ---- connections without CONNECT

  all-waiting : (gs : List Newcomer) (b : Broker) → fold (after limit) (apart b) (map waiting_line gs) ≡ apart (newcomers_on b (b.newcomers ++ map bare_newcomer gs))
  all-waiting [] b = ap (λ l. apart (newcomers_on b l)) (sym (append-nil b.newcomers))
  all-waiting (g ∷ gs) b =
      all-waiting gs (newcomers_on b (b.newcomers ++ bare_newcomer g ∷ [])) ∙ ap (λ l. apart (newcomers_on b l)) (append_assoc b.newcomers (bare_newcomer g ∷ []) (map bare_newcomer gs))

  -- ---- one session

  all-grants : (gs : Table ℕ) (b : Broker) (s : Session) → fold (after limit) (with b s) (map grant_line gs) ≡ with b (record s { grants = s.grants ++ gs })
  all-grants [] b s = ap (λ l. with b (record s { grants = l })) (sym (append-nil s.grants))
  all-grants (g ∷ gs) b s =
      all-grants gs b (record s { grants = s.grants ++ g ∷ [] }) ∙ ap (λ l. with b (record s { grants = l })) (append_assoc s.grants (g ∷ []) gs)

  -- the identifiers, and then the one given last
  all-given : (ids : List ℕ) (last : ℕ) (b : Broker) (s : Session) (rest : List Kept)
      → fold (after limit) (with b s) (map in_use_line ids ++ (line kind.Last last 0 None ∷ rest)) ≡ fold (after limit) (with b (record s { used = s.used ++ ids; last = last })) rest
  all-given [] last b s rest = ap (λ l. fold (after limit) (with b (record s { used = l; last = last })) rest) (sym (append-nil s.used))
  all-given (id ∷ ids) last b s rest =
      all-given ids last b (record s { used = s.used ++ id ∷ []; last = id }) rest
      ∙ ap (λ l. fold (after limit) (with b (record s { used = l; last = last })) rest) (append_assoc s.used (id ∷ []) ids)

  all-in_flight : (cs : List InFlight) (b : Broker) (s : Session) → fold (after limit) (with b s) (map in_flight_line cs) ≡ with b (record s { in_flight = s.in_flight ++ cs })
  all-in_flight [] b s = ap (λ l. with b (record s { in_flight = l })) (sym (append-nil s.in_flight))
  all-in_flight (c ∷ cs) b s =
      all-in_flight cs b (record s { in_flight = s.in_flight ++ c ∷ [] }) ∙ ap (λ l. with b (record s { in_flight = l })) (append_assoc s.in_flight (c ∷ []) cs)

  one-sits : (o : Option Connection) (b : Broker) (s : Session) → s.here ≡ None → fold (after limit) (with b s) (sits_lines o) ≡ with b (record s { here = (timed_session (record s { here = o })).here })
  one-sits None b s e = ap (λ h. with b (record s { here = h })) e
  one-sits (Some l) b s e = ap (λ w. with b (record s { here = Some (record { conn = l.conn; alive = 1; heard = 0; will = w; drops = 0 }) })) (wills l.will)
    where
      wills : (w : Option AppMessage) → option_map (λ (x : Sent). x.app_message) (of_packet sent_in (option_map will_packet w)) ≡ w
      wills None = refl
      wills (Some p) = refl

  not-not : (b : Bool) → not (not b) ≡ b
  not-not true = refl
  not-not false = refl

  one-session : (s : Session) (before : Stand) → fold (after limit) before (session_lines s) ≡ with (ended before) (timed_session s)
  one-session s before =
      let b = ended before in
      let first : Session = bare_session s.key (s.client, not (not s.kept)) in
      let here : Session = record first { here = (timed_session s).here } in
      let more = map grant_line s.grants ++ (map in_use_line s.used ++ (line kind.Last s.last 0 None ∷ map in_flight_line s.in_flight)) in
      let rest = map in_use_line s.used ++ (line kind.Last s.last 0 None ∷ map in_flight_line s.in_flight) in
      fold-append (after limit) (with b first) (sits_lines s.here) more
      ∙ ap (λ x. fold (after limit) x more) (one-sits s.here b first refl)
      ∙ fold-append (after limit) (with b here) (map grant_line s.grants) rest
      ∙ ap (λ x. fold (after limit) x rest) (all-grants s.grants b here)
      ∙ all-given s.used s.last b (record here { grants = s.grants }) (map in_flight_line s.in_flight)
      ∙ all-in_flight s.in_flight b (record here { grants = s.grants; used = s.used; last = s.last })
      ∙ ap (λ k. with b (record (timed_session s) { kept = k })) (not-not s.kept)

  -- ---- all sessions

  all-sessions : (ss : List Session) (before : Stand) → ended (fold (after limit) before (flat_map session_lines ss)) ≡ sessions_on (ended before) ((ended before).sessions ++ map timed_session ss)
  all-sessions [] before = ap (sessions_on (ended before)) (sym (append-nil (ended before).sessions))
  all-sessions (s ∷ ss) before =
      ap ended (fold-append (after limit) before (session_lines s) (flat_map session_lines ss) ∙ ap (λ x. fold (after limit) x (flat_map session_lines ss)) (one-session s before))
      ∙ all-sessions ss (with (ended before) (timed_session s))
      ∙ ap (sessions_on (ended before)) (append_assoc (ended before).sessions (timed_session s ∷ []) (map timed_session ss))

  -- ---- retained messages

  all-retained : (t : Table Stored) (before : Stand) → ended (fold (after limit) before (map retained_line t)) ≡ retained_on (ended before) ((ended before).retained ++ t)
  all-retained [] before = ap (retained_on (ended before)) (sym (append-nil (ended before).retained))
  all-retained (e ∷ t) before =
      all-retained t (apart (retained_on (ended before) ((ended before).retained ++ e ∷ [])))
      ∙ ap (retained_on (ended before)) (append_assoc (ended before).retained (e ∷ []) t)

pub all-lines : (limit : ℕ) (b : Broker) (before : Stand) → ended (fold (after limit) before (lines b)) ≡ restored limit b
all-lines limit b before =
    let start = begun limit b.given b.made in
    let waits = newcomers_on start (map bare_newcomer b.newcomers) in
    let more = flat_map session_lines b.sessions ++ map retained_line b.retained in
    let sessions = fold (after limit) (apart waits) (flat_map session_lines b.sessions) in
    ap ended (fold-append (after limit) (apart start) (map waiting_line b.newcomers) more ∙ ap (λ x. fold (after limit) x more) (all-waiting limit b.newcomers start)
    ∙ fold-append (after limit) (apart waits) (flat_map session_lines b.sessions) (map retained_line b.retained))
    ∙ all-retained limit b.retained sessions
    ∙ ap (λ x. retained_on x (x.retained ++ b.retained)) (all-sessions limit b.sessions (apart waits))
