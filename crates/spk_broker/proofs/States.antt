-- The state in a call, and what is prepared for its end.
use Rattle.std.proofs.Common.{◌≡◌, ℕ, Bool, true, false, List, [], ◌∷◌, map, refl, sym, ap, ◌∙◌, Option, Some, None, Vec}
use Rattle.std.specs.List.{find, position}
use Rattle.std.specs.Option.{IfSome}
use Rattle.std.specs.declared.alloc.Global.{Global}
use Rattle.spk_packets.specs.Message.{ConnAck}
use Rattle.spk_broker_rules.specs.Data as plain
use Rattle.spk_broker_rules.specs.Plan.{Forget, Take}
use Rattle.spk_broker_rules.specs.Step.{Turn, act, away_for, begun, forget_at, is_away, other_newcomers, session_by, take_at, take_up, with_sessions}
use Rattle.spk_broker_rules.specs.Words.{resent}
use Rattle.spk_broker_rules.proofs.Places.{lawful-act}
use Rattle.spk_broker.specs.Asking.{passes, session_here, sessions_now}
use Rattle.spk_broker.specs.Both.{Both}
use Rattle.spk_broker.specs.Changes.{changed_at, forgot}
use Rattle.spk_broker.specs.Drafts.{Drafted, draft_view}
use Rattle.spk_broker.specs.Entering.{taken, taken_up, with_sends}
use Rattle.spk_broker.specs.Granting.{without_grants}
use Rattle.spk_broker.specs.Parts.{retained_view}
use Rattle.spk_broker.specs.Sendable.{are_sendable}
use Rattle.spk_broker.specs.Sent.{outgoing}
use Rattle.spk_broker.specs.View.{Stands, state_now, with_keeps}
use Rattle.spk_broker.specs.declared.state.State.{State}
use Rattle.spk_broker.specs.declared.out.Draft.{Draft}
use Rattle.spk_broker.specs.declared.session.Session.{Session}
use Rattle.spk_broker.proofs.Alive.{lost-alive}
use Rattle.spk_broker.proofs.Sending.{more-sends}

-- with other sessions
pub broker-with : (d : State) (keeps : List plain.AppMessage) (b : plain.Broker) (sessions : Vec Session Global) (ss : List plain.Session)
    → with_keeps keeps (state_now d) ≡ b → sessions_now sessions.items ≡ ss → with_keeps keeps (state_now (record d { sessions = sessions })) ≡ record b { sessions = ss }
broker-with d keeps b sessions ss e f =
    ap (λ xs. record (with_keeps keeps (state_now d)) { sessions = xs }) f ∙ ap (λ (c : plain.Broker). record c { sessions = ss }) e

forget-is : (client : List ℕ) (t : Turn) → with_sessions (forgot (find (is_away client) t.broker.sessions) t.broker.sessions) t ≡ act (Forget client) t
forget-is client t = by (find (is_away client) t.broker.sessions)
  where
    by : (o : Option plain.Session) → with_sessions (forgot o t.broker.sessions) t ≡ forget_at o t
    by None = refl
    by (Some s) = refl

pub forgets : (d : State) (draft : Draft) (t : Turn) (client : List ℕ) (sessions : Vec Session Global) (good : are_sendable (map retained_view d.retained.entries) ≡ true) → Stands d draft t
    → sessions_now sessions.items ≡ forgot (find (is_away client) (sessions_now d.sessions.items)) (sessions_now d.sessions.items)
    → Stands (record d { sessions = sessions; sendable = good }) draft (act (Forget client) t)
forgets d draft t client sessions good s e =
    let same : sessions_now d.sessions.items ≡ t.broker.sessions = ap (λ (b : plain.Broker). b.sessions) s.broker in
    let now : sessions_now sessions.items ≡ forgot (find (is_away client) t.broker.sessions) t.broker.sessions =
    e ∙ ap (λ ss. forgot (find (is_away client) ss) ss) same in
    let is = forget-is client t in
    record {
      broker = broker-with d (draft_view draft).keeps t.broker sessions _ s.broker now ∙ ap (λ (u : Turn). u.broker) is;
      sends = s.sends ∙ ap (λ (u : Turn). map outgoing u.sends) is;
      closes = s.closes ∙ ap (λ (u : Turn). u.closes) is;
      waiting = s.waiting ∙ ap (λ (u : Turn). u.waiting) is;
      room = s.room;
      lawful = lawful-act (Forget client) t s.lawful;
    }

-- ---- what is prepared

pub come-entry : (client : List ℕ) (connection : plain.Connection) (b : plain.Broker) (o : Option plain.Session) (s : plain.Session) → o ≡ Some s
    → record b { newcomers = other_newcomers connection.conn b.newcomers; sessions = changed_at o (taken_up connection) b.sessions } ≡ (take_up o client true connection (begun b)).broker
come-entry client connection b None s e = cc
come-entry client connection b (Some x) s e = refl

pub come-sends : (client : List ℕ) (connection : plain.Connection) (b : plain.Broker) (o : Option plain.Session) (s : plain.Session) (d e f : Drafted) → o ≡ Some s
    → e ≡ with_sends ((record { conn = connection.conn; packet = ConnAck true 0 }) ∷ []) d → IfSome o (λ x. f ≡ with_sends (resent connection.conn x.in_flight) e)
    → f ≡ with_sends (take_up o client true connection (begun b)).sends d
come-sends client connection b None s d e f is first rest = cc
come-sends client connection b (Some x) s d e f is first rest =
    rest ∙ ap (with_sends (resent connection.conn x.in_flight)) first ∙ more-sends ((record { conn = connection.conn; packet = ConnAck true 0 }) ∷ []) (resent connection.conn x.in_flight) d

pub taken-none : (kept : Bool) (client : List ℕ) (connection : plain.Connection) (b : plain.Broker) → kept ≡ true → away_for kept client b.sessions ≡ None
    → take_up None client true connection (begun b) ≡ taken client kept connection b
taken-none true client connection b e f = ap (λ o. take_up o client true connection (begun b)) (sym f)
taken-none false client connection b e f = cc

pub nobody-away : (kept : Bool) (client : List ℕ) (bs : List Both) → position (passes (is_away client)) bs ≡ None → away_for kept client (sessions_now bs) ≡ None
nobody-away true client bs e = lost-alive session_here (is_away client) bs e
nobody-away false client bs e = refl

-- ---- grants taken back

take-is : (conn : ℕ) (names : List (List ℕ)) (t : Turn)
    → with_sessions (changed_at (session_by conn t.broker.sessions) (without_grants names) t.broker.sessions) t ≡ act (Take conn names) t
take-is conn names t = by (session_by conn t.broker.sessions)
  where
    by : (o : Option plain.Session) → with_sessions (changed_at o (without_grants names) t.broker.sessions) t ≡ take_at o names t
    by None = refl
    by (Some s) = refl

pub takes : (d : State) (draft : Draft) (t : Turn) (conn : ℕ) (names : List (List ℕ)) (sessions : Vec Session Global) (good : are_sendable (map retained_view d.retained.entries) ≡ true) → Stands d draft t
    → sessions_now sessions.items ≡ changed_at (session_by conn (sessions_now d.sessions.items)) (without_grants names) (sessions_now d.sessions.items)
    → Stands (record d { sessions = sessions; sendable = good }) draft (act (Take conn names) t)
takes d draft t conn names sessions good s e =
    let same : sessions_now d.sessions.items ≡ t.broker.sessions = ap (λ (b : plain.Broker). b.sessions) s.broker in
    let now : sessions_now sessions.items ≡ changed_at (session_by conn t.broker.sessions) (without_grants names) t.broker.sessions =
    e ∙ ap (λ ss. changed_at (session_by conn ss) (without_grants names) ss) same in
    let is = take-is conn names t in
    record {
      broker = broker-with d (draft_view draft).keeps t.broker sessions _ s.broker now ∙ ap (λ (u : Turn). u.broker) is;
      sends = s.sends ∙ ap (λ (u : Turn). map outgoing u.sends) is;
      closes = s.closes ∙ ap (λ (u : Turn). u.closes) is;
      waiting = s.waiting ∙ ap (λ (u : Turn). u.waiting) is;
      room = s.room;
      lawful = lawful-act (Take conn names) t s.lawful;
    }
