-- What the deeds of a run are to the connection.
use Rattle.std.proofs.Common.{◌≡◌, ◌⊎◌, ◌∙◌, inl, inr, ℕ, Bool, true, false, true≢false, List, [], ◌∷◌, ◌++◌, Option, Some, None, refl, sym, ap, subst, append_assoc}
use Rattle.std.proofs.lemmas.List.{append-nil}
use Rattle.spk_connection.specs.Data.{Connection}
use Rattle.spk_connection.specs.Run as event
use Rattle.spk_connection.specs.Run.{Event}
use Rattle.spk_connection.specs.Step.{after_sent, is_open, stands_open}
use Rattle.spk_edge.specs.View.{NodeData}
use Rattle.spk_edge.specs.declared.message.Out.{Out}
use Rattle.spk_edge_rules.specs.Arriving.{input_of}
use Rattle.spk_edge_rules.specs.Config.{Config}
use Rattle.spk_edge_rules.specs.Inputs.{Input}
use Rattle.spk_link.specs.Step.{opened}
use Rattle.spk_link.specs.declared.stand.Stand.{Stand}
use Rattle.spk_link.specs.declared.stand.Stand.TheVariants.{Off, On}
use Rattle.spk_packets.specs.Message.{Message, Connect, ConnAck, Publish, PubAck, Subscribe, SubAck, Unsubscribe, UnsubAck, PingReq, PingResp, Disconnect}
use Rattle.spk_record.specs.declared.record.Record.{Record}
use Rattle.spk_edge_app.specs.Data.{App, Coming, Answered, Refused, Dropped, Deed, Opened, Read, Heard, Told, Asked, Wrote, Saved, GaveUp, Stopped, Handed, Over, LoginData}
use Rattle.spk_edge_app.specs.Run.{ack_in, acknowledged_as, of_connection, on_connection, sent_as, sent_for}
use Rattle.spk_edge_app.specs.Step.{Comes, IsRun, IsStep, MayAcknowledge, MaySend, Tells, acknowledged, bytes_in, connected, ending, fresh_app, sent_where, told, with_connection}

-- ends leave the connection as it is
ended_on : (sent close : Bool) (now : ℕ) (a : App) → (ending sent close now a).connection ≡ a.connection
ended_on true true now a = refl
ended_on true false now a = refl
ended_on false close now a = refl

told_on : (sent : Bool) (bytes : List ℕ) (n : NodeData) (out : Out) (a : App) → (sent_where sent bytes (told n out a)).connection ≡ (sent_where sent bytes a).connection
told_on true bytes n out a = refl
told_on false bytes n out a = refl

may_of : (sent : Bool) (out : Out) (bytes : List ℕ) (c : Connection) → MaySend sent out bytes c → sent ≡ true → (bytes ≡ []) ⊎ (is_open c ≡ true)
may_of true out bytes c may e = may
may_of false out bytes c may e = absurd (true≢false (sym e))

some : (x : ℕ) (xs : List ℕ) → x ∷ xs ≡ [] → ⊥
some x xs e = cc

is_there : (x : ℕ) (xs : List ℕ) (c : Connection) → (x ∷ xs ≡ []) ⊎ (is_open c ≡ true) → is_open c ≡ true
is_there x xs c (inl e) = absurd (some x xs e)
is_there x xs c (inr e) = e

sent_on : (keep spread : ℕ) (sent : Bool) (bytes : List ℕ) (es : List Event) (a b : App)
    → (sent ≡ true → (bytes ≡ []) ⊎ (is_open a.connection ≡ true)) → event.IsRun keep spread es a.connection
    → b.connection ≡ (sent_where sent bytes a).connection → event.IsRun keep spread (sent_as sent bytes ++ es) b.connection
sent_on keep spread true [] es a b may run e =
    let none : after_sent a.connection [] ≡ a.connection = ap (λ l. record a.connection { unwritten = l }) (append-nil a.connection.unwritten) in
    subst (event.IsRun keep spread es) (sym (e ∙ none)) run
sent_on keep spread true (x ∷ xs) es a b may run e = (a.connection, run, (is_there x xs a.connection (may refl), e))
sent_on keep spread false bytes es a b may run e = subst (event.IsRun keep spread es) (sym e) run

tells_on : (keep spread : ℕ) (a : App) (i : Input) (out : Out) (bytes : List ℕ) (sent : Bool) (b : App) (es : List Event)
    → (sent ≡ true → (bytes ≡ []) ⊎ (is_open a.connection ≡ true)) → Tells a i out bytes sent b → event.IsRun keep spread es a.connection
    → event.IsRun keep spread (sent_as sent bytes ++ es) b.connection
tells_on keep spread a i out bytes sent b es may t run =
    sent_on keep spread sent bytes es a b may run
    (ap (λ x. x.connection) t.is ∙ ended_on sent out.close i.now (sent_where sent bytes (told t.node out a)) ∙ told_on sent bytes t.node out a)

ack_on : (keep spread : ℕ) (ack : Option ℕ) (a b : App) (es : List Event) → MayAcknowledge ack a.connection → b ≡ acknowledged ack a
    → event.IsRun keep spread es a.connection → event.IsRun keep spread (acknowledged_as ack ++ es) b.connection
ack_on keep spread None a b es may e run = subst (event.IsRun keep spread es) (sym (ap (λ x. x.connection) e)) run
ack_on keep spread (Some id) a b es may e run = (a.connection, run, (may, ap (λ x. x.connection) e))

acks : (c : Config) (now : ℕ) (packet : Message) → (input_of c now packet).ack ≡ ack_in packet
acks c now (ConnAck present code) = refl
acks c now (Publish dup qos retain topic id payload) = refl
acks c now (Connect client clean keep will) = refl
acks c now (PubAck id) = refl
acks c now (Subscribe id filters) = refl
acks c now (SubAck id codes) = refl
acks c now (Unsubscribe id filters) = refl
acks c now (UnsubAck id) = refl
acks c now PingReq = refl
acks c now PingResp = refl
acks c now Disconnect = refl

come_on : (keep spread : ℕ) (packet : Message) (i : Input) (came : Coming) (a b : App) (es : List Event) → i.ack ≡ ack_in packet
    → Comes i came a b → event.IsRun keep spread es a.connection → event.IsRun keep spread (sent_for packet came ++ es) b.connection
come_on keep spread packet i (Answered out sent) a b es e (may, t) run =
    tells_on keep spread a i out (bytes_in out) sent b es (may_of sent out (bytes_in out) a.connection may) t run
come_on keep spread packet i (Refused fault) a b es e (wrong, may, is) run =
    ack_on keep spread (ack_in packet) a b es (subst (λ x. MayAcknowledge x a.connection) e may) (subst (λ x. b ≡ acknowledged x a) e is) run
come_on keep spread packet i Dropped a b es e is run = subst (event.IsRun keep spread es) (sym (ap (λ x. x.connection) is)) run

always_begun : (now : ℕ) (s : Stand) → stands_open (opened now s) ≡ true
always_begun now (Off at) = refl
always_begun now (On m) = refl

pub step_on : (keep spread : ℕ) (d : Deed) (a b : App) (es : List Event) → IsStep a d b → event.IsRun keep spread es a.connection
    → event.IsRun keep spread (on_connection d ++ es) b.connection
step_on keep spread (Opened now out bytes sent) a b es (off, going, says, t) run =
    subst (λ l. event.IsRun keep spread l b.connection) (sym (append_assoc (sent_as sent bytes) (event.Opened now ∷ []) es))
    (tells_on keep spread (connected now a) _ out bytes sent b (event.Opened now ∷ es) (λ e. inr (always_begun now a.connection.link.stand)) t (a.connection, run, refl))
step_on keep spread (Read piece now) a b es (there, going, e) run = (a.connection, run, (there, ap (λ x. x.connection) e))
step_on keep spread (Heard packet now came) a b es (c, taken, h) run =
    subst (λ l. event.IsRun keep spread l b.connection) (sym (append_assoc (sent_for packet came) (event.Took packet ∷ []) es))
    (come_on keep spread packet _ came (with_connection c a) b (event.Took packet ∷ es) (acks a.node.config now packet) h.came_of (a.connection, run, taken))
step_on keep spread (Told i out sent) a b es (own, may, t) run =
    tells_on keep spread a i out (bytes_in out) sent b es (may_of sent out (bytes_in out) a.connection may) t run
step_on keep spread (Asked now) a b es (there, e) run = (a.connection, run, (there, ap (λ x. x.connection) e))
step_on keep spread (Wrote first others now) a b es (none, (c, step, e)) run =
    (a.connection, run, subst (event.IsStep a.connection (event.Wrote first others now)) (sym (ap (λ x. x.connection) e)) step)
step_on keep spread (Saved saved) a b es (was, e) run = subst (event.IsRun keep spread es) (sym (ap (λ x. x.connection) e)) run
step_on keep spread (GaveUp now) a b es e run = subst (event.IsRun keep spread es) (sym (ap (λ x. x.connection) e)) run
step_on keep spread Stopped a b es e run = subst (event.IsRun keep spread es) (sym (ap (λ x. x.connection) e)) run
step_on keep spread Handed a b es e run = subst (event.IsRun keep spread es) (sym (ap (λ x. x.connection) e)) run
step_on keep spread (Over now) a b es e run = (a.connection, run, ap (λ x. x.connection) e)

pub connection_of : (n : NodeData) (login : Option LoginData) (kept : Record) (spread : ℕ) (ds : List Deed) (b : App)
    → IsRun (fresh_app n login kept spread) ds b → event.IsRun n.config.keep spread (of_connection ds) b.connection
connection_of n login kept spread [] b e = ap (λ x. x.connection) e
connection_of n login kept spread (d ∷ ds) b (a, run, step) =
    step_on n.config.keep spread d a b (of_connection ds) step (connection_of n login kept spread ds a run)
