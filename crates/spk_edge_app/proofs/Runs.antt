-- Runs of deeds, put together.
use Rattle.std.proofs.Common.{◌≡◌, ◌≢◌, ◌∙◌, inl, inr, ℕ, Bool, true, false, List, [], ◌∷◌, ◌++◌, Option, None, Result, Ok, Err, OnOk, OnErr, IfErr, refl, sym, ap, subst}
use Rattle.std.specs.List.{AllByRecursion}
use Rattle.spk_connection.specs.Data.{Connection}
use Rattle.spk_connection.specs.Step.{IsTaken, is_open}
use Rattle.spk_edge.specs.Patch.{IsDone, IsRefusal, plain_input}
use Rattle.spk_edge.specs.View.{NodeData}
use Rattle.spk_edge.specs.declared.message.Out.{Out}
use Rattle.spk_edge_rules.specs.Arriving.{input_of}
use Rattle.spk_edge_rules.specs.Config.{Config}
use Rattle.spk_edge_rules.specs.Inputs as inputs
use Rattle.spk_edge_rules.specs.Inputs.{Input}
use Rattle.spk_edge_rules.specs.declared.fault.EdgeFault.{EdgeFault}
use Rattle.spk_edge_rules.specs.declared.fault.EdgeFault.TheVariants as edge
use Rattle.spk_packets.specs.Message.{Message, Connect, ConnAck, Publish, PubAck, Subscribe, SubAck, Unsubscribe, UnsubAck, PingReq, PingResp, Disconnect}
use Rattle.spk_packets.specs.declared.fault.PacketFault.TheVariants as packet
use Rattle.spk_edge_app.specs.Calls.{HearsAll, HearsSome, IsBadLogin, IsHearing, IsKept, IsOpened, IsTold, IsUnopened, IsUntold}
use Rattle.spk_edge_app.specs.Data.{Answered, App, Coming, Deed, Dropped, Heard, LoginData, Refused}
use Rattle.spk_edge_app.specs.Fault.{edge_fault}
use Rattle.spk_edge_app.specs.Step.{Comes, IsConnecting, IsConnectingIf, IsRun, IsStep, MayAcknowledge, MaySend, Tells, acknowledged, bytes_in, connected, ending, given_up, is_own, noted, sending, sent_where, told, with_connection}
use Rattle.spk_edge_app.specs.declared.fault.EdgeAppFault.{EdgeAppFault}
use Rattle.spk_edge_app.specs.declared.fault.EdgeAppFault.TheVariants as fault

pub joined : (ds es : List Deed) (a m b : App) → IsRun a ds m → IsRun m es b → IsRun a (es ++ ds) b
joined ds [] a m b first e = subst (IsRun a ds) (sym e) first
joined ds (d ∷ es) a m b first (n, rest, step) = (n, joined ds es a m n first rest, step)

both : (now : ℕ) (ds es : List Deed) → AllByRecursion (IsHearing now) ds → AllByRecursion (IsHearing now) es → AllByRecursion (IsHearing now) (es ++ ds)
both now ds [] all more = all
both now ds (e ∷ es) all more = (more.0, both now ds es all more.1)

pub heard_on : (now : ℕ) (a m b : App) → HearsAll now a m → HearsAll now m b → HearsAll now a b
heard_on now a m b x y = record {
  deeds = y.deeds ++ x.deeds;
  hearings = both now x.deeds y.deeds x.hearings y.hearings;
  run = joined x.deeds y.deeds a m b x.run y.run;
}

pub none_heard : (now : ℕ) (a b : App) → b ≡ a → HearsAll now a b
none_heard now a b e = record { deeds = []; hearings = tt; run = e }

pub one_heard : (now : ℕ) (d : Deed) (a b : App) → IsHearing now d → IsStep a d b → HearsAll now a b
one_heard now d a b is step = record { deeds = d ∷ []; hearings = (is, tt); run = (a, refl, step) }

-- ---- what the node was told

pub tells : (v a : App) (n : NodeData) (i : Input) (out : Out) (b : App) → v ≡ a → IsDone v.node i n out
    → ((sent : Bool) × MaySend sent out (bytes_in out) v.connection × (b ≡ sending sent (bytes_in out) out.close i.now (told n out v)))
    → (sent : Bool) × MaySend sent out (bytes_in out) a.connection × Tells a i out (bytes_in out) sent b
tells v a n i out b e done (sent, may, is) =
    subst (λ x. (sent : Bool) × MaySend sent out (bytes_in out) x.connection × Tells x i out (bytes_in out) sent b) e
    (sent, may, record { node = n; done = done; is = is })

pub is_told : (v a : App) (n : NodeData) (i : Input) (out : Out) (b : App) → is_own i.act ≡ true → v ≡ a → IsDone v.node i n out
    → ((sent : Bool) × MaySend sent out (bytes_in out) v.connection × (b ≡ sending sent (bytes_in out) out.close i.now (told n out v)))
    → IsTold a i b
is_told v a n i out b own e done answered =
    let (sent, may, t) = tells v a n i out b e done answered in
    record { out = out; sent = sent; step = (own, may, t) }

pub comes_answered : (v a : App) (n : NodeData) (i : Input) (out : Out) (b : App) → v ≡ a → IsDone v.node i n out
    → ((sent : Bool) × MaySend sent out (bytes_in out) v.connection × (b ≡ sending sent (bytes_in out) out.close i.now (told n out v)))
    → (came : Coming) × IsKept came × Comes i came a b
comes_answered v a n i out b e done answered =
    let (sent, may, t) = tells v a n i out b e done answered in
    (Answered out sent, tt, (may, t))

moments : (c : Config) (now : ℕ) (p : Message) → (input_of c now p).now ≡ now
moments c now (ConnAck present code) = refl
moments c now (Publish dup qos retain topic id payload) = refl
moments c now (Connect client clean keep will) = refl
moments c now (PubAck id) = refl
moments c now (Subscribe id filters) = refl
moments c now (SubAck id codes) = refl
moments c now (Unsubscribe id filters) = refl
moments c now (UnsubAck id) = refl
moments c now PingReq = refl
moments c now PingResp = refl
moments c now Disconnect = refl

pub comes_heard : (v a : App) (n : NodeData) (now : ℕ) (p : Message) (out : Out) (b : App) → v ≡ a → IsDone v.node (input_of v.node.config now p) n out
    → ((sent : Bool) × MaySend sent out (bytes_in out) v.connection × (b ≡ sending sent (bytes_in out) out.close now (told n out v)))
    → (came : Coming) × IsKept came × Comes (input_of a.node.config now p) came a b
comes_heard v a n now p out b e done answered =
    let at : (sent : Bool) × MaySend sent out (bytes_in out) v.connection
    × (b ≡ sending sent (bytes_in out) out.close (input_of v.node.config now p).now (told n out v)) =
    subst (λ t. (sent : Bool) × MaySend sent out (bytes_in out) v.connection × (b ≡ sending sent (bytes_in out) out.close t (told n out v)))
    (sym (moments v.node.config now p)) answered in
    subst (λ x. (came : Coming) × IsKept came × Comes (input_of x.node.config now p) came x b) e
    (comes_answered v v n (input_of v.node.config now p) out b refl done at)

pub comes_refused : (v a : App) (n : NodeData) (now : ℕ) (p : Message) (fault : EdgeFault) (ack : Option ℕ) (b : App) → v ≡ a → n ≡ v.node
    → IsRefusal v.node (input_of v.node.config now p) fault → ack ≡ (input_of n.config now p).ack
    → (fault ≢ edge.NoMemory) × MayAcknowledge ack v.connection × (b ≡ acknowledged ack (record v { node = n }))
    → (came : Coming) × IsKept came × Comes (input_of a.node.config now p) came a b
comes_refused v a n now p fault ack b e same (inl short) is (other, may, after) = absurd (other short)
comes_refused v a n now p fault ack b e same (inr wrong) is (other, may, after) =
    let still : record v { node = n } ≡ v = ap (λ m. record v { node = m }) same in
    let ack_is : ack ≡ (input_of v.node.config now p).ack = is ∙ ap (λ (m : NodeData). (input_of m.config now p).ack) same in
    let acked : b ≡ acknowledged (input_of v.node.config now p).ack v = after ∙ ap (acknowledged ack) still ∙ ap (λ k. acknowledged k v) ack_is in
    subst (λ x. (came : Coming) × IsKept came × Comes (input_of x.node.config now p) came x b) e
    (Refused fault, tt, (wrong, subst (λ k. MayAcknowledge k v.connection) ack_is may, acked))

hears_now : (v : App) (c : Connection) (p : Message) (now : ℕ) (came : Coming) (b : App) → v.closing ≡ None → IsTaken v.connection p c → IsKept came
    → Comes (input_of v.node.config now p) came (with_connection c v) b → HearsAll now v b
hears_now v c p now (Answered out sent) b going taken kept comes =
    one_heard now (Heard p now (Answered out sent)) v b (refl, tt) (c, taken, record { running = going; came_of = comes })
hears_now v c p now (Refused fault) b going taken kept comes =
    one_heard now (Heard p now (Refused fault)) v b (refl, tt) (c, taken, record { running = going; came_of = comes })
hears_now v c p now Dropped b going taken kept comes = absurd kept

pub hears_one : (v a : App) (c : Connection) (p : Message) (now : ℕ) (b : App) → v ≡ a → a.closing ≡ None → IsTaken v.connection p c
    → ((came : Coming) × IsKept came × Comes (input_of v.node.config now p) came (with_connection c v) b) → HearsAll now a b
hears_one v a c p now b e running taken (came, kept, comes) =
    subst (λ x. x.closing ≡ None → HearsAll now x b) e
    (λ going. hears_now v c p now came b going taken kept comes) running

-- ---- answers, one by one

pub on_ok : {X E : Type 0} (r : Result X E) (P Q : Type 0) → (P → Q) → OnOk r P → OnOk r Q
on_ok (Ok x) P Q f p = f p
on_ok (Err e) P Q f p = tt

-- ---- CONNECT

pub connects : (l : Option LoginData) (connect bytes : List ℕ) (sent close : Bool) (now : ℕ) (x b : App) → IsConnecting l connect bytes
    → b ≡ sending sent bytes close now x → (bs : List ℕ) × (s : Bool) × IsConnectingIf s l connect bs × (b ≡ sending s bs close now x)
connects l connect bytes true close now x b says is = (bytes, true, says, is)
connects l connect bytes false close now x b says is = (connect, false, refl, is)

pub connects_by : (a x y b : App) (out : Out) (items bytes : List ℕ) (sent : Bool) (now : ℕ) → x ≡ noted out.writes.items a
    → IsConnecting x.login (bytes_in out) items → bytes ≡ items → y ≡ sent_where sent bytes x → b ≡ ending sent out.close now y
    → (bs : List ℕ) × (s : Bool) × IsConnectingIf s a.login (bytes_in out) bs × (b ≡ sending s bs out.close now (told a.node out a))
connects_by a x y b out items bytes sent now xe says be ye e =
    let says_it : IsConnecting a.login (bytes_in out) items = subst (λ (k : App). IsConnecting k.login (bytes_in out) items) xe says in
    let is : b ≡ sending sent items out.close now (told a.node out a) =
    e ∙ ap (ending sent out.close now) (ye ∙ ap (λ l. sent_where sent l x) be ∙ ap (sent_where sent items) xe) in
    connects a.login (bytes_in out) items sent out.close now (told a.node out a) b says_it is

pub opened_node : (v a : App) (n : NodeData) (i : Input) (out : Out) (b : App) → v ≡ a → IsDone v.node i n out → b ≡ record v { node = n }
    → (m : NodeData) × IsDone a.node i m out × (b ≡ record a { node = m })
opened_node v a n i out b e done is = subst (λ (x : App). (m : NodeData) × IsDone x.node i m out × (b ≡ record x { node = m })) e (n, done, is)

pub opens : (a : App) (n : NodeData) (now : ℕ) (out : Out) (y z b : App) → is_open a.connection ≡ false → a.stopped ≡ false
    → IsDone a.node (plain_input now inputs.Open) n out → y ≡ record a { node = n } → z ≡ connected now y
    → ((bytes : List ℕ) × (sent : Bool) × IsConnectingIf sent z.login (bytes_in out) bytes × (b ≡ sending sent bytes out.close now (told z.node out z)))
    → IsOpened a now b
opens a n now out y z b off going done ye ze (bytes, sent, says, is) =
    let at : z ≡ connected now (record a { node = n }) = ze ∙ ap (connected now) ye in
    let says_it : IsConnectingIf sent a.login (bytes_in out) bytes = subst (λ (k : App). IsConnectingIf sent k.login (bytes_in out) bytes) at says in
    let is_it : b ≡ sending sent bytes out.close now (told n out (connected now a)) = is ∙ ap (λ (k : App). sending sent bytes out.close now (told k.node out k)) at in
    record { out = out; bytes = bytes; sent = sent; step = (off, going, says_it, record { node = n; done = done; is = is_it }) }

unlogged : (a : App) (n : NodeData) (now : ℕ) (out : Out) (y z b : App) (e : EdgeAppFault) → is_open a.connection ≡ false → a.stopped ≡ false
    → IsDone a.node (plain_input now inputs.Open) n out → y ≡ record a { node = n } → z ≡ connected now y
    → IsBadLogin z.login (bytes_in out) e → b ≡ sending false (bytes_in out) out.close now (told z.node out z) → IsUnopened a now b e
unlogged a n now out y z b e off going done ye ze bad is =
    let at : z ≡ connected now (record a { node = n }) = ze ∙ ap (connected now) ye in
    let bad_it : IsBadLogin a.login (bytes_in out) (fault.Login bad.reason) = subst (λ (k : App). IsBadLogin k.login (bytes_in out) (fault.Login bad.reason)) at (subst (IsBadLogin z.login (bytes_in out)) bad.is bad) in
    let is_it : b ≡ sending false (bytes_in out) out.close now (told n out (connected now a)) = is ∙ ap (λ (k : App). sending false (bytes_in out) out.close now (told k.node out k)) at in
    subst (IsUnopened a now b) (sym bad.is)
    (record { out = out; step = (off, going, refl, record { node = n; done = done; is = is_it }); bad = bad_it })

pub unlogged_on : {X : Type 0} (r : Result X EdgeAppFault) (a : App) (n : NodeData) (now : ℕ) (out : Out) (y z b : App) → is_open a.connection ≡ false
    → a.stopped ≡ false → IsDone a.node (plain_input now inputs.Open) n out → y ≡ record a { node = n } → z ≡ connected now y
    → IfErr r (IsBadLogin z.login (bytes_in out)) → OnErr r (b ≡ sending false (bytes_in out) out.close now (told z.node out z)) → IfErr r (IsUnopened a now b)
unlogged_on (Ok x) a n now out y z b off going done ye ze bad is = tt
unlogged_on (Err e) a n now out y z b off going done ye ze bad is = unlogged a n now out y z b e off going done ye ze bad is

refused_as : (a b : App) (now : ℕ) (f : EdgeFault) → IsRefusal a.node (plain_input now inputs.Open) f → b ≡ a → IsUnopened a now b (edge_fault f)
refused_as a b now edge.NoMemory r is = is
refused_as a b now edge.WrongPhase (inr r) is = (r, is)
refused_as a b now edge.ClockEnd (inr r) is = (r, is)
refused_as a b now edge.BadCommand (inr r) is = (r, is)
refused_as a b now edge.BadConfig (inr r) is = (r, is)
refused_as a b now edge.TooLarge (inr r) is = (r, is)
refused_as a b now (edge.Device x) (inr r) is = (r, is)
refused_as a b now (edge.State x) (inr r) is = (r, is)
refused_as a b now edge.TwoOwners (inr r) is = (r, is)
refused_as a b now edge.WrongPhase (inl e) is = absurd (cc)
refused_as a b now edge.ClockEnd (inl e) is = absurd (cc)
refused_as a b now edge.BadCommand (inl e) is = absurd (cc)
refused_as a b now edge.BadConfig (inl e) is = absurd (cc)
refused_as a b now edge.TooLarge (inl e) is = absurd (cc)
refused_as a b now (edge.Device x) (inl e) is = absurd (cc)
refused_as a b now (edge.State x) (inl e) is = absurd (cc)
refused_as a b now edge.TwoOwners (inl e) is = absurd (cc)

pub unopened : (a b : App) (now : ℕ) (e : EdgeAppFault) → IsUntold a (plain_input now inputs.Open) e → b ≡ a → IsUnopened a now b e
unopened a b now e u is = subst (IsUnopened a now b) (sym u.is) (refused_as a b now u.fault u.refused is)

-- ---- no memory

no_more : packet.NoMemory ≢ packet.More
no_more e = cc

pub hears_no_more : (now : ℕ) (a m b : App) → HearsAll now a m → b ≡ given_up now m → HearsSome a now b fault.NoMemory
hears_no_more now a m b heard is =
    record { between = m; heard = heard; ends = inl (record { fault = packet.NoMemory; named = tt; other = no_more; is = refl; step = is }) }

-- ---- refusals

pub untold : (v a : App) (i : Input) (f : EdgeFault) (e : EdgeAppFault) → v ≡ a → IsRefusal v.node i f → e ≡ edge_fault f → IsUntold a i e
untold v a i f e same refused is = subst (λ x. IsUntold x i e) same (record { fault = f; refused = refused; is = is })
