-- What a run of deeds leaves of what a client sent, of what waits for it, and of what is to be offered.
use Rattle.std.proofs.Common.{◌≡◌, ℕ, ◌==◌, if◌then◌else◌, Bool, true, false, List, [], ◌∷◌, ◌++◌, Option, Some, None, refl, sym, ◌∙◌, ap, subst, append_assoc}
use Rattle.std.proofs.lemmas.List.{append-nil}
use Rattle.std.proofs.lemmas.Bool.{eqb-true, eq-eqb}
use Rattle.std.specs.List.{flat_map}
use Rattle.std.specs.Option.{option_map, option_map_or}
use Rattle.spk_packets.specs.Message.{Message}
use Rattle.spk_packets.specs.Stream.{Fed, Gave, IsRun as IsStream, TakesPacket}
use Rattle.spk_packets.specs.Stream as stream
use Rattle.spk_broker_rules.specs.Plan as event
use Rattle.spk_outbox.specs.Data.{Outbox, fresh_outbox}
use Rattle.spk_outbox.specs.Calls as outbox
use Rattle.spk_clients.specs.declared.cause.Cause.{Cause}
use Rattle.spk_clients.specs.declared.cause.Cause.TheVariants as cause
use Rattle.spk_clients.specs.declared.client.Client.{Client}
use Rattle.spk_clients.specs.declared.client.Offered.{Offered}
use Rattle.spk_clients.specs.declared.client.Offered.TheVariants.{Taken, Refused, Passed}
use Rattle.spk_clients.specs.Client.{after_hearing, awaited, cut_off, fresh_client, given_up, is_over, leaves, over_until, takes_in, told, untouched, waiting_for, written_to}
use Rattle.spk_outbox.specs.Step.{written}
use Rattle.spk_server.specs.Data.{Deed, InHand, Offer, Room, Slow, Timed, Joined, Skipped, Took, Came, Broke, Left, Ticked, Handed, Shut, Told, Cut, Tried, Waited, Freed, Dropped, Wrote, Blocked, Named, Forgot, Kept, Begun}
use Rattle.spk_server.specs.Data as deed
use Rattle.spk_server.specs.Step.{after, behind, cause_why, change, changed, freed_from, grace, is_slow, later, offered, placed, publisher, quiet, set_free, slow_of, tried, tried_at}
use Rattle.spk_server.specs.Log.{HasClient, IsRun, May, is_open}
use Rattle.spk_server.specs.Past.{event_at, handed_in, handed_of, in_outbox, in_stream, joins, of_hand, sends_at, sends_from, since}
use Rattle.spk_server.proofs.Lives.{Steady, called_keeps, came_keeps, either, here, kept, lives, others, pick, sends_called, steady_feed, steady_outbox}

-- ---- what no deed but a few changes

leaves_keeps : {X : Type 0} (g : Client → X) → Steady g → (until : ℕ) (why : Cause) (c : Client) → g (leaves until why c) ≡ g c
leaves_keeps g s until why c = s.settled (over_until until why c) ∙ s.over until why c

tried_keeps : {X : Type 0} (g : Client → X) → Steady g → (o : Option Slow) (r : Room) (k : ℕ) → option_map g ((tried o r).clients k) ≡ option_map g (r.clients k)
tried_keeps g s None r k = refl
tried_keeps g s (Some w) r k = go (is_slow w r) ∙ kept g (awaited (w.client == w.publisher) r.now) (s.awaited (w.client == w.publisher) r.now) w.client k r.clients
  where
    go : (b : Bool) → option_map g ((tried_at b w (changed (awaited (w.client == w.publisher) r.now) w.client r)).clients k) ≡ option_map g (change (awaited (w.client == w.publisher) r.now) w.client r.clients k)
    go true = kept g (waiting_for (Some w.client)) (s.waits (Some w.client)) w.publisher k (change (awaited (w.client == w.publisher) r.now) w.client r.clients)
    go false = refl

freed_keeps : {X : Type 0} (g : Client → X) → Steady g → (o : Option ℕ) (conn : ℕ) (r : Room) (k : ℕ) → option_map g ((freed_from o conn r).clients k) ≡ option_map g (r.clients k)
freed_keeps g s None conn r k = refl
freed_keeps g s (Some slow) conn r k = kept g (set_free r.now (slow == conn)) (s.freed r.now (slow == conn)) slow k r.clients

left_keeps : {X : Type 0} (g : Client → X) → Steady g → (conn : ℕ) (why : deed.Why) (r : Room) (k : ℕ) → option_map g ((after (Left conn why) r).clients k) ≡ option_map g (r.clients k)
left_keeps g s conn why r k =
    ap (λ cs. option_map g (cs k)) (called_keeps None conn (event.Closed conn r.now) (record (changed (leaves (later grace r.now) (cause_why why)) conn r) { in_hand = None }))
    ∙ kept g (leaves (later grace r.now) (cause_why why)) (leaves_keeps g s (later grace r.now) (cause_why why)) conn k r.clients

-- ---- the stream of what a client sends

offered_feed : (o : Offer) (fate : Offered) (c : Client) → (offered o.send fate c).feed ≡ c.feed
offered_feed o Taken c = refl
offered_feed o Refused c = steady_feed.refused o.send.sort c
offered_feed o Passed c = refl

gone_none : (x : List ℕ) (conn k : ℕ) (cs : ℕ → Option Client) → option_map (λ (c : Client). c.feed) (placed None conn cs k) ≡ Some x → option_map (λ (c : Client). c.feed) (cs k) ≡ Some x
gone_none x conn k cs e = go (k == conn) e
  where
    go : (b : Bool) → option_map (λ (c : Client). c.feed) (if b then None else cs k) ≡ Some x → option_map (λ (c : Client). c.feed) (cs k) ≡ Some x
    go true e = cc
    go false e = e

-- what stood before a deed, of what stands behind it
abbrev pub FedBefore : ℕ → Deed → Room → List ℕ → Type 0
FedBefore k d r x = (m : List ℕ) × (option_map (λ (c : Client). c.feed) (r.clients k) ≡ Some m) × IsStream m (in_stream k d) x

unfed : (k : ℕ) (d : Deed) (r : Room) (x : List ℕ) → in_stream k d ≡ [] → option_map (λ (c : Client). c.feed) ((after d r).clients k) ≡ option_map (λ (c : Client). c.feed) (r.clients k)
    → option_map (λ (c : Client). c.feed) ((after d r).clients k) ≡ Some x → FedBefore k d r x
unfed k d r x none same e = (x, sym same ∙ e, subst (λ es. IsStream x es x) (sym none) refl)

open_at : (o : Option Client) → option_map_or (λ c. if is_over c then false else true) o false ≡ true → (c : Client) × (o ≡ Some c) × (is_over c ≡ false)
open_at None e = cc
open_at (Some c) e = (c, refl, not_over (is_over c) e)
  where
    not_over : (b : Bool) → (if b then false else true) ≡ true → b ≡ false
    not_over true e = cc
    not_over false e = refl

pub unequal : (a b : ℕ) → (a == b) ≡ false → (b == a) ≡ false
unequal a b e = pick (λ q. (b == a) ≡ q → q ≡ false) (b == a) (λ t h. absurd (clash (eq-eqb a b (sym (eqb-true b a t))) e)) (λ t h. refl) refl
  where
    clash : (a == b) ≡ true → (a == b) ≡ false → ⊥
    clash x y = cc

fed_in : (k conn : ℕ) (piece : List ℕ) (r : Room) (x : List ℕ) → is_open r conn ≡ true → option_map (λ (c : Client). c.feed) (change (takes_in piece) conn r.clients k) ≡ Some x → FedBefore k (deed.Fed conn piece) r x
fed_in k conn piece r x may e =
    pick (λ b. (m : List ℕ) × (option_map (λ (c : Client). c.feed) (r.clients k) ≡ Some m) × IsStream m (if b then Fed piece ∷ [] else []) x) (conn == k)
    (λ q.
    let same : conn ≡ k = eqb-true conn k q in
    let c = open_at (r.clients conn) may in
    let was : r.clients k ≡ Some c.0 = ap r.clients (sym same) ∙ c.1 in
    let now : Some (c.0.feed ++ piece) ≡ Some x =
    ap (λ (b : Bool). Some (if b then c.0 else record c.0 { feed = c.0.feed ++ piece }).feed) (sym c.2)
    ∙ sym (ap (option_map (λ (y : Client). (takes_in piece y).feed)) was)
    ∙ sym (here (λ (y : Client). y.feed) (takes_in piece) conn k r.clients (eq-eqb k conn (sym same))) ∙ e in
    let is : c.0.feed ++ piece ≡ x = cc in
    (c.0.feed, ap (option_map (λ (y : Client). y.feed)) was, is))
    (λ q. (x, sym (others (λ (y : Client). y.feed) (takes_in piece) conn k r.clients (unequal conn k q)) ∙ e, refl))

took_off : (k conn : ℕ) (p : Message) (rest : List ℕ) (r : Room) (x : List ℕ) → HasClient (λ c. (is_over c ≡ false) × TakesPacket c.feed p rest) conn r
    → option_map (λ (c : Client). c.feed) (change (λ c. after_hearing p (record c { feed = rest })) conn r.clients k) ≡ Some x → FedBefore k (Took conn p rest) r x
took_off k conn p rest r x has e =
    pick (λ b. (m : List ℕ) × (option_map (λ (c : Client). c.feed) (r.clients k) ≡ Some m) × IsStream m (if b then Gave p ∷ [] else []) x) (conn == k)
    (λ q.
    let same : conn ≡ k = eqb-true conn k q in
    let was : r.clients k ≡ Some has.0 = ap r.clients (sym same) ∙ has.1 in
    let now : Some rest ≡ Some x =
    sym (ap (option_map (λ (y : Client). rest)) was)
    ∙ sym (here (λ (y : Client). y.feed) (λ c. after_hearing p (record c { feed = rest })) conn k r.clients (eq-eqb k conn (sym same))) ∙ e in
    let is : rest ≡ x = cc in
    (has.0.feed, ap (option_map (λ (y : Client). y.feed)) was, (rest, has.2.1, is)))
    (λ q. (x, sym (others (λ (y : Client). y.feed) (λ c. after_hearing p (record c { feed = rest })) conn k r.clients (unequal conn k q)) ∙ e, refl))

feed_step : (k : ℕ) (d : Deed) (r : Room) (x : List ℕ) → May d r → joins k d ≡ false → option_map (λ (c : Client). c.feed) ((after d r).clients k) ≡ Some x → FedBefore k d r x
feed_step k (Timed m) r x may j e = unfed k (Timed m) r x refl refl e
feed_step k (Joined conn) r x may j e =
    (x, sym (ap (λ b. option_map (λ (c : Client). c.feed) (if b then Some (fresh_client (later quiet r.now)) else r.clients k)) (unequal conn k j)) ∙ e, refl)
feed_step k (deed.Fed conn piece) r x may j e = fed_in k conn piece r x may.1 e
feed_step k (Skipped conn piece) r x may j e = unfed k (Skipped conn piece) r x refl refl e
feed_step k (Took conn p rest) r x may j e = took_off k conn p rest r x may.1 e
feed_step k Came r x may j e = unfed k Came r x refl (ap (λ cs. option_map (λ (c : Client). c.feed) (cs k)) (came_keeps r.in_hand r)) e
feed_step k (Broke conn f) r x may j e = unfed k (Broke conn f) r x refl (ap (λ cs. option_map (λ (c : Client). c.feed) (cs k)) (called_keeps None conn _ r)) e
feed_step k (Left conn why) r x may j e = unfed k (Left conn why) r x refl (left_keeps _ steady_feed conn why r k) e
feed_step k Ticked r x may j e = unfed k Ticked r x refl refl e
feed_step k (Handed o fate) r x may j e = unfed k (Handed o fate) r x refl (kept (λ (c : Client). c.feed) (offered o.send fate) (offered_feed o fate) o.send.conn k r.clients) e
feed_step k (Shut q) r x may j e = unfed k (Shut q) r x refl (kept (λ (c : Client). c.feed) (leaves (later grace r.now) q.cause) (leaves_keeps _ steady_feed (later grace r.now) q.cause) q.conn k r.clients) e
feed_step k (Told conn s) r x may j e = unfed k (Told conn s) r x refl
    (ap (λ cs. option_map (λ (c : Client). c.feed) (cs k)) (called_keeps None conn _ (changed told conn r)) ∙ kept (λ (c : Client). c.feed) told steady_feed.told conn k r.clients) e
feed_step k (Cut conn s) r x may j e = unfed k (Cut conn s) r x refl
    (left_keeps _ steady_feed conn deed.Want (changed told conn r) k ∙ kept (λ (c : Client). c.feed) told steady_feed.told conn k r.clients) e
feed_step k Tried r x may j e = unfed k Tried r x refl (tried_keeps _ steady_feed r.slow r k) e
feed_step k (Waited conn) r x may j e = unfed k (Waited conn) r x refl refl e
feed_step k (Freed conn) r x may j e = unfed k (Freed conn) r x refl
    (kept (λ (c : Client). c.feed) (waiting_for None) (steady_feed.waits None) conn k (freed_from (slow_of r.clients conn) conn (record r { held = behind r.held })).clients ∙ freed_keeps _ steady_feed (slow_of r.clients conn) conn (record r { held = behind r.held }) k) e
feed_step k (Dropped conn) r x may j e = unfed k (Dropped conn) r x refl (kept (λ (c : Client). c.feed) given_up steady_feed.given_up conn k r.clients) e
feed_step k (Wrote conn n) r x may j e = unfed k (Wrote conn n) r x refl (kept (λ (c : Client). c.feed) (written_to n) (λ c. steady_feed.settled (record c { outbox = written n c.outbox })) conn k r.clients) e
feed_step k (Blocked conn) r x may j e = unfed k (Blocked conn) r x refl (kept (λ (c : Client). c.feed) cut_off (λ c. steady_feed.settled (record c { cut = true })) conn k r.clients) e
feed_step k (Named conn) r x may j e = unfed k (Named conn) r x refl (kept (λ (c : Client). c.feed) untouched steady_feed.untouched conn k r.clients) e
feed_step k (Kept b) r x may j e = unfed k (Kept b) r x refl refl e
feed_step k Begun r x may j e = unfed k Begun r x refl refl e
feed_step k (Forgot conn) r x may j e = (x, gone_none x conn k r.clients e, refl)

-- ---- what a deed was to the events of a stream, put together

stream_joined : (es fs : List stream.Event) (x m y : List ℕ) → IsStream x es m → IsStream m fs y → IsStream x (es ++ fs) y
stream_joined [] fs x m y a b = subst (λ z. IsStream z fs y) (sym a) b
stream_joined (Fed piece ∷ es) fs x m y a b = stream_joined es fs (x ++ piece) m y a b
stream_joined (Gave p ∷ es) fs x m y a b = (a.0, a.1, stream_joined es fs a.0 m y a.2 b)
stream_joined (stream.Rested ∷ es) fs x m y a b = stream_joined es fs x m y a b

flat_joined : {X Y : Type 0} (f : X → List Y) (xs : List X) (x : X) → flat_map f (xs ++ x ∷ []) ≡ flat_map f xs ++ f x
flat_joined f [] x = append-nil (f x)
flat_joined f (z ∷ xs) x = ap (λ ys. f z ++ ys) (flat_joined f xs x) ∙ sym (append_assoc (f z) (flat_map f xs) (f x))

abbrev pub Streams : ℕ → Room → List Deed → Type 0
Streams k r past = (x : List ℕ) → option_map (λ (c : Client). c.feed) (r.clients k) ≡ Some x → IsStream [] (flat_map (in_stream k) past) x

placed_here : {X : Type 0} (g : Client → X) (c : Client) (conn k : ℕ) (cs : ℕ → Option Client) → (conn == k) ≡ true → option_map g (placed (Some c) conn cs k) ≡ Some (g c)
placed_here g c conn k cs e = ap (λ b. option_map g (if b then Some c else cs k)) (eq-eqb k conn (sym (eqb-true conn k e)))

first_stream : (k : ℕ) (d : Deed) (r : Room) → May d r → joins k d ≡ true → Streams k (after d r) []
first_stream k (Joined conn) r may j = λ x e. let is : Some (let e : List ℕ = [] in e) ≡ Some x = sym (placed_here (λ (c : Client). c.feed) _ conn k r.clients j) ∙ e in cc
first_stream k (Timed m) r may j = cc
first_stream k (deed.Fed c p) r may j = cc
first_stream k (Skipped c p) r may j = cc
first_stream k (Took c p rest) r may j = cc
first_stream k Came r may j = cc
first_stream k (Broke c f) r may j = cc
first_stream k (Left c w) r may j = cc
first_stream k Ticked r may j = cc
first_stream k (Handed o f) r may j = cc
first_stream k (Shut c) r may j = cc
first_stream k (Told c s) r may j = cc
first_stream k (Cut c s) r may j = cc
first_stream k Tried r may j = cc
first_stream k (Waited c) r may j = cc
first_stream k (Freed c) r may j = cc
first_stream k (Dropped c) r may j = cc
first_stream k (Wrote c n) r may j = cc
first_stream k (Blocked c) r may j = cc
first_stream k (Named c) r may j = cc
first_stream k (Kept b) r may j = cc
first_stream k Begun r may j = cc
first_stream k (Forgot c) r may j = cc

next_stream : (k : ℕ) (d : Deed) (r : Room) (past : List Deed) → May d r → joins k d ≡ false → Streams k r past → Streams k (after d r) (past ++ d ∷ [])
next_stream k d r past may j p = λ x e.
    let b = feed_step k d r x may j e in
    subst (λ es. IsStream [] es x) (sym (flat_joined (in_stream k) past d))
    (stream_joined (flat_map (in_stream k) past) (in_stream k d) [] b.0 x (p b.0 b.1) b.2)

pub streams : (k : ℕ) (f : Deed → Bool) (log : List Deed) (r s : Room) → IsRun f r log s → r.clients k ≡ None → Streams k s (since k log)
streams k f log r s run none = lives k (Streams k) f (first_stream k) (next_stream k) log r s [] run (λ x e. let is : None ≡ Some x = sym (ap (option_map (λ (c : Client). c.feed)) none) ∙ e in cc)

-- ---- what waits for a client

abbrev pub OwedBefore : ℕ → Deed → Room → Outbox → Type 0
OwedBefore k d r x = (m : Outbox) × (option_map (λ (c : Client). c.outbox) (r.clients k) ≡ Some m) × (outbox.after (in_outbox k d) m ≡ x)

unowed : (k : ℕ) (d : Deed) (r : Room) (x : Outbox) → in_outbox k d ≡ [] → option_map (λ (c : Client). c.outbox) ((after d r).clients k) ≡ option_map (λ (c : Client). c.outbox) (r.clients k)
    → option_map (λ (c : Client). c.outbox) ((after d r).clients k) ≡ Some x → OwedBefore k d r x
unowed k d r x none same e = (x, sym same ∙ e, ap (λ es. outbox.after es x) none)

some_at : {X : Type 0} (g : Client → X) (o : Option Client) (x : X) → option_map g o ≡ Some x → (c : Client) × (o ≡ Some c) × (g c ≡ x)
some_at g None x e = cc
some_at g (Some c) x e = (c, refl, cc)

-- a change that is one of the outbox, at its own client
moved : (k conn : ℕ) (f : Client → Client) (calls : List outbox.Call) (r : Room) (x : Outbox) → ((c : Client) → (f c).outbox ≡ outbox.after calls c.outbox)
    → option_map (λ (c : Client). c.outbox) (change f conn r.clients k) ≡ Some x
    → (m : Outbox) × (option_map (λ (c : Client). c.outbox) (r.clients k) ≡ Some m) × (outbox.after (if conn == k then calls else []) m ≡ x)
moved k conn f calls r x same e =
    pick (λ b. (m : Outbox) × (option_map (λ (c : Client). c.outbox) (r.clients k) ≡ Some m) × (outbox.after (if b then calls else []) m ≡ x)) (conn == k)
    (λ q.
    let c = some_at (λ (y : Client). (f y).outbox) (r.clients k) x (sym (here (λ (y : Client). y.outbox) f conn k r.clients (eq-eqb k conn (sym (eqb-true conn k q)))) ∙ e) in
    (c.0.outbox, ap (option_map (λ (y : Client). y.outbox)) c.1, sym (same c.0) ∙ c.2))
    (λ q. (x, sym (others (λ (y : Client). y.outbox) f conn k r.clients (unequal conn k q)) ∙ e, refl))

handed_outbox : (k : ℕ) (o : Offer) (fate : Offered) (r : Room) (x : Outbox) → option_map (λ (c : Client). c.outbox) (change (offered o.send fate) o.send.conn r.clients k) ≡ Some x → OwedBefore k (Handed o fate) r x
handed_outbox k o Taken r x e = moved k o.send.conn (offered o.send Taken) (outbox.Took o.send.bytes ∷ []) r x (λ c. refl) e
handed_outbox k o Refused r x e = (x, sym (kept (λ (c : Client). c.outbox) (offered o.send Refused) (steady_outbox.refused o.send.sort) o.send.conn k r.clients) ∙ e, refl)
handed_outbox k o Passed r x e = (x, sym (kept (λ (c : Client). c.outbox) (offered o.send Passed) (λ c. refl) o.send.conn k r.clients) ∙ e, refl)

gone_outbox : (x : Outbox) (conn k : ℕ) (cs : ℕ → Option Client) → option_map (λ (c : Client). c.outbox) (placed None conn cs k) ≡ Some x → option_map (λ (c : Client). c.outbox) (cs k) ≡ Some x
gone_outbox x conn k cs e = go (k == conn) e
  where
    go : (b : Bool) → option_map (λ (c : Client). c.outbox) (if b then None else cs k) ≡ Some x → option_map (λ (c : Client). c.outbox) (cs k) ≡ Some x
    go true e = cc
    go false e = e

outbox_step : (k : ℕ) (d : Deed) (r : Room) (x : Outbox) → joins k d ≡ false → option_map (λ (c : Client). c.outbox) ((after d r).clients k) ≡ Some x → OwedBefore k d r x
outbox_step k (Timed m) r x j e = unowed k (Timed m) r x refl refl e
outbox_step k (Joined conn) r x j e =
    (x, sym (ap (λ b. option_map (λ (c : Client). c.outbox) (if b then Some (fresh_client (later quiet r.now)) else r.clients k)) (unequal conn k j)) ∙ e, refl)
outbox_step k (deed.Fed conn piece) r x j e = unowed k (deed.Fed conn piece) r x refl (kept (λ (c : Client). c.outbox) (takes_in piece) (λ c. either (λ (y : Client). y.outbox) (is_over c) c (record c { feed = c.feed ++ piece }) refl) conn k r.clients) e
outbox_step k (Skipped conn piece) r x j e = unowed k (Skipped conn piece) r x refl refl e
outbox_step k (Took conn p rest) r x j e = unowed k (Took conn p rest) r x refl (kept (λ (c : Client). c.outbox) (λ c. after_hearing p (record c { feed = rest })) (λ c. refl) conn k r.clients) e
outbox_step k Came r x j e = unowed k Came r x refl (ap (λ cs. option_map (λ (c : Client). c.outbox) (cs k)) (came_keeps r.in_hand r)) e
outbox_step k (Broke conn f) r x j e = unowed k (Broke conn f) r x refl (ap (λ cs. option_map (λ (c : Client). c.outbox) (cs k)) (called_keeps None conn _ r)) e
outbox_step k (Left conn why) r x j e = unowed k (Left conn why) r x refl (left_keeps _ steady_outbox conn why r k) e
outbox_step k Ticked r x j e = unowed k Ticked r x refl refl e
outbox_step k (Handed o fate) r x j e = handed_outbox k o fate r x e
outbox_step k (Shut q) r x j e = unowed k (Shut q) r x refl (kept (λ (c : Client). c.outbox) (leaves (later grace r.now) q.cause) (leaves_keeps _ steady_outbox (later grace r.now) q.cause) q.conn k r.clients) e
outbox_step k (Told conn s) r x j e = unowed k (Told conn s) r x refl
    (ap (λ cs. option_map (λ (c : Client). c.outbox) (cs k)) (called_keeps None conn _ (changed told conn r)) ∙ kept (λ (c : Client). c.outbox) told steady_outbox.told conn k r.clients) e
outbox_step k (Cut conn s) r x j e = unowed k (Cut conn s) r x refl
    (left_keeps _ steady_outbox conn deed.Want (changed told conn r) k ∙ kept (λ (c : Client). c.outbox) told steady_outbox.told conn k r.clients) e
outbox_step k Tried r x j e = unowed k Tried r x refl (tried_keeps _ steady_outbox r.slow r k) e
outbox_step k (Waited conn) r x j e = unowed k (Waited conn) r x refl refl e
outbox_step k (Freed conn) r x j e = unowed k (Freed conn) r x refl
    (kept (λ (c : Client). c.outbox) (waiting_for None) (steady_outbox.waits None) conn k (freed_from (slow_of r.clients conn) conn (record r { held = behind r.held })).clients ∙ freed_keeps _ steady_outbox (slow_of r.clients conn) conn (record r { held = behind r.held }) k) e
outbox_step k (Dropped conn) r x j e = unowed k (Dropped conn) r x refl (kept (λ (c : Client). c.outbox) given_up steady_outbox.given_up conn k r.clients) e
outbox_step k (Wrote conn n) r x j e = moved k conn (written_to n) (outbox.Wrote n ∷ []) r x (λ c. steady_outbox.settled (record c { outbox = written n c.outbox })) e
outbox_step k (Blocked conn) r x j e = unowed k (Blocked conn) r x refl (kept (λ (c : Client). c.outbox) cut_off (λ c. steady_outbox.settled (record c { cut = true })) conn k r.clients) e
outbox_step k (Named conn) r x j e = unowed k (Named conn) r x refl (kept (λ (c : Client). c.outbox) untouched steady_outbox.untouched conn k r.clients) e
outbox_step k (Kept b) r x j e = unowed k (Kept b) r x refl refl e
outbox_step k Begun r x j e = unowed k Begun r x refl refl e
outbox_step k (Forgot conn) r x j e = (x, gone_outbox x conn k r.clients e, refl)

abbrev pub Owes : ℕ → Room → List Deed → Type 0
Owes k r past = (x : Outbox) → option_map (λ (c : Client). c.outbox) (r.clients k) ≡ Some x → outbox.after (flat_map (in_outbox k) past) fresh_outbox ≡ x

first_owes : (k : ℕ) (d : Deed) (r : Room) → May d r → joins k d ≡ true → Owes k (after d r) []
first_owes k (Joined conn) r may j = λ x e. let is : Some fresh_outbox ≡ Some x = sym (placed_here (λ (c : Client). c.outbox) _ conn k r.clients j) ∙ e in cc
first_owes k (Timed m) r may j = cc
first_owes k (deed.Fed c p) r may j = cc
first_owes k (Skipped c p) r may j = cc
first_owes k (Took c p rest) r may j = cc
first_owes k Came r may j = cc
first_owes k (Broke c f) r may j = cc
first_owes k (Left c w) r may j = cc
first_owes k Ticked r may j = cc
first_owes k (Handed o f) r may j = cc
first_owes k (Shut c) r may j = cc
first_owes k (Told c s) r may j = cc
first_owes k (Cut c s) r may j = cc
first_owes k Tried r may j = cc
first_owes k (Waited c) r may j = cc
first_owes k (Freed c) r may j = cc
first_owes k (Dropped c) r may j = cc
first_owes k (Wrote c n) r may j = cc
first_owes k (Blocked c) r may j = cc
first_owes k (Named c) r may j = cc
first_owes k (Kept b) r may j = cc
first_owes k Begun r may j = cc
first_owes k (Forgot c) r may j = cc

outbox_joined : (es fs : List outbox.Call) (o : Outbox) → outbox.after (es ++ fs) o ≡ outbox.after fs (outbox.after es o)
outbox_joined [] fs o = refl
outbox_joined (e ∷ es) fs o = outbox_joined es fs (outbox.after_call e o)

next_owes : (k : ℕ) (d : Deed) (r : Room) (past : List Deed) → May d r → joins k d ≡ false → Owes k r past → Owes k (after d r) (past ++ d ∷ [])
next_owes k d r past may j p = λ x e.
    let b = outbox_step k d r x j e in
    ap (λ es. outbox.after es fresh_outbox) (flat_joined (in_outbox k) past d)
    ∙ outbox_joined (flat_map (in_outbox k) past) (in_outbox k d) fresh_outbox
    ∙ ap (outbox.after (in_outbox k d)) (p b.0 b.1) ∙ b.2

pub owes : (k : ℕ) (f : Deed → Bool) (log : List Deed) (r s : Room) → IsRun f r log s → r.clients k ≡ None → Owes k s (since k log)
owes k f log r s run none = lives k (Owes k) f (first_owes k) (next_owes k) log r s [] run (λ x e. let is : None ≡ Some x = sym (ap (option_map (λ (c : Client). c.outbox)) none) ∙ e in cc)

-- ---- what is to be offered

tried_pending : (o : Option Slow) (r : Room) → (tried o r).pending ≡ r.pending
tried_pending None r = refl
tried_pending (Some w) r = go (is_slow w r)
  where
    go : (b : Bool) → (tried_at b w (changed (awaited (w.client == w.publisher) r.now) w.client r)).pending ≡ r.pending
    go true = refl
    go false = refl

freed_pending : (o : Option ℕ) (conn : ℕ) (r : Room) → (freed_from o conn r).pending ≡ r.pending
freed_pending None conn r = refl
freed_pending (Some slow) conn r = refl

came_pending : (h : Option InHand) (r : Room) → r.pending ++ sends_at r.noted.broker (of_hand r h) ≡ (after Came (record r { in_hand = h })).pending
came_pending None r = append-nil r.pending
came_pending (Some h) r = sym (sends_called (publisher h) h.conn (event.Packet h.conn h.packet r.now) (record r { in_hand = None }))

sends_step : (d : Deed) (r : Room) → May d r → r.pending ++ sends_at r.noted.broker (event_at r d) ≡ handed_in d ++ (after d r).pending
sends_step (Timed m) r may = append-nil r.pending
sends_step (Joined c) r may = append-nil r.pending
sends_step (deed.Fed c p) r may = append-nil r.pending
sends_step (Skipped c p) r may = append-nil r.pending
sends_step (Took c p rest) r may = append-nil r.pending
sends_step Came r may = came_pending r.in_hand r
sends_step (Broke c f) r may = sym (sends_called None c (event.Fault c f r.now) r)
sends_step (Left c w) r may = sym (sends_called None c (event.Closed c r.now) (record (changed (leaves (later grace r.now) (cause_why w)) c r) { in_hand = None }))
sends_step Ticked r may = refl
sends_step (Handed o f) r may = append-nil r.pending ∙ may.0.1 ∙ ap (λ (ps : List Offer). o ∷ behind ps) (sym may.0.1)
sends_step (Shut c) r may = append-nil r.pending
sends_step (Told c s) r may = sym (sends_called None c (event.Refused c s r.now) (changed told c r))
sends_step (Cut c s) r may = sym (sends_called None c (event.Closed c r.now) (record (changed (leaves (later grace r.now) cause.Memory) c (changed told c r)) { in_hand = None }))
sends_step Tried r may = append-nil r.pending ∙ sym (tried_pending r.slow r)
sends_step (Waited c) r may = append-nil r.pending
sends_step (Freed c) r may = append-nil r.pending ∙ sym (freed_pending (slow_of r.clients c) c (record r { held = behind r.held }))
sends_step (Dropped c) r may = append-nil r.pending
sends_step (Wrote c n) r may = append-nil r.pending
sends_step (Blocked c) r may = append-nil r.pending
sends_step (Named c) r may = append-nil r.pending
sends_step (Kept b) r may = append-nil r.pending
sends_step Begun r may = append-nil r.pending
sends_step (Forgot c) r may = append-nil r.pending

-- what is to be offered, and what the rules send then, is what is offered and what is left to be
pub sends_run : (f : Deed → Bool) (log : List Deed) (r s : Room) → IsRun f r log s → r.pending ++ sends_from r log ≡ handed_of log ++ s.pending
sends_run f [] r s a = append-nil r.pending ∙ ap (λ (x : Room). x.pending) a
sends_run f (d ∷ ds) r s a =
    sym (append_assoc r.pending (sends_at r.noted.broker (event_at r d)) (sends_from (after d r) ds))
    ∙ ap (λ ps. ps ++ sends_from (after d r) ds) (sends_step d r a.1)
    ∙ append_assoc (handed_in d) (after d r).pending (sends_from (after d r) ds)
    ∙ ap (λ ps. handed_in d ++ ps) (sends_run f ds (after d r) s a.2)
    ∙ sym (append_assoc (handed_in d) (handed_of ds) s.pending)
