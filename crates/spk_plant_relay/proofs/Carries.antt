-- The offers of a numbered message carry the bytes of its position.
use Rattle.std.proofs.Common.{◌≡◌, ◌⊎◌, inl, inr, sym, ap, refl, subst, ◌∙◌, ℕ, ◌+◌, ◌-◌, ◌≤◌, Bool, true, false, cond, eqb, List, [], ◌∷◌, map, length, Option, Some, None, slice_get, arith, true≢false, eqb-true}
use Rattle.std.specs.List.{flat_map, AllByRecursion}
use Rattle.std.proofs.lemmas.Bool.{and_parts}
use Rattle.spk_packets.specs.Spelling.{spelling}
use Rattle.spk_broker.specs.Sent.{outgoing}
use Rattle.spk_broker_rules.specs.Data.{Connection, Session, Send}
use Rattle.spk_broker_rules.specs.Listening.{given_to, is_listening, plain_publish}
use Rattle.spk_broker_rules.specs.Plan as event
use Rattle.spk_broker_rules.specs.Step.{after}
use Rattle.spk_ingress.specs.Lanes.{share_of}
use Rattle.spk_ingress.specs.declared.frame.Frame.{Frame}
use Rattle.spk_plant_broker.specs.Data.{Input, Offer, Entry, Took, Accepted, Refused, Passed, Told, Room}
use Rattle.spk_plant_broker.specs.Log.{IsLog, room_of, taken_of}
use Rattle.spk_plant_broker.specs.Step.{behind, called, conn_at, is_dropped, may_open, next_conn, offer_of, opened, packet_on, took}
use Rattle.spk_edge_rules.specs.Config.{Setup}
use Rattle.spk_edge_rules.specs.Messages.{named_by, payload_of}
use Rattle.spk_edge_rules.specs.Run as run
use Rattle.spk_plant_relay.specs.Shown.{AllMaySay, HasPlaces, count_numbered, is_numbered, is_on, is_relaying}
use Rattle.spk_plant_relay.proofs.Base.{AllJoined}
use Rattle.spk_plant_relay.proofs.Facts.{Facts}
use Rattle.spk_plant_relay.proofs.Few.{state-of}
use Rattle.spk_plant_relay.proofs.Moves.{first-shut, known-some, open-joins-none}
use Rattle.spk_plant_relay.proofs.Nodes.{IsMessageFrame, Last, Tells, on_of, tells-last, wire_at}
use Rattle.spk_plant_relay.proofs.Offers.{front, no-yes, offers_of}
use Rattle.spk_plant_relay.proofs.Plant.{counts, message-means, share-own}
use Rattle.spk_plant_relay.proofs.Tells.{IsQuiet, PacketFacts}

abbrev pub HaveBytes : List ℕ → List Offer → Type 0
HaveBytes bytes os = AllByRecursion (λ (o : Offer). o.bytes ≡ bytes) os

offers-bytes : (dropped : ℕ → Bool) (os : List ℕ) (topic payload : List ℕ) (xs : List Session) → HaveBytes (spelling (plain_publish topic payload)) (offers_of dropped os topic payload xs)
offers-bytes dropped os topic payload [] = tt
offers-bytes dropped os topic payload (s ∷ xs) = by (is_listening topic s) s.here (flat_map (given_to topic payload) xs) (offers-bytes dropped os topic payload xs)
  where
    by : (b : Bool) (here : Option Connection) (rest : List Send) → HaveBytes (spelling (plain_publish topic payload)) (map (offer_of os dropped) (map outgoing rest))
        → HaveBytes (spelling (plain_publish topic payload)) (front dropped os topic payload b here rest)
    by true (Some l) rest all = (refl, all)
    by true None rest all = all
    by false (Some l) rest all = all
    by false None rest all = all

-- what is offered is the numbered message of this position
pub record Carry (s : Setup) (all : List run.Message) (p : ℕ) (os : List Offer) : Type 0 where
  pub message : run.Message
  pub there : slice_get all p ≡ Some message
  pub bytes : HaveBytes (spelling (wire_at s all p message.draft)) os

carry-behind : (s : Setup) (all : List run.Message) (p : ℕ) (os : List Offer) → Carry s all p os → Carry s all p (behind os)
carry-behind s all p [] c = c
carry-behind s all p (o ∷ os) c = record { message = c.message; there = c.there; bytes = c.bytes.1 }

-- a numbered message that is taken
carry-taken : Facts → (limit : ℕ) (r : Room) (k now : ℕ) (s : Setup) (all : List run.Message) (p : ℕ) (f : Frame) → (x : IsMessageFrame s all p f) → AllJoined (after limit r.events) → r.pending ≡ [] →
    Carry s all p (packet_on limit now r k (wire_at s all p x.message.draft) (conn_at limit r k)).pending
carry-taken facts limit r k now s all p f x joined none = record { message = x.message; there = x.there; bytes = by (conn_at limit r k) refl }
  where
    topic : List ℕ
    topic = Rattle.spk_topics.specs.Spark.topic_of (named_by s.config x.message.draft)

    payload : List ℕ
    payload = Rattle.spk_payload.specs.Spelling.spelling (payload_of (run.number_at s all p) x.message.draft)

    there : (conn : ℕ) → conn_at limit r k ≡ Some conn → HaveBytes (spelling (plain_publish topic payload)) (called limit r (event.Packet conn (plain_publish topic payload) now)).pending
    there conn at =
        subst (HaveBytes (spelling (plain_publish topic payload)))
        (sym (ap (λ ss. map (offer_of r.openers (is_dropped r.over r.closed)) (map outgoing ss))
        (facts.sends (after limit r.events) conn now topic payload x.plain (joined conn (known-some (after limit r.events) (r.last k) conn at).1))))
        (offers-bytes (is_dropped r.over r.closed) r.openers topic payload (after limit r.events).sessions)

    first : (b : Bool) → HaveBytes (spelling (plain_publish topic payload)) (cond b (called limit (opened limit now r k) (event.Packet (next_conn limit r) (plain_publish topic payload) now)) r).pending
    first true =
        subst (HaveBytes (spelling (plain_publish topic payload)))
        (sym (ap (λ ss. map (offer_of (opened limit now r k).openers (is_dropped r.over r.closed)) (map outgoing ss))
        (first-shut facts (after limit (event.Open now ∷ r.events)) (next_conn limit r) now topic payload (open-joins-none facts limit r.events now)).0)) tt
    first false = subst (HaveBytes (spelling (plain_publish topic payload))) (sym none) tt

    by : (o : Option ℕ) → conn_at limit r k ≡ o → HaveBytes (spelling (plain_publish topic payload)) (packet_on limit now r k (plain_publish topic payload) o).pending
    by (Some conn) at = there conn at
    by None at = first (may_open limit r k)

-- the last frame is a numbered message, and it is that of the position that comes next
carry-frame : Facts → PacketFacts → (limit edges : ℕ) (r : Room) (taken : List _) (k : ℕ) (s : Setup) (all : List run.Message) (xs : List Frame) (f : Frame) (q n : ℕ) (i : Input) →
    Last s all xs f 0 q → Rattle.spk_plant_broker.specs.Log.Means f i → is_on (on_of s) i ≡ true → ((m : ℕ) → Tells s all xs 0 m → n ≡ m) → AllJoined (after limit r.events) → r.pending ≡ [] →
    Carry s all n (took limit edges taken r k i).pending
carry-frame facts pf limit edges r taken k s all xs f q n i l means onto counted joined none = by l.is
  where
    same : n ≡ l.middle
    same = counted l.middle l.before

    by : (IsQuiet (on_of s) f × (l.middle ≡ q)) ⊎ (IsMessageFrame s all l.middle f × (l.middle + 1 ≡ q)) → Carry s all n (took limit edges taken r k i).pending
    by (inl x) = absurd (true≢false (sym onto ∙ x.0.off i means))
    by (inr x) =
        subst (λ m. Carry s all m (took limit edges taken r k i).pending) (sym same)
        (subst (λ (j : Input). Carry s all l.middle (took limit edges taken r k j).pending) (sym (message-means pf s all l.middle f i x.0 means))
        (carry-taken facts limit r k (length taken) s all l.middle f x.0 joined none))

pub carry-of : Facts → PacketFacts → (limit edges k : ℕ) (s : Setup) (all : List run.Message) → limit ≤ 65535 → (l : List Entry) (q : ℕ) → IsLog limit edges l → AllMaySay (on_of s) k edges l → HasPlaces limit edges l →
    Tells s all (share_of k (taken_of l)) 0 q → is_relaying (on_of s) k l ≡ true → Carry s all (count_numbered (on_of s) k l - 1) (room_of limit edges l).pending
carry-of f pf limit edges k s all small [] q log says room t busy = absurd (no-yes busy)
carry-of f pf limit edges k s all small (Took m i ∷ l) q log says room t busy =
    let parts = and_parts (eqb m.sender k) (is_on (on_of s) i) busy in
    let st = state-of f limit edges (on_of s) k small l log.0 says.1 room.1 in
    let last = tells-last s all (share_of k (taken_of l)) m.frame 0 q (subst (λ fs. Tells s all fs 0 q) (share-own k (taken_of l) m parts.0) t) in
    subst (λ n. Carry s all n (room_of limit edges (Took m i ∷ l)).pending) (sym (one-more (is_numbered (on_of s) k m i) (count_numbered (on_of s) k l) busy))
    (subst (λ j. Carry s all (count_numbered (on_of s) k l) (took limit edges (taken_of (Took m i ∷ l)) (room_of limit edges l) j i).pending) (sym (eqb-true m.sender k parts.0))
    (carry-frame f pf limit edges (room_of limit edges l) (taken_of (Took m i ∷ l)) k s all (share_of k (taken_of l)) m.frame q (count_numbered (on_of s) k l) i last log.1.0 parts.1
    (λ r u. counts pf limit edges k s all l r log.0 u) st.joined log.1.1))
  where
    one-more : (b : Bool) (n : ℕ) → b ≡ true → cond b (n + 1) n - 1 ≡ n
    one-more true n e = omega arith
    one-more false n e = absurd (no-yes e)
carry-of f pf limit edges k s all small (Accepted j o ∷ l) q log says room t busy = carry-behind s all _ (room_of limit edges l).pending (carry-of f pf limit edges k s all small l q log.0 says room t busy)
carry-of f pf limit edges k s all small (Refused j o ∷ l) q log says room t busy = carry-behind s all _ (room_of limit edges l).pending (carry-of f pf limit edges k s all small l q log.0 says room t busy)
carry-of f pf limit edges k s all small (Passed o ∷ l) q log says room t busy = carry-behind s all _ (room_of limit edges l).pending (carry-of f pf limit edges k s all small l q log.0 says room t busy)
carry-of f pf limit edges k s all small (Told o ∷ l) q log says room t busy = absurd (no-yes busy)
