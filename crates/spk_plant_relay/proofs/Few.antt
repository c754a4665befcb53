-- Along a log few of a node's numbered messages are missing from what the host is shown.
use Rattle.std.proofs.Common.{◌≡◌, inl, inr, sym, ap, refl, subst, ◌∙◌, ℕ, ◌+◌, ◌-◌, ◌<◌, ◌≤◌, max, Bool, true, false, not, ◌&&◌, ◌||◌, cond, eqb, List, [], ◌∷◌, ◌++◌, length, Option, Some, None, arith, true≢false, eq-eqb, eqb-true}
use Rattle.std.proofs.lemmas.Bool.{and_left, and_right, and_parts, cases_Bool, or_parts}
use Rattle.spk_packets.specs.Message.{Message as Packet}
use Rattle.spk_broker_rules.specs.Listening.{is_disconnect, is_unsubscribe, plain_publish}
use Rattle.spk_broker_rules.specs.Plan as event
use Rattle.spk_broker_rules.specs.Plan.{Event}
use Rattle.spk_broker_rules.specs.Step.{after, drops_in, is_full, knows}
use Rattle.spk_plant_broker.specs.Data.{Input, Says, Breaks, Cuts, Ends, Offer, Entry, Took, Accepted, Refused, Passed, Told, Room}
use Rattle.spk_plant_broker.specs.Log.{IsFirst, IsLog, room_of, taken_of}
use Rattle.spk_plant_broker.specs.Step.{behind, called, called_on, client_of, conn_at, fresh_room, have_ended, is_client, next_conn, opened, packet_on, told, took}
use Rattle.spk_plant_relay.specs.Shown.{AllMaySay, HasPlaces, IsFew, IsPlainOn, MaySay, count_numbered, is_numbered, is_on, is_publish_on, is_relaying, shown}
use Rattle.spk_plant_relay.proofs.Base.{Base, Hears, few-drops, joined-known}
use Rattle.spk_plant_relay.proofs.Facts.{Facts}
use Rattle.spk_plant_relay.proofs.Moves.{known-some, passes-called, passes-first, quiet-after, refusal-passed, refusal-told, relayed, unjoined}
use Rattle.spk_plant_relay.proofs.Offers.{aimed, goes, no-yes}
use Rattle.spk_plant_relay.proofs.State.{IsFinished, State, accepted-here, other-made, plain-accepted, refused-here}

same-some : (x y : ℕ) → ◌≡◌ {A = Option ℕ} (Some x) (Some y) → x ≡ y
same-some x y e = cc

some-none : {X : Type 0} (x : X) → None ≡ Some x → ⊥
some-none x e = cc

-- ---- the beginning

fresh-state : Facts → (limit : ℕ) (on : List ℕ → Bool) (h k : ℕ) → State limit on h k fresh_room [] 0 false
fresh-state f limit on h k = record {
  base = record {
    filters = λ one other x y. f.no_filters limit one other;
    sized = refl;
    newest = λ j conn there of. absurd (no-yes there);
    owned = λ j conn at. absurd (some-none conn at);
  };
  joined = λ c there. absurd (no-yes there);
  rising = tt;
  within = omega arith;
  few = omega arith;
  one = λ b. absurd (no-yes b);
  aims = λ b. absurd (no-yes b);
  ready = λ b. absurd (no-yes b);
  kept = λ live begun. elim begun [ inl e ↦ absurd (e refl) | inr low ↦ absurd (omega (arith, low)) ];
}

-- ---- offers

accepted : Facts → (limit : ℕ) (on : List ℕ → Bool) (h k : ℕ) (r : Room) (ps : List ℕ) (n : ℕ) (busy : Bool) (j : ℕ) (o : Offer) → IsFirst o r.pending → o.to ≡ Some j →
    State limit on h k r ps n busy → State limit on h k (record r { pending = behind r.pending }) (cond (eqb j h && busy) ((n - 1) ∷ ps) ps) n busy
accepted f limit on h k r ps n busy j o first to st =
    subst (λ os. State limit on h k (record r { pending = os }) ps n busy → State limit on h k (record r { pending = behind os }) (cond (eqb j h && busy) ((n - 1) ∷ ps) ps) n busy)
    (sym first.1) (by (eqb j h) busy (ap (is_client h) to)) st
  where
    fewer : (c : ℕ) → Hears limit on r h c → drops_in c (after limit r.events) < max 1 limit
    fewer c hears = few-drops f limit r.events c (joined-known (after limit r.events) c hears.joined)

    by : (b busy : Bool) → goes h o ≡ b → State limit on h k (record r { pending = o ∷ first.0 }) ps n busy
        → State limit on h k (record r { pending = first.0 }) (cond (b && busy) ((n - 1) ∷ ps) ps) n busy
    by true true at st = accepted-here limit on h k r ps n o first.0 fewer at st
    by true false at st = plain-accepted limit on h k r ps n o first.0 st
    by false busy at st = other-made limit on h k r ps n busy o first.0 r.untold at (inl refl) st

refused : (limit : ℕ) (on : List ℕ → Bool) (h k : ℕ) (r : Room) (ps : List ℕ) (n : ℕ) (busy : Bool) (j : ℕ) (o : Offer) → IsFirst o r.pending → o.to ≡ Some j →
    State limit on h k r ps n busy → State limit on h k (record r { pending = behind r.pending; untold = r.untold ++ o ∷ [] }) ps n busy
refused limit on h k r ps n busy j o first to st =
    subst (λ os. State limit on h k (record r { pending = os }) ps n busy → State limit on h k (record r { pending = behind os; untold = r.untold ++ o ∷ [] }) ps n busy)
    (sym first.1) (by (eqb j h) (ap (is_client h) to)) st
  where
    by : (b : Bool) → goes h o ≡ b → State limit on h k (record r { pending = o ∷ first.0 }) ps n busy
        → State limit on h k (record r { pending = first.0; untold = r.untold ++ o ∷ [] }) ps n busy
    by true at st = refused-here limit on h k r ps n busy o first.0 at st
    by false at st = other-made limit on h k r ps n busy o first.0 (r.untold ++ o ∷ []) at (inr refl) st

passed : (limit : ℕ) (on : List ℕ → Bool) (h k : ℕ) (r : Room) (ps : List ℕ) (n : ℕ) (busy : Bool) (o : Offer) → IsFirst o r.pending → o.to ≡ None →
    State limit on h k r ps n busy → State limit on h k (record r { pending = behind r.pending }) ps n busy
passed limit on h k r ps n busy o first to st =
    subst (λ os. State limit on h k (record r { pending = os }) ps n busy → State limit on h k (record r { pending = behind os }) ps n busy)
    (sym first.1) (other-made limit on h k r ps n busy o first.0 r.untold (ap (is_client h) to) (inl refl)) st

-- ---- refusals told

is-told : Facts → (limit : ℕ) (on : List ℕ → Bool) (h k : ℕ) (r : Room) (ps : List ℕ) (n now : ℕ) (busy : Bool) (o : Offer) → limit ≤ 65535 → r.pending ≡ [] → IsFirst o r.untold →
    State limit on h k r ps n busy → State limit on h k (told limit now (record r { untold = behind r.untold }) o) ps n false
is-told f limit on h k r ps n now busy o small none first st =
    subst (λ os. State limit on h k (record r { untold = os }) ps n busy → State limit on h k (told limit now (record r { untold = behind os }) o) ps n false)
    (sym first.1) (by (knows (after limit r.events) o.conn) refl) st
  where
    by : (x : Bool) → knows (after limit r.events) o.conn ≡ x → State limit on h k (record r { untold = o ∷ first.0 }) ps n busy
        → State limit on h k (called_on limit (record r { untold = first.0 }) (λ conn. event.Refused conn o.sort now) (cond x (Some o.conn) None)) ps n false
    by true at st = refusal-told f limit on h k r ps n now busy o first.0 small none at st
    by false at st = refusal-passed f limit on h k r ps n busy o first.0 none at st

-- ---- frames taken

-- nothing is done
idle : (limit : ℕ) (on : List ℕ → Bool) (h k : ℕ) (r : Room) (ps : List ℕ) (n : ℕ) (busy : Bool) → r.pending ≡ [] → State limit on h k r ps n busy → State limit on h k r ps n false
idle limit on h k r ps n busy none st = quiet-after limit on h k r r ps n busy none (record {
  base = st.base;
  joined = st.joined;
  live = λ live. live;
  hears = λ c live hears. hears;
  drops = λ c live hears. omega arith;
  untold = refl;
}) st

-- a numbered message of a node that is finished
lost : (limit : ℕ) (on : List ℕ → Bool) (h k : ℕ) (r : Room) (ps : List ℕ) (n : ℕ) (busy : Bool) → r.pending ≡ [] → r.untold ≡ [] → IsFinished limit k r →
    State limit on h k r ps n busy → State limit on h k r ps (n + 1) true
lost limit on h k r ps n busy none told done st = record {
  base = st.base;
  joined = st.joined;
  rising = st.rising;
  within = let w = st.within in omega (arith, w);
  few = st.few;
  one = λ b. let a = ap (aimed h) none in let u = ap (aimed h) told in omega (arith, a, u);
  aims = λ b c at. subst (Rattle.spk_plant_relay.proofs.Offers.Aim h c) (sym none) tt;
  ready = λ b low. absurd (let a = ap (aimed h) none in omega (arith, a, low));
  kept = λ live begun. absurd (live.unfinished done);
}

all-ended : (limit : ℕ) (on : List ℕ → Bool) (h k : ℕ) (r : Room) (ps : List ℕ) (n : ℕ) (busy ended : Bool) → r.pending ≡ [] → State limit on h k r ps n busy →
    State limit on h k (record r { over = r.over || ended }) ps n false
all-ended limit on h k r ps n busy ended none st = quiet-after limit on h k r (record r { over = r.over || ended }) ps n busy none (record {
  base = st.base;
  joined = st.joined;
  live = λ live. record { standing = live.standing; ringing = (or_parts _ _ live.ringing).0; unfinished = live.unfinished };
  hears = λ c live hears. hears;
  drops = λ c live hears. omega arith;
  untold = refl;
}) st

-- another client's connection isn't the host's
not-host : (limit : ℕ) (on : List ℕ → Bool) (r : Room) (h j conn c : ℕ) → Base limit on r → r.last j ≡ Some conn → r.last h ≡ Some c → (j ≡ h → ⊥) → eqb conn c ≡ false
not-host limit on r h j conn c b own at other = elim (cases_Bool (eqb conn c)) [
  | inl same ↦ absurd (other (same-some j h (sym (b.owned j conn own) ∙ ap (client_of r.openers) (eqb-true conn c same) ∙ b.owned h c at)))
  | inr never ↦ never
]

harmless : (limit : ℕ) (on : List ℕ → Bool) (r : Room) (h j conn c : ℕ) (x : Bool) → Base limit on r → r.last j ≡ Some conn → r.last h ≡ Some c → (j ≡ h → x ≡ false) → (eqb conn c && x) ≡ false
harmless limit on r h j conn c x b own at quiet = elim (cases_Bool (eqb j h)) [
  | inl same ↦ and_right _ _ (quiet (eqb-true j h same))
  | inr never ↦ and_left _ _ (not-host limit on r h j conn c b own at (λ same. true≢false (sym (eq-eqb j h same) ∙ never)))
]

packet-taken : Facts → (limit : ℕ) (on : List ℕ → Bool) (h k : ℕ) (r : Room) (ps : List ℕ) (n now : ℕ) (busy : Bool) (j : ℕ) (p : Packet) (x : Bool) → limit ≤ 65535 →
    ((eqb j k && is_publish_on on p) ≡ x) → MaySay on k h j (Says p) → is_full (after limit r.events) ≡ false → r.pending ≡ [] → r.untold ≡ [] →
    State limit on h k r ps n busy → State limit on h k (packet_on limit now r j p (conn_at limit r j)) ps (cond x (n + 1) n) x
packet-taken f limit on h k r ps n now busy j p x small numbered says room none told st = by (conn_at limit r j) refl
  where
    says-plain : x ≡ true → (j ≡ k) × IsPlainOn on p
    says-plain e = let parts = and_parts _ _ (numbered ∙ e) in (eqb-true j k parts.0, says.0 (eqb-true j k parts.0) parts.1)

    there : (conn : ℕ) → conn_at limit r j ≡ Some conn → (y : Bool) → x ≡ y → State limit on h k (called limit r (event.Packet conn p now)) ps (cond y (n + 1) n) y
    there conn at true e =
        let is = known-some (after limit r.events) (r.last j) conn at in
        let plain = says-plain e in
        subst (λ q. State limit on h k (called limit r (event.Packet conn q now)) ps (n + 1) true) (sym plain.1.2)
        (relayed f limit on h k r ps n busy conn now plain.1.0 plain.1.1 small plain.1.3 plain.1.4 none told (ap r.last (sym plain.0) ∙ is.0) is.1 st)
    there conn at false e =
        let is = known-some (after limit r.events) (r.last j) conn at in
        quiet-after limit on h k r (called limit r (event.Packet conn p now)) ps n busy none
        (passes-called f limit on h k r (event.Packet conn p now) small refl says.1
        (λ c own. (harmless limit on r h j conn c (is_disconnect p) st.base is.0 own says.2, harmless limit on r h j conn c (is_unsubscribe p) st.base is.0 own says.3))
        st.base st.joined) st

    first : conn_at limit r j ≡ None → r.closed j ≡ false → (y : Bool) → x ≡ y →
        State limit on h k (called limit (opened limit now r j) (event.Packet (next_conn limit r) p now)) ps (cond y (n + 1) n) y
    first never standing true e =
        let plain = says-plain e in
        subst (λ q. State limit on h k (called limit (opened limit now r j) (event.Packet (next_conn limit r) q now)) ps (n + 1) true) (sym plain.1.2)
        (subst (λ i. State limit on h k (called limit (opened limit now r i) (event.Packet (next_conn limit r) (plain_publish plain.1.0 plain.1.1) now)) ps (n + 1) true) (sym plain.0)
        (unjoined f limit on h k r ps n busy now plain.1.0 plain.1.1 small told (ap (conn_at limit r) (sym plain.0) ∙ never) (ap r.closed (sym plain.0) ∙ standing) st))
    first never standing false e =
        quiet-after limit on h k r (called limit (opened limit now r j) (event.Packet (next_conn limit r) p now)) ps n busy none
        (passes-first f limit on h k r j now p small never standing says.1 st.base st.joined) st

    over : conn_at limit r j ≡ None → r.closed j ≡ true → (y : Bool) → x ≡ y → State limit on h k r ps (cond y (n + 1) n) y
    over never shut true e =
        let same = (says-plain e).0 in
        lost limit on h k r ps n busy none told (ap r.closed (sym same) ∙ shut, ap (conn_at limit r) (sym same) ∙ never) st
    over never shut false e = idle limit on h k r ps n busy none st

    without : conn_at limit r j ≡ None → (c y : Bool) → r.closed j ≡ c → is_full (after limit r.events) ≡ y → y ≡ false →
        State limit on h k (cond (not c && not y) (called limit (opened limit now r j) (event.Packet (next_conn limit r) p now)) r) ps (cond x (n + 1) n) x
    without never true y at full e = over never at x refl
    without never false true at full e = absurd (true≢false e)
    without never false false at full e = first never at x refl

    by : (o : Option ℕ) → conn_at limit r j ≡ o → State limit on h k (packet_on limit now r j p o) ps (cond x (n + 1) n) x
    by (Some conn) at = there conn at x refl
    by None at = without at (r.closed j) (is_full (after limit r.events)) refl refl room

frame-taken : Facts → (limit edges : ℕ) (on : List ℕ → Bool) (h k : ℕ) (r : Room) (ps : List ℕ) (n : ℕ) (busy : Bool) (taken : List _) (j : ℕ) (i : Input) (x : Bool) → limit ≤ 65535 →
    (eqb j k && is_on on i) ≡ x → MaySay on k h j i → is_full (after limit r.events) ≡ false → r.pending ≡ [] → r.untold ≡ [] →
    State limit on h k r ps n busy → State limit on h k (took limit edges taken r j i) ps (cond x (n + 1) n) x
frame-taken f limit edges on h k r ps n busy taken j (Says p) x small numbered says room none told st =
    packet-taken f limit on h k r ps n (length taken) busy j p x small numbered says room none told st
frame-taken f limit edges on h k r ps n busy taken j (Breaks g) x small numbered says room none told st = quiet x numbered
  where
    by : (o : Option ℕ) → conn_at limit r j ≡ o → State limit on h k (called_on limit r (λ conn. event.Fault conn g (length taken)) o) ps n false
    by (Some conn) at = quiet-after limit on h k r (called limit r (event.Fault conn g (length taken))) ps n busy none
        (passes-called f limit on h k r (event.Fault conn g (length taken)) small refl (λ one other y z. tt) (λ c own. (refl, refl)) st.base st.joined) st
    by None at = idle limit on h k r ps n busy none st

    quiet : (x : Bool) → (eqb j k && false) ≡ x → State limit on h k (called_on limit r (λ conn. event.Fault conn g (length taken)) (conn_at limit r j)) ps (cond x (n + 1) n) x
    quiet true e = absurd (true≢false (sym e ∙ and_right _ _ refl))
    quiet false e = by (conn_at limit r j) refl
frame-taken f limit edges on h k r ps n busy taken j Cuts x small numbered says room none told st = quiet x numbered
  where
    by : (o : Option ℕ) → conn_at limit r j ≡ o → State limit on h k (called_on limit r (λ conn. event.Closed conn (length taken)) o) ps n false
    by (Some conn) at =
        let is = known-some (after limit r.events) (r.last j) conn at in
        quiet-after limit on h k r (called limit r (event.Closed conn (length taken))) ps n busy none
        (passes-called f limit on h k r (event.Closed conn (length taken)) small refl (λ one other y z. tt)
        (λ c own. (not-host limit on r h j conn c st.base is.0 own says, refl)) st.base st.joined) st
    by None at = idle limit on h k r ps n busy none st

    quiet : (x : Bool) → (eqb j k && false) ≡ x → State limit on h k (called_on limit r (λ conn. event.Closed conn (length taken)) (conn_at limit r j)) ps (cond x (n + 1) n) x
    quiet true e = absurd (true≢false (sym e ∙ and_right _ _ refl))
    quiet false e = by (conn_at limit r j) refl
frame-taken f limit edges on h k r ps n busy taken j Ends x small numbered says room none told st = quiet x numbered
  where
    quiet : (x : Bool) → (eqb j k && false) ≡ x → State limit on h k (record r { over = r.over || have_ended edges taken }) ps (cond x (n + 1) n) x
    quiet true e = absurd (true≢false (sym e ∙ and_right _ _ refl))
    quiet false e = all-ended limit on h k r ps n busy (have_ended edges taken) none st

-- ---- a log

pub state-of : Facts → (limit edges : ℕ) (on : List ℕ → Bool) (k : ℕ) → limit ≤ 65535 → (l : List Entry) → IsLog limit edges l → AllMaySay on k edges l → HasPlaces limit edges l →
    State limit on edges k (room_of limit edges l) (shown on k edges l) (count_numbered on k l) (is_relaying on k l)
state-of f limit edges on k small [] log says room = fresh-state f limit on edges k
state-of f limit edges on k small (Took m i ∷ l) log says room =
    frame-taken f limit edges on edges k (room_of limit edges l) (shown on k edges l) (count_numbered on k l) (is_relaying on k l) (taken_of (Took m i ∷ l)) m.sender i
    (is_numbered on k m i) small refl says.0 room.0 log.1.1 log.1.2 (state-of f limit edges on k small l log.0 says.1 room.1)
state-of f limit edges on k small (Accepted j o ∷ l) log says room =
    accepted f limit on edges k (room_of limit edges l) (shown on k edges l) (count_numbered on k l) (is_relaying on k l) j o log.1.0 log.1.1 (state-of f limit edges on k small l log.0 says room)
state-of f limit edges on k small (Refused j o ∷ l) log says room =
    refused limit on edges k (room_of limit edges l) (shown on k edges l) (count_numbered on k l) (is_relaying on k l) j o log.1.0 log.1.1 (state-of f limit edges on k small l log.0 says room)
state-of f limit edges on k small (Passed o ∷ l) log says room =
    passed limit on edges k (room_of limit edges l) (shown on k edges l) (count_numbered on k l) (is_relaying on k l) o log.1.0 log.1.1 (state-of f limit edges on k small l log.0 says room)
state-of f limit edges on k small (Told o ∷ l) log says room =
    is-told f limit on edges k (room_of limit edges l) (shown on k edges l) (count_numbered on k l) (length (taken_of l)) (is_relaying on k l) o small log.1.0 log.1.1 (state-of f limit edges on k small l log.0 says room)

pub few : Facts → (limit edges : ℕ) (on : List ℕ → Bool) (k : ℕ) → limit ≤ 65535 → (l : List Entry) → IsLog limit edges l → AllMaySay on k edges l → HasPlaces limit edges l →
    IsFew limit (count_numbered on k l) (shown on k edges l)
few f limit edges on k small l log says room =
    let st = state-of f limit edges on k small l log says room in
    record { rising = st.rising; few = st.few; within = st.within }
