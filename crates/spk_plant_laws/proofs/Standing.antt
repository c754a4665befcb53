-- A ring stands until the broker closes its client or all edge nodes have ended; and no message of a node is taken behind its end.
use Rattle.std.proofs.Common.{◌≡◌, inl, inr, sym, ap, refl, subst, ◌∙◌, ℕ, zero, suc, ◌+◌, ◌<◌, Bool, true, false, not, ◌&&◌, ◌||◌, cond, eqb, List, [], ◌∷◌, ◌++◌, length, Option, Some, None, arith, true≢false, eq-eqb, append_assoc, append-nil}
use Rattle.std.specs.List.{list_any}
use Rattle.std.proofs.lemmas.Bool.{and_from, and_parts, cases_Bool, cases_eq, not_from_false, or_cases, or_from, or_left, or_parts, or_right}
use Rattle.spk_packets.specs.Message.{Message as Packet}
use Rattle.spk_packets.specs.Spelling.{spelling}
use Rattle.spk_ingress.specs.Lanes.{share_of}
use Rattle.spk_ingress.specs.declared.frame.Frame.{Frame}
use Rattle.spk_ingress.specs.declared.frame.Frame.TheVariants as frame
use Rattle.spk_ingress.specs.declared.rule.Message.{Message}
use Rattle.spk_broker_rules.specs.Plan as event
use Rattle.spk_broker_rules.specs.Plan.{Event}
use Rattle.spk_broker_rules.specs.Step.{after}
use Rattle.spk_plant_broker.specs.Data.{Input, Says, Breaks, Cuts, Ends, Entry, Took, Accepted, Refused, Passed, Told, Room}
use Rattle.spk_plant_broker.specs.Log.{room_of, taken_of}
use Rattle.spk_plant_broker.specs.Step.{behind, called, called_on, conn_at, has_ended, have_ended, is_dropped, is_end, known, may_open, next_conn, opened, packet_on, told, took}
use Rattle.spk_edge_rules.specs.Answers.{Answer}
use Rattle.spk_edge_rules.specs.Config.{Setup}
use Rattle.spk_edge_rules.specs.Inputs as edge
use Rattle.spk_edge_rules.specs.Run.{right_at, run_of}
use Rattle.spk_edge_rules.specs.declared.fault.EdgeFault.{EdgeFault}
use Rattle.spk_plant_edge.specs.Frames.{cut_if, frames_at, frames_by, frames_of, is_cut, packet_frame}

no-yes : false ≡ true → ⊥
no-yes e = true≢false (sym e)

-- ---- lists

any-front : {X : Type 0} (p : X → Bool) (xs ys : List X) → list_any p xs ≡ true → list_any p (xs ++ ys) ≡ true
any-front p [] ys e = absurd (no-yes e)
any-front p (x ∷ xs) ys e = elim (or_cases (p x) (list_any p xs) e) [
  | inl here ↦ or_left (p x) (list_any p (xs ++ ys)) here
  | inr later ↦ or_right (p x) (list_any p (xs ++ ys)) (any-front p xs ys later)
]

none-both : {X : Type 0} (p : X → Bool) (xs ys : List X) → list_any p xs ≡ false → list_any p ys ≡ false → list_any p (xs ++ ys) ≡ false
none-both p [] ys e f = f
none-both p (x ∷ xs) ys e f =
    let parts = or_parts (p x) (list_any p xs) e in
    or_from (p x) (list_any p (xs ++ ys)) parts.0 (none-both p xs ys parts.1 f)

-- ---- who has ended

ended-share : (k : ℕ) (ms : List Message) → has_ended k ms ≡ list_any is_end (share_of k ms)
ended-share k [] = refl
ended-share k (m ∷ ms) = by (eqb m.sender k) (ended-share k ms)
  where
    by : (b : Bool) → has_ended k ms ≡ list_any is_end (share_of k ms) →
        (b && is_end m.frame || has_ended k ms) ≡ list_any is_end (cond b (m.frame ∷ share_of k ms) (share_of k ms))
    by true e = ap (λ z. is_end m.frame || z) e
    by false e = e

have-more : (n : ℕ) (ms : List Message) (m : Message) → have_ended n ms ≡ true → have_ended n (ms ++ m ∷ []) ≡ true
have-more zero ms m e = refl
have-more (suc n) ms m e =
    let parts = and_parts (has_ended n ms) (have_ended n ms) e in
    and_from (has_ended n (ms ++ m ∷ [])) (have_ended n (ms ++ m ∷ [])) (any-front (λ (x : Message). eqb x.sender n && is_end x.frame) ms (m ∷ []) parts.0) (have-more n ms m parts.1)

each-ended : (n : ℕ) (ms : List Message) (k : ℕ) → k < n → have_ended n ms ≡ true → has_ended k ms ≡ true
each-ended zero ms k low e = absurd (omega (arith, low))
each-ended (suc n) ms k low e =
    let parts = and_parts (has_ended n ms) (have_ended n ms) e in
    elim (cases_eq k n) [
      | inl same ↦ ap (λ j. has_ended j ms) same ∙ parts.0
      | inr other ↦ each-ended n ms k (omega (arith, low, other)) parts.1
    ]

-- ---- what an entry leaves of `over` and `closed`

packet-over : (limit now : ℕ) (r : Room) (k : ℕ) (p : Packet) (o : Option ℕ) → (packet_on limit now r k p o).over ≡ r.over
packet-over limit now r k p (Some conn) = refl
packet-over limit now r k p None = by (may_open limit r k)
  where
    by : (b : Bool) → (cond b (called limit (opened limit now r k) (event.Packet (next_conn limit r) p now)) r).over ≡ r.over
    by true = refl
    by false = refl

on-over : (limit : ℕ) (r : Room) (at : ℕ → Event) (o : Option ℕ) → (called_on limit r at o).over ≡ r.over
on-over limit r at None = refl
on-over limit r at (Some conn) = refl

packet-closed : (limit now : ℕ) (r : Room) (k : ℕ) (p : Packet) (h : ℕ) (o : Option ℕ) → (packet_on limit now r k p o).closed h ≡ false → r.closed h ≡ false
packet-closed limit now r k p h (Some conn) e = (or_parts (r.closed h) _ e).0
packet-closed limit now r k p h None e = by (may_open limit r k) e
  where
    by : (b : Bool) → (cond b (called limit (opened limit now r k) (event.Packet (next_conn limit r) p now)) r).closed h ≡ false → r.closed h ≡ false
    by true e = (or_parts (r.closed h) _ e).0
    by false e = e

on-closed : (limit : ℕ) (r : Room) (at : ℕ → Event) (h : ℕ) (o : Option ℕ) → (called_on limit r at o).closed h ≡ false → r.closed h ≡ false
on-closed limit r at h None e = e
on-closed limit r at h (Some conn) e = (or_parts (r.closed h) _ e).0

-- ---- all rings are dropped only where all edge nodes have ended

pub over-ended : (limit edges : ℕ) (l : List Entry) → (room_of limit edges l).over ≡ true → have_ended edges (taken_of l) ≡ true
over-ended limit edges [] e = absurd (no-yes e)
over-ended limit edges (Took m i ∷ l) e = by (λ is. have-more edges (taken_of l) m (over-ended limit edges l is)) i e
  where
    r : Room
    r = room_of limit edges l

    by : (r.over ≡ true → have_ended edges (taken_of l ++ m ∷ []) ≡ true) → (i : Input) → (took limit edges (taken_of l ++ m ∷ []) r m.sender i).over ≡ true → have_ended edges (taken_of l ++ m ∷ []) ≡ true
    by old (Says p) e = old (sym (packet-over limit (length (taken_of l ++ m ∷ [])) r m.sender p (conn_at limit r m.sender)) ∙ e)
    by old (Breaks g) e = old (sym (on-over limit r (λ conn. event.Fault conn g (length (taken_of l ++ m ∷ []))) (conn_at limit r m.sender)) ∙ e)
    by old Cuts e = old (sym (on-over limit r (λ conn. event.Closed conn (length (taken_of l ++ m ∷ []))) (conn_at limit r m.sender)) ∙ e)
    by old Ends e = elim (or_cases r.over (have_ended edges (taken_of l ++ m ∷ [])) e) [ inl is ↦ old is | inr now ↦ now ]
over-ended limit edges (Accepted j o ∷ l) e = over-ended limit edges l e
over-ended limit edges (Refused j o ∷ l) e = over-ended limit edges l e
over-ended limit edges (Passed o ∷ l) e = over-ended limit edges l e
over-ended limit edges (Told o ∷ l) e = over-ended limit edges l
    (sym (on-over limit (record (room_of limit edges l) { untold = behind (room_of limit edges l).untold }) (λ conn. event.Refused conn o.sort (length (taken_of l)))
    (known (after limit (room_of limit edges l).events) (Some o.conn))) ∙ e)

-- ---- whom the broker closed stays closed

pub closed-last : (limit edges h : ℕ) (e : Entry) (l : List Entry) → (room_of limit edges (e ∷ l)).closed h ≡ false → (room_of limit edges l).closed h ≡ false
closed-last limit edges h (Took m i) l e = by i e
  where
    r : Room
    r = room_of limit edges l

    by : (i : Input) → (took limit edges (taken_of l ++ m ∷ []) r m.sender i).closed h ≡ false → r.closed h ≡ false
    by (Says p) e = packet-closed limit (length (taken_of l ++ m ∷ [])) r m.sender p h (conn_at limit r m.sender) e
    by (Breaks g) e = on-closed limit r (λ conn. event.Fault conn g (length (taken_of l ++ m ∷ []))) h (conn_at limit r m.sender) e
    by Cuts e = on-closed limit r (λ conn. event.Closed conn (length (taken_of l ++ m ∷ []))) h (conn_at limit r m.sender) e
    by Ends e = e
closed-last limit edges h (Accepted j o) l e = e
closed-last limit edges h (Refused j o) l e = e
closed-last limit edges h (Passed o) l e = e
closed-last limit edges h (Told o) l e =
    on-closed limit (record (room_of limit edges l) { untold = behind (room_of limit edges l).untold }) (λ conn. event.Refused conn o.sort (length (taken_of l))) h
    (known (after limit (room_of limit edges l).events) (Some o.conn)) e

pub closed-before : (limit edges h : ℕ) (later before : List Entry) → (room_of limit edges (later ++ before)).closed h ≡ false → (room_of limit edges before).closed h ≡ false
closed-before limit edges h [] before e = e
closed-before limit edges h (x ∷ later) before e = closed-before limit edges h later before (closed-last limit edges h x (later ++ before) e)

-- not all of them have
pub ringing : (limit edges : ℕ) (l : List Entry) → have_ended edges (taken_of l) ≡ false → (room_of limit edges l).over ≡ false
ringing limit edges l going = elim (cases_Bool (room_of limit edges l).over) [
  | inl over ↦ absurd (true≢false (sym (over-ended limit edges l over) ∙ going))
  | inr never ↦ never
]

-- a ring that stands
pub stands : (limit edges h : ℕ) (l : List Entry) → (room_of limit edges l).closed h ≡ false → have_ended edges (taken_of l) ≡ false →
    not (is_dropped (room_of limit edges l).over (room_of limit edges l).closed h) ≡ true
stands limit edges h l uncut going = not_from_false _ (or_from (room_of limit edges l).over ((room_of limit edges l).closed h) (ringing limit edges l going) uncut)

-- ---- a node's end is the last of its frames

packets-go-on : (ps : List Packet) → list_any is_end (Rattle.std.proofs.Common.map packet_frame ps) ≡ false
packets-go-on [] = refl
packets-go-on (p ∷ ps) = packets-go-on ps

cut-goes-on : (b : Bool) → list_any is_end (cut_if b) ≡ false
cut-goes-on true = refl
cut-goes-on false = refl

answer-goes-on : (act : edge.Act) (res : Rattle.std.proofs.Common.Result Answer EdgeFault) → list_any is_end (frames_by act res) ≡ false
answer-goes-on act (Rattle.std.proofs.Common.Ok answer) =
    none-both is_end (Rattle.std.proofs.Common.map packet_frame answer.packets) (cut_if (is_cut act || answer.given.close)) (packets-go-on answer.packets) (cut-goes-on (is_cut act || answer.given.close))
answer-goes-on act (Rattle.std.proofs.Common.Err fault) = refl

frames-go-on : (s : Setup) (is : List edge.Input) → list_any is_end (frames_of s is) ≡ false
frames-go-on s [] = refl
frames-go-on s (i ∷ is) = none-both is_end (frames_of s is) (frames_at s is i) (frames-go-on s is) (answer-goes-on i.act (right_at s (run_of s is) i))

-- what stands before the last but one
front : (xs : List Frame) (f : Frame) (rest fs : List Frame) → (xs ++ f ∷ []) ++ rest ≡ fs ++ frame.End ∷ [] → list_any is_end fs ≡ false → list_any is_end xs ≡ false
front [] f rest fs e none = refl
front (x ∷ xs) f rest [] e none = absurd (nothing xs e)
  where
    nothing : (ys : List Frame) → x ∷ ((ys ++ f ∷ []) ++ rest) ≡ frame.End ∷ [] → ⊥
    nothing [] e = let none : ⊥ = cc in none
    nothing (y ∷ ys) e = let none : ⊥ = cc in none
front (x ∷ xs) f rest (g ∷ fs) e none =
    let parts = or_parts (is_end g) (list_any is_end fs) none in
    let same : x ≡ g = cc in
    let later : (xs ++ f ∷ []) ++ rest ≡ fs ++ frame.End ∷ [] = cc in
    or_from (is_end x) (list_any is_end xs) (ap is_end same ∙ parts.0) (front xs f rest fs later parts.1)

share-more : (k : ℕ) (xs ys : List Message) → share_of k (xs ++ ys) ≡ share_of k xs ++ share_of k ys
share-more k [] ys = refl
share-more k (x ∷ xs) ys = by (eqb x.sender k) (share-more k xs ys)
  where
    by : (b : Bool) → share_of k (xs ++ ys) ≡ share_of k xs ++ share_of k ys →
        cond b (x.frame ∷ share_of k (xs ++ ys)) (share_of k (xs ++ ys)) ≡ cond b (x.frame ∷ share_of k xs) (share_of k xs) ++ share_of k ys
    by true e = ap (λ l. x.frame ∷ l) e
    by false e = e

taken-more : (later before : List Entry) → (ms : List Message) × (taken_of (later ++ before) ≡ taken_of before ++ ms)
taken-more [] before = ([], sym (append-nil (taken_of before)))
taken-more (Took m i ∷ later) before = let rest = taken-more later before in (rest.0 ++ m ∷ [], ap (λ xs. xs ++ m ∷ []) rest.1 ∙ append_assoc (taken_of before) rest.0 (m ∷ []))
taken-more (Accepted j o ∷ later) before = taken-more later before
taken-more (Refused j o ∷ later) before = taken-more later before
taken-more (Passed o ∷ later) before = taken-more later before
taken-more (Told o ∷ later) before = taken-more later before

-- so where a frame of a node is taken, rings stand but for those of whom the broker closed
pub rings-on : (limit edges k : ℕ) (s : Setup) (is : List edge.Input) (later l : List Entry) (m : Message) (i : Input) → k < edges →
    share_of k (taken_of (later ++ Took m i ∷ l)) ≡ frames_of s is ++ frame.End ∷ [] → eqb m.sender k ≡ true → (room_of limit edges l).over ≡ false
rings-on limit edges k s is later l m i low put own = elim (cases_Bool (room_of limit edges l).over) [
  | inl over ↦ absurd (true≢false (sym (sym (ended-share k (taken_of l)) ∙ each-ended edges (taken_of l) k low (over-ended limit edges l over)) ∙ none))
  | inr never ↦ never
]
  where
    rest : (ms : List Message) × (taken_of (later ++ Took m i ∷ l) ≡ (taken_of l ++ m ∷ []) ++ ms)
    rest = taken-more later (Took m i ∷ l)

    shares : share_of k (taken_of (later ++ Took m i ∷ l)) ≡ (share_of k (taken_of l) ++ m.frame ∷ []) ++ share_of k rest.0
    shares = ap (share_of k) rest.1 ∙ share-more k (taken_of l ++ m ∷ []) rest.0
        ∙ ap (λ xs. xs ++ share_of k rest.0) (share-more k (taken_of l) (m ∷ []) ∙ ap (λ b. share_of k (taken_of l) ++ cond b (m.frame ∷ []) []) own)

    none : list_any is_end (share_of k (taken_of l)) ≡ false
    none = front (share_of k (taken_of l)) m.frame (share_of k rest.0) (frames_of s is) (sym shares ∙ put) (frames-go-on s is)
