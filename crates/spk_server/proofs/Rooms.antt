-- What a server holds after a step of a call, as a room.
use Rattle.std.proofs.Common.{◌≡◌, ◌≢◌, ◌⊎◌, inl, inr, ℕ, ◌-◌, ◌==◌, nat_lt, if◌then◌else◌, Contains, arith, Bool, true, false, List, [], ◌∷◌, ◌++◌, length, map, Option, Some, None, refl, sym, ◌∙◌, ap, subst}
use Rattle.std.proofs.Math.Path.{fun_ext}
use Rattle.std.proofs.lemmas.Bool.{ltb-false}
use Rattle.std.proofs.lemmas.Bool.Decides.{eqb_tells}
use Rattle.std.proofs.lemmas.List.{append-nil}
use Rattle.std.specs.Option.{IfSome, option_map, option_map_or}
use Rattle.spk_session.specs.declared.answer.Sort.{Sort}
use Rattle.spk_session.specs.declared.answer.Sort.TheVariants as sort
use Rattle.spk_broker.specs.Sent.{Sent, outgoing}
use Rattle.spk_broker.specs.declared.out.Out.{Out}
use Rattle.spk_broker_notes.specs.Noted.{Noted}
use Rattle.spk_broker_notes.specs.Noted as note
use Rattle.spk_broker_rules.specs.Plan.{Event}
use Rattle.spk_broker_rules.specs.Plan as event
use Rattle.spk_broker_rules.specs.Step.{step}
use Rattle.spk_clients.specs.declared.cause.Cause.{Cause}
use Rattle.spk_clients.specs.declared.cause.Cause.TheVariants as cause
use Rattle.spk_clients.specs.declared.client.Client.{Client}
use Rattle.spk_clients.specs.declared.client.Offered.{Offered}
use Rattle.spk_clients.specs.declared.client.Offered.TheVariants.{Taken, Refused, Passed}
use Rattle.spk_clients.specs.declared.clients.Clients.{Clients}
use Rattle.spk_clients.specs.Client.{fresh_client, has_many, is_untold, leaves, sort_untold, told}
use Rattle.spk_clients.specs.Data.{Becomes, IsSettled, OfferedTo, OthersStay, client_at}
use Rattle.spk_server.specs.declared.server.Server.{Server}
use Rattle.spk_server.specs.Answers.{AnswersOn}
use Rattle.spk_server.specs.Data.{Close, Offer, Room, Slow}
use Rattle.spk_server.specs.Data as deed
use Rattle.spk_server.specs.declared.tally.Tally.{Tally}
use Rattle.spk_server.specs.Step.{joined, called, called_on, cause_of, change, changed, closes_of, grace, later, left, offer_of, offered, packet_of, slowed}
use Rattle.spk_server.specs.Tallies.{handed_with, is_message}
use Rattle.spk_server.specs.Log.{IsRested, MayFall, Reaches, follows}
use Rattle.spk_server.specs.Rooms.{amid, closes_in, offers_in, offers_of, pressed, room_of}
use Rattle.spk_server.proofs.Runs.{at_end, begins, stays}

-- ---- clients

-- one place is what it should be, and no other changed
pub placed_is : (conn : ℕ) (c : Option Client) (old new : ℕ → Option Client) → new conn ≡ c → ((k : ℕ) → k ≢ conn → new k ≡ old k) → new ≡ (λ k. if k == conn then c else old k)
placed_is conn c old new here others = fun_ext λ k.
    elim (eqb_tells k conn) [
      | inl p ↦ ap new p.1 ∙ here ∙ sym (ap (λ b. if b then c else old k) p.0)
      | inr p ↦ others k p.1 ∙ sym (ap (λ b. if b then c else old k) p.0)
    ]

pub change_is : (f : Client → Client) (conn : ℕ) (old new : Clients) → Becomes f conn old new → client_at new ≡ change f conn (client_at old)
change_is f conn old new b = fun_ext λ k.
    elim (eqb_tells k conn) [
      | inl p ↦ ap (client_at new) p.1 ∙ b.0 ∙ ap (λ q. option_map f (client_at old q)) (sym p.1) ∙ sym (ap (λ b. if b then option_map f (client_at old k) else client_at old k) p.0)
      | inr p ↦ b.1 k p.1 ∙ sym (ap (λ b. if b then option_map f (client_at old k) else client_at old k) p.0)
    ]

pub all_stay_is : (old new : Clients) → ((k : ℕ) → client_at new k ≡ client_at old k) → client_at new ≡ client_at old
all_stay_is old new h = fun_ext h

pub same_after : (conn : ℕ) (old new : Clients) → client_at new conn ≡ client_at old conn → OthersStay conn old new → client_at new ≡ client_at old
same_after conn old new here others = fun_ext λ k.
    elim (eqb_tells k conn) [
      | inl p ↦ ap (client_at new) p.1 ∙ here ∙ ap (client_at old) (sym p.1)
      | inr p ↦ others k p.1
    ]

-- ---- an answer of the broker

pub answered_is : (by : Option ℕ) (conn : ℕ) (old new : Noted) (e : Event) (o : Option Out) (r : Room) → AnswersOn conn old new e o
    → called_on by conn e (record r { noted = old; pending = []; closing = [] }) ≡ record r { noted = new; pending = offers_in by o; closing = closes_in (packet_of e) (cause_of e) o }
answered_is by conn old new e None r a =
    ap (λ b. if b then called by e (record r { noted = old; pending = []; closing = [] }) else (record r { noted = old; pending = []; closing = [] })) a.0
    ∙ ap (λ b. record r { noted = b; pending = []; closing = [] }) (sym a.1)
answered_is by conn old new e (Some out) r a =
    ap (λ b. if b then called by e (record r { noted = old; pending = []; closing = [] }) else (record r { noted = old; pending = []; closing = [] })) a.0
    ∙ ap (λ b. record r { noted = b; pending = map (offer_of by) (map outgoing (step old.broker e).sends); closing = closes_of (packet_of e) (cause_of e) (step old.broker e).closes }) (sym a.1.done)
    ∙ ap (λ ss. record r { noted = new; pending = map (offer_of by) ss; closing = closes_of (packet_of e) (cause_of e) (step old.broker e).closes }) (sym a.1.sends)
    ∙ ap (λ cs. record r { noted = new; pending = offers_of by out.sends.items; closing = closes_of (packet_of e) (cause_of e) cs }) (sym a.1.closes)

-- ---- handing out

pub pressed_none : (r : Option ℕ) (before : Option Slow) → pressed None r before ≡ before
pressed_none None before = refl
pressed_none (Some c) before = refl

may_fall : (s : Sort) (bytes : List ℕ) (fate : Offered) (c d : Option Client) → OfferedTo s bytes c fate d → MayFall fate c
may_fall s bytes Taken (Some c) (Some d) h = h.0
may_fall s bytes Refused (Some c) (Some d) h = (h.0, h.1)
may_fall s bytes Passed (Some c) (Some d) h = h.0
may_fall s bytes Passed None None h = tt
may_fall s bytes Taken None None h = cc
may_fall s bytes Refused None None h = cc
may_fall s bytes Taken None (Some d) h = absurd h
may_fall s bytes Refused None (Some d) h = absurd h
may_fall s bytes Passed None (Some d) h = absurd h
may_fall s bytes Taken (Some c) None h = absurd h
may_fall s bytes Refused (Some c) None h = absurd h
may_fall s bytes Passed (Some c) None h = absurd h

offered_is : (s : Sent) (fate : Offered) (c d : Option Client) → OfferedTo s.sort s.bytes c fate d → d ≡ option_map (offered s fate) c
offered_is s Taken (Some c) (Some d) h = ap Some h.1
offered_is s Refused (Some c) (Some d) h = ap Some h.2
offered_is s Passed (Some c) (Some d) h = ap Some h.1
offered_is s Passed None None h = refl
offered_is s Taken None None h = refl
offered_is s Refused None None h = refl
offered_is s Taken None (Some d) h = absurd h
offered_is s Refused None (Some d) h = absurd h
offered_is s Passed None (Some d) h = absurd h
offered_is s Taken (Some c) None h = absurd h
offered_is s Refused (Some c) None h = absurd h
offered_is s Passed (Some c) None h = absurd h

slowed_is : (by : Option ℕ) (s : Sent) (many : Bool) (slow : Option ℕ) (before : Option Slow)
    → (if many then option_map_or (λ (p : ℕ). Some (record { publisher = p; client = s.conn })) by (pressed by slow before) else pressed by slow before)
    ≡ pressed by (if many then Some s.conn else slow) before
slowed_is None s true None before = refl
slowed_is None s true (Some c) before = refl
slowed_is (Some p) s true slow before = refl
slowed_is by s false slow before = refl

pub handed_is : (old : Server) (n : Clients) (t : Tally) (s : Sent) (fate : Offered) (many : Bool) (slow r : Option ℕ)
    → OfferedTo s.sort s.bytes (client_at old.clients s.conn) fate (client_at n s.conn)
    → OthersStay s.conn old.clients n
    → many ≡ option_map_or (has_many false) (client_at n s.conn) false
    → t ≡ handed_with fate (is_message s.bytes) old.tally
    → r ≡ (if many then Some s.conn else slow)
    → (by : Option ℕ) (rest : List Offer) (closes : List Close) (before : Option Slow)
    → Reaches follows (amid old (offer_of by s ∷ rest) closes (pressed by slow before)) (amid (record old { clients = n; tally = t }) rest closes (pressed by r before))
handed_is old n t s fate many slow r h others has counted is by rest closes before =
    let here : client_at n s.conn ≡ option_map (offered s fate) (client_at old.clients s.conn) = offered_is s fate _ _ h in
    let clients : client_at n ≡ change (offered s fate) s.conn (client_at old.clients) = change_is (offered s fate) s.conn old.clients n (here, others) in
    let slows : slowed (offer_of by s) (option_map (offered s fate) (client_at old.clients s.conn)) (pressed by slow before) ≡ pressed by r before =
    ap (λ c. slowed (offer_of by s) c (pressed by slow before)) (sym here)
    ∙ ap (λ b. if b then option_map_or (λ (p : ℕ). Some (record { publisher = p; client = s.conn })) by (pressed by slow before) else pressed by slow before) (sym has)
    ∙ slowed_is by s many slow before
    ∙ ap (λ x. pressed by x before) (sym is) in
    begins follows (deed.Handed (offer_of by s) fate) (amid old (offer_of by s ∷ rest) closes (pressed by slow before)) _ refl
    ((rest, refl), may_fall s.sort s.bytes fate (client_at old.clients s.conn) (client_at n s.conn) h)
    (at_end follows _ _ _ (stays follows _)
    (ap (λ cs. record (amid old rest closes (slowed (offer_of by s) (option_map (offered s fate) (client_at old.clients s.conn)) (pressed by slow before))) { clients = cs; tally = handed_with fate (is_message s.bytes) old.tally }) (sym clients)
    ∙ ap (λ x. record (amid old rest closes x) { clients = client_at n; tally = handed_with fate (is_message s.bytes) old.tally }) slows
    ∙ ap {A = Tally} {B = Room} (λ x. record (amid old rest closes (pressed by r before)) { clients = client_at n; tally = x }) (sym counted)))

-- the end of the first of those who are to be closed
pub shut_is : (old new : Server) (q : Close) (rest : List Close) (slow : Option Slow)
    → room_of new ≡ changed (leaves (later grace old.now) q.cause) q.conn (room_of old)
    → Reaches follows (amid old [] (q ∷ rest) slow) (amid new [] rest slow)
shut_is old new q rest slow e =
    begins follows (deed.Shut q) (amid old [] (q ∷ rest) slow) (amid new [] rest slow) refl (refl, (rest, refl))
    (at_end follows _ _ _ (stays follows _) (ap {A = Room} {B = Room} (λ r. record r { pending = []; closing = rest; slow = slow }) (sym e)))

-- ---- ends

pub left_is : (old new : Server) (b : Noted) (conn : ℕ) (why : Cause) (o : Option Out) (before : Option Slow)
    → room_of new ≡ changed (leaves (later grace old.now) why) conn (room_of old)
    → AnswersOn conn new.noted b (event.Closed conn new.now) o
    → left conn why (amid old [] [] before) ≡ amid (record new { noted = b }) (offers_in None o) (closes_in None cause.Slow o) before
left_is old new b conn why o before e a =
    ap {A = Room} {B = Room} (λ r. called_on None conn (event.Closed conn r.now) (record r { pending = []; closing = []; slow = before })) (sym e)
    ∙ answered_is None conn new.noted b (event.Closed conn new.now) o (amid new [] [] before) a

-- ---- the broker is told

told_parts : (c : Client) (l b : Bool) → c.lost ≡ l → nat_lt 0 c.drops ≡ b → (if l then Some sort.Other else (if b then Some sort.QosZero else None)) ≡ None
    → (if l then record c { lost = false } else (record c { drops = c.drops - 1 })) ≡ c
told_parts c true b x y e = cc
told_parts c false true x y e = cc
told_parts c false false x y e =
    let same : c.drops - 1 ≡ c.drops = omega (arith, ltb-false 0 c.drops y) in
    ap (λ d. record c { drops = d }) same

told_same : (c : Client) → sort_untold c ≡ None → told c ≡ c
told_same c e = told_parts c c.lost (nat_lt 0 c.drops) refl refl e

told_none : (o : Option Client) → option_map_or sort_untold o None ≡ None → option_map told o ≡ o
told_none None e = refl
told_none (Some c) e = ap Some (told_same c e)

-- nothing was to be told of this client
pub untold_stays : (conn : ℕ) (old new : Clients) → Becomes told conn old new → option_map_or sort_untold (client_at old conn) None ≡ None → client_at new ≡ client_at old
untold_stays conn old new b e = fun_ext λ k.
    elim (eqb_tells k conn) [
      | inl p ↦ ap (client_at new) p.1 ∙ b.0 ∙ told_none (client_at old conn) e ∙ ap (client_at old) (sym p.1)
      | inr p ↦ b.1 k p.1
    ]

told_at : (o : Option Client) (items : List ℕ) (k : ℕ) → items ≡ [] → IfSome o (λ c. is_untold c ≡ true → Contains items k) → IfSome o (λ c. is_untold c ≡ false)
told_at None items k e h = tt
told_at (Some c) items k e h = untold_not (is_untold c) (λ t. contains_nothing items k e (h t))
  where
    contains_nothing : (items : List ℕ) (k : ℕ) → items ≡ [] → Contains items k → ⊥
    contains_nothing items k e h = grind (arith, subst (λ xs. Contains xs k) e h)

    untold_not : (b : Bool) → (b ≡ true → ⊥) → b ≡ false
    untold_not true h = absurd (h refl)
    untold_not false h = refl

-- where the broker is told of all, it may be told what comes next
pub rested : (s : Server) (before : Option Slow) → IsSettled s.clients → IsRested (amid s [] [] before)
rested s before h = ((refl, (refl, refl)), λ k. told_at (client_at s.clients k) s.clients.untold.items k h.1 (h.0.0 k))

-- what nobody published makes nobody wait
pub hands_none : (s new : Server) (why : Cause) (o : Option Out) (r : Option ℕ) (before : Option Slow)
    → Reaches follows (amid s (offers_in None o) (closes_in None why o ++ []) before) (amid new [] [] (pressed None r before))
    → Reaches follows (amid s (offers_in None o) (closes_in None why o) before) (amid new [] [] before)
hands_none s new why o r before t =
    at_end follows _ _ _ (subst (λ cs. Reaches follows (amid s (offers_in None o) cs before) (amid new [] [] (pressed None r before))) (append-nil (closes_in None why o)) t)
    (ap (amid new [] []) (pressed_none r before))

-- a refused send was told
pub tells_is : (old : Server) (n : Clients) (conn : ℕ) (s : Sort) (new : Server) (before : Option Slow)
    → Becomes told conn old.clients n → Some s ≡ option_map_or sort_untold (client_at old.clients conn) None
    → Reaches follows (called_on None conn (event.Refused conn s old.now) (amid (record old { clients = n }) [] [] before)) (amid new [] [] before)
    ⊎ Reaches follows (left conn cause.Memory (amid (record old { clients = n }) [] [] before)) (amid new [] [] before)
    → Reaches follows (amid old [] [] before) (amid new [] [] before)
tells_is old n conn s new before b is (inl t) =
    begins follows (deed.Told conn s) (amid old [] [] before) (amid new [] [] before) refl ((refl, (refl, refl)), sym is)
    (subst (λ cs. Reaches follows (called_on None conn (event.Refused conn s old.now) (record (amid old [] [] before) { clients = cs })) (amid new [] [] before)) (change_is told conn old.clients n b) t)
tells_is old n conn s new before b is (inr t) =
    begins follows (deed.Cut conn s) (amid old [] [] before) (amid new [] [] before) refl ((refl, (refl, refl)), sym is)
    (subst (λ cs. Reaches follows (left conn cause.Memory (record (amid old [] [] before) { clients = cs })) (amid new [] [] before)) (change_is told conn old.clients n b) t)

pub nothing_left : {X : Type 0} (xs : List X) → length xs ≡ 0 → xs ≡ []
nothing_left [] e = refl
nothing_left (x ∷ xs) e = absurd (omega arith)

-- a client came
pub joined_is : (old : Server) (m n : Clients) (b : Noted) (h : List ℕ) (conn until : ℕ) (c : Client)
    → b ≡ note.after (event.Open old.now) old.noted → ((k : ℕ) → client_at m k ≡ client_at old.clients k)
    → client_at n conn ≡ Some c → OthersStay conn m n → c ≡ fresh_client until → h ≡ old.held.items
    → record (room_of old) { noted = b; clients = client_at n; held = h } ≡ joined conn until (room_of old)
joined_is old m n b h conn until c done stay here others fresh held =
    ap {B = Room} (λ x. record (room_of old) { noted = x; clients = client_at n; held = h }) done
    ∙ ap {B = Room} (λ cs. record (room_of old) { noted = note.after (event.Open old.now) old.noted; clients = cs; held = h })
    (placed_is conn (Some (fresh_client until)) (client_at old.clients) (client_at n) (here ∙ ap Some fresh) (λ k ne. others k ne ∙ stay k))
    ∙ ap {B = Room} (λ x. record (joined conn until (room_of old)) { held = x }) held
