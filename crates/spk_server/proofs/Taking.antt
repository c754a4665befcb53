-- What clients send, as deeds.
use Rattle.std.proofs.Common.{◌≡◌, ◌≢◌, ◌⊎◌, inl, inr, ℕ, ◌==◌, ◌&&◌, if◌then◌else◌, Bool, true, false, List, [], ◌∷◌, ◌++◌, Option, Some, None, Ok, Err, refl, sym, ◌∙◌, ap, subst}
use Rattle.std.proofs.Math.Path.{fun_ext}
use Rattle.std.proofs.lemmas.Bool.{eq-eqb}
use Rattle.std.proofs.lemmas.Bool.Decides.{eqb_tells}
use Rattle.std.specs.Option.{option_map, option_map_or}
use Rattle.spk_packets.specs.Fault.{first_of, IsNamed}
use Rattle.spk_packets.specs.Message.{Message}
use Rattle.spk_packets.specs.Refusals.{refusals}
use Rattle.spk_packets.specs.View.{view}
use Rattle.spk_packets.specs.declared.fault.PacketFault.{PacketFault}
use Rattle.spk_packets.specs.declared.fault.PacketFault.TheVariants as fault
use Rattle.spk_packets.specs.declared.packet.Packet.{Packet}
use Rattle.spk_broker.specs.declared.out.Out.{Out}
use Rattle.spk_broker_notes.specs.Noted.{Noted}
use Rattle.spk_broker_rules.specs.Plan as event
use Rattle.spk_clients.specs.declared.cause.Cause.{Cause}
use Rattle.spk_clients.specs.declared.cause.Cause.TheVariants as cause
use Rattle.spk_clients.specs.declared.client.Client.{Client}
use Rattle.spk_clients.specs.declared.clients.Clients.{Clients}
use Rattle.spk_clients.specs.Client.{after_hearing, awaited, is_awaited, is_over, leaves, waiting_for}
use Rattle.spk_clients.specs.Data.{Becomes, GivesFrontOf, IsSettled, OthersStay, client_at}
use Rattle.spk_server.specs.declared.server.Server.{Server}
use Rattle.spk_server.specs.Answers.{AnswersOn}
use Rattle.spk_server.specs.Data.{Close, Room, Slow, Want}
use Rattle.spk_server.specs.Data as deed
use Rattle.spk_server.specs.declared.tally.Tally.{Tally}
use Rattle.spk_server.specs.Step.{broke, called_on, cause_fault, cause_other, change, changed, ended_behind, ends_behind, grace, later, left, one_close, publisher, tried_at}
use Rattle.spk_server.specs.Tallies.{heard_with, is_publish, stalled}
use Rattle.spk_server.specs.Log.{HasClient, Reaches, follows, takes}
use Rattle.spk_server.specs.Rooms.{amid, closes_in, offers_in, pressed, room_of, slow_for, with_packet}
use Rattle.spk_server.proofs.Allowed.{follows_takes}
use Rattle.spk_server.proofs.Rooms.{answered_is, change_is, pressed_none, rested, same_after, shut_is}
use Rattle.spk_server.proofs.Runs.{and_then, at_end, at_start, begins, stays, wider}

own_want : (conn : ℕ) → ((conn == conn) && true) ≡ true
own_want conn = ap (λ b. b && true) (eq-eqb conn conn refl)

-- ---- a packet in hand

-- there is no memory for it
pub came_to_end : (old : Server) (n : Clients) (b : Noted) (t : Tally) (conn : ℕ) (p : Message) (new : Server) → Becomes (after_hearing p) conn old.clients n → b ≡ old.noted
    → t ≡ heard_with p old.tally
    → Reaches follows (left conn cause.Memory (amid (record old { noted = b; clients = n; tally = t }) [] [] None)) (room_of new)
    → Reaches (takes conn) (with_packet conn p (room_of old)) (room_of new)
came_to_end old n b t conn p new h same heard run =
    begins (takes conn) (deed.Left conn Want) (with_packet conn p (room_of old)) (room_of new) (own_want conn) ((refl, refl), tt)
    (wider follows (takes conn) (follows_takes conn) _ _
    (subst (λ cs. Reaches follows (left conn cause.Memory (record (room_of old) { clients = cs; tally = heard_with p old.tally })) (room_of new)) (change_is (after_hearing p) conn old.clients n h)
    (subst (λ (x : Noted). Reaches follows (left conn cause.Memory (record (room_of old) { noted = x; clients = client_at n; tally = heard_with p old.tally })) (room_of new)) same
    (subst (λ (x : Tally). Reaches follows (left conn cause.Memory (record (room_of old) { noted = b; clients = client_at n; tally = x })) (room_of new)) heard run))))

pressed_for : (b : Bool) (conn : ℕ) (slow : Option ℕ) → pressed (if b then Some conn else None) slow None ≡ slow_for conn (if b then slow else None)
pressed_for true conn None = refl
pressed_for true conn (Some s) = refl
pressed_for false conn None = refl
pressed_for false conn (Some s) = refl

-- it comes to the broker
pub came_on : (old : Server) (n : Clients) (b : Noted) (t : Tally) (conn : ℕ) (p : Message) (other : Cause) (o : Option Out) (slow r : Option ℕ) (mid new : Server)
    → other ≡ cause_other p
    → Becomes (after_hearing p) conn old.clients n
    → t ≡ heard_with p old.tally
    → AnswersOn conn old.noted b (event.Packet conn p old.now) o
    → ((by : Option ℕ) (more : List Close) (before : Option Slow) → Reaches follows (amid (record old { noted = b; clients = n; tally = t }) (offers_in by o) (closes_in (Some (conn, other)) cause.Refused o ++ more) before) (amid mid [] more (pressed by slow before)))
    → ((before : Option Slow) → Reaches follows (amid mid [] (ends_behind (record { conn = conn; packet = p })) before) (amid new [] [] before))
    → r ≡ (if is_publish p then slow else None)
    → Reaches (takes conn) (with_packet conn p (room_of old)) (amid new [] [] (slow_for conn r))
came_on old n b t conn p other o slow r mid new is_other h heard a hands ends is =
    let by : Option ℕ = publisher (record { conn = conn; packet = p }) in
    let gone : List Close = ends_behind (record { conn = conn; packet = p }) in
    let answer : called_on by conn (event.Packet conn p old.now) (record (room_of old) { clients = change (after_hearing p) conn (client_at old.clients); tally = heard_with p old.tally })
    ≡ record (room_of old) { noted = b; clients = client_at n; pending = offers_in by o; closing = closes_in (Some (conn, other)) cause.Refused o; tally = t } =
    ap {A = ℕ → Option Client} {B = Room} (λ cs. called_on by conn (event.Packet conn p old.now) (record (room_of old) { clients = cs; tally = heard_with p old.tally })) (sym (change_is (after_hearing p) conn old.clients n h))
    ∙ ap {A = Tally} {B = Room} (λ x. called_on by conn (event.Packet conn p old.now) (record (room_of old) { clients = client_at n; tally = x })) (sym heard)
    ∙ answered_is by conn old.noted b (event.Packet conn p old.now) o (record (room_of old) { clients = client_at n; tally = t }) a
    ∙ ap {A = Cause} {B = Room} (λ w. record (room_of old) { noted = b; clients = client_at n; pending = offers_in by o; closing = closes_in (Some (conn, w)) cause.Refused o; tally = t }) (sym is_other) in
    begins (takes conn) deed.Came (with_packet conn p (room_of old)) _ refl ((record { conn = conn; packet = p }, refl), (refl, refl))
    (at_start (takes conn) _ _ _ (ap {A = Room} {B = Room} (ended_behind gone) answer)
    (wider follows (takes conn) (follows_takes conn) _ _
    (at_end follows _ _ _ (and_then follows _ _ _ (hands by gone None) (ends (pressed by slow None)))
    (ap {A = Option Slow} {B = Room} (amid new [] []) (pressed_for (is_publish p) conn slow ∙ ap (slow_for conn) (sym is))))))

-- ---- what is no packet

pub broke_on : (old : Server) (b : Noted) (conn : ℕ) (f : PacketFault) (why : Cause) (o : Option Out) (r : Option ℕ) (mid new : Server) → why ≡ cause_fault f
    → AnswersOn conn old.noted b (event.Fault conn f old.now) o
    → Reaches follows (amid (record old { noted = b }) (offers_in None o) (closes_in (Some (conn, cause.Slow)) why o ++ one_close conn why) None) (amid mid [] (one_close conn why) (pressed None r None))
    → room_of new ≡ changed (leaves (later grace mid.now) why) conn (room_of mid)
    → Reaches follows (broke conn (event.Fault conn f old.now) (room_of old)) (room_of new)
broke_on old b conn f why o r mid new is a hands ended =
    at_start follows _ _ _ (ap {A = Room} {B = Room} (ended_behind (one_close conn (cause_fault f))) (answered_is None conn old.noted b (event.Fault conn f old.now) o (room_of old) a)
    ∙ ap {A = Cause} {B = Room} (λ w. ended_behind (one_close conn w) (record (room_of old) { noted = b; pending = offers_in None o; closing = closes_in (Some (conn, cause.Slow)) w o })) (sym is))
    (and_then follows _ _ _ (at_end follows _ _ _ hands (ap {A = Option Slow} {B = Room} (amid mid [] (one_close conn why)) (pressed_none r None)))
    (shut_is mid new (record { conn = conn; cause = why }) [] None ended))

-- ---- the front of what a client sent

took_at : (old : Server) (n : Clients) (conn : ℕ) (p : Packet) (s : Room) (c d : Option Client) → client_at old.clients conn ≡ c → client_at n conn ≡ d
    → GivesFrontOf c (Some (Ok p)) d → OthersStay conn old.clients n → IsSettled old.clients
    → Reaches (takes conn) (with_packet conn (view p) (room_of (record old { clients = n }))) s → Reaches (takes conn) (room_of old) s
took_at old n conn p s None None x y h others settled t = cc
took_at old n conn p s None (Some d) x y h others settled t = absurd h
took_at old n conn p s (Some c) None x y h others settled t = absurd h
took_at old n conn p s (Some c) (Some d) x y h others settled t =
    let f : Client → Client = λ q. after_hearing (view p) (record q { feed = d.feed }) in
    let same : change f conn (client_at old.clients) ≡ change (after_hearing (view p)) conn (client_at n) = fun_ext λ k.
    elim (eqb_tells k conn) [
      | inl q ↦ ap (λ e. if e then option_map f (client_at old.clients k) else client_at old.clients k) q.0
          ∙ ap (λ j. option_map f (client_at old.clients j)) q.1 ∙ ap (option_map f) x
          ∙ ap (λ e. Some (after_hearing (view p) e)) (sym h.2)
          ∙ ap (option_map (after_hearing (view p))) (sym y) ∙ ap (λ j. option_map (after_hearing (view p)) (client_at n j)) (sym q.1)
          ∙ sym (ap (λ e. if e then option_map (after_hearing (view p)) (client_at n k) else client_at n k) q.0)
      | inr q ↦ ap (λ e. if e then option_map f (client_at old.clients k) else client_at old.clients k) q.0
          ∙ sym (others k q.1)
          ∙ sym (ap (λ e. if e then option_map (after_hearing (view p)) (client_at n k) else client_at n k) q.0)
    ] in
    begins (takes conn) (deed.Took conn (view p) d.feed) (room_of old) s (eq-eqb conn conn refl) (rested old None settled, (c, x, (h.0, h.1)))
    (subst (λ cs. Reaches (takes conn) (record (room_of old) { clients = cs; in_hand = Some (record { conn = conn; packet = view p }); tally = heard_with (view p) old.tally }) s) (sym same) t)

pub took_is : (old : Server) (n : Clients) (conn : ℕ) (p : Packet) (s : Room) → GivesFrontOf (client_at old.clients conn) (Some (Ok p)) (client_at n conn)
    → OthersStay conn old.clients n → IsSettled old.clients
    → Reaches (takes conn) (with_packet conn (view p) (room_of (record old { clients = n }))) s → Reaches (takes conn) (room_of old) s
took_is old n conn p s h others settled t = took_at old n conn p s _ _ refl refl h others settled t

-- a fault is named, and nothing is taken
named_at : (conn : ℕ) (f : PacketFault) (old n : Clients) (c d : Option Client) → client_at old conn ≡ c → client_at n conn ≡ d → GivesFrontOf c (Some (Err f)) d → OthersStay conn old n
    → (client_at n ≡ client_at old) × (((q : Client) × (client_at n conn ≡ Some q) × ((is_over q ≡ false) × IsNamed f (first_of (refusals q.feed)))) × (f ≢ fault.More))
named_at conn f old n None None x y h others = cc
named_at conn f old n None (Some d) x y h others = absurd h
named_at conn f old n (Some c) None x y h others = absurd h
named_at conn f old n (Some c) (Some d) x y h others = (
  fun_ext (λ k. elim (eqb_tells k conn) [
    | inl q ↦ ap (client_at n) q.1 ∙ y ∙ ap Some h.3 ∙ sym x ∙ ap (client_at old) (sym q.1)
    | inr q ↦ others k q.1
  ]),
  ((c, y ∙ ap Some h.3, (h.0, h.1)), h.2),
)

pub named_is : (conn : ℕ) (f : PacketFault) (old n : Clients) → GivesFrontOf (client_at old conn) (Some (Err f)) (client_at n conn) → OthersStay conn old n
    → (client_at n ≡ client_at old) × (((q : Client) × (client_at n conn ≡ Some q) × ((is_over q ≡ false) × IsNamed f (first_of (refusals q.feed)))) × (f ≢ fault.More))
named_is conn f old n h others = named_at conn f old n _ _ refl refl h others

-- it broke, or there was no memory
pub broke_is : (old new : Server) (conn : ℕ) (f : PacketFault) → IsSettled old.clients
    → HasClient (λ c. (is_over c ≡ false) × IsNamed f (first_of (refusals c.feed))) conn (room_of old) → f ≢ fault.More → f ≢ fault.NoMemory
    → Reaches follows (broke conn (event.Fault conn f old.now) (room_of old)) (room_of new) ⊎ Reaches follows (left conn cause.Memory (room_of old)) (room_of new)
    → Reaches (takes conn) (room_of old) (room_of new)
broke_is old new conn f settled has more memory (inl t) =
    begins (takes conn) (deed.Broke conn f) (room_of old) (room_of new) (eq-eqb conn conn refl) (rested old None settled, has, more, memory)
    (wider follows (takes conn) (follows_takes conn) _ _ t)
broke_is old new conn f settled has more memory (inr t) =
    begins (takes conn) (deed.Left conn Want) (room_of old) (room_of new) (own_want conn) ((refl, refl), tt)
    (wider follows (takes conn) (follows_takes conn) _ _ t)

pub want_is : (old new : Server) (conn : ℕ) → Reaches follows (left conn cause.Memory (room_of old)) (room_of new) → Reaches (takes conn) (room_of old) (room_of new)
want_is old new conn t =
    begins (takes conn) (deed.Left conn Want) (room_of old) (room_of new) (own_want conn) ((refl, refl), tt)
    (wider follows (takes conn) (follows_takes conn) _ _ t)

-- ---- who waits

pub tried_not : (old : Server) (n : Clients) (conn slow : ℕ) (waits : Bool) → IsSettled old.clients → Becomes (awaited (slow == conn) old.now) slow old.clients n
    → waits ≡ option_map_or (is_awaited (slow == conn) old.now) (client_at old.clients slow) false → waits ≡ false
    → Reaches (takes conn) (amid old [] [] (Some (record { publisher = conn; client = slow }))) (room_of (record old { clients = n }))
tried_not old n conn slow waits settled h is e =
    let s : Slow = record { publisher = conn; client = slow } in
    begins (takes conn) deed.Tried (amid old [] [] (Some s)) _ refl (rested old (Some s) settled, (s, refl))
    (at_end (takes conn) _ _ _ (stays (takes conn) _)
    (ap {A = Bool} {B = Room} (λ b. record (tried_at b s (changed (awaited (slow == conn) old.now) slow (amid old [] [] (Some s)))) { slow = None }) (sym is ∙ e)
    ∙ ap {A = ℕ → Option Client} {B = Room} (λ cs. record (room_of old) { clients = cs }) (sym (change_is (awaited (slow == conn) old.now) slow old.clients n h))))

pub tried_is : (old new : Server) (n m : Clients) (conn slow : ℕ) (waits : Bool) → IsSettled old.clients → Becomes (awaited (slow == conn) old.now) slow old.clients n
    → waits ≡ option_map_or (is_awaited (slow == conn) old.now) (client_at old.clients slow) false → waits ≡ true
    → Becomes (waiting_for (Some slow)) conn n m
    → room_of new ≡ record (room_of old) { clients = client_at m; held = old.held.items ++ conn ∷ []; tally = stalled old.tally }
    → Reaches (takes conn) (amid old [] [] (Some (record { publisher = conn; client = slow }))) (room_of new)
tried_is old new n m conn slow waits settled h is e w same =
    let s : Slow = record { publisher = conn; client = slow } in
    begins (takes conn) deed.Tried (amid old [] [] (Some s)) _ refl (rested old (Some s) settled, (s, refl))
    (at_end (takes conn) _ _ _ (stays (takes conn) _)
    (ap {A = Bool} {B = Room} (λ b. record (tried_at b s (changed (awaited (slow == conn) old.now) slow (amid old [] [] (Some s)))) { slow = None }) (sym is ∙ e)
    ∙ ap {A = ℕ → Option Client} {B = Room} (λ cs. record (room_of old) { clients = change (waiting_for (Some slow)) conn cs; held = old.held.items ++ conn ∷ []; tally = stalled old.tally }) (sym (change_is (awaited (slow == conn) old.now) slow old.clients n h))
    ∙ ap {A = ℕ → Option Client} {B = Room} (λ cs. record (room_of old) { clients = cs; held = old.held.items ++ conn ∷ []; tally = stalled old.tally }) (sym (change_is (waiting_for (Some slow)) conn n m w))
    ∙ sym same))

same_front : (c d : Option Client) → GivesFrontOf c None d → d ≡ c
same_front None None h = refl
same_front None (Some d) h = absurd h
same_front (Some c) None h = absurd h
same_front (Some c) (Some d) h = ap Some h.1

-- nothing stands at the front of what it sent
pub none_is : (conn : ℕ) (old : Server) (n : Clients) → GivesFrontOf (client_at old.clients conn) None (client_at n conn) → OthersStay conn old.clients n
    → Reaches (takes conn) (room_of old) (room_of (record old { clients = n }))
none_is conn old n front others =
    at_end (takes conn) _ _ _ (stays (takes conn) _)
    (ap {B = Room} (λ cs. record (room_of old) { clients = cs }) (sym (same_after conn old.clients n (same_front _ _ front) others)))
