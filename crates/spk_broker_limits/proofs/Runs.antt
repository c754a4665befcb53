-- What each event brings, and what it discards, of messages that are to be routed.
use Rattle.std.proofs.Common.{◌≡◌, ◌⊎◌, inl, inr, ℕ, ◌+◌, ◌==◌, Bool, true, false, not, ◌&&◌, ◌||◌, cond, List, [], ◌∷◌, ◌++◌, refl, sym, ap, ◌∙◌, subst, arith, Option, Some, None}
use Rattle.std.specs.List.{find, list_any, flat_map}
use Rattle.std.specs.Option.{option_map, is_some}
use Rattle.std.proofs.lemmas.Bool.Decides.{eqb_tells}
use Rattle.spk_packets.specs.Fault.{first_of}
use Rattle.spk_packets.specs.Message.{Message, WillData, Connect, ConnAck, Publish, PubAck, Subscribe, SubAck, Unsubscribe, UnsubAck, PingReq, PingResp, Disconnect}
use Rattle.spk_packets.specs.Spelling.{is_empty, unwritable, has_bad_text, has_bad_body, is_qos_two, spelling, body, shortest}
use Rattle.spk_topics.specs.Text.{filter_refusal, topic_refusal}
use Rattle.spk_session.specs.declared.answer.Sort.TheVariants as sort
use Rattle.spk_broker_rules.specs.Data.{AppMessage}
use Rattle.spk_broker_rules.specs.Words.{will_message}
use Rattle.spk_broker_rules.specs.Plan.{Event, Open, Packet, Fault, Closed, Tick, Refused, Act, Opens, Leave, Tell, Queue, Say, Give, Take, Ack, Route, Forget, Accept, Seen, shut, turn_away, take_over, tell_older, join, connect, has_bad_topic, has_bad_filter, is_bad_level, first_packet, next_packet, packet, puback, plan}
use Rattle.spk_broker_rules.specs.Past.{Past, Moment, OfConn, Heard, Dropped, Joining, clock, deeds, sessions, here, routed, newcomers, session_at, seen_in}
use Rattle.spk_broker_rules.specs.Story.{Story, told_take, told_ack, told_forget, told_accept, told_take_up, away_for, is_away, Tells, TellsAll}
use Rattle.spk_broker_rules.specs.Telling.{Telling, story_at}
use Rattle.spk_broker_limits.specs.Wills.{count, message_of}
use Rattle.spk_broker_limits.proofs.Summing.{Told, yes_no, times, passes}
use Rattle.spk_broker_limits.proofs.Facts.{worth, standing, Tidy, Keeps}
use Rattle.spk_broker_limits.proofs.Ledger.{ledger, Done, itself, next, routes, Less, worth_at, discarded, joining, Came, came, AllFair, fair, fair_all}

-- ---- lists of acts

pub split : (as_list bs : List Act) (t u : Story) → TellsAll (as_list ++ bs) t u → (v : Story) × TellsAll as_list t v × TellsAll bs v u
split [] bs t u d = (t, refl, d)
split (a ∷ as_list) bs t u (x, p, d) = let (v, q, r) = split as_list bs x u d in (v, (x, p, q), r)

-- routing comes last
ends_routed : (q : AppMessage → Bool) (K : ℕ → Joining → Type 0) (as_list : List Act) → AllFair as_list → (t u : Story) → TellsAll (as_list ++ Route ∷ []) t u → Tidy t.past → Keeps K t.past → Done q K t u
ends_routed q K [] f t u (v, r, e) tidy old = subst (Done q K t) e (routes q K t v r tidy old)
ends_routed q K (a ∷ as_list) f t u (v, x, d) tidy old =
    let first = fair q K a f.0 t v x tidy old in
    let rest = ends_routed q K as_list f.1 v u d first.tidy first.old in
    record { same = next q K t v u first rest.same; done = rest.done }

-- nothing comes to wait
abbrev IsStill : Act → Type 0
IsStill Opens = Unit {0}
IsStill (Say conn p) = Unit {0}
IsStill (Tell conn) = Unit {0}
IsStill (Forget client) = Unit {0}
IsStill (Take conn filters) = Unit {0}
IsStill (Ack conn id) = Unit {0}
IsStill _ = ⊥

forget_still : (o : Option ℕ) (t : Story) → (told_forget o t).waiting ≡ t.waiting
forget_still None t = refl
forget_still (Some s) t = refl

take_still : (o : Option ℕ) (filters : List (List ℕ)) (t : Story) → (told_take o filters t).waiting ≡ t.waiting
take_still None filters t = refl
take_still (Some s) filters t = refl

ack_still : (o : Option ℕ) (id : ℕ) (t : Story) → (told_ack o id t).waiting ≡ t.waiting
ack_still None id t = refl
ack_still (Some s) id t = refl

still : (a : Act) → IsStill a → (t u : Story) → Tells a t u → u.waiting ≡ t.waiting
still Opens f t u e = ap (λ (x : Story). x.waiting) e
still (Say c p) f t u e = ap (λ (x : Story). x.waiting) e
still (Tell c) f t u e = ap (λ (x : Story). x.waiting) e
still (Forget client) f t u e = ap (λ (x : Story). x.waiting) e ∙ forget_still (find (is_away t.past client) (sessions t.past)) t
still (Take c filters) f t u e = ap (λ (x : Story). x.waiting) e ∙ take_still (session_at t.past c) filters t
still (Ack c id) f t u e = ap (λ (x : Story). x.waiting) e ∙ ack_still (session_at t.past c) id t
still _ f t u e = elim f [ ]

abbrev AllStill : List Act → Type 0
AllStill [] = Unit {0}
AllStill (a ∷ as_list) = IsStill a × AllStill as_list

still_all : (as_list : List Act) → AllStill as_list → (t u : Story) → TellsAll as_list t u → u.waiting ≡ t.waiting
still_all [] f t u e = ap (λ (x : Story). x.waiting) (sym e)
still_all (a ∷ as_list) f t u (v, x, d) = still_all as_list f.1 v u d ∙ still a f.0 t v x

-- ---- what an event does

-- whoever sat before, or joined
abbrev pub Old : Past → Option Joining → ℕ → Joining → Type 0
Old g fresh s j = (here (deeds g s) ≡ Some j) ⊎ (fresh ≡ Some j)

pub record Sits (h : Past) (j : Joining) : Type 0 where
  pub session : ℕ
  pub there : times session (sessions h) ≡ 1
  pub sits : here (deeds h session) ≡ Some j

-- From a past to the end of an event: what was brought to be routed, and how much was discarded.
pub record Run (q : AppMessage → Bool) (M : Joining → Type 0) (g : Past) (brought : List AppMessage) (lost : ℕ) (u : Story) : Type 0 where
  pub fresh : Option Joining
  pub tidy : Tidy u.past
  pub old : Keeps (Old g fresh) u.past
  pub sum_ : count q (routed u.past) + (standing q u.past + lost) ≡ count q (routed g) + (standing q g + (count q brought + worth q fresh))
  pub new : (j : Joining) → fresh ≡ Some j → (is_some (session_at g j.conn) ≡ false) × Sits u.past j
  pub says : (j : Joining) → fresh ≡ Some j → M j

starts : (g : Past) (fresh : Option Joining) → Keeps (Old g fresh) g
starts g fresh s j e = inl e

unsaid : (M : Joining → Type 0) (j : Joining) → None ≡ Some j → M j
unsaid M j e = absurd cc

nobody : (g h : Past) (j : Joining) → None ≡ Some j → (is_some (session_at g j.conn) ≡ false) × Sits h j
nobody g h j e = absurd cc

quiet : (q : AppMessage → Bool) (M : Joining → Type 0) (g : Past) (u : Story) → Done q (Old g None) (story_at g) u → Run q M g [] 0 u
quiet q M g u d = record {
  fresh = None;
  tidy = d.same.tidy;
  old = d.same.old;
  sum_ = (let a : count q (routed u.past) + (count q u.waiting + standing q u.past) ≡ count q (routed g) + (0 + standing q g) = d.same.sum_ in let b : count q u.waiting ≡ 0 = ap (count q) d.done in omega arith);
  new = nobody g u.past;
  says = unsaid M;
}

routed_run : (q : AppMessage → Bool) (M : Joining → Type 0) (g : Past) (as_list : List Act) → AllFair as_list → (u : Story) → TellsAll (as_list ++ Route ∷ []) (story_at g) u → Tidy g → Run q M g [] 0 u
routed_run q M g as_list f u d tidy = quiet q M g u (ends_routed q (Old g None) as_list f (story_at g) u d tidy (starts g None))

still_run : (q : AppMessage → Bool) (M : Joining → Type 0) (g : Past) (as_list : List Act) → AllFair as_list → AllStill as_list → (u : Story) → TellsAll as_list (story_at g) u → Tidy g → Run q M g [] 0 u
still_run q M g as_list f s u d tidy =
    quiet q M g u (record { same = fair_all q (Old g None) as_list f (story_at g) u d tidy (starts g None); done = still_all as_list s (story_at g) u d })

shut_run : (q : AppMessage → Bool) (M : Joining → Type 0) (g : Past) (conn : ℕ) (u : Story) → TellsAll (shut conn) (story_at g) u → Tidy g → Run q M g [] 0 u
shut_run q M g conn u d tidy = routed_run q M g (Leave conn true ∷ Tell conn ∷ []) (tt, (tt, tt)) u d tidy

away_run : (q : AppMessage → Bool) (M : Joining → Type 0) (g : Past) (conn code : ℕ) (u : Story) → TellsAll (turn_away conn code) (story_at g) u → Tidy g → Run q M g [] 0 u
away_run q M g conn code u d tidy = routed_run q M g (Say conn (ConnAck false code) ∷ Leave conn true ∷ Tell conn ∷ []) (tt, (tt, (tt, tt))) u d tidy

-- ---- further packets

queue_run : (q : AppMessage → Bool) (M : Joining → Type 0) (g : Past) (t u : Story) (app_message : AppMessage) → t.past ≡ g → t.waiting ≡ [] → TellsAll (Queue app_message ∷ Route ∷ []) t u → Tidy g → Run q M g (app_message ∷ []) 0 u
queue_run q M g t u app_message e w (v, a, (x, r, f)) tidy =
    let past : v.past ≡ g = ap (λ (y : Story). y.past) a ∙ e in
    let d : Done q (Old g None) v x = routes q (Old g None) v x r (subst Tidy (sym past) tidy) (subst (Keeps (Old g None)) (sym past) (starts g None)) in
    let wait : count q v.waiting ≡ count q (app_message ∷ []) = ap (λ (y : Story). count q y.waiting) a ∙ ap (λ ws. count q (ws ++ app_message ∷ [])) w in
    let stand : standing q v.past ≡ standing q g = ap (standing q) past in
    let were : count q (routed v.past) ≡ count q (routed g) = ap (λ h. count q (routed h)) past in
    let none : count q x.waiting ≡ 0 = ap (count q) d.done in
    let sum_ : count q (routed x.past) + (count q x.waiting + standing q x.past) ≡ count q (routed v.past) + (count q v.waiting + standing q v.past) = d.same.sum_ in
    subst (Run q M g (app_message ∷ []) 0) f (record { fresh = None; tidy = d.same.tidy; old = d.same.old; sum_ = omega arith; new = nobody g x.past; says = unsaid M })

publish_run : (q : AppMessage → Bool) (M : Joining → Type 0) (g : Past) (conn : ℕ) (id : Option ℕ) (app_message : AppMessage) (u : Story) → TellsAll (puback conn id ++ Queue app_message ∷ Route ∷ []) (story_at g) u → Tidy g → Run q M g (app_message ∷ []) 0 u
publish_run q M g conn None app_message u d tidy = queue_run q M g (story_at g) u app_message refl refl d tidy
publish_run q M g conn (Some id) app_message u (v, e, d) tidy = queue_run q M g v u app_message (ap (λ (y : Story). y.past) e) (ap (λ (y : Story). y.waiting) e) d tidy

-- what a DISCONNECT discards
abbrev pub gives_up : (AppMessage → Bool) → Past → ℕ → Message → ℕ
gives_up q g conn (Connect client clean alive will) = 0
gives_up q g conn (ConnAck present code) = 0
gives_up q g conn (Publish dup qos retain topic id payload) = 0
gives_up q g conn (PubAck id) = 0
gives_up q g conn (Subscribe id entries) = 0
gives_up q g conn (SubAck id codes) = 0
gives_up q g conn (Unsubscribe id filters) = 0
gives_up q g conn (UnsubAck id) = 0
gives_up q g conn PingReq = 0
gives_up q g conn PingResp = 0
gives_up q g conn Disconnect = worth_at q g (session_at g conn)

next_run : (q : AppMessage → Bool) (M : Joining → Type 0) (g : Past) (s : Seen) (conn : ℕ) (p : Message) (u : Story) → TellsAll (next_packet s conn p) (story_at g) u → Tidy g → Run q M g (message_of p) (gives_up q g conn p) u
next_run q M g s conn (Connect client clean alive will) u d tidy = shut_run q M g conn u d tidy
next_run q M g s conn (ConnAck present code) u d tidy = shut_run q M g conn u d tidy
next_run q M g s conn (Publish dup qos retain topic id payload) u d tidy = by (is_some (topic_refusal topic)) d
  where
    app_message : AppMessage
    app_message = record { topic = topic; payload = payload; qos = qos; retain = retain }

    by : (b : Bool) → TellsAll (cond b (shut conn) (puback conn id ++ Queue (record { topic = topic; payload = payload; qos = qos; retain = retain }) ∷ Route ∷ [])) (story_at g) u
        → Run q M g (cond b [] (record { topic = topic; payload = payload; qos = qos; retain = retain } ∷ [])) 0 u
    by true d = shut_run q M g conn u d tidy
    by false d = publish_run q M g conn id (record { topic = topic; payload = payload; qos = qos; retain = retain }) u d tidy
next_run q M g s conn (PubAck id) u d tidy = still_run q M g (Ack conn id ∷ []) (tt, tt) (tt, tt) u d tidy
next_run q M g s conn (Subscribe id entries) u d tidy = by (list_any (λ e. is_some (filter_refusal e.0)) entries || s.heavy) d
  where
    by : (b : Bool) → TellsAll (cond b (shut conn) (Give conn id entries ∷ Route ∷ [])) (story_at g) u → Run q M g [] 0 u
    by true d = shut_run q M g conn u d tidy
    by false d = routed_run q M g (Give conn id entries ∷ []) (tt, tt) u d tidy
next_run q M g s conn (SubAck id codes) u d tidy = shut_run q M g conn u d tidy
next_run q M g s conn (Unsubscribe id filters) u d tidy = by (has_bad_filter filters) d
  where
    by : (b : Bool) → TellsAll (cond b (shut conn) (Take conn filters ∷ Say conn (UnsubAck id) ∷ [])) (story_at g) u → Run q M g [] 0 u
    by true d = shut_run q M g conn u d tidy
    by false d = still_run q M g (Take conn filters ∷ Say conn (UnsubAck id) ∷ []) (tt, (tt, tt)) (tt, (tt, tt)) u d tidy
next_run q M g s conn (UnsubAck id) u d tidy = shut_run q M g conn u d tidy
next_run q M g s conn PingReq u d tidy = still_run q M g (Say conn PingResp ∷ []) (tt, tt) (tt, tt) u d tidy
next_run q M g s conn PingResp u d tidy = shut_run q M g conn u d tidy
next_run q M g s conn Disconnect u (v, e, f) tidy =
    let l : Less q (Old g None) (worth_at q g (session_at g conn)) (story_at g) v = subst (Less q (Old g None) (worth_at q g (session_at g conn)) (story_at g)) (sym e)
    (discarded q (Old g None) conn (story_at g) (session_at g conn) refl refl tidy (starts g None)) in
    let sum_ : (count q (routed v.past) + (count q v.waiting + standing q v.past)) + worth_at q g (session_at g conn) ≡ count q (routed g) + (0 + standing q g) = l.sum_ in
    let none : count q v.waiting ≡ 0 = ap (count q) l.done in
    subst (Run q M g [] (worth_at q g (session_at g conn))) f (record { fresh = None; tidy = l.tidy; old = l.old; sum_ = omega arith; new = nobody g v.past; says = unsaid M })

-- ---- the first packet

take_part : (q : AppMessage → Bool) (K : ℕ → Joining → Type 0) (older : Option ℕ) (t u : Story) → t.waiting ≡ [] → TellsAll (take_over older) t u → Tidy t.past → Keeps K t.past → Done q K t u
take_part q K None t u w d tidy old = subst (Done q K t) d (record { same = itself q K t tidy old; done = w })
take_part q K (Some o) t u w d tidy old = ends_routed q K (Leave o true ∷ []) (tt, tt) t u d tidy old

forget_part : (q : AppMessage → Bool) (K : ℕ → Joining → Type 0) (clean : Bool) (client : List ℕ) (t u : Story) → t.waiting ≡ [] → TellsAll (cond clean (Forget client ∷ []) []) t u → Tidy t.past → Keeps K t.past → Done q K t u
forget_part q K true client t u w d tidy old =
    record { same = fair_all q K (Forget client ∷ []) (tt, tt) t u d tidy old; done = still_all (Forget client ∷ []) (tt, tt) t u d ∙ w }
forget_part q K false client t u w d tidy old = subst (Done q K t) d (record { same = itself q K t tidy old; done = w })

tell_part : (q : AppMessage → Bool) (K : ℕ → Joining → Type 0) (older : Option ℕ) (t u : Story) → t.waiting ≡ [] → TellsAll (tell_older older) t u → Tidy t.past → Keeps K t.past → Done q K t u
tell_part q K None t u w d tidy old = subst (Done q K t) d (record { same = itself q K t tidy old; done = w })
tell_part q K (Some o) t u w d tidy old =
    record { same = fair_all q K (Tell o ∷ []) (tt, tt) t u d tidy old; done = still_all (Tell o ∷ []) (tt, tt) t u d ∙ w }

same_past : (older : Option ℕ) (t u : Story) → TellsAll (tell_older older) t u → u.past ≡ t.past
same_past None t u e = ap (λ (x : Story). x.past) (sym e)
same_past (Some o) t u (v, p, e) = ap (λ (x : Story). x.past) (sym e ∙ p)

join_run : (q : AppMessage → Bool) (M : Joining → Type 0) (g : Past) (older : Option ℕ) (conn : ℕ) (client : List ℕ) (clean : Bool) (alive : ℕ) (will : Option AppMessage) (u : Story) → M (joining conn alive will) → is_some (session_at g conn) ≡ false
    → TellsAll (join older conn client clean alive will) (story_at g) u → Tidy g → Run q M g [] 0 u
join_run q M g older conn client clean alive will u said alone d tidy =
    let (v, a, more) = split (take_over older) (cond clean (Forget client ∷ []) [] ++ Accept conn client (not clean) alive will ∷ tell_older older) (story_at g) u d in
    let (x, b, rest) = split (cond clean (Forget client ∷ []) []) (Accept conn client (not clean) alive will ∷ tell_older older) v u more in
    let (y, e, told) = rest in
    by v a x b y told (find (λ k. k == conn) (newcomers x.past)) refl e
  where
    -- as far as the older one has left
    front : (fresh : Option Joining) (v x : Story) → TellsAll (take_over older) (story_at g) v → TellsAll (cond clean (Forget client ∷ []) []) v x → Done q (Old g fresh) (story_at g) x
    front fresh v x a b =
        let one = take_part q (Old g fresh) older (story_at g) v refl a tidy (starts g fresh) in
        let two = forget_part q (Old g fresh) clean client v x one.done b one.same.tidy one.same.old in
        record { same = next q (Old g fresh) (story_at g) v x one.same two.same; done = two.done }

    -- nobody joins
    none : (v x y : Story) → TellsAll (take_over older) (story_at g) v → TellsAll (cond clean (Forget client ∷ []) []) v x → TellsAll (tell_older older) y u → y ≡ x → Run q M g [] 0 u
    none v x y a b told e =
        let one = front None v x a b in
        let two = tell_part q (Old g None) older x u one.done (subst (λ (z : Story). TellsAll (tell_older older) z u) e told) one.same.tidy one.same.old in
        quiet q M g u (record { same = next q (Old g None) (story_at g) x u one.same two.same; done = two.done })

    some : (v x y : Story) → TellsAll (take_over older) (story_at g) v → TellsAll (cond clean (Forget client ∷ []) []) v x → TellsAll (tell_older older) y u
        → y ≡ told_take_up (away_for x.past (not clean) client) conn client (not clean) alive will x → Run q M g [] 0 u
    some v x y a b told e =
        let fresh : Option Joining = Some (joining conn alive will) in
        let one = front (Some (joining conn alive will)) v x a b in
        let two : Came q (Old g (Some (joining conn alive will))) conn alive will x y = subst (Came q (Old g (Some (joining conn alive will))) conn alive will x) (sym e)
        (came q (Old g (Some (joining conn alive will))) conn client (not clean) alive will x (away_for x.past (not clean) client) refl (λ s. inr refl) one.same.tidy one.same.old) in
        let three = tell_part q (Old g (Some (joining conn alive will))) older y u (two.done ∙ one.done) told two.tidy two.old in
        let same_ : u.past ≡ y.past = same_past older y u told in
        record {
          fresh = Some (joining conn alive will);
          tidy = three.same.tidy;
          old = three.same.old;
          sum_ = (
              let l : ledger q u ≡ ledger q y = three.same.sum_ in
              let m = two.sum_ in
              let n : ledger q x ≡ count q (routed g) + (0 + standing q g) = one.same.sum_ in
              let w : count q u.waiting ≡ 0 = ap (count q) three.done in
              omega arith
              );
          new = λ j is. subst (λ (k : Joining). (is_some (session_at g k.conn) ≡ false) × Sits u.past k) (the j is)
              (alone, subst (λ h. Sits h (joining conn alive will)) (sym same_) (record { session = two.session; there = two.there; sits = two.sits }));
          says = λ j is. subst M (the j is) said;
        }
      where
        the : (j : Joining) → Some (joining conn alive will) ≡ Some j → joining conn alive will ≡ j
        the j is = cc

    by : (v : Story) → TellsAll (take_over older) (story_at g) v → (x : Story) → TellsAll (cond clean (Forget client ∷ []) []) v x → (y : Story) → TellsAll (tell_older older) y u
        → (o : Option ℕ) → find (λ k. k == conn) (newcomers x.past) ≡ o → y ≡ told_accept (find (λ k. k == conn) (newcomers x.past)) client (not clean) alive will x → Run q M g [] 0 u
    by v a x b y told None i e = none v x y a b told (e ∙ ap (λ o. told_accept o client (not clean) alive will x) i)
    by v a x b y told (Some k) i e = some v x y a b told (e ∙ ap (λ o. told_accept o client (not clean) alive will x) i ∙ ap (λ c. told_take_up (away_for x.past (not clean) client) c client (not clean) alive will x) (is (eqb_tells k conn)))
      where
        is : Told k conn → k ≡ conn
        is (inl f) = f.1
        is (inr f) = yes_no (sym (passes (λ k. k == conn) (newcomers x.past) k i) ∙ f.0)

connect_run : (q : AppMessage → Bool) (M : Joining → Type 0) (g : Past) (s : Seen) (conn : ℕ) (client : List ℕ) (clean : Bool) (alive : ℕ) (will : Option WillData) (u : Story) → M (joining conn alive (option_map will_message will)) → is_some (session_at g conn) ≡ false
    → TellsAll (connect s conn client clean alive will) (story_at g) u → Tidy g → Run q M g [] 0 u
connect_run q M g s conn client clean alive will u said alone d tidy = by (is_empty client && not clean) (has_bad_topic will) (not clean && not s.welcome) d
  where
    by : (a b c : Bool) → TellsAll (cond a (turn_away conn 2) (cond b (shut conn) (cond c (turn_away conn 3) (join s.older conn client clean alive (option_map will_message will))))) (story_at g) u → Run q M g [] 0 u
    by true b c d = away_run q M g conn 2 u d tidy
    by false true c d = shut_run q M g conn u d tidy
    by false false true d = away_run q M g conn 3 u d tidy
    by false false false d = join_run q M g s.older conn client clean alive (option_map will_message will) u said alone d tidy

nothing_up : (q : AppMessage → Bool) (g : Past) (conn : ℕ) (p : Message) → is_some (session_at g conn) ≡ false → gives_up q g conn p ≡ 0
nothing_up q g conn Disconnect alone = by (session_at g conn) alone
  where
    by : (o : Option ℕ) → is_some o ≡ false → worth_at q g o ≡ 0
    by None e = refl
    by (Some s) e = yes_no e
nothing_up q g conn _ alone = refl

first_run : (q : AppMessage → Bool) (M : Joining → Type 0) (g : Past) (s : Seen) (conn : ℕ) (p : Message) (u : Story) → ((client : List ℕ) (clean : Bool) (alive : ℕ) (will : Option WillData) → p ≡ Connect client clean alive will → M (joining conn alive (option_map will_message will))) → is_some (session_at g conn) ≡ false → TellsAll (first_packet s conn p) (story_at g) u → Tidy g → Run q M g [] 0 u
first_run q M g s conn (Connect client clean alive will) u says alone d tidy = connect_run q M g s conn client clean alive will u (says client clean alive will refl) alone d tidy
first_run q M g s conn (ConnAck present code) u says alone d tidy = shut_run q M g conn u d tidy
first_run q M g s conn (Publish dup qos retain topic id payload) u says alone d tidy = shut_run q M g conn u d tidy
first_run q M g s conn (PubAck id) u says alone d tidy = shut_run q M g conn u d tidy
first_run q M g s conn (Subscribe id entries) u says alone d tidy = shut_run q M g conn u d tidy
first_run q M g s conn (SubAck id codes) u says alone d tidy = shut_run q M g conn u d tidy
first_run q M g s conn (Unsubscribe id filters) u says alone d tidy = shut_run q M g conn u d tidy
first_run q M g s conn (UnsubAck id) u says alone d tidy = shut_run q M g conn u d tidy
first_run q M g s conn PingReq u says alone d tidy = shut_run q M g conn u d tidy
first_run q M g s conn PingResp u says alone d tidy = shut_run q M g conn u d tidy
first_run q M g s conn Disconnect u says alone d tidy = shut_run q M g conn u d tidy

-- ---- a whole event

-- a DISCONNECT can be written
can_disconnect : is_some (first_of (unwritable Disconnect)) ≡ false
unfolding has_bad_text has_bad_body is_qos_two spelling body shortest
can_disconnect = refl

unwritten_up : (q : AppMessage → Bool) (g : Past) (conn : ℕ) (p : Message) → is_some (first_of (unwritable p)) ≡ true → gives_up q g conn p ≡ 0
unwritten_up q g conn Disconnect e = yes_no (sym e ∙ can_disconnect)
unwritten_up q g conn _ e = refl

abbrev pub brought_by : Past → ℕ → Message → List AppMessage
brought_by g conn p = cond (is_some (first_of (unwritable p))) [] (cond (is_some (session_at g conn)) (message_of p) [])

packet_run : (q : AppMessage → Bool) (M : Joining → Type 0) (g : Past) (s : Seen) (conn : ℕ) (p : Message) (u : Story) → ((client : List ℕ) (clean : Bool) (alive : ℕ) (will : Option WillData) → p ≡ Connect client clean alive will → M (joining conn alive (option_map will_message will))) → s.joined ≡ is_some (session_at g conn) → TellsAll (packet s conn p) (story_at g) u → Tidy g
    → Run q M g (brought_by g conn p) (gives_up q g conn p) u
packet_run q M g s conn p u says is d tidy = by (is_some (first_of (unwritable p))) refl (is_some (session_at g conn)) refl
    (subst (λ b. TellsAll (cond (is_some (first_of (unwritable p))) (shut conn) (cond b (next_packet s conn p) (first_packet s conn p))) (story_at g) u) is d)
  where
    by : (a : Bool) → is_some (first_of (unwritable p)) ≡ a → (b : Bool) → is_some (session_at g conn) ≡ b → TellsAll (cond a (shut conn) (cond b (next_packet s conn p) (first_packet s conn p))) (story_at g) u
        → Run q M g (cond a [] (cond b (message_of p) [])) (gives_up q g conn p) u
    by true e b f d = subst (λ n. Run q M g [] n u) (sym (unwritten_up q g conn p e)) (shut_run q M g conn u d tidy)
    by false e true f d = next_run q M g s conn p u d tidy
    by false e false f d = subst (λ n. Run q M g [] n u) (sym (nothing_up q g conn p f)) (first_run q M g s conn p u says f d tidy)

all_fair : (silent : List ℕ) → AllFair (flat_map (λ conn. Leave conn true ∷ Tell conn ∷ []) silent)
all_fair [] = tt
all_fair (c ∷ cs) = (tt, (tt, all_fair cs))

-- who joins by an event, and with which will
abbrev pub SaysIn : Event → Joining → Type 0
SaysIn (Packet conn (Connect client clean alive will) moment) j = (j.conn ≡ conn) × (j.will ≡ option_map will_message will)
SaysIn _ j = Unit {0}

abbrev pub brought : Past → Event → List AppMessage
brought h (Open moment) = []
brought h (Packet conn p moment) = brought_by h conn p
brought h (Fault conn f moment) = []
brought h (Closed conn moment) = []
brought h (Tick moment) = []
brought h (Refused conn s moment) = []

abbrev pub discards : (AppMessage → Bool) → Past → Event → ℕ
discards q h (Open moment) = 0
discards q h (Packet conn p moment) = gives_up q h conn p
discards q h (Fault conn f moment) = 0
discards q h (Closed conn moment) = 0
discards q h (Tick moment) = 0
discards q h (Refused conn s moment) = 0

-- what is noted of a moment and of a packet isn't looked at
moved : (q : AppMessage → Bool) (M : Joining → Type 0) (h : Past) (moment : ℕ) (b : List AppMessage) (n : ℕ) (u : Story) → Run q M (Moment moment ∷ h) b n u → Run q M h b n u
moved q M h moment b n u r = record { fresh = r.fresh; tidy = r.tidy; old = λ s j e. r.old s j e; sum_ = r.sum_; new = λ j e. r.new j e; says = λ j e. r.says j e }

later : (h : Past) (moment : ℕ) → Tidy h → Tidy (Moment moment ∷ h)
later h moment tidy = record { once = λ s. tidy.once s; fresh = λ s l. tidy.fresh s l; gone = λ s z. tidy.gone s z }

pub runs : (limit : ℕ) (q : AppMessage → Bool) (h : Past) (e : Event) (t : Telling limit h e) → Tidy h → Run q (SaysIn e) h (brought h e) (discards q h e) t.end
runs limit q h (Open moment) t tidy =
    let (v, e, f) = t.noted in
    moved q (SaysIn (Open moment)) h moment [] 0 t.end (still_run q (SaysIn (Open moment)) (Moment moment ∷ h) (Opens ∷ []) (tt, tt) (tt, tt) t.end
    (subst (λ (x : Story). TellsAll (plan (seen_in limit x.past (Open moment)) (Open moment)) x t.end) (sym f ∙ e) t.done) (later h moment tidy))
runs limit q h (Packet conn p moment) t tidy =
    let (v, e, (w, g, f)) = t.noted in
    let at : t.first ≡ story_at (OfConn conn (Heard (clock (Moment moment ∷ h))) ∷ Moment moment ∷ h) = sym f ∙ g ∙ ap (λ (x : Story). record x { past = OfConn conn (Heard (clock x.past)) ∷ x.past }) e in
    let r = packet_run q (SaysIn (Packet conn p moment)) (OfConn conn (Heard (clock (Moment moment ∷ h))) ∷ Moment moment ∷ h) (seen_in limit (OfConn conn (Heard (clock (Moment moment ∷ h))) ∷ Moment moment ∷ h) (Packet conn p moment)) conn p t.end (λ client clean alive will is. subst (λ n. SaysIn (Packet conn n moment) (joining conn alive (option_map will_message will))) (sym is) (refl, refl)) refl
    (subst (λ (x : Story). TellsAll (plan (seen_in limit x.past (Packet conn p moment)) (Packet conn p moment)) x t.end) at t.done)
    (record { once = λ s. tidy.once s; fresh = λ s l. tidy.fresh s l; gone = λ s z. tidy.gone s z }) in
    record { fresh = r.fresh; tidy = r.tidy; old = λ s j z. r.old s j z; sum_ = r.sum_; new = λ j z. r.new j z; says = λ j z. r.says j z }
runs limit q h (Fault conn k moment) t tidy =
    let (v, e, f) = t.noted in
    let s : Seen = seen_in limit (Moment moment ∷ h) (Fault conn k moment) in
    moved q (SaysIn (Fault conn k moment)) h moment [] 0 t.end (bad (is_bad_level k && not s.joined) (subst (λ (x : Story). TellsAll (plan (seen_in limit x.past (Fault conn k moment)) (Fault conn k moment)) x t.end) (sym f ∙ e) t.done))
  where
    bad : (b : Bool) → TellsAll (cond b (turn_away conn 1) (shut conn)) (story_at (Moment moment ∷ h)) t.end → Run q (SaysIn (Fault conn k moment)) (Moment moment ∷ h) [] 0 t.end
    bad true d = away_run q (SaysIn (Fault conn k moment)) (Moment moment ∷ h) conn 1 t.end d (later h moment tidy)
    bad false d = shut_run q (SaysIn (Fault conn k moment)) (Moment moment ∷ h) conn t.end d (later h moment tidy)
runs limit q h (Closed conn moment) t tidy =
    let (v, e, f) = t.noted in
    moved q (SaysIn (Closed conn moment)) h moment [] 0 t.end (routed_run q (SaysIn (Closed conn moment)) (Moment moment ∷ h) (Leave conn true ∷ []) (tt, tt) t.end
    (subst (λ (x : Story). TellsAll (plan (seen_in limit x.past (Closed conn moment)) (Closed conn moment)) x t.end) (sym f ∙ e) t.done) (later h moment tidy))
runs limit q h (Tick moment) t tidy =
    let (v, e, f) = t.noted in
    let s : Seen = seen_in limit (Moment moment ∷ h) (Tick moment) in
    moved q (SaysIn (Tick moment)) h moment [] 0 t.end (routed_run q (SaysIn (Tick moment)) (Moment moment ∷ h) (flat_map (λ conn. Leave conn true ∷ Tell conn ∷ []) s.silent) (all_fair s.silent) t.end
    (subst (λ (x : Story). TellsAll (plan (seen_in limit x.past (Tick moment)) (Tick moment)) x t.end) (sym f ∙ e) t.done) (later h moment tidy))
runs limit q h (Refused conn sort.QosZero moment) t tidy =
    let (v, e, (w, g, f)) = t.noted in
    let at : t.first ≡ story_at (OfConn conn Dropped ∷ Moment moment ∷ h) = sym f ∙ g ∙ ap (λ (x : Story). record x { past = OfConn conn Dropped ∷ x.past }) e in
    let s : Seen = seen_in limit (OfConn conn Dropped ∷ Moment moment ∷ h) (Refused conn sort.QosZero moment) in
    let r = spent s.spent (subst (λ (x : Story). TellsAll (plan (seen_in limit x.past (Refused conn sort.QosZero moment)) (Refused conn sort.QosZero moment)) x t.end) at t.done) in
    record { fresh = r.fresh; tidy = r.tidy; old = λ s j z. r.old s j z; sum_ = r.sum_; new = λ j z. r.new j z; says = λ j z. r.says j z }
  where
    were : Tidy (OfConn conn Dropped ∷ Moment moment ∷ h)
    were = record { once = λ s. tidy.once s; fresh = λ s l. tidy.fresh s l; gone = λ s z. tidy.gone s z }

    spent : (b : Bool) → TellsAll (cond b (shut conn) []) (story_at (OfConn conn Dropped ∷ Moment moment ∷ h)) t.end → Run q (SaysIn (Refused conn sort.QosZero moment)) (OfConn conn Dropped ∷ Moment moment ∷ h) [] 0 t.end
    spent true d = shut_run q (SaysIn (Refused conn sort.QosZero moment)) (OfConn conn Dropped ∷ Moment moment ∷ h) conn t.end d were
    spent false d = still_run q (SaysIn (Refused conn sort.QosZero moment)) (OfConn conn Dropped ∷ Moment moment ∷ h) [] tt tt t.end d were
runs limit q h (Refused conn sort.Other moment) t tidy =
    let (v, e, f) = t.noted in
    moved q (SaysIn (Refused conn sort.Other moment)) h moment [] 0 t.end (shut_run q (SaysIn (Refused conn sort.Other moment)) (Moment moment ∷ h) conn t.end
    (subst (λ (x : Story). TellsAll (plan (seen_in limit x.past (Refused conn sort.Other moment)) (Refused conn sort.Other moment)) x t.end) (sym f ∙ e) t.done) (later h moment tidy))
