-- What is joined stays so, and what listens goes on listening, or the caller is told to close it.
use Rattle.std.proofs.Common.{◌≡◌, ◌⊎◌, inl, inr, ℕ, zero, suc, ◌+◌, ◌<◌, min, max, Bool, true, false, not, ◌&&◌, ◌||◌, cond, eqb, List, [], ◌∷◌, ◌++◌, map, length, refl, sym, ◌∙◌, ap, arith, subst, Option, Some, None, unwrap_or, true≢false}
use Rattle.std.specs.List.{find, fold, list_any, flat_map, AllByRecursion}
use Rattle.std.specs.Option.{option_map, option_map_or, is_some}
use Rattle.std.specs.Str.{bytes_eq}
use Rattle.std.proofs.lemmas.Bool.{or_left, or_right}
use Rattle.std.proofs.lemmas.List.Folds.{list_any-append}
use Rattle.spk_packets.specs.Message.{Message, Connect, ConnAck, Publish, PubAck, Subscribe, SubAck, Unsubscribe, UnsubAck, PingReq, PingResp, Disconnect}
use Rattle.spk_topics.specs.Fitting.{is_match}
use Rattle.spk_session.specs.declared.answer.Sort.TheVariants as sort
use Rattle.spk_session.specs.PacketIds.{next_id}
use Rattle.spk_session.specs.Step.{has_room}
use Rattle.spk_broker_rules.specs.Data.{AppMessage, Connection, Newcomer, Session, Broker}
use Rattle.spk_broker_rules.specs.Lawful.{Rises, IsLawful}
use Rattle.spk_broker_rules.specs.Table.{Table, has, put, remove, replaced}
use Rattle.spk_broker_rules.specs.Words.{handed_out, best, level, sent_as, option_list, granted_of, with_entry, is_granted, offers_to}
use Rattle.spk_broker_rules.specs.Plan.{Event, Open, Packet, Fault, Closed, Tick, Refused, Act, Opens, At, Hear, Drop, Say, Leave, Tell, Queue, Route, Forget, Accept, Give, Take, Ack, before, plan, shut, turn_away, join, first_packet, next_packet, tick, is_fatal, Seen}
use Rattle.spk_broker_rules.specs.Listening.{is_joined, listens, is_disconnect, is_unsubscribe, lets_go, takes_back, is_closed_in}
use Rattle.spk_broker_rules.specs.Step.{Turn, Served, act, acts, on_connections, newcomer_heard, connection_heard, newcomer_dropped, connection_dropped, sits, swap, left_behind, leave_at, session_by, is_newcomer, is_away, forget_at, connection_of, new_session, take_up, away_for, accept_of, other_grants, give_at, take_at, ack_at, offer, offer_at, with_key, hand, hand_at, serve, serve_at, numbered, bursts, route_one, route_some, route, noted, begun, seen, step}
use Rattle.spk_broker_rules.proofs.Lists.{eqb-is, eqb-self, found-passes, any-map, all-also}
use Rattle.spk_broker_rules.proofs.Lawfuls.{heard-connection, dropped-connection}
use Rattle.spk_broker_rules.proofs.Places.{lawful-act, lawful-acts, lawful-offer_at, lawful-found}

yes_no : true ≡ false → ⊥
yes_no e = true≢false e

no_yes : false ≡ true → ⊥
no_yes e = true≢false (sym e)

rises-high : (low top : ℕ) (ss : List Session) → Rises low top ss → AllByRecursion (λ (s : Session). low < s.key) ss
rises-high low top [] h = tt
rises-high low top (s ∷ ss) h = (h.0, all-also (λ (x : Session). s.key < x.key) (λ (x : Session). low < x.key) (λ x e. let a = h.0 in omega arith) ss (rises-high s.key top ss h.1))

found-high : (p : Session → Bool) (low : ℕ) (ss : List Session) (x : Session) → AllByRecursion (λ (s : Session). low < s.key) ss → find p ss ≡ Some x → low < x.key
found-high p low [] x all e = absurd (no e)
  where
    no : None ≡ Some x → ⊥
    no e = cc
found-high p low (y ∷ ys) x all e = by (p y) e (found-high p low ys x all.1)
  where
    by : (b : Bool) → cond b (Some y) (find p ys) ≡ Some x → (find p ys ≡ Some x → low < x.key) → low < x.key
    by true f rest = let same : y ≡ x = cc in subst (λ (s : Session). low < s.key) same all.0
    by false f rest = rest f

-- what is found is the only one of its key
key-one : (p : Session → Bool) (low top : ℕ) (ss : List Session) (x : Session) → Rises low top ss → find p ss ≡ Some x → AllByRecursion (λ (s : Session). eqb s.key x.key ≡ true → s ≡ x) ss
key-one p low top [] x r e = tt
key-one p low top (y ∷ ys) x r e = by (p y) e (key-one p y.key top ys x r.1)
  where
    high : AllByRecursion (λ (s : Session). y.key < s.key) ys
    high = rises-high y.key top ys r.1

    by : (b : Bool) → cond b (Some y) (find p ys) ≡ Some x → (find p ys ≡ Some x → AllByRecursion (λ (s : Session). eqb s.key x.key ≡ true → s ≡ x) ys)
        → AllByRecursion (λ (s : Session). eqb s.key x.key ≡ true → s ≡ x) (y ∷ ys)
    by true f rest =
        let same : y ≡ x = cc in (
          (λ k. same),
          all-also (λ (s : Session). y.key < s.key) (λ (s : Session). eqb s.key x.key ≡ true → s ≡ x)
              (λ s above k. let a : s.key ≡ x.key = eqb-is s.key x.key k in let b : y.key ≡ x.key = ap (λ (z : Session). z.key) same in absurd (omega arith)) ys high,
        )
    by false f rest =
        let above : y.key < x.key = found-high p y.key ys x high f in
        ((λ k. let a : y.key ≡ x.key = eqb-is y.key x.key k in absurd (omega arith)), rest f)

both-sit : (c d : ℕ) (s : Session) → sits c s ≡ true → sits d s ≡ true → d ≡ c
both-sit c d s = by s.here
  where
    by : (o : Option Connection) → option_map_or (λ (l : Connection). eqb l.conn c) o false ≡ true → option_map_or (λ (l : Connection). eqb l.conn d) o false ≡ true → d ≡ c
    by None e f = absurd (no_yes e)
    by (Some l) e f = sym (eqb-is l.conn d f) ∙ eqb-is l.conn c e

away-sits : (name : List ℕ) (c : ℕ) (s : Session) → is_away name s ≡ true → sits c s ≡ false
away-sits name c s = by s.kept s.here (bytes_eq s.client name)
  where
    by : (k : Bool) (o : Option Connection) (b : Bool) → (k && (not (is_some o) && b)) ≡ true → option_map_or (λ (l : Connection). eqb l.conn c) o false ≡ false
    by true None b e = refl
    by false None b e = refl
    by true (Some l) b e = absurd (no_yes e)
    by false (Some l) b e = absurd (no_yes e)

module _ (c : ℕ) (L : Table ℕ → Bool) (mono : (f : List ℕ) (q : ℕ) (g : Table ℕ) → L g ≡ true → L (put f q g) ≡ true) where
  -- a session of the connection, with such grants
  abbrev Q : Session → Bool
  Q s = sits c s && L s.grants

  abbrev Stays : Turn → Type 0
  Stays t = list_any Q t.broker.sessions ≡ true

  abbrev Told : Turn → Type 0
  Told t = list_any (λ d. eqb d c) t.closes ≡ true

  abbrev Fine : Turn → Type 0
  Fine t = Stays t ⊎ Told t

  sits-of : (s : Session) → Q s ≡ true → sits c s ≡ true
  sits-of s e = by (sits c s) e
    where
      by : (b : Bool) → (b && L s.grants) ≡ true → b ≡ true
      by true e = refl
      by false e = absurd (no_yes e)

  grants-of : (s : Session) → Q s ≡ true → L s.grants ≡ true
  grants-of s e = by (sits c s) e
    where
      by : (b : Bool) → (b && L s.grants) ≡ true → L s.grants ≡ true
      by true e = e
      by false e = absurd (no_yes e)

  any-front : {X : Type 0} (p : X → Bool) (xs ys : List X) → list_any p xs ≡ true → list_any p (xs ++ ys) ≡ true
  any-front p xs ys e = list_any-append p xs ys ∙ or_left _ _ e

  any-back : {X : Type 0} (p : X → Bool) (xs ys : List X) → list_any p ys ≡ true → list_any p (xs ++ ys) ≡ true
  any-back p xs ys e = list_any-append p xs ys ∙ or_right _ _ e

  -- one session among the others
  any-swap : (key : ℕ) (new ss : List Session) → AllByRecursion (λ (s : Session). eqb s.key key ≡ true → Q s ≡ true → list_any Q new ≡ true) ss → list_any Q ss ≡ true → list_any Q (swap key new ss) ≡ true
  any-swap key new [] all e = e
  any-swap key new (s ∷ ss) all e = by (eqb s.key key) refl (Q s) refl e (any-swap key new ss all.1)
    where
      by : (a : Bool) → eqb s.key key ≡ a → (b : Bool) → Q s ≡ b → (b || list_any Q ss) ≡ true → (list_any Q ss ≡ true → list_any Q (swap key new ss) ≡ true)
          → list_any Q (cond a new (s ∷ []) ++ swap key new ss) ≡ true
      by true i true j f rest = any-front Q new (swap key new ss) (all.0 i j)
      by true i false j f rest = any-back Q new (swap key new ss) (rest f)
      by false i true j f rest = or_left (Q s) (list_any Q (swap key new ss)) j
      by false i false j f rest = or_right (Q s) (list_any Q (swap key new ss)) (rest f)

  -- where what is found becomes new
  stays-swap : (p : Session → Bool) (x : Session) (new : List Session) (b : Broker) → IsLawful b → find p b.sessions ≡ Some x → (Q x ≡ true → list_any Q new ≡ true)
      → list_any Q b.sessions ≡ true → list_any Q (swap x.key new b.sessions) ≡ true
  stays-swap p x new b l is after_it e = any-swap x.key new b.sessions
      (all-also (λ (s : Session). eqb s.key x.key ≡ true → s ≡ x) (λ (s : Session). eqb s.key x.key ≡ true → Q s ≡ true → list_any Q new ≡ true)
      (λ s one k q. after_it (ap Q (sym (one k)) ∙ q)) b.sessions (key-one p 0 b.made b.sessions x l.keys is)) e

  -- ---- one message

  abbrev Kept : Served → Type 0
  Kept x = (list_any Q x.left ≡ true) ⊎ (list_any (λ d. eqb d c) x.closes ≡ true)

  kept-bursts : (s : Session) → sits c s ≡ true → list_any (λ d. eqb d c) (bursts s).closes ≡ true
  kept-bursts s = by s.here
    where
      by : (o : Option Connection) → option_map_or (λ (l : Connection). eqb l.conn c) o false ≡ true → list_any (λ d. eqb d c) (option_list (option_map (λ (l : Connection). l.conn) o)) ≡ true
      by None e = absurd (no_yes e)
      by (Some l) e = or_left (eqb l.conn c) false e

  kept-hand : (q : ℕ) (app_message : AppMessage) (s : Session) → Q s ≡ true → Kept (hand_at q app_message s)
  kept-hand zero app_message s e = inl (or_left (Q s) false e)
  kept-hand (suc q) app_message s e = by (has_room s.used)
    where
      by : (b : Bool) → (list_any Q (cond b (numbered s app_message (next_id s.used s.last)) (bursts s)).left ≡ true) ⊎ (list_any (λ d. eqb d c) (cond b (numbered s app_message (next_id s.used s.last)) (bursts s)).closes ≡ true)
      by true = inl (or_left (Q s) false e)
      by false = inr (kept-bursts s (sits-of s e))

  kept-serve : (m : AppMessage) (s : Session) → Q s ≡ true → Kept (serve m s)
  kept-serve m s e = by (level m.qos (best m.topic s.grants))
    where
      by : (o : Option ℕ) → (list_any Q (serve_at o m s).left ≡ true) ⊎ (list_any (λ d. eqb d c) (serve_at o m s).closes ≡ true)
      by None = inl (or_left (Q s) false e)
      by (Some q) = kept-hand q (sent_as m q false) s e

  kept-all : (m : AppMessage) (ss : List Session) → list_any Q ss ≡ true
      → (list_any Q (flat_map (λ (s : Session). (serve m s).left) ss) ≡ true) ⊎ (list_any (λ d. eqb d c) (flat_map (λ (s : Session). (serve m s).closes) ss) ≡ true)
  kept-all m [] e = absurd (no_yes e)
  kept-all m (s ∷ ss) e = by (Q s) refl e (kept-all m ss)
    where
      by : (b : Bool) → Q s ≡ b → (b || list_any Q ss) ≡ true
          → (list_any Q ss ≡ true → (list_any Q (flat_map (λ (x : Session). (serve m x).left) ss) ≡ true) ⊎ (list_any (λ d. eqb d c) (flat_map (λ (x : Session). (serve m x).closes) ss) ≡ true))
          → (list_any Q ((serve m s).left ++ flat_map (λ (x : Session). (serve m x).left) ss) ≡ true) ⊎ (list_any (λ d. eqb d c) ((serve m s).closes ++ flat_map (λ (x : Session). (serve m x).closes) ss) ≡ true)
      by true i f rest = elim (kept-serve m s i) [
        | inl x ↦ inl (any-front Q (serve m s).left (flat_map (λ (x : Session). (serve m x).left) ss) x)
        | inr x ↦ inr (any-front (λ d. eqb d c) (serve m s).closes (flat_map (λ (x : Session). (serve m x).closes) ss) x)
      ]
      by false i f rest = elim (rest f) [
        | inl x ↦ inl (any-back Q (serve m s).left (flat_map (λ (x : Session). (serve m x).left) ss) x)
        | inr x ↦ inr (any-back (λ d. eqb d c) (serve m s).closes (flat_map (λ (x : Session). (serve m x).closes) ss) x)
      ]

  fine-one : (m : AppMessage) (t : Turn) → Fine t → Fine (route_one m t)
  fine-one m t (inl e) = elim (kept-all m t.broker.sessions e) [
    | inl x ↦ inl x
    | inr x ↦ inr (any-back (λ d. eqb d c) t.closes (flat_map (λ (s : Session). (serve m s).closes) t.broker.sessions) x)
  ]
  fine-one m t (inr e) = inr (any-front (λ d. eqb d c) t.closes (flat_map (λ (s : Session). (serve m s).closes) t.broker.sessions) e)

  fine-some : (n : ℕ) (t : Turn) → Fine t → Fine (route_some n t)
  unfolding route_some
  fine-some zero t e = e
  fine-some (suc n) t e = by t.waiting (λ m ms. fine-some n (route_one m (record t { waiting = ms })) (fine-one m (record t { waiting = ms }) e))
    where
      by : (ws : List AppMessage) → ((m : AppMessage) (ms : List AppMessage) → Fine (route_some n (route_one m (record t { waiting = ms }))))
          → Fine (elim ws as (λ _. Turn) [ [] ↦ t | m ∷ ms ↦ route_some n (route_one m (record t { waiting = ms })) ])
      by [] rest = e
      by (m ∷ ms) rest = rest m ms

  fine-route : (t : Turn) → Fine t → Fine (route t)
  unfolding route
  fine-route t e = fine-some (length t.waiting + length t.broker.sessions) t e

  -- ---- the acts

  -- neither the connection's leaving nor, unless it keeps its grants so, what it takes back
  abbrev Safe : Act → Type 0
  Safe Opens = Unit {0}
  Safe (At moment) = Unit {0}
  Safe (Hear d) = Unit {0}
  Safe (Drop d) = Unit {0}
  Safe (Say d p) = Unit {0}
  Safe (Leave d wills) = eqb d c ≡ false
  Safe (Tell d) = Unit {0}
  Safe (Queue app_message) = Unit {0}
  Safe Route = Unit {0}
  Safe (Forget name) = Unit {0}
  Safe (Accept d name keeps alive will) = Unit {0}
  Safe (Give d id entries) = Unit {0}
  Safe (Take d filters) = (eqb d c ≡ false) ⊎ ((g : Table ℕ) (f : List ℕ) → L g ≡ true → L (remove f g) ≡ true)
  Safe (Ack d id) = Unit {0}

  other-sits : (d : ℕ) (s : Session) → eqb d c ≡ false → sits d s ≡ true → Q s ≡ true → ⊥
  other-sits d s e f q = yes_no (sym (ap (λ x. eqb x c) (both-sit c d s (sits-of s q) f) ∙ eqb-self c) ∙ e)

  fine-leave : (d : ℕ) (wills : Bool) (t : Turn) (o : Option Session) → IsLawful t.broker → eqb d c ≡ false → session_by d t.broker.sessions ≡ o → Fine t → Fine (leave_at o d wills t)
  fine-leave d wills t None l e is f = f
  fine-leave d wills t (Some s) l e is (inl f) = inl (stays-swap (sits d) s (left_behind s) t.broker l is
      (λ q. absurd (other-sits d s e (found-passes (sits d) t.broker.sessions s is) q)) f)
  fine-leave d wills t (Some s) l e is (inr f) = inr f

  fine-forget : (name : List ℕ) (t : Turn) (o : Option Session) → IsLawful t.broker → find (is_away name) t.broker.sessions ≡ o → Fine t → Fine (forget_at o t)
  fine-forget name t None l is f = f
  fine-forget name t (Some s) l is (inl f) = inl (stays-swap (is_away name) s [] t.broker l is
      (λ q. absurd (yes_no (sym (sits-of s q) ∙ away-sits name c s (found-passes (is_away name) t.broker.sessions s is)))) f)
  fine-forget name t (Some s) l is (inr f) = inr f

  fine-up : (name : List ℕ) (keeps : Bool) (x : Connection) (t : Turn) (o : Option Session) → IsLawful t.broker → away_for keeps name t.broker.sessions ≡ o → Fine t → Fine (take_up o name keeps x t)
  fine-up name keeps x t None l is (inl f) = inl (any-front Q t.broker.sessions (new_session (t.broker.made + 1) name keeps x ∷ []) f)
  fine-up name keeps x t None l is (inr f) = inr f
  fine-up name keeps x t (Some s) l is (inl f) = inl (stays-swap (is_away name) s ((record s { here = Some x; in_flight = map handed_out s.in_flight }) ∷ []) t.broker l (found keeps is)
      (λ q. absurd (yes_no (sym (sits-of s q) ∙ away-sits name c s (found-passes (is_away name) t.broker.sessions s (found keeps is))))) f)
    where
      found : (k : Bool) → cond k (find (is_away name) t.broker.sessions) None ≡ Some s → find (is_away name) t.broker.sessions ≡ Some s
      found true e = e
      found false e = absurd (no e)
        where
          no : None ≡ Some s → ⊥
          no e = cc
  fine-up name keeps x t (Some s) l is (inr f) = inr f

  fine-accept : (name : List ℕ) (keeps : Bool) (alive : ℕ) (will : Option AppMessage) (t : Turn) (o : Option Newcomer) → IsLawful t.broker → Fine t → Fine (accept_of o name keeps alive will t)
  fine-accept name keeps alive will t None l f = f
  fine-accept name keeps alive will t (Some g) l f = fine-up name keeps (connection_of g alive will) t (away_for keeps name t.broker.sessions) l refl f

  fine-offer_at : (key : ℕ) (app_message : AppMessage) (t : Turn) (o : Option Session) → IsLawful t.broker → with_key key t.broker.sessions ≡ o → Fine t → Fine (offer_at o key app_message t)
  fine-offer_at key app_message t None l is f = f
  fine-offer_at key app_message t (Some s) l is (inr f) = inr (any-front (λ d. eqb d c) t.closes (hand app_message s).closes f)
  fine-offer_at key app_message t (Some s) l is (inl f) = by (Q s) refl
    where
      same : s.key ≡ key
      same = eqb-is s.key key (found-passes (λ (x : Session). eqb x.key key) t.broker.sessions s is)

      swapped : (Q s ≡ true → list_any Q (hand app_message s).left ≡ true) → list_any Q (swap key (hand app_message s).left t.broker.sessions) ≡ true
      swapped h = subst (λ k. list_any Q (swap k (hand app_message s).left t.broker.sessions) ≡ true) same (stays-swap (λ (x : Session). eqb x.key key) s (hand app_message s).left t.broker l is h f)

      by : (b : Bool) → Q s ≡ b → Fine (offer_at (Some s) key app_message t)
      by true i = elim (kept-hand app_message.qos app_message s i) [
        | inl x ↦ inl (swapped (λ q. x))
        | inr x ↦ inr (any-back (λ d. eqb d c) t.closes (hand app_message s).closes x)
      ]
      by false i = inl (swapped (λ q. absurd (yes_no (sym q ∙ i))))

  fine-offers : (key : ℕ) (app_messages : List AppMessage) (t : Turn) → IsLawful t.broker → Fine t → Fine (fold (offer key) t app_messages)
  fine-offers key [] t l f = f
  fine-offers key (p ∷ ps) t l f = fine-offers key ps (offer key t p) (lawful-offer_at key p t (with_key key t.broker.sessions) l refl)
      (fine-offer_at key p t (with_key key t.broker.sessions) l refl f)

  mono-entries : (others : ℕ) (es : List (List ℕ × ℕ)) (g : Table ℕ) → L g ≡ true → L (fold (with_entry others) g es) ≡ true
  mono-entries others [] g e = e
  mono-entries others (x ∷ es) g e = mono-entries others es (with_entry others g x) (by (is_granted others g x))
    where
      by : (b : Bool) → L (cond b (put x.0 (min 1 x.1) g) g) ≡ true
      by true = mono x.0 (min 1 x.1) g e
      by false = e

  q-from : (s : Session) (b : Bool) → sits c s ≡ true → b ≡ true → (sits c s && b) ≡ true
  q-from s b e f = ap (λ x. x && b) e ∙ f

  fine-give : (d id : ℕ) (entries : List (List ℕ × ℕ)) (t : Turn) (o : Option Session) → IsLawful t.broker → session_by d t.broker.sessions ≡ o → Fine t → Fine (give_at o d id entries t)
  fine-give d id entries t None l is f = f
  fine-give d id entries t (Some s) l is f =
      fine-offers s.key (flat_map (offers_to t.broker.retained) (granted_of (other_grants s t.broker.sessions) s.grants entries)) _
      (lawful-found d t s _ refl refl l is) (given f)
    where
      given : Fine t → Fine (record t {
        broker = record t.broker { sessions = swap s.key ((record s { grants = fold (with_entry (other_grants s t.broker.sessions)) s.grants entries }) ∷ []) t.broker.sessions };
      })
      given (inl e) = inl (stays-swap (sits d) s ((record s { grants = fold (with_entry (other_grants s t.broker.sessions)) s.grants entries }) ∷ []) t.broker l is
          (λ q. or_left _ false (q-from s (L (fold (with_entry (other_grants s t.broker.sessions)) s.grants entries)) (sits-of s q) (mono-entries (other_grants s t.broker.sessions) entries s.grants (grants-of s q)))) e)
      given (inr e) = inr e

  fine-take : (d : ℕ) (filters : List (List ℕ)) (t : Turn) (o : Option Session) → IsLawful t.broker → Safe (Take d filters) → session_by d t.broker.sessions ≡ o → Fine t → Fine (take_at o filters t)
  fine-take d filters t None l safe is f = f
  fine-take d filters t (Some s) l safe is (inr f) = inr f
  fine-take d filters t (Some s) l safe is (inl f) = inl (stays-swap (sits d) s ((record s { grants = fold (λ g k. remove k g) s.grants filters }) ∷ []) t.broker l is (λ q. by q safe) f)
    where
      all : ((g : Table ℕ) (k : List ℕ) → L g ≡ true → L (remove k g) ≡ true) → (ks : List (List ℕ)) (g : Table ℕ) → L g ≡ true → L (fold (λ a k. remove k a) g ks) ≡ true
      all h [] g e = e
      all h (k ∷ ks) g e = all h ks (remove k g) (h g k e)

      by : Q s ≡ true → (eqb d c ≡ false) ⊎ ((g : Table ℕ) (k : List ℕ) → L g ≡ true → L (remove k g) ≡ true)
          → list_any Q ((record s { grants = fold (λ g k. remove k g) s.grants filters }) ∷ []) ≡ true
      by q (inl e) = absurd (other-sits d s e (found-passes (sits d) t.broker.sessions s is) q)
      by q (inr h) = or_left _ false (q-from s (L (fold (λ g k. remove k g) s.grants filters)) (sits-of s q) (all h filters s.grants (grants-of s q)))

  fine-ack : (d id : ℕ) (t : Turn) (o : Option Session) → IsLawful t.broker → session_by d t.broker.sessions ≡ o → Fine t → Fine (ack_at o id t)
  fine-ack d id t None l is f = f
  fine-ack d id t (Some s) l is (inl f) = inl (stays-swap (sits d) s _ t.broker l is (λ q. or_left (Q s) false q) f)
  fine-ack d id t (Some s) l is (inr f) = inr f

  connection-sits : (change : Connection → Connection) → ((l : Connection) → (change l).conn ≡ l.conn) → (s : Session) → Q (record s { here = option_map change s.here }) ≡ Q s
  connection-sits change same s = ap (λ b. b && L s.grants) (by s.here)
    where
      by : (o : Option Connection) → option_map_or (λ (l : Connection). eqb l.conn c) (option_map change o) false ≡ option_map_or (λ (l : Connection). eqb l.conn c) o false
      by None = refl
      by (Some l) = ap (λ n. eqb n c) (same l)

  fine-connections : (on_newcomer : Newcomer → Newcomer) (change : Connection → Connection) → ((l : Connection) → (change l).conn ≡ l.conn) → (t : Turn) → Fine t → Fine (on_connections on_newcomer change t)
  fine-connections on_newcomer change same t (inl e) = inl (any-map (λ (s : Session). record s { here = option_map change s.here }) Q Q (connection-sits change same) t.broker.sessions ∙ e)
  fine-connections on_newcomer change same t (inr e) = inr e

  fine-act : (a : Act) (t : Turn) → Safe a → IsLawful t.broker → Fine t → Fine (act a t)
  fine-act Opens t safe l f = f
  fine-act (At moment) t safe l f = f
  fine-act (Hear d) t safe l f = fine-connections (newcomer_heard d t.broker.clock) (connection_heard d t.broker.clock) (heard-connection d t.broker.clock) t f
  fine-act (Drop d) t safe l f = fine-connections (newcomer_dropped d) (connection_dropped d) (dropped-connection d) t f
  fine-act (Say d p) t safe l f = f
  fine-act (Leave d wills) t safe l f = fine-leave d wills t (session_by d t.broker.sessions) l safe refl f
  fine-act (Tell d) t safe l (inl f) = inl f
  fine-act (Tell d) t safe l (inr f) = inr (any-front (λ x. eqb x c) t.closes (d ∷ []) f)
  fine-act (Queue app_message) t safe l f = f
  fine-act Route t safe l f = fine-route t f
  fine-act (Forget name) t safe l f = fine-forget name t (find (is_away name) t.broker.sessions) l refl f
  fine-act (Accept d name keeps alive will) t safe l f = fine-accept name keeps alive will t (find (is_newcomer d) t.broker.newcomers) l f
  fine-act (Give d id entries) t safe l f = fine-give d id entries t (session_by d t.broker.sessions) l refl f
  fine-act (Take d filters) t safe l f = fine-take d filters t (session_by d t.broker.sessions) l safe refl f
  fine-act (Ack d id) t safe l f = fine-ack d id t (session_by d t.broker.sessions) l refl f

  fine-acts : (as_list : List Act) (t : Turn) → AllByRecursion Safe as_list → IsLawful t.broker → Fine t → Fine (acts as_list t)
  fine-acts [] t safe l f = f
  fine-acts (a ∷ as_list) t safe l f = fine-acts as_list (act a t) safe.1 (lawful-act a t l) (fine-act a t safe.0 l f)

  -- ---- who is told to be closed stays so

  told-one : (m : AppMessage) (t : Turn) → Told t → Told (route_one m t)
  told-one m t e = any-front (λ d. eqb d c) t.closes (flat_map (λ (s : Session). (serve m s).closes) t.broker.sessions) e

  told-some : (n : ℕ) (t : Turn) → Told t → Told (route_some n t)
  unfolding route_some
  told-some zero t e = e
  told-some (suc n) t e = by t.waiting (λ m ms. told-some n (route_one m (record t { waiting = ms })) (told-one m (record t { waiting = ms }) e))
    where
      by : (ws : List AppMessage) → ((m : AppMessage) (ms : List AppMessage) → Told (route_some n (route_one m (record t { waiting = ms }))))
          → Told (elim ws as (λ _. Turn) [ [] ↦ t | m ∷ ms ↦ route_some n (route_one m (record t { waiting = ms })) ])
      by [] rest = e
      by (m ∷ ms) rest = rest m ms

  told-route : (t : Turn) → Told t → Told (route t)
  unfolding route
  told-route t e = told-some (length t.waiting + length t.broker.sessions) t e

  told-offers : (key : ℕ) (app_messages : List AppMessage) (t : Turn) → Told t → Told (fold (offer key) t app_messages)
  told-offers key [] t e = e
  told-offers key (p ∷ ps) t e = told-offers key ps (offer key t p) (by (with_key key t.broker.sessions))
    where
      by : (o : Option Session) → Told (offer_at o key p t)
      by None = e
      by (Some s) = any-front (λ d. eqb d c) t.closes (hand p s).closes e

  told-act : (a : Act) (t : Turn) → Told t → Told (act a t)
  told-act Opens t e = e
  told-act (At moment) t e = e
  told-act (Hear d) t e = e
  told-act (Drop d) t e = e
  told-act (Say d p) t e = e
  told-act (Leave d wills) t e = by (session_by d t.broker.sessions)
    where
      by : (o : Option Session) → Told (leave_at o d wills t)
      by None = e
      by (Some s) = e
  told-act (Tell d) t e = any-front (λ x. eqb x c) t.closes (d ∷ []) e
  told-act (Queue app_message) t e = e
  told-act Route t e = told-route t e
  told-act (Forget name) t e = by (find (is_away name) t.broker.sessions)
    where
      by : (o : Option Session) → Told (forget_at o t)
      by None = e
      by (Some s) = e
  told-act (Accept d name keeps alive will) t e = by (find (is_newcomer d) t.broker.newcomers)
    where
      up : (o : Option Session) (x : Connection) → Told (take_up o name keeps x t)
      up None x = e
      up (Some s) x = e

      by : (o : Option Newcomer) → Told (accept_of o name keeps alive will t)
      by None = e
      by (Some g) = up (away_for keeps name t.broker.sessions) (connection_of g alive will)
  told-act (Give d id entries) t e = by (session_by d t.broker.sessions)
    where
      by : (o : Option Session) → Told (give_at o d id entries t)
      by None = e
      by (Some s) = told-offers s.key (flat_map (offers_to t.broker.retained) (granted_of (other_grants s t.broker.sessions) s.grants entries)) _ e
  told-act (Take d filters) t e = by (session_by d t.broker.sessions)
    where
      by : (o : Option Session) → Told (take_at o filters t)
      by None = e
      by (Some s) = e
  told-act (Ack d id) t e = by (session_by d t.broker.sessions)
    where
      by : (o : Option Session) → Told (ack_at o id t)
      by None = e
      by (Some s) = e

  told-acts : (as_list : List Act) (t : Turn) → Told t → Told (acts as_list t)
  told-acts [] t e = e
  told-acts (a ∷ as_list) t e = told-acts as_list (act a t) (told-act a t e)

  -- ---- the rules: who leaves is told so

  record Tells (as_list : List Act) : Type 0 where
    front : List Act
    back : List Act
    is : as_list ≡ front ++ Tell c ∷ back

  abbrev Good : List Act → Type 0
  Good as_list = Tells as_list ⊎ AllByRecursion Safe as_list

  acts-append : (xs ys : List Act) (t : Turn) → acts (xs ++ ys) t ≡ acts ys (acts xs t)
  acts-append [] ys t = refl
  acts-append (a ∷ xs) ys t = acts-append xs ys (act a t)

  good-acts : (as_list : List Act) (t : Turn) → Good as_list → IsLawful t.broker → Fine t → Fine (acts as_list t)
  good-acts as_list t (inr safe) l f = fine-acts as_list t safe l f
  good-acts as_list t (inl x) l f = inr (subst Told (sym (ap (λ k. acts k t) x.is ∙ acts-append x.front (Tell c ∷ x.back) t))
      (told-acts x.back (act (Tell c) (acts x.front t)) (any-back (λ d. eqb d c) (acts x.front t).closes (c ∷ []) (or_left (eqb c c) false (eqb-self c)))))

  good-tell : (d : ℕ) (front back : List Act) → eqb d c ≡ true → Good (front ++ Tell d ∷ back)
  good-tell d front back e = inl (record { front = front; back = back; is = ap (λ x. front ++ Tell x ∷ back) (eqb-is d c e) })

  good-behind : (xs ys : List Act) → AllByRecursion Safe xs → Good ys → Good (xs ++ ys)
  good-behind [] ys s g = g
  good-behind (a ∷ xs) ys s g = elim (good-behind xs ys s.1 g) [
    | inl x ↦ inl (record { front = a ∷ x.front; back = x.back; is = ap (λ k. a ∷ k) x.is })
    | inr safe ↦ inr (s.0, safe)
  ]

  good-cond : (b : Bool) (xs ys : List Act) → Good xs → Good ys → Good (cond b xs ys)
  good-cond true xs ys g h = g
  good-cond false xs ys g h = h

  good-shut : (d : ℕ) → Good (shut d)
  good-shut d = by (eqb d c) refl
    where
      by : (b : Bool) → eqb d c ≡ b → Good (shut d)
      by true e = good-tell d (Leave d true ∷ []) (Route ∷ []) e
      by false e = inr (e, (tt, (tt, tt)))

  good-away : (d code : ℕ) → Good (turn_away d code)
  good-away d code = good-behind (Say d (ConnAck false code) ∷ []) (shut d) (tt, tt) (good-shut d)

  good-join : (older : Option ℕ) (d : ℕ) (name : List ℕ) (clean : Bool) (alive : ℕ) (will : Option AppMessage) → Good (join older d name clean alive will)
  good-join None d name true alive will = inr (tt, (tt, tt))
  good-join None d name false alive will = inr (tt, tt)
  good-join (Some o) d name clean alive will = by (eqb o c) refl clean
    where
      by : (b : Bool) → eqb o c ≡ b → (k : Bool) → Good (Leave o true ∷ Route ∷ (cond k (Forget name ∷ []) [] ++ Accept d name (not clean) alive will ∷ Tell o ∷ []))
      by true e true = good-tell o (Leave o true ∷ Route ∷ Forget name ∷ Accept d name (not clean) alive will ∷ []) [] e
      by true e false = good-tell o (Leave o true ∷ Route ∷ Accept d name (not clean) alive will ∷ []) [] e
      by false e true = inr (e, (tt, (tt, (tt, (tt, tt)))))
      by false e false = inr (e, (tt, (tt, (tt, tt))))

  good-first : (v : Seen) (d : ℕ) (p : Message) → Good (first_packet v d p)
  good-first v d (Connect name clean alive will) =
      good-cond _ _ _ (good-away d 2) (good-cond _ _ _ (good-shut d) (good-cond _ _ _ (good-away d 3) (good-join v.older d name clean alive _)))
  good-first v d (ConnAck present code) = good-shut d
  good-first v d (Publish dup qos retain topic id payload) = good-shut d
  good-first v d (PubAck id) = good-shut d
  good-first v d (Subscribe id entries) = good-shut d
  good-first v d (SubAck id codes) = good-shut d
  good-first v d (Unsubscribe id filters) = good-shut d
  good-first v d (UnsubAck id) = good-shut d
  good-first v d PingReq = good-shut d
  good-first v d PingResp = good-shut d
  good-first v d Disconnect = good-shut d

  -- what is taken back is another's, or keeps such grants
  Keeps : Type 0
  Keeps = (g : Table ℕ) (f : List ℕ) → L g ≡ true → L (remove f g) ≡ true

  only : (b : Bool) → (b && true) ≡ false → b ≡ false
  only true e = e
  only false e = e

  good-next : (v : Seen) (d : ℕ) (p : Message) → (eqb d c && is_disconnect p) ≡ false
      → ((eqb d c && is_unsubscribe p) ≡ false) ⊎ Keeps → Good (next_packet v d p)
  unfolding Keeps
  good-next v d (Connect name clean alive will) e f = good-shut d
  good-next v d (ConnAck present code) e f = good-shut d
  good-next v d (Publish dup qos retain topic None payload) e f =
      good-cond _ (shut d) (Queue (record { topic = topic; payload = payload; qos = qos; retain = retain }) ∷ Route ∷ []) (good-shut d) (inr (tt, (tt, tt)))
  good-next v d (Publish dup qos retain topic (Some id) payload) e f =
      good-cond _ (shut d) (Say d (PubAck id) ∷ Queue (record { topic = topic; payload = payload; qos = qos; retain = retain }) ∷ Route ∷ []) (good-shut d) (inr (tt, (tt, (tt, tt))))
  good-next v d (PubAck id) e f = inr (tt, tt)
  good-next v d (Subscribe id entries) e f = good-cond _ (shut d) (Give d id entries ∷ Route ∷ []) (good-shut d) (inr (tt, (tt, tt)))
  good-next v d (SubAck id codes) e f = good-shut d
  good-next v d (Unsubscribe id filters) e (inl f) = good-cond _ (shut d) (Take d filters ∷ Say d (UnsubAck id) ∷ []) (good-shut d) (inr (inl (only (eqb d c) f), (tt, tt)))
  good-next v d (Unsubscribe id filters) e (inr k) = good-cond _ (shut d) (Take d filters ∷ Say d (UnsubAck id) ∷ []) (good-shut d) (inr (inr k, (tt, tt)))
  good-next v d (UnsubAck id) e f = good-shut d
  good-next v d PingReq e f = inr (tt, tt)
  good-next v d PingResp e f = good-shut d
  good-next v d Disconnect e f = inr (only (eqb d c) e, tt)

  good-tick : (silent : List ℕ) → Good (tick silent)
  good-tick [] = inr (tt, tt)
  good-tick (x ∷ xs) = by (eqb x c) refl (good-tick xs)
    where
      by : (b : Bool) → eqb x c ≡ b → Good (flat_map (λ d. Leave d true ∷ Tell d ∷ []) xs ++ Route ∷ []) → Good (Leave x true ∷ Tell x ∷ (flat_map (λ d. Leave d true ∷ Tell d ∷ []) xs ++ Route ∷ []))
      by true e rest = good-tell x (Leave x true ∷ []) (flat_map (λ d. Leave d true ∷ Tell d ∷ []) xs ++ Route ∷ []) e
      by false e rest = good-behind (Leave x true ∷ Tell x ∷ []) (flat_map (λ d. Leave d true ∷ Tell d ∷ []) xs ++ Route ∷ []) (e, (tt, tt)) rest

  good-plan : (v : Seen) (e : Event) → lets_go c e ≡ false → (takes_back c e ≡ false) ⊎ Keeps → Good (plan v e)
  good-plan v (Open moment) a b = inr (tt, tt)
  good-plan v (Packet d p moment) a b = good-cond _ _ _ (good-shut d) (good-cond _ _ _ (good-next v d p a b) (good-first v d p))
  good-plan v (Fault d f moment) a b = good-cond _ _ _ (good-away d 1) (good-shut d)
  good-plan v (Closed d moment) a b = inr (a, (tt, tt))
  good-plan v (Tick moment) a b = good-tick v.silent
  good-plan v (Refused d s moment) a b = good-cond (is_fatal s v.spent) (shut d) [] (good-shut d) (inr tt)

  safe-before : (e : Event) → AllByRecursion Safe (before e)
  safe-before (Open moment) = (tt, tt)
  safe-before (Packet d p moment) = (tt, (tt, tt))
  safe-before (Fault d f moment) = (tt, tt)
  safe-before (Closed d moment) = (tt, tt)
  safe-before (Tick moment) = (tt, tt)
  safe-before (Refused d sort.QosZero moment) = (tt, (tt, tt))
  safe-before (Refused d sort.Other moment) = (tt, tt)

  pub stays-step : (b : Broker) (e : Event) → IsLawful b → list_any Q b.sessions ≡ true → lets_go c e ≡ false
      → (takes_back c e ≡ false) ⊎ ((g : Table ℕ) (f : List ℕ) → L g ≡ true → L (remove f g) ≡ true)
      → (list_any Q (step b e).broker.sessions ≡ true) ⊎ (list_any (λ d. eqb d c) (step b e).closes ≡ true)
  unfolding step Keeps
  stays-step b e l there a k = good-acts (plan (seen (noted b e).broker e) e) (noted b e) (good-plan (seen (noted b e).broker e) e a k) (lawful-acts (before e) (begun b) l)
      (fine-acts (before e) (begun b) (safe-before e) l (inl there))

-- ---- joined, and listening

joined-any : (c : ℕ) (ss : List Session) → list_any (λ (s : Session). sits c s && true) ss ≡ is_some (session_by c ss)
joined-any c [] = refl
joined-any c (s ∷ ss) = by (sits c s) (joined-any c ss)
  where
    by : (b : Bool) → list_any (λ (x : Session). sits c x && true) ss ≡ is_some (session_by c ss) → ((b && true) || list_any (λ (x : Session). sits c x && true) ss) ≡ is_some (cond b (Some s) (session_by c ss))
    by true rest = refl
    by false rest = rest

pub stays-joined : (b : Broker) (c : ℕ) (e : Event) → IsLawful b → is_joined b c ≡ true → lets_go c e ≡ false → (is_joined (step b e).broker c ≡ true) ⊎ (is_closed_in c (step b e) ≡ true)
stays-joined b c e l there a =
    elim (stays-step c (λ g. true) (λ f q g h. refl) b e l (joined-any c b.sessions ∙ there) a (inr (λ g f h. refl))) [
      | inl x ↦ inl (sym (joined-any c (step b e).broker.sessions) ∙ x)
      | inr x ↦ inr x
    ]

some-best : (topic : List ℕ) (g : Table ℕ) → is_some (best topic g) ≡ list_any (λ (e : List ℕ × ℕ). is_match e.0 topic) g
some-best topic [] = refl
some-best topic (x ∷ g) = by (is_match x.0 topic) (some-best topic g)
  where
    by : (b : Bool) → is_some (best topic g) ≡ list_any (λ (e : List ℕ × ℕ). is_match e.0 topic) g
        → is_some (cond b (Some (max x.1 (unwrap_or (best topic g) 0))) (best topic g)) ≡ (b || list_any (λ (e : List ℕ × ℕ). is_match e.0 topic) g)
    by true rest = refl
    by false rest = rest

best-put : (topic f : List ℕ) (q : ℕ) (g : Table ℕ) → is_some (best topic g) ≡ true → is_some (best topic (put f q g)) ≡ true
best-put topic f q g e = some-best topic (put f q g) ∙ by (has f g)
  where
    same : (x : List ℕ × ℕ) → is_match (replaced f q x).0 topic ≡ is_match x.0 topic
    same x = one (bytes_eq x.0 f)
      where
        one : (b : Bool) → is_match (cond b (x.0, q) x).0 topic ≡ is_match x.0 topic
        one true = refl
        one false = refl

    by : (b : Bool) → list_any (λ (x : List ℕ × ℕ). is_match x.0 topic) (cond b (map (replaced f q) g) (g ++ (f, q) ∷ [])) ≡ true
    by true = any-map (replaced f q) (λ (x : List ℕ × ℕ). is_match x.0 topic) (λ (x : List ℕ × ℕ). is_match x.0 topic) same g ∙ sym (some-best topic g) ∙ e
    by false = list_any-append (λ (x : List ℕ × ℕ). is_match x.0 topic) g ((f, q) ∷ []) ∙ or_left _ _ (sym (some-best topic g) ∙ e)

pub stays-listening : (b : Broker) (c : ℕ) (topic : List ℕ) (e : Event) → IsLawful b → listens b c topic ≡ true → lets_go c e ≡ false → takes_back c e ≡ false
    → (listens (step b e).broker c topic ≡ true) ⊎ (is_closed_in c (step b e) ≡ true)
stays-listening b c topic e l there a k = stays-step c (λ g. is_some (best topic g)) (λ f q g h. best-put topic f q g h) b e l there a (inl k)
