-- Who is told to be closed is known no more, and a connection that ended never comes back.
use Rattle.std.proofs.Common.{◌≡◌, ◌⊎◌, inl, inr, ℕ, zero, suc, ◌+◌, ◌≤◌, Bool, true, false, not, ◌||◌, cond, eqb, List, [], ◌∷◌, ◌++◌, length, refl, sym, ◌∙◌, ap, arith, subst, Option, Some, None, true≢false}
use Rattle.std.specs.List.{find, filter, fold, list_any, flat_map, AllByRecursion}
use Rattle.std.specs.Option.{option_map_or, is_some}
use Rattle.spk_packets.specs.Message.{Message, Connect, ConnAck, Publish, PubAck, Subscribe, SubAck, Unsubscribe, UnsubAck, PingReq, PingResp, Disconnect}
use Rattle.spk_session.specs.declared.answer.Sort.TheVariants as sort
use Rattle.spk_broker_rules.specs.Data.{AppMessage, Connection, Newcomer, Session, Broker}
use Rattle.spk_broker_rules.specs.Knowing.{is_opening}
use Rattle.spk_broker_rules.specs.Lawful.{IsLawful, places}
use Rattle.spk_broker_rules.specs.Words.{is_silent, granted_of, offers_to}
use Rattle.spk_broker_rules.specs.Plan.{Event, Open, Packet, Fault, Closed, Tick, Refused, Act, Opens, At, Hear, Drop, Say, Leave, Tell, Queue, Route, Forget, Accept, Give, Take, Ack, before, plan, shut, turn_away, join, first_packet, next_packet, tick, is_fatal, Seen}
use Rattle.spk_broker_rules.specs.Listening.{is_closed_in}
use Rattle.spk_broker_rules.specs.Step.{Turn, act, acts, opens, sits, leave_at, session_by, is_newcomer, is_away, forget_at, connection_of, take_up, away_for, accept_of, other_grants, give_at, take_at, ack_at, offer, offer_at, with_key, silent_at, route_one, route_some, route, noted, begun, seen, step, knows}
use Rattle.spk_broker_rules.proofs.Lists.{eqb-is, eqb-self, all-also, all-append}
use Rattle.spk_broker_rules.proofs.Lawfuls.{IsOrdered, ordered-act, ordered-acts}
use Rattle.spk_broker_rules.proofs.Places.{bit, bit-none, bit-one, tally, tally-cons, tally-append, tally-found, tally-missed, flat-few, told, down-less, down-act, down-acts, IsMute, gone-leave, none-above, places-opens, ordered, lawful-acts}

-- ---- known

any-none : {X : Type 0} (p : X → Bool) (xs : List X) → list_any p xs ≡ false → tally p xs ≡ 0
any-none p [] e = refl
any-none {X} p (x ∷ xs) e = by (p x) e (any-none p xs)
  where
    by : (b : Bool) → (b || list_any p xs) ≡ false → (list_any p xs ≡ false → tally p xs ≡ 0) → length (cond b (x ∷ filter p xs) (filter p xs)) ≡ 0
    by true f rest = absurd (true≢false f)
    by false f rest = rest f

pub any-some : {X : Type 0} (p : X → Bool) (xs : List X) → list_any p xs ≡ true → 1 ≤ tally p xs
any-some p [] e = absurd (true≢false (sym e))
any-some {X} p (x ∷ xs) e = by (p x) e (any-some p xs)
  where
    by : (b : Bool) → (b || list_any p xs) ≡ true → (list_any p xs ≡ true → 1 ≤ tally p xs) → 1 ≤ length (cond b (x ∷ filter p xs) (filter p xs))
    by true f rest = omega arith
    by false f rest = rest f

pub known-places : (b : Broker) (c : ℕ) → knows b c ≡ true → 1 ≤ places c b
known-places b c e = by (list_any (is_newcomer c) b.newcomers) refl (session_by c b.sessions) refl e
  where
    by : (a : Bool) → list_any (is_newcomer c) b.newcomers ≡ a → (o : Option Session) → session_by c b.sessions ≡ o → (a || is_some o) ≡ true → 1 ≤ places c b
    by true i o j f = let n = any-some (is_newcomer c) b.newcomers i in omega arith
    by false i None j f = absurd (true≢false (sym f))
    by false i (Some s) j f = let n = tally-found (sits c) b.sessions s j in omega arith

pub unknown-places : (b : Broker) (c : ℕ) → knows b c ≡ false → places c b ≡ 0
unknown-places b c e = by (list_any (is_newcomer c) b.newcomers) refl (session_by c b.sessions) refl e
  where
    by : (a : Bool) → list_any (is_newcomer c) b.newcomers ≡ a → (o : Option Session) → session_by c b.sessions ≡ o → (a || is_some o) ≡ false → places c b ≡ 0
    by true i o j f = absurd (true≢false f)
    by false i None j f = let n = any-none (is_newcomer c) b.newcomers i in let m = tally-missed (sits c) b.sessions j in omega arith
    by false i (Some s) j f = absurd (true≢false f)

pub none-unknown : (b : Broker) (c : ℕ) → places c b ≡ 0 → knows b c ≡ false
none-unknown b c e = by (knows b c) refl
  where
    by : (a : Bool) → knows b c ≡ a → a ≡ false
    by true i = let n = known-places b c i in absurd (omega arith)
    by false i = refl

pub some-known : (b : Broker) (c : ℕ) → 1 ≤ places c b → knows b c ≡ true
some-known b c e = by (knows b c) refl
  where
    by : (a : Bool) → knows b c ≡ a → a ≡ true
    by true i = refl
    by false i = let n = unknown-places b c i in absurd (omega arith)

pub acts-append : (xs ys : List Act) (t : Turn) → acts (xs ++ ys) t ≡ acts ys (acts xs t)
acts-append [] ys t = refl
acts-append (a ∷ xs) ys t = acts-append xs ys (act a t)

-- ---- acts that open nothing

abbrev pub OpensNone : Act → Type 0
OpensNone Opens = ⊥
OpensNone (At moment) = Unit {0}
OpensNone (Hear d) = Unit {0}
OpensNone (Drop d) = Unit {0}
OpensNone (Say d p) = Unit {0}
OpensNone (Leave d wills) = Unit {0}
OpensNone (Tell d) = Unit {0}
OpensNone (Queue app_message) = Unit {0}
OpensNone Route = Unit {0}
OpensNone (Forget name) = Unit {0}
OpensNone (Accept d name keeps alive will) = Unit {0}
OpensNone (Give d id entries) = Unit {0}
OpensNone (Take d filters) = Unit {0}
OpensNone (Ack d id) = Unit {0}

module _ (g m : ℕ) where
  -- so many numbers were given, and this is the limit of drops
  abbrev pub IsAt : Broker → Type 0
  IsAt b = (b.given ≡ g) × (b.limit ≡ m)

  at-some : (n : ℕ) (t : Turn) → IsAt t.broker → IsAt (route_some n t).broker
  unfolding route_some
  at-some zero t h = h
  at-some (suc n) t h = by t.waiting (λ p ps. at-some n (route_one p (record t { waiting = ps })) h)
    where
      by : (ws : List AppMessage) → ((p : AppMessage) (ps : List AppMessage) → IsAt (route_some n (route_one p (record t { waiting = ps }))).broker)
          → IsAt (elim ws as (λ _. Turn) [ [] ↦ t | p ∷ ps ↦ route_some n (route_one p (record t { waiting = ps })) ]).broker
      by [] rest = h
      by (p ∷ ps) rest = rest p ps

  at-route : (t : Turn) → IsAt t.broker → IsAt (route t).broker
  unfolding route
  at-route t h = at-some (length t.waiting + length t.broker.sessions) t h

  at-offers : (key : ℕ) (app_messages : List AppMessage) (t : Turn) → IsAt t.broker → IsAt (fold (offer key) t app_messages).broker
  at-offers key [] t h = h
  at-offers key (p ∷ ps) t h = at-offers key ps (offer key t p) (by (with_key key t.broker.sessions))
    where
      by : (o : Option Session) → IsAt (offer_at o key p t).broker
      by None = h
      by (Some s) = h

  pub at-act : (a : Act) (t : Turn) → OpensNone a → IsAt t.broker → IsAt (act a t).broker
  at-act Opens t none h = absurd none
  at-act (At moment) t none h = h
  at-act (Hear d) t none h = h
  at-act (Drop d) t none h = h
  at-act (Say d p) t none h = h
  at-act (Leave d wills) t none h = by (session_by d t.broker.sessions)
    where
      by : (o : Option Session) → IsAt (leave_at o d wills t).broker
      by None = h
      by (Some s) = h
  at-act (Tell d) t none h = h
  at-act (Queue app_message) t none h = h
  at-act Route t none h = at-route t h
  at-act (Forget name) t none h = by (find (is_away name) t.broker.sessions)
    where
      by : (o : Option Session) → IsAt (forget_at o t).broker
      by None = h
      by (Some s) = h
  at-act (Accept d name keeps alive will) t none h = by (find (is_newcomer d) t.broker.newcomers)
    where
      up : (o : Option Session) (x : Connection) → IsAt (take_up o name keeps x t).broker
      up None x = h
      up (Some s) x = h

      by : (o : Option Newcomer) → IsAt (accept_of o name keeps alive will t).broker
      by None = h
      by (Some y) = up (away_for keeps name t.broker.sessions) (connection_of y alive will)
  at-act (Give d id entries) t none h = by (session_by d t.broker.sessions)
    where
      by : (o : Option Session) → IsAt (give_at o d id entries t).broker
      by None = h
      by (Some s) = at-offers s.key (flat_map (offers_to t.broker.retained) (granted_of (other_grants s t.broker.sessions) s.grants entries)) _ h
  at-act (Take d filters) t none h = by (session_by d t.broker.sessions)
    where
      by : (o : Option Session) → IsAt (take_at o filters t).broker
      by None = h
      by (Some s) = h
  at-act (Ack d id) t none h = by (session_by d t.broker.sessions)
    where
      by : (o : Option Session) → IsAt (ack_at o id t).broker
      by None = h
      by (Some s) = h

  pub at-acts : (as_list : List Act) (t : Turn) → AllByRecursion OpensNone as_list → IsAt t.broker → IsAt (acts as_list t).broker
  at-acts [] t none h = h
  at-acts (a ∷ as_list) t none h = at-acts as_list (act a t) none.1 (at-act a t none.0 h)

-- ---- who leaves and is told so

module _ (c : ℕ) where
  abbrev Sum : Turn → ℕ
  Sum t = places c t.broker + told c t

  -- sends, and what ends others
  abbrev IsStill : Act → Type 0
  IsStill Opens = ⊥
  IsStill (At moment) = ⊥
  IsStill (Hear d) = ⊥
  IsStill (Drop d) = ⊥
  IsStill (Say d p) = Unit {0}
  IsStill (Leave d wills) = Unit {0}
  IsStill (Tell d) = eqb d c ≡ false
  IsStill (Queue app_message) = ⊥
  IsStill Route = ⊥
  IsStill (Forget name) = ⊥
  IsStill (Accept d name keeps alive will) = ⊥
  IsStill (Give d id entries) = ⊥
  IsStill (Take d filters) = ⊥
  IsStill (Ack d id) = ⊥

  -- the connection leaves, and then it is told, once
  record Leaves (as_list : List Act) : Type 0 where
    front : List Act
    wills : Bool
    middle : List Act
    back : List Act
    is : as_list ≡ front ++ Leave c wills ∷ (middle ++ Tell c ∷ back)
    still : AllByRecursion IsStill front
    mute : AllByRecursion (IsMute c) middle
    rest : AllByRecursion (IsMute c) back

  abbrev Orderly : List Act → Type 0
  Orderly as_list = Leaves as_list ⊎ AllByRecursion (IsMute c) as_list

  still-mute : (a : Act) → IsStill a → IsMute c a
  still-mute Opens h = absurd h
  still-mute (At moment) h = tt
  still-mute (Hear d) h = tt
  still-mute (Drop d) h = tt
  still-mute (Say d p) h = tt
  still-mute (Leave d wills) h = tt
  still-mute (Tell d) h = h
  still-mute (Queue app_message) h = tt
  still-mute Route h = tt
  still-mute (Forget name) h = tt
  still-mute (Accept d name keeps alive will) h = tt
  still-mute (Give d id entries) h = tt
  still-mute (Take d filters) h = tt
  still-mute (Ack d id) h = tt

  mute-none : (a : Act) → IsMute c a → OpensNone a
  mute-none Opens h = h
  mute-none (At moment) h = tt
  mute-none (Hear d) h = tt
  mute-none (Drop d) h = tt
  mute-none (Say d p) h = tt
  mute-none (Leave d wills) h = tt
  mute-none (Tell d) h = tt
  mute-none (Queue app_message) h = tt
  mute-none Route h = tt
  mute-none (Forget name) h = tt
  mute-none (Accept d name keeps alive will) h = tt
  mute-none (Give d id entries) h = tt
  mute-none (Take d filters) h = tt
  mute-none (Ack d id) h = tt

  orderly-none : (as_list : List Act) → Orderly as_list → AllByRecursion OpensNone as_list
  orderly-none as_list (inr mute) = all-also (IsMute c) OpensNone mute-none as_list mute
  orderly-none as_list (inl x) = subst (AllByRecursion OpensNone) (sym x.is)
      (all-append OpensNone x.front (Leave c x.wills ∷ (x.middle ++ Tell c ∷ x.back)) (all-also IsStill OpensNone (λ a h. mute-none a (still-mute a h)) x.front x.still)
      (tt, all-append OpensNone x.middle (Tell c ∷ x.back) (all-also (IsMute c) OpensNone mute-none x.middle x.mute) (tt, all-also (IsMute c) OpensNone mute-none x.back x.rest)))

  still-told : (a : Act) (t : Turn) → IsStill a → told c (act a t) ≡ told c t
  still-told Opens t h = absurd h
  still-told (At moment) t h = absurd h
  still-told (Hear d) t h = absurd h
  still-told (Drop d) t h = absurd h
  still-told (Say d p) t h = refl
  still-told (Leave d wills) t h = by (session_by d t.broker.sessions)
    where
      by : (o : Option Session) → told c (leave_at o d wills t) ≡ told c t
      by None = refl
      by (Some s) = refl
  still-told (Tell d) t h =
      let a = tally-append (λ x. eqb x c) t.closes (d ∷ []) in let b = tally-cons (λ x. eqb x c) d [] in
      let e = bit-none (eqb d c) h in omega arith
  still-told (Queue app_message) t h = absurd h
  still-told Route t h = absurd h
  still-told (Forget name) t h = absurd h
  still-told (Accept d name keeps alive will) t h = absurd h
  still-told (Give d id entries) t h = absurd h
  still-told (Take d filters) t h = absurd h
  still-told (Ack d id) t h = absurd h

  still-all : (as_list : List Act) (t : Turn) → AllByRecursion IsStill as_list → told c (acts as_list t) ≡ told c t
  still-all [] t h = refl
  still-all (a ∷ as_list) t h = still-all as_list (act a t) h.1 ∙ still-told a t h.0

  rest-sum : (as_list : List Act) (t : Turn) (n : ℕ) → AllByRecursion (IsMute c) as_list → IsOrdered t.broker → Sum t ≤ n → Sum (acts as_list t) ≤ n
  rest-sum as_list t n mute l h = let a = (down-acts c as_list t mute l).sum in omega arith

  tell-sum : (t : Turn) → Sum t ≤ 0 → Sum (act (Tell c) t) ≤ 1
  tell-sum t h =
      let a = tally-append (λ x. eqb x c) t.closes (c ∷ []) in let b = tally-cons (λ x. eqb x c) c [] in
      let e = bit-one (eqb c c) (eqb-self c) in omega arith

  leave-sum : (wills : Bool) (t : Turn) → IsOrdered t.broker → places c t.broker ≤ 1 → told c t ≡ 0 → Sum (act (Leave c wills) t) ≤ 0
  leave-sum wills t l one none =
      let a = gone-leave c wills t (session_by c t.broker.sessions) l one refl in let b = still-told (Leave c wills) t tt in omega arith

  after-leave : (wills : Bool) (middle back : List Act) (t : Turn) → IsOrdered t.broker → places c t.broker ≤ 1 → told c t ≡ 0
      → AllByRecursion (IsMute c) middle → AllByRecursion (IsMute c) back → Sum (acts (Leave c wills ∷ (middle ++ Tell c ∷ back)) t) ≤ 1
  after-leave wills middle back t l one none m r =
      subst (λ u. Sum u ≤ 1) (sym (acts-append middle (Tell c ∷ back) (act (Leave c wills) t)))
      (rest-sum back (act (Tell c) (acts middle (act (Leave c wills) t))) 1 r (ordered-act (Tell c) (acts middle (act (Leave c wills) t)) (ordered-acts middle (act (Leave c wills) t) (ordered-act (Leave c wills) t l)))
      (tell-sum (acts middle (act (Leave c wills) t)) (rest-sum middle (act (Leave c wills) t) 0 m (ordered-act (Leave c wills) t l) (leave-sum wills t l one none))))

  orderly-sum : (as_list : List Act) (t : Turn) → Orderly as_list → IsOrdered t.broker → places c t.broker ≤ 1 → told c t ≡ 0 → Sum (acts as_list t) ≤ 1
  orderly-sum as_list t (inr mute) l one none = rest-sum as_list t 1 mute l (omega arith)
  orderly-sum as_list t (inl x) l one none =
      subst (λ k. Sum (acts k t) ≤ 1) (sym x.is) (subst (λ u. Sum u ≤ 1) (sym (acts-append x.front (Leave c x.wills ∷ (x.middle ++ Tell c ∷ x.back)) t))
      (after-leave x.wills x.middle x.back (acts x.front t) (ordered-acts x.front t l)
      (let d = down-less c t (acts x.front t) (down-acts c x.front t (all-also IsStill (IsMute c) still-mute x.front x.still) l) in omega arith)
      (still-all x.front t x.still ∙ none) x.mute x.rest))

  -- ---- the rules

  orderly-cond : (b : Bool) (xs ys : List Act) → Orderly xs → Orderly ys → Orderly (cond b xs ys)
  orderly-cond true xs ys g h = g
  orderly-cond false xs ys g h = h

  orderly-leave : (d : ℕ) (wills : Bool) (front middle back : List Act) → eqb d c ≡ true → AllByRecursion IsStill front → AllByRecursion (IsMute c) middle → AllByRecursion (IsMute c) back
      → Orderly (front ++ Leave d wills ∷ (middle ++ Tell d ∷ back))
  orderly-leave d wills front middle back e s m r = inl (record {
    front = front;
    wills = wills;
    middle = middle;
    back = back;
    is = ap (λ x. front ++ Leave x wills ∷ (middle ++ Tell x ∷ back)) (eqb-is d c e);
    still = s;
    mute = m;
    rest = r;
  })

  orderly-shut : (d : ℕ) → Orderly (shut d)
  orderly-shut d = by (eqb d c) refl
    where
      by : (b : Bool) → eqb d c ≡ b → Orderly (shut d)
      by true e = orderly-leave d true [] [] (Route ∷ []) e tt tt (tt, tt)
      by false e = inr (tt, (e, (tt, tt)))

  orderly-away : (d code : ℕ) → Orderly (turn_away d code)
  orderly-away d code = by (eqb d c) refl
    where
      by : (b : Bool) → eqb d c ≡ b → Orderly (turn_away d code)
      by true e = orderly-leave d true (Say d (ConnAck false code) ∷ []) [] (Route ∷ []) e (tt, tt) tt (tt, tt)
      by false e = inr (tt, (tt, (e, (tt, tt))))

  orderly-join : (older : Option ℕ) (d : ℕ) (name : List ℕ) (clean : Bool) (alive : ℕ) (will : Option AppMessage) → Orderly (join older d name clean alive will)
  orderly-join None d name true alive will = inr (tt, (tt, tt))
  orderly-join None d name false alive will = inr (tt, tt)
  orderly-join (Some o) d name clean alive will = by (eqb o c) refl clean
    where
      by : (b : Bool) → eqb o c ≡ b → (k : Bool) → Orderly (Leave o true ∷ Route ∷ (cond k (Forget name ∷ []) [] ++ Accept d name (not clean) alive will ∷ Tell o ∷ []))
      by true e true = orderly-leave o true [] (Route ∷ Forget name ∷ Accept d name (not clean) alive will ∷ []) [] e tt (tt, (tt, (tt, tt))) tt
      by true e false = orderly-leave o true [] (Route ∷ Accept d name (not clean) alive will ∷ []) [] e tt (tt, (tt, tt)) tt
      by false e true = inr (tt, (tt, (tt, (tt, (e, tt)))))
      by false e false = inr (tt, (tt, (tt, (e, tt))))

  orderly-first : (v : Seen) (d : ℕ) (p : Message) → Orderly (first_packet v d p)
  orderly-first v d (Connect name clean alive will) =
      orderly-cond _ _ _ (orderly-away d 2) (orderly-cond _ _ _ (orderly-shut d) (orderly-cond _ _ _ (orderly-away d 3) (orderly-join v.older d name clean alive _)))
  orderly-first v d (ConnAck present code) = orderly-shut d
  orderly-first v d (Publish dup qos retain topic id payload) = orderly-shut d
  orderly-first v d (PubAck id) = orderly-shut d
  orderly-first v d (Subscribe id entries) = orderly-shut d
  orderly-first v d (SubAck id codes) = orderly-shut d
  orderly-first v d (Unsubscribe id filters) = orderly-shut d
  orderly-first v d (UnsubAck id) = orderly-shut d
  orderly-first v d PingReq = orderly-shut d
  orderly-first v d PingResp = orderly-shut d
  orderly-first v d Disconnect = orderly-shut d

  orderly-next : (v : Seen) (d : ℕ) (p : Message) → Orderly (next_packet v d p)
  orderly-next v d (Connect name clean alive will) = orderly-shut d
  orderly-next v d (ConnAck present code) = orderly-shut d
  orderly-next v d (Publish dup qos retain topic None payload) =
      orderly-cond _ (shut d) (Queue (record { topic = topic; payload = payload; qos = qos; retain = retain }) ∷ Route ∷ []) (orderly-shut d) (inr (tt, (tt, tt)))
  orderly-next v d (Publish dup qos retain topic (Some id) payload) =
      orderly-cond _ (shut d) (Say d (PubAck id) ∷ Queue (record { topic = topic; payload = payload; qos = qos; retain = retain }) ∷ Route ∷ []) (orderly-shut d) (inr (tt, (tt, (tt, tt))))
  orderly-next v d (PubAck id) = inr (tt, tt)
  orderly-next v d (Subscribe id entries) = orderly-cond _ (shut d) (Give d id entries ∷ Route ∷ []) (orderly-shut d) (inr (tt, (tt, tt)))
  orderly-next v d (SubAck id codes) = orderly-shut d
  orderly-next v d (Unsubscribe id filters) = orderly-cond _ (shut d) (Take d filters ∷ Say d (UnsubAck id) ∷ []) (orderly-shut d) (inr (tt, (tt, tt)))
  orderly-next v d (UnsubAck id) = orderly-shut d
  orderly-next v d PingReq = inr (tt, tt)
  orderly-next v d PingResp = orderly-shut d
  orderly-next v d Disconnect = inr (tt, tt)

  abbrev ends : List ℕ → List Act
  ends silent = flat_map (λ d. Leave d true ∷ Tell d ∷ []) silent

  mute-tick : (silent : List ℕ) → tally (λ d. eqb d c) silent ≡ 0 → AllByRecursion (IsMute c) (ends silent ++ Route ∷ [])
  mute-tick [] e = (tt, tt)
  mute-tick (x ∷ xs) e = by (eqb x c) refl (mute-tick xs)
    where
      count : tally (λ d. eqb d c) (x ∷ xs) ≡ bit (eqb x c) + tally (λ d. eqb d c) xs
      count = tally-cons (λ d. eqb d c) x xs

      by : (b : Bool) → eqb x c ≡ b → (tally (λ d. eqb d c) xs ≡ 0 → AllByRecursion (IsMute c) (ends xs ++ Route ∷ [])) → AllByRecursion (IsMute c) (Leave x true ∷ Tell x ∷ (ends xs ++ Route ∷ []))
      by true i rest = let a = count in let d = bit-one (eqb x c) i in absurd (omega arith)
      by false i rest = (tt, (i, rest (let a = count in let d = bit-none (eqb x c) i in omega arith)))

  orderly-tick : (silent : List ℕ) → tally (λ d. eqb d c) silent ≤ 1 → Orderly (tick silent)
  orderly-tick [] e = inr (tt, tt)
  orderly-tick (x ∷ xs) e = by (eqb x c) refl (orderly-tick xs)
    where
      count : tally (λ d. eqb d c) (x ∷ xs) ≡ bit (eqb x c) + tally (λ d. eqb d c) xs
      count = tally-cons (λ d. eqb d c) x xs

      by : (b : Bool) → eqb x c ≡ b → (tally (λ d. eqb d c) xs ≤ 1 → Orderly (ends xs ++ Route ∷ [])) → Orderly (Leave x true ∷ Tell x ∷ (ends xs ++ Route ∷ []))
      by true i rest =
          let a = count in let d = bit-one (eqb x c) i in
          orderly-leave x true [] [] (ends xs ++ Route ∷ []) i tt tt (mute-tick xs (omega arith))
      by false i rest =
          let a = count in let d = bit-none (eqb x c) i in
          elim (rest (omega arith)) [
            | inl y ↦ inl (record {
              front = Leave x true ∷ Tell x ∷ y.front;
              wills = y.wills;
              middle = y.middle;
              back = y.back;
              is = ap (λ k. Leave x true ∷ Tell x ∷ k) y.is;
              still = (tt, (i, y.still));
              mute = y.mute;
              rest = y.rest;
            })
            | inr mute ↦ inr (tt, (i, mute))
          ]

  silent-few : (clock : ℕ) (ss : List Session) → tally (λ d. eqb d c) (flat_map (silent_at clock) ss) ≤ tally (sits c) ss
  silent-few clock ss = let a = flat-few (sits c) (sits c) (λ d. eqb d c) (λ (s : Session). []) (silent_at clock) (λ s. one s.here) ss in omega arith
    where
      one : (o : Option Connection) → 0 + tally (λ d. eqb d c) (option_map_or (λ (l : Connection). cond (is_silent clock l.alive l.heard) (l.conn ∷ []) []) o []) ≤ cond (option_map_or (λ (l : Connection). eqb l.conn c) o false) 1 0
      one None = omega arith
      one (Some l) = by (is_silent clock l.alive l.heard)
        where
          by : (b : Bool) → 0 + tally (λ d. eqb d c) (cond b (l.conn ∷ []) []) ≤ cond (eqb l.conn c) 1 0
          by true = let a = tally-cons (λ d. eqb d c) l.conn [] in omega arith
          by false = omega arith

  orderly-plan : (v : Seen) (e : Event) → is_opening e ≡ false → tally (λ d. eqb d c) v.silent ≤ 1 → Orderly (plan v e)
  orderly-plan v (Open moment) o h = absurd (true≢false o)
  orderly-plan v (Packet d p moment) o h = orderly-cond _ _ _ (orderly-shut d) (orderly-cond _ _ _ (orderly-next v d p) (orderly-first v d p))
  orderly-plan v (Fault d f moment) o h = orderly-cond _ _ _ (orderly-away d 1) (orderly-shut d)
  orderly-plan v (Closed d moment) o h = inr (tt, (tt, tt))
  orderly-plan v (Tick moment) o h = orderly-tick v.silent h
  orderly-plan v (Refused d s moment) o h = orderly-cond (is_fatal s v.spent) (shut d) [] (orderly-shut d) (inr tt)

  mute-before : (e : Event) → AllByRecursion (IsMute c) (before e)
  mute-before (Open moment) = (tt, tt)
  mute-before (Packet d p moment) = (tt, (tt, tt))
  mute-before (Fault d f moment) = (tt, tt)
  mute-before (Closed d moment) = (tt, tt)
  mute-before (Tick moment) = (tt, tt)
  mute-before (Refused d sort.QosZero moment) = (tt, (tt, tt))
  mute-before (Refused d sort.Other moment) = (tt, tt)

  none-before : (b : Broker) (e : Event) → told c (noted b e) ≡ 0
  none-before b (Open moment) = refl
  none-before b (Packet d p moment) = refl
  none-before b (Fault d f moment) = refl
  none-before b (Closed d moment) = refl
  none-before b (Tick moment) = refl
  none-before b (Refused d sort.QosZero moment) = refl
  none-before b (Refused d sort.Other moment) = refl

  noted-less : (b : Broker) (e : Event) → IsLawful b → places c (noted b e).broker ≤ places c b
  noted-less b e l = down-less c (begun b) (noted b e) (down-acts c (before e) (begun b) (mute-before e) (ordered b l))

  orderly-at : (b : Broker) (e : Event) → IsLawful b → is_opening e ≡ false → Orderly (plan (seen (noted b e).broker e) e)
  orderly-at b e l o = orderly-plan (seen (noted b e).broker e) e o
      (let x = silent-few (noted b e).broker.clock (noted b e).broker.sessions in let y = noted-less b e l in let z = l.apart c in omega arith)

  -- where it stands and how often it was told: once at most, both together
  pub sum-step : (b : Broker) (e : Event) → IsLawful b → is_opening e ≡ false → places c (step b e).broker + told c (step b e) ≤ 1
  unfolding step
  sum-step b e l o =
      orderly-sum (plan (seen (noted b e).broker e) e) (noted b e) (orderly-at b e l o) (ordered (noted b e).broker (lawful-acts (before e) (begun b) l))
      (let y = noted-less b e l in let z = l.apart c in omega arith) (none-before b e)

  less-act : (a : Act) (t : Turn) → OpensNone a → IsOrdered t.broker → places c (act a t).broker ≤ places c t.broker
  less-act Opens t none l = absurd none
  less-act (At moment) t none l = omega arith
  less-act (Hear d) t none l = down-less c t _ (down-act c (Hear d) t tt l)
  less-act (Drop d) t none l = down-less c t _ (down-act c (Drop d) t tt l)
  less-act (Say d p) t none l = omega arith
  less-act (Leave d wills) t none l = down-less c t _ (down-act c (Leave d wills) t tt l)
  less-act (Tell d) t none l = omega arith
  less-act (Queue app_message) t none l = omega arith
  less-act Route t none l = down-less c t _ (down-act c Route t tt l)
  less-act (Forget name) t none l = down-less c t _ (down-act c (Forget name) t tt l)
  less-act (Accept d name keeps alive will) t none l = down-less c t _ (down-act c (Accept d name keeps alive will) t tt l)
  less-act (Give d id entries) t none l = down-less c t _ (down-act c (Give d id entries) t tt l)
  less-act (Take d filters) t none l = down-less c t _ (down-act c (Take d filters) t tt l)
  less-act (Ack d id) t none l = down-less c t _ (down-act c (Ack d id) t tt l)

  pub less-acts : (as_list : List Act) (t : Turn) → AllByRecursion OpensNone as_list → IsOrdered t.broker → places c (acts as_list t).broker ≤ places c t.broker
  less-acts [] t none l = omega arith
  less-acts (a ∷ as_list) t none l = let x = less-act a t none.0 l in let y = less-acts as_list (act a t) none.1 (ordered-act a t l) in omega arith

  pub less-step : (b : Broker) (e : Event) → IsLawful b → is_opening e ≡ false → places c (step b e).broker ≤ places c b
  unfolding step
  less-step b e l o =
      let x = less-acts (plan (seen (noted b e).broker e) e) (noted b e) (orderly-none (plan (seen (noted b e).broker e) e) (orderly-at b e l o)) (ordered (noted b e).broker (lawful-acts (before e) (begun b) l)) in
      let y = noted-less b e l in omega arith

  closed-told : (t : Turn) → is_closed_in c t ≡ true → 1 ≤ told c t
  closed-told t e = any-some (λ d. eqb d c) t.closes e

-- ---- numbers

pub opened-at : (b : Broker) (moment : ℕ) → (step b (Open moment)).broker ≡ (opens (noted b (Open moment))).broker
unfolding step
opened-at b moment = refl

opened-none : (b : Broker) (moment : ℕ) → (step b (Open moment)).closes ≡ []
unfolding step
opened-none b moment = refl

opening-is : (c : ℕ) (b : Broker) (moment : ℕ) → places c (step b (Open moment)).broker ≡ places c b + cond (eqb (b.given + 1) c) 1 0
opening-is c b moment = ap (places c) (opened-at b moment) ∙ places-opens c (noted b (Open moment))

pub fresh-number : (b : Broker) → IsLawful b → knows b (b.given + 1) ≡ false
fresh-number b l = none-unknown b (b.given + 1) (none-above (b.given + 1) b (ordered b l) (omega arith))

pub open-known : (b : Broker) (moment : ℕ) → knows (step b (Open moment)).broker (b.given + 1) ≡ true
open-known b moment = some-known (step b (Open moment)).broker (b.given + 1)
    (let a = opening-is (b.given + 1) b moment in let e = bit-one (eqb (b.given + 1) (b.given + 1)) (eqb-self (b.given + 1)) in omega arith)

at-noted : (b : Broker) (e : Event) → IsAt b.given b.limit (noted b e).broker
at-noted b (Open moment) = (refl, refl)
at-noted b (Packet d p moment) = (refl, refl)
at-noted b (Fault d f moment) = (refl, refl)
at-noted b (Closed d moment) = (refl, refl)
at-noted b (Tick moment) = (refl, refl)
at-noted b (Refused d sort.QosZero moment) = (refl, refl)
at-noted b (Refused d sort.Other moment) = (refl, refl)

at-step : (b : Broker) (e : Event) → IsLawful b → is_opening e ≡ false → IsAt b.given b.limit (step b e).broker
unfolding step
at-step b e l o = at-acts b.given b.limit (plan (seen (noted b e).broker e) e) (noted b e) (orderly-none 0 (plan (seen (noted b e).broker e) e) (orderly-at 0 b e l o)) (at-noted b e)

pub given-step : (b : Broker) (e : Event) → IsLawful b → (step b e).broker.given ≡ cond (is_opening e) (b.given + 1) b.given
given-step b (Open moment) l = ap (λ (x : Broker). x.given) (opened-at b moment)
given-step b (Packet d p moment) l = (at-step b (Packet d p moment) l refl).0
given-step b (Fault d f moment) l = (at-step b (Fault d f moment) l refl).0
given-step b (Closed d moment) l = (at-step b (Closed d moment) l refl).0
given-step b (Tick moment) l = (at-step b (Tick moment) l refl).0
given-step b (Refused d s moment) l = (at-step b (Refused d s moment) l refl).0

pub limit-step : (b : Broker) (e : Event) → IsLawful b → (step b e).broker.limit ≡ b.limit
limit-step b (Open moment) l = ap (λ (x : Broker). x.limit) (opened-at b moment)
limit-step b (Packet d p moment) l = (at-step b (Packet d p moment) l refl).1
limit-step b (Fault d f moment) l = (at-step b (Fault d f moment) l refl).1
limit-step b (Closed d moment) l = (at-step b (Closed d moment) l refl).1
limit-step b (Tick moment) l = (at-step b (Tick moment) l refl).1
limit-step b (Refused d s moment) l = (at-step b (Refused d s moment) l refl).1

pub opening-cases : (e : Event) → (is_opening e ≡ false) ⊎ ((moment : ℕ) × (e ≡ Open moment))
opening-cases (Open moment) = inr (moment, refl)
opening-cases (Packet d p moment) = inl refl
opening-cases (Fault d f moment) = inl refl
opening-cases (Closed d moment) = inl refl
opening-cases (Tick moment) = inl refl
opening-cases (Refused d s moment) = inl refl

-- told to be closed once at most
pub told-once : (b : Broker) (c : ℕ) (e : Event) → IsLawful b → length (filter (λ d. eqb d c) (step b e).closes) ≤ 1
told-once b c e l = elim (opening-cases e) [
  | inl o ↦ (let a = sum-step c b e l o in omega arith)
  | inr x ↦ subst (λ k. length (filter (λ d. eqb d c) (step b k).closes) ≤ 1) (sym x.1)
      (let a : length (filter (λ d. eqb d c) (step b (Open x.0)).closes) ≡ 0 = ap (λ k. length (filter (λ d. eqb d c) k)) (opened-none b x.0) in omega arith)
]

pub closed-gone : (b : Broker) (c : ℕ) (e : Event) → IsLawful b → is_closed_in c (step b e) ≡ true → knows (step b e).broker c ≡ false
closed-gone b c e l there = elim (opening-cases e) [
  | inl o ↦ none-unknown (step b e).broker c (let a = sum-step c b e l o in let d = closed-told c (step b e) there in omega arith)
  | inr x ↦ absurd (true≢false (sym there ∙ ap (is_closed_in c) (ap (step b) x.1) ∙ ap (λ k. list_any (λ d. eqb d c) k) (opened-none b x.0)))
]

-- who was given a number and is known no more stays so
pub gone-stays : (b : Broker) (c : ℕ) (e : Event) → IsLawful b → c ≤ b.given → knows b c ≡ false → knows (step b e).broker c ≡ false
gone-stays b c e l low none = none-unknown (step b e).broker c (elim (opening-cases e) [
  | inl o ↦ (let a = less-step c b e l o in let d = unknown-places b c none in omega arith)
  | inr x ↦ subst (λ k. places c (step b k).broker ≡ 0) (sym x.1) (opened x.0)
])
  where
    other : (a : Bool) → eqb (b.given + 1) c ≡ a → a ≡ false
    other true i = let same : b.given + 1 ≡ c = eqb-is (b.given + 1) c i in absurd (omega arith)
    other false i = refl

    opened : (moment : ℕ) → places c (step b (Open moment)).broker ≡ 0
    opened moment =
        let a = opening-is c b moment in let d = unknown-places b c none in
        let e = bit-none (eqb (b.given + 1) c) (other (eqb (b.given + 1) c) refl) in omega arith
