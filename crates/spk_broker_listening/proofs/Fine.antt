-- What a session with such grants keeps through one message, an offer and the routing of all that waits.
use Rattle.std.proofs.Common.{◌≡◌, ◌⊎◌, inl, inr, ℕ, zero, suc, ◌+◌, ◌<◌, Bool, true, false, ◌&&◌, ◌||◌, cond, eqb, List, [], ◌∷◌, ◌++◌, length, refl, sym, ◌∙◌, ap, arith, subst, Option, Some, None, true≢false}
use Rattle.std.specs.List.{find, fold, list_any, flat_map, AllByRecursion}
use Rattle.std.specs.Option.{option_map, option_map_or}
use Rattle.std.proofs.lemmas.Bool.{or_left, or_right}
use Rattle.std.proofs.lemmas.List.Folds.{list_any-append}
use Rattle.spk_session.specs.PacketIds.{next_id}
use Rattle.spk_session.specs.Step.{has_room}
use Rattle.spk_broker_rules.specs.Data.{AppMessage, Connection, Newcomer, Session, Broker}
use Rattle.spk_broker_rules.specs.Lawful.{Rises, IsLawful}
use Rattle.spk_broker_rules.specs.Table.{Table}
use Rattle.spk_broker_rules.specs.Words.{best, level, sent_as, option_list}
use Rattle.spk_broker_rules.specs.Plan.{Leave, Tell, shut}
use Rattle.spk_broker_rules.specs.Step.{Turn, Served, act, acts, on_connections, sits, swap, offer, offer_at, with_key, hand, hand_at, serve, serve_at, numbered, bursts, route_one, route_some, route}
use Rattle.spk_broker_rules.proofs.Lists.{eqb-is, eqb-self, found-passes, any-map, all-also}
use Rattle.spk_broker_rules.proofs.Places.{lawful-offer_at}

pub yes_no : true ≡ false → ⊥
yes_no e = true≢false e

pub no_yes : false ≡ true → ⊥
no_yes e = true≢false (sym e)

rises-high : (low top : ℕ) (ss : List Session) → Rises low top ss → AllByRecursion (λ (s : Session). low < s.key) ss
rises-high low top [] h = tt
rises-high low top (s ∷ ss) h = (h.0, all-also (λ (x : Session). s.key < x.key) (λ (x : Session). low < x.key) (λ x e. let a = h.0 in omega arith) ss (rises-high s.key top ss h.1))

found-high : (p : Session → Bool) (low : ℕ) (ss : List Session) (x : Session) → AllByRecursion (λ (s : Session). low < s.key) ss → find p ss ≡ Some x → low < x.key
found-high p low [] x all e = absurd (no e)
  where
    no : None ≡ Some x → ⊥
    no e = cc
found-high p low (y ∷ ys) x all e = by (p y) e (found-high p low ys x all.1)
  where
    by : (b : Bool) → cond b (Some y) (find p ys) ≡ Some x → (find p ys ≡ Some x → low < x.key) → low < x.key
    by true f rest = let same : y ≡ x = cc in subst (λ (s : Session). low < s.key) same all.0
    by false f rest = rest f

-- what is found is the only one of its key
key-one : (p : Session → Bool) (low top : ℕ) (ss : List Session) (x : Session) → Rises low top ss → find p ss ≡ Some x → AllByRecursion (λ (s : Session). eqb s.key x.key ≡ true → s ≡ x) ss
key-one p low top [] x r e = tt
key-one p low top (y ∷ ys) x r e = by (p y) e (key-one p y.key top ys x r.1)
  where
    high : AllByRecursion (λ (s : Session). y.key < s.key) ys
    high = rises-high y.key top ys r.1

    by : (b : Bool) → cond b (Some y) (find p ys) ≡ Some x → (find p ys ≡ Some x → AllByRecursion (λ (s : Session). eqb s.key x.key ≡ true → s ≡ x) ys)
        → AllByRecursion (λ (s : Session). eqb s.key x.key ≡ true → s ≡ x) (y ∷ ys)
    by true f rest =
        let same : y ≡ x = cc in (
          (λ k. same),
          all-also (λ (s : Session). y.key < s.key) (λ (s : Session). eqb s.key x.key ≡ true → s ≡ x)
              (λ s above k. let a : s.key ≡ x.key = eqb-is s.key x.key k in let b : y.key ≡ x.key = ap (λ (z : Session). z.key) same in absurd (omega arith)) ys high,
        )
    by false f rest =
        let above : y.key < x.key = found-high p y.key ys x high f in
        ((λ k. let a : y.key ≡ x.key = eqb-is y.key x.key k in absurd (omega arith)), rest f)

module _ (c : ℕ) (L : Table ℕ → Bool) where
  -- a session of the connection, with such grants
  abbrev pub Q : Session → Bool
  Q s = sits c s && L s.grants

  abbrev pub Stays : Turn → Type 0
  Stays t = list_any Q t.broker.sessions ≡ true

  abbrev pub Told : Turn → Type 0
  Told t = list_any (λ d. eqb d c) t.closes ≡ true

  abbrev pub Fine : Turn → Type 0
  Fine t = Stays t ⊎ Told t

  pub sits-of : (s : Session) → Q s ≡ true → sits c s ≡ true
  sits-of s e = by (sits c s) e
    where
      by : (b : Bool) → (b && L s.grants) ≡ true → b ≡ true
      by true e = refl
      by false e = absurd (no_yes e)

  pub grants-of : (s : Session) → Q s ≡ true → L s.grants ≡ true
  grants-of s e = by (sits c s) e
    where
      by : (b : Bool) → (b && L s.grants) ≡ true → L s.grants ≡ true
      by true e = e
      by false e = absurd (no_yes e)

  pub any-front : {X : Type 0} (p : X → Bool) (xs ys : List X) → list_any p xs ≡ true → list_any p (xs ++ ys) ≡ true
  any-front p xs ys e = list_any-append p xs ys ∙ or_left _ _ e

  pub any-back : {X : Type 0} (p : X → Bool) (xs ys : List X) → list_any p ys ≡ true → list_any p (xs ++ ys) ≡ true
  any-back p xs ys e = list_any-append p xs ys ∙ or_right _ _ e

  -- one session among the others
  any-swap : (key : ℕ) (new ss : List Session) → AllByRecursion (λ (s : Session). eqb s.key key ≡ true → Q s ≡ true → list_any Q new ≡ true) ss → list_any Q ss ≡ true → list_any Q (swap key new ss) ≡ true
  any-swap key new [] all e = e
  any-swap key new (s ∷ ss) all e = by (eqb s.key key) refl (Q s) refl e (any-swap key new ss all.1)
    where
      by : (a : Bool) → eqb s.key key ≡ a → (b : Bool) → Q s ≡ b → (b || list_any Q ss) ≡ true → (list_any Q ss ≡ true → list_any Q (swap key new ss) ≡ true)
          → list_any Q (cond a new (s ∷ []) ++ swap key new ss) ≡ true
      by true i true j f rest = any-front Q new (swap key new ss) (all.0 i j)
      by true i false j f rest = any-back Q new (swap key new ss) (rest f)
      by false i true j f rest = or_left (Q s) (list_any Q (swap key new ss)) j
      by false i false j f rest = or_right (Q s) (list_any Q (swap key new ss)) (rest f)

  -- where what is found becomes new
  pub stays-swap : (p : Session → Bool) (x : Session) (new : List Session) (b : Broker) → IsLawful b → find p b.sessions ≡ Some x → (Q x ≡ true → list_any Q new ≡ true)
      → list_any Q b.sessions ≡ true → list_any Q (swap x.key new b.sessions) ≡ true
  stays-swap p x new b l is after_it e = any-swap x.key new b.sessions
      (all-also (λ (s : Session). eqb s.key x.key ≡ true → s ≡ x) (λ (s : Session). eqb s.key x.key ≡ true → Q s ≡ true → list_any Q new ≡ true)
      (λ s one k q. after_it (ap Q (sym (one k)) ∙ q)) b.sessions (key-one p 0 b.made b.sessions x l.keys is)) e

  -- ---- one message

  abbrev Kept : Served → Type 0
  Kept x = (list_any Q x.left ≡ true) ⊎ (list_any (λ d. eqb d c) x.closes ≡ true)

  kept-bursts : (s : Session) → sits c s ≡ true → list_any (λ d. eqb d c) (bursts s).closes ≡ true
  kept-bursts s = by s.here
    where
      by : (o : Option Connection) → option_map_or (λ (l : Connection). eqb l.conn c) o false ≡ true → list_any (λ d. eqb d c) (option_list (option_map (λ (l : Connection). l.conn) o)) ≡ true
      by None e = absurd (no_yes e)
      by (Some l) e = or_left (eqb l.conn c) false e

  kept-hand : (q : ℕ) (app_message : AppMessage) (s : Session) → Q s ≡ true → Kept (hand_at q app_message s)
  kept-hand zero app_message s e = inl (or_left (Q s) false e)
  kept-hand (suc q) app_message s e = by (has_room s.used)
    where
      by : (b : Bool) → (list_any Q (cond b (numbered s app_message (next_id s.used s.last)) (bursts s)).left ≡ true) ⊎ (list_any (λ d. eqb d c) (cond b (numbered s app_message (next_id s.used s.last)) (bursts s)).closes ≡ true)
      by true = inl (or_left (Q s) false e)
      by false = inr (kept-bursts s (sits-of s e))

  kept-serve : (m : AppMessage) (s : Session) → Q s ≡ true → Kept (serve m s)
  kept-serve m s e = by (level m.qos (best m.topic s.grants))
    where
      by : (o : Option ℕ) → (list_any Q (serve_at o m s).left ≡ true) ⊎ (list_any (λ d. eqb d c) (serve_at o m s).closes ≡ true)
      by None = inl (or_left (Q s) false e)
      by (Some q) = kept-hand q (sent_as m q false) s e

  kept-all : (m : AppMessage) (ss : List Session) → list_any Q ss ≡ true
      → (list_any Q (flat_map (λ (s : Session). (serve m s).left) ss) ≡ true) ⊎ (list_any (λ d. eqb d c) (flat_map (λ (s : Session). (serve m s).closes) ss) ≡ true)
  kept-all m [] e = absurd (no_yes e)
  kept-all m (s ∷ ss) e = by (Q s) refl e (kept-all m ss)
    where
      by : (b : Bool) → Q s ≡ b → (b || list_any Q ss) ≡ true
          → (list_any Q ss ≡ true → (list_any Q (flat_map (λ (x : Session). (serve m x).left) ss) ≡ true) ⊎ (list_any (λ d. eqb d c) (flat_map (λ (x : Session). (serve m x).closes) ss) ≡ true))
          → (list_any Q ((serve m s).left ++ flat_map (λ (x : Session). (serve m x).left) ss) ≡ true) ⊎ (list_any (λ d. eqb d c) ((serve m s).closes ++ flat_map (λ (x : Session). (serve m x).closes) ss) ≡ true)
      by true i f rest = elim (kept-serve m s i) [
        | inl x ↦ inl (any-front Q (serve m s).left (flat_map (λ (x : Session). (serve m x).left) ss) x)
        | inr x ↦ inr (any-front (λ d. eqb d c) (serve m s).closes (flat_map (λ (x : Session). (serve m x).closes) ss) x)
      ]
      by false i f rest = elim (rest f) [
        | inl x ↦ inl (any-back Q (serve m s).left (flat_map (λ (x : Session). (serve m x).left) ss) x)
        | inr x ↦ inr (any-back (λ d. eqb d c) (serve m s).closes (flat_map (λ (x : Session). (serve m x).closes) ss) x)
      ]

  fine-one : (m : AppMessage) (t : Turn) → Fine t → Fine (route_one m t)
  fine-one m t (inl e) = elim (kept-all m t.broker.sessions e) [
    | inl x ↦ inl x
    | inr x ↦ inr (any-back (λ d. eqb d c) t.closes (flat_map (λ (s : Session). (serve m s).closes) t.broker.sessions) x)
  ]
  fine-one m t (inr e) = inr (any-front (λ d. eqb d c) t.closes (flat_map (λ (s : Session). (serve m s).closes) t.broker.sessions) e)

  fine-some : (n : ℕ) (t : Turn) → Fine t → Fine (route_some n t)
  unfolding route_some
  fine-some zero t e = e
  fine-some (suc n) t e = by t.waiting (λ m ms. fine-some n (route_one m (record t { waiting = ms })) (fine-one m (record t { waiting = ms }) e))
    where
      by : (ws : List AppMessage) → ((m : AppMessage) (ms : List AppMessage) → Fine (route_some n (route_one m (record t { waiting = ms }))))
          → Fine (elim ws as (λ _. Turn) [ [] ↦ t | m ∷ ms ↦ route_some n (route_one m (record t { waiting = ms })) ])
      by [] rest = e
      by (m ∷ ms) rest = rest m ms

  pub fine-route : (t : Turn) → Fine t → Fine (route t)
  unfolding route
  fine-route t e = fine-some (length t.waiting + length t.broker.sessions) t e

  fine-offer_at : (key : ℕ) (app_message : AppMessage) (t : Turn) (o : Option Session) → IsLawful t.broker → with_key key t.broker.sessions ≡ o → Fine t → Fine (offer_at o key app_message t)
  fine-offer_at key app_message t None l is f = f
  fine-offer_at key app_message t (Some s) l is (inr f) = inr (any-front (λ d. eqb d c) t.closes (hand app_message s).closes f)
  fine-offer_at key app_message t (Some s) l is (inl f) = by (Q s) refl
    where
      same : s.key ≡ key
      same = eqb-is s.key key (found-passes (λ (x : Session). eqb x.key key) t.broker.sessions s is)

      swapped : (Q s ≡ true → list_any Q (hand app_message s).left ≡ true) → list_any Q (swap key (hand app_message s).left t.broker.sessions) ≡ true
      swapped h = subst (λ k. list_any Q (swap k (hand app_message s).left t.broker.sessions) ≡ true) same (stays-swap (λ (x : Session). eqb x.key key) s (hand app_message s).left t.broker l is h f)

      by : (b : Bool) → Q s ≡ b → Fine (offer_at (Some s) key app_message t)
      by true i = elim (kept-hand app_message.qos app_message s i) [
        | inl x ↦ inl (swapped (λ q. x))
        | inr x ↦ inr (any-back (λ d. eqb d c) t.closes (hand app_message s).closes x)
      ]
      by false i = inl (swapped (λ q. absurd (yes_no (sym q ∙ i))))

  pub fine-offers : (key : ℕ) (app_messages : List AppMessage) (t : Turn) → IsLawful t.broker → Fine t → Fine (fold (offer key) t app_messages)
  fine-offers key [] t l f = f
  fine-offers key (p ∷ ps) t l f = fine-offers key ps (offer key t p) (lawful-offer_at key p t (with_key key t.broker.sessions) l refl)
      (fine-offer_at key p t (with_key key t.broker.sessions) l refl f)

  -- ---- who is told to be closed stays so

  told-one : (m : AppMessage) (t : Turn) → Told t → Told (route_one m t)
  told-one m t e = any-front (λ d. eqb d c) t.closes (flat_map (λ (s : Session). (serve m s).closes) t.broker.sessions) e

  told-some : (n : ℕ) (t : Turn) → Told t → Told (route_some n t)
  unfolding route_some
  told-some zero t e = e
  told-some (suc n) t e = by t.waiting (λ m ms. told-some n (route_one m (record t { waiting = ms })) (told-one m (record t { waiting = ms }) e))
    where
      by : (ws : List AppMessage) → ((m : AppMessage) (ms : List AppMessage) → Told (route_some n (route_one m (record t { waiting = ms }))))
          → Told (elim ws as (λ _. Turn) [ [] ↦ t | m ∷ ms ↦ route_some n (route_one m (record t { waiting = ms })) ])
      by [] rest = e
      by (m ∷ ms) rest = rest m ms

  pub told-route : (t : Turn) → Told t → Told (route t)
  unfolding route
  told-route t e = told-some (length t.waiting + length t.broker.sessions) t e

  connection-sits : (change : Connection → Connection) → ((l : Connection) → (change l).conn ≡ l.conn) → (s : Session) → Q (record s { here = option_map change s.here }) ≡ Q s
  connection-sits change same s = ap (λ b. b && L s.grants) (by s.here)
    where
      by : (o : Option Connection) → option_map_or (λ (l : Connection). eqb l.conn c) (option_map change o) false ≡ option_map_or (λ (l : Connection). eqb l.conn c) o false
      by None = refl
      by (Some l) = ap (λ n. eqb n c) (same l)

  pub fine-connections : (on_newcomer : Newcomer → Newcomer) (change : Connection → Connection) → ((l : Connection) → (change l).conn ≡ l.conn) → (t : Turn) → Fine t → Fine (on_connections on_newcomer change t)
  fine-connections on_newcomer change same t (inl e) = inl (any-map (λ (s : Session). record s { here = option_map change s.here }) Q Q (connection-sits change same) t.broker.sessions ∙ e)
  fine-connections on_newcomer change same t (inr e) = inr e

  pub told-shut : (d : ℕ) (t : Turn) → eqb d c ≡ true → Told (acts (shut d) t)
  told-shut d t e = told-route (act (Tell d) (act (Leave d true) t)) (any-back (λ x. eqb x c) (act (Leave d true) t).closes (d ∷ []) (or_left (eqb d c) false e))

  -- where what is found becomes such a session
  pub any-new : (p : Session → Bool) (x new : Session) (ss : List Session) → find p ss ≡ Some x → Q new ≡ true → list_any Q (swap x.key (new ∷ []) ss) ≡ true
  any-new p x new [] is q = absurd (no is)
    where
      no : None ≡ Some x → ⊥
      no e = cc
  any-new p x new (s ∷ ss) is q = by (p s) is (any-new p x new ss)
    where
      by : (b : Bool) → cond b (Some s) (find p ss) ≡ Some x → (find p ss ≡ Some x → Q new ≡ true → list_any Q (swap x.key (new ∷ []) ss) ≡ true)
          → list_any Q (cond (eqb s.key x.key) (new ∷ []) (s ∷ []) ++ swap x.key (new ∷ []) ss) ≡ true
      by true f rest =
          let same : s ≡ x = cc in
          let key : eqb s.key x.key ≡ true = ap (λ (z : Session). eqb z.key x.key) same ∙ eqb-self x.key in
          ap (λ b. list_any Q (cond b (new ∷ []) (s ∷ []) ++ swap x.key (new ∷ []) ss)) key ∙ or_left (Q new) (list_any Q (swap x.key (new ∷ []) ss)) q
      by false f rest = any-back Q (cond (eqb s.key x.key) (new ∷ []) (s ∷ [])) (swap x.key (new ∷ []) ss) (rest f q)
