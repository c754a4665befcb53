-- What retained messages offer, and what an offer does.
use Rattle.std.proofs.Common.{◌≡◌, ℕ, zero, suc, ◌+◌, ◌<◌, ◌≤◌, Bool, true, false, cond, eqb, List, [], ◌∷◌, ◌++◌, length, length-set, map, take, get_or, get_or-set_same, set, refl, sym, ap, subst, ◌∙◌, arith, Option, Some, None, append_assoc, append-nil}
use Rattle.std.proofs.lemmas.List.{map-append, take_more}
use Rattle.std.specs.List.{filter, flat_map, fold, slice_get}
use Rattle.indexmap.specs.IndexMap.{spare}
use Rattle.spk_topics.specs.Fitting.{is_match}
use Rattle.spk_session.specs.PacketIds.{next_id}
use Rattle.spk_session.specs.Step.{has_room}
use Rattle.spk_broker_rules.specs.Data as plain
use Rattle.spk_broker_rules.specs.Lawful.{Rises}
use Rattle.spk_broker_rules.specs.Step.{Turn, bursts, hand, hand_at, numbered, offer, offer_at, swap, with_key}
use Rattle.spk_broker_rules.specs.Words.{offered, offers_to, option_list}
use Rattle.spk_broker_rules.proofs.Places.{lawful-offer_at}
use Rattle.spk_broker_rules.proofs.Lists.{eqb-self, flat_map-append}
use Rattle.spk_broker.specs.Asking.{sessions_now}
use Rattle.spk_broker.specs.Both.{Both}
use Rattle.spk_broker.specs.Drafts.{Drafted, draft_view, left_by, served_by}
use Rattle.spk_broker.specs.Offering.{IsOf, Offering, offers_at}
use Rattle.spk_broker.specs.Parts.{grant_view}
use Rattle.spk_broker.specs.declared.session.Grant.{Grant}
use Rattle.spk_broker.specs.Sent.{outgoing}
use Rattle.spk_broker.specs.View.{state_now, session_now, with_keeps}
use Rattle.spk_broker.specs.declared.state.State.{State}
use Rattle.spk_broker.specs.declared.out.Draft.{Draft}
use Rattle.spk_broker.proofs.Places.{key-above, swap-at, unequal}

pub offers-none : (g : List ℕ × ℕ) (e : List ℕ × plain.Stored) → is_match g.0 e.0 ≡ false → [] ≡ offers_to (e ∷ []) g
offers-none g e f = ap (λ b. map (offered g.1) (cond b (e ∷ []) [])) (sym f)

pub offers-one : (g : List ℕ × ℕ) (e : List ℕ × plain.Stored) (p : plain.AppMessage) → is_match g.0 e.0 ≡ true → p ≡ offered g.1 e → p ∷ [] ≡ offers_to (e ∷ []) g
offers-one g e p f is = ap (λ x. x ∷ []) is ∙ ap (λ b. map (offered g.1) (cond b (e ∷ []) [])) (sym f)

-- ---- by key

-- the session at a place is found by its key
pub with-key-at : (bs : List Both) (i : ℕ) (d : Both) (s : plain.Session) (low top : ℕ) → Rises low top (sessions_now bs) → i < length bs → (get_or bs i d).now ≡ Some s
    → with_key s.key (sessions_now bs) ≡ Some s
with-key-at [] i d s low top r lt e = absurd (omega arith)
with-key-at (b ∷ bs) zero d s low top r lt e =
    ap (λ o. with_key s.key (option_list o ++ sessions_now bs)) e ∙ ap (λ t. cond t (Some s) (with_key s.key (sessions_now bs))) (eqb-self s.key)
with-key-at (b ∷ bs) (suc i) d s low top r lt e =
    by b.now r (λ k q. key-above bs i d s k top q (omega arith) e) (λ k q. with-key-at bs i d s k top q (omega arith) e)
  where
    by : (o : Option plain.Session) → Rises low top (option_list o ++ sessions_now bs) → ((k : ℕ) → Rises k top (sessions_now bs) → k < s.key)
        → ((k : ℕ) → Rises k top (sessions_now bs) → with_key s.key (sessions_now bs) ≡ Some s) → with_key s.key (option_list o ++ sessions_now bs) ≡ Some s
    by None q low_key rest = rest low q
    by (Some y) q low_key rest =
        let less : y.key < s.key = low_key y.key q.1 in
        ap (λ t. cond t (Some y) (with_key s.key (sessions_now bs))) (unequal y.key s.key (λ f. omega arith)) ∙ rest y.key q.1

-- what was swapped out is found no more
pub swapped-out : (key : ℕ) (ss : List plain.Session) → with_key key (swap key [] ss) ≡ None
swapped-out key [] = refl
swapped-out key (s ∷ ss) = by (eqb s.key key) refl (swapped-out key ss)
  where
    by : (t : Bool) → eqb s.key key ≡ t → with_key key (swap key [] ss) ≡ None → with_key key (cond t [] (s ∷ []) ++ swap key [] ss) ≡ None
    by true e r = r
    by false e r = ap (λ u. cond u (Some s) (with_key key (swap key [] ss))) e ∙ r

-- one that ended, written over one that had
none-set : (bs : List Both) (i : ℕ) (d b : Both) → (get_or bs i d).now ≡ None → b.now ≡ None → sessions_now (set bs i b) ≡ sessions_now bs
none-set [] i d b e f = refl
none-set (c ∷ cs) zero d b e f = ap (λ o. option_list o ++ sessions_now cs) (f ∙ sym e)
none-set (c ∷ cs) (suc i) d b e f = ap (λ ss. session_now c ++ ss) (none-set cs i d b e f)

abbrev head_key : List plain.Session → ℕ
head_key [] = 0
head_key (s ∷ ss) = s.key

-- who is left has the same key
hand-key : (p : plain.AppMessage) (s x : plain.Session) → x ∷ [] ≡ (hand p s).left → x.key ≡ s.key
hand-key p s x e = by p.qos e
  where
    one : (b : Bool) → x ∷ [] ≡ (cond b (numbered s p (next_id s.used s.last)) (bursts s)).left → x.key ≡ s.key
    one true f = ap (λ (ss : List plain.Session). head_key ss) f
    one false f = cc

    by : (q : ℕ) → x ∷ [] ≡ (hand_at q p s).left → x.key ≡ s.key
    by zero f = ap (λ (ss : List plain.Session). head_key ss) f
    by (suc q) f = one (has_room s.used) f

-- ---- one offer

pub record Handed (d0 d1 : State) (x0 x1 : Draft) (place : ℕ) (p : plain.AppMessage) (e b : Both) : Type 0 where
  pub sessions : d1.sessions.items ≡ set d0.sessions.items place b
  pub state : state_now d1 ≡ record (state_now d0) { sessions = sessions_now d1.sessions.items }
  pub retained : d1.retained ≡ d0.retained
  pub left : option_list b.now ≡ left_by (hand p) (get_or d0.sessions.items place e).now
  pub drafted : draft_view x1 ≡ served_by (hand p) (get_or d0.sessions.items place e).now (draft_view x0)

here-after : (key : ℕ) (p : plain.AppMessage) (s : plain.Session) (o : Option plain.Session) (ss : List plain.Session) → s.key ≡ key → option_list o ≡ (hand p s).left
    → IsOf key o (swap key (hand p s).left ss)
here-after key p s None ss k e = ap (λ l. with_key key (swap key l ss)) (sym e) ∙ swapped-out key ss
here-after key p s (Some x) ss k e = hand-key p s x e ∙ k

no-one : (o : Option plain.Session) → option_list o ≡ [] → o ≡ None
no-one None e = refl
no-one (Some x) e = cc

pub offers : (d0 d1 : State) (x0 x1 : Draft) (place key : ℕ) (p : plain.AppMessage) (e b : Both) (t : Turn) → Handed d0 d1 x0 x1 place p e b
    → Offering d0 x0 place key t → Offering d1 x1 place key (offer key t p)
offers d0 d1 x0 x1 place key p e b t h o = by (get_or d0.sessions.items place e).now refl
  where
    low : place < length d1.sessions.items
    low = subst (λ n. place < n) (sym (ap length h.sessions ∙ length-set d0.sessions.items place b)) o.low

    at : (d : Both) → get_or d1.sessions.items place d ≡ b
    at d = ap (λ ss. get_or ss place d) h.sessions ∙ get_or-set_same d0.sessions.items place b d o.low

    same : sessions_now d0.sessions.items ≡ t.broker.sessions
    same = ap (λ (c : plain.Broker). c.sessions) o.stands.broker

    gone : (get_or d0.sessions.items place e).now ≡ None → Offering d1 x1 place key (offer key t p)
    gone n =
        let none : b.now ≡ None = no-one b.now (h.left ∙ ap (left_by (hand p)) n) in
        let nobody : with_key key t.broker.sessions ≡ None = subst (λ (k : Option plain.Session). IsOf key k t.broker.sessions) n (o.here e) in
        let idle : t ≡ offer key t p = ap (λ k. offer_at k key p t) (sym nobody) in
        let sessions : sessions_now d1.sessions.items ≡ sessions_now d0.sessions.items = ap sessions_now h.sessions ∙ none-set d0.sessions.items place e b n none in
        let view : draft_view x1 ≡ draft_view x0 = h.drafted ∙ ap (λ k. served_by (hand p) k (draft_view x0)) n in
        subst (Offering d1 x1 place key) idle (record {
          stands = record {
            broker = ap (λ (y : Drafted). with_keeps y.keeps (state_now d1)) view
                ∙ ap (with_keeps (draft_view x0).keeps) (h.state ∙ ap (λ ss. record (state_now d0) { sessions = ss }) sessions) ∙ o.stands.broker;
            sends = ap (λ (y : Drafted). y.sends) view ∙ o.stands.sends;
            closes = ap (λ (y : Drafted). y.closes) view ∙ o.stands.closes;
            waiting = ap (λ (y : Drafted). y.waiting) view ∙ o.stands.waiting;
            room = subst (λ (y : Drafted). length y.keeps ≤ spare d1.retained) (sym view) (subst (λ r. length (draft_view x0).keeps ≤ spare r) (sym h.retained) o.stands.room);
            lawful = o.stands.lawful;
          };
          low = low;
          here = λ d. subst (λ (k : Option plain.Session). IsOf key k t.broker.sessions) (sym (ap (λ (x : Both). x.now) (at d) ∙ none)) nobody;
        })

    there : (s : plain.Session) → (get_or d0.sessions.items place e).now ≡ Some s → Offering d1 x1 place key (offer key t p)
    there s n =
        let k : s.key ≡ key = subst (λ (m : Option plain.Session). IsOf key m t.broker.sessions) n (o.here e) in
        let rises : Rises 0 t.broker.made (sessions_now d0.sessions.items) = subst (Rises 0 t.broker.made) (sym same) o.stands.lawful.keys in
        let found : with_key key t.broker.sessions ≡ Some s =
        ap (λ m. with_key m t.broker.sessions) (sym k) ∙ ap (with_key s.key) (sym same) ∙ with-key-at d0.sessions.items place e s 0 t.broker.made rises o.low n in
        let left : option_list b.now ≡ (hand p s).left = h.left ∙ ap (left_by (hand p)) n in
        let sessions : sessions_now d1.sessions.items ≡ swap key (hand p s).left t.broker.sessions =
        ap sessions_now h.sessions ∙ sym (swap-at d0.sessions.items place e b s 0 t.broker.made rises o.low n)
        ∙ ap (λ l. swap s.key l (sessions_now d0.sessions.items)) left ∙ ap (λ m. swap m (hand p s).left (sessions_now d0.sessions.items)) k ∙ ap (swap key (hand p s).left) same in
        let view : draft_view x1 ≡ served_by (hand p) (Some s) (draft_view x0) = h.drafted ∙ ap (λ m. served_by (hand p) m (draft_view x0)) n in
        subst (Offering d1 x1 place key) (ap (λ m. offer_at m key p t) (sym found)) (record {
          stands = record {
            broker = ap (λ (y : Drafted). with_keeps y.keeps (state_now d1)) view
                ∙ ap (with_keeps (draft_view x0).keeps) (h.state ∙ ap (λ ss. record (state_now d0) { sessions = ss }) sessions)
                ∙ ap (λ (c : plain.Broker). record c { sessions = swap key (hand p s).left t.broker.sessions }) o.stands.broker;
            sends = ap (λ (y : Drafted). y.sends) view ∙ ap (λ l. l ++ map outgoing (hand p s).sends) o.stands.sends ∙ sym (map-append outgoing t.sends (hand p s).sends);
            closes = ap (λ (y : Drafted). y.closes) view ∙ ap (λ l. l ++ (hand p s).closes) o.stands.closes;
            waiting = ap (λ (y : Drafted). y.waiting) view ∙ ap (λ l. l ++ (hand p s).wills) o.stands.waiting;
            room = subst (λ (y : Drafted). length y.keeps ≤ spare d1.retained) (sym view) (subst (λ r. length (draft_view x0).keeps ≤ spare r) (sym h.retained) o.stands.room);
            lawful = lawful-offer_at key p t (Some s) o.stands.lawful found;
          };
          low = low;
          here = λ d. subst (λ (m : Option plain.Session). IsOf key m (swap key (hand p s).left t.broker.sessions)) (sym (ap (λ (x : Both). x.now) (at d)))
              (here-after key p s b.now t.broker.sessions k left);
        })

    by : (m : Option plain.Session) → (get_or d0.sessions.items place e).now ≡ m → Offering d1 x1 place key (offer key t p)
    by None n = gone n
    by (Some s) n = there s n

-- ---- all offers

pub fold-append : {A B : Type 0} (f : B → A → B) (b : B) (xs ys : List A) → fold f b (xs ++ ys) ≡ fold f (fold f b xs) ys
fold-append f b [] ys = refl
fold-append f b (x ∷ xs) ys = fold-append f (f b x) xs ys

pub offers-cons : (g : List ℕ × ℕ) (e : List ℕ × plain.Stored) (es : List (List ℕ × plain.Stored)) → offers_to (e ∷ es) g ≡ offers_to (e ∷ []) g ++ offers_to es g
offers-cons g e es = by (is_match g.0 e.0)
  where
    by : (b : Bool) → map (offered g.1) (cond b (e ∷ filter (λ x. is_match g.0 x.0) es) (filter (λ x. is_match g.0 x.0) es)) ≡ map (offered g.1) (cond b (e ∷ []) []) ++ offers_to es g
    by true = refl
    by false = refl

pub offers-more : (g : List ℕ × ℕ) (es : List (List ℕ × plain.Stored)) (i : ℕ) → offers_to (take (suc i) es) g ≡ offers_to (take i es) g ++ offers_at (slice_get es i) g
offers-more g [] zero = refl
offers-more g [] (suc i) = refl
offers-more g (e ∷ es) zero = refl
offers-more g (e ∷ es) (suc i) =
    offers-cons g e (take (suc i) es) ∙ ap (λ ps. offers_to (e ∷ []) g ++ ps) (offers-more g es i)
    ∙ sym (append_assoc (offers_to (e ∷ []) g) (offers_to (take i es) g) (offers_at (slice_get es i) g))
    ∙ ap (λ ps. ps ++ offers_at (slice_get es i) g) (sym (offers-cons g e (take i es)))

pub offers-step : (key : ℕ) (t : Turn) (g : List ℕ × ℕ) (es : List (List ℕ × plain.Stored)) (i : ℕ)
    → fold (offer key) (fold (offer key) t (offers_to (take i es) g)) (offers_at (slice_get es i) g) ≡ fold (offer key) t (offers_to (take (i + 1) es) g)
offers-step key t g es i =
    let n : suc i ≡ i + 1 = omega arith in
    sym (fold-append (offer key) t (offers_to (take i es) g) (offers_at (slice_get es i) g))
    ∙ ap (fold (offer key) t) (sym (offers-more g es i) ∙ ap (λ m. offers_to (take m es) g) n)

pub offering-along : (d : State) (x : Draft) (place key : ℕ) (t u : Turn) → Offering d x place key t → t ≡ u → Offering d x place key u
offering-along d x place key t u o e = subst (Offering d x place key) e o

-- one grant more
pub grants-more : (es : List (List ℕ × plain.Stored)) (gs : List Grant) (i : ℕ) (x d : Grant) → i < length gs → x ≡ get_or gs i d
    → flat_map (offers_to es) (map grant_view (take i gs)) ++ offers_to es (grant_view x) ≡ flat_map (offers_to es) (map grant_view (take (i + 1) gs))
grants-more es gs i x d lt is = sym (
    ap (λ l. flat_map (offers_to es) (map grant_view l)) (take_more gs i d lt)
    ∙ ap (flat_map (offers_to es)) (map-append grant_view (take i gs) (get_or gs i d ∷ []))
    ∙ flat_map-append (offers_to es) (map grant_view (take i gs)) (grant_view (get_or gs i d) ∷ [])
    ∙ ap (λ ps. flat_map (offers_to es) (map grant_view (take i gs)) ++ ps) (append-nil (offers_to es (grant_view (get_or gs i d))) ∙ ap (λ (y : Grant). offers_to es (grant_view y)) (sym is))
    )

pub grants-step : (key : ℕ) (t : Turn) (es : List (List ℕ × plain.Stored)) (gs : List Grant) (i : ℕ) (x d : Grant) → i < length gs → x ≡ get_or gs i d
    → fold (offer key) (fold (offer key) t (flat_map (offers_to es) (map grant_view (take i gs)))) (offers_to es (grant_view x))
    ≡ fold (offer key) t (flat_map (offers_to es) (map grant_view (take (i + 1) gs)))
grants-step key t es gs i x d lt is =
    sym (fold-append (offer key) t (flat_map (offers_to es) (map grant_view (take i gs))) (offers_to es (grant_view x)))
    ∙ ap (fold (offer key) t) (grants-more es gs i x d lt is)
