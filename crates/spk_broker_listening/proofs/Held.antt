-- How long a filter lasts, and what it makes its connection listen to.
use Rattle.std.proofs.Common.{◌≡◌, ◌⊎◌, inl, inr, ℕ, max, unwrap_or, Bool, true, false, not, ◌&&◌, ◌||◌, cond, eqb, List, [], ◌∷◌, ◌++◌, refl, sym, ◌∙◌, ap, subst, Option, Some, None, is_some}
use Rattle.std.specs.List.{fold, list_any}
use Rattle.std.specs.Str.{bytes_eq}
use Rattle.std.proofs.lemmas.Bool.{or_left, or_right}
use Rattle.std.proofs.lemmas.Slice.Eq.{bytes_eq-Decides}
use Rattle.spk_packets.specs.Fault.{first_of}
use Rattle.spk_packets.specs.Message.{Connect, ConnAck, Publish, PubAck, Subscribe, SubAck, Unsubscribe, UnsubAck, PingReq, PingResp, Disconnect}
use Rattle.spk_packets.specs.Spelling.{unwritable}
use Rattle.spk_topics.specs.Fitting.{is_match}
use Rattle.spk_broker_rules.specs.Data.{Session, Broker}
use Rattle.spk_broker_rules.specs.Lawful.{IsLawful}
use Rattle.spk_broker_rules.specs.Listening.{is_closed_in, lets_go, listens, takes_back}
use Rattle.spk_broker_rules.specs.Table.{Table, has, remove}
use Rattle.spk_broker_rules.specs.Words.{best}
use Rattle.spk_broker_rules.specs.Plan.{Event, Open, Packet, Fault, Closed, Tick, Refused, Say, Take, before, has_bad_filter, shut}
use Rattle.spk_broker_rules.specs.Step.{Turn, acts, after, begun, newcomer_heard, connection_heard, act, noted, session_by, sits, step, take_at}
use Rattle.spk_broker_rules.proofs.Lists.{eqb-is, eqb-self}
use Rattle.spk_broker_rules.proofs.Lawfuls.{heard-connection}
use Rattle.spk_broker_rules.proofs.Places.{lawful-acts}
use Rattle.spk_broker_rules.proofs.Staying.{stays-step}
use Rattle.spk_broker_listening.specs.Granted.{Lasts, holds, takes_off}
use Rattle.spk_broker_listening.proofs.Fine.{yes_no, no_yes, fine-connections, grants-of, sits-of, stays-swap, told-shut}
use Rattle.spk_broker_listening.proofs.Given.{has-put}

-- ---- taking others back

has-remove : (f k : List ℕ) (g : Table ℕ) → bytes_eq k f ≡ false → has f g ≡ true → has f (remove k g) ≡ true
has-remove f k [] other e = absurd (no_yes e)
has-remove f k (x ∷ g) other e = by (bytes_eq x.0 f) refl (bytes_eq x.0 k) refl e (has-remove f k g other)
  where
    by : (a : Bool) → bytes_eq x.0 f ≡ a → (b : Bool) → bytes_eq x.0 k ≡ b → (a || has f g) ≡ true → (has f g ≡ true → has f (remove k g) ≡ true)
        → has f (cond (not b) (x ∷ remove k g) (remove k g)) ≡ true
    by true i true j h rest =
        let one : x.0 ≡ f = (bytes_eq-Decides x.0 f).0 i in
        let two : x.0 ≡ k = (bytes_eq-Decides x.0 k).0 j in
        absurd (yes_no (sym ((bytes_eq-Decides k f).1 (sym two ∙ one)) ∙ other))
    by true i false j h rest = or_left (bytes_eq x.0 f) (has f (remove k g)) i
    by false i true j h rest = rest h
    by false i false j h rest = or_right (bytes_eq x.0 f) (has f (remove k g)) (rest h)

first-off : (a b : Bool) → (a || b) ≡ false → a ≡ false
first-off true b e = absurd (yes_no e)
first-off false b e = refl

last-off : (a b : Bool) → (a || b) ≡ false → b ≡ false
last-off true b e = absurd (yes_no e)
last-off false b e = e

has-removes : (f : List ℕ) (ks : List (List ℕ)) (g : Table ℕ) → list_any (λ k. bytes_eq k f) ks ≡ false → has f g ≡ true → has f (fold (λ g k. remove k g) g ks) ≡ true
has-removes f [] g others e = e
has-removes f (k ∷ ks) g others e =
    has-removes f ks (remove k g) (last-off (bytes_eq k f) (list_any (λ k. bytes_eq k f) ks) others) (has-remove f k g (first-off (bytes_eq k f) (list_any (λ k. bytes_eq k f) ks) others) e)

abbrev Fair : ℕ → List ℕ → Turn → Type 0
Fair c f t = (list_any (λ (s : Session). sits c s && has f s.grants) t.broker.sessions ≡ true) ⊎ (list_any (λ d. eqb d c) t.closes ≡ true)

fair-take : (c : ℕ) (f : List ℕ) (filters : List (List ℕ)) (t : Turn) (o : Option Session) → IsLawful t.broker → list_any (λ k. bytes_eq k f) filters ≡ false → session_by c t.broker.sessions ≡ o
    → Fair c f t → Fair c f (take_at o filters t)
fair-take c f filters t None l others is h = h
fair-take c f filters t (Some s) l others is (inr h) = inr h
fair-take c f filters t (Some s) l others is (inl h) =
    inl (stays-swap c (λ g. has f g) (sits c) s ((record s { grants = fold (λ g k. remove k g) s.grants filters }) ∷ []) t.broker l is (λ q. new q) h)
  where
    new : (sits c s && has f s.grants) ≡ true → list_any (λ (x : Session). sits c x && has f x.grants) ((record s { grants = fold (λ g k. remove k g) s.grants filters }) ∷ []) ≡ true
    new q = or_left _ false (ap (λ b. b && has f (fold (λ g k. remove k g) s.grants filters)) (sits-of c (λ g. has f g) s q)
        ∙ has-removes f filters s.grants others (grants-of c (λ g. has f g) s q))

fair-unsubscribe : (t : Turn) (u j k : Bool) (c id : ℕ) (f : List ℕ) (filters : List (List ℕ)) → IsLawful t.broker → list_any (λ x. bytes_eq x f) filters ≡ false → Fair c f t
    → Fair c f (acts (cond u (shut c) (cond j (cond k (shut c) (Take c filters ∷ Say c (UnsubAck id) ∷ [])) (shut c))) t)
fair-unsubscribe t true j k c id f filters l others h = inr (told-shut c (λ g. has f g) c t (eqb-self c))
fair-unsubscribe t false false k c id f filters l others h = inr (told-shut c (λ g. has f g) c t (eqb-self c))
fair-unsubscribe t false true true c id f filters l others h = inr (told-shut c (λ g. has f g) c t (eqb-self c))
fair-unsubscribe t false true false c id f filters l others h = said (fair-take c f filters t (session_by c t.broker.sessions) l others refl h)
  where
    said : Fair c f (take_at (session_by c t.broker.sessions) filters t) → Fair c f (act (Say c (UnsubAck id)) (take_at (session_by c t.broker.sessions) filters t))
    said x = x

stays-own : (b : Broker) (c id moment : ℕ) (f : List ℕ) (filters : List (List ℕ)) → IsLawful b → holds b c f ≡ true → list_any (λ x. bytes_eq x f) filters ≡ false
    → (holds (step b (Packet c (Unsubscribe id filters) moment)).broker c f ≡ true) ⊎ (is_closed_in c (step b (Packet c (Unsubscribe id filters) moment)) ≡ true)
unfolding step
stays-own b c id moment f filters l h others =
    fair-unsubscribe (noted b (Packet c (Unsubscribe id filters) moment)) (is_some (first_of (unwritable (Unsubscribe id filters))))
    (is_some (session_by c (noted b (Packet c (Unsubscribe id filters) moment)).broker.sessions)) (has_bad_filter filters) c id f filters
    (lawful-acts (before (Packet c (Unsubscribe id filters) moment)) (begun b) l) others
    (fine-connections c (λ g. has f g) (newcomer_heard c (max b.clock moment)) (connection_heard c (max b.clock moment)) (heard-connection c (max b.clock moment))
    (record (begun b) { broker = record b { clock = max b.clock moment } }) (inl h))

-- ---- any event

never : (a : Bool) → (a && false) ≡ false
never true = refl
never false = refl

with_own : (a x : Bool) → a ≡ true → (a && x) ≡ false → x ≡ false
with_own true x e h = h
with_own false x e h = absurd (no_yes e)

pub stays : (b : Broker) (c : ℕ) (f : List ℕ) (e : Event) → IsLawful b → holds b c f ≡ true → lets_go c e ≡ false → takes_off c f e ≡ false
    → (holds (step b e).broker c f ≡ true) ⊎ (is_closed_in c (step b e) ≡ true)
stays b c f e l h go off = by e go off
  where
    other : (x : Event) → lets_go c x ≡ false → takes_back c x ≡ false → (holds (step b x).broker c f ≡ true) ⊎ (is_closed_in c (step b x) ≡ true)
    other x g k = stays-step c (λ t. has f t) (λ k q t i. has-put f k q t i) b x l h g (inl k)

    by : (x : Event) → lets_go c x ≡ false → takes_off c f x ≡ false → (holds (step b x).broker c f ≡ true) ⊎ (is_closed_in c (step b x) ≡ true)
    by (Open moment) g k = other (Open moment) g refl
    by (Packet d (Connect client clean alive will) moment) g k = other (Packet d (Connect client clean alive will) moment) g (never (eqb d c))
    by (Packet d (ConnAck present code) moment) g k = other (Packet d (ConnAck present code) moment) g (never (eqb d c))
    by (Packet d (Publish dup qos retain topic id payload) moment) g k = other (Packet d (Publish dup qos retain topic id payload) moment) g (never (eqb d c))
    by (Packet d (PubAck id) moment) g k = other (Packet d (PubAck id) moment) g (never (eqb d c))
    by (Packet d (Subscribe id entries) moment) g k = other (Packet d (Subscribe id entries) moment) g (never (eqb d c))
    by (Packet d (SubAck id codes) moment) g k = other (Packet d (SubAck id codes) moment) g (never (eqb d c))
    by (Packet d (Unsubscribe id filters) moment) g k = own (eqb d c) refl
      where
        own : (a : Bool) → eqb d c ≡ a → (holds (step b (Packet d (Unsubscribe id filters) moment)).broker c f ≡ true) ⊎ (is_closed_in c (step b (Packet d (Unsubscribe id filters) moment)) ≡ true)
        own true i =
            subst (λ n. (holds (step b (Packet n (Unsubscribe id filters) moment)).broker c f ≡ true) ⊎ (is_closed_in c (step b (Packet n (Unsubscribe id filters) moment)) ≡ true)) (sym (eqb-is d c i))
            (stays-own b c id moment f filters l h (with_own (eqb d c) (list_any (λ x. bytes_eq x f) filters) i k))
        own false i = other (Packet d (Unsubscribe id filters) moment) g (ap (λ a. a && true) i)
    by (Packet d (UnsubAck id) moment) g k = other (Packet d (UnsubAck id) moment) g (never (eqb d c))
    by (Packet d PingReq moment) g k = other (Packet d PingReq moment) g (never (eqb d c))
    by (Packet d PingResp moment) g k = other (Packet d PingResp moment) g (never (eqb d c))
    by (Packet d Disconnect moment) g k = other (Packet d Disconnect moment) g (never (eqb d c))
    by (Fault d x moment) g k = other (Fault d x moment) g refl
    by (Closed d moment) g k = other (Closed d moment) g refl
    by (Tick moment) g k = other (Tick moment) g refl
    by (Refused d s moment) g k = other (Refused d s moment) g refl

-- ---- what a filter matches

best-has : (f topic : List ℕ) (g : Table ℕ) → has f g ≡ true → is_match f topic ≡ true → is_some (best topic g) ≡ true
best-has f topic [] e m = absurd (no_yes e)
best-has f topic (x ∷ g) e m = by (is_match x.0 topic) refl (bytes_eq x.0 f) refl e (λ h. best-has f topic g h m)
  where
    by : (a : Bool) → is_match x.0 topic ≡ a → (b : Bool) → bytes_eq x.0 f ≡ b → (b || has f g) ≡ true → (has f g ≡ true → is_some (best topic g) ≡ true)
        → is_some (cond a (Some (max x.1 (unwrap_or (best topic g) 0))) (best topic g)) ≡ true
    by true i b j h rest = refl
    by false i true j h rest = absurd (yes_no (sym m ∙ ap (λ k. is_match k topic) (sym ((bytes_eq-Decides x.0 f).0 j)) ∙ i))
    by false i false j h rest = rest h

pub matched : (b : Broker) (c : ℕ) (f topic : List ℕ) → holds b c f ≡ true → is_match f topic ≡ true → listens b c topic ≡ true
matched b c f topic h m = all b.sessions h
  where
    all : (ss : List Session) → list_any (λ (s : Session). sits c s && has f s.grants) ss ≡ true → list_any (λ (s : Session). sits c s && is_some (best topic s.grants)) ss ≡ true
    all [] e = absurd (no_yes e)
    all (s ∷ ss) e = by (sits c s) (has f s.grants) refl e (all ss)
      where
        by : (a x : Bool) → has f s.grants ≡ x → ((a && x) || list_any (λ (s : Session). sits c s && has f s.grants) ss) ≡ true
            → (list_any (λ (s : Session). sits c s && has f s.grants) ss ≡ true → list_any (λ (s : Session). sits c s && is_some (best topic s.grants)) ss ≡ true)
            → ((a && is_some (best topic s.grants)) || list_any (λ (s : Session). sits c s && is_some (best topic s.grants)) ss) ≡ true
        by true true i g rest = or_left (is_some (best topic s.grants)) _ (best-has f topic s.grants i m)
        by true false i g rest = or_right (is_some (best topic s.grants)) _ (rest g)
        by false x i g rest = rest g

-- ---- along events

pub lasts : ((limit : ℕ) (es : List Event) → IsLawful (after limit es)) → (limit c : ℕ) (f : List ℕ) (later before : List Event) → Lasts limit c f later before → holds (after limit before) c f ≡ true
    → holds (after limit (later ++ before)) c f ≡ true
lasts lawful limit c f [] before x h = h
lasts lawful limit c f (e ∷ l) before (go, off, still, rest) h =
    elim (stays (after limit (l ++ before)) c f e (lawful limit (l ++ before)) (lasts lawful limit c f l before rest h) go off) [
      | inl x ↦ x
      | inr x ↦ absurd (yes_no (sym x ∙ still))
    ]
