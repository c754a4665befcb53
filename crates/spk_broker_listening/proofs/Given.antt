-- What a SUBSCRIBE gives: its SUBACK stands first, and each filter with another code than 128 is granted.
use Rattle.std.proofs.Common.{◌≡◌, ◌≢◌, ◌⊎◌, inl, inr, ℕ, zero, suc, ◌+◌, min, max, Bool, true, false, ◌&&◌, ◌||◌, cond, eqb, List, [], ◌∷◌, ◌++◌, map, length, append_assoc, refl, sym, ◌∙◌, ap, subst, Option, Some, None, is_some}
use Rattle.std.specs.List.{fold, list_any, flat_map}
use Rattle.std.specs.Str.{bytes_eq}
use Rattle.std.proofs.lemmas.Bool.{or_from, or_left, or_right}
use Rattle.std.proofs.lemmas.List.Folds.{list_any-append}
use Rattle.std.proofs.lemmas.Slice.Eq.{bytes_eq-Decides}
use Rattle.spk_packets.specs.Fault.{first_of}
use Rattle.spk_packets.specs.Message.{Message, Subscribe, SubAck}
use Rattle.spk_packets.specs.Spelling.{unwritable}
use Rattle.spk_topics.specs.Text.{filter_refusal}
use Rattle.spk_broker_rules.specs.Data.{AppMessage, Session, Broker, Send}
use Rattle.spk_broker_rules.specs.Lawful.{IsLawful}
use Rattle.spk_broker_rules.specs.Listening.{is_closed_in, is_joined}
use Rattle.spk_broker_rules.specs.Table.{Table, has, put, replaced}
use Rattle.spk_broker_rules.specs.Words.{codes_of, granted_of, is_granted, offers_to, with_entry}
use Rattle.spk_broker_rules.specs.Plan.{Packet, Act, Give, Route, shut, before}
use Rattle.spk_broker_rules.specs.Step.{Turn, acts, begun, give_at, hand, heavy_in, noted, offer, offer_at, other_grants, route, route_one, route_some, session_by, serve, sits, step, swap, with_key}
use Rattle.spk_broker_rules.proofs.Lists.{eqb-self, found-passes}
use Rattle.spk_broker_rules.proofs.Places.{lawful-acts, lawful-found}
use Rattle.spk_broker_rules.proofs.Publishing.{heavy-heard, joined-heard}
use Rattle.spk_broker_listening.specs.Granted.{Grants, IsAnswered, holds}
use Rattle.spk_broker_listening.proofs.Fine.{yes_no, no_yes, any-new, fine-offers, fine-route, told-shut}

-- ---- tables

pub has-put : (f key : List ℕ) (q : ℕ) (g : Table ℕ) → has f g ≡ true → has f (put key q g) ≡ true
has-put f key q g e = by (has key g)
  where
    one : (x : List ℕ × ℕ) → bytes_eq (replaced key q x).0 f ≡ bytes_eq x.0 f
    one x = at (bytes_eq x.0 key)
      where
        at : (b : Bool) → bytes_eq (cond b (x.0, q) x).0 f ≡ bytes_eq x.0 f
        at true = refl
        at false = refl

    all : (xs : Table ℕ) → has f (map (replaced key q) xs) ≡ has f xs
    all [] = refl
    all (x ∷ xs) = ap (λ b. b || has f (map (replaced key q) xs)) (one x) ∙ ap (λ b. bytes_eq x.0 f || b) (all xs)

    by : (b : Bool) → has f (cond b (map (replaced key q) g) (g ++ (key, q) ∷ [])) ≡ true
    by true = all g ∙ e
    by false = list_any-append (λ (x : List ℕ × ℕ). bytes_eq x.0 f) g ((key, q) ∷ []) ∙ or_left _ _ e

put-has : (f : List ℕ) (q : ℕ) (g : Table ℕ) → has f (put f q g) ≡ true
put-has f q g = by (has f g) refl
  where
    one : (x : List ℕ × ℕ) → bytes_eq (replaced f q x).0 f ≡ bytes_eq x.0 f
    one x = at (bytes_eq x.0 f)
      where
        at : (b : Bool) → bytes_eq (cond b (x.0, q) x).0 f ≡ bytes_eq x.0 f
        at true = refl
        at false = refl

    all : (xs : Table ℕ) → has f (map (replaced f q) xs) ≡ has f xs
    all [] = refl
    all (x ∷ xs) = ap (λ b. b || has f (map (replaced f q) xs)) (one x) ∙ ap (λ b. bytes_eq x.0 f || b) (all xs)

    by : (b : Bool) → has f g ≡ b → has f (cond b (map (replaced f q) g) (g ++ (f, q) ∷ [])) ≡ true
    by true e = all g ∙ e
    by false e = list_any-append (λ (x : List ℕ × ℕ). bytes_eq x.0 f) g ((f, q) ∷ []) ∙ or_right (has f g) _ (or_left (bytes_eq f f) false ((bytes_eq-Decides f f).1 refl))

has-entry : (others : ℕ) (f : List ℕ) (g : Table ℕ) (x : List ℕ × ℕ) → has f g ≡ true → has f (with_entry others g x) ≡ true
has-entry others f g x e = by (is_granted others g x)
  where
    by : (b : Bool) → has f (cond b (put x.0 (min 1 x.1) g) g) ≡ true
    by true = has-put f x.0 (min 1 x.1) g e
    by false = e

has-entries : (others : ℕ) (f : List ℕ) (es : List (List ℕ × ℕ)) (g : Table ℕ) → has f g ≡ true → has f (fold (with_entry others) g es) ≡ true
has-entries others f [] g e = e
has-entries others f (x ∷ es) g e = has-entries others f es (with_entry others g x) (has-entry others f g x e)

-- a filter with another code than 128 is granted
granted-has : (others : ℕ) (f : List ℕ) (es : List (List ℕ × ℕ)) (g : Table ℕ) → Grants f es (codes_of others g es) → has f (fold (with_entry others) g es) ≡ true
granted-has others f [] g given = absurd given
granted-has others f (x ∷ es) g (inl (same, other)) = has-entries others f es (with_entry others g x) (by (is_granted others g x) other)
  where
    by : (b : Bool) → (cond b (min 1 x.1) 128 ≢ 128) → has f (cond b (put x.0 (min 1 x.1) g) g) ≡ true
    by true h = subst (λ k. has f (put k (min 1 x.1) g) ≡ true) (sym same) (put-has f (min 1 x.1) g)
    by false h = absurd (h refl)
granted-has others f (x ∷ es) g (inr rest) = granted-has others f es (with_entry others g x) rest

codes-long : (others : ℕ) (es : List (List ℕ × ℕ)) (g : Table ℕ) → length (codes_of others g es) ≡ length es
codes-long others [] g = refl
codes-long others (x ∷ es) g = ap suc (codes-long others es (with_entry others g x))

-- ---- what is sent is added behind

Adds : Turn → Turn → Type 0
Adds t u = (more : List Send) × (u.sends ≡ t.sends ++ more)

adds-then : (t u v : Turn) → Adds t u → Adds u v → Adds t v
unfolding Adds
adds-then t u v (xs, e) (ys, f) = (xs ++ ys, f ∙ ap (λ ss. ss ++ ys) e ∙ append_assoc t.sends xs ys)

adds-some : (n : ℕ) (t : Turn) → Adds t (route_some n t)
unfolding Adds route_some
adds-some zero t = ([], sym (nothing t.sends))
  where
    nothing : (xs : List Send) → xs ++ [] ≡ xs
    nothing [] = refl
    nothing (x ∷ xs) = ap (λ ys. x ∷ ys) (nothing xs)
adds-some (suc n) t = by t.waiting (λ m ms. adds-then t (route_one m (record t { waiting = ms })) (route_some n (route_one m (record t { waiting = ms }))) (flat_map (λ (s : Session). (serve m s).sends) t.broker.sessions, refl) (adds-some n (route_one m (record t { waiting = ms }))))
  where
    nothing : (xs : List Send) → xs ++ [] ≡ xs
    nothing [] = refl
    nothing (x ∷ xs) = ap (λ ys. x ∷ ys) (nothing xs)

    by : (ws : List AppMessage) → ((m : AppMessage) (ms : List AppMessage) → Adds t (route_some n (route_one m (record t { waiting = ms }))))
        → Adds t (elim ws as (λ _. Turn) [ [] ↦ t | m ∷ ms ↦ route_some n (route_one m (record t { waiting = ms })) ])
    by [] rest = ([], sym (nothing t.sends))
    by (m ∷ ms) rest = rest m ms

adds-route : (t : Turn) → Adds t (route t)
unfolding route
adds-route t = adds-some (length t.waiting + length t.broker.sessions) t

adds-offers : (key : ℕ) (app_messages : List AppMessage) (t : Turn) → Adds t (fold (offer key) t app_messages)
unfolding Adds
adds-offers key [] t = ([], sym (nothing t.sends))
  where
    nothing : (xs : List Send) → xs ++ [] ≡ xs
    nothing [] = refl
    nothing (x ∷ xs) = ap (λ ys. x ∷ ys) (nothing xs)
adds-offers key (p ∷ ps) t = adds-then t (offer key t p) (fold (offer key) (offer key t p) ps) (by (with_key key t.broker.sessions)) (adds-offers key ps (offer key t p))
  where
    nothing : (xs : List Send) → xs ++ [] ≡ xs
    nothing [] = refl
    nothing (x ∷ xs) = ap (λ ys. x ∷ ys) (nothing xs)

    by : (o : Option Session) → Adds t (offer_at o key p t)
    by None = ([], sym (nothing t.sends))
    by (Some s) = ((hand p s).sends, refl)

-- ---- the acts of a SUBSCRIBE

abbrev pub asks : (u j k : Bool) (conn id : ℕ) → List (List ℕ × ℕ) → List Act
asks u j k conn id entries = cond u (shut conn) (cond j (cond k (shut conn) (Give conn id entries ∷ Route ∷ [])) (shut conn))

abbrev pub Answer : Turn → (conn id : ℕ) → List ℕ → Type 0
Answer t conn id codes = (rest : List Send) × (t.sends ≡ (record { conn = conn; packet = SubAck id codes }) ∷ rest)

abbrev Fair : ℕ → List ℕ → Turn → Type 0
Fair conn f t = (list_any (λ (s : Session). sits conn s && has f s.grants) t.broker.sessions ≡ true) ⊎ (list_any (λ d. eqb d conn) t.closes ≡ true)

-- the session with its new grants, and SUBACK
abbrev pub gave : (t : Turn) (s : Session) (conn id : ℕ) → List (List ℕ × ℕ) → Turn
gave t s conn id entries = record t {
  broker = record t.broker {
    sessions = swap s.key ((record s { grants = fold (with_entry (other_grants s t.broker.sessions)) s.grants entries }) ∷ []) t.broker.sessions;
  };
  sends = t.sends ++ (record { conn = conn; packet = SubAck id (codes_of (other_grants s t.broker.sessions) s.grants entries) }) ∷ [];
}

abbrev pub app_messages_for : (t : Turn) (s : Session) → List (List ℕ × ℕ) → List AppMessage
app_messages_for t s entries = flat_map (offers_to t.broker.retained) (granted_of (other_grants s t.broker.sessions) s.grants entries)

code_list : Message → List ℕ
code_list (SubAck id codes) = codes
code_list _ = []

same-codes : (conn id : ℕ) (xs ys : List ℕ) (more rest : List Send)
    → (record { conn = conn; packet = SubAck id xs }) ∷ more ≡ (record { conn = conn; packet = SubAck id ys }) ∷ rest → xs ≡ ys
unfolding code_list
same-codes conn id xs ys more rest e = ap first e
  where
    first : List Send → List ℕ
    first [] = []
    first (s ∷ ss) = code_list s.packet

pub answers : (t : Turn) (s : Session) (conn id : ℕ) (entries : List (List ℕ × ℕ)) → t.sends ≡ []
    → Answer (route (fold (offer s.key) (gave t s conn id entries) (app_messages_for t s entries))) conn id (codes_of (other_grants s t.broker.sessions) s.grants entries)
unfolding Adds
answers t s conn id entries none =
    let (more, is) = adds-then (gave t s conn id entries) (fold (offer s.key) (gave t s conn id entries) (app_messages_for t s entries)) (route (fold (offer s.key) (gave t s conn id entries) (app_messages_for t s entries)))
    (adds-offers s.key (app_messages_for t s entries) (gave t s conn id entries)) (adds-route (fold (offer s.key) (gave t s conn id entries) (app_messages_for t s entries))) in
    (more, is ∙ ap (λ (ss : List Send). (ss ++ (record { conn = conn; packet = SubAck id (codes_of (other_grants s t.broker.sessions) s.grants entries) }) ∷ []) ++ more) none)

grants-now : (t : Turn) (s : Session) (conn id : ℕ) (entries : List (List ℕ × ℕ)) (f : List ℕ) → IsLawful t.broker → session_by conn t.broker.sessions ≡ Some s
    → has f (fold (with_entry (other_grants s t.broker.sessions)) s.grants entries) ≡ true
    → Fair conn f (route (fold (offer s.key) (gave t s conn id entries) (app_messages_for t s entries)))
grants-now t s conn id entries f l is h =
    fine-route conn (λ g. has f g) (fold (offer s.key) (gave t s conn id entries) (app_messages_for t s entries))
    (fine-offers conn (λ g. has f g) s.key (app_messages_for t s entries) (gave t s conn id entries) (lawful-found conn t s _ refl refl l is)
    (inl (any-new conn (λ g. has f g) (sits conn) s (record s { grants = fold (with_entry (other_grants s t.broker.sessions)) s.grants entries }) t.broker.sessions is
    (ap (λ b. b && has f (fold (with_entry (other_grants s t.broker.sessions)) s.grants entries)) (found-passes (sits conn) t.broker.sessions s is) ∙ h))))

granted-at : (t : Turn) (u j k : Bool) (conn id : ℕ) (entries : List (List ℕ × ℕ)) (codes f : List ℕ) → IsLawful t.broker → t.sends ≡ [] → j ≡ is_some (session_by conn t.broker.sessions)
    → Answer (acts (asks u j k conn id entries) t) conn id codes → Grants f entries codes → Fair conn f (acts (asks u j k conn id entries) t)
granted-at t true j k conn id entries codes f l none e a g = inr (told-shut conn (λ x. has f x) conn t (eqb-self conn))
granted-at t false false k conn id entries codes f l none e a g = inr (told-shut conn (λ x. has f x) conn t (eqb-self conn))
granted-at t false true true conn id entries codes f l none e a g = inr (told-shut conn (λ x. has f x) conn t (eqb-self conn))
granted-at t false true false conn id entries codes f l none e a g = by (session_by conn t.broker.sessions) refl e a
  where
    by : (o : Option Session) → session_by conn t.broker.sessions ≡ o → true ≡ is_some o → Answer (route (give_at o conn id entries t)) conn id codes → Fair conn f (route (give_at o conn id entries t))
    by None is so h = absurd (yes_no so)
    by (Some s) is so (rest, h) =
        let (more, first) = answers t s conn id entries none in
        let same : codes_of (other_grants s t.broker.sessions) s.grants entries ≡ codes = same-codes conn id _ codes more rest (sym first ∙ h) in
        grants-now t s conn id entries f l is (granted-has (other_grants s t.broker.sessions) f entries s.grants (subst (Grants f entries) (sym same) g))

answered-at : (t : Turn) (u j k : Bool) (conn id : ℕ) (entries : List (List ℕ × ℕ)) → t.sends ≡ [] → j ≡ is_some (session_by conn t.broker.sessions) → u ≡ false → j ≡ true → k ≡ false
    → (codes : List ℕ) × (length codes ≡ length entries) × Answer (acts (asks u j k conn id entries) t) conn id codes
answered-at t true j k conn id entries none e a d f = absurd (yes_no a)
answered-at t false false k conn id entries none e a d f = absurd (no_yes d)
answered-at t false true true conn id entries none e a d f = absurd (yes_no f)
answered-at t false true false conn id entries none e a d f = by (session_by conn t.broker.sessions) e
  where
    by : (o : Option Session) → true ≡ is_some o → (codes : List ℕ) × (length codes ≡ length entries) × Answer (route (give_at o conn id entries t)) conn id codes
    by None h = absurd (yes_no h)
    by (Some s) h = (codes_of (other_grants s t.broker.sessions) s.grants entries, codes-long (other_grants s t.broker.sessions) entries s.grants, answers t s conn id entries none)

-- ---- a whole SUBSCRIBE

pub granted : (b : Broker) (conn id moment : ℕ) (entries : List (List ℕ × ℕ)) (codes f : List ℕ) → IsLawful b → IsAnswered b (Packet conn (Subscribe id entries) moment) conn id codes → Grants f entries codes
    → (holds (step b (Packet conn (Subscribe id entries) moment)).broker conn f ≡ true) ⊎ (is_closed_in conn (step b (Packet conn (Subscribe id entries) moment)) ≡ true)
unfolding step
granted b conn id moment entries codes f l a g =
    granted-at (noted b (Packet conn (Subscribe id entries) moment)) (is_some (first_of (unwritable (Subscribe id entries))))
    (is_some (session_by conn (noted b (Packet conn (Subscribe id entries) moment)).broker.sessions)) (list_any (λ (e : List ℕ × ℕ). is_some (filter_refusal e.0)) entries || heavy_in conn entries (noted b (Packet conn (Subscribe id entries) moment)).broker)
    conn id entries codes f (lawful-acts (before (Packet conn (Subscribe id entries) moment)) (begun b) l) refl refl a g

pub answered : (b : Broker) (conn id moment : ℕ) (entries : List (List ℕ × ℕ)) → is_joined b conn ≡ true → is_some (first_of (unwritable (Subscribe id entries))) ≡ false
    → list_any (λ (e : List ℕ × ℕ). is_some (filter_refusal e.0)) entries ≡ false → heavy_in conn entries b ≡ false
    → (codes : List ℕ) × (length codes ≡ length entries) × IsAnswered b (Packet conn (Subscribe id entries) moment) conn id codes
unfolding step
answered b conn id moment entries j a d light =
    answered-at (noted b (Packet conn (Subscribe id entries) moment)) (is_some (first_of (unwritable (Subscribe id entries))))
    (is_some (session_by conn (noted b (Packet conn (Subscribe id entries) moment)).broker.sessions)) (list_any (λ (e : List ℕ × ℕ). is_some (filter_refusal e.0)) entries || heavy_in conn entries (noted b (Packet conn (Subscribe id entries) moment)).broker)
    conn id entries refl refl a (joined-heard conn (max b.clock moment) b.sessions ∙ j) (or_from _ _ d (heavy-heard b conn moment (Subscribe id entries) entries ∙ light))
