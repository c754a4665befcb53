-- Where there is room for all of its filters, a SUBSCRIBE gets each.
use Rattle.std.proofs.Common.{◌≡◌, ◌≢◌, inl, inr, ℕ, zero, suc, ◌+◌, ◌≤◌, ◌<◌, min, max, nat_lt, Bool, true, false, ◌||◌, cond, List, [], ◌∷◌, ◌++◌, map, length, refl, ◌∙◌, subst, arith, Option, Some, None, is_some}
use Rattle.std.specs.List.{find, list_any, flat_map}
use Rattle.std.specs.Option.{option_map}
use Rattle.std.specs.Str.{bytes_eq}
use Rattle.std.proofs.lemmas.Bool.{lt-ltb, or_cases, or_from, or_right}
use Rattle.std.proofs.lemmas.List.{length-append, length-map}
use Rattle.std.proofs.lemmas.Slice.Eq.{bytes_eq-Decides}
use Rattle.spk_packets.specs.Fault.{first_of}
use Rattle.spk_packets.specs.Message.{Subscribe}
use Rattle.spk_packets.specs.Spelling.{unwritable}
use Rattle.spk_topics.specs.Text.{filter_refusal}
use Rattle.spk_broker_rules.specs.Data.{Connection, Session, Broker}
use Rattle.spk_broker_rules.specs.Listening.{is_joined}
use Rattle.spk_broker_rules.specs.Table.{Table, has, put, replaced}
use Rattle.spk_broker_rules.specs.Words.{codes_of, is_granted, with_entry}
use Rattle.spk_broker_rules.specs.Plan.{Packet}
use Rattle.spk_broker_rules.specs.Step.{Turn, acts, all_grants, give_at, heavy_in, connection_heard, noted, other_grants, route, session_by, sits, step}
use Rattle.spk_broker_rules.proofs.Publishing.{heavy-heard, joined-heard}
use Rattle.spk_broker_listening.specs.Granted.{Grants, IsAnswered, asks_for}
use Rattle.spk_broker_listening.proofs.Fine.{yes_no, no_yes}
use Rattle.spk_broker_listening.proofs.Given.{Answer, answers, asks}

-- ---- grants that are added

put-long : (key : List ℕ) (q : ℕ) (g : Table ℕ) → length (put key q g) ≤ length g + 1
put-long key q g = by (has key g)
  where
    same : length (map (replaced key q) g) ≡ length g
    same = length-map g (replaced key q)

    more : length (g ++ (key, q) ∷ []) ≡ length g + 1
    more = length-append g ((key, q) ∷ [])

    by : (b : Bool) → length (cond b (map (replaced key q) g) (g ++ (key, q) ∷ [])) ≤ length g + 1
    by true = omega (arith, same)
    by false = omega (arith, more)

entry-long : (others : ℕ) (g : Table ℕ) (x : List ℕ × ℕ) → length (with_entry others g x) ≤ length g + 1
entry-long others g x = by (is_granted others g x)
  where
    by : (b : Bool) → length (cond b (put x.0 (min 1 x.1) g) g) ≤ length g + 1
    by true = put-long x.0 (min 1 x.1) g
    by false = omega arith

small : (q : ℕ) → min 1 q ≢ 128
small zero e = omega (arith, e)
small (suc q) e = omega (arith, e)

given-all : (others : ℕ) (es : List (List ℕ × ℕ)) (g : Table ℕ) → others + length g + length es ≤ 10000 → (f : List ℕ) → asks_for f es ≡ true → Grants f es (codes_of others g es)
given-all others [] g room f e = absurd (no_yes e)
given-all others (x ∷ es) g room f e = elim (or_cases (bytes_eq x.0 f) (asks_for f es) e) [
  | inl same ↦ inl ((bytes_eq-Decides x.0 f).0 same, code (is_granted others g x) (or_right (has x.0 g) (nat_lt (others + length g) 10000) (lt-ltb (others + length g) 10000 below)))
  | inr rest ↦ inr (given-all others es (with_entry others g x) (let long = entry-long others g x in omega (arith, long, room, size)) f rest)
]
  where
    size : length (x ∷ es) ≡ length es + 1
    size = omega arith

    below : others + length g < 10000
    below = omega (arith, room, size)

    code : (b : Bool) → b ≡ true → cond b (min 1 x.1) 128 ≢ 128
    code true e = small x.1
    code false e = absurd (no_yes e)

-- ---- grants of all sessions

total-more : (s : Session) (ss : List Session) → all_grants (s ∷ ss) ≡ length s.grants + all_grants ss
total-more s ss = length-append s.grants (flat_map (λ (x : Session). x.grants) ss)

own-few : (p : Session → Bool) (ss : List Session) (s : Session) → find p ss ≡ Some s → length s.grants ≤ all_grants ss
own-few p [] s e = absurd (no e)
  where
    no : None ≡ Some s → ⊥
    no e = cc
own-few p (t ∷ ts) s e = by (p t) e (own-few p ts s)
  where
    sum : all_grants (t ∷ ts) ≡ length t.grants + all_grants ts
    sum = total-more t ts

    by : (b : Bool) → cond b (Some t) (find p ts) ≡ Some s → (find p ts ≡ Some s → length s.grants ≤ all_grants ts) → length s.grants ≤ all_grants (t ∷ ts)
    by true f rest = let same : t ≡ s = cc in subst (λ (x : Session). length x.grants ≤ all_grants (t ∷ ts)) same (omega (arith, sum))
    by false f rest = let low = rest f in omega (arith, sum, low)

heard-total : (f : Connection → Connection) (ss : List Session) → all_grants (map (λ (s : Session). record s { here = option_map f s.here }) ss) ≡ all_grants ss
heard-total f [] = refl
heard-total f (s ∷ ss) =
    let one : all_grants (s ∷ ss) ≡ length s.grants + all_grants ss = total-more s ss in
    let two : all_grants (map (λ (x : Session). record x { here = option_map f x.here }) (s ∷ ss)) ≡ length s.grants + all_grants (map (λ (x : Session). record x { here = option_map f x.here }) ss) =
    total-more (record s { here = option_map f s.here }) (map (λ (x : Session). record x { here = option_map f x.here }) ss) in
    let rest = heard-total f ss in
    omega (arith, one, two, rest)

-- ---- a SUBSCRIBE

room-at : (t : Turn) (u j k : Bool) (conn id : ℕ) (entries : List (List ℕ × ℕ)) → t.sends ≡ [] → j ≡ is_some (session_by conn t.broker.sessions) → u ≡ false → j ≡ true → k ≡ false
    → all_grants t.broker.sessions + length entries ≤ 10000
    → (codes : List ℕ) × Answer (acts (asks u j k conn id entries) t) conn id codes × ((f : List ℕ) → asks_for f entries ≡ true → Grants f entries codes)
room-at t true j k conn id entries none e a d f room = absurd (yes_no a)
room-at t false false k conn id entries none e a d f room = absurd (no_yes d)
room-at t false true true conn id entries none e a d f room = absurd (yes_no f)
room-at t false true false conn id entries none e a d f room = by (session_by conn t.broker.sessions) refl e
  where
    by : (o : Option Session) → session_by conn t.broker.sessions ≡ o → true ≡ is_some o
        → (codes : List ℕ) × Answer (route (give_at o conn id entries t)) conn id codes × ((f : List ℕ) → asks_for f entries ≡ true → Grants f entries codes)
    by None is h = absurd (yes_no h)
    by (Some s) is h =
        let own : length s.grants ≤ all_grants t.broker.sessions = own-few (sits conn) t.broker.sessions s is in
        let others : other_grants s t.broker.sessions + length s.grants ≡ all_grants t.broker.sessions = omega (arith, own) in (
          codes_of (other_grants s t.broker.sessions) s.grants entries,
          answers t s conn id entries none,
          given-all (other_grants s t.broker.sessions) entries s.grants (omega (arith, others, room)),
        )

pub roomy : (b : Broker) (conn id moment : ℕ) (entries : List (List ℕ × ℕ)) → is_joined b conn ≡ true → is_some (first_of (unwritable (Subscribe id entries))) ≡ false
    → list_any (λ (e : List ℕ × ℕ). is_some (filter_refusal e.0)) entries ≡ false → heavy_in conn entries b ≡ false → all_grants b.sessions + length entries ≤ 10000
    → (codes : List ℕ) × IsAnswered b (Packet conn (Subscribe id entries) moment) conn id codes × ((f : List ℕ) → asks_for f entries ≡ true → Grants f entries codes)
unfolding step
roomy b conn id moment entries j a d light room =
    room-at (noted b (Packet conn (Subscribe id entries) moment)) (is_some (first_of (unwritable (Subscribe id entries))))
    (is_some (session_by conn (noted b (Packet conn (Subscribe id entries) moment)).broker.sessions)) (list_any (λ (e : List ℕ × ℕ). is_some (filter_refusal e.0)) entries || heavy_in conn entries (noted b (Packet conn (Subscribe id entries) moment)).broker)
    conn id entries refl refl a (joined-heard conn (max b.clock moment) b.sessions ∙ j) (or_from _ _ d (heavy-heard b conn moment (Subscribe id entries) entries ∙ light))
    (let same = heard-total (connection_heard conn (max b.clock moment)) b.sessions in omega (arith, same, room))
