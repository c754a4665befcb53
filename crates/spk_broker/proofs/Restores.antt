-- A part that fits keeps the data lawful.
use Rattle.std.proofs.Common.{◌≡◌, ℕ, get_or, slice_get, slice_range, zero, suc, ◌+◌, ◌-◌, ◌*◌, ◌<◌, ◌≤◌, ◌&&◌, ◌||◌, Bool, true, false, not, cond, eqb, ltb, leb, List, [], ◌∷◌, ◌++◌, length, map, refl, sym, ap, ◌∙◌, subst, arith, is_none, take, Option, Some, None, Result, Ok, Err, IfOk}
use Rattle.std.specs.List.{filter, flat_map}
use Rattle.std.specs.Option.{option_map, option_map_or}
use Rattle.std.proofs.Math.Dec.{leb-suc-zero}
use Rattle.std.proofs.Math.Seq.{take-length}
use Rattle.std.proofs.lemmas.Bool.{leb-true}
use Rattle.std.proofs.lemmas.List.{length-append, length-map, map_push}
use Rattle.std.proofs.lemmas.Option.{slice_get-get_or, slice_get-map, slice_get_past}
use Rattle.indexmap.proofs.MapLemmas.{split_last}
use Rattle.spk_packets.specs.Fault.{first_of}
use Rattle.spk_packets.specs.Message.{Message}
use Rattle.spk_packets.specs.Spelling.{is_empty, unwritable}
use Rattle.spk_session.specs.Data.{Ids}
use Rattle.spk_session.specs.PacketIds.{IsNextFree, id_after, is_in, next_id}
use Rattle.spk_session.specs.Parts.{ids_after_rewind, ids_after_sent, ids_answer, ids_given}
use Rattle.spk_session.specs.declared.fault.SessionFault.{SessionFault}
use Rattle.spk_session.specs.declared.fault.SessionFault.TheVariants.{Unacked}
use Rattle.spk_broker_rules.specs.Data as plain
use Rattle.spk_broker_rules.specs.Lawful.{IsLawful, IsLow, Rises, places}
use Rattle.spk_broker_rules.specs.Step.{is_newcomer, knows, retained_with, sits}
use Rattle.spk_broker_rules.specs.Table.{Table, has, put, remove, replaced}
use Rattle.spk_broker_rules.specs.Words.{stored}
use Rattle.spk_broker_rules.proofs.Endings.{unknown-places}
use Rattle.spk_broker_rules.proofs.Lists.{all-append, eqb-is, flat_map-append}
use Rattle.spk_broker_rules.proofs.Places.{tally-append}
use Rattle.spk_broker.specs.Both.{Both}
use Rattle.spk_broker.specs.Calm.{AreCalm, IsCalmConnection}
use Rattle.spk_broker.specs.Entering.{whole}
use Rattle.spk_broker.specs.Restoring.{is_free, is_newcomer_fit, is_new, is_new_connection, is_new_topic, is_app_message, is_session_fit, last_key, sendable_as, words_of}
use Rattle.spk_broker.specs.Sendable.{is_sendable}
use Rattle.spk_broker.specs.Parts.{retained_view}
use Rattle.spk_broker.specs.View.{IsSound, state_now, state_was, newcomer_now, newcomer_was, session_now, session_was}
use Rattle.spk_broker.specs.declared.state.State.{State}
use Rattle.spk_broker.specs.declared.newcomer.Newcomer.{Newcomer}
use Rattle.spk_broker.proofs.Changes.{whole-at}
use Rattle.spk_broker.proofs.Opening.{newcomers-more}
use Rattle.spk_broker.proofs.Retaining.{Entries, table_of}

abbrev as_ids : List ℕ → ℕ → Ids
as_ids used last = record { used = used; last = last }

abbrev pub with_session : plain.Broker → plain.Session → plain.Broker
with_session b s = record b { sessions = b.sessions ++ s ∷ [] }

abbrev pub with_newcomer : plain.Broker → plain.Newcomer → plain.Broker
with_newcomer b g = record b { newcomers = b.newcomers ++ g ∷ [] }

abbrev pub newcomers_on : plain.Broker → List plain.Newcomer → plain.Broker
newcomers_on b gs = record b { newcomers = gs }

abbrev pub sessions_on : plain.Broker → List plain.Session → plain.Broker
sessions_on b ss = record b { sessions = ss }

-- ---- what a test says

pub both : (a b : Bool) → a && b ≡ true → (a ≡ true) × (b ≡ true)
both true true e = (refl, refl)
both true false e = absurd (let z : ⊥ = cc in z)
both false b e = absurd (let z : ⊥ = cc in z)

pub not-so : (a : Bool) → not a ≡ true → a ≡ false
not-so true e = absurd (let z : ⊥ = cc in z)
not-so false e = refl

ltb-true : (a b : ℕ) → ltb a b ≡ true → a < b
ltb-true a b e = leb-true (suc a) b e

-- ---- keys

rises-behind : (low top : ℕ) (ss : List plain.Session) (x : plain.Session) → last_key low ss < x.key → x.key ≤ top → Rises low top ss → Rises low top (ss ++ x ∷ [])
rises-behind low top [] x above below h = (above, below)
rises-behind low top (s ∷ ss) x above below h = (h.0, rises-behind s.key top ss x above below h.1)

-- ---- connections

unknown : (b : plain.Broker) (conn : ℕ) → is_new b conn ≡ true → knows b conn ≡ false
unknown b conn fits = not-so (knows b conn) (both (leb conn b.given) (not (knows b conn)) fits).1

low-new : (b : plain.Broker) (conn : ℕ) → is_new b conn ≡ true → conn ≤ b.given
low-new b conn fits = leb-true conn b.given (both (leb conn b.given) (not (knows b conn)) fits).0

low-connection : (b : plain.Broker) (o : Option plain.Connection) → is_new_connection b o ≡ true → IsLow b.given o
low-connection b None fits = tt
low-connection b (Some l) fits = low-new b l.conn fits

connection-unknown : (b : plain.Broker) (c : ℕ) (o : Option plain.Connection) → is_new_connection b o ≡ true → option_map_or (λ (l : plain.Connection). eqb l.conn c) o false ≡ true → knows b c ≡ false
connection-unknown b c None fits e = absurd (let z : ⊥ = cc in z)
connection-unknown b c (Some l) fits e = subst (λ k. knows b k ≡ false) (eqb-is l.conn c e) (unknown b l.conn fits)

apart-session : (b : plain.Broker) (s : plain.Session) → IsLawful b → is_new_connection b s.here ≡ true → (c : ℕ) → places c (with_session b s) ≤ 1
apart-session b s lawful fits c = by (sits c s) refl
  where
    by : (x : Bool) → sits c s ≡ x → places c (with_session b s) ≤ 1
    by false e =
        let n : length (filter (sits c) (s ∷ [])) ≡ 0 = ap (λ x. length (cond x (s ∷ []) [])) e in
        let p = tally-append (sits c) b.sessions (s ∷ []) in let a = lawful.apart c in omega arith
    by true e =
        let n : length (filter (sits c) (s ∷ [])) ≡ 1 = ap (λ x. length (cond x (s ∷ []) [])) e in
        let p = tally-append (sits c) b.sessions (s ∷ []) in let z = unknown-places b c (connection-unknown b c s.here fits e) in omega arith

apart-newcomer : (b : plain.Broker) (g : plain.Newcomer) → IsLawful b → is_new b g.conn ≡ true → (c : ℕ) → places c (with_newcomer b g) ≤ 1
apart-newcomer b g lawful fits c = by (is_newcomer c g) refl
  where
    by : (x : Bool) → is_newcomer c g ≡ x → places c (with_newcomer b g) ≤ 1
    by false e =
        let n : length (filter (is_newcomer c) (g ∷ [])) ≡ 0 = ap (λ x. length (cond x (g ∷ []) [])) e in
        let p = tally-append (is_newcomer c) b.newcomers (g ∷ []) in let a = lawful.apart c in omega arith
    by true e =
        let n : length (filter (is_newcomer c) (g ∷ [])) ≡ 1 = ap (λ x. length (cond x (g ∷ []) [])) e in
        let p = tally-append (is_newcomer c) b.newcomers (g ∷ []) in
        let z = unknown-places b c (subst (λ k. knows b k ≡ false) (eqb-is g.conn c e) (unknown b g.conn fits)) in omega arith

-- ---- the data

pub lawful-session : (b : plain.Broker) (s : plain.Session) → IsLawful b → is_session_fit b s ≡ true → IsLawful (with_session b s)
lawful-session b s lawful fits =
    let parts = both (ltb (last_key 0 b.sessions) s.key) (leb s.key b.made && is_new_connection b s.here) fits in
    let others = both (leb s.key b.made) (is_new_connection b s.here) parts.1 in
    record {
      newcomers = lawful.newcomers;
      connections = all-append (λ (x : plain.Session). IsLow b.given x.here) b.sessions (s ∷ []) lawful.connections (low-connection b s.here others.1, tt);
      keys = rises-behind 0 b.made b.sessions s (ltb-true (last_key 0 b.sessions) s.key parts.0) (leb-true s.key b.made others.0) lawful.keys;
      apart = apart-session b s lawful others.1;
      made = lawful.made;
    }

pub lawful-newcomer : (b : plain.Broker) (g : plain.Newcomer) → IsLawful b → is_newcomer_fit b g.conn ≡ true → IsLawful (with_newcomer b g)
lawful-newcomer b g lawful fits =
    let parts = both (is_new b g.conn) (ltb (b.made + length b.newcomers) b.given) fits in
    record {
      newcomers = all-append (λ (x : plain.Newcomer). x.conn ≤ b.given) b.newcomers (g ∷ []) lawful.newcomers (low-new b g.conn parts.0, tt);
      connections = lawful.connections;
      keys = lawful.keys;
      apart = apart-newcomer b g lawful parts.0;
      made = let few = ltb-true (b.made + length b.newcomers) b.given parts.1 in let one = length-append b.newcomers (g ∷ []) in omega arith;
    }

pub lawful-retained : (b : plain.Broker) (table : Table plain.Stored) → IsLawful b → IsLawful (record b { retained = table })
lawful-retained b table lawful =
    record { newcomers = lawful.newcomers; connections = lawful.connections; keys = lawful.keys; apart = lawful.apart; made = lawful.made }

-- ---- time

-- nobody is silent at the moment 0
calm-connection : (o : Option plain.Connection) → IsCalmConnection 0 o
calm-connection None = tt
calm-connection (Some l) = by (eqb l.alive 0)
  where
    by : (x : Bool) → not x && ltb (l.alive * 1500) (0 - l.heard) ≡ false
    by true = refl
    by false = ap (ltb (l.alive * 1500)) (let none : 0 - l.heard ≡ 0 = omega arith in none) ∙ leb-suc-zero (l.alive * 1500)

pub calm-zero : (ss : List plain.Session) → AreCalm 0 ss
calm-zero [] = tt
calm-zero (s ∷ ss) = (calm-connection s.here, calm-zero ss)

-- ---- sessions by now and of before

pub sessions-more : (bs more : List Both) (x : Both) → more ≡ bs ++ x ∷ [] → flat_map session_now bs ≡ map session_was bs → x ≡ whole x.was → flat_map session_now more ≡ map session_was more
sessions-more bs more x is e f =
    ap (flat_map session_now) is ∙ flat_map-append session_now bs (x ∷ [])
    ∙ ap (λ xs. flat_map session_now bs ++ (xs ++ [])) (ap session_now f)
    ∙ ap (λ xs. xs ++ session_was x ∷ []) e
    ∙ sym (map_push session_was bs x) ∙ ap (map session_was) (sym is)

-- ---- retained messages

pub retain-new : (table : Table plain.Stored) (p : plain.AppMessage) → p.retain ≡ true → is_empty p.payload ≡ false → has p.topic table ≡ false → ltb (length table) 10000 ≡ true
    → retained_with table p ≡ table ++ (p.topic, stored p) ∷ []
retain-new table p keep full new few =
    ap (λ x. cond x (cond (is_empty p.payload) (remove p.topic table) (cond (has p.topic table || ltb (length table) 10000) (put p.topic (stored p) table) table)) table) keep
    ∙ ap (λ x. cond x (remove p.topic table) (cond (has p.topic table || ltb (length table) 10000) (put p.topic (stored p) table) table)) full
    ∙ ap (λ x. cond (x || ltb (length table) 10000) (put p.topic (stored p) table) table) new
    ∙ ap (λ x. cond x (put p.topic (stored p) table) table) few
    ∙ ap (λ x. cond x (map (replaced p.topic (stored p)) table) (table ++ (p.topic, stored p) ∷ [])) new

-- ---- messages

pub app_message-fits : (m : plain.AppMessage) (p : Message) (r : Bool) → p ≡ sendable_as m → r ≡ is_none (first_of (unwritable p)) → is_app_message m ≡ r
unfolding is_sendable
app_message-fits m p r e f = sym (f ∙ ap (λ x. is_none (first_of (unwritable x))) e)

first_word : Option (List ℕ × List ℕ) → List ℕ
first_word None = []
first_word (Some x) = x.0

second_word : Option (List ℕ × List ℕ) → List ℕ
second_word None = []
second_word (Some x) = x.1

pub words-fit : (m : plain.AppMessage) (p : Message) (t q : List ℕ) → p ≡ sendable_as m → Some (t, q) ≡ words_of p → (t ≡ m.topic) × (q ≡ m.payload)
unfolding first_word second_word
words-fit m p t q e f =
    let is : Some (t, q) ≡ Some (m.topic, m.payload) = f ∙ ap words_of e in (ap first_word is, ap second_word is)

-- ---- identifiers

self-id : (id : ℕ) → eqb id 0 ≡ false → id < 65536 → id_after (id - 1) 0 ≡ id
self-id zero e small = absurd (let z : ⊥ = cc in z)
self-id (suc n) e small = omega (arith, small)

is-next : (used : List ℕ) (id given : ℕ) → eqb id 0 ≡ false → id < 65536 → is_in used id ≡ false → IsNextFree used (id - 1) given → given ≡ id
is-next used id given pos small free next = by next.first.0 next.first.1 next.first.2
  where
    by : (steps : ℕ) → given ≡ id_after (id - 1) steps → ((k : ℕ) → k < steps → is_in used (id_after (id - 1) k) ≡ true) → given ≡ id
    by zero e all = e ∙ self-id id pos small
    by (suc s) e all =
        let taken : true ≡ false = sym (all 0 (omega arith)) ∙ ap (is_in used) (self-id id pos small) ∙ free in absurd (let z : ⊥ = cc in z)

ok-of : (o : Result ℕ SessionFault) (n : ℕ) (P : ℕ → Type 0) → o ≡ Ok n → IfOk o P → P n
ok-of (Ok m) n P e h = let same : m ≡ n = cc in subst P same h
ok-of (Err x) n P e h = absurd (let z : ⊥ = cc in z)

pub taken : (i r s : Ids) (count id : ℕ) (o : Result ℕ SessionFault) → count ≡ length i.used → r ≡ ids_after_rewind i count (id - 1) → s ≡ ids_after_sent r → o ≡ ids_answer r
    → IfOk o (IsNextFree r.used r.last) → is_free id i.used ≡ true → id < 65536 → s ≡ record { used = i.used ++ id ∷ []; last = id }
taken i r s count id o len is after answer next fits small =
    let parts = both (not (eqb id 0)) (not (is_in i.used id) && ltb (length i.used) 1024) fits in
    let others = both (not (is_in i.used id)) (ltb (length i.used) 1024) parts.1 in
    let w : Ids = record { used = i.used; last = id - 1 } in
    let same : r ≡ w = is ∙ ap (λ u. as_ids u (id - 1)) (ap (λ n. take n i.used) len ∙ take-length i.used) in
    let told : o ≡ Ok (next_id i.used (id - 1)) = answer ∙ ap ids_answer same ∙ ap (λ b. cond b (Ok (next_id i.used (id - 1))) (Err Unacked)) others.1 in
    let given : next_id i.used (id - 1) ≡ id =
    is-next i.used id (next_id i.used (id - 1)) (not-so (eqb id 0) parts.0) small (not-so (is_in i.used id) others.0)
    (ok-of o (next_id i.used (id - 1)) (IsNextFree i.used (id - 1)) told (subst (λ x. IfOk o (IsNextFree x.used x.last)) same next)) in
    after ∙ ap ids_after_sent same ∙ ap (λ b. cond b (ids_given w (next_id i.used (id - 1))) w) others.1 ∙ ap (λ n. as_ids (i.used ++ n ∷ []) n) given

-- ---- topics

pub topic-new : (b : plain.Broker) (topic : List ℕ) (es : Entries) (n : ℕ) → table_of es ≡ b.retained → n ≡ length es → has topic (table_of es) ≡ false → ltb n 10000 ≡ is_new_topic b topic
topic-new b topic es n is size free =
    ap (λ k. ltb k 10000) (size ∙ sym (length-map es retained_view)) ∙ ap (λ x. not x && ltb (length (table_of es)) 10000) (sym free)
    ∙ ap (λ t. not (has topic t) && ltb (length t) 10000) is

pub topic-there : (b : plain.Broker) (topic : List ℕ) (es : Entries) → table_of es ≡ b.retained → has topic (table_of es) ≡ true → false ≡ is_new_topic b topic
topic-there b topic es is held =
    ap (λ x. not x && ltb (length (table_of es)) 10000) (sym held) ∙ ap (λ t. not (has topic t) && ltb (length t) 10000) is

-- ---- the last session, and one at a place

last-behind : (low : ℕ) (ss : List plain.Session) (x : plain.Session) → last_key low (ss ++ x ∷ []) ≡ x.key
last-behind low [] x = refl
last-behind low (s ∷ ss) x = last-behind s.key ss x

pub last-is : (bs xs : List Both) (x : Both) → xs ≡ bs → Some x ≡ slice_get xs (length xs - 1) → x.was.key ≡ last_key 0 (map session_was bs)
last-is bs [] x is e = absurd (let z : ⊥ = cc in z)
last-is bs (y ∷ ys) x is e =
    let split : y ∷ ys ≡ slice_range (y ∷ ys) 0 (length (y ∷ ys) - 1) ++ x ∷ [] = split_last (y ∷ ys) x (sym e) (omega arith) in
    let front = slice_range (y ∷ ys) 0 (length (y ∷ ys) - 1) in
    sym (ap (λ l. last_key 0 (map session_was l)) (sym is ∙ split) ∙ ap (last_key 0) (map_push session_was front x) ∙ last-behind 0 (map session_was front) x.was)

pub session-there : (bs xs : List Both) (i : ℕ) (x : Both) → xs ≡ bs → flat_map session_now bs ≡ map session_was bs → i < length xs → x ≡ get_or xs i x
    → (x ≡ whole x.was) × (Some x.was ≡ slice_get (map session_was bs) i)
session-there bs xs i x is settled low at =
    let within : i < length bs = subst (λ ys. i < length ys) is low in
    let here : x ≡ get_or bs i x = at ∙ ap (λ ys. get_or ys i x) is in (
      here ∙ whole-at bs i x settled within ∙ ap (λ b. whole b.was) (sym here),
      sym (slice_get-map session_was bs i ∙ ap (option_map session_was) (slice_get-get_or bs i x within ∙ ap Some (sym here))),
    )

pub session-past : (bs xs : List Both) (i : ℕ) → xs ≡ bs → length xs ≤ i → None ≡ slice_get (map session_was bs) i
session-past bs xs i is high =
    sym (slice_get-map session_was bs i ∙ ap (option_map session_was) (slice_get_past bs i (subst (λ ys. length ys ≤ i) is high)))

-- ---- a state with one more

pub newcomer-sound : (d : State) (more : List Newcomer) (g : Newcomer) → IsSound d → more ≡ d.newcomers.items ++ g ∷ [] → newcomer_now g ≡ newcomer_was g ∷ [] → is_newcomer_fit (state_was d) g.conn ≡ true
    → (newcomers_on (state_now d) (flat_map newcomer_now more) ≡ newcomers_on (state_was d) (map newcomer_was more)) × IsLawful (newcomers_on (state_was d) (map newcomer_was more))
newcomer-sound d more g sound is same fits = (
  ap (λ b. newcomers_on b (flat_map newcomer_now more)) sound.settled ∙ ap (newcomers_on (state_was d)) (newcomers-more d.newcomers.items more g is (ap (λ (b : plain.Broker). b.newcomers) sound.settled) same),
  subst (λ gs. IsLawful (newcomers_on (state_was d) gs)) (sym (ap (map newcomer_was) is ∙ map_push newcomer_was d.newcomers.items g)) (lawful-newcomer (state_was d) (newcomer_was g) sound.lawful fits),
)

pub session-sound : (d : State) (more : List Both) (s : plain.Session) → IsSound d → more ≡ d.sessions.items ++ whole s ∷ [] → is_session_fit (state_was d) s ≡ true
    → (sessions_on (state_now d) (flat_map session_now more) ≡ sessions_on (state_was d) (map session_was more)) × IsLawful (sessions_on (state_was d) (map session_was more))
session-sound d more s sound is fits = (
  ap (λ b. sessions_on b (flat_map session_now more)) sound.settled ∙ ap (sessions_on (state_was d)) (sessions-more d.sessions.items more (whole s) is (ap (λ (b : plain.Broker). b.sessions) sound.settled) refl),
  subst (λ ss. IsLawful (sessions_on (state_was d) ss)) (sym (ap (map session_was) is ∙ map_push session_was d.sessions.items (whole s))) (lawful-session (state_was d) s sound.lawful fits),
)

-- the message that can be written is the one that was given
pub kept-as : (p m : plain.AppMessage) (b : Bool) → Some p ≡ cond b (Some m) None → p ≡ m
kept-as p m true e = let same : p ≡ m = cc in same
kept-as p m false e = absurd (let z : ⊥ = cc in z)
