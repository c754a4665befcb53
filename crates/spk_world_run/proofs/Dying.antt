-- A will that could be written with its CONNECT can be written as it is published.
use Rattle.std.proofs.Common.{◌≡◌, ◌⊎◌, inl, inr, ◌∙◌, ap, sym, refl, subst, ℕ, zero, suc, ◌+◌, ◌/◌, ◌%◌, ◌≤◌, length, arith, Bool, true, false, ◌&&◌, ◌||◌, cond, List, [], ◌∷◌, ◌++◌, nat_lt, Some, None, Result, Ok, Err}
use Rattle.std.specs.Prelude.{is_none, slice_get}
use Rattle.std.specs.List.{list_all}
use Rattle.std.proofs.lemmas.Bool.{true≢false, le-ltb, ltb-false}
use Rattle.std.proofs.lemmas.List.{length-append}
use Rattle.spk_packets.specs.Fault.{first_of}
use Rattle.spk_packets.specs.Grammar.{has_zero, largest}
use Rattle.spk_packets.specs.Message.{WillData, Connect, Publish}
use Rattle.spk_packets.specs.Spelling.{has_bad_text, has_bad_body, is_qos_two, spelling, body, shortest, is_bad_text, counted}
use Rattle.spk_packets.specs.declared.fault.PacketFault.TheVariants.{BadText, BadBody, TooLarge, QosTwo}
use Rattle.spk_payload.specs.Spelling as payload
use Rattle.spk_edge_rules.specs.declared.fault.EdgeFault.{EdgeFault}
use Rattle.spk_edge_rules.specs.declared.fault.EdgeFault.TheVariants as fault
use Rattle.spk_edge_rules.specs.Answers.{Answer, checked}
use Rattle.spk_edge_rules.specs.Writable.{is_writable}
use Rattle.spk_edge_rules.specs.Config.{Setup}
use Rattle.spk_edge_rules.specs.Inputs.{Act, Open, Accepted, Change, Changes, Turn, Command, State, Drain, Stop, Cut, TurnedAway, Pass, Input}
use Rattle.spk_edge_rules.specs.Packets.{client_of, connect_of, death_payload, death_topic, will_of}
use Rattle.spk_edge_rules.specs.Rules.{Given, on_ok, rules}
use Rattle.spk_edge_rules.specs.Run.{asked_of, next_number, opened, packets_of, right_at, run_of, session_number}
use Rattle.spk_edge_rules.specs.Step.{is_open}
use Rattle.spk_world_run.specs.Step.{death_of}

parts : (a b c d : Bool) → is_none (first_of ((a, BadText) ∷ (b, BadBody) ∷ (c, QosTwo) ∷ (d, TooLarge) ∷ [])) ≡ true → (a ≡ false) × (b ≡ false)
parts true b c d e = absurd (true≢false (sym e))
parts false true c d e = absurd (true≢false (sym e))
parts false false c d e = (refl, refl)

whole : (a d : Bool) → a ≡ false → d ≡ false → is_none (first_of ((a, BadText) ∷ (false, BadBody) ∷ (false, QosTwo) ∷ (d, TooLarge) ∷ [])) ≡ true
whole false false e f = refl
whole true d e f = absurd (true≢false e)
whole false true e f = absurd (true≢false f)

or-first : (a b : Bool) → (a || b) ≡ false → a ≡ false
or-first true b e = absurd (true≢false e)
or-first false b e = refl

or-second : (a b : Bool) → (a || b) ≡ false → b ≡ false
or-second true b e = absurd (true≢false e)
or-second false b e = e

short : (n : ℕ) → length (shortest n) ≤ 4
unfolding shortest
short n = by (nat_lt n 128) (nat_lt n 16384) (nat_lt n 2097152)
  where
    by : (a b c : Bool) → length (cond a (n ∷ []) (cond b ((n % 128 + 128) ∷ n / 128 ∷ []) (cond c ((n % 128 + 128) ∷ (n / 128 % 128 + 128) ∷ n / 16384 ∷ [])
        ((n % 128 + 128) ∷ (n / 128 % 128 + 128) ∷ (n / 16384 % 128 + 128) ∷ n / 2097152 ∷ [])))) ≤ 4
    by true b c = omega arith
    by false true c = omega arith
    by false false true = omega arith
    by false false false = omega arith

-- a topic and a message of two bytes' length make a packet that isn't too large
small : (topic message : List ℕ) → length topic ≤ 65535 → length message ≤ 65535 → length (spelling (Publish false 0 false topic None message)) ≤ largest
unfolding spelling body
small topic message first second =
    let inner = counted topic ++ message in
    let front : length (counted topic) ≡ suc (suc (length topic)) = refl in
    let size : length inner ≡ length (counted topic) + length message = length-append (counted topic) message in
    let head = short (length inner) in
    let joined : length (shortest (length inner) ++ inner) ≡ length (shortest (length inner)) + length inner = length-append (shortest (length inner)) inner in
    omega (arith, first, second, front, size, head, joined)

pub published-will : (client : List ℕ) (clean : Bool) (keep : ℕ) (will : WillData) → is_writable (Connect client clean keep (Some will)) ≡ true
    → is_writable (Publish false 0 false will.topic None will.message) ≡ true
unfolding has_bad_text has_bad_body is_qos_two
published-will client clean keep will e =
    let here = parts (is_bad_text client || is_bad_text will.topic) (nat_lt 65535 (length will.message) || nat_lt 2 will.qos) _ _ e in
    let topic : is_bad_text will.topic ≡ false = or-second (is_bad_text client) (is_bad_text will.topic) here.0 in
    let first : length will.topic ≤ 65535 = ltb-false 65535 (length will.topic) (or-first (nat_lt 65535 (length will.topic)) (has_zero will.topic) topic) in
    let second : length will.message ≤ 65535 = ltb-false 65535 (length will.message) (or-first (nat_lt 65535 (length will.message)) (nat_lt 2 will.qos) here.1) in
    whole (is_bad_text will.topic) (nat_lt largest (length (spelling (Publish false 0 false will.topic None will.message)))) topic
    (le-ltb largest (length (spelling (Publish false 0 false will.topic None will.message))) (small will.topic will.message first second))

-- ---- the NDEATH of each session of a node

abbrev pub Connects : Type 0
Connects = (s : Setup) (is : List Input) (i : Input) (answer : Answer) → i.act ≡ Open → i.ack ≡ None → right_at s (run_of s is) i ≡ Ok answer
    → answer.packets ≡ connect_of s.config (session_number s (opened (run_of s is))) i.now ∷ []

abbrev answer-ok : Answer → Result Answer EdgeFault
answer-ok a = Ok a

-- what is answered can be written
pub all-writable : (s : Setup) (is : List Input) (i : Input) (answer : Answer) → right_at s (run_of s is) i ≡ Ok answer → list_all is_writable answer.packets ≡ true
all-writable s is i answer = by (rules s.config (next_number s (run_of s is)) (asked_of s (run_of s is)) i)
  where
    writable : (g : Given) (b : Bool) → list_all is_writable (packets_of s (run_of s is) g) ≡ b
        → cond b (answer-ok (record { given = g; packets = packets_of s (run_of s is) g })) (Err fault.TooLarge) ≡ Ok answer → list_all is_writable answer.packets ≡ true
    writable g true b e =
        let mine : Answer = record { given = g; packets = packets_of s (run_of s is) g } in
        let same : mine ≡ answer = cc in
        subst (λ (a : Answer). list_all is_writable a.packets ≡ true) same b
    writable g false b e = absurd (let x : ⊥ = cc in x)

    by : (r : Result Given EdgeFault) → on_ok r (λ g. checked g (packets_of s (run_of s is) g)) ≡ Ok answer → list_all is_writable answer.packets ≡ true
    by (Ok g) e = writable g (list_all is_writable (packets_of s (run_of s is) g)) refl e
    by (Err f) e = absurd (let x : ⊥ = cc in x)

is-open : (a : Act) → is_open a ≡ true → a ≡ Open
is-open Open e = refl
is-open Accepted e = absurd (true≢false (sym e))
is-open (Change alias value) e = absurd (true≢false (sym e))
is-open (Changes changes) e = absurd (true≢false (sym e))
is-open (Turn name up) e = absurd (true≢false (sym e))
is-open (Command topic payload) e = absurd (true≢false (sym e))
is-open (State payload) e = absurd (true≢false (sym e))
is-open Drain e = absurd (true≢false (sym e))
is-open Stop e = absurd (true≢false (sym e))
is-open Cut e = absurd (true≢false (sym e))
is-open TurnedAway e = absurd (true≢false (sym e))
is-open Pass e = absurd (true≢false (sym e))

-- the NDEATH of the session that an Open opens
opened-dying : Connects → (s : Setup) (is : List Input) (i : Input) (answer : Answer) → s.bd ≡ 0 → is_open i.act ≡ true → i.ack ≡ None → right_at s (run_of s is) i ≡ Ok answer
    → is_writable (death_of s.config (opened (run_of s is)) i.now) ≡ true
opened-dying connects s is i answer first opens plain ok =
    let x = opened (run_of s is) in
    let packets = connects s is i answer (is-open i.act opens) plain ok in
    let can : list_all is_writable (connect_of s.config (session_number s x) i.now ∷ []) ≡ true =
    ap (list_all is_writable) (sym packets) ∙ all-writable s is i answer ok in
    let connect : is_writable (connect_of s.config (session_number s x) i.now) ≡ true = one (is_writable (connect_of s.config (session_number s x) i.now)) can in
    let number : session_number s x ≡ x % 256 = ap (λ n. n % 256) (ap (λ n. n + x) first ∙ (let z : 0 + x ≡ x = omega arith in z)) in
    subst (λ n. is_writable (Publish false 0 false (death_topic s.config) None (payload.spelling (death_payload n i.now))) ≡ true) number
    (published-will (client_of s.config) true s.config.keep (will_of s.config (session_number s x) i.now) connect)
  where
    one : (b : Bool) → (b && true) ≡ true → b ≡ true
    one true e = refl
    one false e = absurd (true≢false (sym e))

-- what stands in a list with one more behind it
in-one-more : (xs : List ℕ) (y k x : ℕ) → slice_get (xs ++ (y ∷ [])) k ≡ Some x → (slice_get xs k ≡ Some x) ⊎ ((k ≡ length xs) × (x ≡ y))
in-one-more [] y zero x e = inr (refl, (let s : x ≡ y = cc in s))
in-one-more [] y (suc k) x e = absurd (let z : ⊥ = cc in z)
in-one-more (z ∷ xs) y zero x e = inl e
in-one-more (z ∷ xs) y (suc k) x e = elim (in-one-more xs y k x e) [
  | inl old ↦ inl old
  | inr new ↦ inr (ap suc new.0, new.1)
]

pub dying-after : Connects → (s : Setup) (is : List Input) (i : Input) (answer : Answer) (at : List ℕ) → s.bd ≡ 0 → i.ack ≡ None → right_at s (run_of s is) i ≡ Ok answer
    → length at ≡ opened (run_of s is)
    → ((session time : ℕ) → slice_get at session ≡ Some time → is_writable (death_of s.config session time) ≡ true)
    → (session time : ℕ) → slice_get (cond (is_open i.act) (at ++ (i.now ∷ [])) at) session ≡ Some time → is_writable (death_of s.config session time) ≡ true
dying-after connects s is i answer at first plain ok size before session time = by (is_open i.act) refl
  where
    by : (b : Bool) → is_open i.act ≡ b → slice_get (cond b (at ++ (i.now ∷ [])) at) session ≡ Some time → is_writable (death_of s.config session time) ≡ true
    by false e there = before session time there
    by true e there = elim (in-one-more at i.now session time there) [
      | inl old ↦ before session time old
      | inr new ↦
          subst (λ t. is_writable (death_of s.config session t) ≡ true) (sym new.1)
          (subst (λ x. is_writable (death_of s.config x i.now) ≡ true) (sym (new.0 ∙ size)) (opened-dying connects s is i answer first e plain ok))
    ]
