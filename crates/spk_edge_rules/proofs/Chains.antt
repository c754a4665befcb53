-- Messages in line: what each has to be behind the one before it, and what follows of their positions.
use Rattle.std.proofs.Common.{◌≡◌, ℕ, zero, suc, ◌+◌, ◌-◌, ◌<◌, ◌≤◌, ◌⊎◌, Bool, true, false, cond, List, [], ◌∷◌, ◌++◌, length, map, get_or, nat_lt, eqb, refl, sym, ◌∙◌, ap, subst, inl, inr, arith, ◌||◌, Option, Some, None}
use Rattle.std.specs.List.{last_or}
use Rattle.std.proofs.lemmas.Bool.{true≢false, lt-ltb, le-ltb, ne_eqb, cases_Bool, cases_lt}
use Rattle.std.proofs.Math.ListN.{get_or-append}
use Rattle.std.proofs.lemmas.List.{map-append, length-map}
use Rattle.std.proofs.lemmas.List.Sums.{sum_by-append}
use Rattle.spk_sequence.specs.NodeRecord as sequence
use Rattle.spk_topics.specs.declared.spark.Verb.TheVariants.{Data}
use Rattle.spk_edge_rules.specs.Messages.{Draft, opens}
use Rattle.spk_edge_rules.specs.Run.{Message, births_in, outline}

-- a message behind another: of the same birth, or the NBIRTH of the next
pub record IsSame (m n : Message) : Type 0 where
  pub no_birth : opens n.draft ≡ false
  pub birth : n.birth ≡ m.birth
  pub session : n.session ≡ m.session
  pub stamp : m.draft.stamp ≤ n.draft.stamp

pub record IsNewBirth (m n : Message) : Type 0 where
  pub is_birth : opens n.draft ≡ true
  pub birth : n.birth ≡ m.birth + 1
  pub session : m.session ≤ n.session
  pub stamp : m.draft.stamp < n.draft.stamp

abbrev pub IsNext : Message → Message → Type 0
IsNext m n = IsSame m n ⊎ IsNewBirth m n

abbrev pub ChainFrom : Message → List Message → Type 0
ChainFrom m [] = Unit {0}
ChainFrom m (n ∷ ns) = IsNext m n × ChainFrom n ns

pub record IsFirst (m : Message) : Type 0 where
  pub is_birth : opens m.draft ≡ true
  pub birth : m.birth ≡ 0

abbrev pub Chain : List Message → Type 0
Chain [] = Unit {0}
Chain (m ∷ ms) = IsFirst m × ChainFrom m ms

chain_more : (m : Message) (front : List Message) (last n : Message) → ChainFrom m (front ++ last ∷ []) → IsNext last n → ChainFrom m ((front ++ last ∷ []) ++ n ∷ [])
chain_more m [] last n chain next = (chain.0, (next, tt))
chain_more m (x ∷ front) last n chain next = (chain.0, chain_more x front last n chain.1 next)

-- a list of messages in line that ends with this one
pub record Ends (messages : List Message) (last : Message) : Type 0 where
  pub front : List Message
  pub is : messages ≡ front ++ last ∷ []
  pub chain : Chain messages
  pub births : births_in messages ≡ last.birth + 1

pub births-snoc : (messages : List Message) (n : Message) → births_in (messages ++ n ∷ []) ≡ births_in messages + cond (opens n.draft) 1 0
births-snoc messages n = sum_by-append (λ (m : Message). cond (opens m.draft) 1 0) messages (n ∷ []) ∙ omega arith

ends-counted : (b : Bool) (m n : Message) → opens n.draft ≡ b → IsNext m n → m.birth + 1 + cond b 1 0 ≡ n.birth + 1
ends-counted true m n is (inl same) = absurd (true≢false (sym is ∙ same.no_birth))
ends-counted true m n is (inr new) = let e = new.birth in omega arith
ends-counted false m n is (inl same) = let e = same.birth in omega arith
ends-counted false m n is (inr new) = absurd (true≢false (sym new.is_birth ∙ is))

chain-grown : (messages front : List Message) (last n : Message) → messages ≡ front ++ last ∷ [] → Chain messages → IsNext last n → Chain (messages ++ n ∷ [])
chain-grown messages front last n is chain next =
    subst (λ (ms : List Message). Chain (ms ++ n ∷ [])) (sym is) (go front (subst Chain is chain))
  where
    go : (front : List Message) → Chain (front ++ last ∷ []) → Chain ((front ++ last ∷ []) ++ n ∷ [])
    go [] c = (c.0, (next, tt))
    go (x ∷ front) c = (c.0, chain_more x front last n c.1 next)

pub ends-more : (messages : List Message) (m n : Message) → Ends messages m → IsNext m n → Ends (messages ++ n ∷ []) n
ends-more messages m n e next = record {
  front = messages;
  is = refl;
  chain = chain-grown messages e.front m n e.is e.chain next;
  births = births-snoc messages n ∙ ap (λ k. k + cond (opens n.draft) 1 0) e.births ∙ ends-counted (opens n.draft) m n refl next;
}

pub ends-first : (n : Message) → IsFirst n → Ends (n ∷ []) n
ends-first n first = record {
  front = [];
  is = refl;
  chain = (first, tt);
  births = births-snoc [] n ∙ ap (λ b. 0 + cond b 1 0) first.is_birth ∙ ap (λ k. k + 1) (sym first.birth);
}

last_or-snoc : {X : Type 0} (o : Option X) (xs : List X) (x : X) → last_or o (xs ++ x ∷ []) ≡ Some x
last_or-snoc o [] x = refl
last_or-snoc o (y ∷ xs) x = last_or-snoc (Some y) xs x

-- the stamp of the last one
pub last-stamp : (before : Option ℕ) (messages : List Message) (m : Message) → Ends messages m → last_or before (map (λ (m : Message). m.draft.stamp) messages) ≡ Some m.draft.stamp
last-stamp before messages m e =
    ap (λ (ms : List Message). last_or before (map (λ (m : Message). m.draft.stamp) ms)) e.is
    ∙ ap (last_or before) (map-append (λ (m : Message). m.draft.stamp) e.front (m ∷ []))
    ∙ last_or-snoc before (map (λ (m : Message). m.draft.stamp) e.front) m.draft.stamp

-- ---- by position

abbrev pub no_draft : Draft
no_draft = record { verb = Data; device = None; stamp = 0; metrics = [] }

abbrev pub at : List Message → ℕ → Message
at messages p = get_or messages p (record { birth = 0; session = 0; draft = no_draft })

next-from : (m : Message) (ms : List Message) (p : ℕ) → ChainFrom m ms → p + 1 < length (m ∷ ms) → IsNext (at (m ∷ ms) p) (at (m ∷ ms) (suc p))
next-from m [] p chain below = absurd (omega arith)
next-from m (n ∷ ns) zero chain below = chain.0
next-from m (n ∷ ns) (suc p) chain below = next-from n ns p chain.1 (omega arith)

pub next-at : (messages : List Message) (p : ℕ) → Chain messages → p + 1 < length messages → IsNext (at messages p) (at messages (suc p))
next-at [] p chain below = absurd (omega arith)
next-at (m ∷ ms) p chain below = next-from m ms p chain.1 below

pub first-at : (messages : List Message) → Chain messages → 0 < length messages → IsFirst (at messages 0)
first-at [] chain below = absurd (omega arith)
first-at (m ∷ ms) chain below = chain.0

-- the outline at a position
pub outline-at : (messages : List Message) (p : ℕ) → sequence.message_at (outline messages) p ≡ record { birth = (at messages p).birth; session = (at messages p).session; stamp = (at messages p).draft.stamp }
outline-at [] p = refl
outline-at (m ∷ ms) zero = refl
outline-at (m ∷ ms) (suc p) = outline-at ms p

opens-suc : (published : sequence.NodeRecord) (p : ℕ) → sequence.opens published (suc p) ≡ nat_lt (sequence.birth_at published p) (sequence.birth_at published (suc p))
opens-suc published p =
    let no : eqb (suc p) 0 ≡ false = ne_eqb (suc p) 0 (λ e. omega (arith, e)) in
    let before : suc p - 1 ≡ p = omega arith in
    ap (λ b. b || nat_lt (sequence.birth_at published (suc p - 1)) (sequence.birth_at published (suc p))) no
    ∙ ap (λ q. nat_lt (sequence.birth_at published q) (sequence.birth_at published (suc p))) before

-- a message opens a birth exactly where it is an NBIRTH
pub opens-at : (messages : List Message) (p : ℕ) → Chain messages → p < length messages → sequence.opens (outline messages) p ≡ opens (at messages p).draft
opens-at messages zero chain below = sym (first-at messages chain below).is_birth
opens-at messages (suc p) chain below =
    let next : IsNext (at messages p) (at messages (suc p)) = next-at messages p chain (omega arith) in
    opens-suc (outline messages) p
    ∙ ap (λ (m : sequence.Message). nat_lt (sequence.birth_at (outline messages) p) m.birth) (outline-at messages (suc p))
    ∙ ap (λ (m : sequence.Message). nat_lt m.birth (at messages (suc p)).birth) (outline-at messages p)
    ∙ (elim next [
      | inl same ↦ le-ltb (at messages p).birth (at messages (suc p)).birth (let e = same.birth in omega arith) ∙ sym same.no_birth
      | inr new ↦ lt-ltb (at messages p).birth (at messages (suc p)).birth (let e = new.birth in omega arith) ∙ sym new.is_birth
    ])

-- ---- a longer list

same-message : (messages more : List Message) (p : ℕ) → p < length messages → sequence.message_at (outline (messages ++ more)) p ≡ sequence.message_at (outline messages) p
same-message messages more p below =
    outline-at (messages ++ more) p
    ∙ ap (λ (m : Message). let o : sequence.Message = record { birth = m.birth; session = m.session; stamp = m.draft.stamp } in o) (get_or-append messages more (record { birth = 0; session = 0; draft = no_draft }) p below)
    ∙ sym (outline-at messages p)

same-opens : (messages more : List Message) (p : ℕ) → p < length messages → sequence.opens (outline (messages ++ more)) p ≡ sequence.opens (outline messages) p
same-opens messages more p below =
    ap (λ (m : sequence.Message). eqb p 0 || nat_lt (sequence.message_at (outline (messages ++ more)) (p - 1)).birth m.birth) (same-message messages more p below)
    ∙ ap (λ (m : sequence.Message). eqb p 0 || nat_lt m.birth (sequence.birth_at (outline messages) p)) (same-message messages more (p - 1) (omega arith))

pub same-start : (messages more : List Message) (p : ℕ) → p < length messages → sequence.start_of (outline (messages ++ more)) p ≡ sequence.start_of (outline messages) p
same-start messages more zero below = refl
same-start messages more (suc p) below =
    ap (λ b. cond b (suc p) (sequence.start_of (outline (messages ++ more)) p)) (same-opens messages more (suc p) below)
    ∙ ap (λ q. cond (sequence.opens (outline messages) (suc p)) (suc p) q) (same-start messages more p (omega arith))

pub start-below : (published : sequence.NodeRecord) (p : ℕ) → sequence.start_of published p ≤ p
start-below published zero = omega arith
start-below published (suc p) = elim (cases_Bool (sequence.opens published (suc p))) [
  | inl here ↦ subst (λ b. cond b (suc p) (sequence.start_of published p) ≤ suc p) (sym here) (omega arith)
  | inr closed ↦ subst (λ b. cond b (suc p) (sequence.start_of published p) ≤ suc p) (sym closed) (let l : sequence.start_of published p ≤ p = start-below published p in omega arith)
]

-- ---- a node record

-- what never falls from one message to the next never falls
never-falls : (f : ℕ → ℕ) (n : ℕ) → ((p : ℕ) → p + 1 < n → f p ≤ f (suc p)) → (p k : ℕ) → p + k < n → f p ≤ f (p + k)
never-falls f n step p zero below = let e : p + zero ≡ p = omega arith in subst (λ q. f p ≤ f q) (sym e) (omega arith)
never-falls f n step p (suc k) below =
    let before : f p ≤ f (p + k) = never-falls f n step p k (omega arith) in
    let last : f (p + k) ≤ f (suc (p + k)) = step (p + k) (omega arith) in
    let e : p + suc k ≡ suc (p + k) = omega arith in
    subst (λ q. f p ≤ f q) (sym e) (omega (arith, before, last))

from-to : (f : ℕ → ℕ) (n : ℕ) → ((p : ℕ) → p + 1 < n → f p ≤ f (suc p)) → (p q : ℕ) → p ≤ q → q < n → f p ≤ f q
from-to f n step p q low high =
    let e : p + (q - p) ≡ q = omega arith in
    subst (λ x. f p ≤ f x) e (never-falls f n step p (q - p) (omega (arith, e)))

births-rise : (messages : List Message) → Chain messages → (p : ℕ) → p + 1 < length messages → (at messages p).birth ≤ (at messages (suc p)).birth
births-rise messages chain p below = elim (next-at messages p chain below) [
  | inl same ↦ let e = same.birth in omega arith
  | inr new ↦ let e = new.birth in omega arith
]

sessions-rise : (messages : List Message) → Chain messages → (p : ℕ) → p + 1 < length messages → (at messages p).session ≤ (at messages (suc p)).session
sessions-rise messages chain p below = elim (next-at messages p chain below) [
  | inl same ↦ let e = same.session in omega arith
  | inr new ↦ new.session
]

stamps-rise : (messages : List Message) → Chain messages → (p : ℕ) → p + 1 < length messages → (at messages p).draft.stamp ≤ (at messages (suc p)).draft.stamp
stamps-rise messages chain p below = elim (next-at messages p chain below) [
  | inl same ↦ same.stamp
  | inr new ↦ let e = new.stamp in omega arith
]

-- messages of one birth are of one session
one-session : (messages : List Message) → Chain messages → (p k : ℕ) → p + k < length messages → (at messages p).birth ≡ (at messages (p + k)).birth → (at messages p).session ≡ (at messages (p + k)).session
one-session messages chain p zero below e = let z : p + zero ≡ p = omega arith in ap (λ q. (at messages q).session) (sym z)
one-session messages chain p (suc k) below e =
    let z : p + suc k ≡ suc (p + k) = omega arith in
    let same : (at messages p).birth ≡ (at messages (suc (p + k))).birth = e ∙ ap (λ q. (at messages q).birth) z in
    let before : (at messages p).birth ≤ (at messages (p + k)).birth = never-falls (λ q. (at messages q).birth) (length messages) (births-rise messages chain) p k (omega arith) in
    let last : IsNext (at messages (p + k)) (at messages (suc (p + k))) = next-at messages (p + k) chain (omega arith) in
    (elim last [
      | inl s ↦ one-session messages chain p k (omega arith) (same ∙ s.birth) ∙ sym s.session
      | inr new ↦ absurd (let n = new.birth in omega arith)
    ]) ∙ ap (λ q. (at messages q).session) (sym z)

one-session-of : (messages : List Message) → Chain messages → (p q : ℕ) → p < length messages → q < length messages → (at messages p).birth ≡ (at messages q).birth → (at messages p).session ≡ (at messages q).session
one-session-of messages chain p q low high e = elim (cases_lt q p) [
  | inl less ↦
      let z : q + (p - q) ≡ p = omega arith in
      sym (one-session messages chain q (p - q) (omega (arith, z)) (sym e ∙ ap (λ x. (at messages x).birth) (sym z)) ∙ ap (λ x. (at messages x).session) z)
  | inr more ↦
      let z : p + (q - p) ≡ q = omega arith in
      one-session messages chain p (q - p) (omega (arith, z)) (e ∙ ap (λ x. (at messages x).birth) (sym z)) ∙ ap (λ x. (at messages x).session) z
]

-- an NBIRTH is newer than all before it
newer-birth : (messages : List Message) → Chain messages → (p q : ℕ) → p < q → q < length messages → opens (at messages q).draft ≡ true → (at messages p).draft.stamp < (at messages q).draft.stamp
newer-birth messages chain p zero below high opening = absurd (omega arith)
newer-birth messages chain p (suc q) below high opening =
    let before : (at messages p).draft.stamp ≤ (at messages q).draft.stamp = from-to (λ x. (at messages x).draft.stamp) (length messages) (stamps-rise messages chain) p q (omega arith) (omega arith) in
    elim (next-at messages q chain (omega arith)) [
      | inl same ↦ absurd (true≢false (sym opening ∙ same.no_birth))
      | inr new ↦ let n = new.stamp in omega (arith, before, n)
    ]

outline-length : (messages : List Message) → length (outline messages) ≡ length messages
outline-length messages = length-map messages (λ (m : Message). let o : sequence.Message = record { birth = m.birth; session = m.session; stamp = m.draft.stamp } in o)

pub node-record : (messages : List Message) → Chain messages → sequence.IsNodeRecord (outline messages)
node-record messages chain =
    let size = outline-length messages in
    let birth : (p : ℕ) → sequence.birth_at (outline messages) p ≡ (at messages p).birth = λ p. ap (λ (m : sequence.Message). m.birth) (outline-at messages p) in
    let session : (p : ℕ) → sequence.session_at (outline messages) p ≡ (at messages p).session = λ p. ap (λ (m : sequence.Message). m.session) (outline-at messages p) in
    let stamp : (p : ℕ) → sequence.stamp_at (outline messages) p ≡ (at messages p).draft.stamp = λ p. ap (λ (m : sequence.Message). m.stamp) (outline-at messages p) in
    record {
      first_birth = λ some. birth 0 ∙ (first-at messages chain (omega (arith, size))).birth;
      births = λ p below.
          let z : p + 1 ≡ suc p = omega arith in
          subst (λ q. (sequence.birth_at (outline messages) q ≡ sequence.birth_at (outline messages) p) ⊎ (sequence.birth_at (outline messages) q ≡ sequence.birth_at (outline messages) p + 1)) (sym z)
          (elim (next-at messages p chain (omega (arith, size))) [
            | inl same ↦ inl (birth (suc p) ∙ same.birth ∙ sym (birth p))
            | inr new ↦ inr (birth (suc p) ∙ new.birth ∙ ap (λ n. n + 1) (sym (birth p)))
          ]);
      one_session = λ p q low high e. session p ∙ one-session-of messages chain p q (omega (arith, size)) (omega (arith, size)) (sym (birth p) ∙ e ∙ birth q) ∙ sym (session q);
      sessions = λ p q le high.
          let l = from-to (λ x. (at messages x).session) (length messages) (sessions-rise messages chain) p q le (omega (arith, size)) in
          let a = session p in let b = session q in omega (arith, l, a, b);
      stamps = λ p q le high.
          let l = from-to (λ x. (at messages x).draft.stamp) (length messages) (stamps-rise messages chain) p q le (omega (arith, size)) in
          let a = stamp p in let b = stamp q in omega (arith, l, a, b);
      newer = λ p q lt high opening.
          let o : opens (at messages q).draft ≡ true = sym (opens-at messages q chain (omega (arith, size))) ∙ opening in
          let l = newer-birth messages chain p q lt (omega (arith, size)) o in
          let a = stamp p in let b = stamp q in omega (arith, l, a, b);
    }
