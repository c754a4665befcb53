-- What a content says, and that it says nothing else.
use Rattle.std.proofs.Common.{◌≡◌, ℕ, ◌<◌, ◌≤◌, ◌^◌, List, [], ◌∷◌, ◌++◌, length, refl, sym, ap, ◌∙◌, subst, append_assoc, append-nil, length-append, arith, Bool, true, false, cond, eqb, true≢false, get_or, drop, take, Some, None, Result, Ok, Err, ◌≢◌}
use Rattle.std.proofs.lemmas.Bool.{eqb-true}
use Rattle.std.proofs.lemmas.List.{take_all}
use Rattle.std.proofs.lemmas.Option.{same_Some}
use Rattle.spk_frames.specs.Numbers.{eight}
use Rattle.spk_frames.specs.Reading.{eight_at}
use Rattle.spk_frames.proofs.Lengths.{length-eight}
use Rattle.spk_frames.proofs.Numbers.{IsBytes, eight_again, eight_takes}
use Rattle.spk_packets.specs.declared.fault.PacketFault.{PacketFault}
use Rattle.spk_packets.specs.declared.fault.PacketFault.TheVariants as fault
use Rattle.spk_packets.specs.Fault.{Fails, number_of}
use Rattle.spk_packets.specs.Grammar.{Spells}
use Rattle.spk_packets.specs.Message.{Message}
use Rattle.spk_session.specs.declared.answer.Sort.{Sort}
use Rattle.spk_session.specs.declared.answer.Sort.TheVariants as sort
use Rattle.spk_broker_rules.specs.Plan as plan
use Rattle.spk_broker_events.specs.Record.{HasWords, Says, SaysNothing, Spelled, content, front, sort_code}

abbrev pub code_of : plan.Event → ℕ
code_of (plan.Open moment) = 1
code_of (plan.Packet conn p moment) = 2
code_of (plan.Fault conn why moment) = 3
code_of (plan.Closed conn moment) = 4
code_of (plan.Tick moment) = 5
code_of (plan.Refused conn which moment) = sort_code which

-- what stands behind the code
abbrev Behind : plan.Event → List ℕ → Type 0
Behind (plan.Open moment) rest = rest ≡ eight moment
Behind (plan.Packet conn p moment) rest = (text : List ℕ) × Spells text p × (rest ≡ eight conn ++ (eight moment ++ text))
Behind (plan.Fault conn why moment) rest = rest ≡ eight conn ++ (eight moment ++ number_of why ∷ [])
Behind (plan.Closed conn moment) rest = rest ≡ eight conn ++ (eight moment ++ [])
Behind (plan.Tick moment) rest = rest ≡ eight moment
Behind (plan.Refused conn which moment) rest = rest ≡ eight conn ++ (eight moment ++ [])

pub record Parts (bytes : List ℕ) (e : plan.Event) : Type 0 where
  pub rest : List ℕ
  pub is : bytes ≡ code_of e ∷ rest
  behind : Behind e rest

nil-behind : (conn moment : ℕ) → eight conn ++ eight moment ≡ eight conn ++ (eight moment ++ [])
nil-behind conn moment = ap (λ t. eight conn ++ t) (sym (append-nil (eight moment)))

pub parts : (bytes : List ℕ) (e : plan.Event) → Says bytes e → Parts bytes e
unfolding Spelled content front
parts bytes (plan.Open moment) s = record { rest = eight moment; is = s.spelled; behind = refl }
parts bytes (plan.Packet conn p moment) s = record {
  rest = (eight conn ++ eight moment) ++ s.spelled.0;
  is = s.spelled.2;
  behind = (s.spelled.0, s.spelled.1, append_assoc (eight conn) (eight moment) s.spelled.0);
}
parts bytes (plan.Fault conn why moment) s = record {
  rest = (eight conn ++ eight moment) ++ number_of why ∷ [];
  is = s.spelled;
  behind = append_assoc (eight conn) (eight moment) (number_of why ∷ []);
}
parts bytes (plan.Closed conn moment) s = record { rest = eight conn ++ eight moment; is = s.spelled; behind = nil-behind conn moment }
parts bytes (plan.Tick moment) s = record { rest = eight moment; is = s.spelled; behind = refl }
parts bytes (plan.Refused conn which moment) s = record { rest = eight conn ++ eight moment; is = s.spelled; behind = nil-behind conn moment }

pub says : (bytes rest : List ℕ) (e : plan.Event) → HasWords e → bytes ≡ code_of e ∷ rest → Behind e rest → Says bytes e
unfolding Spelled content front
says bytes rest (plan.Open moment) words e b = record { words = words; spelled = e ∙ ap (λ t. 1 ∷ t) b }
says bytes rest (plan.Packet conn p moment) words e b = record {
  words = words;
  spelled = (b.0, b.1, e ∙ ap (λ t. 2 ∷ t) (b.2 ∙ sym (append_assoc (eight conn) (eight moment) b.0)));
}
says bytes rest (plan.Fault conn why moment) words e b = record { words = words; spelled = e ∙ ap (λ t. 3 ∷ t) (b ∙ sym (append_assoc (eight conn) (eight moment) (number_of why ∷ []))) }
says bytes rest (plan.Closed conn moment) words e b = record { words = words; spelled = e ∙ ap (λ t. 4 ∷ t) (b ∙ sym (nil-behind conn moment)) }
says bytes rest (plan.Tick moment) words e b = record { words = words; spelled = e ∙ ap (λ t. 5 ∷ t) b }
says bytes rest (plan.Refused conn which moment) words e b = record { words = words; spelled = e ∙ ap (λ t. sort_code which ∷ t) (b ∙ sym (nil-behind conn moment)) }

-- ---- heads and numbers

head-is : (a b : ℕ) (xs ys : List ℕ) → a ∷ xs ≡ b ∷ ys → a ≡ b
head-is a b xs ys e = cc

tail-is : (a b : ℕ) (xs ys : List ℕ) → a ∷ xs ≡ b ∷ ys → xs ≡ ys
tail-is a b xs ys e = cc

pub eight-same : (n m : ℕ) (x y : List ℕ) → n < 2 ^ 64 → m < 2 ^ 64 → eight n ++ x ≡ eight m ++ y → (n ≡ m) × (x ≡ y)
eight-same n m x y small other e =
    let both : (n, x) ≡ (m, y) = same_Some (n, x) (m, y) (sym (eight_again n x small) ∙ ap eight_at e ∙ eight_again m y other) in
    (ap (λ (p : ℕ × List ℕ). p.0) both, ap (λ (p : ℕ × List ℕ). p.1) both)

-- an event of another code isn't said
other : (k : ℕ) (bytes : List ℕ) (e : plan.Event) → (code_of e ≡ k → ⊥) → Says (k ∷ bytes) e → ⊥
other k bytes e apart s = let p = parts (k ∷ bytes) e s in apart (sym (head-is k (code_of e) bytes p.rest p.is))

behind-of : (k : ℕ) (bytes : List ℕ) (e : plan.Event) → Says (k ∷ bytes) e → Behind e bytes
behind-of k bytes e s = let p = parts (k ∷ bytes) e s in subst (Behind e) (sym (tail-is k (code_of e) bytes p.rest p.is)) p.behind

-- the codes of sends
not-sort : (k : ℕ) (which : Sort) → (k ≡ 6 → ⊥) → (k ≡ 7 → ⊥) → sort_code which ≡ k → ⊥
not-sort k sort.QosZero a b e = a (sym e)
not-sort k sort.Other a b e = b (sym e)

-- ---- nothing is said

abbrev NoMoment : List ℕ → Type 0
NoMoment bytes = (m : ℕ) → m < 2 ^ 64 → bytes ≡ eight m → ⊥

abbrev NoFront : List ℕ → Type 0
NoFront bytes = (conn moment : ℕ) (rest : List ℕ) → conn < 2 ^ 64 → moment < 2 ^ 64 → bytes ≡ eight conn ++ (eight moment ++ rest) → ⊥

pub nothing-open : (bytes : List ℕ) → NoMoment bytes → SaysNothing (1 ∷ bytes)
unfolding HasWords
nothing-open bytes none (plan.Open moment) s = none moment s.words (behind-of 1 bytes (plan.Open moment) s)
nothing-open bytes none (plan.Packet conn p moment) s = other 1 bytes (plan.Packet conn p moment) (λ e. omega arith) s
nothing-open bytes none (plan.Fault conn why moment) s = other 1 bytes (plan.Fault conn why moment) (λ e. omega arith) s
nothing-open bytes none (plan.Closed conn moment) s = other 1 bytes (plan.Closed conn moment) (λ e. omega arith) s
nothing-open bytes none (plan.Tick moment) s = other 1 bytes (plan.Tick moment) (λ e. omega arith) s
nothing-open bytes none (plan.Refused conn which moment) s = other 1 bytes (plan.Refused conn which moment) (not-sort 1 which (λ e. omega arith) (λ e. omega arith)) s

pub nothing-tick : (bytes : List ℕ) → NoMoment bytes → SaysNothing (5 ∷ bytes)
unfolding HasWords
nothing-tick bytes none (plan.Open moment) s = other 5 bytes (plan.Open moment) (λ e. omega arith) s
nothing-tick bytes none (plan.Packet conn p moment) s = other 5 bytes (plan.Packet conn p moment) (λ e. omega arith) s
nothing-tick bytes none (plan.Fault conn why moment) s = other 5 bytes (plan.Fault conn why moment) (λ e. omega arith) s
nothing-tick bytes none (plan.Closed conn moment) s = other 5 bytes (plan.Closed conn moment) (λ e. omega arith) s
nothing-tick bytes none (plan.Tick moment) s = none moment s.words (behind-of 5 bytes (plan.Tick moment) s)
nothing-tick bytes none (plan.Refused conn which moment) s = other 5 bytes (plan.Refused conn which moment) (not-sort 5 which (λ e. omega arith) (λ e. omega arith)) s

-- what is asked of the front of a content of each other code, where nothing is said
pub nothing-packet : (bytes : List ℕ) → ((conn moment : ℕ) (p : Message) (text : List ℕ) → conn < 2 ^ 64 → moment < 2 ^ 64 → Spells text p → bytes ≡ eight conn ++ (eight moment ++ text) → ⊥) → SaysNothing (2 ∷ bytes)
unfolding HasWords
nothing-packet bytes none (plan.Open moment) s = other 2 bytes (plan.Open moment) (λ e. omega arith) s
nothing-packet bytes none (plan.Packet conn p moment) s =
    let b = behind-of 2 bytes (plan.Packet conn p moment) s in none conn moment p b.0 s.words.0 s.words.1 b.1 b.2
nothing-packet bytes none (plan.Fault conn why moment) s = other 2 bytes (plan.Fault conn why moment) (λ e. omega arith) s
nothing-packet bytes none (plan.Closed conn moment) s = other 2 bytes (plan.Closed conn moment) (λ e. omega arith) s
nothing-packet bytes none (plan.Tick moment) s = other 2 bytes (plan.Tick moment) (λ e. omega arith) s
nothing-packet bytes none (plan.Refused conn which moment) s = other 2 bytes (plan.Refused conn which moment) (not-sort 2 which (λ e. omega arith) (λ e. omega arith)) s

pub nothing-fault : (bytes : List ℕ) → ((conn moment : ℕ) (why : PacketFault) → conn < 2 ^ 64 → moment < 2 ^ 64 → bytes ≡ eight conn ++ (eight moment ++ number_of why ∷ []) → ⊥) → SaysNothing (3 ∷ bytes)
unfolding HasWords
nothing-fault bytes none (plan.Open moment) s = other 3 bytes (plan.Open moment) (λ e. omega arith) s
nothing-fault bytes none (plan.Packet conn p moment) s = other 3 bytes (plan.Packet conn p moment) (λ e. omega arith) s
nothing-fault bytes none (plan.Fault conn why moment) s = none conn moment why s.words.0 s.words.1 (behind-of 3 bytes (plan.Fault conn why moment) s)
nothing-fault bytes none (plan.Closed conn moment) s = other 3 bytes (plan.Closed conn moment) (λ e. omega arith) s
nothing-fault bytes none (plan.Tick moment) s = other 3 bytes (plan.Tick moment) (λ e. omega arith) s
nothing-fault bytes none (plan.Refused conn which moment) s = other 3 bytes (plan.Refused conn which moment) (not-sort 3 which (λ e. omega arith) (λ e. omega arith)) s

abbrev NoPair : List ℕ → Type 0
NoPair bytes = (conn moment : ℕ) → conn < 2 ^ 64 → moment < 2 ^ 64 → bytes ≡ eight conn ++ (eight moment ++ []) → ⊥

pub nothing-closed : (bytes : List ℕ) → NoPair bytes → SaysNothing (4 ∷ bytes)
unfolding HasWords
nothing-closed bytes none (plan.Open moment) s = other 4 bytes (plan.Open moment) (λ e. omega arith) s
nothing-closed bytes none (plan.Packet conn p moment) s = other 4 bytes (plan.Packet conn p moment) (λ e. omega arith) s
nothing-closed bytes none (plan.Fault conn why moment) s = other 4 bytes (plan.Fault conn why moment) (λ e. omega arith) s
nothing-closed bytes none (plan.Closed conn moment) s = none conn moment s.words.0 s.words.1 (behind-of 4 bytes (plan.Closed conn moment) s)
nothing-closed bytes none (plan.Tick moment) s = other 4 bytes (plan.Tick moment) (λ e. omega arith) s
nothing-closed bytes none (plan.Refused conn which moment) s = other 4 bytes (plan.Refused conn which moment) (not-sort 4 which (λ e. omega arith) (λ e. omega arith)) s

-- a code of a send is no other one's
is-sort : (which : Sort) (k : ℕ) → k ≤ 5 → k ≡ sort_code which → ⊥
is-sort sort.QosZero k low e = absurd (omega arith)
is-sort sort.Other k low e = absurd (omega arith)

pub nothing-refused : (which : Sort) (bytes : List ℕ) → NoPair bytes → SaysNothing (sort_code which ∷ bytes)
unfolding HasWords
nothing-refused which bytes none (plan.Open moment) s = other (sort_code which) bytes (plan.Open moment) (is-sort which 1 (omega arith)) s
nothing-refused which bytes none (plan.Packet conn p moment) s = other (sort_code which) bytes (plan.Packet conn p moment) (is-sort which 2 (omega arith)) s
nothing-refused which bytes none (plan.Fault conn why moment) s = other (sort_code which) bytes (plan.Fault conn why moment) (is-sort which 3 (omega arith)) s
nothing-refused which bytes none (plan.Closed conn moment) s = other (sort_code which) bytes (plan.Closed conn moment) (is-sort which 4 (omega arith)) s
nothing-refused which bytes none (plan.Tick moment) s = other (sort_code which) bytes (plan.Tick moment) (is-sort which 5 (omega arith)) s
nothing-refused which bytes none (plan.Refused conn kind moment) s = none conn moment s.words.0 s.words.1 (behind-of (sort_code which) bytes (plan.Refused conn kind moment) s)

pub nothing-else : (k : ℕ) (bytes : List ℕ) → (k ≡ 1 → ⊥) → (k ≡ 2 → ⊥) → (k ≡ 3 → ⊥) → (k ≡ 4 → ⊥) → (k ≡ 5 → ⊥) → (k ≡ 6 → ⊥) → (k ≡ 7 → ⊥) → SaysNothing (k ∷ bytes)
nothing-else k bytes a b c d e f g (plan.Open moment) s = other k bytes (plan.Open moment) (λ h. a (sym h)) s
nothing-else k bytes a b c d e f g (plan.Packet conn p moment) s = other k bytes (plan.Packet conn p moment) (λ h. b (sym h)) s
nothing-else k bytes a b c d e f g (plan.Fault conn why moment) s = other k bytes (plan.Fault conn why moment) (λ h. c (sym h)) s
nothing-else k bytes a b c d e f g (plan.Closed conn moment) s = other k bytes (plan.Closed conn moment) (λ h. d (sym h)) s
nothing-else k bytes a b c d e f g (plan.Tick moment) s = other k bytes (plan.Tick moment) (λ h. e (sym h)) s
nothing-else k bytes a b c d e f g (plan.Refused conn which moment) s = other k bytes (plan.Refused conn which moment) (not-sort k which f g) s

pub nothing-empty : (bytes : List ℕ) → bytes ≡ [] → SaysNothing bytes
nothing-empty bytes none e s = let p = parts bytes e s in absurd (let a : length bytes ≡ length (code_of e ∷ p.rest) = ap length p.is in let b : length bytes ≡ 0 = ap length none in omega arith)

-- ---- where a front was read

pub front-same : (c d m n : ℕ) (x y : List ℕ) → c < 2 ^ 64 → d < 2 ^ 64 → m < 2 ^ 64 → n < 2 ^ 64 → eight c ++ (eight m ++ x) ≡ eight d ++ (eight n ++ y) → (c ≡ d) × (m ≡ n) × (x ≡ y)
front-same c d m n x y a b k l e =
    let first = eight-same c d (eight m ++ x) (eight n ++ y) a b e in
    let then = eight-same m n x y k l first.1 in
    (first.0, then.0, then.1)

-- ---- what was read of numbers

none-some : {X : Type 0} {x : X} → None ≡ Some x → ⊥
none-some e = cc

pub none-eight : (bytes : List ℕ) → eight_at bytes ≡ None → (n : ℕ) (rest : List ℕ) → n < 2 ^ 64 → bytes ≡ eight n ++ rest → ⊥
none-eight bytes e n rest small is = none-some (sym e ∙ ap eight_at is ∙ eight_again n rest small)

pub none-moment : (bytes : List ℕ) → eight_at bytes ≡ None → NoMoment bytes
none-moment bytes e m small is = none-eight bytes e m [] small (is ∙ sym (append-nil (eight m)))

pub took-eight : (bytes : List ℕ) (n : ℕ) (rest : List ℕ) → IsBytes bytes → eight_at bytes ≡ Some (n, rest) → bytes ≡ eight n ++ rest
took-eight bytes n rest fits e = (eight_takes bytes n rest fits e).are

pub rest-fits : (bytes : List ℕ) (n : ℕ) (rest : List ℕ) → IsBytes bytes → eight_at bytes ≡ Some (n, rest) → IsBytes rest
rest-fits bytes n rest fits e = (eight_takes bytes n rest fits e).fits

pub took-small : (bytes : List ℕ) (n : ℕ) (rest : List ℕ) → IsBytes bytes → eight_at bytes ≡ Some (n, rest) → n < 2 ^ 64
took-small bytes n rest fits e = (eight_takes bytes n rest fits e).small

-- ---- what is empty

pub nil-of : (xs : List ℕ) (b : Bool) → b ≡ eqb (length xs) 0 → b ≡ true → xs ≡ []
nil-of [] b e f = refl
nil-of (x ∷ xs) b e f = let a : length (x ∷ xs) ≡ 0 = eqb-true (length (x ∷ xs)) 0 (sym e ∙ f) in absurd (omega arith)

pub not-nil : (xs : List ℕ) (b : Bool) → b ≡ eqb (length xs) 0 → b ≡ false → xs ≡ [] → ⊥
not-nil [] b e f is = true≢false (sym e ∙ f)
not-nil (x ∷ xs) b e f is = let a : length (x ∷ xs) ≡ 0 = ap length is in absurd (omega arith)

-- ---- a moment alone

pub moment-read : (bytes : List ℕ) (n : ℕ) (rest : List ℕ) → IsBytes bytes → eight_at bytes ≡ Some (n, rest) → rest ≡ [] → (n < 2 ^ 64) × (bytes ≡ eight n)
moment-read bytes n rest fits e none = (took-small bytes n rest fits e, took-eight bytes n rest fits e ∙ ap (λ t. eight n ++ t) none ∙ append-nil (eight n))

pub moment-not : (bytes : List ℕ) (n : ℕ) (rest : List ℕ) → IsBytes bytes → eight_at bytes ≡ Some (n, rest) → (rest ≡ [] → ⊥) → NoMoment bytes
moment-not bytes n rest fits e some m small is =
    some (eight-same n m rest [] (took-small bytes n rest fits e) small (sym (took-eight bytes n rest fits e) ∙ is ∙ sym (append-nil (eight m)))).1

-- ---- a front

pub front-read : (bytes behind : List ℕ) (n m : ℕ) (rest : List ℕ) → IsBytes bytes → eight_at bytes ≡ Some (n, behind) → eight_at behind ≡ Some (m, rest)
    → (n < 2 ^ 64) × (m < 2 ^ 64) × (bytes ≡ eight n ++ (eight m ++ rest))
front-read bytes behind n m rest fits e f =
    let more : IsBytes behind = rest-fits bytes n behind fits e in
    (took-small bytes n behind fits e, took-small behind m rest more f, took-eight bytes n behind fits e ∙ ap (λ t. eight n ++ t) (took-eight behind m rest more f))

pub front-none : (bytes : List ℕ) → eight_at bytes ≡ None → NoFront bytes
front-none bytes e conn moment rest a b is = none-eight bytes e conn (eight moment ++ rest) a is

pub front-half : (bytes behind : List ℕ) (n : ℕ) → IsBytes bytes → eight_at bytes ≡ Some (n, behind) → eight_at behind ≡ None → NoFront bytes
front-half bytes behind n fits e f conn moment rest a b is =
    none-eight behind f moment rest b (eight-same n conn behind (eight moment ++ rest) (took-small bytes n behind fits e) a (sym (took-eight bytes n behind fits e) ∙ is)).1

-- ---- what is read behind a front

pub pair-none : (bytes : List ℕ) → NoFront bytes → NoPair bytes
pair-none bytes none conn moment a b is = none conn moment [] a b is

module _ (bytes : List ℕ) (c m : ℕ) (rest : List ℕ) (front : (c < 2 ^ 64) × (m < 2 ^ 64) × (bytes ≡ eight c ++ (eight m ++ rest))) where
  same-rest : (d n : ℕ) (more : List ℕ) → d < 2 ^ 64 → n < 2 ^ 64 → bytes ≡ eight d ++ (eight n ++ more) → rest ≡ more
  same-rest d n more a b is = (front-same c d m n rest more front.0 a front.1 b (sym front.2 ∙ is)).2

  pub pair-more : (rest ≡ [] → ⊥) → NoPair bytes
  pair-more some d n a b is = some (same-rest d n [] a b is)

  pub closed-said : rest ≡ [] → Says (4 ∷ bytes) (plan.Closed c m)
  unfolding HasWords
  closed-said none = says (4 ∷ bytes) bytes (plan.Closed c m) (front.0, front.1) refl (front.2 ∙ ap (λ t. eight c ++ (eight m ++ t)) none)

  pub refused-said : (which : Sort) → rest ≡ [] → Says (sort_code which ∷ bytes) (plan.Refused c which m)
  unfolding HasWords
  refused-said which none = says (sort_code which ∷ bytes) bytes (plan.Refused c which m) (front.0, front.1) refl (front.2 ∙ ap (λ t. eight c ++ (eight m ++ t)) none)

  pub fault-said : (why : PacketFault) → rest ≡ number_of why ∷ [] → Says (3 ∷ bytes) (plan.Fault c why m)
  unfolding HasWords
  fault-said why is = says (3 ∷ bytes) bytes (plan.Fault c why m) (front.0, front.1) refl (front.2 ∙ ap (λ t. eight c ++ (eight m ++ t)) is)

  pub fault-not : ((why : PacketFault) → rest ≡ number_of why ∷ [] → ⊥) → SaysNothing (3 ∷ bytes)
  fault-not none = nothing-fault bytes (λ d n why a b is. none why (same-rest d n (number_of why ∷ []) a b is))

  pub packet-said : (p : Message) → Spells rest p → Says (2 ∷ bytes) (plan.Packet c p m)
  unfolding HasWords
  packet-said p s = says (2 ∷ bytes) bytes (plan.Packet c p m) (front.0, front.1) refl (rest, s, front.2)

  pub packet-not : ((p : Message) → Spells rest p → ⊥) → SaysNothing (2 ∷ bytes)
  packet-not none = nothing-packet bytes (λ d n p text a b s is. none p (subst (λ t. Spells t p) (sym (same-rest d n text a b is)) s))

pub open-said : (bytes : List ℕ) (m : ℕ) → (m < 2 ^ 64) × (bytes ≡ eight m) → Says (1 ∷ bytes) (plan.Open m)
unfolding HasWords
open-said bytes m s = says (1 ∷ bytes) bytes (plan.Open m) s.0 refl s.1

pub tick-said : (bytes : List ℕ) (m : ℕ) → (m < 2 ^ 64) × (bytes ≡ eight m) → Says (5 ∷ bytes) (plan.Tick m)
unfolding HasWords
tick-said bytes m s = says (5 ∷ bytes) bytes (plan.Tick m) s.0 refl s.1

-- ---- one event alone

abbrev PrefixFree : Type 0
PrefixFree = (a b x y : List ℕ) (p q : Message) → Spells a p → Spells b q → a ++ x ≡ b ++ y → (a ≡ b) × (p ≡ q)

pub nil-few : (xs : List ℕ) → length xs < 1 → xs ≡ []
nil-few [] few = refl
nil-few (x ∷ xs) few = absurd (omega arith)

pub one-there : (xs : List ℕ) → length xs ≡ 1 → xs ≡ get_or xs 0 0 ∷ []
one-there [] e = absurd (omega arith)
one-there (x ∷ []) e = refl
one-there (x ∷ y ∷ xs) e = absurd (omega arith)

pub first-there : (xs : List ℕ) → 1 ≤ length xs → xs ≡ get_or xs 0 0 ∷ drop 1 xs
first-there [] e = absurd (omega arith)
first-there (x ∷ xs) e = refl

-- ---- how long a content is

small-behind : (e : plan.Event) (rest : List ℕ) → Behind e rest → length rest ≤ 1048592
small-behind (plan.Open m) rest b = omega (arith, ap length b, length-eight m)
small-behind (plan.Packet c p m) rest b =
    omega (arith, ap length b.2, length-append (eight c) (eight m ++ b.0), length-append (eight m) b.0, length-eight c, length-eight m, b.1.small)
small-behind (plan.Fault c why m) rest b =
    omega (arith, ap length b, length-append (eight c) (eight m ++ number_of why ∷ []), length-append (eight m) (number_of why ∷ []), length-eight c, length-eight m)
small-behind (plan.Closed c m) rest b = omega (arith, ap length b, length-append (eight c) (eight m ++ []), length-append (eight m) [], length-eight c, length-eight m)
small-behind (plan.Tick m) rest b = omega (arith, ap length b, length-eight m)
small-behind (plan.Refused c which m) rest b = omega (arith, ap length b, length-append (eight c) (eight m ++ []), length-append (eight m) [], length-eight c, length-eight m)

pub small-said : (bytes : List ℕ) (e : plan.Event) → Says bytes e → length bytes ≤ 1048593
small-said bytes e s = let p = parts bytes e s in let long : length bytes ≡ length (code_of e ∷ p.rest) = ap length p.is in let few = small-behind e p.rest p.behind in omega arith

-- ---- two readings of one content

moments-same : (rest : List ℕ) (m n : ℕ) → m < 2 ^ 64 → n < 2 ^ 64 → rest ≡ eight m → rest ≡ eight n → m ≡ n
moments-same rest m n a b e f = (eight-same m n [] [] a b (append-nil (eight m) ∙ sym e ∙ f ∙ sym (append-nil (eight n)))).0

abbrev fault-from : ℕ → PacketFault
fault-from n = cond (eqb n 10) fault.More (cond (eqb n 11) fault.BadLength (cond (eqb n 12) fault.BadFlags (cond (eqb n 13) fault.BadType (cond (eqb n 14) fault.BadText
    (cond (eqb n 15) fault.BadBody (cond (eqb n 16) fault.TooLarge (cond (eqb n 17) fault.QosTwo (cond (eqb n 18) fault.BadLevel fault.NoMemory))))))))

fault-again : (f : PacketFault) → fault-from (number_of f) ≡ f
fault-again fault.NoMemory = refl
fault-again fault.More = refl
fault-again fault.BadLength = refl
fault-again fault.BadFlags = refl
fault-again fault.BadType = refl
fault-again fault.BadText = refl
fault-again fault.BadBody = refl
fault-again fault.TooLarge = refl
fault-again fault.QosTwo = refl
fault-again fault.BadLevel = refl

faults-same : (f g : PacketFault) → number_of f ∷ [] ≡ number_of g ∷ [] → f ≡ g
faults-same f g e = sym (fault-again f) ∙ ap fault-from (head-is (number_of f) (number_of g) [] [] e) ∙ fault-again g

abbrev sort-from : ℕ → Sort
sort-from n = cond (eqb n 6) sort.QosZero sort.Other

sort-again : (s : Sort) → sort-from (sort_code s) ≡ s
sort-again sort.QosZero = refl
sort-again sort.Other = refl

sorts-same : (s t : Sort) → sort_code s ≡ sort_code t → s ≡ t
sorts-same s t e = sym (sort-again s) ∙ ap sort-from e ∙ sort-again t

packet-is : (c d : ℕ) (p q : Message) (m n : ℕ) → c ≡ d → p ≡ q → m ≡ n → plan.Packet c p m ≡ plan.Packet d q n
packet-is c d p q m n a b e = cc

fault-is : (c d : ℕ) (f g : PacketFault) (m n : ℕ) → c ≡ d → f ≡ g → m ≡ n → plan.Fault c f m ≡ plan.Fault d g n
fault-is c d f g m n a b e = cc

closed-is : (c d m n : ℕ) → c ≡ d → m ≡ n → plan.Closed c m ≡ plan.Closed d n
closed-is c d m n a b = cc

refused-is : (c d : ℕ) (s t : Sort) (m n : ℕ) → c ≡ d → s ≡ t → m ≡ n → plan.Refused c s m ≡ plan.Refused d t n
refused-is c d s t m n a b e = cc

module _ (free : (a b x y : List ℕ) (p q : Message) → Spells a p → Spells b q → a ++ x ≡ b ++ y → (a ≡ b) × (p ≡ q)) where
  packets-same : (a b : List ℕ) (p q : Message) → Spells a p → Spells b q → a ≡ b → p ≡ q
  packets-same a b p q s t e = (free a b [] [] p q s t (append-nil a ∙ e ∙ sym (append-nil b))).1

  same-behind : (rest : List ℕ) (e f : plan.Event) → HasWords e → HasWords f → Behind e rest → Behind f rest → code_of e ≡ code_of f → e ≡ f
  unfolding HasWords
  same-behind rest (plan.Open m1) (plan.Open m2) w v x y e = ap plan.Open (moments-same rest m1 m2 w v x y)
  same-behind rest (plan.Open m1) (plan.Packet c2 p2 m2) w v x y e = absurd (omega (arith, e))
  same-behind rest (plan.Open m1) (plan.Fault c2 w2 m2) w v x y e = absurd (omega (arith, e))
  same-behind rest (plan.Open m1) (plan.Closed c2 m2) w v x y e = absurd (omega (arith, e))
  same-behind rest (plan.Open m1) (plan.Tick m2) w v x y e = absurd (omega (arith, e))
  same-behind rest (plan.Open m1) (plan.Refused c2 k2 m2) w v x y e = absurd (is-sort k2 1 (omega arith) e)
  same-behind rest (plan.Packet c1 p1 m1) (plan.Open m2) w v x y e = absurd (omega (arith, e))
  same-behind rest (plan.Packet c1 p1 m1) (plan.Packet c2 p2 m2) w v x y e = let f = front-same c1 c2 m1 m2 x.0 y.0 w.0 v.0 w.1 v.1 (sym x.2 ∙ y.2) in packet-is c1 c2 p1 p2 m1 m2 f.0 (packets-same x.0 y.0 p1 p2 x.1 y.1 f.2) f.1
  same-behind rest (plan.Packet c1 p1 m1) (plan.Fault c2 w2 m2) w v x y e = absurd (omega (arith, e))
  same-behind rest (plan.Packet c1 p1 m1) (plan.Closed c2 m2) w v x y e = absurd (omega (arith, e))
  same-behind rest (plan.Packet c1 p1 m1) (plan.Tick m2) w v x y e = absurd (omega (arith, e))
  same-behind rest (plan.Packet c1 p1 m1) (plan.Refused c2 k2 m2) w v x y e = absurd (is-sort k2 2 (omega arith) e)
  same-behind rest (plan.Fault c1 w1 m1) (plan.Open m2) w v x y e = absurd (omega (arith, e))
  same-behind rest (plan.Fault c1 w1 m1) (plan.Packet c2 p2 m2) w v x y e = absurd (omega (arith, e))
  same-behind rest (plan.Fault c1 w1 m1) (plan.Fault c2 w2 m2) w v x y e = let f = front-same c1 c2 m1 m2 (number_of w1 ∷ []) (number_of w2 ∷ []) w.0 v.0 w.1 v.1 (sym x ∙ y) in fault-is c1 c2 w1 w2 m1 m2 f.0 (faults-same w1 w2 f.2) f.1
  same-behind rest (plan.Fault c1 w1 m1) (plan.Closed c2 m2) w v x y e = absurd (omega (arith, e))
  same-behind rest (plan.Fault c1 w1 m1) (plan.Tick m2) w v x y e = absurd (omega (arith, e))
  same-behind rest (plan.Fault c1 w1 m1) (plan.Refused c2 k2 m2) w v x y e = absurd (is-sort k2 3 (omega arith) e)
  same-behind rest (plan.Closed c1 m1) (plan.Open m2) w v x y e = absurd (omega (arith, e))
  same-behind rest (plan.Closed c1 m1) (plan.Packet c2 p2 m2) w v x y e = absurd (omega (arith, e))
  same-behind rest (plan.Closed c1 m1) (plan.Fault c2 w2 m2) w v x y e = absurd (omega (arith, e))
  same-behind rest (plan.Closed c1 m1) (plan.Closed c2 m2) w v x y e = let f = front-same c1 c2 m1 m2 [] [] w.0 v.0 w.1 v.1 (sym x ∙ y) in closed-is c1 c2 m1 m2 f.0 f.1
  same-behind rest (plan.Closed c1 m1) (plan.Tick m2) w v x y e = absurd (omega (arith, e))
  same-behind rest (plan.Closed c1 m1) (plan.Refused c2 k2 m2) w v x y e = absurd (is-sort k2 4 (omega arith) e)
  same-behind rest (plan.Tick m1) (plan.Open m2) w v x y e = absurd (omega (arith, e))
  same-behind rest (plan.Tick m1) (plan.Packet c2 p2 m2) w v x y e = absurd (omega (arith, e))
  same-behind rest (plan.Tick m1) (plan.Fault c2 w2 m2) w v x y e = absurd (omega (arith, e))
  same-behind rest (plan.Tick m1) (plan.Closed c2 m2) w v x y e = absurd (omega (arith, e))
  same-behind rest (plan.Tick m1) (plan.Tick m2) w v x y e = ap plan.Tick (moments-same rest m1 m2 w v x y)
  same-behind rest (plan.Tick m1) (plan.Refused c2 k2 m2) w v x y e = absurd (is-sort k2 5 (omega arith) e)
  same-behind rest (plan.Refused c1 k1 m1) (plan.Open m2) w v x y e = absurd (is-sort k1 1 (omega arith) (sym e))
  same-behind rest (plan.Refused c1 k1 m1) (plan.Packet c2 p2 m2) w v x y e = absurd (is-sort k1 2 (omega arith) (sym e))
  same-behind rest (plan.Refused c1 k1 m1) (plan.Fault c2 w2 m2) w v x y e = absurd (is-sort k1 3 (omega arith) (sym e))
  same-behind rest (plan.Refused c1 k1 m1) (plan.Closed c2 m2) w v x y e = absurd (is-sort k1 4 (omega arith) (sym e))
  same-behind rest (plan.Refused c1 k1 m1) (plan.Tick m2) w v x y e = absurd (is-sort k1 5 (omega arith) (sym e))
  same-behind rest (plan.Refused c1 k1 m1) (plan.Refused c2 k2 m2) w v x y e = let f = front-same c1 c2 m1 m2 [] [] w.0 v.0 w.1 v.1 (sym x ∙ y) in refused-is c1 c2 k1 k2 m1 m2 f.0 (sorts-same k1 k2 e) f.1

  pub one-event : (bytes : List ℕ) (e f : plan.Event) → Says bytes e → Says bytes f → e ≡ f
  one-event bytes e f s t =
      let p = parts bytes e s in
      let q = parts bytes f t in
      let heads : code_of e ∷ p.rest ≡ code_of f ∷ q.rest = sym p.is ∙ q.is in
      same-behind p.rest e f s.words t.words p.behind (subst (Behind f) (sym (tail-is (code_of e) (code_of f) p.rest q.rest heads)) q.behind) (head-is (code_of e) (code_of f) p.rest q.rest heads)

-- ---- what `decode` says

pub all-of : (bytes : List ℕ) (n : ℕ) → n ≡ length bytes → take n bytes ≡ bytes
all-of bytes n e = take_all n bytes (omega arith)

abbrev pub SameOk : (p q : Message) (n m : ℕ) → Type 0
SameOk p q n m = let x : Result (Message × ℕ) PacketFault = Ok (p, n) in let y : Result (Message × ℕ) PacketFault = Ok (q, m) in x ≡ y

pub ok-len : (p q : Message) (n m : ℕ) → SameOk p q n m → n ≡ m
ok-len p q n m e = let both : (p, n) ≡ (q, m) = cc in ap (λ (x : Message × ℕ). x.1) both

ok-err : {X : Type 0} {x : X} {e : PacketFault} → Ok x ≡ Err e → ⊥
ok-err h = cc

pub fails-not : {X : Type 0} (x : X) (e : PacketFault) → e ≢ fault.NoMemory → Fails e (Ok x) → ⊥
fails-not x fault.NoMemory apart f = apart refl
fails-not x fault.More apart f = ok-err f
fails-not x fault.BadLength apart f = ok-err f
fails-not x fault.BadFlags apart f = ok-err f
fails-not x fault.BadType apart f = ok-err f
fails-not x fault.BadText apart f = ok-err f
fails-not x fault.BadBody apart f = ok-err f
fails-not x fault.TooLarge apart f = ok-err f
fails-not x fault.QosTwo apart f = ok-err f
fails-not x fault.BadLevel apart f = ok-err f
