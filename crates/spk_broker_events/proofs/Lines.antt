-- What a line says, and that it says nothing else.
use Rattle.std.proofs.Common.{◌≡◌, ◌≢◌, ℕ, ◌<◌, ◌≤◌, ◌^◌, cond, eqb, List, [], ◌∷◌, ◌++◌, length, take, refl, sym, ap, ◌∙◌, subst, append_assoc, length-append, arith, Option, Some, None, Result, Ok, Err}
use Rattle.std.specs.Prelude.{IfOk, OnOk}
use Rattle.std.specs.declared.alloc.AllocError.{AllocError}
use Rattle.spk_frames.specs.Numbers.{eight}
use Rattle.spk_packets.specs.Fault.{Fails}
use Rattle.spk_packets.specs.declared.fault.PacketFault.{PacketFault}
use Rattle.spk_packets.specs.declared.fault.PacketFault.TheVariants as fault
use Rattle.spk_frames.proofs.Lengths.{length-eight}
use Rattle.spk_packets.specs.Grammar.{Spells, first_byte}
use Rattle.spk_packets.specs.Message.{Message}
use Rattle.spk_packets.specs.declared.packet.Packet.{Packet}
use Rattle.spk_broker_rules.specs.Plan as plan
use Rattle.spk_session.specs.declared.answer.Sort.TheVariants as sort
use Rattle.spk_broker_events.specs.Line.{IsPacket, IsText, Kept, SaysLine, kind_code, line_front}
use Rattle.spk_broker_events.specs.Record.{Says}
use Rattle.spk_broker_events.specs.declared.line.Kind.{Kind}
use Rattle.spk_broker_events.specs.declared.line.Kind.TheVariants as kind
use Rattle.spk_broker_events.proofs.Saying.{SameOk, all-of, code_of, fails-not, front-same, ok-len, parts}

head-is : (a b : ℕ) (xs ys : List ℕ) → a ∷ xs ≡ b ∷ ys → a ≡ b
head-is a b xs ys e = cc

tail-is : (a b : ℕ) (xs ys : List ℕ) → a ∷ xs ≡ b ∷ ys → xs ≡ ys
tail-is a b xs ys e = cc

-- what stands behind the code
pub behind-line : (bytes : List ℕ) (l : Kept) (s : SaysLine bytes l) → bytes ≡ kind_code l.kind ∷ (eight l.first ++ (eight l.second ++ s.text))
unfolding line_front
behind-line bytes l s = s.is ∙ ap (λ t. kind_code l.kind ∷ t) (append_assoc (eight l.first) (eight l.second) s.text)

pub says-line : (code : ℕ) (bytes : List ℕ) (l : Kept) (text : List ℕ) → l.first < 2 ^ 64 → l.second < 2 ^ 64 → IsText l.packet text → kind_code l.kind ≡ code
    → bytes ≡ eight l.first ++ (eight l.second ++ text) → SaysLine (code ∷ bytes) l
unfolding line_front
says-line code bytes l text first second spelled is e = record {
  first = first;
  second = second;
  text = text;
  spelled = spelled;
  is = ap (λ k. k ∷ bytes) (sym is) ∙ ap (λ t. kind_code l.kind ∷ t) (e ∙ sym (append_assoc (eight l.first) (eight l.second) text));
}

-- ---- nothing is said

abbrev pub NoLine : List ℕ → Type 0
NoLine bytes = (l : Kept) → SaysLine bytes l → ⊥

pub no-line-of-none : (bytes : List ℕ) → bytes ≡ [] → (l : Kept) → SaysLine bytes l → ⊥
no-line-of-none bytes none l s =
    let a : length bytes ≡ length (kind_code l.kind ∷ (eight l.first ++ (eight l.second ++ s.text))) = ap length (behind-line bytes l s) in
    let b : length bytes ≡ 0 = ap length none in absurd (omega arith)

pub no-line-of-code : (code : ℕ) (bytes : List ℕ) → ((k : Kind) → kind_code k ≡ code → ⊥) → (l : Kept) → SaysLine (code ∷ bytes) l → ⊥
no-line-of-code code bytes none l s = none l.kind (sym (head-is code (kind_code l.kind) bytes (eight l.first ++ (eight l.second ++ s.text)) (behind-line (code ∷ bytes) l s)))

behind-is : (code : ℕ) (bytes : List ℕ) (l : Kept) (s : SaysLine (code ∷ bytes) l) → bytes ≡ eight l.first ++ (eight l.second ++ s.text)
behind-is code bytes l s = tail-is code (kind_code l.kind) bytes (eight l.first ++ (eight l.second ++ s.text)) (behind-line (code ∷ bytes) l s)

pub no-line-of-front : (code : ℕ) (bytes : List ℕ) → ((first second : ℕ) (rest : List ℕ) → first < 2 ^ 64 → second < 2 ^ 64 → bytes ≡ eight first ++ (eight second ++ rest) → ⊥)
    → (l : Kept) → SaysLine (code ∷ bytes) l → ⊥
no-line-of-front code bytes none l s = none l.first l.second s.text s.first s.second (behind-is code bytes l s)

pub no-line-of-text : (code : ℕ) (bytes : List ℕ) (first second : ℕ) (rest : List ℕ) → (first < 2 ^ 64) × (second < 2 ^ 64) × (bytes ≡ eight first ++ (eight second ++ rest))
    → ((p : Option Message) → IsText p rest → ⊥) → (l : Kept) → SaysLine (code ∷ bytes) l → ⊥
no-line-of-text code bytes first second rest front none l s =
    let same = front-same first l.first second l.second rest s.text front.0 s.first front.1 s.second (sym front.2 ∙ behind-is code bytes l s) in
    none l.packet (subst (IsText l.packet) (sym same.2) s.spelled)

-- ---- one line alone

kind_at : ℕ → Kind
kind_at n = cond (eqb n 16) kind.Numbers (cond (eqb n 17) kind.Waiting (cond (eqb n 18) kind.Session (cond (eqb n 19) kind.Sits (cond (eqb n 20) kind.Grant
    (cond (eqb n 21) kind.InUse (cond (eqb n 22) kind.Last (cond (eqb n 23) kind.Unacknowledged kind.Retained)))))))

kind-again : (k : Kind) → kind_at (kind_code k) ≡ k
unfolding kind_at
kind-again kind.Numbers = refl
kind-again kind.Waiting = refl
kind-again kind.Session = refl
kind-again kind.Sits = refl
kind-again kind.Grant = refl
kind-again kind.InUse = refl
kind-again kind.Last = refl
kind-again kind.Unacknowledged = refl
kind-again kind.Retained = refl

kinds-same : (a b : Kind) → kind_code a ≡ kind_code b → a ≡ b
kinds-same a b e = sym (kind-again a) ∙ ap kind_at e ∙ kind-again b

abbrev as_line : Kind → ℕ → ℕ → Option Message → Kept
as_line k first second p = record { kind = k; first = first; second = second; packet = p }

abbrev PrefixFree : Type 0
PrefixFree = (a b x y : List ℕ) (p q : Message) → Spells a p → Spells b q → a ++ x ≡ b ++ y → (a ≡ b) × (p ≡ q)

module _ (free : PrefixFree) where
  -- no packet is spelled by no bytes
  none-spells : (p : Message) → Spells [] p → ⊥
  none-spells p s = let a : 0 ≡ length (first_byte p ∷ (s.size ++ s.body)) = ap length s.parts in absurd (omega arith)

  packets-same : (text : List ℕ) (p q : Option Message) → IsText p text → IsText q text → p ≡ q
  packets-same text None None s t = refl
  packets-same text None (Some q) s t = absurd (none-spells q (subst (λ x. Spells x q) s t))
  packets-same text (Some p) None s t = absurd (none-spells p (subst (λ x. Spells x p) t s))
  packets-same text (Some p) (Some q) s t = ap Some (free text text [] [] p q s t refl).1

  pub one-line : (bytes : List ℕ) (l m : Kept) → SaysLine bytes l → SaysLine bytes m → l ≡ m
  one-line bytes l m s t =
      let heads : kind_code l.kind ∷ (eight l.first ++ (eight l.second ++ s.text)) ≡ kind_code m.kind ∷ (eight m.first ++ (eight m.second ++ t.text)) = sym (behind-line bytes l s) ∙ behind-line bytes m t in
      let numbers = front-same l.first m.first l.second m.second s.text t.text s.first t.first s.second t.second
      (tail-is (kind_code l.kind) (kind_code m.kind) (eight l.first ++ (eight l.second ++ s.text)) (eight m.first ++ (eight m.second ++ t.text)) heads) in
      let kinds : l.kind ≡ m.kind = kinds-same l.kind m.kind (head-is (kind_code l.kind) (kind_code m.kind) (eight l.first ++ (eight l.second ++ s.text)) (eight m.first ++ (eight m.second ++ t.text)) heads) in
      let packets : l.packet ≡ m.packet = packets-same t.text l.packet m.packet (subst (IsText l.packet) numbers.2 s.spelled) t.spelled in
      line-is l m kinds numbers.0 numbers.1 packets
    where
      line-is : (l m : Kept) → l.kind ≡ m.kind → l.first ≡ m.first → l.second ≡ m.second → l.packet ≡ m.packet → l ≡ m
      line-is l m a b c d =
          ap (λ k. as_line k l.first l.second l.packet) a ∙ ap (λ n. as_line m.kind n l.second l.packet) b ∙ ap (λ n. as_line m.kind m.first n l.packet) c ∙ ap (as_line m.kind m.first m.second) d

-- ---- an event is no line

low : (e : plan.Event) → code_of e < 8
low (plan.Open moment) = omega arith
low (plan.Packet conn p moment) = omega arith
low (plan.Fault conn why moment) = omega arith
low (plan.Closed conn moment) = omega arith
low (plan.Tick moment) = omega arith
low (plan.Refused conn sort.QosZero moment) = omega arith
low (plan.Refused conn sort.Other moment) = omega arith

high : (k : Kind) → 16 ≤ kind_code k
high kind.Numbers = omega arith
high kind.Waiting = omega arith
high kind.Session = omega arith
high kind.Sits = omega arith
high kind.Grant = omega arith
high kind.InUse = omega arith
high kind.Last = omega arith
high kind.Unacknowledged = omega arith
high kind.Retained = omega arith

pub apart : (bytes : List ℕ) (e : plan.Event) (l : Kept) → Says bytes e → SaysLine bytes l → ⊥
apart bytes e l s t =
    let p = parts bytes e s in
    let same : code_of e ≡ kind_code l.kind = head-is (code_of e) (kind_code l.kind) p.rest (eight l.first ++ (eight l.second ++ t.text)) (sym p.is ∙ behind-line bytes l t) in
    let a = low e in let b = high l.kind in absurd (omega arith)

-- ---- how long a content is

pub small-line : (code first second : ℕ) (p : Option Message) (text : List ℕ) → IsText p text → length (line_front code first second ++ text) ≤ 1048593
unfolding line_front
small-line code first second p text s =
    let few = short p text s in
    omega (arith, few, length-append (eight first ++ eight second) text, length-append (eight first) (eight second), length-eight first, length-eight second)
  where
    short : (p : Option Message) (text : List ℕ) → IsText p text → length text ≤ 1048576
    short None text s = omega (arith, ap length s)
    short (Some p) text s = s.small

-- ---- what `decode` says

pub more-than-one : (bytes : List ℕ) (q : Message) (len : ℕ) → (len ≡ length bytes → ⊥) → (bytes ≡ [] → ⊥) → ((p : Message) → Spells (take (length bytes) bytes) p → SameOk p q (length bytes) len)
    → (p : Option Message) → IsText p bytes → ⊥
more-than-one bytes q len more some found None s = some s
more-than-one bytes q len more some found (Some p) s =
    more (sym (ok-len p q (length bytes) len (found p (subst (λ t. Spells t p) (sym (all-of bytes (length bytes) refl)) s))))

abbrev pub FailsOn : PacketFault → Message → ℕ → Type 0
FailsOn e p n = let x : Result (Message × ℕ) PacketFault = Ok (p, n) in Fails e x

pub anything-else : (bytes : List ℕ) (e : PacketFault) (r : Result (Option (Option Packet)) AllocError) → IfOk r (λ o. o ≡ None) → OnOk r (e ≢ fault.NoMemory) → (bytes ≡ [] → ⊥)
    → ((p : Message) → Spells (take (length bytes) bytes) p → FailsOn e p (length bytes)) → IfOk r (λ o. IsPacket bytes o)
anything-else bytes e (Err x) none named some failed = tt
anything-else bytes e (Ok o) none named some failed = subst (IsPacket bytes) (sym none) not-any
  where
    not-any : (p : Option Message) → IsText p bytes → ⊥
    not-any None s = some s
    not-any (Some p) s = fails-not (p, length bytes) e named (failed p (subst (λ t. Spells t p) (sym (all-of bytes (length bytes) refl)) s))
