-- Packets that are written one after the other.
use Rattle.std.proofs.Common.{◌≡◌, ◌⊎◌, inl, inr, ℕ, zero, suc, ◌+◌, ◌<◌, ◌≤◌, Bool, true, false, ◌&&◌, List, [], ◌∷◌, ◌++◌, length, map, take, get_or, Vec, refl, sym, ap, subst, ◌∙◌, arith, Option, Some, None, is_none, Result, Ok, Err}
use Rattle.std.specs.List.{AllByRecursion, list_all}
use Rattle.std.proofs.lemmas.List.{take_more, map_push, take_all}
use Rattle.std.proofs.lemmas.List.Folds.{list_all-append}
use Rattle.std.specs.declared.alloc.Global.{Global}
use Rattle.spk_payload.specs.Meaning.{MetricData}
use Rattle.spk_payload.specs.Spelling.{HoldsOther, PayloadFits}
use Rattle.std.specs.Prelude.{OnOk}
use Rattle.std.specs.Str.{IsUtf8}
use Rattle.spk_packets.specs.Fault.{first_of}
use Rattle.spk_packets.specs.Grammar.{Spells}
use Rattle.spk_packets.specs.Message as packets
use Rattle.spk_packets.specs.Spelling as packet
use Rattle.spk_edge_rules.specs.Writable.{is_writable}
use Rattle.spk_edge_rules.specs.declared.fault.EdgeFault.{EdgeFault}
use Rattle.spk_edge_rules.specs.declared.fault.EdgeFault.TheVariants.{NoMemory, TooLarge}
use Rattle.std.proofs.lemmas.Bool.{true≢false}
use Rattle.spk_packets.specs.declared.fault.PacketFault.{PacketFault}
use Rattle.spk_edge.specs.View.{MessageData}
use Rattle.spk_edge.specs.Sealing.{AreKnown, IsUnwritten, IsWhole, bytes_of, wire_of}

-- known values are no unknown ones
pub known-no-other : (ms : List MetricData) → AreKnown ms → HoldsOther ms → ⊥
known-no-other [] all (k, m, below, at_k, other) = omega (arith, below)
known-no-other (x ∷ ms) all (zero, m, below, at_k, other) = all.0 (ap (λ (n : MetricData). n.value) at_k ∙ other)
known-no-other (x ∷ ms) all (suc k, m, below, at_k, other) = known-no-other ms all.1 (k, m, omega (arith, below), at_k, other)

module _ {X : Type 0} (V : X → packets.Message) where
  views_more : (xs : List X) (i : ℕ) (x : X) → i < length xs → x ≡ get_or xs i x → map V (take (i + 1) xs) ≡ map V (take i xs) ++ V x ∷ []
  views_more xs i x lt is = ap (map V) (take_more xs i x lt) ∙ map_push V (take i xs) (get_or xs i x) ∙ ap (λ (y : X). map V (take i xs) ++ V y ∷ []) (sym is)

  -- one more is written
  pub bytes_more : (out new : List (Vec ℕ Global)) (v : Vec ℕ Global) (xs : List X) (i : ℕ) (x : X) → i < length xs → x ≡ get_or xs i x
      → map bytes_of out ≡ map packet.spelling (map V (take i xs)) → new ≡ out ++ v ∷ [] → bytes_of v ≡ packet.spelling (V x)
      → map bytes_of new ≡ map packet.spelling (map V (take (i + 1) xs))
  bytes_more out new v xs i x lt is so_far more one =
      ap (map bytes_of) more ∙ map_push bytes_of out v
      ∙ ap (λ (l : List (List ℕ)). l ++ bytes_of v ∷ []) so_far
      ∙ ap (λ (b : List ℕ). map packet.spelling (map V (take i xs)) ++ b ∷ []) one
      ∙ sym (map_push packet.spelling (map V (take i xs)) (V x))
      ∙ ap (map packet.spelling) (sym (views_more xs i x lt is))

  pub writable_more : (xs : List X) (i : ℕ) (x : X) → i < length xs → x ≡ get_or xs i x → list_all is_writable (map V (take i xs)) ≡ true → is_writable (V x) ≡ true
      → list_all is_writable (map V (take (i + 1) xs)) ≡ true
  writable_more xs i x lt is so_far one =
      ap (list_all is_writable) (views_more xs i x lt is) ∙ list_all-append is_writable (map V (take i xs)) (V x ∷ [])
      ∙ ap (λ b. b && list_all is_writable (V x ∷ [])) so_far ∙ ap (λ b. b && true) one

  none_all : (xs : List X) (i : ℕ) (x : X) → i < length xs → x ≡ get_or xs i x → is_writable (V x) ≡ false → list_all is_writable (map V xs) ≡ false
  none_all [] i x lt is none = absurd (omega (arith, lt))
  none_all (y ∷ xs) zero x lt is none = ap (λ b. b && list_all is_writable (map V xs)) (ap (λ (z : X). is_writable (V z)) (sym is) ∙ none)
  none_all (y ∷ xs) (suc i) x lt is none = ap (λ b. is_writable (V y) && b) (none_all xs i x (omega (arith, lt)) is none) ∙ and-none (is_writable (V y))
    where
      and-none : (b : Bool) → (b && false) ≡ false
      and-none true = refl
      and-none false = refl

  pub unwritten_at : (xs : List X) (i : ℕ) (x : X) (e : EdgeFault) → i < length xs → x ≡ get_or xs i x
      → (e ≡ NoMemory) ⊎ ((e ≡ TooLarge) × (is_writable (V x) ≡ false)) → IsUnwritten (map V xs) e
  unwritten_at xs i x e lt is (inl h) = inl h
  unwritten_at xs i x e lt is (inr h) = inr (h.0, none_all xs i x lt is h.1)

  pub whole : (xs : List X) (i : ℕ) → length xs ≤ i → take i xs ≡ xs
  whole xs i le = take_all i xs le

-- each of the messages is known
pub known_at : {X : Type 0} (P : X → Type 0) (xs : List X) (i : ℕ) (x : X) → i < length xs → x ≡ get_or xs i x → AllByRecursion P xs → P x
known_at P [] i x lt is all = absurd (omega (arith, lt))
known_at P (y ∷ xs) zero x lt is all = subst P (sym is) all.0
known_at P (y ∷ xs) (suc i) x lt is all = known_at P xs i x (omega (arith, lt)) is all.1

all-push : {Y : Type 0} (P : Y → Type 0) (ys : List Y) (y : Y) → AllByRecursion P ys → P y → AllByRecursion P (ys ++ y ∷ [])
all-push P [] y all p = (p, tt)
all-push P (z ∷ ys) y all p = (all.0, all-push P ys y all.1 p)

-- one more is whole
pub wholes_more : {X Y : Type 0} (view : X → Y) (P : Y → Type 0) (xs : List X) (i : ℕ) (x : X) → i < length xs → x ≡ get_or xs i x
    → AllByRecursion P (map view (take i xs)) → P (view x) → AllByRecursion P (map view (take (i + 1) xs))
wholes_more view P xs i x lt is so_far one =
    subst (AllByRecursion P) (sym (ap (map view) (take_more xs i x lt) ∙ map_push view (take i xs) (get_or xs i x)))
    (all-push P (map view (take i xs)) (view (get_or xs i x)) so_far (subst (λ y. P (view y)) is one))

-- what isn't refused and whose topic is a text is spelled
pub writable-none : (o : Option PacketFault) → is_none o ≡ true → o ≡ None
writable-none None e = refl
writable-none (Some f) e = absurd (true≢false (sym e))

pub words-of : (m : MessageData) → packet.HasWords (wire_of m)
unfolding packet.HasWords
words-of m = tt

pub on-ok : {X E A B : Type 0} (r : Result X E) → (A → B) → OnOk r A → OnOk r B
on-ok (Ok x) f a = f a
on-ok (Err e) f a = tt

abbrev pub SpelledAll : Type 0
SpelledAll = (p : packets.Message) → packet.PacketFits p → first_of (packet.unwritable p) ≡ None → Spells (packet.spelling p) p

-- a message that was written is whole
pub written-whole : SpelledAll → (m : MessageData) → IsUtf8 m.topic → PayloadFits m.payload → is_writable (wire_of m) ≡ true → IsWhole m
written-whole spells m text fits writable = record {
  spelled = spells (wire_of m) (words-of m, text) (writable-none (first_of (packet.unwritable (wire_of m))) writable);
  fits = fits;
}
