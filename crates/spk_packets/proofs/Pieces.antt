-- What a feed gives depends on the bytes, and not on how they were cut or when packets were asked for.
use Rattle.std.proofs.Common.{◌≡◌, ℕ, List, [], ◌∷◌, ◌++◌, length, drop, refl, sym, ap, ◌∙◌, append_assoc}
use Rattle.std.proofs.lemmas.List.{append-nil, drop_at}
use Rattle.spk_packets.specs.Message.{Message}
use Rattle.spk_packets.specs.Grammar.{Spells, AreEach}
use Rattle.spk_packets.specs.Stream.{Event, Fed, Gave, Rested, IsRun, HasNoPacket, fed, given}
use Rattle.spk_packets.proofs.Prefix.{prefix_is}

-- what was taken in is the spellings of what was given, and then what waits
pub record Spelled (all : List ℕ) (ps : List Message) (waits : List ℕ) : Type 0 where
  pub text : List ℕ
  pub are : AreEach Spells text ps
  pub parts : all ≡ text ++ waits

pub run_spells : (events : List Event) (old new : List ℕ) → IsRun old events new → Spelled (old ++ fed events) (given events) new
run_spells [] old new run = record { text = []; are = refl; parts = append-nil old ∙ run }
run_spells (Fed piece ∷ events) old new run =
    let s = run_spells events (old ++ piece) new run in
    record { text = s.text; are = s.are; parts = sym (append_assoc old piece (fed events)) ∙ s.parts }
run_spells (Gave p ∷ events) old new run =
    let s = run_spells events run.0 new run.2 in
    let front = run.1.0 in
    record {
      text = front ++ s.text;
      are = (front, s.text, run.1.1, s.are, refl);
      parts = ap (λ (r : List ℕ). r ++ fed events) run.1.2 ∙ append_assoc front run.0 (fed events) ∙ ap (λ (r : List ℕ). front ++ r) s.parts ∙ sym (append_assoc front s.text new);
    }
run_spells (Rested ∷ events) old new run = run_spells events old new run

-- the tails of equal lists with equal fronts
tails : (a b x y : List ℕ) → a ≡ b → a ++ x ≡ b ++ y → x ≡ y
tails a b x y same e = sym (drop_at a x (length a) refl) ∙ ap (drop (length a)) e ∙ ap (λ (n : ℕ). drop n (b ++ y)) (ap (λ (l : List ℕ). length l) same) ∙ drop_at b y (length b) refl

heads : (p q : Message) (ps qs : List Message) → p ≡ q → ps ≡ qs → p ∷ ps ≡ q ∷ qs
heads p q ps qs e f = cc

-- one reading of a text, where no packet is left
pub one_reading : (ps qs : List Message) (a b x y : List ℕ) → AreEach Spells a ps → AreEach Spells b qs → HasNoPacket x → HasNoPacket y → a ++ x ≡ b ++ y → (ps ≡ qs) × (x ≡ y)
one_reading [] [] a b x y are_a are_b no_x no_y e = (refl, sym (ap (λ (r : List ℕ). r ++ x) are_a) ∙ e ∙ ap (λ (r : List ℕ). r ++ y) are_b)
one_reading [] (q ∷ qs) a b x y are_a are_b no_x no_y e =
    absurd (no_x are_b.0 (are_b.1 ++ y) q are_b.2 (sym (ap (λ (r : List ℕ). r ++ x) are_a) ∙ e ∙ ap (λ (r : List ℕ). r ++ y) are_b.4 ∙ append_assoc are_b.0 are_b.1 y))
one_reading (p ∷ ps) [] a b x y are_a are_b no_x no_y e =
    absurd (no_y are_a.0 (are_a.1 ++ x) p are_a.2 (sym (ap (λ (r : List ℕ). r ++ y) are_b) ∙ sym e ∙ ap (λ (r : List ℕ). r ++ x) are_a.4 ∙ append_assoc are_a.0 are_a.1 x))
one_reading (p ∷ ps) (q ∷ qs) a b x y are_a are_b no_x no_y e =
    let whole : are_a.0 ++ (are_a.1 ++ x) ≡ are_b.0 ++ (are_b.1 ++ y) =
    sym (append_assoc are_a.0 are_a.1 x) ∙ sym (ap (λ (r : List ℕ). r ++ x) are_a.4) ∙ e ∙ ap (λ (r : List ℕ). r ++ y) are_b.4 ∙ append_assoc are_b.0 are_b.1 y in
    let first = prefix_is are_a.0 are_b.0 (are_a.1 ++ x) (are_b.1 ++ y) p q are_a.2 are_b.2 whole in
    let others = one_reading ps qs are_a.1 are_b.1 x y are_a.3 are_b.3 no_x no_y (tails are_a.0 are_b.0 (are_a.1 ++ x) (are_b.1 ++ y) first.0 whole) in
    (heads p q ps qs first.1 others.0, others.1)

pub same_given : (events others : List Event) (x y : List ℕ) → IsRun [] events x → IsRun [] others y → fed events ≡ fed others → HasNoPacket x → HasNoPacket y → (given events ≡ given others) × (x ≡ y)
same_given events others x y run other same no_x no_y =
    let s = run_spells events [] x run in
    let t = run_spells others [] y other in
    one_reading (given events) (given others) s.text t.text x y s.are t.are no_x no_y (sym s.parts ∙ same ∙ t.parts)

-- the first part of a reading, where no packet is left behind the whole
first_reading : (ps qs : List Message) (a b x y : List ℕ) → AreEach Spells a ps → AreEach Spells b qs → HasNoPacket y → a ++ x ≡ b ++ y → (later : List Message) × (qs ≡ ps ++ later)
first_reading [] qs a b x y are_a are_b no_y e = (qs, refl)
first_reading (p ∷ ps) [] a b x y are_a are_b no_y e =
    absurd (no_y are_a.0 (are_a.1 ++ x) p are_a.2 (sym (ap (λ (r : List ℕ). r ++ y) are_b) ∙ sym e ∙ ap (λ (r : List ℕ). r ++ x) are_a.4 ∙ append_assoc are_a.0 are_a.1 x))
first_reading (p ∷ ps) (q ∷ qs) a b x y are_a are_b no_y e =
    let whole : are_a.0 ++ (are_a.1 ++ x) ≡ are_b.0 ++ (are_b.1 ++ y) =
    sym (append_assoc are_a.0 are_a.1 x) ∙ sym (ap (λ (r : List ℕ). r ++ x) are_a.4) ∙ e ∙ ap (λ (r : List ℕ). r ++ y) are_b.4 ∙ append_assoc are_b.0 are_b.1 y in
    let front = prefix_is are_a.0 are_b.0 (are_a.1 ++ x) (are_b.1 ++ y) p q are_a.2 are_b.2 whole in
    let others = first_reading ps qs are_a.1 are_b.1 x y are_a.3 are_b.3 no_y (tails are_a.0 are_b.0 (are_a.1 ++ x) (are_b.1 ++ y) front.0 whole) in
    (others.0, heads q p qs (ps ++ others.0) (sym front.1) others.1)

pub first_given : (events others : List Event) (x y more : List ℕ) → IsRun [] events x → IsRun [] others y → fed events ++ more ≡ fed others → HasNoPacket y
    → (later : List Message) × (given others ≡ given events ++ later)
first_given events others x y more run other same no_y =
    let s = run_spells events [] x run in
    let t = run_spells others [] y other in
    first_reading (given events) (given others) s.text t.text (x ++ more) y s.are t.are no_y
    (sym (append_assoc s.text x more) ∙ ap (λ (r : List ℕ). r ++ more) (sym s.parts) ∙ same ∙ t.parts)
