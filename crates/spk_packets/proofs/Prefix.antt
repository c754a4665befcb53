-- No spelling of a packet begins another.
use Rattle.std.proofs.Common.{◌≡◌, ℕ, List, ◌++◌, length, take, refl, sym, ap, ◌∙◌}
use Rattle.std.proofs.lemmas.List.{take_at}
use Rattle.spk_packets.specs.Message.{Message}
use Rattle.spk_packets.specs.Grammar.{Spells}
use Rattle.spk_packets.specs.Reading.{packet_at}
use Rattle.spk_packets.proofs.Faults.{ok_is}
use Rattle.spk_packets.proofs.PacketLaws.{packet_again}

abbrev both : Message → ℕ → Message × ℕ
both p n = (p, n)

pub prefix_is : (a b x y : List ℕ) (p q : Message) → Spells a p → Spells b q → a ++ x ≡ b ++ y → (a ≡ b) × (p ≡ q)
prefix_is a b x y p q is_a is_b e =
    let same : both p (length a) ≡ both q (length b) = ok_is (both p (length a)) (both q (length b)) (sym (packet_again a p x is_a) ∙ ap packet_at e ∙ packet_again b q y is_b) in
    let len : length a ≡ length b = ap (λ (z : Message × ℕ). z.1) same in
    (sym (take_at a x (length a) refl) ∙ ap (λ (n : ℕ). take n (a ++ x)) len ∙ ap (take (length b)) e ∙ take_at b y (length b) refl, ap (λ (z : Message × ℕ). z.0) same)
