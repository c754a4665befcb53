-- Packets that are put as frames, in order.
use Rattle.std.proofs.Common.{◌≡◌, ◌∙◌, ap, sym, refl, ℕ, List, [], ◌∷◌, ◌++◌, map}
use Rattle.std.proofs.lemmas.List.{append_assoc, append-nil, map-append}
use Rattle.spk_ingress.specs.declared.frame.Frame.{Frame}
use Rattle.spk_ingress.specs.declared.frame.Frame.TheVariants as frame
use Rattle.spk_plant_host.specs.Steps.{Puts}

pub puts_none : (packets : List (List ℕ)) (put : List Frame) → Puts packets packets put put
puts_none packets put = record { before = []; parts = refl; frames = sym (append-nil put) }

pub puts_one : (packets left : List (List ℕ)) (bytes : List ℕ) (p q r : List Frame) → Puts packets (bytes ∷ left) p q →
    r ≡ q ++ frame.Packet bytes ∷ [] → Puts packets left p r
puts_one packets left bytes p q r s e = record {
  before = s.before ++ bytes ∷ [];
  parts = s.parts ∙ sym (append_assoc s.before (bytes ∷ []) left);
  frames = e ∙ ap (λ l. l ++ frame.Packet bytes ∷ []) s.frames ∙ append_assoc p (map frame.Packet s.before) (frame.Packet bytes ∷ [])
      ∙ ap (λ l. p ++ l) (sym (map-append frame.Packet s.before (bytes ∷ [])));
}

pub puts_all : (packets : List (List ℕ)) (p q : List Frame) → Puts packets [] p q → q ≡ p ++ map frame.Packet packets
puts_all packets p q s = s.frames ∙ ap (λ l. p ++ map frame.Packet l) (sym (s.parts ∙ append-nil s.before))
