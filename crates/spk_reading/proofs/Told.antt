-- What is answered of bytes, from the packet that they spell, or from there being none.
use Rattle.std.proofs.Common.{◌≡◌, ◌∙◌, ◌⊎◌, inl, inr, sym, ap, subst, refl, ℕ, List, [], ◌++◌, Ok, Err, Result}
use Rattle.std.specs.Prelude.{IfErr}
use Rattle.spk_packets.specs.Grammar.{Spells}
use Rattle.spk_packets.specs.Message.{Message}
use Rattle.spk_reading.specs.Answer.{Fails, Gives}
use Rattle.spk_reading.specs.Data.{HeardData}
use Rattle.spk_reading.specs.Meaning.{Says, IsReadFault, NoPacket, Refused, heard}
use Rattle.spk_reading.specs.View.{heard_view}
use Rattle.spk_reading.specs.declared.said.Heard.{Heard}
use Rattle.spk_reading.specs.declared.fault.ReadFault.{ReadFault}
use Rattle.spk_reading.specs.declared.fault.ReadFault.TheVariants.{NoMemory, NotSparkplug, BadPayload, NoSeq, NoStamp, NoBdSeq}

abbrev pub OnePacket : List ℕ → Type 0
OnePacket bytes = (p q : Message) → Spells bytes p → Spells bytes q → p ≡ q

abbrev pub PrefixFree : Type 0
PrefixFree = (a b x y : List ℕ) (p q : Message) → Spells a p → Spells b q → a ++ x ≡ b ++ y → (a ≡ b) × (p ≡ q)

pub one_packet : PrefixFree → (bytes : List ℕ) → OnePacket bytes
one_packet free bytes p q s t = (free bytes bytes [] [] p q s t refl).1

-- ---- bytes that spell a packet

pub only_said : (bytes : List ℕ) (r : Result Heard ReadFault) (p : Message) → OnePacket bytes → Spells bytes p →
    Gives heard_view r (heard p) → (h : HeardData) → Says bytes h → Gives heard_view r (Ok h)
only_said bytes r p one s g h says =
    subst (λ due. Gives heard_view r due) (ap heard (one p says.packet s says.spelled) ∙ says.is) g

refused_as : (bytes : List ℕ) (f : ReadFault) (p : Message) → Spells bytes p →
    Fails f (heard p) → (f ≡ NoMemory) ⊎ IsReadFault bytes f
refused_as bytes NoMemory p s g = inl refl
refused_as bytes NotSparkplug p s g = inr (Refused p s g)
refused_as bytes BadPayload p s g = inr (Refused p s g)
refused_as bytes NoSeq p s g = inr (Refused p s g)
refused_as bytes NoStamp p s g = inr (Refused p s g)
refused_as bytes NoBdSeq p s g = inr (Refused p s g)

pub its_fault : (bytes : List ℕ) (r : Result Heard ReadFault) (p : Message) → Spells bytes p →
    Gives heard_view r (heard p) → IfErr r (λ f. (f ≡ NoMemory) ⊎ IsReadFault bytes f)
its_fault bytes (Ok x) p s g = tt
its_fault bytes (Err f) p s g = refused_as bytes f p s g

pub only_fault : (bytes : List ℕ) (r : Result Heard ReadFault) (p : Message) → OnePacket bytes → Spells bytes p →
    Gives heard_view r (heard p) → (f : ReadFault) → IsReadFault bytes f → Gives heard_view r (Err f)
only_fault bytes r p one s g f (NoPacket none) = elim (none p s) [ ]
only_fault bytes r p one s g f (Refused q t e) = subst (λ due. Gives heard_view r due) (ap heard (one p q s t) ∙ e) g

-- ---- bytes that spell none

abbrev IsNone : List ℕ → ReadFault → Type 0
IsNone bytes f = (f ≡ NoMemory) ⊎ ((f ≡ BadPayload) × ((p : Message) → Spells bytes p → ⊥))

pub none_said : (bytes : List ℕ) (f : ReadFault) → IsNone bytes f → (h : HeardData) → Says bytes h → Gives heard_view (Err f) (Ok h)
none_said bytes f (inl e) h says = subst (λ k. Gives heard_view (Err k) (Ok h)) (sym e) tt
none_said bytes f (inr x) h says = elim (x.1 says.packet says.spelled) [ ]

pub none_fault : (bytes : List ℕ) (f : ReadFault) → IsNone bytes f → (f ≡ NoMemory) ⊎ IsReadFault bytes f
none_fault bytes f (inl e) = inl e
none_fault bytes f (inr x) = inr (subst (IsReadFault bytes) (sym x.0) (NoPacket x.1))

none_is : (bytes : List ℕ) → ((p : Message) → Spells bytes p → ⊥) → (k : ReadFault) → IsReadFault bytes k → k ≡ BadPayload
none_is bytes none k (NoPacket q) = refl
none_is bytes none k (Refused p s e) = elim (none p s) [ ]

pub none_only : (bytes : List ℕ) (f : ReadFault) → IsNone bytes f → (k : ReadFault) → IsReadFault bytes k → Gives heard_view (Err f) (Err k)
none_only bytes f (inl e) k is = subst (λ j. Gives heard_view (Err j) (Err k)) (sym e) tt
none_only bytes f (inr x) k is =
    subst (λ j. Gives heard_view (Err j) (Err k)) (sym x.0) (ap (λ j. Err j) (none_is bytes x.1 k is))
