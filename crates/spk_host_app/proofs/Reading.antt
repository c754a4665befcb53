-- What reading answers of a packet.
use Rattle.std.proofs.Common.{◌≡◌, ◌∙◌, sym, ap, refl, ◌⊎◌, inl, inr, ℕ, List, Result, Ok, Err, length, take, ◌≤◌, subst, arith}
use Rattle.std.proofs.lemmas.List.{take_all}
use Rattle.spk_packets.specs.declared.fault.PacketFault.{PacketFault}
use Rattle.spk_packets.specs.Grammar.{Spells}
use Rattle.spk_packets.specs.Message.{Message}
use Rattle.spk_reading.specs.Answer.{Fails, Gives}
use Rattle.spk_reading.specs.Data.{HeardData}
use Rattle.spk_reading.specs.Meaning.{IsReadFault, Refused, Says, heard}
use Rattle.spk_reading.specs.View.{heard_view}
use Rattle.spk_reading.specs.declared.fault.ReadFault.{ReadFault}
use Rattle.spk_reading.specs.declared.fault.ReadFault.TheVariants.{NoMemory, NotSparkplug, BadPayload, NoSeq, NoStamp, NoBdSeq}
use Rattle.spk_reading.specs.declared.said.Heard.{Heard}
use Rattle.spk_host_app.specs.Meant.{IsReadOf}

fails : (g : ReadFault) (v : Result HeardData ReadFault) → Fails g v → (g ≡ NoMemory) ⊎ (v ≡ Err g)
fails NoMemory v h = inl refl
fails NotSparkplug v h = inr h
fails BadPayload v h = inr h
fails NoSeq v h = inr h
fails NoStamp v h = inr h
fails NoBdSeq v h = inr h

with_heard : (p : Message) (v : Result HeardData ReadFault) → heard p ≡ v → (g : ReadFault) → (g ≡ NoMemory) ⊎ (v ≡ Err g) → (g ≡ NoMemory) ⊎ (heard p ≡ Err g)
with_heard p v e g (inl a) = inl a
with_heard p v e g (inr b) = inr (e ∙ b)

no_fault : (f : ReadFault) (h : HeardData) (v : Result HeardData ReadFault) → v ≡ Err f → v ≡ Ok h → ⊥
no_fault f h v a b = absurd cc

module _ (p : Message) (bytes : List ℕ) (spells : Spells bytes p) where
  by_heard : (v : Result HeardData ReadFault) → heard p ≡ v → (r : Result Heard ReadFault)
      → ((h : HeardData) → Says bytes h → Gives heard_view r (Ok h)) → ((f : ReadFault) → IsReadFault bytes f → Gives heard_view r (Err f)) → IsReadOf p r
  by_heard (Ok h) e (Ok x) only fault = e ∙ only h (record { packet = p; spelled = spells; is = e })
  by_heard (Ok h) e (Err g) only fault = with_heard p (Ok h) e g (fails g (Ok h) (only h (record { packet = p; spelled = spells; is = e })))
  by_heard (Err f) e (Ok x) only fault = e ∙ fault f (Refused p spells e)
  by_heard (Err f) e (Err g) only fault = with_heard p (Err f) e g (fails g (Err f) (fault f (Refused p spells e)))

  pub read_of : (r : Result Heard ReadFault)
      → ((h : HeardData) → Says bytes h → Gives heard_view r (Ok h)) → ((f : ReadFault) → IsReadFault bytes f → Gives heard_view r (Err f)) → IsReadOf p r
  read_of r only fault = by_heard (heard p) refl r only fault

-- ---- what decoding holds

abbrev pub read : Message → ℕ → Result (Message × ℕ) PacketFault
read p n = Ok (p, n)

abbrev message_in : Message → Result (Message × ℕ) PacketFault → Message
message_in p (Ok x) = x.0
message_in p (Err e) = p

pub same_message : (p q : Message) (n m : ℕ) → read p n ≡ read q m → q ≡ p
same_message p q n m e = sym (ap (message_in p) e)

pub whole : (bytes : List ℕ) (p : Message) → Spells bytes p → Spells (take (length bytes) bytes) p
whole bytes p spells = subst (λ b. Spells b p) (sym (take_all (length bytes) bytes (omega arith))) spells

pub enough : (bytes : List ℕ) → length bytes ≤ length bytes
enough bytes = omega arith
