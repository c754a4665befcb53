-- Retained messages that were encoded in a call, by their places.
use Rattle.std.specs.Prelude.{◌≡◌, ◌∷◌, [], ℕ, List, Option, Some, None, slice_get}
use Rattle.std.specs.BTreeMap.{get}
use Rattle.std.specs.Ordering.{nat_cmp}
use Rattle.spk_packets.specs.Spelling.{spelling}
use Rattle.spk_broker_rules.specs.Data as plain
use Rattle.spk_broker_rules.specs.Words.{plain_packet, sent_as}
use Rattle.spk_broker.specs.Offering.{retained_at}
use Rattle.spk_broker.specs.Parts.{app_message_view}
use Rattle.spk_broker.specs.declared.encoded.Encoded.{Encoded}
use Rattle.spk_broker.specs.declared.retained_delivery.Given.{Given}
use Rattle.spk_broker.specs.declared.retained_delivery.Given.TheVariants.{Plain, Numbered}

-- what was encoded of the retained message at a place
abbrev pub encoded_at : Encoded → ℕ → Option (List ℕ)
encoded_at t place = get nat_cmp t.by_place place

-- bytes, where there are any, are those of a message, where there is one
abbrev pub AreBytesOf : Option (List ℕ) → Option (List ℕ × plain.Stored) → Type 0
AreBytesOf None e = Unit {0}
AreBytesOf (Some b) None = Unit {0}
AreBytesOf (Some b) (Some e) = b ≡ spelling (plain_packet (retained_at 0 e.0 e.1))

-- what was encoded are these messages with QoS 0 and RETAIN
abbrev pub AreEncoded : Encoded → List (List ℕ × plain.Stored) → Type 0
AreEncoded t es = (place : ℕ) → AreBytesOf (encoded_at t place) (slice_get es place)

-- what is given is this message: its bytes, where it goes with QoS 0
abbrev pub IsGiven : Given → plain.AppMessage → Type 0
IsGiven (Plain bytes) p = (p ≡ sent_as p 0 p.retain) × (bytes ≡ spelling (plain_packet p))
IsGiven (Numbered app_message) p = app_message_view app_message ≡ p

-- what is given, if anything, is all that is offered
abbrev pub AreGiven : Option Given → List plain.AppMessage → Type 0
AreGiven None ps = ps ≡ []
AreGiven (Some g) ps = (p : plain.AppMessage) × (ps ≡ p ∷ []) × IsGiven g p
