-- What a packet is to a host application's program: what it says to the host, a message that is refused, or a SUBACK that refuses the subscription
-- (MQTT 3.1.1, section 3.9.3).
use Rattle.std.specs.Prelude.{◌≡◌, ◌⊎◌, ℕ, ◌==◌, Bool, true, false, List, [], Option, None, Result, Ok, Err}
use Rattle.std.specs.List.{list_any}
use Rattle.spk_packets.specs.Message.{Message, Publish, SubAck}
use Rattle.spk_reading.specs.Meaning.{heard}
use Rattle.spk_reading.specs.View.{heard_view}
use Rattle.spk_reading.specs.declared.fault.ReadFault.{ReadFault}
use Rattle.spk_reading.specs.declared.fault.ReadFault.TheVariants as read
use Rattle.spk_reading.specs.declared.said.Heard.{Heard}
use Rattle.spk_host_session.specs.declared.fault.HostFault.{HostFault}
use Rattle.spk_host.specs.View.{fault_of}
use Rattle.std.specs.String.{string_bytes}
use Rattle.spk_host_app.specs.declared.meant.Meant.{Meant}
use Rattle.spk_host_app.specs.declared.meant.Meant.TheVariants as meant

-- one of the return codes is 128
abbrev pub is_refusal : List ℕ → Bool
is_refusal codes = list_any (λ code. code == 128) codes

-- a SUBACK that refuses the subscription
abbrev pub refuses : Message → Bool
refuses (SubAck id codes) = is_refusal codes
refuses _ = false

-- the topic of a PUBLISH
abbrev pub topic_in : Message → List ℕ
topic_in (Publish dup qos retain topic id payload) = topic
topic_in _ = []

-- the identifier of a PUBLISH at QoS 1
abbrev pub id_in : Message → Option ℕ
id_in (Publish dup qos retain topic id payload) = id
id_in _ = None

-- what reading answered of a packet is what it says, or why it is refused, unless memory was refused
abbrev pub IsReadOf : Message → Result Heard ReadFault → Type 0
IsReadOf p (Ok h) = heard p ≡ Ok (heard_view h)
IsReadOf p (Err f) = (f ≡ read.NoMemory) ⊎ (heard p ≡ Err f)

-- a message is refused for this: not for want of memory
pub record IsRefused (p : Message) (fault : HostFault) : Type 0 where
  pub why : ReadFault
  pub is : heard p ≡ Err why
  pub same : fault ≡ fault_of why

-- a packet is this to the program
abbrev pub IsMeant : Message → Meant → Type 0
IsMeant p (meant.Heard h) = (refuses p ≡ false) × (heard p ≡ Ok (heard_view h))
IsMeant p (meant.Refused fault topic id) = IsRefused p fault × (string_bytes topic ≡ topic_in p) × (id ≡ id_in p)
IsMeant p meant.SubscriptionRefused = refuses p ≡ true
