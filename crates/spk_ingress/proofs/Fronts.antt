-- What the packet reader answers of bytes that are one packet.
use Rattle.std.proofs.Common.{◌≡◌, ℕ, ◌<◌, List, length, refl, sym, ap, arith, take, Ok, subst}
use Rattle.std.proofs.Math.Seq.{take-length}
use Rattle.spk_packets.specs.Message.{Message}
use Rattle.spk_packets.specs.Grammar.{Spells}
use Rattle.spk_packets.specs.Fault.{Fails, Gives}
use Rattle.spk_packets.specs.View.{front_view, lent_view, view}
use Rattle.spk_packets.specs.declared.borrowed.PublishRef.{PublishRef}
use Rattle.spk_packets.specs.declared.packet.Packet.{Packet}
use Rattle.spk_packets.specs.declared.fault.PacketFault.{PacketFault}
use Rattle.spk_packets.specs.declared.fault.PacketFault.TheVariants.{NoMemory, More, BadLength, BadFlags, BadType, BadText, BadBody, TooLarge, QosTwo, BadLevel}

-- the packet of all the bytes
pub spells_whole : (bytes : List ℕ) (p : Message) → Spells bytes p → Spells (take (length bytes) bytes) p
spells_whole bytes p s = subst (λ xs. Spells xs p) (sym (take-length bytes)) s

pub whole_view : (bytes : List ℕ) (p : Message) (packet : Packet) (n : ℕ) → Spells bytes p → Gives front_view (Ok (packet, n)) (Ok (p, length bytes)) → Spells bytes (view packet)
whole_view bytes p packet n s g = (let e : (p, length bytes) ≡ front_view (packet, n) = cc in subst (λ q. Spells bytes q) (ap (λ (y : Message × ℕ). y.0) e) s)

pub front_count : (p : Message) (packet : Packet) (m n : ℕ) → Gives front_view (Ok (packet, m)) (Ok (p, n)) → m ≡ n
front_count p packet m n g = (let e : (p, n) ≡ front_view (packet, m) = cc in sym (ap (λ (y : Message × ℕ). y.1) e))

-- the same of a PUBLISH that is lent
pub lent_count : (p : Message) (packet : PublishRef) (m n : ℕ) → Gives lent_view (Ok (packet, m)) (Ok (p, n)) → m ≡ n
lent_count p packet m n g = (let e : (p, n) ≡ lent_view (packet, m) = cc in sym (ap (λ (y : Message × ℕ). y.1) e))

-- where there is an answer, want of memory alone may stand in its place
pub memory_alone : (e : PacketFault) (y : Message × ℕ) → Fails e (Ok y) → e ≡ NoMemory
memory_alone NoMemory y f = refl
memory_alone More y f = absurd (cc)
memory_alone BadLength y f = absurd (cc)
memory_alone BadFlags y f = absurd (cc)
memory_alone BadType y f = absurd (cc)
memory_alone BadText y f = absurd (cc)
memory_alone BadBody y f = absurd (cc)
memory_alone TooLarge y f = absurd (cc)
memory_alone QosTwo y f = absurd (cc)
memory_alone BadLevel y f = absurd (cc)

-- a packet has at least one byte
pub some_byte : (bytes : List ℕ) (p : Message) → Spells bytes p → 0 < length bytes
some_byte bytes p s = rw s.parts (omega arith)
