-- Why bytes that weren't read whole spell no packet.
use Rattle.std.proofs.Common.{◌≡◌, ◌≢◌, ◌≤◌, sym, ap, subst, refl, length, take, ℕ, List, Ok, Result, arith}
use Rattle.std.proofs.Math.Seq.{take-length}
use Rattle.spk_packets.specs.Fault.{Fails}
use Rattle.spk_packets.specs.Grammar.{Spells}
use Rattle.spk_packets.specs.Message.{Message}
use Rattle.spk_packets.specs.declared.fault.PacketFault.{PacketFault}
use Rattle.spk_packets.specs.declared.fault.PacketFault.TheVariants.{NoMemory, More, BadLength, BadFlags, BadType, BadText, BadBody, TooLarge, QosTwo, BadLevel}

whole : (bytes : List ℕ) (p : Message) → Spells bytes p → Spells (take (length bytes) bytes) p
whole bytes p s = subst (λ text. Spells text p) (sym (take-length bytes)) s

abbrev due : Message × ℕ → Result (Message × ℕ) PacketFault
due x = Ok x

-- the packet found ends before the bytes do
pub no_other : (bytes : List ℕ) (x : Message × ℕ) →
    ((p : Message) (n : ℕ) → n ≤ length bytes → Spells (take n bytes) p → due (p, n) ≡ Ok x) →
    x.1 ≢ length bytes → (p : Message) → Spells bytes p → ⊥
no_other bytes x only short p s =
    let e : due (p, length bytes) ≡ Ok x = only p (length bytes) (omega arith) (whole bytes p s) in
    let f : (p, length bytes) ≡ x = cc in
    short (sym (ap (λ (y : Message × ℕ). y.1) f))

is_memory : (e : PacketFault) (x : Message × ℕ) → Fails e (due x) → e ≡ NoMemory
is_memory NoMemory x h = refl
is_memory More x h = cc
is_memory BadLength x h = cc
is_memory BadFlags x h = cc
is_memory BadType x h = cc
is_memory BadText x h = cc
is_memory BadBody x h = cc
is_memory TooLarge x h = cc
is_memory QosTwo x h = cc
is_memory BadLevel x h = cc

-- a fault was found, and memory wasn't refused
pub no_packet : (bytes : List ℕ) (e : PacketFault) →
    ((p : Message) (n : ℕ) → n ≤ length bytes → Spells (take n bytes) p → Fails e (due (p, n))) →
    e ≢ NoMemory → (p : Message) → Spells bytes p → ⊥
no_packet bytes e only other p s = other (is_memory e (p, length bytes) (only p (length bytes) (omega arith) (whole bytes p s)))
