-- What is read in bytes, and heard.
use Rattle.std.proofs.Common.{◌≡◌, ◌⊎◌, inl, inr, ◌≤◌, ◌<◌, ◌+◌, ◌∙◌, ap, sym, refl, subst, ℕ, arith, Bool, true, false, cond, List, length, take, Option, Some, None, Result, Ok, Err}
use Rattle.std.proofs.Math.Seq.{take-length}
use Rattle.spk_packets.specs.Fault.{Fails, Gives}
use Rattle.spk_packets.specs.Grammar.{Spells}
use Rattle.spk_packets.specs.Message.{Message}
use Rattle.spk_packets.specs.View.{front_view, view}
use Rattle.spk_packets.specs.declared.fault.PacketFault.{PacketFault}
use Rattle.spk_packets.specs.declared.fault.PacketFault.TheVariants.{NoMemory, More, BadLength, BadFlags, BadType, BadText, BadBody, TooLarge, QosTwo, BadLevel}
use Rattle.spk_packets.specs.declared.packet.Packet.{Packet}
use Rattle.spk_edge_rules.specs.Config.{Config}
use Rattle.spk_edge_rules.specs.Inputs.{Act, Input}
use Rattle.spk_ingress.specs.Frame.{IsOnePacket}
use Rattle.spk_plant_edge.specs.At.{IsReadAs, Origin, Stands, input_in}
use Rattle.spk_plant_edge.specs.Frames.{is_cut}
use Rattle.spk_plant_edge.specs.Log.{IsArrival, Move, asked_at, inputs_of}
use Rattle.spk_plant_edge.specs.declared.desk.Desk.{Desk}
use Rattle.spk_plant_edge.proofs.Standing.{told-count}

-- what the packet reader answers of bytes whose front spells a packet
abbrev pub Reads : List ℕ → Result (Packet × ℕ) PacketFault → Type 0
Reads bytes r = (p : Message) (n : ℕ) → n ≤ length bytes → Spells (take n bytes) p → Gives front_view r (Ok (p, n))

whole_spells : (bytes : List ℕ) (one : IsOnePacket bytes) → Spells (take (length bytes) bytes) one.0
whole_spells bytes one = subst (λ b. Spells b one.0) (sym (take-length bytes)) one.1

pub not-whole : (bytes : List ℕ) (x : Packet × ℕ) → x.1 < length bytes → Reads bytes (Ok x) → IsOnePacket bytes → ⊥
not-whole bytes x lt reads one =
    let given : Ok (one.0, length bytes) ≡ Ok (front_view x) = reads one.0 (length bytes) (omega arith) (whole_spells bytes one) in
    let pair : (one.0, length bytes) ≡ front_view x = cc in
    let same : length bytes ≡ x.1 = ap (λ (t : Message × ℕ). t.1) pair in omega arith

fails-not : (fault : PacketFault) (g : Message × ℕ) → (fault ≡ NoMemory → ⊥) → Fails fault (Ok g) → ⊥
fails-not NoMemory g memory fails = memory refl
fails-not More g memory fails = cc
fails-not BadLength g memory fails = cc
fails-not BadFlags g memory fails = cc
fails-not BadType g memory fails = cc
fails-not BadText g memory fails = cc
fails-not BadBody g memory fails = cc
fails-not TooLarge g memory fails = cc
fails-not QosTwo g memory fails = cc
fails-not BadLevel g memory fails = cc

pub not-read : (bytes : List ℕ) (fault : PacketFault) → (fault ≡ NoMemory → ⊥) → Reads bytes (Err fault) → IsOnePacket bytes → ⊥
not-read bytes fault memory reads one =
    fails-not fault (one.0, length bytes) memory (reads one.0 (length bytes) (omega arith) (whole_spells bytes one))

pub unread-is : (bytes : List ℕ) (fault : PacketFault) (p : Option Packet) → p ≡ None → (fault ≡ NoMemory → ⊥) → Reads bytes (Err fault) → IsReadAs bytes p
unread-is bytes fault p none memory reads = subst (IsReadAs bytes) (sym none) (not-read bytes fault memory reads)

pub arrives : (c : Config) (now : ℕ) (bytes : List ℕ) (packet : Option Packet) → IsReadAs bytes packet → IsArrival c now bytes (input_in c now packet)
arrives c now bytes (Some p) read = inl (view p, read, refl)
arrives c now bytes None read = inr (read, refl)

-- ---- moments

pub heard-as : (o : Origin) (is : List Input) (d : Desk) (packet : Option Packet) (now : ℕ) → Stands o is d → now ≡ 1000000 + length d.inputs.items
    → input_in d.node.config now packet ≡ input_in o.setup.config (1000000 + length is) packet
heard-as o is d packet now h at =
    ap (λ n. input_in n.config now packet) h.node
    ∙ ap (λ t. input_in o.setup.config t packet) (at ∙ ap (λ n. 1000000 + n) (told-count o is d h))

pub asked-as : (o : Origin) (log : List Move) (d : Desk) (act : Act) (now : ℕ) → Stands o (inputs_of log) d
    → now ≡ cond (is_cut act) 0 (1000000 + length d.inputs.items) → record { now = now; ack = None; act = act } ≡ asked_at log act
asked-as o log d act now h at =
    ap (λ t. record { now = t; ack = None; act = act }) (at ∙ ap (λ n. cond (is_cut act) 0 (1000000 + n)) (told-count o (inputs_of log) d h))
