-- A packet at the front of what waits.
use Rattle.std.proofs.Common.{◌≡◌, ℕ, ◌+◌, ◌≤◌, List, ◌++◌, length, take, drop, Result, Ok, Err, refl, sym, ap, subst, ◌∙◌, arith}
use Rattle.std.proofs.lemmas.List.{take_at, take-append-drop, length-append, drop-drop}
use Rattle.spk_packets.specs.declared.fault.PacketFault.{PacketFault}
use Rattle.spk_packets.specs.declared.fault.PacketFault.TheVariants.{NoMemory, More, BadLength, BadFlags, BadType, BadText, BadBody, TooLarge, QosTwo, BadLevel}
use Rattle.spk_packets.specs.declared.packet.Packet.{Packet}
use Rattle.spk_packets.specs.Fault.{Fails, Gives}
use Rattle.spk_packets.specs.Message.{Message}
use Rattle.spk_packets.specs.Grammar.{Spells}
use Rattle.spk_packets.specs.Stream.{TakesPacket}
use Rattle.spk_packets.specs.View.{view, front_view}
use Rattle.spk_packets.proofs.Faults.{ok_is}

abbrev pub read : Message → ℕ → Result (Message × ℕ) PacketFault
read p n = Ok (p, n)

abbrev pub fine : {A : Type 0} → A → Result A PacketFault
fine x = Ok x

abbrev both : Message → ℕ → Message × ℕ
both p n = (p, n)

abbrev decoded : Packet → ℕ → Result (Packet × ℕ) PacketFault
decoded packet n = Ok (packet, n)

abbrev refused : PacketFault → Result (Packet × ℕ) PacketFault
refused e = Err e

pub took : (items slice front_bytes waits after : List ℕ) (start n : ℕ) (p : Message) → slice ≡ items → front_bytes ≡ drop start slice → drop start items ≡ waits → after ≡ drop (start + n) items
    → (n ≤ length front_bytes) × Spells (take n front_bytes) p → TakesPacket waits p after
took items slice front_bytes waits after start n p same cut is behind found =
    let front = take n front_bytes in
    let whole : waits ≡ front_bytes = sym is ∙ ap (drop start) (sym same) ∙ sym cut in
    let rest : drop n front_bytes ≡ after = ap (drop n) cut ∙ drop-drop n start slice ∙ ap (drop (start + n)) same ∙ sym behind in
    (front, found.1, whole ∙ sym (take-append-drop n front_bytes) ∙ ap (λ (r : List ℕ). front ++ r) rest)

pub fails_ok : {A : Type 0} (e : PacketFault) (x : A) → Fails e (fine x) → e ≡ NoMemory
fails_ok NoMemory x h = refl
fails_ok More x h = absurd cc
fails_ok BadLength x h = absurd cc
fails_ok BadFlags x h = absurd cc
fails_ok BadType x h = absurd cc
fails_ok BadText x h = absurd cc
fails_ok BadBody x h = absurd cc
fails_ok TooLarge x h = absurd cc
fails_ok QosTwo x h = absurd cc
fails_ok BadLevel x h = absurd cc

-- a packet at the front is what decode has to give
pub stands : (items slice front_bytes waits front rest : List ℕ) (start : ℕ) (p : Message) (r : Result (Packet × ℕ) PacketFault) → slice ≡ items → front_bytes ≡ drop start slice → drop start items ≡ waits
    → ((q : Message) (n : ℕ) → n ≤ length front_bytes → Spells (take n front_bytes) q → Gives front_view r (read q n))
    → Spells front p → waits ≡ front ++ rest → Gives front_view r (read p (length front))
stands items slice front_bytes waits front rest start p r same cut_is is only spells parts =
    let whole : front_bytes ≡ front ++ rest = cut_is ∙ ap (drop start) same ∙ is ∙ parts in
    let long : length front ≤ length front_bytes = omega (arith, ap (λ (b : List ℕ). length b) whole, length-append front rest) in
    let cut : take (length front) front_bytes ≡ front = ap (take (length front)) whole ∙ take_at front rest (length front) refl in
    only p (length front) long (subst (λ (b : List ℕ). Spells b p) (sym cut) spells)

pub given_is : (p : Message) (n m : ℕ) (packet : Packet) → read p n ≡ read (view packet) m → view packet ≡ p
given_is p n m packet e = ap (λ (x : Message × ℕ). x.0) (sym (ok_is (both p n) (both (view packet) m) e))

module _ (items slice front_bytes waits front rest : List ℕ) (start : ℕ) (p : Message) (same : slice ≡ items) (cut_is : front_bytes ≡ drop start slice) (is : drop start items ≡ waits)
    (spells : Spells front p) (parts : waits ≡ front ++ rest) where
  -- where decode answered a packet
  pub stands_ok : (packet : Packet) (m : ℕ) → ((q : Message) (n : ℕ) → n ≤ length front_bytes → Spells (take n front_bytes) q → read q n ≡ read (view packet) m) → view packet ≡ p
  stands_ok packet m only = given_is p (length front) m packet (stands items slice front_bytes waits front rest start p (decoded packet m) same cut_is is only spells parts)

  -- where it refused
  pub stands_err : (e : PacketFault) → ((q : Message) (n : ℕ) → n ≤ length front_bytes → Spells (take n front_bytes) q → Fails e (read q n)) → e ≡ NoMemory
  stands_err e only = fails_ok e (both p (length front)) (stands items slice front_bytes waits front rest start p (refused e) same cut_is is only spells parts)
