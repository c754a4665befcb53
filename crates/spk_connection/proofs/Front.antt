-- The packet at the front of what was read.
use Rattle.std.proofs.Common.{◌≡◌, ◌∙◌, sym, ap, refl, subst, ℕ, ◌≤◌, List, ◌++◌, length, take, drop, Result, Ok, Err, arith, zero}
use Rattle.std.proofs.lemmas.List.{drop_at, take_at, take-append-drop, length-append}
use Rattle.spk_packets.specs.declared.fault.PacketFault.{PacketFault}
use Rattle.spk_packets.specs.declared.fault.PacketFault.TheVariants.{NoMemory, More, BadLength, BadFlags, BadType, BadText, BadBody, TooLarge, QosTwo, BadLevel}
use Rattle.spk_packets.specs.Fault.{Fails}
use Rattle.spk_packets.specs.Grammar.{Spells}
use Rattle.spk_packets.specs.Message.{Message}
use Rattle.spk_packets.specs.Stream.{TakesPacket}
use Rattle.spk_connection.specs.Data.{Connection}
use Rattle.spk_connection.specs.Step.{IsFront, IsLent, IsTaken, after_passed}

abbrev pub read : Message → ℕ → Result (Message × ℕ) PacketFault
read p n = Ok (p, n)

-- ---- what an answer holds

abbrev message_in : Message → Result (Message × ℕ) PacketFault → Message
message_in p (Ok x) = x.0
message_in p (Err e) = p

abbrev size_in : Result (Message × ℕ) PacketFault → ℕ
size_in (Ok x) = x.1
size_in (Err e) = zero

pub same_message : (p q : Message) (n m : ℕ) → read p n ≡ read q m → q ≡ p
same_message p q n m e = sym (ap (message_in p) e)

pub same_size : (p q : Message) (n m : ℕ) → read p n ≡ read q m → m ≡ n
same_size p q n m e = sym (ap size_in e)

pub fails : (e : PacketFault) (p : Message) (n : ℕ) → Fails e (read p n) → e ≡ NoMemory
fails NoMemory p n h = refl
fails More p n h = absurd cc
fails BadLength p n h = absurd cc
fails BadFlags p n h = absurd cc
fails BadType p n h = absurd cc
fails BadText p n h = absurd cc
fails BadBody p n h = absurd cc
fails TooLarge p n h = absurd cc
fails QosTwo p n h = absurd cc
fails BadLevel p n h = absurd cc

pub more_is_no_want : (e : PacketFault) → e ≡ More → e ≡ NoMemory → ⊥
more_is_no_want e a b = absurd cc

-- ---- the bytes at the front

pub is_long : (bytes front rest : List ℕ) → bytes ≡ front ++ rest → length front ≤ length bytes
is_long bytes front rest parts = omega (arith, ap (λ (b : List ℕ). length b) parts, length-append front rest)

pub is_cut : (bytes front rest : List ℕ) → bytes ≡ front ++ rest → take (length front) bytes ≡ front
is_cut bytes front rest parts = ap (take (length front)) parts ∙ take_at front rest (length front) refl

pub spells_cut : (bytes front rest : List ℕ) (p : Message) → bytes ≡ front ++ rest → Spells front p → Spells (take (length front) bytes) p
spells_cut bytes front rest p parts spells = subst (λ b. Spells b p) (sym (is_cut bytes front rest parts)) spells

pub behind : (bytes front rest : List ℕ) → bytes ≡ front ++ rest → drop (length front) bytes ≡ rest
behind bytes front rest parts = ap (drop (length front)) parts ∙ drop_at front rest (length front) refl

pub lent : (c : Connection) (bytes : List ℕ) (size : ℕ) → bytes ≡ c.unread → IsFront bytes size → IsLent c (take size bytes)
lent c bytes size same is = record {
  packet = is.packet;
  rest = drop size bytes;
  spelled = is.spelled;
  parts = sym same ∙ sym (take-append-drop size bytes);
}

pub passed : (c : Connection) (bytes : List ℕ) (is : IsLent c bytes) → IsTaken c is.packet (after_passed c (length bytes))
passed c bytes is = record {
  front = (bytes, is.spelled, is.parts ∙ ap (λ r. bytes ++ r) (sym (behind c.unread bytes is.rest is.parts)));
  stays = refl;
}
