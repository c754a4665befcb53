-- From what the private readers give to the grammar and the order of faults.
use Rattle.std.proofs.Common.{◌≡◌, ℕ, ◌+◌, ◌≤◌, List, ◌++◌, length, take, drop, Option, Some, None, Result, Ok, Err, sym, ap, subst, ◌∙◌, arith}
use Rattle.std.specs.Prelude.{IfOk, IfErr, OnOk}
use Rattle.std.proofs.lemmas.List.{take_at, take-append-drop, length-append, length-take}
use Rattle.spk_packets.specs.declared.fault.PacketFault.{PacketFault}
use Rattle.spk_packets.specs.declared.fault.PacketFault.TheVariants.{NoMemory, More, BadLength, BadFlags, BadType, BadText, BadBody, TooLarge, QosTwo, BadLevel}
use Rattle.spk_packets.specs.Fault.{first_of, IsNamed, Fails, Gives}
use Rattle.spk_packets.specs.Message.{Message}
use Rattle.spk_packets.specs.Grammar.{IsLength, Spells}
use Rattle.spk_packets.specs.Refusals.{refusals, length_refusals}
use Rattle.spk_packets.specs.Reading.{length_at, packet_at}
use Rattle.spk_packets.proofs.Bytes.{IsBytes}
use Rattle.spk_packets.proofs.PacketLaws.{packet_takes, packet_again, length_takes, length_again}
use Rattle.spk_packets.proofs.Agreement.{fault_of, packet_refused, length_refused}

abbrev pub length_read : ℕ → ℕ → Result (ℕ × ℕ) PacketFault
length_read n size = Ok (n, size)

abbrev packet_read : Message → ℕ → Result (Message × ℕ) PacketFault
packet_read p n = Ok (p, n)

read_len : (p : Message) (a b : ℕ) → a ≡ b → packet_read p a ≡ packet_read p b
read_len p a b e = ap (packet_read p) e

named_from : {A : Type 0} (e : PacketFault) (r : Result A PacketFault) (named : Option PacketFault) → fault_of r ≡ named → Fails e r → IsNamed e named
named_from NoMemory r named a h = tt
named_from More r named a h = sym a ∙ ap fault_of h
named_from BadLength r named a h = sym a ∙ ap fault_of h
named_from BadFlags r named a h = sym a ∙ ap fault_of h
named_from BadType r named a h = sym a ∙ ap fault_of h
named_from BadText r named a h = sym a ∙ ap fault_of h
named_from BadBody r named a h = sym a ∙ ap fault_of h
named_from TooLarge r named a h = sym a ∙ ap fault_of h
named_from QosTwo r named a h = sym a ∙ ap fault_of h
named_from BadLevel r named a h = sym a ∙ ap fault_of h

-- what is taken from the front is the front
front_is : (bytes front rest : List ℕ) (n : ℕ) → length front ≡ n → bytes ≡ front ++ rest → (n ≤ length bytes) × (take n bytes ≡ front)
front_is bytes front rest n len parts =
    let total : length bytes ≡ length front + length rest = ap (λ (r : List ℕ). length r) parts ∙ length-append front rest in
    (omega arith, ap (take n) parts ∙ take_at front rest n len)

-- what was read, seen by a view
pub is_found : {A : Type 0} (see : A → Message × ℕ) (bytes : List ℕ) (r : Result A PacketFault) → IsBytes bytes → Gives see r (packet_at bytes) → IfOk r (λ x. ((see x).1 ≤ length bytes) × Spells (take (see x).1 bytes) (see x).0)
is_found see bytes (Ok x) fits given =
    let t = packet_takes bytes (see x).0 (see x).1 fits given in
    let f = front_is bytes t.front t.rest (see x).1 t.len t.parts in
    (f.0, subst (λ (b : List ℕ). Spells b (see x).0) (sym f.1) t.spells)
is_found see bytes (Err e) fits given = tt

pub is_only : (bytes : List ℕ) (p : Message) (n : ℕ) → n ≤ length bytes → Spells (take n bytes) p → packet_at bytes ≡ Ok (p, n)
is_only bytes p n le is =
    let len : length (take n bytes) ≡ n = omega (arith, length-take n bytes) in
    ap packet_at (sym (take-append-drop n bytes)) ∙ packet_again (take n bytes) p (drop n bytes) is ∙ read_len p (length (take n bytes)) n len

pub is_named : {A : Type 0} (see : A → Message × ℕ) (bytes : List ℕ) (r : Result A PacketFault) → IsBytes bytes → Gives see r (packet_at bytes) → IfErr r (λ e. IsNamed e (first_of (refusals bytes)))
is_named see bytes (Ok x) fits given = tt
is_named see bytes (Err e) fits given = named_from e (packet_at bytes) (first_of (refusals bytes)) (packet_refused bytes) given

pub length_found : (bytes : List ℕ) (r : Result (ℕ × ℕ) PacketFault) → r ≡ length_at bytes → IfOk r (λ x. (x.1 ≤ length bytes) × IsLength (take x.1 bytes) x.0)
length_found bytes (Ok x) given =
    let t = length_takes 4 bytes x (sym given) in
    let f = front_is bytes t.text t.rest x.1 t.size_is t.parts in
    (f.0, subst (λ (b : List ℕ). IsLength b x.0) (sym f.1) (t.short, t.are))
length_found bytes (Err e) given = tt

pub length_only : (bytes : List ℕ) (n size : ℕ) → size ≤ length bytes → IsLength (take size bytes) n → length_at bytes ≡ length_read n size
length_only bytes n size le is =
    let len : length (take size bytes) ≡ size = omega (arith, length-take size bytes) in
    ap length_at (sym (take-append-drop size bytes)) ∙ length_again 4 (take size bytes) n (drop size bytes) is.0 is.1 ∙ ap (length_read n) len

pub length_named : (bytes : List ℕ) (r : Result (ℕ × ℕ) PacketFault) → r ≡ length_at bytes → IfErr r (λ e. first_of (length_refusals bytes) ≡ Some e)
length_named bytes (Ok x) given = tt
length_named bytes (Err e) given = sym (length_refused bytes) ∙ ap fault_of (sym given)

-- what is read has no refusal
pub is_clear : {A : Type 0} (see : A → Message × ℕ) (bytes : List ℕ) (r : Result A PacketFault) → Gives see r (packet_at bytes) → OnOk r (first_of (refusals bytes) ≡ None)
is_clear see bytes (Ok x) given = sym (packet_refused bytes) ∙ ap fault_of given
is_clear see bytes (Err e) given = tt

pub length_clear : (bytes : List ℕ) (r : Result (ℕ × ℕ) PacketFault) → r ≡ length_at bytes → OnOk r (first_of (length_refusals bytes) ≡ None)
length_clear bytes (Ok x) given = sym (length_refused bytes) ∙ ap fault_of (sym given)
length_clear bytes (Err e) given = tt
