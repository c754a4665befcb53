-- What is numbered and written is what was given.
use Rattle.std.proofs.Common.{◌≡◌, inl, inr, ◌∙◌, ap, sym, refl, subst, ℕ, Bool, true, false, not, List, [], ◌∷◌, ◌++◌, map, suc, length, take, drop, arith}
use Rattle.std.specs.List.{AllByRecursion, list_all}
use Rattle.std.proofs.Math.ListN.{drop_of_length-le}
use Rattle.std.proofs.lemmas.List.{append-nil, length-map, take_all}
use Rattle.spk_packets.specs.Message as packets
use Rattle.spk_sequence.specs.NodeRecord.{Numbering}
use Rattle.spk_edge_rules.specs.Writable.{is_writable}
use Rattle.spk_edge_rules.specs.declared.fault.EdgeFault.{EdgeFault}
use Rattle.spk_edge.specs.Patch.{IsUnsealed, are_timely, numbers_of, packets_of}
use Rattle.spk_edge.specs.Sealing.{AllKnown, AreKnown, IsUnwritten, next_in, numbered, wire_of}
use Rattle.spk_edge.specs.View.{GivenData, MessageData, NodeData, message_view}
use Rattle.spk_edge.specs.declared.message.Published.{Published}
use Rattle.spk_edge.proofs.Devices.{map-twice}

-- numbers change no metric
known-numbered : (numbering : Numbering) (seq : ℕ) (ms : List MessageData) → AllKnown ms → AllKnown (numbered numbering seq ms)
known-numbered numbering seq [] all = tt
known-numbered numbering seq (m ∷ ms) all = (all.0, known-numbered numbering (next_in numbering seq m) ms all.1)

known-of-map : (ms : List Published) → AllKnown (map message_view ms) → AllByRecursion (λ m. AreKnown (message_view m).payload.metrics) ms
known-of-map [] all = tt
known-of-map (m ∷ ms) all = (all.0, known-of-map ms all.1)

-- the messages with their numbers are known, as they were before
pub still-known : (n : NodeData) (g : GivenData) (ms : List Published) → map message_view ms ≡ numbers_of n g → AllKnown g.messages
    → AllByRecursion (λ m. AreKnown (message_view m).payload.metrics) ms
still-known n g ms same all = known-of-map ms (subst AllKnown (sym same) (known-numbered n.config.numbering n.standing.seq g.messages all))

-- the packets are those of the messages
pub same-packets : (n : NodeData) (g : GivenData) (ms : List Published) → map message_view ms ≡ numbers_of n g
    → g.plain ++ map (λ (m : Published). wire_of (message_view m)) ms ≡ packets_of n g
same-packets n g ms same = ap (λ (l : List packets.Message). g.plain ++ l) (map-twice wire_of message_view ms ∙ ap (map wire_of) same)

pub not_false : (b : Bool) → not b ≡ false → b ≡ true
not_false true e = refl
not_false false e = absurd (let x : ⊥ = cc in x)

pub unsealed : (n : NodeData) (g : GivenData) (ps : List packets.Message) (e : EdgeFault) → ps ≡ packets_of n g → are_timely g.messages ≡ true → IsUnwritten ps e → IsUnsealed n g e
unsealed n g ps e same timely (inl memory) = inl memory
unsealed n g ps e same timely (inr large) = inr (inr (large.0, timely, ap (list_all is_writable) (sym same) ∙ large.1))

length-numbered : (numbering : Numbering) (seq : ℕ) (ms : List MessageData) → length (numbered numbering seq ms) ≡ length ms
length-numbered numbering seq [] = refl
length-numbered numbering seq (m ∷ ms) = ap (λ n. suc n) (length-numbered numbering (next_in numbering seq m) ms)

pub numbers-are : (n : NodeData) (numbering : Numbering) (seq : ℕ) (old here new : List Published) → numbering ≡ n.config.numbering → seq ≡ n.standing.seq
    → map message_view new ≡ numbered numbering seq (map message_view here) → here ≡ old → map message_view new ≡ numbered n.config.numbering n.standing.seq (map message_view old)
numbers-are n numbering seq old here new same_numbering same_seq is same =
    is ∙ ap (λ (l : List Published). numbered numbering seq (map message_view l)) same
    ∙ ap (λ m. numbered m seq (map message_view old)) same_numbering ∙ ap (λ s. numbered n.config.numbering s (map message_view old)) same_seq

-- what is written back is the whole of it
pub refilled : (len : ℕ) (numbering : Numbering) (seq : ℕ) (old here new : List Published) → map message_view new ≡ numbered numbering seq (map message_view here) → here ≡ old
    → length old ≡ len → take len (new ++ drop (length new) old) ≡ new
refilled len numbering seq old here new is same size =
    let a : length (map message_view new) ≡ length new = length-map new message_view in
    let b : length (numbered numbering seq (map message_view here)) ≡ length (map message_view here) = length-numbered numbering seq (map message_view here) in
    let d : length (map message_view here) ≡ length here = length-map here message_view in
    let e : length here ≡ length old = ap (λ (l : List Published). length l) same in
    let f : length (map message_view new) ≡ length (numbered numbering seq (map message_view here)) = ap (λ (l : List MessageData). length l) is in
    let whole : length new ≡ length old = sym a ∙ f ∙ b ∙ d ∙ e in
    let gone : drop (length new) old ≡ [] = drop_of_length-le old (omega (arith, whole)) in
    ap (λ (l : List Published). take len (new ++ l)) gone ∙ ap (take len) (append-nil new) ∙ take_all len new (omega (arith, whole, size))
