-- Births whose packets are written one after the other.
use Rattle.std.proofs.Common.{drop_of_length-le, ◌≡◌, ◌∙◌, inl, inr, ap, sym, refl, subst, ℕ, ◌+◌, ◌<◌, ◌≤◌, Bool, true, ◌&&◌, List, [], ◌∷◌, ◌++◌, length, map, drop, slice_get, arith, append_assoc}
use Rattle.std.specs.List.{enumerate_from, filter, list_all}
use Rattle.std.proofs.lemmas.List.{append-nil, map-append}
use Rattle.std.proofs.lemmas.List.Folds.{list_all-append}
use Rattle.spk_packets.specs.Spelling.{spelling}
use Rattle.spk_device.specs.Book.{Book, DeviceData, device_at}
use Rattle.spk_sequence.specs.NodeRecord.{Numbering}
use Rattle.spk_edge_rules.specs.Writable.{is_writable}
use Rattle.spk_edge_rules.specs.Births.{births_at, device_birth, node_birth}
use Rattle.spk_edge_rules.specs.Config.{Config}
use Rattle.spk_edge_rules.specs.declared.fault.EdgeFault.{EdgeFault}
use Rattle.spk_edge.specs.Listed.{birth_if_up, births_from}
use Rattle.spk_edge.specs.Rows.{all_born}
use Rattle.spk_edge.specs.Sealing.{AreWhole, IsUnwritten, next_in, number_in, numbered, seq_past, wire_of, with_number}
use Rattle.spk_edge.specs.View.{MessageData, NodeData, unnumbered}
use Rattle.spk_edge.proofs.Devices.{births-step, map-twice}

-- ---- numbers of a list and one behind it

numbered-append : (m : Numbering) (seq : ℕ) (xs ys : List MessageData) → numbered m seq (xs ++ ys) ≡ numbered m seq xs ++ numbered m (seq_past m seq xs) ys
numbered-append m seq [] ys = refl
numbered-append m seq (x ∷ xs) ys = ap (λ (l : List MessageData). with_number (number_in m seq x) x ∷ l) (numbered-append m (next_in m seq x) xs ys)

past-append : (m : Numbering) (seq : ℕ) (xs ys : List MessageData) → seq_past m seq (xs ++ ys) ≡ seq_past m (seq_past m seq xs) ys
past-append m seq [] ys = refl
past-append m seq (x ∷ xs) ys = past-append m (next_in m seq x) xs ys

wholes-append : (xs ys : List MessageData) → AreWhole xs → AreWhole ys → AreWhole (xs ++ ys)
wholes-append [] ys a b = b
wholes-append (x ∷ xs) ys a b = (a.0, wholes-append xs ys a.1 b)

-- ---- packets so far, and the messages that are left

abbrev pub bytes_for : List MessageData → List (List ℕ)
bytes_for ms = map spelling (map wire_of ms)

abbrev pub can_write : List MessageData → Bool
can_write ms = list_all is_writable (map wire_of ms)

bytes-append : (xs ys : List MessageData) → bytes_for (xs ++ ys) ≡ bytes_for xs ++ bytes_for ys
bytes-append xs ys = ap (map spelling) (map-append wire_of xs ys) ∙ map-append spelling (map wire_of xs) (map wire_of ys)

write-append : (xs ys : List MessageData) → can_write (xs ++ ys) ≡ (can_write xs && can_write ys)
write-append xs ys = ap (list_all is_writable) (map-append wire_of xs ys) ∙ list_all-append is_writable (map wire_of xs) (map wire_of ys)

-- all that is to be written, before its numbers
abbrev pub all_of : NodeData → ℕ → List MessageData
all_of n stamp = map (unnumbered n.config) (births_at n.standing.asked.book n.standing.asked.will_bd stamp)

-- with those that are left under the number that comes next they are all
pub record IsSoFar (n : NodeData) (stamp : ℕ) (before here : List (List ℕ)) (next : ℕ) (left : List MessageData) : Type 0 where
  pub bytes : here ++ bytes_for (numbered n.config.numbering next left) ≡ before ++ bytes_for (all_born n stamp)
  pub writable : can_write (numbered n.config.numbering next left) ≡ can_write (all_born n stamp)
  pub whole : AreWhole (numbered n.config.numbering next left) → AreWhole (all_born n stamp)
  pub past : seq_past n.config.numbering next left ≡ seq_past n.config.numbering n.standing.seq (all_of n stamp)

pub so-far-start : (n : NodeData) (stamp : ℕ) (before : List (List ℕ)) → IsSoFar n stamp before before n.standing.seq (all_of n stamp)
so-far-start n stamp before = record { bytes = refl; writable = refl; whole = λ all. all; past = refl }

pub so-far-step : (n : NodeData) (stamp : ℕ) (before here new : List (List ℕ)) (next after : ℕ) (left one rest : List MessageData) → IsSoFar n stamp before here next left → left ≡ one ++ rest
    → new ≡ here ++ bytes_for (numbered n.config.numbering next one) → can_write (numbered n.config.numbering next one) ≡ true → AreWhole (numbered n.config.numbering next one)
    → after ≡ seq_past n.config.numbering next one → IsSoFar n stamp before new after rest
so-far-step n stamp before here new next after left one rest so_far parts more writable whole past =
    let m = n.config.numbering in
    let ones = numbered m next one in
    let others = numbered m (seq_past m next one) rest in
    let split : numbered m next left ≡ ones ++ others = ap (numbered m next) parts ∙ numbered-append m next one rest in
    let same : numbered m after rest ≡ others = ap (λ k. numbered m k rest) past in
    record {
      bytes = ap (λ (l : List MessageData). new ++ bytes_for l) same ∙ ap (λ (l : List (List ℕ)). l ++ bytes_for others) more ∙ append_assoc here (bytes_for ones) (bytes_for others)
          ∙ ap (λ (l : List (List ℕ)). here ++ l) (sym (bytes-append ones others)) ∙ ap (λ (l : List MessageData). here ++ bytes_for l) (sym split) ∙ so_far.bytes;
      writable = ap can_write same ∙ ap (λ b. b && can_write others) (sym writable) ∙ sym (write-append ones others) ∙ ap can_write (sym split) ∙ so_far.writable;
      whole = λ all. so_far.whole (subst AreWhole (sym split) (wholes-append ones others whole (subst AreWhole same all)));
      past = ap (λ k. seq_past m k rest) past ∙ sym (past-append m next one rest) ∙ ap (seq_past m next) (sym parts) ∙ so_far.past;
    }

pub so-far-bytes : (n : NodeData) (stamp : ℕ) (before here : List (List ℕ)) (next : ℕ) (left : List MessageData) → IsSoFar n stamp before here next left → left ≡ []
    → here ≡ before ++ bytes_for (all_born n stamp)
so-far-bytes n stamp before here next left so_far none =
    sym (append-nil here) ∙ ap (λ (l : List MessageData). here ++ bytes_for (numbered n.config.numbering next l)) (sym none) ∙ so_far.bytes

pub so-far-writable : (n : NodeData) (stamp : ℕ) (before here : List (List ℕ)) (next : ℕ) (left : List MessageData) → IsSoFar n stamp before here next left → left ≡ []
    → can_write (all_born n stamp) ≡ true
so-far-writable n stamp before here next left so_far none =
    sym so_far.writable ∙ ap (λ (l : List MessageData). can_write (numbered n.config.numbering next l)) none

pub so-far-whole : (n : NodeData) (stamp : ℕ) (before here : List (List ℕ)) (next : ℕ) (left : List MessageData) → IsSoFar n stamp before here next left → left ≡ [] → AreWhole (all_born n stamp)
so-far-whole n stamp before here next left so_far none =
    so_far.whole (subst (λ (l : List MessageData). AreWhole (numbered n.config.numbering next l)) (sym none) tt)

pub so-far-past : (n : NodeData) (stamp : ℕ) (before here : List (List ℕ)) (next : ℕ) (left : List MessageData) → IsSoFar n stamp before here next left → left ≡ []
    → next ≡ seq_past n.config.numbering n.standing.seq (all_of n stamp)
so-far-past n stamp before here next left so_far none = ap (seq_past n.config.numbering next) (sym none) ∙ so_far.past

-- one that can't be written
pub so-far-never : (n : NodeData) (stamp : ℕ) (before here : List (List ℕ)) (next : ℕ) (left one rest : List MessageData) (e : EdgeFault) → IsSoFar n stamp before here next left → left ≡ one ++ rest
    → IsUnwritten (map wire_of (numbered n.config.numbering next one)) e → IsUnwritten (map wire_of (all_born n stamp)) e
so-far-never n stamp before here next left one rest e so_far parts (inl memory) = inl memory
so-far-never n stamp before here next left one rest e so_far parts (inr (large, never)) =
    let m = n.config.numbering in
    let split : numbered m next left ≡ numbered m next one ++ numbered m (seq_past m next one) rest = ap (numbered m next) parts ∙ numbered-append m next one rest in
    inr (
      large,
      sym so_far.writable ∙ ap can_write split ∙ write-append (numbered m next one) (numbered m (seq_past m next one) rest) ∙ ap (λ b. b && can_write (numbered m (seq_past m next one) rest)) never,
    )

-- ---- the births of a node

-- the NBIRTH, and those of the devices
pub node-first : (n : NodeData) (stamp : ℕ)
    → all_of n stamp ≡ (unnumbered n.config (node_birth n.standing.asked.book n.standing.asked.will_bd stamp) ∷ []) ++ births_from n.config n.standing.asked.book stamp 0 n.standing.asked.book.devices
node-first n stamp =
    let b = n.standing.asked.book in
    ap (λ (l : List MessageData). unnumbered n.config (node_birth b n.standing.asked.will_bd stamp) ∷ l)
    (sym (map-twice (unnumbered n.config) (device_birth b stamp) (filter (λ (e : ℕ × DeviceData). e.1.up) (enumerate_from 0 b.devices))))

pub left-step : (c : Config) (b : Book) (stamp i : ℕ) → i < length b.devices
    → births_from c b stamp i (drop i b.devices) ≡ birth_if_up c b stamp i (device_at b i) ++ births_from c b stamp (i + 1) (drop (i + 1) b.devices)
left-step c b stamp i below =
    let z : 0 + i ≡ i = omega arith in
    ap (λ k. births_from c b stamp k (drop i b.devices)) (sym z) ∙ births-step c b stamp 0 i b.devices below
    ∙ ap (λ k. birth_if_up c b stamp k (slice_get b.devices i) ++ births_from c b stamp (k + 1) (drop (i + 1) b.devices)) z

pub left-none : (c : Config) (b : Book) (stamp i : ℕ) → length b.devices ≤ i → births_from c b stamp i (drop i b.devices) ≡ []
left-none c b stamp i past = ap (births_from c b stamp i) (drop_of_length-le b.devices past)
