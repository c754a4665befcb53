-- How many kept changes go: as many as the rules let go are as many as stay within a limit of bytes.
use Rattle.std.proofs.Common.{◌≡◌, ◌⊎◌, inl, inr, ◌∙◌, ap, sym, refl, subst, cond, ℕ, zero, suc, ◌+◌, ◌*◌, ◌-◌, ◌<◌, ◌≤◌, nat_lt, nat_le, Bool, true, false, List, [], ◌∷◌, ◌++◌, length, map, take, Some, None, is_none, arith}
use Rattle.std.specs.Prelude.{slice_get, ◌||◌}
use Rattle.std.specs.List.{flat_map}
use Rattle.std.proofs.lemmas.Bool.{true≢false, cases_lt, ltb-true, ltb-false, le-leb, lt-leb, lt-ltb}
use Rattle.std.proofs.lemmas.List.{length-append}
use Rattle.spk_protobuf.specs.Spelling.{groups_of, varint}
use Rattle.spk_payload.specs.Meaning.{MetricData}
use Rattle.spk_payload.specs.Spelling as payload
use Rattle.spk_payload.specs.Spelling.{number_field}
use Rattle.spk_packets.specs.Fault.{first_of}
use Rattle.spk_packets.specs.Grammar.{has_zero}
use Rattle.spk_packets.specs.Message.{Message, Publish}
use Rattle.spk_packets.specs.Spelling as packet
use Rattle.spk_packets.proofs.Written as written
use Rattle.spk_device.specs.declared.owner.Owner.{Owner}
use Rattle.spk_topics.specs.Spark.{topic_of}
use Rattle.spk_topics.specs.declared.spark.Verb.TheVariants.{Data}
use Rattle.spk_edge_rules.specs.declared.fault.EdgeFault.{EdgeFault}
use Rattle.spk_edge_rules.specs.declared.fault.EdgeFault.TheVariants.{NoMemory, TooLarge}
use Rattle.spk_edge_rules.specs.Births.{device_of, kept_metric, later_stamp}
use Rattle.spk_edge_rules.specs.History.{can_go, history, longest}
use Rattle.spk_edge_rules.specs.Messages.{spark_of}
use Rattle.spk_edge_rules.specs.Writable.{is_writable}
use Rattle.spk_edge_rules.proofs.Courses.{by_if, longest-few}
use Rattle.spk_edge.specs.History.{IsFill, IsFilled, IsFront, IsTaken, all_kept, dropped, given_with, going, message, payload_of, room, sending, sent}
use Rattle.spk_edge.specs.Rows.{payload_with, spelled}
use Rattle.spk_edge.specs.Sealing.{wire_of}
use Rattle.spk_edge.specs.View.{MessageData, NodeData, given_of, unnumbered}
use Rattle.spk_edge.proofs.Flushed.{take-map}

-- ---- the greatest number of which a fact holds

pub longest-of : (fact : ℕ → Bool) (most n : ℕ) → n ≤ most → (0 < n → fact n ≡ true) → ((k : ℕ) → n < k → k ≤ most → fact k ≡ false) → longest fact most ≡ n
longest-of fact zero n few holds above = omega (arith, few)
longest-of fact (suc m) n few holds above = by (fact (suc m)) refl (λ less. longest-of fact m n less holds (λ k over within. above k over (omega (arith, within))))
  where
    not-last : fact (suc m) ≡ false → n ≡ suc m → ⊥
    not-last e same = true≢false (sym (holds (omega (arith, same))) ∙ ap fact same ∙ e)

    below : fact (suc m) ≡ false → n ≤ m
    below e = elim (cases_lt m n) [
      | inl over ↦ absurd (not-last e (omega (arith, over, few)))
      | inr within ↦ within
    ]

    by : (b : Bool) → fact (suc m) ≡ b → (n ≤ m → longest fact m ≡ n) → cond b (suc m) (longest fact m) ≡ n
    by true e rest = elim (cases_lt n (suc m)) [
      | inl over ↦ absurd (true≢false (sym e ∙ above (suc m) over (omega arith)))
      | inr within ↦ omega (arith, within, few)
    ]
    by false e rest = rest (below e)

-- ---- how long a packet is

short-length : (n : ℕ) → n < 2097152 → length (packet.shortest n) ≤ 3
unfolding packet.shortest
short-length n few =
    by_if (λ (l : List ℕ). length l ≤ 3) (nat_lt n 128) _ _ (λ e. omega arith)
    (λ e. by_if (λ (l : List ℕ). length l ≤ 3) (nat_lt n 16384) _ _ (λ f. omega arith)
    (λ f. by_if (λ (l : List ℕ). length l ≤ 3) (nat_lt n 2097152) _ _ (λ g. omega arith)
    (λ g. let l = ltb-false n 2097152 g in absurd (omega (arith, l, few)))))

long-length : (n : ℕ) → 16384 ≤ n → 3 ≤ length (packet.shortest n)
unfolding packet.shortest
long-length n many =
    by_if (λ (l : List ℕ). 3 ≤ length l) (nat_lt n 128) _ _ (λ e. let l = ltb-true n 128 e in absurd (omega (arith, l, many)))
    (λ e. by_if (λ (l : List ℕ). 3 ≤ length l) (nat_lt n 16384) _ _ (λ f. let l = ltb-true n 16384 f in absurd (omega (arith, l, many)))
    (λ f. by_if (λ (l : List ℕ). 3 ≤ length l) (nat_lt n 2097152) _ _ (λ g. omega arith) (λ g. omega arith)))

abbrev publish : List ℕ → List ℕ → Message
publish topic bytes = Publish false 0 false topic None bytes

body-is : (topic bytes : List ℕ) → length (packet.body (publish topic bytes)) ≡ length topic + length bytes + 2
unfolding packet.body
body-is topic bytes = omega (arith, length-append topic bytes)

content-is : (topic bytes : List ℕ) → packet.is_bad_text topic ≡ false → first_of (packet.content_refusals (publish topic bytes)) ≡ None
unfolding packet.has_bad_text packet.has_bad_body packet.is_qos_two
content-is topic bytes good = rw good refl

bad-is : (topic bytes : List ℕ) → packet.is_bad_text topic ≡ true → is_writable (publish topic bytes) ≡ false
unfolding packet.has_bad_text
bad-is topic bytes bad = rw bad refl

good-is : (topic bytes : List ℕ) → packet.is_bad_text topic ≡ false → length topic ≤ 65535 → is_writable (publish topic bytes) ≡ nat_le (length bytes) (1048570 - length topic)
good-is topic bytes good short = elim (cases_lt (1048570 - length topic) (length bytes)) [
  | inl over ↦
      let body = body-is topic bytes in
      let head = long-length (length (packet.body (publish topic bytes))) (omega (arith, body, over, short)) in
      ap (λ o. is_none o) (written.is_too_large (publish topic bytes) (content-is topic bytes good) (omega (arith, body, over, short, head)))
      ∙ sym (lt-leb (length bytes) (1048570 - length topic) over)
  | inr within ↦
      let body = body-is topic bytes in
      let head = short-length (length (packet.body (publish topic bytes))) (omega (arith, body, within, short)) in
      ap (λ o. is_none o) (written.is_writable (publish topic bytes) (content-is topic bytes good) (omega (arith, body, within, short, head)))
      ∙ sym (le-leb (length bytes) (1048570 - length topic) within)
]

short-topic : (topic : List ℕ) → packet.is_bad_text topic ≡ false → length topic ≤ 65535
short-topic topic good = elim (cases_lt 65535 (length topic)) [
  | inl over ↦ absurd (true≢false (sym (ap (λ b. b || has_zero topic) (lt-ltb 65535 (length topic) over)) ∙ good))
  | inr within ↦ within
]

-- a payload can be sent on a topic exactly where there is room for it
pub writable-is : (topic bytes : List ℕ) → 0 < length bytes → is_writable (publish topic bytes) ≡ nat_le (length bytes) (room topic)
writable-is topic bytes some = by (packet.is_bad_text topic) refl
  where
    by : (b : Bool) → packet.is_bad_text topic ≡ b → is_writable (publish topic bytes) ≡ nat_le (length bytes) (cond b 0 (1048570 - length topic))
    by true e = bad-is topic bytes e ∙ sym (lt-leb (length bytes) 0 some)
    by false e = good-is topic bytes e (short-topic topic e)

-- ---- how long a payload is

varint-some : (n : ℕ) → 1 ≤ length (varint n)
unfolding varint groups_of
varint-some n = by_if (λ (l : List ℕ). 1 ≤ length l) (nat_lt n 128) _ _ (λ e. omega arith) (λ e. omega arith)

pub field-some : (tag n : ℕ) → 1 ≤ length (number_field tag n)
field-some tag n = let some = varint-some tag in omega (arith, some, length-append (varint tag) (varint n))

pub payload-length : (stamp seq : ℕ) (ms : List MetricData)
    → length (payload.spelling (payload_with stamp seq ms)) ≡ length (number_field (1 * 8) stamp) + length (flat_map spelled ms) + length (number_field (3 * 8) seq)
unfolding payload.spelling
payload-length stamp seq ms =
    let head = number_field (1 * 8) stamp in
    let middle = flat_map spelled ms in
    let tail = number_field (3 * 8) seq in
    let same : payload.spelling (payload_with stamp seq ms) ≡ (head ++ middle) ++ tail = refl in
    ap (λ (l : List ℕ). length l) same ∙ omega (arith, length-append (head ++ middle) tail, length-append head middle)

-- more metrics are no shorter
pub no-shorter : (i j : ℕ) (ms : List MetricData) → i ≤ j → length (flat_map spelled (take i ms)) ≤ length (flat_map spelled (take j ms))
no-shorter zero j [] few = omega arith
no-shorter zero j (m ∷ ms) few = omega arith
no-shorter (suc i) zero ms few = absurd (omega (arith, few))
no-shorter (suc i) (suc j) [] few = omega arith
no-shorter (suc i) (suc j) (m ∷ ms) few =
    let rest = no-shorter i j ms (omega (arith, few)) in
    omega (arith, rest, length-append (spelled m) (flat_map spelled (take i ms)), length-append (spelled m) (flat_map spelled (take j ms)))

-- ---- the rules' front

abbrev pub topic_at : NodeData → Owner → List ℕ
topic_at n owner = topic_of (spark_of n.config Data (device_of n.standing.asked.book owner))

size-at : (n : NodeData) (now k : ℕ)
    → length (payload.spelling (payload_of n now k))
    ≡ length (number_field (1 * 8) (later_stamp n.standing.asked.stamp now)) + length (flat_map spelled (take k (all_kept n.standing.asked))) + length (number_field (3 * 8) n.standing.seq)
size-at n now k = payload-length (later_stamp n.standing.asked.stamp now) n.standing.seq (take k (all_kept n.standing.asked))

size-some : (n : NodeData) (now k : ℕ) → 0 < length (payload.spelling (payload_of n now k))
size-some n now k = let some = field-some (1 * 8) (later_stamp n.standing.asked.stamp now) in let size = size-at n now k in omega (arith, some, size)

-- so many can go exactly where there is room for their payload
pub can-go : (n : NodeData) (now : ℕ) (owner : Owner) (k : ℕ)
    → can_go n.config n.standing.seq n.standing.asked.book owner (later_stamp n.standing.asked.stamp now) n.standing.asked.store.items k
    ≡ nat_le (length (payload.spelling (payload_of n now k))) (room (topic_at n owner))
can-go n now owner k =
    let a = n.standing.asked in
    ap (λ (ms : List MetricData). is_writable (publish (topic_at n owner) (payload.spelling (payload_with (later_stamp a.stamp now) n.standing.seq ms)))) (sym (take-map (kept_metric a.book) k a.store.items))
    ∙ writable-is (topic_at n owner) (payload.spelling (payload_of n now k)) (size-some n now k)

pub front-goes : (n : NodeData) (now : ℕ) (owner : Owner) (most count : ℕ) → IsFront n now (room (topic_at n owner)) most count → count ≡ going n now owner most
front-goes n now owner most count front =
    let a = n.standing.asked in
    sym (longest-of (can_go n.config n.standing.seq a.book owner (later_stamp a.stamp now) a.store.items) most count front.few
    (λ some. can-go n now owner count ∙ fits some front.within)
    (λ k over within. can-go n now owner k ∙ past k over within front.full))
  where
    fits : 0 < count → (count ≡ 0) ⊎ (length (payload.spelling (payload_of n now count)) ≤ room (topic_at n owner))
        → nat_le (length (payload.spelling (payload_of n now count))) (room (topic_at n owner)) ≡ true
    fits some (inl none) = absurd (omega (arith, some, none))
    fits some (inr within) = le-leb _ _ within

    past : (k : ℕ) → count < k → k ≤ most → (count ≡ most) ⊎ (room (topic_at n owner) < length (payload.spelling (payload_of n now (count + 1))))
        → nat_le (length (payload.spelling (payload_of n now k))) (room (topic_at n owner)) ≡ false
    past k over within (inl all) = absurd (omega (arith, over, within, all))
    past k over within (inr larger) =
        let one = size-at n now (count + 1) in
        let here = size-at n now k in
        let longer = no-shorter (count + 1) k (all_kept n.standing.asked) (omega (arith, over)) in
        lt-leb _ _ (omega (arith, larger, one, here, longer))

-- a front that stays within the limit stays within the room
pub fill-front : (n : NodeData) (now room most count head tail limit : ℕ) → head ≡ length (number_field (1 * 8) (later_stamp n.standing.asked.stamp now)) → tail ≡ length (number_field (3 * 8) n.standing.seq)
    → limit ≡ room - tail → IsFill head limit most (all_kept n.standing.asked) count → IsFront n now room most count
fill-front n now room most count head tail limit head-is tail-is limit-is fill =
    let some = field-some (1 * 8) (later_stamp n.standing.asked.stamp now) in
    record {
      few = fill.few;
      within = within some fill.within;
      full = full some fill.full;
    }
  where
    within : 1 ≤ length (number_field (1 * 8) (later_stamp n.standing.asked.stamp now)) → (count ≡ 0) ⊎ (head + length (flat_map spelled (take count (all_kept n.standing.asked))) ≤ limit)
        → (count ≡ 0) ⊎ (length (payload.spelling (payload_of n now count)) ≤ room)
    within some (inl none) = inl none
    within some (inr fits) = let size = size-at n now count in inr (omega (arith, some, fits, size, head-is, tail-is, limit-is))

    full : 1 ≤ length (number_field (1 * 8) (later_stamp n.standing.asked.stamp now)) → (count ≡ most) ⊎ (limit < head + length (flat_map spelled (take (count + 1) (all_kept n.standing.asked))))
        → (count ≡ most) ⊎ (room < length (payload.spelling (payload_of n now (count + 1))))
    full some (inl all) = inl all
    full some (inr over) = let size = size-at n now (count + 1) in inr (omega (arith, some, over, size, head-is, tail-is, limit-is))

-- ---- one place more

pub at-place : {X : Type 0} (xs : List X) (i : ℕ) → i < length xs → (x : X) × (slice_get xs i ≡ Some x)
at-place [] i below = absurd (omega (arith, below))
at-place (x ∷ xs) zero below = (x, refl)
at-place (x ∷ xs) (suc i) below = at-place xs i (omega (arith, below))

-- ---- what is written of the front

pub filled-front : (n : NodeData) (now room most count tail limit : ℕ) (front after : List ℕ) → front ≡ number_field (1 * 8) (later_stamp n.standing.asked.stamp now) → tail ≡ length (number_field (3 * 8) n.standing.seq)
    → limit ≡ room - tail → IsFilled limit most front after (all_kept n.standing.asked) count → IsFront n now room most count
filled-front n now room most count tail limit front after front-is tail-is limit-is filled =
    fill-front n now room most count (length front) tail limit (ap (λ (l : List ℕ). length l) front-is) tail-is limit-is filled.fill

-- a front that goes can be written
pub front-writes : (n : NodeData) (now : ℕ) (owner : Owner) (most count : ℕ) → IsFront n now (room (topic_at n owner)) most count → 0 < count → is_writable (wire_of (message n now owner count)) ≡ true
front-writes n now owner most count front some =
    writable-is (topic_at n owner) (payload.spelling (payload_of n now count)) (size-some n now count) ∙ by front.within
  where
    by : (count ≡ 0) ⊎ (length (payload.spelling (payload_of n now count)) ≤ room (topic_at n owner)) → nat_le (length (payload.spelling (payload_of n now count))) (room (topic_at n owner)) ≡ true
    by (inl none) = absurd (omega (arith, some, none))
    by (inr within) = le-leb _ _ within

-- no more go than are asked for
pub few-going : (n : NodeData) (now : ℕ) (owner : Owner) (most count : ℕ) → count ≡ going n now owner most → most ≤ length n.standing.asked.store.items → count ≤ length n.standing.asked.store.items
few-going n now owner most count is few =
    let a = n.standing.asked in
    let less = longest-few (can_go n.config n.standing.seq a.book owner (later_stamp a.stamp now) a.store.items) most in
    omega (arith, is, few, less)

-- so do the metrics that were taken
pub taken-going : (n : NodeData) (now : ℕ) (owner : Owner) (most room_ head tail limit : ℕ) (taken : List MetricData) → room_ ≡ room (topic_at n owner)
    → head ≡ length (number_field (1 * 8) (later_stamp n.standing.asked.stamp now)) → tail ≡ length (number_field (3 * 8) n.standing.seq) → limit ≡ room_ - tail
    → IsTaken head limit most (all_kept n.standing.asked) taken → length taken ≡ going n now owner most
taken-going n now owner most room_ head tail limit taken room-is head-is tail-is limit-is is =
    front-goes n now owner most (length taken)
    (subst (λ r. IsFront n now r most (length taken)) room-is (fill-front n now room_ most (length taken) head tail limit head-is tail-is limit-is is.fill))

pub none-sending : (n : NodeData) (now : ℕ) (owner : Owner) (most count : ℕ) → count ≡ going n now owner most → count ≡ 0 → dropped n.standing.asked 1 ≡ sending n.standing.asked now owner (going n now owner most)
none-sending n now owner most count is none = ap (sending n.standing.asked now owner) (sym none ∙ is)

abbrev unnumbered_so : List ℕ → ℕ → List MetricData → MessageData
unnumbered_so topic stamp metrics = record { topic = topic; payload = record { timestamp = Some stamp; metrics = metrics; seq = None }; stamp = stamp; opens = false }

-- the message of the metrics that were taken is given
pub some-sending : (n : NodeData) (now : ℕ) (owner : Owner) (most count stamp : ℕ) (topic : List ℕ) (taken : List MetricData) (m : MessageData) → count ≡ length taken → count ≡ going n now owner most → (count ≡ 0 → ⊥)
    → topic ≡ topic_at n owner → stamp ≡ later_stamp n.standing.asked.stamp now → taken ≡ take (length taken) (all_kept n.standing.asked)
    → m ≡ (record { topic = topic; payload = record { timestamp = Some stamp; metrics = taken; seq = None }; stamp = stamp; opens = false })
    → given_with n.config n.standing.asked m count ≡ given_of n.config n.standing.asked.heard (sending n.standing.asked now owner (going n now owner most))
some-sending n now owner most count stamp topic taken m size is some topic-is stamp-is taken-is m-is =
    let a = n.standing.asked in
    let metrics : taken ≡ map (kept_metric a.book) (take count a.store.items) =
    taken-is ∙ ap (λ k. take k (all_kept a)) (sym size) ∙ take-map (kept_metric a.book) count a.store.items in
    let said : m ≡ unnumbered n.config (history a.book owner (later_stamp a.stamp now) a.store.items count) =
    m-is ∙ ap (λ (t : List ℕ). unnumbered_so t stamp taken) topic-is ∙ ap (λ k. unnumbered_so (topic_at n owner) k taken) stamp-is
    ∙ ap (λ (ms : List MetricData). unnumbered_so (topic_at n owner) (later_stamp a.stamp now) ms) metrics in
    ap (λ (x : MessageData). given_with n.config a x count) said
    ∙ ap (λ (b : Bool). given_of n.config a.heard (cond b (sent a now owner count) (dropped a 1))) (sym (lt-ltb 0 count (positive count some)))
    ∙ ap (λ k. given_of n.config a.heard (sending a now owner k)) is
  where
    positive : (k : ℕ) → (k ≡ 0 → ⊥) → 0 < k
    positive zero not = absurd (not refl)
    positive (suc k) not = omega arith

pub above : (n : ℕ) → (n ≡ 0 → ⊥) → 0 < n
above zero not = absurd (not refl)
above (suc n) not = omega arith

-- what can be written is refused for memory alone
pub never-large : (e : EdgeFault) (p : Message) → (e ≡ NoMemory) ⊎ ((e ≡ TooLarge) × (is_writable p ≡ false)) → is_writable p ≡ true → e ≡ NoMemory
never-large e p (inl memory) can = memory
never-large e p (inr (large, never)) can = absurd (true≢false (sym can ∙ never))
