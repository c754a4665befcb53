-- Numbers that count on are the numbers of positions.
use Rattle.std.proofs.Common.{◌≡◌, ℕ, zero, suc, ◌+◌, ◌-◌, ◌%◌, ◌<◌, Bool, true, false, cond, List, [], ◌∷◌, ◌++◌, length, refl, sym, ◌∙◌, ap, subst, arith, append_assoc, length-append}
use Rattle.std.proofs.Math.Seq.{get_or-append_seam}
use Rattle.std.proofs.lemmas.List.{append-nil}
use Rattle.spk_packets.specs.Message as packets
use Rattle.spk_sequence.specs.NodeRecord as sequence
use Rattle.spk_sequence.specs.NodeRecord.{Numbering, RunsOn, Restarts}
use Rattle.spk_edge_rules.specs.Config.{Setup}
use Rattle.spk_edge_rules.specs.Messages.{Draft, opens, wire}
use Rattle.spk_edge_rules.specs.Step.{begins_anew, next_of, number_of, seq_after, wires}
use Rattle.spk_edge_rules.specs.Run.{Message, births_in, number_at, outline, posts, setting_of, wires_at, with_posts}
use Rattle.spk_edge_rules.specs.Claims.{numbers_at, numbers_from}
use Rattle.spk_edge_rules.proofs.Chains.{Ends, births-snoc, no_draft, opens-at, same-start, start-below}

-- ---- one message at a time

abbrev pub post : ℕ → List Message → Draft → Message
post session messages d = record {
  birth = cond (opens d) (births_in messages + 1) (births_in messages) - 1;
  session = session;
  draft = d;
}

abbrev pub with_post : ℕ → List Message → Draft → List Message
with_post session messages d = messages ++ post session messages d ∷ []

one-more : (b : Bool) (n : ℕ) → cond b (n + 1) n ≡ n + cond b 1 0
one-more true n = refl
one-more false n = omega arith

pub posted-cons : (session : ℕ) (messages : List Message) (d : Draft) (ds : List Draft) → with_posts messages session (d ∷ ds) ≡ with_posts (with_post session messages d) session ds
posted-cons session messages d ds =
    ap (λ b. messages ++ (post session messages d ∷ posts session b ds)) (one-more (opens d) (births_in messages) ∙ sym (births-snoc messages (post session messages d)))
    ∙ sym (append_assoc messages (post session messages d ∷ []) (posts session (births_in (with_post session messages d)) ds))

-- each message stands in line where it is put
abbrev pub Posted : ℕ → List Message → List Draft → Type 0
Posted session messages [] = Unit {0}
Posted session messages (d ∷ ds) = Ends (with_post session messages d) (post session messages d) × Posted session (with_post session messages d) ds

-- the last of them
pub posted-last : (session : ℕ) (messages : List Message) (d : Draft) (ds : List Draft) → Posted session messages (d ∷ ds)
    → (m : Message) × Ends (with_posts messages session (d ∷ ds)) m × (m.session ≡ session)
posted-last session messages d [] posted =
    let same : with_posts messages session (d ∷ []) ≡ with_post session messages d = posted-cons session messages d [] ∙ append-nil (with_post session messages d) in
    (post session messages d, subst (λ (ms : List Message). Ends ms (post session messages d)) (sym same) posted.0, refl)
posted-last session messages d (e ∷ ds) posted =
    let rest = posted-last session (with_post session messages d) e ds posted.1 in
    (rest.0, subst (λ (ms : List Message). Ends ms rest.0) (sym (posted-cons session messages d (e ∷ ds))) rest.1, rest.2)

-- ---- the number that comes next

abbrev pub SeqBy : Numbering → Setup → List Message → ℕ → Type 0
SeqBy RunsOn s messages seq = seq ≡ (s.seq + length messages) % 256
SeqBy Restarts s messages seq = 0 < length messages → seq ≡ (length messages - sequence.start_of (outline messages) (length messages - 1)) % 256

abbrev pub SeqIs : Setup → List Message → ℕ → Type 0
SeqIs s messages seq = SeqBy s.config.numbering s messages seq

-- a number within a birth
restart-number : (published : sequence.NodeRecord) (seq n : ℕ) (b : Bool) → sequence.opens published n ≡ b
    → ((k : ℕ) → n ≡ suc k → seq ≡ (n - sequence.start_of published k) % 256) → (n - sequence.start_of published n) % 256 ≡ cond b 0 seq
restart-number published seq zero b is before = ap (λ c. cond c 0 seq) is
restart-number published seq (suc k) true is before =
    ap (λ c. (suc k - cond c (suc k) (sequence.start_of published k)) % 256) is ∙ omega arith
restart-number published seq (suc k) false is before =
    ap (λ c. (suc k - cond c (suc k) (sequence.start_of published k)) % 256) is ∙ sym (before k refl)

length-post : (session : ℕ) (messages : List Message) (d : Draft) → length (with_post session messages d) ≡ length messages + 1
length-post session messages d = length-append messages (post session messages d ∷ [])

opens-post : (session : ℕ) (messages : List Message) (d : Draft) → Ends (with_post session messages d) (post session messages d)
    → sequence.opens (outline (with_post session messages d)) (length messages) ≡ opens d
opens-post session messages d ends =
    let size = length-post session messages d in
    opens-at (with_post session messages d) (length messages) ends.chain (omega (arith, size))
    ∙ ap (λ (m : Message). opens m.draft) (get_or-append_seam messages (post session messages d) [] (record { birth = 0; session = 0; draft = no_draft }))

pub number-post : (s : Setup) (session : ℕ) (messages : List Message) (d : Draft) (seq : ℕ) → SeqIs s messages seq
    → Ends (with_post session messages d) (post session messages d)
    → number_at s (with_post session messages d) (length messages) ≡ number_of s.config seq d
number-post s session messages d seq is ends = go s.config.numbering is
  where
    go : (numbering : Numbering) → SeqBy numbering s messages seq
        → sequence.number_by numbering (setting_of s (with_post session messages d)) (length messages) ≡ cond (begins_anew numbering d) 0 seq
    go RunsOn is = sym is
    go Restarts is =
        restart-number (outline (with_post session messages d)) seq (length messages) (opens d) (opens-post session messages d ends)
        (λ k more.
        let low : 0 < length messages = omega (arith, more) in
        let below : k < length messages = omega (arith, more) in
        let e : length messages - 1 ≡ k = omega (arith, more) in
        is low
        ∙ ap (λ q. (length messages - sequence.start_of (outline messages) q) % 256) e
        ∙ ap (λ q. (length messages - q) % 256) (sym (same-start messages (post session messages d ∷ []) k below)))

pub seq-post : (s : Setup) (session : ℕ) (messages : List Message) (d : Draft) (seq : ℕ) → SeqIs s messages seq
    → Ends (with_post session messages d) (post session messages d)
    → SeqIs s (with_post session messages d) (next_of s.config seq d)
seq-post s session messages d seq is ends = go s.config.numbering (number_of s.config seq d) (number-post s session messages d seq is ends)
  where
    size : length (with_post session messages d) ≡ length messages + 1
    size = length-post session messages d

    go : (numbering : Numbering) (number : ℕ) → sequence.number_by numbering (setting_of s (with_post session messages d)) (length messages) ≡ number
        → SeqBy numbering s (with_post session messages d) ((number + 1) % 256)
    go RunsOn number now = let e = size in omega (arith, e, now)
    go Restarts number now = λ some.
        let e = size in
        let last : length (with_post session messages d) - 1 ≡ length messages = omega (arith, e) in
        let low = start-below (outline (with_post session messages d)) (length messages) in
        let here : (number + 1) % 256 ≡ (length messages + 1 - sequence.start_of (outline (with_post session messages d)) (length messages)) % 256 = omega (arith, now, low) in
        here
        ∙ ap (λ n. (n - sequence.start_of (outline (with_post session messages d)) (length messages)) % 256) (sym e)
        ∙ ap (λ q. (length (with_post session messages d) - sequence.start_of (outline (with_post session messages d)) q) % 256) (sym last)

-- a number stays when more is published
pub number-stays : (s : Setup) (messages more : List Message) (p : ℕ) → p < length messages → number_at s (messages ++ more) p ≡ number_at s messages p
number-stays s messages more p below = go s.config.numbering
  where
    go : (numbering : Numbering) → sequence.number_by numbering (setting_of s (messages ++ more)) p ≡ sequence.number_by numbering (setting_of s messages) p
    go RunsOn = refl
    go Restarts = ap (λ q. (p - q) % 256) (same-start messages more p below)

-- ---- all messages of an input

pub wires-right : (s : Setup) (session : ℕ) (ds : List Draft) (messages : List Message) (seq : ℕ) → Posted session messages ds → SeqIs s messages seq
    → wires s.config seq ds ≡ wires_at s (with_posts messages session ds) (length messages) ds
wires-right s session [] messages seq posted is = refl
wires-right s session (d ∷ ds) messages seq posted is =
    let ys = with_post session messages d in
    let more = posts session (births_in ys) ds in
    let size : length ys ≡ length messages + 1 = length-post session messages d in
    let head : number_of s.config seq d ≡ number_at s (ys ++ more) (length messages) =
    sym (number-post s session messages d seq is posted.0) ∙ sym (number-stays s ys more (length messages) (omega (arith, size))) in
    let tail : wires s.config (next_of s.config seq d) ds ≡ wires_at s (ys ++ more) (length messages + 1) ds =
    wires-right s session ds ys (next_of s.config seq d) posted.1 (seq-post s session messages d seq is posted.0)
    ∙ ap (λ n. wires_at s (ys ++ more) n ds) size in
    ap (λ n. wire s.config n d ∷ wires s.config (next_of s.config seq d) ds) head
    ∙ ap (λ (ws : List packets.Message). wire s.config (number_at s (ys ++ more) (length messages)) d ∷ ws) tail
    ∙ ap (λ (ms : List Message). wires_at s ms (length messages) (d ∷ ds)) (sym (posted-cons session messages d ds))

pub seq-right : (s : Setup) (session : ℕ) (ds : List Draft) (messages : List Message) (seq : ℕ) → Posted session messages ds → SeqIs s messages seq
    → SeqIs s (with_posts messages session ds) (seq_after s.config seq ds)
seq-right s session [] messages seq posted is = subst (λ (ms : List Message). SeqIs s ms seq) (sym (append-nil messages)) is
seq-right s session (d ∷ ds) messages seq posted is =
    subst (λ (ms : List Message). SeqIs s ms (seq_after s.config seq (d ∷ ds))) (sym (posted-cons session messages d ds))
    (seq-right s session ds (with_post session messages d) (next_of s.config seq d) posted.1 (seq-post s session messages d seq is posted.0))

pub numbers-right : (s : Setup) (session : ℕ) (ds : List Draft) (messages : List Message) (seq : ℕ) → Posted session messages ds → SeqIs s messages seq
    → numbers_from s.config seq ds ≡ numbers_at s (with_posts messages session ds) (length messages) ds
numbers-right s session [] messages seq posted is = refl
numbers-right s session (d ∷ ds) messages seq posted is =
    let ys = with_post session messages d in
    let more = posts session (births_in ys) ds in
    let size : length ys ≡ length messages + 1 = length-post session messages d in
    let head : number_of s.config seq d ≡ number_at s (ys ++ more) (length messages) =
    sym (number-post s session messages d seq is posted.0) ∙ sym (number-stays s ys more (length messages) (omega (arith, size))) in
    let tail : numbers_from s.config (next_of s.config seq d) ds ≡ numbers_at s (ys ++ more) (length messages + 1) ds =
    numbers-right s session ds ys (next_of s.config seq d) posted.1 (seq-post s session messages d seq is posted.0)
    ∙ ap (λ n. numbers_at s (ys ++ more) n ds) size in
    ap (λ n. n ∷ numbers_from s.config (next_of s.config seq d) ds) head
    ∙ ap (λ (ns : List ℕ). number_at s (ys ++ more) (length messages) ∷ ns) tail
    ∙ ap (λ (ms : List Message). numbers_at s ms (length messages) (d ∷ ds)) (sym (posted-cons session messages d ds))
