-- Numbers of messages in a row.
use Rattle.std.proofs.Common.{◌≡◌, ◌∙◌, ap, sym, refl, subst, ℕ, zero, suc, ◌+◌, ◌-◌, ◌%◌, ◌<◌, ◌≤◌, cond, get_or, length, slice_get, arith, false, List, Option, Some, None, option_map}
use Rattle.std.proofs.lemmas.Option.{slice_get-get_or, slice_get_within}
use Rattle.spk_sequence.specs.NodeRecord as sequence
use Rattle.spk_sequence.specs.NodeRecord.{NodeRecord, Numbering, Restarts, RunsOn, Setting, number_by, start_of}
use Rattle.spk_edge_rules.specs.Config.{Setup}
use Rattle.spk_edge_rules.specs.Messages.{opens}
use Rattle.spk_edge_rules.specs.Run.{Message, number_at, outline, setting_of}
use Rattle.spk_edge.specs.Along.{message_at}
use Rattle.spk_edge.specs.Calls.{AreNumberedOnce, GoesOn}
use Rattle.spk_edge.specs.View.{MessageData}

-- ---- numbers

runs : (c j k : ℕ) → j < k → k < j + 256 → (c + j) % 256 ≡ (c + k) % 256 → ⊥
runs c j k less near same = absurd (omega arith)

restarts : (a j k : ℕ) → j < k → k < j + 256 → a ≤ j → (j - a) % 256 ≡ (k - a) % 256 → ⊥
restarts a j k less near below same = absurd (omega arith)

differ-by : (numbering : Numbering) (s : Setting) (j k : ℕ) → j < k → k < j + 256 → start_of s.published j ≤ j
    → (numbering ≡ Restarts → start_of s.published k ≡ start_of s.published j) → number_by numbering s j ≡ number_by numbering s k → ⊥
differ-by RunsOn s j k less near below start same = runs s.seq j k less near same
differ-by Restarts s j k less near below start same =
    restarts (start_of s.published j) j k less near below (same ∙ ap (λ a. (k - a) % 256) (start refl))

-- no birth begins behind j, up to d places on
same-start : (xs : NodeRecord) (j d : ℕ) → ((q : ℕ) → j < q → q ≤ j + d → sequence.opens xs q ≡ false) → start_of xs (j + d) ≡ start_of xs j
same-start xs j zero none = let e : j + zero ≡ j = omega arith in ap (start_of xs) e
same-start xs j (suc d) none =
    let e : j + suc d ≡ suc (j + d) = omega arith in
    let shut : sequence.opens xs (suc (j + d)) ≡ false = none (suc (j + d)) (omega arith) (omega arith) in
    ap (start_of xs) e ∙ ap (λ b. cond b (suc (j + d)) (start_of xs (j + d))) shut
    ∙ same-start xs j d (λ q after below. none q after (omega (arith, below)))

-- ---- messages

found : {X Y : Type 0} (f : X → Y) (o : Option X) (y : Y) → option_map f o ≡ Some y → (x : X) × (o ≡ Some x) × (y ≡ f x)
found f None y e = cc
found f (Some x) y e = let same : f x ≡ y = cc in (x, refl, sym same)

some-same : (x y : ℕ) → Some x ≡ Some y → x ≡ y
some-same x y e = cc

-- the messages of positions, each of which opens a birth exactly where it is an NBIRTH
pub numbered-once : (s : Setup) (messages : List Message) (out : List MessageData)
    → ((xs : NodeRecord) (p : ℕ) → start_of xs p ≤ p)
    → ((p : ℕ) (m : Message) → slice_get messages p ≡ Some m → sequence.opens (outline messages) p ≡ opens m.draft)
    → ((k : ℕ) → slice_get out k ≡ option_map (message_at s messages k) (slice_get messages k))
    → AreNumberedOnce s.config.numbering out
numbered-once s messages out start_below openings at = λ j k a b one other less near goes same.
    let first = found (message_at s messages j) (slice_get messages j) a (sym (at j) ∙ one) in
    let second = found (message_at s messages k) (slice_get messages k) b (sym (at k) ∙ other) in
    let number : number_at s messages j ≡ number_at s messages k =
    some-same (number_at s messages j) (number_at s messages k)
    (sym (ap (λ (m : MessageData). m.payload.seq) first.2) ∙ same ∙ ap (λ (m : MessageData). m.payload.seq) second.2) in
    let few : k < length messages = slice_get_within messages k second.0 second.1 in
    let end : j + (k - j) ≡ k = omega arith in
    let start : s.config.numbering ≡ Restarts → start_of (outline messages) k ≡ start_of (outline messages) j =
    λ by. let goes_on = subst (λ n. GoesOn n out j k) by goes in
    ap (start_of (outline messages)) (sym end) ∙ same-start (outline messages) j (k - j) (λ q after below.
    let to : q ≤ k = omega arith in
    let x = get_or messages q second.0 in
    let there : slice_get messages q ≡ Some x = slice_get-get_or messages q second.0 (omega arith) in
    openings q x there ∙ goes_on q (message_at s messages q x) after to (at q ∙ ap (option_map (message_at s messages q)) there)) in
    differ-by s.config.numbering (setting_of s messages) j k less near (start_below (outline messages) j) start number
