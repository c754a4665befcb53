-- What a step comes to along a list of inputs.
use Rattle.std.proofs.Common.{◌≡◌, ◌⊎◌, inl, inr, ◌∙◌, ap, sym, refl, subst, ℕ, zero, suc, ◌+◌, ◌-◌, ◌%◌, ◌<◌, length, arith, Bool, true, false, cond, List, [], ◌∷◌, ◌++◌, map, drop, Some, Result, Ok, Err}
use Rattle.std.specs.Prelude.{slice_get}
use Rattle.std.specs.List.{enumerate_from, list_all}
use Rattle.std.proofs.Math.Seq.{drop-append_seam}
use Rattle.std.proofs.lemmas.List.{length-append, length-map, map-append}
use Rattle.spk_packets.specs.Message as packets
use Rattle.spk_packets.specs.Spelling.{spelling}
use Rattle.spk_sequence.specs.Claims.{with_more}
use Rattle.spk_sequence.specs.NodeRecord as sequence
use Rattle.spk_edge_rules.specs.declared.fault.EdgeFault.{EdgeFault}
use Rattle.spk_edge_rules.specs.declared.fault.EdgeFault.TheVariants.{TooLarge}
use Rattle.spk_edge_rules.specs.Answers.{Answer, checked}
use Rattle.spk_edge_rules.specs.Writable.{is_writable}
use Rattle.spk_edge_rules.specs.Claims.{IsWhole, numbers_at, numbers_from}
use Rattle.spk_edge_rules.specs.Config.{Setup}
use Rattle.spk_edge_rules.specs.Inputs.{Input}
use Rattle.spk_edge_rules.specs.Messages.{Draft, opens, wire}
use Rattle.spk_edge_rules.specs.Rules.{Given, on_ok, rules}
use Rattle.spk_edge_rules.specs.Run.{Message, asked_of, births_in, next_number, number_at, opened, outline, packets_of, posts, published, right_at, run_of, setting_of, wires_at, with_done, with_posts}
use Rattle.spk_edge_rules.specs.Step as step
use Rattle.spk_edge_rules.specs.Step.{answer_at, next_of, number_of, standing_of}
use Rattle.spk_edge.specs.Along.{AllWhole, message_at, messages_from, node_of}
use Rattle.spk_edge.specs.Patch.{IsPlan}
use Rattle.spk_edge.specs.Sealing.{AreWhole, bytes_of, numbered, wire_of, with_number}
use Rattle.spk_edge.specs.View.{MessageData, message_view, unnumbered}
use Rattle.spk_edge.specs.declared.plan.Plan.{Plan}
use Rattle.spk_edge.proofs.Plans.{same-number}

-- ---- messages under the numbers of their positions

-- the messages of drafts, from a position on
abbrev pub posted_at : Setup → List Message → ℕ → List Message → List MessageData
posted_at s all p messages = map (λ e. message_at s all e.0 e.1) (enumerate_from p messages)

-- what is numbered one by one stands under the numbers of its positions
numbered-at : (s : Setup) (all : List Message) (session births seq p : ℕ) (ds : List Draft) → numbers_from s.config seq ds ≡ numbers_at s all p ds
    → numbered s.config.numbering seq (map (unnumbered s.config) ds) ≡ posted_at s all p (posts session births ds)
numbered-at s all session births seq p [] same = refl
numbered-at s all session births seq p (d ∷ ds) same =
    let here : number_of s.config seq d ≡ number_at s all p = cc in
    let rest : numbers_from s.config (next_of s.config seq d) ds ≡ numbers_at s all (p + 1) ds = cc in
    ap (λ n. with_number n (unnumbered s.config d) ∷ numbered s.config.numbering ((n + 1) % 256) (map (unnumbered s.config) ds)) (same-number s.config seq d)
    ∙ ap (λ (l : List MessageData). with_number (number_of s.config seq d) (unnumbered s.config d) ∷ l)
    (numbered-at s all session (cond (opens d) (births + 1) births) (next_of s.config seq d) (p + 1) ds rest)
    ∙ ap (λ n. with_number n (unnumbered s.config d) ∷ posted_at s all (p + 1) (posts session (cond (opens d) (births + 1) births) ds)) here

abbrev answer-ok : Answer → Result Answer EdgeFault
answer-ok a = Ok a

-- what was published after an input that was done
pub published-after : (s : Setup) (is : List Input) (i : Input) (answer : Answer) → right_at s (run_of s is) i ≡ Ok answer
    → published (run_of s (i ∷ is)) ≡ with_posts (published (run_of s is)) (opened (run_of s is) - 1) answer.given.drafts
published-after s is i answer ok = ap (λ (r : Result Answer EdgeFault). published (with_done (run_of s is) i r)) ok

abbrev pub new_posts : Setup → List Input → Answer → List Message
new_posts s is answer = posts (opened (run_of s is) - 1) (births_in (published (run_of s is))) answer.given.drafts

-- the messages published by an input are the last ones
last-posts : (s : Setup) (is : List Input) (i : Input) (answer : Answer) → right_at s (run_of s is) i ≡ Ok answer
    → drop (length (published (run_of s is))) (published (run_of s (i ∷ is))) ≡ new_posts s is answer
last-posts s is i answer ok =
    ap (λ (l : List Message). drop (length (published (run_of s is))) l) (published-after s is i answer ok)
    ∙ drop-append_seam (published (run_of s is)) (new_posts s is answer)

abbrev Sent : Setup → List Input → Input → Answer → Type 0
Sent s is i answer =
    numbers_from s.config (standing_of s is).seq answer.given.drafts
    ≡ numbers_at s (published (run_of s (i ∷ is))) (length (published (run_of s is))) answer.given.drafts

pub messages-are : (s : Setup) (is : List Input) (i : Input) (answer : Answer) → right_at s (run_of s is) i ≡ Ok answer → Sent s is i answer
    → numbered s.config.numbering (standing_of s is).seq (map (unnumbered s.config) answer.given.drafts)
    ≡ messages_from s (published (run_of s (i ∷ is))) (length (published (run_of s is)))
messages-are s is i answer ok sent =
    let all = published (run_of s (i ∷ is)) in
    let p = length (published (run_of s is)) in
    numbered-at s all (opened (run_of s is) - 1) (births_in (published (run_of s is))) (standing_of s is).seq p answer.given.drafts sent
    ∙ ap (posted_at s all p) (sym (last-posts s is i answer ok))

-- ---- the data

pub stands-after : (s : Setup) (is : List Input) (i : Input) (answer : Answer) → answer_at s.config (standing_of s is) i ≡ Ok answer
    → record (node_of s is) { standing = step.stepped s.config (standing_of s is) i answer.given } ≡ node_of s (i ∷ is)
stands-after s is i answer ok =
    ap (λ (r : Result Answer EdgeFault). record (node_of s is) { standing = step.after_answer s.config (standing_of s is) i r }) (sym ok)

-- ---- each can be written

abbrev WholeAt : Setup → List Message → ℕ → Message → Type 0
WholeAt s messages p m = IsWhole (spelling (wire s.config (number_at s messages p) m.draft)) s.config (number_at s messages p) m.draft

whole-from : (s : Setup) (all messages : List Message) (p k : ℕ) (m : Message) → AreWhole (posted_at s all p messages) → slice_get messages k ≡ Some m → WholeAt s all (p + k) m
whole-from s all [] p k m whole there = absurd (let x : ⊥ = cc in x)
whole-from s all (x ∷ messages) p zero m whole there =
    let same : x ≡ m = cc in
    let here : WholeAt s all p x = record { spelled = whole.0.spelled; fits = whole.0.fits } in
    let p0 : p ≡ p + zero = omega arith in
    subst (λ q. WholeAt s all q m) p0 (subst (λ (y : Message). WholeAt s all p y) same here)
whole-from s all (x ∷ messages) p (suc k) m whole there =
    let later : p + 1 + k ≡ p + suc k = omega arith in
    subst (λ q. WholeAt s all q m) later (whole-from s all messages (p + 1) k m whole.1 there)

-- what stands in two lists end to end stands in the first, or in the second behind it
in-one : {X : Type 0} (xs ys : List X) (k : ℕ) (x : X) → slice_get (xs ++ ys) k ≡ Some x
    → ((k < length xs) × (slice_get xs k ≡ Some x)) ⊎ ((j : ℕ) × (length xs + j ≡ k) × (slice_get ys j ≡ Some x))
in-one [] ys k x there = inr (k, omega arith, there)
in-one (y ∷ xs) ys zero x there = inl (omega arith, there)
in-one (y ∷ xs) ys (suc k) x there = elim (in-one xs ys k x there) [
  | inl old ↦ inl ((let b = old.0 in omega (arith, b)), old.1)
  | inr new ↦ inr (new.0, (let e = new.1 in omega (arith, e)), new.2)
]

-- a number stays when more is published
abbrev pub Stays : Type 0
Stays = (s : sequence.Setting) (more : sequence.NodeRecord) (p : ℕ) → p < length s.published → sequence.written_number (with_more s more) p ≡ sequence.written_number s p

pub number-stays : (s : Setup) (old more : List Message) (p : ℕ) → Stays → p < length old → number_at s (old ++ more) p ≡ number_at s old p
number-stays s old more p stays below =
    let size : length (outline old) ≡ length old = length-map old _ in
    ap (λ (o : sequence.NodeRecord). sequence.written_number (record (setting_of s old) { published = o }) p) (map-append _ old more)
    ∙ stays (setting_of s old) (outline more) p (omega (arith, size, below))

whole-append : (s : Setup) (old more : List Message) → Stays → AllWhole s old → AreWhole (posted_at s (old ++ more) (length old) more) → AllWhole s (old ++ more)
whole-append s old more stays whole added p m there = elim (in-one old more p m there) [
  | inl before ↦
      subst (λ n. IsWhole (spelling (wire s.config n m.draft)) s.config n m.draft) (sym (number-stays s old more p stays before.0)) (whole p m before.1)
  | inr behind ↦ subst (λ q. WholeAt s (old ++ more) q m) behind.1 (whole-from s (old ++ more) more (length old) behind.0 m added behind.2)
]

pub whole-after : (s : Setup) (is : List Input) (i : Input) (answer : Answer) → Stays → right_at s (run_of s is) i ≡ Ok answer → Sent s is i answer
    → AreWhole (numbered s.config.numbering (standing_of s is).seq (map (unnumbered s.config) answer.given.drafts))
    → AllWhole s (published (run_of s is)) → AllWhole s (published (run_of s (i ∷ is)))
whole-after s is i answer stays ok sent added whole =
    let old = published (run_of s is) in
    let more = new_posts s is answer in
    let all : published (run_of s (i ∷ is)) ≡ old ++ more = published-after s is i answer ok in
    let here : AreWhole (posted_at s (published (run_of s (i ∷ is))) (length old) more) =
    subst AreWhole (numbered-at s (published (run_of s (i ∷ is))) (opened (run_of s is) - 1) (births_in old) (standing_of s is).seq (length old) answer.given.drafts sent) added in
    let there : AreWhole (posted_at s (old ++ more) (length old) more) = subst (λ (l : List Message). AreWhole (posted_at s l (length old) more)) all here in
    subst (AllWhole s) (sym all) (whole-append s old more stays whole there)

-- ---- packets

-- the packets of an answer are those of what was given
pub packets-are : (s : Setup) (is : List Input) (i : Input) (answer : Answer) → right_at s (run_of s is) i ≡ Ok answer
    → answer.packets ≡ packets_of s (run_of s is) answer.given
packets-are s is i answer = by (rules s.config (next_number s (run_of s is)) (asked_of s (run_of s is)) i)
  where
    writable : (g : Given) (b : Bool) → cond b (answer-ok (record { given = g; packets = packets_of s (run_of s is) g })) (Err TooLarge) ≡ Ok answer
        → answer.packets ≡ packets_of s (run_of s is) answer.given
    writable g true e =
        let mine : Answer = record { given = g; packets = packets_of s (run_of s is) g } in
        let same : mine ≡ answer = cc in
        subst (λ (a : Answer). a.packets ≡ packets_of s (run_of s is) a.given) same refl
    writable g false e = absurd (let x : ⊥ = cc in x)

    by : (r : Result Given EdgeFault) → on_ok r (λ g. checked g (packets_of s (run_of s is) g)) ≡ Ok answer
        → answer.packets ≡ packets_of s (run_of s is) answer.given
    by (Ok g) e = writable g (list_all is_writable (packets_of s (run_of s is) g)) e
    by (Err f) e = absurd (let x : ⊥ = cc in x)

pub alone-are : (s : Setup) (is : List Input) (i : Input) (answer : Answer) → right_at s (run_of s is) i ≡ Ok answer
    → answer.packets ≡ answer.given.plain ++ wires_at s (published (run_of s (i ∷ is))) (length (published (run_of s is))) answer.given.drafts
alone-are s is i answer ok =
    packets-are s is i answer ok
    ∙ ap (λ (l : List Message). answer.given.plain ++ wires_at s l (length (published (run_of s is))) answer.given.drafts) (sym (published-after s is i answer ok))

-- the packets of drafts are those of their messages
wires-posted : (s : Setup) (all : List Message) (session births p : ℕ) (ds : List Draft) → wires_at s all p ds ≡ map wire_of (posted_at s all p (posts session births ds))
wires-posted s all session births p [] = refl
wires-posted s all session births p (d ∷ ds) =
    ap (λ (l : List packets.Message). wire s.config (number_at s all p) d ∷ l) (wires-posted s all session (cond (opens d) (births + 1) births) (p + 1) ds)

pub wires-are : (s : Setup) (is : List Input) (i : Input) (answer : Answer) → right_at s (run_of s is) i ≡ Ok answer
    → answer.packets ≡ answer.given.plain ++ map wire_of (messages_from s (published (run_of s (i ∷ is))) (length (published (run_of s is))))
wires-are s is i answer ok =
    let all = published (run_of s (i ∷ is)) in
    let p = length (published (run_of s is)) in
    alone-are s is i answer ok
    ∙ ap (λ (l : List packets.Message). answer.given.plain ++ l)
    (wires-posted s all (opened (run_of s is) - 1) (births_in (published (run_of s is))) p answer.given.drafts
    ∙ ap (λ (l : List Message). map wire_of (posted_at s all p l)) (sym (last-posts s is i answer ok)))

pub bytes-are : (s : Setup) (is : List Input) (i : Input) (p : Plan) (plan : IsPlan (node_of s is) i p) → right_at s (run_of s is) i ≡ Ok plan.answer → Sent s is i plan.answer
    → map bytes_of p.out.packets.items ≡ map spelling (plan.answer.given.plain ++ map wire_of (map message_view p.messages.items))
bytes-are s is i p plan ok sent =
    plan.packets ∙ ap (map spelling) (wires-are s is i plan.answer ok)
    ∙ ap (λ (l : List MessageData). map spelling (plan.answer.given.plain ++ map wire_of l)) (sym (plan.messages ∙ messages-are s is i plan.answer ok sent))

-- ---- how many

length-posts : (session births : ℕ) (ds : List Draft) → length (posts session births ds) ≡ length ds
length-posts session births [] = refl
length-posts session births (d ∷ ds) = ap (λ n. suc n) (length-posts session (cond (opens d) (births + 1) births) ds)

pub lengths-are : (s : Setup) (is : List Input) (i : Input) (answer : Answer) → right_at s (run_of s is) i ≡ Ok answer
    → length (published (run_of s (i ∷ is))) ≡ length (published (run_of s is)) + length answer.given.drafts
lengths-are s is i answer ok =
    ap (λ (l : List Message). length l) (published-after s is i answer ok)
    ∙ length-append (published (run_of s is)) (new_posts s is answer)
    ∙ ap (λ n. length (published (run_of s is)) + n) (length-posts (opened (run_of s is) - 1) (births_in (published (run_of s is))) answer.given.drafts)
