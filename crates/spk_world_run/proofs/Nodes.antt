-- An input comes to a node: its part after it is that of the longer list.
use Rattle.std.proofs.Common.{◌≡◌, ◌∙◌, ap, sym, refl, subst, ℕ, zero, suc, ◌+◌, ◌-◌, ◌^◌, ◌<◌, length, arith, Bool, true, false, cond, List, [], ◌∷◌, ◌++◌, map, drop, Option, Some, None, Result, Ok}
use Rattle.std.specs.Prelude.{slice_get, All}
use Rattle.std.specs.List.{count_by, enumerate_from, last_or}
use Rattle.std.proofs.Math.Seq.{drop-append_seam}
use Rattle.std.proofs.lemmas.List.{length-append, length-map, map-append}
use Rattle.std.proofs.lemmas.List.Elements.{All-append, All-cons, All-nil}
use Rattle.std.proofs.lemmas.List.FromFn.{length-enumerate_from}
use Rattle.spk_sequence.specs.NodeRecord as sequence
use Rattle.spk_sequence.specs.NodeRecord.{start_of}
use Rattle.spk_edge.specs.Along.{AllWhole, message_at, messages_from, node_of}
use Rattle.spk_edge.specs.Sealing.{AreWhole, numbered}
use Rattle.spk_edge.specs.View.{MessageData, NodeData, unnumbered}
use Rattle.spk_edge_rules.specs.declared.fault.EdgeFault.{EdgeFault}
use Rattle.spk_edge_rules.specs.Answers.{Answer}
use Rattle.spk_edge_rules.specs.Config.{Setup}
use Rattle.spk_edge_rules.specs.Inputs.{Input}
use Rattle.spk_edge_rules.specs.Messages.{Draft, opens}
use Rattle.spk_edge_rules.specs.Run.{Message, births_in, opened, outline, posts, published, right_at, run_of, with_done}
use Rattle.spk_edge_rules.specs.Step.{after_answer, answer_at, is_open, standing_of, stepped}
use Rattle.spk_world_run.specs.Data.{NodePart, PublishedData}
use Rattle.spk_world_run.specs.Run.{IsNodeRun, post_of, posts_of, starts_of}
use Rattle.spk_world_run.specs.Step.{after_input, messages_of, or_zero, posts_from, starts_from}
use Rattle.spk_world_run.proofs.Dying.{Connects, dying-after}
use Rattle.spk_world_run.proofs.Places.{SameNumber, new_messages, number-stays, outline-append, outline-length, published-after}
use Rattle.spk_world_run.proofs.Writable.{Alone, writable-after}
use Rattle.spk_world_run.proofs.Lists.{count-append, count-cons, enumerate-append, map-places}

-- ---- what the laws below give

abbrev pub SameSteps : Type 0
SameSteps = (s : Setup) (is : List Input) (i : Input) → answer_at s.config (standing_of s is) i ≡ right_at s (run_of s is) i

abbrev pub Openings : Type 0
Openings = (s : Setup) (is : List Input) (p : ℕ) (m : Message) → slice_get (published (run_of s is)) p ≡ Some m
    → sequence.opens (outline (published (run_of s is))) p ≡ opens m.draft

abbrev pub Moments : Type 0
Moments = (s : Setup) (is : List Input) (i : Input) (answer : Answer) → right_at s (run_of s is) i ≡ Ok answer → i.now < 2 ^ 63

abbrev pub IsNumbered : Type 0
IsNumbered = (s : Setup) (is : List Input) (i : Input) (answer : Answer) → right_at s (run_of s is) i ≡ Ok answer
    → numbered s.config.numbering (standing_of s is).seq (map (unnumbered s.config) answer.given.drafts)
    ≡ messages_from s (published (run_of s (i ∷ is))) (length (published (run_of s is)))

abbrev pub StaysWhole : Type 0
StaysWhole = (s : Setup) (is : List Input) (i : Input) (answer : Answer) → right_at s (run_of s is) i ≡ Ok answer
    → AreWhole (numbered s.config.numbering (standing_of s is).seq (map (unnumbered s.config) answer.given.drafts))
    → AllWhole s (published (run_of s is)) → AllWhole s (published (run_of s (i ∷ is)))

abbrev pub SameStart : Type 0
SameStart = (old more : sequence.NodeRecord) (p : ℕ) → p < length old → start_of (old ++ more) p ≡ start_of old p

-- ---- what was published before stays

start-stays : SameStart → (old more : List Message) (p : ℕ) → p < length old → start_of (outline (old ++ more)) p ≡ start_of (outline old) p
start-stays stays old more p below =
    let size = outline-length old in
    ap (λ (o : sequence.NodeRecord). start_of o p) (outline-append old more) ∙ stays (outline old) (outline more) p (omega (arith, size, below))

old-posts : SameNumber → (s : Setup) (old more : List Message) → posts_of s (old ++ more) 0 old ≡ posts_of s old 0 old
old-posts stays s old more = map-places (λ e. post_of s (old ++ more) e.0 e.1) (λ e. post_of s old e.0 e.1) 0 old
    (λ p m below. ap (λ n. record (post_of s old p m) { payload = record { timestamp = Some m.draft.stamp; metrics = m.draft.metrics; seq = Some n } }) (number-stays stays s old more p (let b = below in omega (arith, b))))

old-starts : SameStart → (old more : List Message) → starts_of (old ++ more) 0 old ≡ starts_of old 0 old
old-starts stays old more = map-places {X = Message} {Y = ℕ} (λ e. start_of (outline (old ++ more)) e.0) (λ e. start_of (outline old) e.0) 0 old
    (λ p m below. start-stays stays old more p (let b = below in omega (arith, b)))

-- ---- the messages of an input

abbrev posted_at : Setup → List Message → ℕ → List Message → List MessageData
posted_at s all p messages = map (λ e. message_at s all e.0 e.1) (enumerate_from p messages)

-- as data they are those that the rules publish
new-posts : (s : Setup) (all : List Message) (session births p : ℕ) (ds : List Draft)
    → posts_from session births (posted_at s all p (posts session births ds)) ≡ posts_of s all p (posts session births ds)
new-posts s all session births p [] = refl
new-posts s all session births p (d ∷ ds) =
    ap (λ (l : List PublishedData). post_of s all p (record { birth = cond (opens d) (births + 1) births - 1; session = session; draft = d }) ∷ l)
    (new-posts s all session (cond (opens d) (births + 1) births) (p + 1) ds)

new-births : (s : Setup) (all : List Message) (session births p : ℕ) (ms : List Message) → count_by (λ m. m.opens) (posted_at s all p ms) ≡ births_in ms
new-births s all session births p [] = refl
new-births s all session births p (m ∷ ms) =
    count-cons (λ (x : MessageData). x.opens) (message_at s all p m) (posted_at s all (p + 1) ms)
    ∙ ap (λ n. cond (opens m.draft) 1 0 + n) (new-births s all session births (p + 1) ms)
    ∙ sym (count-cons (λ (x : Message). opens x.draft) m ms)

-- the start of the birth of the message before a position
abbrev start_before : List Message → ℕ → ℕ
start_before all zero = zero
start_before all (suc p) = start_of (outline all) p

-- the messages open births where the record says so
abbrev Agree : List Message → ℕ → List Message → Type 0
Agree all p ms = (k : ℕ) (m : Message) → slice_get ms k ≡ Some m → sequence.opens (outline all) (p + k) ≡ opens m.draft

start-here : (all : List Message) (p last : ℕ) (b : Bool) → sequence.opens (outline all) p ≡ b → last ≡ start_before all p → cond b p last ≡ start_of (outline all) p
start-here all zero last true e before = refl
start-here all zero last false e before = before
start-here all (suc p) last b e before = ap (λ n. cond b (suc p) n) before ∙ ap (λ c. cond c (suc p) (start_of (outline all) p)) (sym e)

new-starts : (s : Setup) (all : List Message) (p last : ℕ) (ms : List Message) → Agree all p ms → last ≡ start_before all p
    → starts_from p last (posted_at s all p ms) ≡ starts_of all p ms
new-starts s all p last [] agree before = refl
new-starts s all p last (m ∷ ms) agree before =
    let p0 : p + 0 ≡ p = omega arith in
    let opening : sequence.opens (outline all) p ≡ opens m.draft = subst (λ k. sequence.opens (outline all) k ≡ opens m.draft) p0 (agree 0 m refl) in
    let here = start-here all p last (opens m.draft) opening before in
    let p1 : suc p ≡ p + 1 = omega arith in
    let next : cond (opens m.draft) p last ≡ start_before all (p + 1) = subst (λ k. cond (opens m.draft) p last ≡ start_before all k) p1 here in
    let later : Agree all (p + 1) ms = λ k x there. let e : p + suc k ≡ p + 1 + k = omega arith in subst (λ j. sequence.opens (outline all) j ≡ opens x.draft) e (agree (suc k) x there) in
    ap (λ n. n ∷ starts_from (p + 1) (cond (opens m.draft) p last) (posted_at s all (p + 1) ms)) here
    ∙ ap (λ (l : List ℕ). start_of (outline all) p ∷ l) (new-starts s all (p + 1) (cond (opens m.draft) p last) ms later next)

-- the last start is that before the position after them
last-start : (all : List Message) (p : ℕ) (o : Option ℕ) (ms : List Message) → or_zero o ≡ start_before all p → or_zero (last_or o (starts_of all p ms)) ≡ start_before all (p + length ms)
last-start all p o [] e = e ∙ ap (start_before all) (let z : p ≡ p + 0 = omega arith in z)
last-start all p o (m ∷ ms) e =
    let p1 : suc p ≡ p + 1 = omega arith in
    let here : start_of (outline all) p ≡ start_before all (p + 1) = ap (start_before all) p1 in
    last-start all (p + 1) (Some (start_of (outline all) p)) ms here ∙ ap (start_before all) (let z : p + 1 + length ms ≡ p + suc (length ms) = omega arith in z)

-- ---- the part of a node after an input

opened-after : (s : Setup) (is : List Input) (i : Input) (answer : Answer) → right_at s (run_of s is) i ≡ Ok answer
    → opened (run_of s (i ∷ is)) ≡ cond (is_open i.act) (opened (run_of s is) + 1) (opened (run_of s is))
opened-after s is i answer ok = ap (λ (r : Result Answer EdgeFault). opened (with_done (run_of s is) i r)) ok

-- the numbered messages of the data are those of the positions
messages-of : IsNumbered → (s : Setup) (is : List Input) (i : Input) (answer : Answer) → right_at s (run_of s is) i ≡ Ok answer
    → messages_of (node_of s is) answer ≡ posted_at s (published (run_of s (i ∷ is))) (length (published (run_of s is))) (new_messages s is answer)
messages-of numbers s is i answer ok =
    let old = published (run_of s is) in
    numbers s is i answer ok
    ∙ ap (posted_at s (published (run_of s (i ∷ is))) (length old))
    (ap (λ (l : List Message). drop (length old) l) (published-after s is i answer ok) ∙ drop-append_seam old (new_messages s is answer))

posts-after : SameNumber → IsNumbered → (s : Setup) (is : List Input) (i : Input) (answer : Answer) (part : NodePart) → IsNodeRun s is part
    → right_at s (run_of s is) i ≡ Ok answer
    → part.published ++ posts_from (length part.opened - 1) part.births (messages_of part.node answer)
    ≡ posts_of s (published (run_of s (i ∷ is))) 0 (published (run_of s (i ∷ is)))
posts-after stays numbers s is i answer part run ok =
    let old = published (run_of s is) in
    let more = new_messages s is answer in
    let all : published (run_of s (i ∷ is)) ≡ old ++ more = published-after s is i answer ok in
    let session = opened (run_of s is) - 1 in
    let first : part.published ≡ posts_of s (old ++ more) 0 old = run.posts ∙ sym (old-posts stays s old more) in
    let second : posts_from (length part.opened - 1) part.births (messages_of part.node answer) ≡ posts_of s (old ++ more) (length old) more =
    ap (λ (n : NodeData). posts_from (length part.opened - 1) part.births (messages_of n answer)) run.node
    ∙ ap (λ k. posts_from (k - 1) part.births (messages_of (node_of s is) answer)) run.sessions
    ∙ ap (λ k. posts_from session k (messages_of (node_of s is) answer)) run.births
    ∙ ap (posts_from session (births_in old)) (messages-of numbers s is i answer ok)
    ∙ new-posts s (published (run_of s (i ∷ is))) session (births_in old) (length old) answer.given.drafts
    ∙ ap (λ (l : List Message). posts_of s l (length old) more) all in
    let joined : posts_of s (old ++ more) 0 (old ++ more) ≡ posts_of s (old ++ more) 0 old ++ posts_of s (old ++ more) (length old) more =
    ap (map (λ e. post_of s (old ++ more) e.0 e.1)) (enumerate-append 0 old more)
    ∙ map-append (λ e. post_of s (old ++ more) e.0 e.1) (enumerate_from 0 old) (enumerate_from (0 + length old) more)
    ∙ ap (λ k. posts_of s (old ++ more) 0 old ++ posts_of s (old ++ more) k more) (let z : 0 + length old ≡ length old = omega arith in z) in
    ap (λ (l : List PublishedData). l ++ posts_from (length part.opened - 1) part.births (messages_of part.node answer)) first
    ∙ ap (λ (l : List PublishedData). posts_of s (old ++ more) 0 old ++ l) second
    ∙ sym joined
    ∙ ap (λ (l : List Message). posts_of s l 0 l) (sym all)

agree : Openings → (s : Setup) (is : List Input) (i : Input) (answer : Answer) → right_at s (run_of s is) i ≡ Ok answer
    → Agree (published (run_of s (i ∷ is))) (length (published (run_of s is))) (new_messages s is answer)
agree openings s is i answer ok k m there =
    let old = published (run_of s is) in
    let more = new_messages s is answer in
    let all : published (run_of s (i ∷ is)) ≡ old ++ more = published-after s is i answer ok in
    openings s (i ∷ is) (length old + k) m (ap (λ (l : List Message). slice_get l (length old + k)) all ∙ behind old more k m there)
  where
    behind : (xs ys : List Message) (k : ℕ) (m : Message) → slice_get ys k ≡ Some m → slice_get (xs ++ ys) (length xs + k) ≡ Some m
    behind [] ys k m e = ap (slice_get ys) (let z : 0 + k ≡ k = omega arith in z) ∙ e
    behind (x ∷ xs) ys k m e = ap (slice_get (x ∷ (xs ++ ys))) (let z : suc (length xs) + k ≡ suc (length xs + k) = omega arith in z) ∙ behind xs ys k m e

starts-after : SameStart → IsNumbered → Openings → (s : Setup) (is : List Input) (i : Input) (answer : Answer) (part : NodePart) → IsNodeRun s is part
    → right_at s (run_of s is) i ≡ Ok answer
    → part.starts ++ starts_from (length part.published) (or_zero (last_or None part.starts)) (messages_of part.node answer)
    ≡ starts_of (published (run_of s (i ∷ is))) 0 (published (run_of s (i ∷ is)))
starts-after stays numbers openings s is i answer part run ok =
    let old = published (run_of s is) in
    let more = new_messages s is answer in
    let now = published (run_of s (i ∷ is)) in
    let all : now ≡ old ++ more = published-after s is i answer ok in
    let first : part.starts ≡ starts_of (old ++ more) 0 old = run.starts ∙ sym (old-starts stays old more) in
    let size : length part.published ≡ length old = ap length run.posts ∙ length-map (enumerate_from 0 old) _ ∙ length-enumerate_from 0 old in
    let last : or_zero (last_or None part.starts) ≡ start_before now (length old) =
    ap (λ (l : List ℕ). or_zero (last_or None l)) first
    ∙ last-start (old ++ more) 0 None old refl
    ∙ ap (start_before (old ++ more)) (let z : 0 + length old ≡ length old = omega arith in z)
    ∙ ap (λ (l : List Message). start_before l (length old)) (sym all) in
    let second : starts_from (length part.published) (or_zero (last_or None part.starts)) (messages_of part.node answer) ≡ starts_of (old ++ more) (length old) more =
    ap (λ (n : NodeData). starts_from (length part.published) (or_zero (last_or None part.starts)) (messages_of n answer)) run.node
    ∙ ap (λ k. starts_from k (or_zero (last_or None part.starts)) (messages_of (node_of s is) answer)) size
    ∙ ap (starts_from (length old) (or_zero (last_or None part.starts))) (messages-of numbers s is i answer ok)
    ∙ new-starts s now (length old) (or_zero (last_or None part.starts)) more (agree openings s is i answer ok) last
    ∙ ap (λ (l : List Message). starts_of l (length old) more) all in
    let joined : starts_of (old ++ more) 0 (old ++ more) ≡ starts_of (old ++ more) 0 old ++ starts_of (old ++ more) (length old) more =
    ap (map (λ e. start_of (outline (old ++ more)) e.0)) (enumerate-append 0 old more)
    ∙ map-append (λ e. start_of (outline (old ++ more)) e.0) (enumerate_from 0 old) (enumerate_from (0 + length old) more)
    ∙ ap (λ k. starts_of (old ++ more) 0 old ++ starts_of (old ++ more) k more) (let z : 0 + length old ≡ length old = omega arith in z) in
    ap (λ (l : List ℕ). l ++ starts_from (length part.published) (or_zero (last_or None part.starts)) (messages_of part.node answer)) first
    ∙ ap (λ (l : List ℕ). starts_of (old ++ more) 0 old ++ l) second
    ∙ sym joined
    ∙ ap (λ (l : List Message). starts_of l 0 l) (sym all)

births-after : IsNumbered → (s : Setup) (is : List Input) (i : Input) (answer : Answer) (part : NodePart) → IsNodeRun s is part
    → right_at s (run_of s is) i ≡ Ok answer
    → part.births + count_by (λ m. m.opens) (messages_of part.node answer) ≡ births_in (published (run_of s (i ∷ is)))
births-after numbers s is i answer part run ok =
    let old = published (run_of s is) in
    let more = new_messages s is answer in
    ap (λ (n : NodeData). part.births + count_by (λ m. m.opens) (messages_of n answer)) run.node
    ∙ ap (λ (l : List MessageData). part.births + count_by (λ m. m.opens) l) (messages-of numbers s is i answer ok)
    ∙ ap (λ k. part.births + k) (new-births s (published (run_of s (i ∷ is))) 0 0 (length old) more)
    ∙ ap (λ k. k + births_in more) run.births
    ∙ sym (count-append (λ m. opens m.draft) old more)
    ∙ ap births_in (sym (published-after s is i answer ok))

sessions-after : (s : Setup) (is : List Input) (i : Input) (answer : Answer) (opened-at : List ℕ) → length opened-at ≡ opened (run_of s is)
    → right_at s (run_of s is) i ≡ Ok answer
    → length (cond (is_open i.act) (opened-at ++ (i.now ∷ [])) opened-at) ≡ opened (run_of s (i ∷ is))
sessions-after s is i answer at same ok = by (is_open i.act) ∙ sym (opened-after s is i answer ok)
  where
    by : (b : Bool) → length (cond b (at ++ (i.now ∷ [])) at) ≡ cond b (opened (run_of s is) + 1) (opened (run_of s is))
    by true = length-append at (i.now ∷ []) ∙ ap (λ k. k + 1) same
    by false = same

moments-after : (b : Bool) (now : ℕ) (at : List ℕ) → now < 2 ^ 63 → All (λ time. time < 2 ^ 63) at → All (λ time. time < 2 ^ 63) (cond b (at ++ (now ∷ [])) at)
moments-after true now at below all =
    All-append (λ time. time < 2 ^ 63) at (now ∷ []) all (All-cons (λ time. time < 2 ^ 63) now [] below (All-nil (λ time. time < 2 ^ 63)))
moments-after false now at below all = all

-- an answer of the data is the right one
pub answered-right : SameSteps → (s : Setup) (is : List Input) (i : Input) (answer : Answer) (part : NodePart) → part.node ≡ node_of s is
    → answer_at part.node.config part.node.standing i ≡ Ok answer → right_at s (run_of s is) i ≡ Ok answer
answered-right same s is i answer part node ok =
    sym (same s is i) ∙ subst (λ (n : NodeData). answer_at n.config n.standing i ≡ Ok answer) node ok

pub node-after : SameSteps → SameNumber → SameStart → IsNumbered → StaysWhole → Openings → Moments → Connects → Alone
    → (s : Setup) (is : List Input) (i : Input) (answer : Answer) (part : NodePart) → IsNodeRun s is part
    → s.bd ≡ 0 → i.ack ≡ None
    → answer_at part.node.config part.node.standing i ≡ Ok answer → AreWhole (messages_of part.node answer)
    → IsNodeRun s (i ∷ is) (after_input part i answer)
node-after same number start numbers whole openings moments connects alone s is i answer part run first plain answered can =
    let ok : right_at s (run_of s is) i ≡ Ok answer = answered-right same s is i answer part run.node answered in
    let here : answer_at s.config (standing_of s is) i ≡ Ok answer = same s is i ∙ ok in
    record {
      node = ap (λ (n : NodeData). record n { standing = stepped n.config n.standing i answer.given }) run.node
          ∙ ap (λ (r : Result Answer EdgeFault). record (node_of s is) { standing = after_answer s.config (standing_of s is) i r }) (sym here);
      posts = posts-after number numbers s is i answer part run ok;
      starts = starts-after start numbers openings s is i answer part run ok;
      births = births-after numbers s is i answer part run ok;
      sessions = sessions-after s is i answer part.opened run.sessions ok;
      moments = moments-after (is_open i.act) i.now part.opened (moments s is i answer ok) run.moments;
      whole = whole s is i answer ok (subst (λ (n : NodeData). AreWhole (messages_of n answer)) run.node can) run.whole;
      writable = writable-after alone number s is i answer ok run.writable;
      dying = dying-after connects s is i answer part.opened first plain ok run.sessions run.dying;
    }
