-- What holds of every run, and that stepping the data answers as the run does.
use Rattle.std.proofs.Common.{◌≡◌, ◌⊎◌, ℕ, ◌+◌, ◌-◌, ◌<◌, ◌≤◌, ◌%◌, ◌^◌, Bool, true, false, not, cond, nat_lt, List, [], ◌∷◌, ◌++◌, map, Option, Some, Result, Ok, Err, refl, sym, ◌∙◌, ap, subst, arith, inl, inr}
use Rattle.std.specs.List.{AllByRecursion, enumerate_from, filter, list_all}
use Rattle.std.proofs.lemmas.Bool.{true≢false}
use Rattle.std.proofs.lemmas.List.{append-nil}
use Rattle.spk_payload.specs.Meaning.{MetricData}
use Rattle.spk_packets.specs.Message as packets
use Rattle.spk_device.specs.Book.{Book, DeviceData}
use Rattle.spk_device.specs.declared.owner.Owner.TheVariants.{Node}
use Rattle.spk_store.specs.Kept as kept
use Rattle.spk_edge_rules.specs.declared.fault.EdgeFault.{EdgeFault}
use Rattle.spk_edge_rules.specs.declared.fault.EdgeFault.TheVariants.{ClockEnd, TooLarge, WrongPhase}
use Rattle.spk_edge_rules.specs.declared.phase.Phase.{Phase}
use Rattle.spk_edge_rules.specs.declared.phase.Phase.TheVariants.{Idle, Connecting, Waiting, Born}
use Rattle.spk_edge_rules.specs.Answers.{Answer, checked}
use Rattle.spk_edge_rules.specs.Writable.{is_writable}
use Rattle.spk_edge_rules.specs.Births.{birth_stamp, data_draft, device_birth, later_stamp, node_birth}
use Rattle.spk_edge_rules.specs.Claims.{Link, Closed, SaysSession, link_by, link_of}
use Rattle.spk_edge_rules.specs.Config.{Config, Setup}
use Rattle.spk_edge_rules.specs.Inputs.{Act, Open, Accepted, Change, Changes, Turn, Command, State, Drain, Stop, Cut, TurnedAway, Pass, Input}
use Rattle.spk_edge_rules.specs.Messages.{Draft, opens}
use Rattle.spk_edge_rules.specs.Packets.{session_metric}
use Rattle.spk_edge_rules.specs.Rules as rule
use Rattle.spk_edge_rules.specs.Rules.{Given, is_born, is_idle, on_ok, rules}
use Rattle.spk_edge_rules.specs.Step.{Standing, after_answer, answer_at, asked_after, begins_anew, is_open, seq_after, standing_of, stepped, wires}
use Rattle.spk_edge_rules.specs.Run.{Done, Message, asked_of, births_in, calls_of, next_number, opened, packets_of, phase_of, posts, published, right_at, run_of, session_number, stamp_of, with_done, with_posts}
use Rattle.spk_edge_rules.proofs.Chains.{Ends, IsNext, ends-first, ends-more, last-stamp}
use Rattle.spk_edge_rules.proofs.Courses.{Births, Course, Lawful, One, Quiet, link_in, rules-lawful}
use Rattle.spk_edge_rules.proofs.Moments.{asked-first, asked-step, keeps-lawful}
use Rattle.spk_edge_rules.proofs.Numbers.{Posted, SeqBy, SeqIs, number-post, post, posted-last, seq-right, wires-right, with_post}
use Rattle.spk_sequence.specs.NodeRecord.{Numbering, RunsOn, Restarts}

-- each input gave what the rules give
abbrev pub AllRight : Setup → List Done → Type 0
AllRight s [] = Unit {0}
AllRight s (e ∷ h) = (rules s.config (next_number s h) (asked_of s h) e.input ≡ Ok e.given) × AllRight s h

-- nothing was published, or the last message is of a session that was opened
abbrev pub Top : List Message → ℕ → Type 0
Top messages sessions = (messages ≡ []) ⊎ ((m : Message) × Ends messages m × (m.session + 1 ≤ sessions))

abbrev pub BornTop : List Message → ℕ → Type 0
BornTop messages sessions = (m : Message) × Ends messages m × (m.session + 1 ≡ sessions)

pub record Runs (s : Setup) (h : List Done) : Type 0 where
  pub link : link_of h ≡ link_in (phase_of h)
  pub some : is_idle (phase_of h) ≡ false → 1 ≤ opened h
  pub top : Top (published h) (opened h)
  pub born : is_born (phase_of h) ≡ true → BornTop (published h) (opened h)
  pub says : AllByRecursion (SaysSession s) (published h)
  pub kept : kept.IsLawful s.capacity (calls_of h)

born-busy : (p : Phase) → is_born p ≡ true → is_idle p ≡ false
born-busy Idle e = absurd (true≢false (sym e))
born-busy Connecting e = refl
born-busy Waiting e = refl
born-busy Born e = refl

-- ---- the messages of an input stand in line

later-above : (last now : ℕ) (before : Option ℕ) → before ≡ Some last → last ≤ later_stamp before now
later-above last now before e = subst (λ o. last ≤ later_stamp o now) (sym e) (omega arith)

newer-above : (last now : ℕ) (before : Option ℕ) → before ≡ Some last → last < birth_stamp before now
newer-above last now before e = subst (λ o. last < birth_stamp o now) (sym e) (omega arith)

-- DBIRTHs behind a message of the same session and stamp
posted-devices : (b : Book) (stamp session : ℕ) (es : List (ℕ × DeviceData)) (messages : List Message) (m : Message) → Ends messages m
    → m.session ≡ session → m.draft.stamp ≡ stamp → Posted session messages (map (device_birth b stamp) es)
posted-devices b stamp session [] messages m ends of_session of_stamp = tt
posted-devices b stamp session (e ∷ es) messages m ends of_session of_stamp =
    let d = device_birth b stamp e in
    let next : IsNext m (post session messages d) = inl (record {
      no_birth = refl;
      birth = let n = ends.births in omega (arith, n);
      session = sym of_session;
      stamp = omega (arith, of_stamp);
    }) in
    let more = ends-more messages m (post session messages d) ends next in
    (more, posted-devices b stamp session es (with_post session messages d) (post session messages d) more refl refl)

-- an NBIRTH behind what was published
posted-birth : (session : ℕ) (messages : List Message) (sessions : ℕ) (d : Draft) → Top messages sessions → session + 1 ≡ sessions → opens d ≡ true
    → ((m : Message) → Ends messages m → m.draft.stamp < d.stamp) → Ends (with_post session messages d) (post session messages d)
posted-birth session messages sessions d (inl none) last opening newer =
    subst (λ (ms : List Message). Ends (with_post session ms d) (post session ms d)) (sym none)
    (ends-first (post session [] d) (record { is_birth = opening; birth = ap (λ b. cond b (births_in [] + 1) (births_in []) - 1) opening }))
posted-birth session messages sessions d (inr (m, ends, within)) last opening newer =
    ends-more messages m (post session messages d) ends (inr (record {
      is_birth = opening;
      birth = ap (λ b. cond b (births_in messages + 1) (births_in messages) - 1) opening ∙ (let n = ends.births in omega (arith, n));
      session = omega (arith, within, last);
      stamp = newer m ends;
    }))

pub posted-of : (s : Setup) (h : List Done) (i : Input) (g : Given) → Runs s h → Course (asked_of s h) i.now i.act g → Posted (opened h - 1) (published h) g.drafts
posted-of s h i g runs (Quiet none p) = subst (Posted (opened h - 1) (published h)) (sym none) tt
posted-of s h i g runs (One d one closed of_stamp is_up stays not_open) =
    let (m, ends, last) = runs.born is_up in
    let stamps = later-above m.draft.stamp i.now (stamp_of s h) (last-stamp s.stamp (published h) m ends) in
    let next : IsNext m (post (opened h - 1) (published h) d) = inl (record {
      no_birth = closed;
      birth = ap (λ b. cond b (births_in (published h) + 1) (births_in (published h)) - 1) closed ∙ (let n = ends.births in omega (arith, n));
      session = omega (arith, last);
      stamp = omega (arith, stamps, of_stamp);
    }) in
    subst (Posted (opened h - 1) (published h)) (sym one) (ends-more (published h) m (post (opened h - 1) (published h) d) ends next, tt)
posted-of s h i g runs (Births all busy stays not_open) =
    let a = asked_of s h in
    let stamp = birth_stamp a.stamp i.now in
    let d = node_birth a.book a.will_bd stamp in
    let session = opened h - 1 in
    let opening = runs.some busy in
    let first = posted-birth session (published h) (opened h) d runs.top (omega (arith, opening)) refl
    (λ m ends. newer-above m.draft.stamp i.now (stamp_of s h) (last-stamp s.stamp (published h) m ends)) in
    subst (Posted session (published h)) (sym all)
    (first, posted-devices a.book stamp session (filter (λ (e : ℕ × DeviceData). e.1.up) (enumerate_from 0 a.book.devices)) (with_post session (published h) d) (post session (published h) d) first refl refl)

-- ---- one input more

-- an input publishes nothing, or something in a session that was opened before
data Publishes (s : Setup) (h : List Done) (act : Act) (g : Given) : Type 0 where
  Nothing : g.drafts ≡ [] → Publishes s h act g
  Something : (d : Draft) (ds : List Draft) → g.drafts ≡ d ∷ ds → is_open act ≡ false → 1 ≤ opened h → Publishes s h act g

publishes : (s : Setup) (h : List Done) (i : Input) (g : Given) → Runs s h → Course (asked_of s h) i.now i.act g → Publishes s h i.act g
publishes s h i g runs (Quiet none p) = Nothing none
publishes s h i g runs (One d one closed of_stamp is_up stays not_open) = Something d [] one not_open (runs.some (born-busy (phase_of h) is_up))
publishes s h i g runs (Births all busy stays not_open) = Something _ _ all not_open (runs.some busy)

abbrev after_it : List Done → Input → Given → List Done
after_it h i g = (record { input = i; given = g }) ∷ h

same-published : (h : List Done) (i : Input) (g : Given) → g.drafts ≡ [] → published (after_it h i g) ≡ published h
same-published h i g none = ap (with_posts (published h) (opened h - 1)) none ∙ append-nil (published h)

same-opened : (h : List Done) (i : Input) (g : Given) → is_open i.act ≡ false → opened (after_it h i g) ≡ opened h
same-opened h i g not_open = ap (λ b. cond b (opened h + 1) (opened h)) not_open

more-opened : (b : Bool) (n : ℕ) → n ≤ cond b (n + 1) n
more-opened true n = omega arith
more-opened false n = omega arith

last-of : (h : List Done) (i : Input) (g : Given) (d : Draft) (ds : List Draft) → g.drafts ≡ d ∷ ds → Posted (opened h - 1) (published h) g.drafts
    → (m : Message) × Ends (published (after_it h i g)) m × (m.session ≡ opened h - 1)
last-of h i g d ds is posted =
    let last = posted-last (opened h - 1) (published h) d ds (subst (Posted (opened h - 1) (published h)) is posted) in
    (last.0, subst (λ (drafts : List Draft). Ends (with_posts (published h) (opened h - 1) drafts) last.0) (sym is) last.1, last.2)

top-after : (s : Setup) (h : List Done) (i : Input) (g : Given) → Runs s h → Posted (opened h - 1) (published h) g.drafts → Publishes s h i.act g
    → Top (published (after_it h i g)) (opened (after_it h i g))
top-after s h i g runs posted (Nothing none) =
    subst (λ (ms : List Message). Top ms (opened (after_it h i g))) (sym (same-published h i g none)) (elim runs.top [
      | inl empty ↦ inl empty
      | inr last ↦ inr (last.0, last.1, (let l = last.2 in let m = more-opened (is_open i.act) (opened h) in omega (arith, l, m)))
    ])
top-after s h i g runs posted (Something d ds is not_open some) =
    let last = last-of h i g d ds is posted in
    let e = last.2 in
    let m = more-opened (is_open i.act) (opened h) in
    inr (last.0, last.1, omega (arith, e, m, some))

born-last : (s : Setup) (h : List Done) (i : Input) (g : Given) (d : Draft) (ds : List Draft) → Posted (opened h - 1) (published h) g.drafts → g.drafts ≡ d ∷ ds
    → is_open i.act ≡ false → 1 ≤ opened h → BornTop (published (after_it h i g)) (opened (after_it h i g))
born-last s h i g d ds posted is not_open some =
    let last = last-of h i g d ds is posted in
    let e = last.2 in
    let o = same-opened h i g not_open in
    (last.0, last.1, omega (arith, e, o, some))

born-after : (s : Setup) (h : List Done) (i : Input) (g : Given) → Runs s h → Posted (opened h - 1) (published h) g.drafts → Course (asked_of s h) i.now i.act g
    → is_born g.phase ≡ true → BornTop (published (after_it h i g)) (opened (after_it h i g))
born-after s h i g runs posted (Quiet none p) is_up =
    let (was_up, not_open) = p is_up in
    subst (λ (ms : List Message). BornTop ms (opened (after_it h i g))) (sym (same-published h i g none))
    (subst (BornTop (published h)) (sym (same-opened h i g not_open)) (runs.born was_up))
born-after s h i g runs posted (One d one closed of_stamp was_up stays not_open) is_up =
    born-last s h i g d [] posted one not_open (runs.some (born-busy (phase_of h) was_up))
born-after s h i g runs posted (Births all busy stays not_open) is_up = born-last s h i g _ _ posted all not_open (runs.some busy)

closed-stays : (act : Act) → is_open act ≡ false → link_by act Closed ≡ Closed
closed-stays Open e = absurd (true≢false e)
closed-stays Accepted e = refl
closed-stays (Change alias value) e = refl
closed-stays (Changes changes) e = refl
closed-stays (Turn name up) e = refl
closed-stays (Command topic payload) e = refl
closed-stays (State payload) e = refl
closed-stays Drain e = refl
closed-stays Stop e = refl
closed-stays Cut e = refl
closed-stays TurnedAway e = refl
closed-stays Pass e = refl

closed-idle : (q : Phase) → link_in q ≡ Closed → is_idle q ≡ false → ⊥
closed-idle Idle e busy = true≢false busy
closed-idle Connecting e busy = let x : ⊥ = cc in x
closed-idle Waiting e busy = let x : ⊥ = cc in x
closed-idle Born e busy = let x : ⊥ = cc in x

both-closed : (b : Bool) (link : Link) → link ≡ Closed → cond b Closed link ≡ Closed
both-closed true link e = refl
both-closed false link e = e

-- only an Open leaves Idle
busy-before : (act : Act) (p q : Phase) (close : Bool) → is_open act ≡ false → cond close Closed (link_by act (link_in p)) ≡ link_in q → is_idle q ≡ false → is_idle p ≡ false
busy-before act Idle q close not_open is busy = absurd (closed-idle q (sym is ∙ both-closed close (link_by act Closed) (closed-stays act not_open)) busy)
busy-before act Connecting q close not_open is busy = refl
busy-before act Waiting q close not_open is busy = refl
busy-before act Born q close not_open is busy = refl

some-after : (s : Setup) (h : List Done) (i : Input) (g : Given) → Runs s h → Lawful (asked_of s h) i g → is_idle g.phase ≡ false → 1 ≤ opened (after_it h i g)
some-after s h i g runs lawful busy = by (is_open i.act) refl
  where
    by : (b : Bool) → is_open i.act ≡ b → 1 ≤ cond b (opened h + 1) (opened h)
    by true e = omega arith
    by false e = runs.some (busy-before i.act (phase_of h) g.phase g.close e lawful.links busy)

-- ---- each NBIRTH begins with the bdSeq of its session

all-append : {X : Type 0} (P : X → Type 0) (xs ys : List X) → AllByRecursion P xs → AllByRecursion P ys → AllByRecursion P (xs ++ ys)
all-append P [] ys a b = b
all-append P (x ∷ xs) ys a b = (a.0, all-append P xs ys a.1 b)

abbrev SaysDraft : Setup → ℕ → Draft → Type 0
SaysDraft s session d = opens d ≡ true → (rest : List MetricData) × (d.metrics ≡ session_metric (session_number s session) (Some d.stamp) ∷ rest)

says-posts : (s : Setup) (session births : ℕ) (ds : List Draft) → AllByRecursion (SaysDraft s session) ds → AllByRecursion (SaysSession s) (posts session births ds)
says-posts s session births [] all = tt
says-posts s session births (d ∷ ds) all = (all.0, says-posts s session (cond (opens d) (births + 1) births) ds all.1)

says-devices : (s : Setup) (session : ℕ) (b : Book) (stamp : ℕ) (es : List (ℕ × DeviceData)) → AllByRecursion (SaysDraft s session) (map (device_birth b stamp) es)
says-devices s session b stamp [] = tt
says-devices s session b stamp (e ∷ es) = ((λ opening. absurd (true≢false (sym opening))), says-devices s session b stamp es)

says-course : (s : Setup) (h : List Done) (i : Input) (g : Given) → Course (asked_of s h) i.now i.act g → AllByRecursion (SaysDraft s (opened h - 1)) g.drafts
says-course s h i g (Quiet none p) = subst (AllByRecursion (SaysDraft s (opened h - 1))) (sym none) tt
says-course s h i g (One d one closed of_stamp is_up stays not_open) =
    subst (AllByRecursion (SaysDraft s (opened h - 1))) (sym one) ((λ opening. absurd (true≢false (sym opening ∙ closed))), tt)
says-course s h i g (Births all busy stays not_open) =
    let a = asked_of s h in
    subst (AllByRecursion (SaysDraft s (opened h - 1))) (sym all)
    ((λ opening. (_, refl)), says-devices s (opened h - 1) a.book (birth_stamp a.stamp i.now) (filter (λ (e : ℕ × DeviceData). e.1.up) (enumerate_from 0 a.book.devices)))

-- ---- every run

pub runs-step : (s : Setup) (h : List Done) (i : Input) (g : Given) → Runs s h → rules s.config (next_number s h) (asked_of s h) i ≡ Ok g → Runs s (after_it h i g)
runs-step s h i g runs is =
    let lawful = rules-lawful s.config (next_number s h) (asked_of s h) i g is in
    let posted = posted-of s h i g runs lawful.course in
    record {
      link = ap (λ l. cond g.close Closed (link_by i.act l)) runs.link ∙ lawful.links;
      some = some-after s h i g runs lawful;
      top = top-after s h i g runs posted (publishes s h i g runs lawful.course);
      born = born-after s h i g runs posted lawful.course;
      says = all-append (SaysSession s) (published h) (posts (opened h - 1) (births_in (published h)) g.drafts) runs.says
          (says-posts s (opened h - 1) (births_in (published h)) g.drafts (says-course s h i g lawful.course));
      kept = keeps-lawful s h g.store lawful.keeps runs.kept;
    }

pub runs-all : (s : Setup) (h : List Done) → AllRight s h → Runs s h
runs-all s [] right = record {
  link = refl;
  some = λ busy. absurd (true≢false busy);
  top = inl refl;
  born = λ is_up. absurd (true≢false (sym is_up));
  says = tt;
  kept = tt;
}
runs-all s (e ∷ h) right = runs-step s h e.input e.given (runs-all s h right.1) right.0

-- ---- the data beside the run

pub record Told (s : Setup) (is : List Input) : Type 0 where
  pub right : AllRight s (run_of s is)
  pub asked : (standing_of s is).asked ≡ asked_of s (run_of s is)
  pub seq : SeqIs s (published (run_of s is)) (standing_of s is).seq

abbrev answered : Answer → Result Answer EdgeFault
answered a = Ok a

abbrev gave : Given → Result Given EdgeFault
gave g = Ok g

-- what was answered was given by the rules
pub right-given : (s : Setup) (h : List Done) (i : Input) (answer : Answer) → right_at s h i ≡ Ok answer → rules s.config (next_number s h) (asked_of s h) i ≡ Ok answer.given
right-given s h i answer = by (rules s.config (next_number s h) (asked_of s h) i)
  where
    writable : (g : Given) (b : Bool) → cond b (answered (record { given = g; packets = packets_of s h g })) (Err TooLarge) ≡ Ok answer → gave g ≡ Ok answer.given
    writable g true e =
        let mine : Answer = record { given = g; packets = packets_of s h g } in
        let same : mine ≡ answer = cc in
        ap (λ (a : Answer). Ok a.given) same
    writable g false e = absurd (let x : ⊥ = cc in x)

    by : (r : Result Given EdgeFault) → on_ok r (λ g. checked g (packets_of s h g)) ≡ Ok answer → r ≡ Ok answer.given
    by (Ok g) e = writable g (list_all is_writable (packets_of s h g)) e
    by (Err f) e = absurd (let x : ⊥ = cc in x)

-- ---- the number that comes next

-- the rules look at it only where the node is born
same-acts : (c : Config) (m n : ℕ) (a : rule.Asked) (now : ℕ) (act : Act) → rule.fits a.phase act ≡ true → (is_born a.phase ≡ true → m ≡ n)
    → rule.acts c m a now act ≡ rule.acts c n a now act
same-acts c m n a now Open fit same = refl
same-acts c m n a now Accepted fit same = refl
same-acts c m n a now (Change alias value) fit same = refl
same-acts c m n a now (Changes changes) fit same = refl
same-acts c m n a now (Turn name up) fit same = refl
same-acts c m n a now (Command topic payload) fit same = refl
same-acts c m n a now (State payload) fit same = refl
same-acts c m n a now Drain fit same = ap (λ k. gave (rule.draining c k a now a.store.items)) (same fit)
same-acts c m n a now Stop fit same = refl
same-acts c m n a now Cut fit same = refl
same-acts c m n a now TurnedAway fit same = refl
same-acts c m n a now Pass fit same = refl

same-rules : (c : Config) (m n : ℕ) (a : rule.Asked) (i : Input) → (is_born a.phase ≡ true → m ≡ n) → rules c m a i ≡ rules c n a i
same-rules c m n a i same = by (rule.fits a.phase i.act) refl
  where
    behind : Result Given EdgeFault → Result Given EdgeFault
    behind r = cond (not (nat_lt i.now (2 ^ 63))) (Err ClockEnd) (on_ok r (λ g. rule.timely (rule.acked i.ack g)))

    by : (b : Bool) → rule.fits a.phase i.act ≡ b → cond (not b) (Err WrongPhase) (behind (rule.acts c m a i.now i.act)) ≡ cond (not b) (Err WrongPhase) (behind (rule.acts c n a i.now i.act))
    by false e = refl
    by true e = ap behind (same-acts c m n a i.now i.act e same)

pub no-birth-number : (numbering : Numbering) (seq : ℕ) (d : Draft) → opens d ≡ false → cond (begins_anew numbering d) 0 seq ≡ seq
no-birth-number RunsOn seq d closed = refl
no-birth-number Restarts seq d closed = ap (λ b. cond b 0 seq) closed

pub number-next : (s : Setup) (h : List Done) (seq : ℕ) → Runs s h → SeqIs s (published h) seq → is_born (phase_of h) ≡ true → next_number s h ≡ seq
number-next s h seq runs is is_up =
    let (m, ends, last) = runs.born is_up in
    let session = opened h - 1 in
    let d = data_draft s.book Node (later_stamp (stamp_of s h) 0) [] in
    let stamps = later-above m.draft.stamp 0 (stamp_of s h) (last-stamp s.stamp (published h) m ends) in
    let next : IsNext m (post session (published h) d) = inl (record {
      no_birth = refl;
      birth = let n = ends.births in omega (arith, n);
      session = omega (arith, last);
      stamp = stamps;
    }) in
    number-post s session (published h) d seq is (ends-more (published h) m (post session (published h) d) ends next)
    ∙ no-birth-number s.config.numbering seq d refl

pub same-step : (s : Setup) (is : List Input) (i : Input) → Told s is → answer_at s.config (standing_of s is) i ≡ right_at s (run_of s is) i
same-step s is i told =
    ap (λ a. on_ok (rules s.config (standing_of s is).seq a i) (λ g. checked g (g.plain ++ wires s.config (standing_of s is).seq g.drafts))) told.asked
    ∙ ap (λ r. on_ok r (λ g. checked g (g.plain ++ wires s.config (standing_of s is).seq g.drafts)))
    (same-rules s.config (standing_of s is).seq (next_number s (run_of s is)) (asked_of s (run_of s is)) i
    (λ is_up. sym (number-next s (run_of s is) (standing_of s is).seq (runs-all s (run_of s is) told.right) told.seq is_up)))
    ∙ by (rules s.config (next_number s (run_of s is)) (asked_of s (run_of s is)) i) refl
  where
    by : (r : Result Given EdgeFault) → rules s.config (next_number s (run_of s is)) (asked_of s (run_of s is)) i ≡ r
        → on_ok r (λ g. checked g (g.plain ++ wires s.config (standing_of s is).seq g.drafts)) ≡ on_ok r (λ g. checked g (packets_of s (run_of s is) g))
    by (Err f) e = refl
    by (Ok g) e =
        let h = run_of s is in
        let posted = posted-of s h i g (runs-all s h told.right) (rules-lawful s.config (next_number s h) (asked_of s h) i g e).course in
        ap (λ (ws : List packets.Message). checked g (g.plain ++ ws)) (wires-right s (opened h - 1) g.drafts (published h) (standing_of s is).seq posted told.seq)

pub told-all : (s : Setup) (is : List Input) → Told s is
told-all s [] = record { right = tt; asked = asked-first s; seq = first s.config.numbering }
  where
    first : (numbering : Numbering) → SeqBy numbering s [] (s.seq % 256)
    first RunsOn = omega arith
    first Restarts = λ some. absurd (omega (arith, some))
told-all s (i ∷ is) = by (right_at s (run_of s is) i) refl (told-all s is)
  where
    by : (r : Result Answer EdgeFault) → right_at s (run_of s is) i ≡ r → Told s is → Told s (i ∷ is)
    by (Err f) e told =
        let run : run_of s (i ∷ is) ≡ run_of s is = ap (with_done (run_of s is) i) e in
        let data_ : standing_of s (i ∷ is) ≡ standing_of s is = ap (after_answer s.config (standing_of s is) i) (same-step s is i told ∙ e) in
        record {
          right = subst (AllRight s) (sym run) told.right;
          asked = ap (λ (st : Standing). st.asked) data_ ∙ told.asked ∙ ap (asked_of s) (sym run);
          seq = subst (λ (st : Standing). SeqIs s (published (run_of s (i ∷ is))) st.seq) (sym data_)
              (subst (λ (h : List Done). SeqIs s (published h) (standing_of s is).seq) (sym run) told.seq);
        }
    by (Ok answer) e told =
        let g = answer.given in
        let given = right-given s (run_of s is) i answer e in
        let runs = runs-all s (run_of s is) told.right in
        let lawful = rules-lawful s.config (next_number s (run_of s is)) (asked_of s (run_of s is)) i g given in
        let posted = posted-of s (run_of s is) i g runs lawful.course in
        let run : run_of s (i ∷ is) ≡ after_it (run_of s is) i g = ap (with_done (run_of s is) i) e in
        let data_ : standing_of s (i ∷ is) ≡ stepped s.config (standing_of s is) i g = ap (after_answer s.config (standing_of s is) i) (same-step s is i told ∙ e) in
        record {
          right = subst (AllRight s) (sym run) (given, told.right);
          asked = ap (λ (st : Standing). st.asked) data_
              ∙ ap (λ (a : rule.Asked). asked_after s.config a i g) told.asked
              ∙ asked-step s (run_of s is) i g lawful.keeps runs.kept ∙ ap (asked_of s) (sym run);
          seq = subst (λ (st : Standing). SeqIs s (published (run_of s (i ∷ is))) st.seq) (sym data_)
              (subst (λ (h : List Done). SeqIs s (published h) (seq_after s.config (standing_of s is).seq g.drafts)) (sym run)
              (seq-right s (opened (run_of s is) - 1) g.drafts (published (run_of s is)) (standing_of s is).seq posted told.seq));
        }
