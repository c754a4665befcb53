-- What isn't refused may come: inside the window, with numbers and bdSeqs that tell positions and sessions apart.
use Rattle.std.proofs.Common.{◌≡◌, ℕ, zero, suc, ◌+◌, ◌-◌, ◌*◌, ◌<◌, ◌≤◌, Bool, true, false, not, ◌&&◌, ◌||◌, cond, List, [], ◌∷◌, ◌++◌, length, get_or, nat_lt, nat_le, Option, Some, None, refl, sym, ◌∙◌, ap, subst, arith, inl, inr}
use Rattle.std.specs.Prelude.{◌==◌}
use Rattle.std.specs.List.{AllByRecursion}
use Rattle.std.proofs.lemmas.Bool.{true≢false, and_parts, eq-eqb, eqb-true, leb-true, ltb-true}
use Rattle.std.proofs.lemmas.List.{append-nil, map-append}
use Rattle.spk_sequence.specs.Claims.{AllPublished, IsLawful, IsSameWithMore, with_more}
use Rattle.spk_sequence.specs.Following.{following, taken}
use Rattle.spk_sequence.specs.HostRecord as order
use Rattle.spk_sequence.specs.HostRecord.{HostRecord, MessageComes, DeathComes, TickComes, reach}
use Rattle.spk_sequence.specs.NodeRecord.{IsNodeRecord, NodeRecord, Numbering, RunsOn, Restarts, Setting, opens, session_at, start_of}
use Rattle.spk_sequence.specs.NodeRecord as sequence
use Rattle.spk_sequence.specs.Window.{AllMayCome, AllNearDeaths, InWindow, IsAfterBirth, IsNearBirth, IsNearTo, IsToldApart, NumbersFit}
use Rattle.spk_edge_rules.specs.Config.{Setup}
use Rattle.spk_edge_rules.specs.Inputs as edge
use Rattle.spk_edge_rules.specs.Run as run
use Rattle.spk_edge_rules.specs.Run.{outline, published, run_of}
use Rattle.spk_tie.specs.Tie.{host_setting}
use Rattle.spk_world_rules.specs.Claims.{ComesAs, IsPassedBy, event_of}
use Rattle.spk_world_rules.specs.Events.{Deed, AtNode, Hand, Death, Tick, Renew, HasWidth, HasWidths, HostData, World, host_at, no_host, node_at}
use Rattle.spk_world_rules.specs.Queries.{calls_of, consumed_of, inputs_of, published_of, record_of, sessions_of, setting_of}
use Rattle.spk_world_rules.specs.Refusals.{AllDone, Refusal, NotPublished, OutsideWindow, TooFar, OvertakesBirth, death_refusal, has_host, has_node, if_there, is_far, is_far_from, is_outside, message_refusal, overtakes, refusal_of}

-- ---- what the laws below give

abbrev pub Grows : Type 0
Grows = (s : Setting) (more : NodeRecord) (inputs : List order.Input) → IsLawful s inputs → IsSameWithMore s more inputs

abbrev pub StillLawful : Type 0
StillLawful = (s : Setting) (more : NodeRecord) (inputs : List order.Input) → IsLawful s inputs → IsNodeRecord (s.published ++ more) → IsLawful (with_more s more) inputs

abbrev pub Appends : Type 0
Appends = (s : Setup) (later is : List edge.Input) → (more : List run.Message) × (published (run_of s (later ++ is)) ≡ published (run_of s is) ++ more)

abbrev pub IsRecorded : Type 0
IsRecorded = (s : Setup) (is : List edge.Input) → IsNodeRecord (outline (published (run_of s is)))

-- ---- tests that passed

not-true : (b : Bool) → not b ≡ false → b ≡ true
not-true true e = refl
not-true false e = absurd (true≢false e)

or-parts : (a b : Bool) → (a || b) ≡ false → (a ≡ false) × (b ≡ false)
or-parts true b e = absurd (true≢false e)
or-parts false b e = (refl, e)

and-second : (a b : Bool) → (a && b) ≡ false → a ≡ true → b ≡ false
and-second true b e on = e
and-second false b e on = absurd (true≢false (sym on))

pub there-none : (b : Bool) (r : Option Refusal) → if_there b r ≡ None → r ≡ None
there-none true r e = e
there-none false r e = absurd (let x : ⊥ = cc in x)

message-tests : (b1 b2 b3 b4 : Bool) → cond (not b1) (Some NotPublished) (cond b2 (Some OutsideWindow) (cond b3 (Some TooFar) (cond b4 (Some OvertakesBirth) None))) ≡ None
    → (b1 ≡ true) × (b2 ≡ false) × (b3 ≡ false) × (b4 ≡ false)
message-tests false b2 b3 b4 e = absurd (let x : ⊥ = cc in x)
message-tests true true b3 b4 e = absurd (let x : ⊥ = cc in x)
message-tests true false true b4 e = absurd (let x : ⊥ = cc in x)
message-tests true false false true e = absurd (let x : ⊥ = cc in x)
message-tests true false false false e = (refl, refl, refl, refl)

death-tests : (b1 b2 : Bool) → cond (not b1) (Some NotPublished) (cond b2 (Some TooFar) None) ≡ None → (b1 ≡ true) × (b2 ≡ false)
death-tests false b2 e = absurd (let x : ⊥ = cc in x)
death-tests true true e = absurd (let x : ⊥ = cc in x)
death-tests true false e = (refl, refl)

pub message-passed : (s : Setting) (r : HostRecord) (p : ℕ) → message_refusal s r p ≡ None
    → (nat_lt p (length s.published) ≡ true) × (is_outside s r p ≡ false) × ((opens s.published p && is_far s r (session_at s.published p)) ≡ false) × (overtakes s.numbering s r p ≡ false)
message-passed s r p e =
    message-tests (nat_lt p (length s.published)) (is_outside s r p) (opens s.published p && is_far s r (session_at s.published p)) (overtakes s.numbering s r p) e

near-to : (s : Setting) (o : Option ℕ) (session : ℕ) → is_far_from s o session ≡ false → IsNearTo s o session
near-to s None session e = tt
near-to s (Some b) session e =
    let parts = or-parts (not (nat_lt session (session_at s.published b + 256))) (not (nat_lt (session_at s.published b) (session + 256))) e in
    (ltb-true session (session_at s.published b + 256) (not-true _ parts.0), ltb-true (session_at s.published b) (session + 256) (not-true _ parts.1))

-- near sessions are told apart by one byte
told-apart : (s : Setting) (o : Option ℕ) (session : ℕ) → IsNearTo s o session → IsToldApart s o session
told-apart s None session near = tt
told-apart s (Some b) session near = λ e. let first = near.0 in let second = near.1 in omega (arith, first, second, e)

in-window : (s : Setting) (r : HostRecord) (p : ℕ) → nat_lt p (length s.published) ≡ true → is_outside s r p ≡ false → InWindow s r p
in-window s r p there inside =
    let parts = or-parts (not (nat_le (reach r) (p + s.width))) ((following s r).on && not (nat_lt p (reach r + (256 - 2 * s.width)))) inside in
    record {
      published = ltb-true p (length s.published) there;
      not_far_behind = leb-true (reach r) (p + s.width) (not-true _ parts.0);
      not_far_ahead = λ on. ltb-true p (reach r + (256 - 2 * s.width)) (not-true _ (and-second (following s r).on _ parts.1 on));
    }

after-birth : (s : Setting) (r : HostRecord) (p : ℕ) → overtakes Restarts s r p ≡ false → IsAfterBirth s r p
after-birth s r p e = by (opens s.published p) refl
  where
    by : (b : Bool) → opens s.published p ≡ b → IsAfterBirth s r p
    by true opening = inl opening
    by false closed = inr (not-true _ (and-second (not (opens s.published p)) _ e (ap not closed)))

pub near-birth : (s : Setting) (r : HostRecord) (p now : ℕ) → message_refusal s r p ≡ None → IsNearBirth s r (MessageComes p now)
near-birth s r p now e = λ opening. near-to s (taken s r) (session_at s.published p) (and-second (opens s.published p) _ (message-passed s r p e).2 opening)

-- ---- one input more

abbrev Pair : Setting → List order.Input → Type 0
Pair s inputs = IsLawful s inputs × AllNearDeaths s inputs

pub hand-pair : (s : Setting) (inputs : List order.Input) (p now : ℕ) → Pair s inputs → message_refusal s (order.record_of s inputs) p ≡ None → Pair s (MessageComes p now ∷ inputs)
hand-pair s inputs p now pair e =
    let r = order.record_of s inputs in
    let passed = message-passed s r p e in (
      record {
        node = pair.0.node;
        some_places = pair.0.some_places;
        few_places = pair.0.few_places;
        may_come = (in-window s r p passed.0 passed.1, pair.0.may_come);
        numbered = fits s.numbering passed.3 pair.0.numbered;
      },
      (tt, pair.1),
    )
  where
    fits : (numbering : Numbering) → overtakes numbering s (order.record_of s inputs) p ≡ false → NumbersFit numbering s inputs → NumbersFit numbering s (MessageComes p now ∷ inputs)
    fits RunsOn first before = tt
    fits Restarts first before = (after-birth s (order.record_of s inputs) p first, near-birth s (order.record_of s inputs) p now e, before)

pub death-pair : (s : Setting) (inputs : List order.Input) (sessions session now : ℕ) → Pair s inputs → death_refusal s (order.record_of s inputs) sessions session ≡ None → Pair s (DeathComes session now ∷ inputs)
death-pair s inputs sessions session now pair e =
    let r = order.record_of s inputs in
    let near = near-to s (taken s r) session (death-tests (nat_lt session sessions) (is_far s r session) e).1 in (
      record {
        node = pair.0.node;
        some_places = pair.0.some_places;
        few_places = pair.0.few_places;
        may_come = ((λ on. told-apart s (taken s r) session near), pair.0.may_come);
        numbered = fits s.numbering pair.0.numbered;
      },
      (near, pair.1),
    )
  where
    fits : (numbering : Numbering) → NumbersFit numbering s inputs → NumbersFit numbering s (DeathComes session now ∷ inputs)
    fits RunsOn before = tt
    fits Restarts before = (tt, tt, before)

pub tick-pair : (s : Setting) (inputs : List order.Input) (now : ℕ) → Pair s inputs → Pair s (TickComes now ∷ inputs)
tick-pair s inputs now pair = (
  record {
    node = pair.0.node;
    some_places = pair.0.some_places;
    few_places = pair.0.few_places;
    may_come = (tt, pair.0.may_come);
    numbered = fits s.numbering pair.0.numbered;
  },
  (tt, pair.1),
)
  where
    fits : (numbering : Numbering) → NumbersFit numbering s inputs → NumbersFit numbering s (TickComes now ∷ inputs)
    fits RunsOn before = tt
    fits Restarts before = (tt, tt, before)

pub fresh-pair : (s : Setting) → IsNodeRecord s.published → 0 < s.width → s.width ≤ 96 → Pair s []
fresh-pair s node some few = (record { node = node; some_places = some; few_places = few; may_come = tt; numbered = fits s.numbering }, tt)
  where
    fits : (numbering : Numbering) → NumbersFit numbering s []
    fits RunsOn = tt
    fits Restarts = tt

-- ---- more is published

outline-append : (xs ys : List run.Message) → outline (xs ++ ys) ≡ outline xs ++ outline ys
outline-append xs ys = map-append (λ (m : run.Message). let r : sequence.Message = record { birth = m.birth; session = m.session; stamp = m.draft.stamp } in r) xs ys

pub node-pair : Grows → StillLawful → Appends → IsRecorded → (s : Setup) (calls : List edge.Input) (input : edge.Input) (wait width : ℕ) (inputs : List order.Input)
    → Pair (host_setting s (published (run_of s calls)) wait width) inputs → Pair (host_setting s (published (run_of s (input ∷ calls))) wait width) inputs
node-pair grows still appends recorded s calls input wait width inputs pair =
    let before = published (run_of s calls) in
    let st = host_setting s before wait width in
    let more = appends s (input ∷ []) calls in
    let same : outline (published (run_of s (input ∷ calls))) ≡ outline before ++ outline more.0 = ap outline more.1 ∙ outline-append before more.0 in
    let longer : IsNodeRecord (outline before ++ outline more.0) = subst IsNodeRecord same (recorded s (input ∷ calls)) in
    let grown : Pair (with_more st (outline more.0)) inputs = (still st (outline more.0) inputs pair.0 longer, (grows st (outline more.0) inputs pair.0).near_deaths pair.1) in
    subst (λ (r : NodeRecord). Pair (record st { published = r }) inputs) (sym same) grown

-- ---- any list

width-at : (hosts : List HostData) (h : ℕ) → AllByRecursion HasWidth hosts → HasWidth (get_or hosts h no_host)
width-at [] h all = record { some_places = omega arith; few_places = omega arith }
width-at (x ∷ hosts) zero all = all.0
width-at (x ∷ hosts) (suc h) all = width-at hosts h all.1

pub pairs : Grows → StillLawful → Appends → IsRecorded → (w : World) (done : List Deed) (h n : ℕ) → HasWidths w → AllDone w done → Pair (setting_of w done h n) (inputs_of done h n)
pairs grows still appends recorded w [] h n widths all =
    let width = width-at w.hosts h widths in
    fresh-pair (setting_of w [] h n) (recorded (node_at w n) []) width.some_places width.few_places
pairs grows still appends recorded w (AtNode m input ∷ done) h n widths all = by (m == n) refl (pairs grows still appends recorded w done h n widths all.1)
  where
    by : (b : Bool) → (m == n) ≡ b → Pair (setting_of w done h n) (inputs_of done h n)
        → Pair (host_setting (node_at w n) (published (run_of (node_at w n) (cond b (input ∷ calls_of done n) (calls_of done n)))) (host_at w h).wait (host_at w h).width) (inputs_of done h n)
    by true e pair = node-pair grows still appends recorded (node_at w n) (calls_of done n) input (host_at w h).wait (host_at w h).width (inputs_of done h n) pair
    by false e pair = pair
pairs grows still appends recorded w (Hand k m p now ∷ done) h n widths all = by ((k == h) && (m == n)) refl (pairs grows still appends recorded w done h n widths all.1)
  where
    by : (b : Bool) → ((k == h) && (m == n)) ≡ b → Pair (setting_of w done h n) (inputs_of done h n)
        → Pair (setting_of w done h n) (cond b (MessageComes p now ∷ inputs_of done h n) (inputs_of done h n))
    by true e pair =
        let same = and_parts (k == h) (m == n) e in
        let here : message_refusal (setting_of w done k m) (record_of w done k m) p ≡ None = there-none (has_host w k && has_node w m) _ all.0 in
        let there : message_refusal (setting_of w done h n) (record_of w done h n) p ≡ None =
        subst (λ i. message_refusal (setting_of w done h i) (record_of w done h i) p ≡ None) (eqb-true m n same.1)
        (subst (λ i. message_refusal (setting_of w done i m) (record_of w done i m) p ≡ None) (eqb-true k h same.0) here) in
        hand-pair (setting_of w done h n) (inputs_of done h n) p now pair there
    by false e pair = pair
pairs grows still appends recorded w (Death k m session now ∷ done) h n widths all = by ((k == h) && (m == n)) refl (pairs grows still appends recorded w done h n widths all.1)
  where
    by : (b : Bool) → ((k == h) && (m == n)) ≡ b → Pair (setting_of w done h n) (inputs_of done h n)
        → Pair (setting_of w done h n) (cond b (DeathComes session now ∷ inputs_of done h n) (inputs_of done h n))
    by true e pair =
        let same = and_parts (k == h) (m == n) e in
        let here : death_refusal (setting_of w done k m) (record_of w done k m) (sessions_of w done m) session ≡ None = there-none (has_host w k && has_node w m) _ all.0 in
        let there : death_refusal (setting_of w done h n) (record_of w done h n) (sessions_of w done n) session ≡ None =
        subst (λ i. death_refusal (setting_of w done h i) (record_of w done h i) (sessions_of w done i) session ≡ None) (eqb-true m n same.1)
        (subst (λ i. death_refusal (setting_of w done i m) (record_of w done i m) (sessions_of w done m) session ≡ None) (eqb-true k h same.0) here) in
        death-pair (setting_of w done h n) (inputs_of done h n) (sessions_of w done n) session now pair there
    by false e pair = pair
pairs grows still appends recorded w (Tick k now ∷ done) h n widths all = by (k == h) (pairs grows still appends recorded w done h n widths all.1)
  where
    by : (b : Bool) → Pair (setting_of w done h n) (inputs_of done h n) → Pair (setting_of w done h n) (cond b (TickComes now ∷ inputs_of done h n) (inputs_of done h n))
    by true pair = tick-pair (setting_of w done h n) (inputs_of done h n) now pair
    by false pair = pair
pairs grows still appends recorded w (Renew k now ∷ done) h n widths all = by (k == h) (pairs grows still appends recorded w done h n widths all.1)
  where
    by : (b : Bool) → Pair (setting_of w done h n) (inputs_of done h n) → Pair (setting_of w done h n) (cond b [] (inputs_of done h n))
    by true pair = fresh-pair (setting_of w done h n) pair.0.node pair.0.some_places pair.0.few_places
    by false pair = pair

-- ---- a thing that comes

no-longer : {X : Type 0} (x : X) (xs : List X) → xs ≡ x ∷ xs → ⊥
no-longer x xs e = let same : length xs ≡ suc (length xs) = ap (λ (l : List _). length l) e in omega (arith, same)

pub comes-pair : (w : World) (done : List Deed) (e : Deed) (h n : ℕ) (input : order.Input) → ComesAs done e h n input
    → Pair (setting_of w (e ∷ done) h n) (inputs_of (e ∷ done) h n) → Pair (setting_of w done h n) (input ∷ inputs_of done h n)
comes-pair w done (AtNode m i) h n input comes pair = absurd (no-longer input (inputs_of done h n) comes)
comes-pair w done (Hand k m p now) h n input comes pair = subst (Pair (setting_of w done h n)) comes pair
comes-pair w done (Death k m session now) h n input comes pair = subst (Pair (setting_of w done h n)) comes pair
comes-pair w done (Tick k now) h n input comes pair = subst (Pair (setting_of w done h n)) comes pair
comes-pair w done (Renew k now) h n input comes pair = subst (Pair (setting_of w done h n)) comes pair

hand-here : (w : World) (done : List Deed) (k m h n p now : ℕ) → refusal_of w done (Hand k m p now) ≡ None → ((k == h) && (m == n)) ≡ true
    → message_refusal (setting_of w done h n) (record_of w done h n) p ≡ None
hand-here w done k m h n p now e both =
    let same = and_parts (k == h) (m == n) both in
    subst (λ i. message_refusal (setting_of w done h i) (record_of w done h i) p ≡ None) (eqb-true m n same.1)
    (subst (λ i. message_refusal (setting_of w done i m) (record_of w done i m) p ≡ None) (eqb-true k h same.0) (there-none (has_host w k && has_node w m) _ e))

same-head : (x y : order.Input) (xs : List order.Input) → x ∷ xs ≡ y ∷ xs → x ≡ y
same-head x y xs e = cc

pub comes-near : (w : World) (done : List Deed) (e : Deed) (h n : ℕ) (input : order.Input) → ComesAs done e h n input → refusal_of w done e ≡ None
    → IsNearBirth (setting_of w done h n) (record_of w done h n) input
comes-near w done (AtNode m i) h n input comes e = absurd (no-longer input (inputs_of done h n) comes)
comes-near w done (Hand k m p now) h n input comes e = by ((k == h) && (m == n)) refl comes
  where
    by : (b : Bool) → ((k == h) && (m == n)) ≡ b → cond b (MessageComes p now ∷ inputs_of done h n) (inputs_of done h n) ≡ input ∷ inputs_of done h n
        → IsNearBirth (setting_of w done h n) (record_of w done h n) input
    by true here same =
        subst (IsNearBirth (setting_of w done h n) (record_of w done h n)) (same-head (MessageComes p now) input (inputs_of done h n) same)
        (near-birth (setting_of w done h n) (record_of w done h n) p now (hand-here w done k m h n p now e here))
    by false elsewhere same = absurd (no-longer input (inputs_of done h n) same)
comes-near w done (Death k m session now) h n input comes e = by ((k == h) && (m == n)) comes
  where
    by : (b : Bool) → cond b (DeathComes session now ∷ inputs_of done h n) (inputs_of done h n) ≡ input ∷ inputs_of done h n
        → IsNearBirth (setting_of w done h n) (record_of w done h n) input
    by true same = subst (IsNearBirth (setting_of w done h n) (record_of w done h n)) (same-head (DeathComes session now) input (inputs_of done h n) same) tt
    by false same = absurd (no-longer input (inputs_of done h n) same)
comes-near w done (Tick k now) h n input comes e = by (k == h) comes
  where
    by : (b : Bool) → cond b (TickComes now ∷ inputs_of done h n) (inputs_of done h n) ≡ input ∷ inputs_of done h n
        → IsNearBirth (setting_of w done h n) (record_of w done h n) input
    by true same = subst (IsNearBirth (setting_of w done h n) (record_of w done h n)) (same-head (TickComes now) input (inputs_of done h n) same) tt
    by false same = absurd (no-longer input (inputs_of done h n) same)
comes-near w done (Renew k now) h n input comes e = by (k == h) comes
  where
    by : (b : Bool) → cond b [] (inputs_of done h n) ≡ input ∷ inputs_of done h n → IsNearBirth (setting_of w done h n) (record_of w done h n) input
    by true same = absurd (let x : ⊥ = cc in x)
    by false same = absurd (no-longer input (inputs_of done h n) same)

pub hand-comes : (done : List Deed) (h n p now : ℕ) → ComesAs done (Hand h n p now) h n (MessageComes p now)
hand-comes done h n p now = ap (λ b. cond b (MessageComes p now ∷ inputs_of done h n) (inputs_of done h n)) (both (eq-eqb h h refl) (eq-eqb n n refl))
  where
    both : (h == h) ≡ true → (n == n) ≡ true → ((h == h) && (n == n)) ≡ true
    both p q = ap (λ x. x && (n == n)) p ∙ q

-- ---- what is added

pub published-more : Appends → (w : World) (done : List Deed) (e : Deed) (n : ℕ) → (more : List run.Message) × (published_of w (e ∷ done) n ≡ published_of w done n ++ more)
published-more appends w done (AtNode m input) n = by (m == n)
  where
    by : (b : Bool) → (more : List run.Message) × (published (run_of (node_at w n) (cond b (input ∷ calls_of done n) (calls_of done n))) ≡ published_of w done n ++ more)
    by true = appends (node_at w n) (input ∷ []) (calls_of done n)
    by false = ([], sym (append-nil (published_of w done n)))
published-more appends w done (Hand k m p now) n = ([], sym (append-nil (published_of w done n)))
published-more appends w done (Death k m session now) n = ([], sym (append-nil (published_of w done n)))
published-more appends w done (Tick k now) n = ([], sym (append-nil (published_of w done n)))
published-more appends w done (Renew k now) n = ([], sym (append-nil (published_of w done n)))

pub adds : (w : World) (done : List Deed) (e : Deed) (h n : ℕ) (input : order.Input) → ComesAs done e h n input
    → consumed_of w (e ∷ done) h n ≡ consumed_of w done h n ++ (event_of w done h n input).consumed
adds w done (AtNode m i) h n input comes = absurd (no-longer input (inputs_of done h n) comes)
adds w done (Hand k m p now) h n input comes = ap (λ is. order.consumed_of (order.record_of (setting_of w done h n) is)) comes
adds w done (Death k m session now) h n input comes = ap (λ is. order.consumed_of (order.record_of (setting_of w done h n) is)) comes
adds w done (Tick k now) h n input comes = ap (λ is. order.consumed_of (order.record_of (setting_of w done h n) is)) comes
adds w done (Renew k now) h n input comes = ap (λ is. order.consumed_of (order.record_of (setting_of w done h n) is)) comes

pub keeps : Grows → Appends → (w : World) (done : List Deed) (e : Deed) (h n : ℕ) → IsPassedBy done e h n → Pair (setting_of w done h n) (inputs_of done h n)
    → consumed_of w (e ∷ done) h n ≡ consumed_of w done h n
keeps grows appends w done (AtNode m i) h n passed pair = by (m == n)
  where
    by : (b : Bool) → order.consumed_of (order.record_of (host_setting (node_at w n) (published (run_of (node_at w n) (cond b (i ∷ calls_of done n) (calls_of done n)))) (host_at w h).wait (host_at w h).width) (inputs_of done h n))
        ≡ consumed_of w done h n
    by false = refl
    by true =
        let st = setting_of w done h n in
        let more = appends (node_at w n) (i ∷ []) (calls_of done n) in
        ap (λ (r : NodeRecord). order.consumed_of (order.record_of (record st { published = r }) (inputs_of done h n))) (ap outline more.1 ∙ outline-append (published_of w done n) more.0)
        ∙ ap order.consumed_of (grows st (outline more.0) (inputs_of done h n) pair.0).same_record
keeps grows appends w done (Hand k m p now) h n passed pair = ap (λ is. order.consumed_of (order.record_of (setting_of w done h n) is)) passed
keeps grows appends w done (Death k m session now) h n passed pair = ap (λ is. order.consumed_of (order.record_of (setting_of w done h n) is)) passed
keeps grows appends w done (Tick k now) h n passed pair = ap (λ is. order.consumed_of (order.record_of (setting_of w done h n) is)) passed
keeps grows appends w done (Renew k now) h n passed pair = ap (λ is. order.consumed_of (order.record_of (setting_of w done h n) is)) passed

pub renews : (w : World) (done : List Deed) (h n now : ℕ) → consumed_of w (Renew h now ∷ done) h n ≡ []
renews w done h n now = ap (λ b. order.consumed_of (order.record_of (setting_of w done h n) (cond b [] (inputs_of done h n)))) (eq-eqb h h refl)

-- ---- what came was published

pub all-published : (s : Setting) (inputs : List order.Input) → AllMayCome s inputs → AllPublished s inputs
all-published s [] all = tt
all-published s (MessageComes p now ∷ inputs) all = (all.0.published, all-published s inputs all.1)
all-published s (DeathComes session now ∷ inputs) all = (tt, all-published s inputs all.1)
all-published s (TickComes now ∷ inputs) all = (tt, all-published s inputs all.1)
