-- What was done is the same when more is published afterwards.
use Rattle.std.proofs.Common.{◌≡◌, ℕ, zero, suc, ◌+◌, ◌-◌, ◌%◌, ◌<◌, ◌≤◌, ◌&&◌, ◌||◌, true, cond, not, nat_lt, nat_le, eqb, List, [], ◌∷◌, ◌++◌, length, refl, sym, ◌∙◌, ap, arith, Option, Some, None, inl, inr, subst, length-append}
use Rattle.std.specs.List.{range_with_len, list_any, filter_map}
use Rattle.std.proofs.Math.ListN.{get_or-append}
use Rattle.std.proofs.lemmas.Bool.{true≢false, eq-eqb, or_left, or_right}
use Rattle.spk_sequence.specs.declared.answer.Step.TheVariants as step
use Rattle.spk_sequence.specs.declared.message.Kind.TheVariants.{Birth, Other}
use Rattle.spk_sequence.specs.Data.{Standing}
use Rattle.spk_sequence.specs.Calls.{Reply, Stepped, Ticked, Told, reply_of, after_call}
use Rattle.spk_sequence.specs.NodeRecord.{Setting, NodeRecord, Message, Numbering, RunsOn, Restarts, IsNodeRecord, message_at, opens, birth_at, session_at, stamp_at, start_of, number_by, written_number}
use Rattle.spk_sequence.specs.HostRecord.{Input, MessageComes, DeathComes, TickComes, Done, HostRecord, record_of, standing_of, done_at, call_of, kind_of, consumed_by, held_under, is_held_under, position_of, next_after, reach}
use Rattle.spk_sequence.specs.Following.{Following, contains, taken, takes, following, last_opening, is_matching_death, is_session_of, is_session_dead, dead_sessions, with_dead, is_gap_of}
use Rattle.spk_sequence.specs.Window.{MayCome, AllMayCome, IsNearTo, IsToldApart, IsNearDeath, AllNearDeaths, IsNearBirth, IsAfterOwnBirth, AllAfterBirth, NumbersFit, handed_of}
use Rattle.spk_sequence.specs.Claims.{with_more, IsSameWithMore}
use Rattle.spk_sequence.proofs.Ranges.{in_run}
use Rattle.spk_sequence.proofs.Tied.{Tied, IsTaken}
use Rattle.spk_sequence.proofs.Quiet.{following_as}
use Rattle.spk_sequence.proofs.Outcomes.{Ate}
use Rattle.spk_sequence.proofs.Always.{AllStep, outcome, tied_always}

-- what was published stays
pub message_same : (published more : NodeRecord) (p : ℕ) → p < length published → message_at (published ++ more) p ≡ message_at published p
message_same published more p below = get_or-append published more (record { birth = 0; session = 0; stamp = 0 }) p below

pub opens_same : (published more : NodeRecord) (p : ℕ) → p < length published → opens (published ++ more) p ≡ opens published p
opens_same published more p below =
    ap (λ (m : Message). eqb p 0 || nat_lt (message_at (published ++ more) (p - 1)).birth m.birth) (message_same published more p below)
    ∙ ap (λ (m : Message). eqb p 0 || nat_lt m.birth (birth_at published p)) (message_same published more (p - 1) (omega arith))

pub start_same : (published more : NodeRecord) (p : ℕ) → p < length published → start_of (published ++ more) p ≡ start_of published p
start_same published more zero below = refl
start_same published more (suc p) below =
    ap (λ b. cond b (suc p) (start_of (published ++ more) p)) (opens_same published more (suc p) below)
    ∙ ap (λ q. cond (opens published (suc p)) (suc p) q) (start_same published more p (omega arith))

pub number_same : (s : Setting) (more : NodeRecord) (p : ℕ) → p < length s.published → written_number (with_more s more) p ≡ written_number s p
number_same s more p below = go s.numbering
  where
    go : (numbering : Numbering) → number_by numbering (with_more s more) p ≡ number_by numbering s p
    go RunsOn = refl
    go Restarts = ap (λ q. (p - q) % 256) (start_same s.published more p below)

kind_same : (s : Setting) (more : NodeRecord) (p : ℕ) → p < length s.published → kind_of (with_more s more) p ≡ kind_of s p
kind_same s more p below =
    ap (λ b. cond b (Birth (stamp_at (s.published ++ more) p) ((s.bd + session_at (s.published ++ more) p) % 256)) (Other (Some (stamp_at (s.published ++ more) p)))) (opens_same s.published more p below)
    ∙ ap (λ (m : Message). cond (opens s.published p) (Birth m.stamp ((s.bd + m.session) % 256)) (Other (Some m.stamp))) (message_same s.published more p below)

-- the input is of what is published
abbrev IsKnown : Setting → Input → Type 0
IsKnown s (MessageComes p now) = p < length s.published
IsKnown s _ = Unit {0}

call_same : (s : Setting) (more : NodeRecord) (input : Input) → IsKnown s input → call_of (with_more s more) input ≡ call_of s input
call_same s more (MessageComes p now) below = rw (number_same s more p below, kind_same s more p below) refl
call_same s more (DeathComes j now) below = refl
call_same s more (TickComes now) below = refl

filter_map_same : (f g : ℕ → Option ℕ) (xs : List ℕ) → ((x : ℕ) → f x ≡ g x) → filter_map f xs ≡ filter_map g xs
filter_map_same f g [] same = refl
filter_map_same f g (x ∷ xs) same = rw (same x, filter_map_same f g xs same) refl

consumed_same : (s : Setting) (more : NodeRecord) (h : HostRecord) (input : Input) (reply : Reply) → IsKnown s input → ((x : ℕ) → held_under (with_more s more) h x ≡ held_under s h x) → consumed_by (with_more s more) h input reply ≡ consumed_by s h input reply
consumed_same s more h (MessageComes p now) (Stepped (step.Consumed n)) below under =
    ap (λ ps. p ∷ ps) (filter_map_same (λ i. held_under (with_more s more) h ((written_number (with_more s more) p + i) % 256)) (λ i. held_under s h ((written_number s p + i) % 256)) (range_with_len 1 (n - 1))
    (λ i. under ((written_number (with_more s more) p + i) % 256) ∙ ap (λ y. held_under s h ((y + i) % 256)) (number_same s more p below)))
consumed_same s more h (MessageComes p now) (Stepped step.Held) below under = refl
consumed_same s more h (MessageComes p now) (Stepped step.Old) below under = refl
consumed_same s more h (MessageComes p now) (Stepped step.Gap) below under = refl
consumed_same s more h (MessageComes p now) (Stepped step.OldBirth) below under = refl
consumed_same s more h (MessageComes p now) (Stepped step.DeadSession) below under = refl
consumed_same s more h (MessageComes p now) (Stepped step.NotLive) below under = refl
consumed_same s more h (MessageComes p now) (Ticked b) below under = refl
consumed_same s more h (MessageComes p now) (Told m) below under = refl
consumed_same s more h (DeathComes j now) reply below under = refl
consumed_same s more h (TickComes now) reply below under = refl

held_same : (s : Setting) (more : NodeRecord) (x : ℕ) (input : Input) (reply : Reply) → IsKnown s input → is_held_under (with_more s more) x input reply ≡ is_held_under s x input reply
held_same s more x (MessageComes p now) (Stepped step.Held) below = ap (λ y. eqb y x) (number_same s more p below)
held_same s more x (MessageComes p now) (Stepped (step.Consumed n)) below = refl
held_same s more x (MessageComes p now) (Stepped step.Old) below = refl
held_same s more x (MessageComes p now) (Stepped step.Gap) below = refl
held_same s more x (MessageComes p now) (Stepped step.OldBirth) below = refl
held_same s more x (MessageComes p now) (Stepped step.DeadSession) below = refl
held_same s more x (MessageComes p now) (Stepped step.NotLive) below = refl
held_same s more x (MessageComes p now) (Ticked b) below = refl
held_same s more x (MessageComes p now) (Told m) below = refl
held_same s more x (DeathComes j now) reply below = refl
held_same s more x (TickComes now) reply below = refl

-- lists of published positions
abbrev AllKnown : NodeRecord → List ℕ → Type 0
AllKnown published ps = (q : ℕ) → contains q ps ≡ true → q < length published

rest_known : (published : NodeRecord) (p : ℕ) (ps : List ℕ) → AllKnown published (p ∷ ps) → AllKnown published ps
rest_known published p ps known q there = known q (or_right (eqb p q) (contains q ps) there)

first_known : (published : NodeRecord) (p : ℕ) (ps : List ℕ) → AllKnown published (p ∷ ps) → p < length published
first_known published p ps known = known p (or_left (eqb p p) (contains p ps) (eq-eqb p p refl))

takes_same : (published more : NodeRecord) (ps : List ℕ) → AllKnown published ps → list_any (opens (published ++ more)) ps ≡ list_any (opens published) ps
takes_same published more [] known = refl
takes_same published more (p ∷ ps) known =
    rw (opens_same published more p (first_known published p ps known), takes_same published more ps (rest_known published p ps known)) refl

last_same : (published more : NodeRecord) (o : Option ℕ) (ps : List ℕ) → AllKnown published ps → last_opening (published ++ more) o ps ≡ last_opening published o ps
last_same published more o [] known = refl
last_same published more o (p ∷ ps) known =
    ap (λ b. last_opening (published ++ more) (cond b (Some p) o) ps) (opens_same published more p (first_known published p ps known))
    ∙ last_same published more (cond (opens published p) (Some p) o) ps (rest_known published p ps known)

-- what an event consumes is published
known_consumed : (s : Setting) (h : HostRecord) (input : Input) (ps : List ℕ) → Ate s h input ps → AllKnown s.published ps
known_consumed s h (DeathComes j now) ps ate q there = absurd (true≢false (sym there ∙ ap (contains q) ate))
known_consumed s h (TickComes now) ps ate q there = absurd (true≢false (sym there ∙ ap (contains q) ate))
known_consumed s h (MessageComes p now) ps ate q there = elim ate [
  | inl none ↦ absurd (true≢false (sym there ∙ ap (contains q) none))
  | inr some ↦
      let within : (p ≤ q) × (q < p + suc some.0) = in_run q p (suc some.0) (sym (ap (contains q) some.2) ∙ there) in
      let high : q < p + suc some.0 = within.1 in
      let fits : p + suc some.0 ≤ length s.published = some.1.within in omega arith
]

-- the queries agree
record Agrees (s : Setting) (more : NodeRecord) (h : HostRecord) : Type 0 where
  taken : taken (with_more s more) h ≡ taken s h
  following : following (with_more s more) h ≡ following s h
  dead : is_session_dead (with_more s more) h ≡ is_session_dead s h
  sessions : dead_sessions (with_more s more) h ≡ dead_sessions s h
  under : (x : ℕ) → held_under (with_more s more) h x ≡ held_under s h x

session_same : (s : Setting) (more : NodeRecord) (o : Option ℕ) (j : ℕ) → ((b : ℕ) → o ≡ Some b → b < length s.published) → is_session_of (with_more s more) o j ≡ is_session_of s o j
session_same s more None j below = refl
session_same s more (Some b) j below = ap (λ (m : Message). eqb j m.session) (message_same s.published more b (below b refl))

death_same : (s : Setting) (more : NodeRecord) (h : HostRecord) (input : Input) → ((b : ℕ) → taken s h ≡ Some b → b < length s.published) → Agrees s more h → is_matching_death (with_more s more) h input ≡ is_matching_death s h input
death_same s more h (MessageComes p now) below a = refl
death_same s more h (TickComes now) below a = refl
death_same s more h (DeathComes j now) below a = ap (λ o. is_session_of (with_more s more) o j) a.taken ∙ session_same s more (taken s h) j below

gap_same : (s : Setting) (more : NodeRecord) (f : Following) (n : ℕ) (input : Input) → IsKnown s input → is_gap_of (with_more s more) f n input ≡ is_gap_of s f n input
gap_same s more f n (MessageComes p now) below = ap (λ b. f.on && not b && nat_le (n + s.width) p) (opens_same s.published more p below)
gap_same s more f n (DeathComes j now) below = refl
gap_same s more f n (TickComes now) below = refl

dead_list_same : (s : Setting) (more : NodeRecord) (h : HostRecord) (input : Input) (js ks : List ℕ) → js ≡ ks → is_matching_death (with_more s more) h input ≡ is_matching_death s h input → with_dead (with_more s more) h input js ≡ with_dead s h input ks
dead_list_same s more h (MessageComes p now) js ks e m = e
dead_list_same s more h (TickComes now) js ks e m = e
dead_list_same s more h (DeathComes j now) js ks e m = ap (λ b. cond b (j ∷ js) js) m ∙ ap (λ xs. cond (is_matching_death s h (DeathComes j now)) (j ∷ xs) xs) e

agrees_after : (s : Setting) (more : NodeRecord) (h : HostRecord) (e : Done) → IsKnown s e.input → AllKnown s.published e.consumed → ((b : ℕ) → taken s h ≡ Some b → b < length s.published) → Agrees s more h → Agrees s more (e ∷ h)
agrees_after s more h e known eaten below a =
    let t : Setting = with_more s more in
    let n : ℕ = next_after h in
    let m : is_matching_death t h e.input ≡ is_matching_death s h e.input = death_same s more h e.input below a in
    let tk : takes t e ≡ takes s e = takes_same s.published more e.consumed eaten in
    record {
      taken = ap (λ o. last_opening (s.published ++ more) o e.consumed) a.taken ∙ last_same s.published more (taken s h) e.consumed eaten;
      following =
          ap (λ x. following_as (x || ((following t h).on && not (is_gap_of t (following t h) n e.input) && not (is_matching_death t h e.input))) e.input (following t h) n e.consumed) tk
          ∙ ap (λ (f : Following). following_as (takes s e || (f.on && not (is_gap_of t f n e.input) && not (is_matching_death t h e.input))) e.input f n e.consumed) a.following
          ∙ ap (λ x. following_as (takes s e || ((following s h).on && not x && not (is_matching_death t h e.input))) e.input (following s h) n e.consumed) (gap_same s more (following s h) n e.input known)
          ∙ ap (λ x. following_as (takes s e || ((following s h).on && not (is_gap_of s (following s h) n e.input) && not x)) e.input (following s h) n e.consumed) m;
      dead = ap (λ x. not x && (is_matching_death t h e.input || is_session_dead t h)) tk
          ∙ ap (λ x. not (takes s e) && (x || is_session_dead t h)) m ∙ ap (λ x. not (takes s e) && (is_matching_death s h e.input || x)) a.dead;
      sessions = dead_list_same s more h e.input _ _ a.sessions m;
      under = λ x. ap (λ b. cond b (position_of e.input) (held_under t h x)) (held_same s more x e.input e.reply known) ∙ ap (λ o. cond (is_held_under s x e.input e.reply) (position_of e.input) o) (a.under x);
    }

abbrev as_done : Input → Reply → List ℕ → Done
as_done input reply ps = record { input = input; reply = reply; consumed = ps }

done_same : (s : Setting) (more : NodeRecord) (h : HostRecord) (d : Standing) (input : Input) → IsKnown s input → Agrees s more h → done_at (with_more s more) h d input ≡ done_at s h d input
done_same s more h d input known a =
    ap (λ call. as_done input (reply_of d call) (consumed_by (with_more s more) h input (reply_of d call))) (call_same s more input known)
    ∙ ap (as_done input (reply_of d (call_of s input))) (consumed_same s more h input (reply_of d (call_of s input)) known a.under)

known_of : (s : Setting) (h : HostRecord) (input : Input) → MayCome s h input → IsKnown s input
known_of s h (MessageComes p now) may = may.published
known_of s h (DeathComes j now) may = tt
known_of s h (TickComes now) may = tt

near_same : (s : Setting) (more : NodeRecord) (o : Option ℕ) (j : ℕ) → ((b : ℕ) → o ≡ Some b → b < length s.published) → IsNearTo s o j → IsNearTo (with_more s more) o j
near_same s more None j below near = near
near_same s more (Some b) j below near =
    subst (λ (m : Message). (j < m.session + 256) × (m.session < j + 256)) (sym (message_same s.published more b (below b refl))) near

apart_same : (s : Setting) (more : NodeRecord) (o : Option ℕ) (j : ℕ) → ((b : ℕ) → o ≡ Some b → b < length s.published) → IsToldApart s o j → IsToldApart (with_more s more) o j
apart_same s more None j below apart = apart
apart_same s more (Some b) j below apart =
    subst (λ (m : Message). (s.bd + j) % 256 ≡ (s.bd + m.session) % 256 → j ≡ m.session) (sym (message_same s.published more b (below b refl))) apart

-- a session that is near still is
still_near : (s : Setting) (more : NodeRecord) (h : HostRecord) (j : ℕ) → ((b : ℕ) → taken s h ≡ Some b → b < length s.published) → Agrees s more h → IsNearTo s (taken s h) j → IsNearTo (with_more s more) (taken (with_more s more) h) j
still_near s more h j below a near = subst (λ o. IsNearTo (with_more s more) o j) (sym a.taken) (near_same s more (taken s h) j below near)

near_death_same : (s : Setting) (more : NodeRecord) (h : HostRecord) (input : Input) → ((b : ℕ) → taken s h ≡ Some b → b < length s.published) → Agrees s more h → IsNearDeath s h input → IsNearDeath (with_more s more) h input
near_death_same s more h (MessageComes p now) below a near = tt
near_death_same s more h (TickComes now) below a near = tt
near_death_same s more h (DeathComes j now) below a near = still_near s more h j below a near

-- what a number that restarts asks still holds
after_same : (s : Setting) (more : NodeRecord) (h : HostRecord) (input : Input) → IsKnown s input → IsAfterOwnBirth s h input → IsAfterOwnBirth (with_more s more) h input
after_same s more h (DeathComes j now) known after = tt
after_same s more h (TickComes now) known after = tt
after_same s more h (MessageComes p now) known after = elim after [
  | inl opening ↦ inl (opens_same s.published more p known ∙ opening)
  | inr handed ↦ inr (ap (λ q. contains q (handed_of h)) (start_same s.published more p known) ∙ handed)
]

near_birth_same : (s : Setting) (more : NodeRecord) (h : HostRecord) (input : Input) → IsKnown s input → ((b : ℕ) → taken s h ≡ Some b → b < length s.published) → Agrees s more h → IsNearBirth s h input → IsNearBirth (with_more s more) h input
near_birth_same s more h (DeathComes j now) known below a near = tt
near_birth_same s more h (TickComes now) known below a near = tt
near_birth_same s more h (MessageComes p now) known below a near = λ opening.
    let own : opens s.published p ≡ true = sym (opens_same s.published more p known) ∙ opening in
    subst (λ (m : Message). IsNearTo (with_more s more) (taken (with_more s more) h) m.session) (sym (message_same s.published more p known)) (still_near s more h (session_at s.published p) below a (near own))

may_same : (s : Setting) (more : NodeRecord) (h : HostRecord) (input : Input) → ((b : ℕ) → taken s h ≡ Some b → b < length s.published) → Agrees s more h → MayCome s h input → MayCome (with_more s more) h input
may_same s more h (TickComes now) below a may = may
may_same s more h (DeathComes j now) below a may = λ on. subst (λ o. IsToldApart (with_more s more) o j) (sym a.taken)
    (apart_same s more (taken s h) j below (may (sym (ap (λ (f : Following). f.on) a.following) ∙ on)))
may_same s more h (MessageComes p now) below a may = record {
  published = (let k : p < length s.published = may.published in let e : length (s.published ++ more) ≡ length s.published + length more = length-append s.published more in omega arith);
  not_far_behind = may.not_far_behind;
  not_far_ahead = λ on. may.not_far_ahead (sym (ap (λ (f : Following). f.on) a.following) ∙ on);
}

-- all of the inputs fit, if they did
abbrev AllFit : Setting → NodeRecord → List Input → Type 0
AllFit s more inputs = (AllAfterBirth s inputs → AllAfterBirth (with_more s more) inputs) × (AllNearDeaths s inputs → AllNearDeaths (with_more s more) inputs)

record Grown (s : Setting) (more : NodeRecord) (inputs : List Input) : Type 0 where
  same_record : record_of (with_more s more) inputs ≡ record_of s inputs
  same_standing : standing_of (with_more s more) inputs ≡ standing_of s inputs
  agrees : Agrees s more (record_of s inputs)
  may : AllMayCome (with_more s more) inputs
  fit : AllFit s more inputs

grown_always : (s : Setting) (more : NodeRecord) → IsNodeRecord s.published → 0 < s.width → s.width ≤ 96 → (inputs : List Input) → AllMayCome s inputs → AllStep s inputs → Grown s more inputs
grown_always s more node low high [] may steps = record {
  same_record = refl;
  same_standing = refl;
  may = tt;
  fit = ((λ all. tt), (λ all. tt));
  agrees = record { taken = refl; following = refl; dead = refl; sessions = refl; under = λ x. refl };
}
grown_always s more node low high (input ∷ inputs) may steps =
    let h : HostRecord = record_of s inputs in
    let d : Standing = standing_of s inputs in
    let t : Tied s h d = tied_always s node low high inputs may.1 steps.1 in
    let g : Grown s more inputs = grown_always s more node low high inputs may.1 steps.1 in
    let known : IsKnown s input = known_of s h input may.0 in
    let below : (b : ℕ) → taken s h ≡ Some b → b < length s.published = λ b tk.
    (let o : IsTaken s h d b = t.birth b tk in let bn : b < next_after h = o.below in let nr : next_after h ≤ reach h = o.reached in let fits : reach h ≤ length s.published = t.fits in omega arith) in
    let ate : Ate s h input (done_at s h d input).consumed = (outcome s h d input node t may.0 steps.0).ate in
    record {
      same_record = ap (λ x. done_at (with_more s more) x (standing_of (with_more s more) inputs) input ∷ x) g.same_record
          ∙ ap (λ x. done_at (with_more s more) h x input ∷ h) g.same_standing
          ∙ ap (λ e. e ∷ h) (done_same s more h d input known g.agrees);
      same_standing = ap (λ x. after_call x (call_of (with_more s more) input)) g.same_standing ∙ ap (after_call d) (call_same s more input known);
      agrees = agrees_after s more h (done_at s h d input) known (known_consumed s h input (done_at s h d input).consumed ate) below g.agrees;
      may = (subst (λ x. MayCome (with_more s more) x input) (sym g.same_record) (may_same s more h input below g.agrees may.0), g.may);
      fit = (
        (λ all. (
          subst (λ x. IsAfterOwnBirth (with_more s more) x input) (sym g.same_record) (after_same s more h input known all.0),
          subst (λ x. IsNearBirth (with_more s more) x input) (sym g.same_record) (near_birth_same s more h input known below g.agrees all.1),
          g.fit.0 all.2,
        )),
        (λ all. (subst (λ x. IsNearDeath (with_more s more) x input) (sym g.same_record) (near_death_same s more h input below g.agrees all.0), g.fit.1 all.1)),
      );
    }

numbers_fit : (s : Setting) (more : NodeRecord) (inputs : List Input) (numbering : Numbering) → AllFit s more inputs → NumbersFit numbering s inputs → NumbersFit numbering (with_more s more) inputs
numbers_fit s more inputs RunsOn all fit = tt
numbers_fit s more inputs Restarts all fit = all.0 fit

pub grows_always : (s : Setting) (more : NodeRecord) → IsNodeRecord s.published → 0 < s.width → s.width ≤ 96 → (inputs : List Input) → AllMayCome s inputs → AllStep s inputs → NumbersFit s.numbering s inputs → IsSameWithMore s more inputs
grows_always s more node low high inputs may steps fit =
    let g : Grown s more inputs = grown_always s more node low high inputs may steps in
    record {
      same_record = g.same_record;
      same_standing = g.same_standing;
      same_taken = ap (taken (with_more s more)) g.same_record ∙ g.agrees.taken;
      same_following = ap (following (with_more s more)) g.same_record ∙ g.agrees.following;
      same_dead = ap (is_session_dead (with_more s more)) g.same_record ∙ g.agrees.dead;
      same_sessions = ap (dead_sessions (with_more s more)) g.same_record ∙ g.agrees.sessions;
      same_held = λ x. ap (λ h. held_under (with_more s more) h x) g.same_record ∙ g.agrees.under x;
      may_come = g.may;
      numbered = numbers_fit s more inputs s.numbering g.fit fit;
      near_deaths = g.fit.1;
    }
