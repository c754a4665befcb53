-- What the contracts say by the data, by the list of all that was done.
use Rattle.std.proofs.Common.{◌≡◌, ◌⊎◌, inl, inr, ◌∙◌, ap, sym, refl, subst, ℕ, zero, suc, ◌+◌, ◌<◌, ◌≤◌, length, arith, Bool, true, false, List, [], ◌∷◌, ◌++◌, map, get_or, take, Option, Some, None, Result, Ok, Err, IfOk, IfErr, OnOk}
use Rattle.std.specs.Prelude.{slice_get, is_some}
use Rattle.std.proofs.lemmas.Bool.{true≢false}
use Rattle.std.proofs.lemmas.Option.{get_or_from_slice_get}
use Rattle.spk_payload.specs.Spelling.{HoldsOther}
use Rattle.spk_packets.specs.Message.{Message}
use Rattle.spk_edge_rules.specs.Config.{Config, Setup}
use Rattle.spk_edge.specs.View.{NodeData}
use Rattle.spk_host.specs.Data.{HostData}
use Rattle.spk_world_rules.specs.Answers.{Answer, answer_of}
use Rattle.spk_world_rules.specs.Events.{Deed, AtNode, Hand, Death, Tick, Renew, World, no_node, node_at}
use Rattle.spk_world_rules.specs.Files.{Event, Open, Accepted, Drain, Stop, Cut, Set, Device, Rebirth, State, Hand as Handing, Death as Dying, Tick as Ticking, Session, at_node, deed_of, rebirth_of}
use Rattle.spk_world_rules.specs.Queries.{calls_of}
use Rattle.spk_world_rules.specs.Refusals.{Refusal, refusal_of}
use Rattle.spk_world_run.specs.Data.{HostPart, NodePart, PublishedData, WorldData}
use Rattle.spk_world_run.specs.Run.{IsRun}
use Rattle.spk_world_run.specs.Sending.{IsKnown, IsSendable}
use Rattle.spk_world_run.specs.Step.{IsStep, death_of, packet_of}
use Rattle.spk_world_run.specs.Tests.{refusal_at}
use Rattle.spk_world.specs.declared.answer.Stopped.{Stopped}
use Rattle.spk_world.specs.declared.fault.WorldFault.{WorldFault}
use Rattle.spk_world.specs.declared.fault.WorldFault.TheVariants.{NoMemory}
use Rattle.spk_world.specs.Fault.{IsRefusal}
use Rattle.spk_world.specs.Listed.{IsRefusedBy, IsStoppedBy, with_events}
use Rattle.spk_world.specs.Outcome.{IsAmiss, IsRefused, IsUnheard, Outside, Unread, IsUnsent}
use Rattle.spk_world.specs.Steps.{AreSteps, IsNext, configs_at, deed_at, setup_at}
use Rattle.spk_world.specs.Stopping.{IsStopped}

-- ---- what the laws below give

abbrev pub Runs : Type 0
Runs = (w : World) (done : List Deed) (d after : WorldData) (e : Deed) (answer : Answer) → IsRun w done d → refusal_at d e ≡ None → IsStep d e after answer → IsRun w (e ∷ done) after

abbrev pub Answers : Type 0
Answers = (w : World) (done : List Deed) (d after : WorldData) (e : Deed) (answer : Answer) → IsRun w done d → refusal_at d e ≡ None → IsStep d e after answer → answer ≡ answer_of w done e

abbrev pub Refuses : Type 0
Refuses = (w : World) (done : List Deed) (d : WorldData) (e : Deed) → IsRun w done d → refusal_at d e ≡ refusal_of w done e

abbrev pub SendsMessages : Type 0
SendsMessages = (w : World) (done : List Deed) (d : WorldData) (h n p : ℕ) (host : HostPart) (part : NodePart) (message : PublishedData) → IsRun w done d
    → slice_get d.hosts h ≡ Some host → slice_get d.nodes n ≡ Some part → slice_get part.published p ≡ Some message
    → IsSendable host.host (packet_of message) × IsKnown message

abbrev pub SendsDeaths : Type 0
SendsDeaths = (w : World) (done : List Deed) (d : WorldData) (h n session time : ℕ) (host : HostPart) (part : NodePart) → IsRun w done d
    → slice_get d.hosts h ≡ Some host → slice_get d.nodes n ≡ Some part → slice_get part.opened session ≡ Some time
    → IsSendable host.host (death_of part.node.config session time)

-- ---- what an event does

mapped-at : (parts : List NodePart) (n : ℕ) (part : NodePart) → slice_get parts n ≡ Some part → get_or (map setup_at parts) n no_node ≡ setup_at part
mapped-at [] n part e = absurd (let f : ⊥ = cc in f)
mapped-at (x ∷ parts) zero part e = let same : x ≡ part = cc in ap setup_at same
mapped-at (x ∷ parts) (suc n) part e = mapped-at parts n part e

mapped-past : (parts : List NodePart) (n : ℕ) → slice_get parts n ≡ None → get_or (map setup_at parts) n no_node ≡ no_node
mapped-past [] n e = refl
mapped-past (x ∷ parts) zero e = absurd (let f : ⊥ = cc in f)
mapped-past (x ∷ parts) (suc n) e = mapped-past parts n e

none-past : {X Y : Type 0} (xs : List X) (ys : List Y) (n : ℕ) (y : Y) → length xs ≡ length ys → slice_get xs n ≡ None → get_or ys n y ≡ y
none-past [] [] n y size e = refl
none-past [] (z ∷ ys) n y size e = absurd (let f : ⊥ = omega (arith, size) in f)
none-past (x ∷ xs) [] n y size e = absurd (let f : ⊥ = omega (arith, size) in f)
none-past (x ∷ xs) (z ∷ ys) zero y size e = absurd (let f : ⊥ = cc in f)
none-past (x ∷ xs) (z ∷ ys) (suc n) y size e = none-past xs ys n y (omega (arith, size)) e

same-config : (w : World) (done : List Deed) (d : WorldData) (n : ℕ) → IsRun w done d → (node_at (configs_at d) n).config ≡ (node_at w n).config
same-config w done d n run = by (slice_get d.nodes n) refl
  where
    by : (o : Option NodePart) → slice_get d.nodes n ≡ o → (node_at (configs_at d) n).config ≡ (node_at w n).config
    by None e =
        ap (λ (s : Setup). s.config) (mapped-past d.nodes n e) ∙ ap (λ (s : Setup). s.config) (sym (none-past d.nodes w.nodes n no_node run.node_count e))
    by (Some part) e =
        ap (λ (s : Setup). s.config) (mapped-at d.nodes n part e) ∙ ap (λ (x : NodeData). x.config) (run.nodes n part e).node

pub same-deed : (w : World) (done : List Deed) (d : WorldData) (event : Event) → IsRun w done d → deed_at d event ≡ deed_of w event
same-deed w done d (Open node now) run = refl
same-deed w done d (Accepted node now) run = refl
same-deed w done d (Drain node now) run = refl
same-deed w done d (Stop node now) run = refl
same-deed w done d (Cut node) run = refl
same-deed w done d (Set node now alias value) run = refl
same-deed w done d (Device node now name up) run = refl
same-deed w done d (Rebirth node now) run = ap (λ (c : Config). at_node node now (rebirth_of c now)) (same-config w done d node run)
same-deed w done d (State node now online timestamp) run = refl
same-deed w done d (Handing host node position now) run = refl
same-deed w done d (Dying host node session now) run = refl
same-deed w done d (Ticking host now) run = refl
same-deed w done d (Session host now) run = refl

-- ---- nothing is amiss

unsent : (h : HostData) (m : Message) (e : WorldFault) → IsSendable h m → IsUnsent h m e → ⊥
unsent h m e can (inl large) = true≢false (sym can.writable ∙ large.1)
unsent h m _ can (inr (Outside outside)) = can.within outside
unsent h m _ can (inr (Unread r fault)) = can.unrefused r fault

pub never-amiss : SendsMessages → SendsDeaths → (w : World) (done : List Deed) (d : WorldData) (deed : Deed) (e : WorldFault) → IsRun w done d → IsAmiss d deed e → ⊥
never-amiss messages deaths w done d (AtNode n input) e run amiss = amiss
never-amiss messages deaths w done d (Hand h n p now) e run amiss =
    let can = messages w done d h n p amiss.host amiss.part amiss.message run amiss.host_there amiss.there amiss.published in
    elim amiss.unsendable [
      | inl other ↦ can.1.known other.1
      | inr sent ↦ unsent amiss.host.host (packet_of amiss.message) e can.0 sent
    ]
never-amiss messages deaths w done d (Death h n s now) e run amiss =
    unsent amiss.host.host (death_of amiss.part.node.config s amiss.time) e (deaths w done d h n s amiss.time amiss.host amiss.part run amiss.host_there amiss.there amiss.opened) amiss.unsent
never-amiss messages deaths w done d (Tick h now) e run amiss = in-session amiss.host.host.session.began (run.hosts h amiss.host amiss.host_there).began amiss.outside
  where
    in-session : (o : Option ℕ) → is_some o ≡ true → o ≡ None → ⊥
    in-session None e f = true≢false (sym e)
    in-session (Some x) e f = let z : ⊥ = cc in z
never-amiss messages deaths w done d (Renew h now) e run amiss = amiss

-- ---- steps

pub refused-by : Refuses → SendsMessages → SendsDeaths → (w : World) (done : List Deed) (d : WorldData) (event : Event) (e : WorldFault) → IsRun w done d
    → IsRefused d (deed_at d event) e → IsRefusedBy w done event e
refused-by refuses messages deaths w done d event e run refused = elim refused.why [
  | inl memory ↦ inl memory
  | inr other ↦ elim other [
    | inl named ↦
        inr (subst (λ (o : Option Refusal). IsRefusal o e) (refuses w done d (deed_at d event) run ∙ ap (refusal_of w done) (same-deed w done d event run)) named)
    | inr amiss ↦ absurd (never-amiss messages deaths w done d (deed_at d event) e run amiss)
  ]
]

pub next-run : Runs → (w : World) (done : List Deed) (d after : WorldData) (event : Event) (answer : Answer) → IsRun w done d
    → refusal_at d (deed_at d event) ≡ None → IsStep d (deed_at d event) after answer → IsRun w (deed_of w event ∷ done) after
next-run runs w done d after event answer run passed step =
    subst (λ (deed : Deed). IsRun w (deed ∷ done) after) (same-deed w done d event run) (runs w done d after (deed_at d event) answer run passed step)

pub steps-run : Runs → (w : World) (events : List Event) (done : List Deed) (d after : WorldData) → IsRun w done d → AreSteps d events after → IsRun w (with_events w events done) after
steps-run runs w [] done d after run same = subst (IsRun w done) (sym same) run
steps-run runs w (event ∷ events) done d after run steps =
    steps-run runs w events (deed_of w event ∷ done) steps.0 after
    (next-run runs w done d steps.0 event steps.1.answer run steps.1.passed steps.1.step) steps.2

pub stopped-by : Runs → Refuses → SendsMessages → SendsDeaths → (w : World) (done : List Deed) (d after : WorldData) (events : List Event) (s : Stopped) → IsRun w done d
    → IsStopped d events after s → IsStoppedBy w done events after s
stopped-by runs refuses messages deaths w done d after events s run stopped =
    let before = steps-run runs w (take s.index events) done d after run stopped.before in
    record {
      event = stopped.event;
      there = stopped.there;
      before = before;
      refused = refused-by refuses messages deaths w (with_events w (take s.index events) done) after stopped.event s.fault before stopped.refused;
    }

-- ---- what is said of an answer that is one

pub ok-on : {A E : Type 0} (r : Result A E) (P : A → Type 0) (X : Type 0) → ((a : A) → P a → X) → IfOk r P → OnOk r X
ok-on (Ok a) P X f p = f a p
ok-on (Err e) P X f p = tt

pub ok-map : {A E : Type 0} (r : Result A E) (P Q : A → Type 0) → ((a : A) → P a → Q a) → IfOk r P → IfOk r Q
ok-map (Ok a) P Q f p = f a p
ok-map (Err e) P Q f p = tt

pub err-map : {A E : Type 0} (r : Result A E) (P Q : E → Type 0) → ((e : E) → P e → Q e) → IfErr r P → IfErr r Q
err-map (Ok a) P Q f p = tt
err-map (Err e) P Q f p = f e p

pub answered : Answers → (w : World) (done : List Deed) (d after : WorldData) (event : Event) (answer : Answer) → IsRun w done d
    → refusal_at d (deed_at d event) ≡ None → IsStep d (deed_at d event) after answer → answer ≡ answer_of w done (deed_of w event)
answered answers w done d after event answer run passed step =
    answers w done d after (deed_at d event) answer run passed step ∙ ap (answer_of w done) (same-deed w done d event run)

pub allowed : Refuses → (w : World) (done : List Deed) (d : WorldData) (event : Event) → IsRun w done d → refusal_at d (deed_at d event) ≡ None → refusal_of w done (deed_of w event) ≡ None
allowed refuses w done d event run passed =
    ap (refusal_of w done) (sym (same-deed w done d event run)) ∙ sym (refuses w done d (deed_at d event) run) ∙ passed
