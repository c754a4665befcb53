-- A moment comes to a host: the data after it are those of the longer list, and the answer is the right one.
use Rattle.std.proofs.Common.{◌≡◌, ◌∙◌, ap, sym, refl, subst, ℕ, suc, ◌+◌, ◌-◌, ◌<◌, length, arith, Bool, true, false, cond, List, [], ◌∷◌, Some, None}
use Rattle.std.specs.Prelude.{slice_get}
use Rattle.std.specs.List.{count_by, range_with_len}
use Rattle.std.proofs.lemmas.Bool.{and_parts, eq-eqb, ne_eqb}
use Rattle.spk_sequence.specs.Data.{Standing}
use Rattle.spk_sequence.specs.Following as positions
use Rattle.spk_sequence.specs.Following.{following}
use Rattle.spk_sequence.specs.HostRecord as order
use Rattle.spk_sequence.specs.HostRecord.{TickComes}
use Rattle.spk_sequence.specs.Step.{after_stop, is_live, is_over, tick}
use Rattle.spk_sequence.specs.declared.phase.Phase.TheVariants as phase
use Rattle.spk_edge_rules.specs.Inputs.{Input}
use Rattle.spk_edge.specs.Along.{node_of}
use Rattle.spk_edge.specs.View.{NodeData}
use Rattle.spk_host.specs.Data.{HostData}
use Rattle.spk_host.specs.Inputs.{Ticked}
use Rattle.spk_host.specs.Nodes.{node_or}
use Rattle.spk_host.specs.Step.{fresh}
use Rattle.spk_host_node.specs.Inputs.{Ticks}
use Rattle.spk_world_rules.specs.Answers.{Answer, Gaps, answer_of, is_gap}
use Rattle.spk_world_rules.specs.Claims.{ComesAs, event_of}
use Rattle.spk_world_rules.specs.Events.{Deed, HasWidths, Tick, World, host_at, node_at}
use Rattle.spk_world_rules.specs.Queries.{calls_of, inputs_of, published_of, record_of, setting_of}
use Rattle.spk_world_rules.specs.Refusals.{AllDone, refusal_of}
use Rattle.spk_world_run.specs.Data.{HostPart, NodePart, WorldData}
use Rattle.spk_world_run.specs.Run.{IsHostRun, IsRun}
use Rattle.spk_world_run.specs.Step.{IsTick, followed, ticked}
use Rattle.spk_world_run.specs.Tests.{follows, track_at}
use Rattle.spk_world_run.proofs.Hands.{RightSteps}
use Rattle.spk_world_run.proofs.Hosts.{node-below, with-host}
use Rattle.spk_world_run.proofs.Lists.{count-cons}
use Rattle.spk_world_run.proofs.Refused.{KeptOrder, LawfulPairs, LivePhase, SameConfig, SameStanding, standing-is, track-is}
use Rattle.spk_world_run.proofs.Tracks.{told_of, tick-tracked, track-from, tracked-of}

-- ---- the host after it

tick-comes : (done : List Deed) (h n now : ℕ) → ComesAs done (Tick h now) h n (TickComes now)
tick-comes done h n now = ap (λ b. cond b (TickComes now ∷ inputs_of done h n) (inputs_of done h n)) (eq-eqb h h refl)

abbrev ticked_host : HostPart → ℕ → HostPart
ticked_host part now = record part { host = ticked part.host now }

tick-host : (w : World) (done : List Deed) (h now : ℕ) (part : HostPart) → IsHostRun w done h part → IsHostRun w (Tick h now ∷ done) h (ticked_host part now)
tick-host w done h now part run = record {
  config = run.config;
  calls = Ticked now ∷ run.calls;
  is = ap (λ (x : HostData). ticked x now) run.is;
  began = run.began;
  waits = run.waits;
  wide = run.wide;
  count = run.count;
  tracks = λ n track there.
      track-from w (Tick h now ∷ done) h n (Ticked now ∷ run.calls) track (TickComes now ∷ inputs_of done h n) (Ticks now ∷ told_of w n run.calls)
      (tick-comes done h n now) refl
      (tick-tracked (node_at w n) (published_of w done n) (host_at w h).wait (host_at w h).width (inputs_of done h n) (told_of w n run.calls) track now
      (tracked-of w done h n run.calls track (run.tracks n track there)));
}

pub tick-run : (w : World) (done : List Deed) (d after : WorldData) (h now : ℕ) (answer : Answer) → IsRun w done d
    → refusal_of w done (Tick h now) ≡ None → IsTick d h now after answer → IsRun w (Tick h now ∷ done) after
tick-run w done d after h now answer run passed moment =
    let part = moment.host in
    subst (IsRun w (Tick h now ∷ done)) (sym moment.leaves)
    (with-host w done (Tick h now) d h (ticked_host part now) run passed (λ n. refl)
    (λ k n differs. ap (λ b. cond b (TickComes now ∷ inputs_of done k n) (inputs_of done k n)) (ne_eqb h k (λ e. differs (sym e))))
    (tick-host w done h now part (run.hosts h part moment.host_there)))

-- ---- its answer

-- a moment stops the host from following where there is a gap, and nowhere else
stops : (s : Standing) (now : ℕ) → (is_over s now ≡ true → is_live s.phase ≡ true)
    → cond (is_live s.phase) 1 0 ≡ cond (is_live (tick s now).phase) 1 0 + cond (is_over s now) 1 0
stops s now live = by (is_over s now) live
  where
    by : (b : Bool) → (b ≡ true → is_live s.phase ≡ true)
        → cond (is_live s.phase) 1 0 ≡ cond (is_live (let t : Standing = cond b (after_stop s phase.Gap) s in t).phase) 1 0 + cond b 1 0
    by true on = ap (λ c. cond c 1 0) (on refl)
    by false on = let e : cond (is_live s.phase) 1 0 ≡ cond (is_live s.phase) 1 0 + 0 = omega arith in e

-- one part after the other
count-stops : (before after : NodePart → Bool) (gap : ℕ → Bool) (k : ℕ) (parts : List NodePart)
    → ((n : ℕ) (part : NodePart) → slice_get parts n ≡ Some part → cond (before part) 1 0 ≡ cond (after part) 1 0 + cond (gap (k + n)) 1 0)
    → count_by before parts ≡ count_by after parts + count_by gap (range_with_len k (length parts))
count-stops before after gap k [] each = refl
count-stops before after gap k (part ∷ parts) each =
    let here : cond (before part) 1 0 ≡ cond (after part) 1 0 + cond (gap k) 1 0 =
    each 0 part refl ∙ ap (λ i. cond (after part) 1 0 + cond (gap i) 1 0) (let z : k + 0 ≡ k = omega arith in z) in
    let rest : count_by before parts ≡ count_by after parts + count_by gap (range_with_len (k + 1) (length parts)) =
    count-stops before after gap (k + 1) parts
    (λ n x there. each (suc n) x there ∙ ap (λ i. cond (after x) 1 0 + cond (gap i) 1 0) (let z : k + suc n ≡ k + 1 + n = omega arith in z)) in
    let first = count-cons before part parts in
    let second = count-cons after part parts in
    let third = count-cons gap k (range_with_len (k + 1) (length parts)) in
    omega (arith, first, second, third, here, rest)

-- the standing of a node at the host
stands : SameConfig → KeptOrder → SameStanding → (w : World) (done : List Deed) (h n : ℕ) (part : HostPart) (node : NodePart) (calls : List Input)
    → node.node ≡ node_of (node_at w n) calls → IsHostRun w done h part → n < length w.nodes
    → follows part.host node ≡ is_live (order.standing_of (setting_of w done h n) (inputs_of done h n)).phase
stands same kept standing w done h n part node calls is run below =
    ap (λ (x : NodeData). is_live (node_or (fresh part.host) part.host.nodes x.config.group x.config.node).order.standing.phase) is
    ∙ ap (λ (x : Standing). is_live x.phase) (standing-is same kept standing w done h n part run (track_at part n) (track-is w done h n part run below))

-- a gap is there only while the host follows
gap-live : RightSteps → LivePhase → LawfulPairs → (w : World) (done : List Deed) (h n now : ℕ) → HasWidths w → AllDone w (Tick h now ∷ done)
    → is_over (order.standing_of (setting_of w done h n) (inputs_of done h n)) now ≡ true
    → is_live (order.standing_of (setting_of w done h n) (inputs_of done h n)).phase ≡ true
gap-live right live lawful w done h n now widths all over =
    let s = setting_of w done h n in
    let r = record_of w done h n in
    let gap : is_over (order.standing_of s (inputs_of done h n)) now ≡ positions.is_gap s r (TickComes now) =
    ap (λ (e : order.Done). is_gap e.reply) (right w done (Tick h now) h n (TickComes now) widths all (tick-comes done h n now)) in
    (live s (inputs_of done h n) (lawful w done h n widths all.1).lawful).live
    ∙ (and_parts (following s r).on _ (and_parts _ _ (sym gap ∙ over)).0).0

pub tick-answer : RightSteps → LivePhase → LawfulPairs → SameConfig → KeptOrder → SameStanding
    → (w : World) (done : List Deed) (d after : WorldData) (h now : ℕ) (answer : Answer) → IsRun w done d
    → refusal_of w done (Tick h now) ≡ None → IsTick d h now after answer → answer ≡ answer_of w done (Tick h now)
tick-answer right live lawful same kept standing w done d after h now answer run passed moment =
    let part = moment.host in
    let host = run.hosts h part moment.host_there in
    let later = tick-host w done h now part host in
    let gap : ℕ → Bool = λ n. is_gap (event_of w done h n (TickComes now)).reply in
    let counted : followed part.host d.nodes ≡ followed (ticked part.host now) d.nodes + count_by gap (range_with_len 0 (length d.nodes)) =
    count-stops (follows part.host) (follows (ticked part.host now)) gap 0 d.nodes
    (λ n node there.
    let below = node-below w done d n node run there in
    let is = (run.nodes n node there).node in
    let st = order.standing_of (setting_of w done h n) (inputs_of done h n) in
    let old : follows part.host node ≡ is_live st.phase = stands same kept standing w done h n part node (calls_of done n) is host below in
    let new : follows (ticked part.host now) node ≡ is_live (tick st now).phase =
    stands same kept standing w (Tick h now ∷ done) h n (ticked_host part now) node (calls_of done n) is later below
    ∙ ap (λ (i : List order.Input). is_live (order.standing_of (setting_of w done h n) i).phase) (tick-comes done h n now) in
    ap (λ b. cond b 1 0) old
    ∙ stops st now (gap-live right live lawful w done h n now run.world.widths (passed, run.all))
    ∙ ap (λ b. cond b 1 0 + cond (is_over st now) 1 0) (sym new)
    ∙ ap (λ i. cond (follows (ticked part.host now) node) 1 0 + cond (gap i) 1 0) (let z : n ≡ 0 + n = omega arith in z)) in
    let taken-off : followed part.host d.nodes - followed (ticked part.host now) d.nodes ≡ count_by gap (range_with_len 0 (length d.nodes)) = omega (arith, counted) in
    moment.gaps ∙ ap Gaps (taken-off ∙ ap (λ k. count_by gap (range_with_len 0 k)) run.node_count)
