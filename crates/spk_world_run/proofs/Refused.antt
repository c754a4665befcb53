-- A thing is refused by the data exactly where, and as, it is by the list of what was done.
use Rattle.std.proofs.Common.{◌≡◌, ◌∙◌, ap, sym, refl, ℕ, zero, suc, ◌+◌, ◌-◌, ◌*◌, ◌<◌, ◌≤◌, length, arith, Bool, true, false, not, ◌&&◌, ◌||◌, cond, List, [], ◌∷◌, get_or, nat_lt, nat_le, Option, Some, None}
use Rattle.std.specs.Prelude.{slice_get, ◌==◌}
use Rattle.std.specs.List.{enumerate_from}
use Rattle.std.specs.Option.{option_map}
use Rattle.std.proofs.lemmas.Bool.{true≢false, eq-eqb, eqb-true, le-ltb, lt-ltb}
use Rattle.std.proofs.lemmas.List.{length-map}
use Rattle.std.proofs.lemmas.List.FromFn.{length-enumerate_from}
use Rattle.std.proofs.lemmas.Option.{slice_get_within, slice_get-get_or, slice_get-map, get_or_from_slice_get}
use Rattle.spk_sequence.specs.Following.{contains, following, taken}
use Rattle.spk_sequence.specs.HostRecord as order
use Rattle.spk_sequence.specs.HostRecord.{HostRecord, reach}
use Rattle.spk_sequence.specs.NodeRecord as sequence
use Rattle.spk_sequence.specs.NodeRecord.{NodeRecord, Numbering, RunsOn, Restarts, Setting, opens, session_at, start_of}
use Rattle.spk_sequence.specs.Step.{is_live}
use Rattle.spk_sequence.specs.Window.{handed_of}
use Rattle.spk_sequence.specs.Claims.{IsLawful, IsLiveByPositions}
use Rattle.spk_sequence.specs.Data.{Standing}
use Rattle.spk_order.specs.Ordered.{Ordered}
use Rattle.spk_reading.specs.Data.{NumberedData}
use Rattle.spk_heard.specs.Read.{AreRead}
use Rattle.spk_host.specs.Data.{HostData}
use Rattle.spk_host.specs.Inputs.{Call, host_after, node_calls}
use Rattle.spk_host.specs.Nodes.{node_or}
use Rattle.spk_host.specs.Step.{fresh}
use Rattle.spk_host_node.specs.Data.{fresh_node}
use Rattle.spk_host_node.specs.Inputs as host
use Rattle.spk_host_node.specs.Inputs.{order_after, since_end}
use Rattle.spk_host_session.specs.Data.{Config}
use Rattle.spk_tie.specs.Tie.{host_setting}
use Rattle.spk_world_rules.specs.Claims.{IsLawfulPair}
use Rattle.spk_edge_rules.specs.Config.{Setup}
use Rattle.spk_edge_rules.specs.Inputs.{Input}
use Rattle.spk_edge_rules.specs.Run.{Message, outline, published, right_at, run_of}
use Rattle.spk_edge_rules.specs.Step.{answer_at}
use Rattle.spk_edge.specs.View.{NodeData}
use Rattle.spk_world_rules.specs.Events.{Deed, AtNode, Hand, Death, Tick, Renew, HasWidths, World, host_at, node_at}
use Rattle.spk_world_rules.specs.Queries.{calls_of, inputs_of, published_of, record_of, sessions_of, setting_of}
use Rattle.spk_world_rules.specs.Refusals.{AllDone, Refusal, NotPublished, OutsideWindow, TooFar, OvertakesBirth, edge_refusal, has_host, has_node, if_there, is_far, is_far_from, is_outside, message_refusal, death_refusal, overtakes, refusal_of}
use Rattle.spk_world_run.specs.Data.{HostPart, NodePart, PublishedData, Track, WorldData, no_track}
use Rattle.spk_world_run.specs.Run.{IsHostRun, IsNodeRun, IsRun, IsTrack, post_of, posts_of, starts_of}
use Rattle.spk_world_run.specs.Tests.{death_test, follows, if_host, if_node, if_published, is_far_at, is_opening, is_outside_at, message_test, overtakes_at, refusal_at, start_at, track_at}
use Rattle.spk_world_run.proofs.Nodes.{SameSteps}
use Rattle.spk_world_run.proofs.Places.{outline-length}

-- ---- what is there

-- nothing stands past the end
past : {X : Type 0} (xs : List X) (n : ℕ) → slice_get xs n ≡ None → length xs ≤ n
past [] n e = omega arith
past (x ∷ xs) zero e = absurd (let z : ⊥ = cc in z)
past (x ∷ xs) (suc n) e = let p = past xs n e in omega (arith, p)

pub absent : {X : Type 0} (xs : List X) (n k : ℕ) → length xs ≡ k → slice_get xs n ≡ None → nat_lt n k ≡ false
absent xs n k size e = let p = past xs n e in le-ltb n k (omega (arith, size, p))

pub present : {X : Type 0} (xs : List X) (n k : ℕ) (x : X) → length xs ≡ k → slice_get xs n ≡ Some x → nat_lt n k ≡ true
present xs n k x size e = let p = slice_get_within xs n x e in lt-ltb n k (omega (arith, size, p))

-- ---- inputs

pub input-refused : SameSteps → (w : World) (done : List Deed) (d : WorldData) (n : ℕ) (input : Input) → IsRun w done d
    → refusal_at d (AtNode n input) ≡ refusal_of w done (AtNode n input)
input-refused same w done d n input run = by (slice_get d.nodes n) refl
  where
    by : (o : Option NodePart) → slice_get d.nodes n ≡ o
        → if_node o (λ part. edge_refusal (answer_at part.node.config part.node.standing input))
        ≡ if_there (has_node w n) (edge_refusal (right_at (node_at w n) (run_of (node_at w n) (calls_of done n)) input))
    by None e = ap (λ b. if_there b (edge_refusal (right_at (node_at w n) (run_of (node_at w n) (calls_of done n)) input))) (sym (absent d.nodes n (length w.nodes) run.node_count e))
    by (Some part) e =
        let s = node_at w n in
        let node = (run.nodes n part e).node in
        ap (λ (x : NodeData). edge_refusal (answer_at x.config x.standing input)) node
        ∙ ap edge_refusal (same s (calls_of done n) input)
        ∙ ap (λ b. if_there b (edge_refusal (right_at s (run_of s (calls_of done n)) input))) (sym (present d.nodes n (length w.nodes) part run.node_count e))

-- ---- what the data say of a message

post-there : (s : Setup) (all : List Message) (k p : ℕ) (ms : List Message) (x : PublishedData) → slice_get (posts_of s all k ms) p ≡ Some x
    → (m : Message) × (slice_get ms p ≡ Some m) × (x ≡ post_of s all (k + p) m)
post-there s all k p [] x e = absurd (let z : ⊥ = cc in z)
post-there s all k zero (m ∷ ms) x e =
    let same : post_of s all k m ≡ x = cc in
    (m, refl, sym same ∙ ap (λ j. post_of s all j m) (let z : k ≡ k + 0 = omega arith in z))
post-there s all k (suc p) (m ∷ ms) x e =
    let later = post-there s all (k + 1) p ms x e in
    (later.0, later.1, later.2 ∙ ap (λ j. post_of s all j later.0) (let z : k + 1 + p ≡ k + suc p = omega arith in z))

-- the message of a position
pub message-there : (s : Setup) (is : List Input) (part : NodePart) (p : ℕ) (x : PublishedData) → IsNodeRun s is part → slice_get part.published p ≡ Some x
    → (m : Message) × (slice_get (published (run_of s is)) p ≡ Some m) × (x ≡ post_of s (published (run_of s is)) p m)
message-there s is part p x run e =
    let all = published (run_of s is) in
    let here = post-there s all 0 p all x (ap (λ (l : List PublishedData). slice_get l p) (sym run.posts) ∙ e) in
    (here.0, here.1, here.2 ∙ ap (λ j. post_of s all j here.0) (let z : 0 + p ≡ p = omega arith in z))

pub published-length : (s : Setup) (is : List Input) (part : NodePart) → IsNodeRun s is part → length part.published ≡ length (outline (published (run_of s is)))
published-length s is part run =
    let all = published (run_of s is) in
    ap length run.posts ∙ length-map (enumerate_from 0 all) _ ∙ length-enumerate_from 0 all ∙ sym (outline-length all)

pub session-there : (ms : List Message) (p : ℕ) (m : Message) → slice_get ms p ≡ Some m → session_at (outline ms) p ≡ m.session
session-there ms p m e =
    let one : sequence.Message = record { birth = m.birth; session = m.session; stamp = m.draft.stamp } in
    let there : slice_get (outline ms) p ≡ Some one =
    slice_get-map (λ (x : Message). let r : sequence.Message = record { birth = x.birth; session = x.session; stamp = x.draft.stamp } in r) ms p ∙ ap (option_map _) e in
    ap (λ (x : sequence.Message). x.session) (get_or_from_slice_get (outline ms) p one _ there)

-- a position is an NBIRTH's where its birth starts
abbrev pub StartBelow : Type 0
StartBelow = (r : NodeRecord) (p : ℕ) → start_of r p ≤ p

pub starts-open : StartBelow → (r : NodeRecord) (p : ℕ) → (start_of r p == p) ≡ opens r p
starts-open below r zero = refl
starts-open below r (suc p) = by (opens r (suc p))
  where
    other : (b : Bool) → (start_of r p == suc p) ≡ b → b ≡ false
    other false e = refl
    other true e = let same : start_of r p ≡ suc p = eqb-true (start_of r p) (suc p) e in let low = below r p in absurd (let z : ⊥ = omega (arith, same, low) in z)

    by : (b : Bool) → (cond b (suc p) (start_of r p) == suc p) ≡ b
    by true = eq-eqb (suc p) (suc p) refl
    by false = other (start_of r p == suc p) refl

-- the starts of the data
start-there : (all : List Message) (k p : ℕ) (ms : List Message) → p < length ms → get_or (starts_of all k ms) p 0 ≡ start_of (outline all) (k + p)
start-there all k p [] below = absurd (let z : ⊥ = omega (arith, below) in z)
start-there all k zero (m ∷ ms) below = ap (start_of (outline all)) (let z : k ≡ k + 0 = omega arith in z)
start-there all k (suc p) (m ∷ ms) below =
    start-there all (k + 1) p ms (let b = below in omega (arith, b)) ∙ ap (start_of (outline all)) (let z : k + 1 + p ≡ k + suc p = omega arith in z)

pub start-is : (s : Setup) (is : List Input) (part : NodePart) (p : ℕ) → IsNodeRun s is part → p < length (published (run_of s is))
    → start_at part p ≡ start_of (outline (published (run_of s is))) p
start-is s is part p run below =
    let all = published (run_of s is) in
    ap (λ (l : List ℕ). get_or l p 0) run.starts ∙ start-there all 0 p all below ∙ ap (start_of (outline all)) (let z : 0 + p ≡ p = omega arith in z)

pub opening-is : StartBelow → (s : Setup) (is : List Input) (part : NodePart) (p : ℕ) → IsNodeRun s is part → p < length (published (run_of s is))
    → is_opening part p ≡ opens (outline (published (run_of s is))) p
opening-is low s is part p run below =
    ap (λ k. k == p) (start-is s is part p run below) ∙ starts-open low (outline (published (run_of s is))) p

-- ---- a host and a node

abbrev pub LivePhase : Type 0
LivePhase = (s : Setting) (inputs : List order.Input) → IsLawful s inputs → IsLiveByPositions s inputs

abbrev pub LawfulPairs : Type 0
LawfulPairs = (w : World) (done : List Deed) (h n : ℕ) → HasWidths w → AllDone w done → IsLawfulPair w done h n

abbrev pub KeptOrder : Type 0
KeptOrder = (config : Config) (calls : List Call) (group name : List ℕ) →
    (node_or (fresh_node config.wait config.width) (host_after config calls).nodes group name).order
    ≡ order_after config.wait config.width (since_end (node_calls calls group name))

abbrev pub SameConfig : Type 0
SameConfig = (config : Config) (calls : List Call) → (host_after config calls).session.config ≡ config

abbrev pub SameStanding : Type 0
SameStanding = (s : Setup) (published : List Message) (wait width : ℕ) (is : List order.Input) (js : List host.Input) → AreRead s published is js
    → (order_after wait width js).standing ≡ order.standing_of (host_setting s published wait width) is

-- the host's session has its wait and its width
pub config-is : SameConfig → (w : World) (done : List Deed) (h : ℕ) (part : HostPart) (run : IsHostRun w done h part) → part.host.session.config ≡ run.config
config-is same w done h part run = ap (λ (x : HostData). x.session.config) run.is ∙ same run.config run.calls

-- the order of a node at a host
pub order-is : SameConfig → KeptOrder → (w : World) (done : List Deed) (h n : ℕ) (part : HostPart) (run : IsHostRun w done h part)
    → (node_or (fresh part.host) part.host.nodes (node_at w n).config.group (node_at w n).config.node).order
    ≡ order_after (host_at w h).wait (host_at w h).width (since_end (node_calls run.calls (node_at w n).config.group (node_at w n).config.node))
order-is same kept w done h n part run =
    let s = node_at w n in
    ap (λ (c : Config). (node_or (fresh_node c.wait c.width) part.host.nodes s.config.group s.config.node).order) (config-is same w done h part run)
    ∙ ap (λ (x : HostData). (node_or (fresh_node run.config.wait run.config.width) x.nodes s.config.group s.config.node).order) run.is
    ∙ kept run.config run.calls s.config.group s.config.node
    ∙ ap (λ x. order_after x run.config.width (since_end (node_calls run.calls s.config.group s.config.node))) run.waits
    ∙ ap (λ x. order_after (host_at w h).wait x (since_end (node_calls run.calls s.config.group s.config.node))) run.wide

-- how it stands
pub standing-is : SameConfig → KeptOrder → SameStanding → (w : World) (done : List Deed) (h n : ℕ) (part : HostPart) (run : IsHostRun w done h part) (track : Track)
    → IsTrack w done h n run.calls track
    → (node_or (fresh part.host) part.host.nodes (node_at w n).config.group (node_at w n).config.node).order.standing
    ≡ order.standing_of (setting_of w done h n) (inputs_of done h n)
standing-is same kept standing w done h n part run track t =
    ap (λ (o : Ordered NumberedData). o.standing) (order-is same kept w done h n part run)
    ∙ standing (node_at w n) (published_of w done n) (host_at w h).wait (host_at w h).width (inputs_of done h n)
    (since_end (node_calls run.calls (node_at w n).config.group (node_at w n).config.node)) t.read

-- whether the host follows it
pub follows-is : SameConfig → KeptOrder → SameStanding → LivePhase → LawfulPairs → (w : World) (done : List Deed) (d : WorldData) (h n : ℕ) (part : HostPart) (node : NodePart) (track : Track)
    → (run : IsHostRun w done h part) → IsTrack w done h n run.calls track → IsRun w done d → slice_get d.nodes n ≡ Some node
    → follows part.host node ≡ (following (setting_of w done h n) (record_of w done h n)).on
follows-is same kept standing live lawful w done d h n part node track run t all there =
    ap (λ (x : NodeData). is_live (node_or (fresh part.host) part.host.nodes x.config.group x.config.node).order.standing.phase) (all.nodes n node there).node
    ∙ ap (λ (x : Standing). is_live x.phase) (standing-is same kept standing w done h n part run track t)
    ∙ (live (setting_of w done h n) (inputs_of done h n) (lawful w done h n all.world.widths all.all).lawful).live

-- the track of a node that is there
pub track-is : (w : World) (done : List Deed) (h n : ℕ) (part : HostPart) (run : IsHostRun w done h part) → n < length w.nodes
    → IsTrack w done h n run.calls (track_at part n)
track-is w done h n part run below =
    let size = run.count in
    run.tracks n (track_at part n) (slice_get-get_or part.tracks n no_track (omega (arith, size, below)))

-- ---- tests

far-is : (s : Setting) (o : Option ℕ) (session : ℕ) → is_far_at (option_map (session_at s.published) o) session ≡ is_far_from s o session
far-is s None session = refl
far-is s (Some b) session = refl

contains-and : (a b : Bool) → b ≡ true → (a && b) ≡ a
contains-and a true e = by a
  where
    by : (a : Bool) → (a && true) ≡ a
    by true = refl
    by false = refl
contains-and a false e = absurd (true≢false (sym e))

abbrev pub StartOpens : Type 0
StartOpens = (r : NodeRecord) (p : ℕ) → opens r (start_of r p) ≡ true

-- what the data say of one message of a host's node
record Facts (s : Setting) (r : HostRecord) (host : HostData) (node : NodePart) (track : Track) (p : ℕ) (m : PublishedData) : Type 0 where
  width : host.session.config.width ≡ s.width
  on : follows host node ≡ (following s r).on
  reaches : track.reach ≡ reach r
  far : track.session ≡ option_map (session_at s.published) (taken s r)
  births : (q : ℕ) → contains q track.births ≡ (contains q (handed_of r) && opens s.published q)
  opening : is_opening node p ≡ opens s.published p
  start : start_at node p ≡ start_of s.published p
  session : m.session ≡ session_at s.published p
  numbering : node.node.config.numbering ≡ s.numbering

outside-is : (s : Setting) (r : HostRecord) (host : HostData) (node : NodePart) (track : Track) (p : ℕ) (m : PublishedData) → Facts s r host node track p m
    → is_outside_at host.session.config.width (follows host node) track p ≡ is_outside s r p
outside-is s r host node track p m f =
    ap (λ x. is_outside_at x (follows host node) track p) f.width
    ∙ ap (λ b. is_outside_at s.width b track p) f.on
    ∙ ap (λ x. not (nat_le x (p + s.width)) || ((following s r).on && not (nat_lt p (x + (256 - 2 * s.width))))) f.reaches

overtakes-is : StartOpens → (s : Setting) (r : HostRecord) (host : HostData) (node : NodePart) (track : Track) (p : ℕ) (m : PublishedData) → Facts s r host node track p m
    → overtakes_at node.node.config.numbering node track p ≡ overtakes s.numbering s r p
overtakes-is begins s r host node track p m f = ap (λ x. overtakes_at x node track p) f.numbering ∙ by s.numbering
  where
    by : (x : Numbering) → overtakes_at x node track p ≡ overtakes x s r p
    by RunsOn = refl
    by Restarts =
        ap (λ b. not b && not (contains (start_at node p) track.births)) f.opening
        ∙ ap (λ q. not (opens s.published p) && not (contains q track.births)) f.start
        ∙ ap (λ b. not (opens s.published p) && not b)
        (f.births (start_of s.published p) ∙ contains-and (contains (start_of s.published p) (handed_of r)) (opens s.published (start_of s.published p)) (begins s.published p))

message-tests : StartOpens → (s : Setting) (r : HostRecord) (host : HostData) (node : NodePart) (track : Track) (p : ℕ) (m : PublishedData) → Facts s r host node track p m
    → nat_lt p (length s.published) ≡ true → message_test host node track p m ≡ message_refusal s r p
message-tests begins s r host node track p m f there =
    let far : (is_opening node p && is_far_at track.session m.session) ≡ (opens s.published p && is_far s r (session_at s.published p)) =
    ap (λ b. b && is_far_at track.session m.session) f.opening
    ∙ ap (λ x. opens s.published p && is_far_at track.session x) f.session
    ∙ ap (λ x. opens s.published p && is_far_at x (session_at s.published p)) f.far
    ∙ ap (λ b. opens s.published p && b) (far-is s (taken s r) (session_at s.published p)) in
    ap (λ b. cond b (Some OutsideWindow)
    (cond (is_opening node p && is_far_at track.session m.session) (Some TooFar) (cond (overtakes_at node.node.config.numbering node track p) (Some OvertakesBirth) None)))
    (outside-is s r host node track p m f)
    ∙ ap (λ b. cond (is_outside s r p) (Some OutsideWindow) (cond b (Some TooFar) (cond (overtakes_at node.node.config.numbering node track p) (Some OvertakesBirth) None))) far
    ∙ ap (λ b. cond (is_outside s r p) (Some OutsideWindow) (cond (opens s.published p && is_far s r (session_at s.published p)) (Some TooFar) (cond b (Some OvertakesBirth) None)))
    (overtakes-is begins s r host node track p m f)
    ∙ ap (λ b. cond (not b) (Some NotPublished) (cond (is_outside s r p) (Some OutsideWindow)
    (cond (opens s.published p && is_far s r (session_at s.published p)) (Some TooFar) (cond (overtakes s.numbering s r p) (Some OvertakesBirth) None)))) (sym there)

-- what is refused of a message that was published
hand-there : SameConfig → KeptOrder → SameStanding → LivePhase → LawfulPairs → StartBelow → StartOpens
    → (w : World) (done : List Deed) (d : WorldData) (h n p : ℕ) (host : HostPart) (node : NodePart) (m : PublishedData) → IsRun w done d
    → slice_get d.hosts h ≡ Some host → slice_get d.nodes n ≡ Some node → slice_get node.published p ≡ Some m
    → message_test host.host node (track_at host n) p m ≡ message_refusal (setting_of w done h n) (record_of w done h n) p
hand-there same kept standing live lawful low begins w done d h n p host node m all has-host has-part there =
    let s = node_at w n in
    let run = all.nodes n node has-part in
    let host-run = all.hosts h host has-host in
    let below : n < length w.nodes = let b = slice_get_within d.nodes n node has-part in let size = all.node_count in omega (arith, b, size) in
    let t = track-is w done h n host host-run below in
    let found = message-there s (calls_of done n) node p m run there in
    let inside : p < length (published_of w done n) = slice_get_within (published_of w done n) p found.0 found.1 in
    let size = outline-length (published_of w done n) in
    let facts : Facts (setting_of w done h n) (record_of w done h n) host.host node (track_at host n) p m =
    record {
      width = ap (λ (c : Config). c.width) (config-is same w done h host host-run) ∙ host-run.wide;
      on = follows-is same kept standing live lawful w done d h n host node (track_at host n) host-run t all has-part;
      reaches = t.reaches;
      far = t.session;
      births = t.births;
      opening = opening-is low s (calls_of done n) node p run inside;
      start = start-is s (calls_of done n) node p run inside;
      session = ap (λ (x : PublishedData). x.session) found.2 ∙ sym (session-there (published_of w done n) p found.0 found.1);
      numbering = ap (λ (x : NodeData). x.config.numbering) run.node;
    } in
    message-tests begins (setting_of w done h n) (record_of w done h n) host.host node (track_at host n) p m facts (lt-ltb p (length (outline (published_of w done n))) (omega (arith, inside, size)))

abbrev hand-right : World → List Deed → (h n p : ℕ) → Option Refusal
hand-right w done h n p = message_refusal (setting_of w done h n) (record_of w done h n) p

pub hand-refused : SameConfig → KeptOrder → SameStanding → LivePhase → LawfulPairs → StartBelow → StartOpens
    → (w : World) (done : List Deed) (d : WorldData) (h n p now : ℕ) → IsRun w done d
    → refusal_at d (Hand h n p now) ≡ refusal_of w done (Hand h n p now)
hand-refused same kept standing live lawful low begins w done d h n p now all = by-host (slice_get d.hosts h) refl
  where
    no-message : (node : NodePart) → IsNodeRun (node_at w n) (calls_of done n) node → slice_get node.published p ≡ None → Some NotPublished ≡ hand-right w done h n p
    no-message node run e =
        let s = setting_of w done h n in
        let r = record_of w done h n in
        let gone : nat_lt p (length (outline (published_of w done n))) ≡ false =
        absent node.published p (length (outline (published_of w done n))) (published-length (node_at w n) (calls_of done n) node run) e in
        ap (λ b. cond (not b) (Some NotPublished) (cond (is_outside s r p) (Some OutsideWindow)
        (cond (opens s.published p && is_far s r (session_at s.published p)) (Some TooFar) (cond (overtakes s.numbering s r p) (Some OvertakesBirth) None)))) (sym gone)

    by-message : (host : HostPart) (node : NodePart) → slice_get d.hosts h ≡ Some host → slice_get d.nodes n ≡ Some node → (o : Option PublishedData) → slice_get node.published p ≡ o
        → if_published o (message_test host.host node (track_at host n) p) ≡ hand-right w done h n p
    by-message host node has-host has-part None e = no-message node (all.nodes n node has-part) e
    by-message host node has-host has-part (Some m) e = hand-there same kept standing live lawful low begins w done d h n p host node m all has-host has-part e

    by-node : (host : HostPart) → slice_get d.hosts h ≡ Some host → (o : Option NodePart) → slice_get d.nodes n ≡ o
        → if_node o (λ part. if_published (slice_get part.published p) (message_test host.host part (track_at host n) p))
        ≡ if_there (has_host w h && has_node w n) (hand-right w done h n p)
    by-node host has-host None e =
        ap (λ b. if_there b (hand-right w done h n p)) (sym (absent d.nodes n (length w.nodes) all.node_count e))
        ∙ ap (λ b. if_there (b && has_node w n) (hand-right w done h n p)) (sym (present d.hosts h (length w.hosts) host all.host_count has-host))
    by-node host has-host (Some node) e =
        by-message host node has-host e (slice_get node.published p) refl
        ∙ ap (λ b. if_there b (hand-right w done h n p)) (sym (present d.nodes n (length w.nodes) node all.node_count e))
        ∙ ap (λ b. if_there (b && has_node w n) (hand-right w done h n p)) (sym (present d.hosts h (length w.hosts) host all.host_count has-host))

    by-host : (o : Option HostPart) → slice_get d.hosts h ≡ o
        → if_host o (λ host. if_node (slice_get d.nodes n) (λ part. if_published (slice_get part.published p) (message_test host.host part (track_at host n) p)))
        ≡ if_there (has_host w h && has_node w n) (hand-right w done h n p)
    by-host None e = ap (λ b. if_there (b && has_node w n) (hand-right w done h n p)) (sym (absent d.hosts h (length w.hosts) all.host_count e))
    by-host (Some host) e = by-node host e (slice_get d.nodes n) refl

-- ---- deaths

abbrev death-right : World → List Deed → (h n session : ℕ) → Option Refusal
death-right w done h n session = death_refusal (setting_of w done h n) (record_of w done h n) (sessions_of w done n) session

death-there : (w : World) (done : List Deed) (d : WorldData) (h n session : ℕ) (host : HostPart) (node : NodePart) → IsRun w done d
    → slice_get d.hosts h ≡ Some host → slice_get d.nodes n ≡ Some node
    → death_test node (track_at host n) session ≡ death-right w done h n session
death-there w done d h n session host node all has-host has-part =
    let run = all.nodes n node has-part in
    let host-run = all.hosts h host has-host in
    let below : n < length w.nodes = let b = slice_get_within d.nodes n node has-part in let size = all.node_count in omega (arith, b, size) in
    let t = track-is w done h n host host-run below in
    let s = setting_of w done h n in
    ap (λ k. cond (not (nat_lt session k)) (Some NotPublished) (cond (is_far_at (track_at host n).session session) (Some TooFar) None)) run.sessions
    ∙ ap (λ o. cond (not (nat_lt session (sessions_of w done n))) (Some NotPublished) (cond (is_far_at o session) (Some TooFar) None)) t.session
    ∙ ap (λ b. cond (not (nat_lt session (sessions_of w done n))) (Some NotPublished) (cond b (Some TooFar) None)) (far-is s (taken s (record_of w done h n)) session)

pub death-refused : (w : World) (done : List Deed) (d : WorldData) (h n session now : ℕ) → IsRun w done d
    → refusal_at d (Death h n session now) ≡ refusal_of w done (Death h n session now)
death-refused w done d h n session now all = by-host (slice_get d.hosts h) refl
  where
    by-node : (host : HostPart) → slice_get d.hosts h ≡ Some host → (o : Option NodePart) → slice_get d.nodes n ≡ o
        → if_node o (λ part. death_test part (track_at host n) session) ≡ if_there (has_host w h && has_node w n) (death-right w done h n session)
    by-node host has-host None e =
        ap (λ b. if_there b (death-right w done h n session)) (sym (absent d.nodes n (length w.nodes) all.node_count e))
        ∙ ap (λ b. if_there (b && has_node w n) (death-right w done h n session)) (sym (present d.hosts h (length w.hosts) host all.host_count has-host))
    by-node host has-host (Some node) e =
        death-there w done d h n session host node all has-host e
        ∙ ap (λ b. if_there b (death-right w done h n session)) (sym (present d.nodes n (length w.nodes) node all.node_count e))
        ∙ ap (λ b. if_there (b && has_node w n) (death-right w done h n session)) (sym (present d.hosts h (length w.hosts) host all.host_count has-host))

    by-host : (o : Option HostPart) → slice_get d.hosts h ≡ o
        → if_host o (λ host. if_node (slice_get d.nodes n) (λ part. death_test part (track_at host n) session))
        ≡ if_there (has_host w h && has_node w n) (death-right w done h n session)
    by-host None e = ap (λ b. if_there (b && has_node w n) (death-right w done h n session)) (sym (absent d.hosts h (length w.hosts) all.host_count e))
    by-host (Some host) e = by-node host e (slice_get d.nodes n) refl

-- ---- moments and sessions

host-refused : (w : World) (d : WorldData) (h : ℕ) → length d.hosts ≡ length w.hosts → if_host (slice_get d.hosts h) (λ host. None) ≡ if_there (has_host w h) None
host-refused w d h size = by (slice_get d.hosts h) refl
  where
    by : (o : Option HostPart) → slice_get d.hosts h ≡ o → if_host o (λ host. None) ≡ if_there (has_host w h) None
    by None e = ap (λ b. if_there b None) (sym (absent d.hosts h (length w.hosts) size e))
    by (Some host) e = ap (λ b. if_there b None) (sym (present d.hosts h (length w.hosts) host size e))

pub refused : SameSteps → SameConfig → KeptOrder → SameStanding → LivePhase → LawfulPairs → StartBelow → StartOpens
    → (w : World) (done : List Deed) (d : WorldData) (e : Deed) → IsRun w done d → refusal_at d e ≡ refusal_of w done e
refused steps same kept standing live lawful low begins w done d (AtNode n input) all = input-refused steps w done d n input all
refused steps same kept standing live lawful low begins w done d (Hand h n p now) all = hand-refused same kept standing live lawful low begins w done d h n p now all
refused steps same kept standing live lawful low begins w done d (Death h n session now) all = death-refused w done d h n session now all
refused steps same kept standing live lawful low begins w done d (Tick h now) all = host-refused w d h all.host_count
refused steps same kept standing live lawful low begins w done d (Renew h now) all = host-refused w d h all.host_count
