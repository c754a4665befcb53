-- A message is handed to a host: the data after it are those of the longer list, and the answer is the right one.
use Rattle.std.proofs.Common.{◌≡◌, inl, inr, ◌∙◌, ap, sym, refl, subst, ℕ, ◌<◌, length, Bool, false, cond, List, [], ◌∷◌, ◌++◌, set, Some, None}
use Rattle.std.specs.Prelude.{slice_get}
use Rattle.std.proofs.lemmas.List.{length-set}
use Rattle.std.proofs.lemmas.Option.{slice_get_within}
use Rattle.spk_sequence.specs.Calls as call
use Rattle.spk_sequence.specs.Claims.{IsLawful}
use Rattle.spk_sequence.specs.HostRecord as order
use Rattle.spk_sequence.specs.HostRecord.{MessageComes}
use Rattle.spk_sequence.specs.NodeRecord.{opens, session_at}
use Rattle.spk_sequence.specs.Positions.{right_at}
use Rattle.spk_order.specs.Ordered.{Ordered}
use Rattle.spk_packets.specs.Spelling.{spelling}
use Rattle.spk_reading.specs.Data as said
use Rattle.spk_reading.specs.Data.{HeardData, NumberedData}
use Rattle.spk_reading.specs.Meaning.{Says}
use Rattle.spk_edge_rules.specs.Claims.{HasNames, IsUnreserved, IsWhole}
use Rattle.spk_edge_rules.specs.Config.{Setup}
use Rattle.spk_edge_rules.specs.Inputs.{Input}
use Rattle.spk_edge_rules.specs.Messages.{wire}
use Rattle.spk_edge_rules.specs.Run.{Message, number_at, outline, published, run_of}
use Rattle.spk_heard.specs.Read.{AreRead}
use Rattle.spk_host.specs.Data.{HostData}
use Rattle.spk_host.specs.Inputs.{Call, Heard, is_same, node_calls}
use Rattle.spk_host.specs.Nodes.{node_or}
use Rattle.spk_host.specs.Step.{after_packet, fresh, packet_out}
use Rattle.spk_host_node.specs.Inputs as host
use Rattle.spk_host_node.specs.Inputs.{Comes, order_after, since_end}
use Rattle.spk_host_node.specs.Step.{step_of, taken_of}
use Rattle.spk_tie.specs.Tie.{IsMessageAt, ReadsMessage, host_setting}
use Rattle.spk_world_rules.specs.Answers.{Answer, Stepped, answer_of, reply_as}
use Rattle.spk_world_rules.specs.Claims.{ComesAs, event_of}
use Rattle.spk_world_rules.specs.Events.{Deed, Hand, HasWidths, World, host_at, node_at}
use Rattle.spk_world_rules.specs.Queries.{calls_of, inputs_of, published_of, record_of, setting_of}
use Rattle.spk_world_rules.specs.Refusals.{AllDone, refusal_of}
use Rattle.spk_world_run.specs.Data.{HostPart, NodePart, PublishedData, Track, WorldData}
use Rattle.spk_world_run.specs.Run.{IsHostRun, IsRun, IsTrack}
use Rattle.spk_world_run.specs.Step.{IsHand, handed_track, packet_of, step_in, with_track}
use Rattle.spk_world_run.specs.Tests.{is_opening, track_at}
use Rattle.spk_world_run.proofs.Hosts.{node-below, other-host, other-names, other-node, own-names, this-pair, track-below, with-host}
use Rattle.spk_world_run.proofs.Lists.{set-sees}
use Rattle.spk_world_run.proofs.Refused.{KeptOrder, LawfulPairs, SameConfig, StartBelow, message-there, opening-is, order-is, session-there, track-is}
use Rattle.spk_world_run.proofs.Tracks.{Consumes, TakenBy, hand-tracked, told_of, track-from, tracked-of}

-- ---- what the laws below give

abbrev pub Reads : Type 0
Reads = (s : Setup) (later is : List Input) (p : ℕ) (m : Message) (bytes : List ℕ) → HasNames s → IsUnreserved s → slice_get (published (run_of s is)) p ≡ Some m
    → IsWhole bytes s.config (number_at s (published (run_of s is)) p) m.draft → ReadsMessage s (published (run_of s (later ++ is))) p m bytes

abbrev pub RightSteps : Type 0
RightSteps = (w : World) (done : List Deed) (e : Deed) (h n : ℕ) (input : order.Input) → HasWidths w → AllDone w (e ∷ done) → ComesAs done e h n input
    → event_of w done h n input ≡ right_at (setting_of w done h n) (record_of w done h n) input

abbrev pub StepsAlike : Type 0
StepsAlike = (s : Setup) (published : List Message) (wait width : ℕ) (is : List order.Input) (js : List host.Input) (p now : ℕ) (m : Message) (read : NumberedData)
    → AreRead s published is js → IsMessageAt s published p m read
    → call.Stepped (step_of (order_after wait width js) read now)
    ≡ (order.done_at (host_setting s published wait width) (order.record_of (host_setting s published wait width) is)
    (order.standing_of (host_setting s published wait width) is) (MessageComes p now)).reply

-- ---- what is heard

-- the packet of a position says its message, and nothing else
record IsHeard (w : World) (done : List Deed) (n p : ℕ) (x : PublishedData) (heard : HeardData) : Type 0 where
  message : Message
  there : slice_get (published_of w done n) p ≡ Some message
  read : NumberedData
  at : IsMessageAt (node_at w n) (published_of w done n) p message read
  is : heard ≡ said.Published None (said.Message read)
  session : x.session ≡ session_at (outline (published_of w done n)) p

is-heard : Reads → (w : World) (done : List Deed) (d : WorldData) (n p : ℕ) (part : NodePart) (x : PublishedData) (heard : HeardData) → IsRun w done d
    → slice_get d.nodes n ≡ Some part → slice_get part.published p ≡ Some x → Says (spelling (packet_of x)) heard → IsHeard w done n p x heard
is-heard reads w done d n p part x heard run there published says =
    let s = node_at w n in
    let below = node-below w done d n part run there in
    let node = run.nodes n part there in
    let names = run.world.nodes n below in
    let m = message-there s (calls_of done n) part p x node published in
    let bytes = spelling (wire s.config (number_at s (published_of w done n) p) m.0.draft) in
    let as-sent : Says bytes heard = subst (λ (y : PublishedData). Says (spelling (packet_of y)) heard) m.2 says in
    let tie : ReadsMessage s (published_of w done n) p m.0 bytes = reads s [] (calls_of done n) p m.0 bytes names.names names.unreserved m.1 (node.whole p m.0 m.1) in
    record {
      message = m.0;
      there = m.1;
      read = tie.read;
      at = tie.is;
      is = tie.alone.only heard as-sent;
      session = ap (λ (y : PublishedData). y.session) m.2 ∙ sym (session-there (published_of w done n) p m.0 m.1);
    }

-- ---- the host after it

hand-comes : (done : List Deed) (h n p now : ℕ) → ComesAs done (Hand h n p now) h n (MessageComes p now)
hand-comes done h n p now = ap (λ b. cond b (MessageComes p now ∷ inputs_of done h n) (inputs_of done h n)) (this-pair h n)

-- the host's order of the node
hand-order : SameConfig → KeptOrder → (w : World) (done : List Deed) (h n p : ℕ) (m : Message) (read : NumberedData) (part : HostPart) (run : IsHostRun w done h part)
    → IsMessageAt (node_at w n) (published_of w done n) p m read
    → (node_or (fresh part.host) part.host.nodes read.group read.node).order ≡ order_after (host_at w h).wait (host_at w h).width (told_of w n run.calls)
hand-order same kept w done h n p m read part run at =
    ap (λ (g : List ℕ). (node_or (fresh part.host) part.host.nodes g read.node).order) at.group
    ∙ ap (λ (f : List ℕ). (node_or (fresh part.host) part.host.nodes (node_at w n).config.group f).order) at.node
    ∙ order-is same kept w done h n part run

abbrev handed_host : World → HostPart → (h n p now : ℕ) → List Call → NumberedData → Bool → ℕ → HostPart
handed_host w part h n p now calls read opening session = record {
  host = after_packet part.host (said.Published None (said.Message read)) now;
  tracks = set part.tracks n (handed_track (track_at part n) p opening session
      (taken_of (order_after (host_at w h).wait (host_at w h).width (told_of w n calls)) read now));
}

hand-host : RightSteps → LawfulPairs → TakenBy → Consumes → (w : World) (done : List Deed) (h n p now : ℕ) (m : Message) (read : NumberedData) (opening : Bool) (session : ℕ)
    (part : HostPart) (run : IsHostRun w done h part) → HasWidths w → AllDone w (Hand h n p now ∷ done)
    → ((m : ℕ) → m < length w.nodes → (m ≡ n → ⊥) → is_same (node_at w m).config.group (node_at w m).config.node read.group read.node ≡ false)
    → n < length w.nodes → IsMessageAt (node_at w n) (published_of w done n) p m read
    → opening ≡ opens (outline (published_of w done n)) p → session ≡ session_at (outline (published_of w done n)) p
    → IsHostRun w (Hand h n p now ∷ done) h (handed_host w part h n p now run.calls read opening session)
hand-host right lawful takes consumes w done h n p now m read opening session part run widths all apart below at opens-so session-so =
    let s = node_at w n in
    let here = hand-comes done h n p now in
    let legal : IsLawful (setting_of w done h n) (MessageComes p now ∷ inputs_of done h n) =
    subst (λ (is : List order.Input). IsLawful (setting_of w done h n) is) here (lawful w (Hand h n p now ∷ done) h n widths all).lawful in
    let heard = said.Published None (said.Message read) in
    let old = track_at part n in
    let new = handed_track old p opening session (taken_of (order_after (host_at w h).wait (host_at w h).width (told_of w n run.calls)) read now) in
    let told : told_of w n (Heard heard now ∷ run.calls) ≡ Comes read now ∷ told_of w n run.calls =
    ap (λ b. since_end (cond b (Comes read now ∷ node_calls run.calls s.config.group s.config.node) (node_calls run.calls s.config.group s.config.node)))
    (own-names s.config.group s.config.node read.group read.node at.group at.node) in
    let this : IsTrack w (Hand h n p now ∷ done) h n (Heard heard now ∷ run.calls) new =
    track-from w (Hand h n p now ∷ done) h n (Heard heard now ∷ run.calls) new (MessageComes p now ∷ inputs_of done h n) (Comes read now ∷ told_of w n run.calls) here told
    (hand-tracked takes consumes s (published_of w done n) (host_at w h).wait (host_at w h).width (inputs_of done h n) (told_of w n run.calls) old p now m read opening session
    legal (right w done (Hand h n p now) h n (MessageComes p now) widths all here) at opens-so session-so
    (tracked-of w done h n run.calls old (track-is w done h n part run below))) in
    let other : (k : ℕ) (track : Track) → (k ≡ n → ⊥) → slice_get part.tracks k ≡ Some track → IsTrack w (Hand h n p now ∷ done) h k (Heard heard now ∷ run.calls) track =
    λ k track differs there.
    let name = (node_at w k).config in
    track-from w (Hand h n p now ∷ done) h k (Heard heard now ∷ run.calls) track (inputs_of done h k) (told_of w k run.calls)
    (ap (λ b. cond b (MessageComes p now ∷ inputs_of done h k) (inputs_of done h k)) (other-node h n k differs))
    (ap (λ b. since_end (cond b (Comes read now ∷ node_calls run.calls name.group name.node) (node_calls run.calls name.group name.node)))
    (apart k (track-below w done h k part track run there) differs))
    (tracked-of w done h k run.calls track (run.tracks k track there)) in
    record {
      config = run.config;
      calls = Heard heard now ∷ run.calls;
      is = ap (λ (x : HostData). after_packet x heard now) run.is;
      began = run.began;
      waits = run.waits;
      wide = run.wide;
      count = length-set part.tracks n new ∙ run.count;
      tracks = λ k track there. elim (set-sees part.tracks n new k track there) as (λ c. IsTrack w (Hand h n p now ∷ done) h k (Heard heard now ∷ run.calls) track) [
        | inl same ↦ subst (λ i. IsTrack w (Hand h n p now ∷ done) h i (Heard heard now ∷ run.calls) track) (sym same.0)
            (subst (IsTrack w (Hand h n p now ∷ done) h n (Heard heard now ∷ run.calls)) (sym same.1) this)
        | inr differs ↦ other k track differs.0 differs.1
      ];
    }

-- ---- the world after it

pub hand-run : Reads → RightSteps → LawfulPairs → TakenBy → Consumes → SameConfig → KeptOrder → StartBelow
    → (w : World) (done : List Deed) (d after : WorldData) (h n p now : ℕ) (answer : Answer) → IsRun w done d
    → refusal_of w done (Hand h n p now) ≡ None → IsHand d h n p now after answer → IsRun w (Hand h n p now ∷ done) after
hand-run reads right lawful takes consumes same kept low w done d after h n p now answer run passed hand =
    let part = hand.host in
    let host = run.hosts h part hand.host_there in
    let node = run.nodes n hand.part hand.there in
    let below = node-below w done d n hand.part run hand.there in
    let heard = is-heard reads w done d n p hand.part hand.message hand.heard run hand.there hand.published hand.says in
    let s = node_at w n in
    let said-so = said.Published None (said.Message heard.read) in
    let opening = is_opening hand.part p in
    let session = hand.message.session in
    let within = slice_get_within (published_of w done n) p heard.message heard.there in
    let new = handed_host w part h n p now host.calls heard.read opening session in
    let leaves : after ≡ record d { hosts = set d.hosts h new } =
    hand.leaves
    ∙ ap (λ (x : HeardData). with_track d h part (after_packet part.host x now) n (handed_track (track_at part n) p opening session (packet_out part.host x now).consumed)) heard.is
    ∙ ap (λ (o : Ordered NumberedData). with_track d h part (after_packet part.host said-so now) n (handed_track (track_at part n) p opening session (taken_of o heard.read now)))
    (hand-order same kept w done h n p heard.message heard.read part host heard.at) in
    subst (IsRun w (Hand h n p now ∷ done)) (sym leaves)
    (with-host w done (Hand h n p now) d h new run passed (λ m. refl)
    (λ k m differs. ap (λ b. cond b (MessageComes p now ∷ inputs_of done k m) (inputs_of done k m)) (other-host h k n m differs))
    (hand-host right lawful takes consumes w done h n p now heard.message heard.read opening session part host run.world.widths (passed, run.all)
    (λ m there differs. other-names w n m heard.read.group heard.read.node run.world.apart below there differs heard.at.group heard.at.node)
    below heard.at
    (opening-is low s (calls_of done n) hand.part p node within)
    heard.session))

-- ---- its answer

pub hand-answer : Reads → StepsAlike → SameConfig → KeptOrder
    → (w : World) (done : List Deed) (d after : WorldData) (h n p now : ℕ) (answer : Answer) → IsRun w done d
    → IsHand d h n p now after answer → answer ≡ answer_of w done (Hand h n p now)
hand-answer reads steps same kept w done d after h n p now answer run hand =
    let part = hand.host in
    let host = run.hosts h part hand.host_there in
    let below = node-below w done d n hand.part run hand.there in
    let heard = is-heard reads w done d n p hand.part hand.message hand.heard run hand.there hand.published hand.says in
    hand.stepped
    ∙ ap (λ (x : HeardData). Stepped (step_in (packet_out part.host x now).steps)) heard.is
    ∙ ap (λ (o : Ordered NumberedData). Stepped (step_of o heard.read now)) (hand-order same kept w done h n p heard.message heard.read part host heard.at)
    ∙ ap reply_as (steps (node_at w n) (published_of w done n) (host_at w h).wait (host_at w h).width (inputs_of done h n) (told_of w n host.calls) p now heard.message heard.read
    (track-is w done h n part host below).read heard.at)
