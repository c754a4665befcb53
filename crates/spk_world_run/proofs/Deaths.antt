-- The NDEATH of a session is handed to a host: the data after it are those of the longer list, and the answer is the right one.
use Rattle.std.proofs.Common.{◌≡◌, ◌∙◌, ap, sym, refl, subst, ℕ, zero, suc, ◌+◌, ◌%◌, ◌^◌, ◌<◌, length, arith, Bool, true, false, cond, List, [], ◌∷◌, set, Option, Some, None}
use Rattle.std.specs.Prelude.{slice_get, ◌==◌, All}
use Rattle.std.specs.Option.{option_map}
use Rattle.std.proofs.lemmas.Bool.{true≢false, eq-eqb, eqb-true}
use Rattle.std.proofs.lemmas.List.Elements.{All-head, All-tail}
use Rattle.spk_sequence.specs.declared.answer.Match.TheVariants.{Matched, Ignored}
use Rattle.spk_sequence.specs.Following.{is_session_of, taken}
use Rattle.spk_sequence.specs.HostRecord as order
use Rattle.spk_sequence.specs.HostRecord.{DeathComes}
use Rattle.spk_sequence.specs.NodeRecord.{Setting, session_at}
use Rattle.spk_packets.specs.Grammar.{Spells}
use Rattle.spk_packets.specs.Message as packet
use Rattle.spk_packets.specs.Spelling.{spelling}
use Rattle.spk_payload.specs.Spelling as payload
use Rattle.spk_reading.specs.Data as said
use Rattle.spk_reading.specs.Data.{HeardData}
use Rattle.spk_reading.specs.Meaning.{Says}
use Rattle.spk_edge.specs.View.{NodeData}
use Rattle.spk_edge_rules.specs.Claims.{HasNames}
use Rattle.spk_edge_rules.specs.Config.{Config, Setup}
use Rattle.spk_edge_rules.specs.Packets.{death_payload, death_topic}
use Rattle.spk_edge_rules.specs.Run.{session_number}
use Rattle.spk_heard.specs.Read.{IsRead}
use Rattle.spk_host.specs.Data.{HostData}
use Rattle.spk_host.specs.Inputs.{Heard, node_calls}
use Rattle.spk_host.specs.Step.{after_packet}
use Rattle.spk_host_node.specs.Inputs.{Dies, since_end}
use Rattle.spk_tie.specs.Tie.{IsDeathOf, ReadsDeath, ack_of}
use Rattle.spk_world_rules.specs.Answers.{Answer, Told, answer_of, reply_as}
use Rattle.spk_world_rules.specs.Claims.{ComesAs}
use Rattle.spk_world_rules.specs.Events.{Death, Deed, World, host_at, node_at}
use Rattle.spk_world_rules.specs.Queries.{inputs_of, published_of, record_of, setting_of}
use Rattle.spk_world_rules.specs.Refusals.{refusal_of}
use Rattle.spk_world_run.specs.Data.{HostPart, NodePart, Track, WorldData}
use Rattle.spk_world_run.specs.Run.{AreApart, IsHostRun, IsRun, IsTrack}
use Rattle.spk_world_run.specs.Step.{IsDeath, death_of, is_session_at}
use Rattle.spk_world_run.proofs.Hands.{RightSteps}
use Rattle.spk_world_run.proofs.Hosts.{node-below, other-host, other-names, other-node, own-names, this-pair, track-below, with-host}
use Rattle.spk_world_run.proofs.Refused.{track-is}
use Rattle.spk_world_run.proofs.Texts.{SpellingSpells, death-spelled}
use Rattle.spk_world_run.proofs.Tracks.{death-tracked, told_of, track-from, tracked-of}

-- ---- what the law below gives

abbrev pub ReadsDeaths : Type 0
ReadsDeaths = (s : Setup) (session time qos : ℕ) (dup retain : Bool) (id : Option ℕ) (bytes : List ℕ) → HasNames s → time < 2 ^ 63
    → IsDeathOf s session time dup qos retain id bytes → ReadsDeath s session (ack_of qos id) bytes

-- ---- what is heard

-- the packet says the death of that session, and nothing else
record IsHeard (w : World) (done : List Deed) (n session now : ℕ) (heard : HeardData) : Type 0 where
  bd : ℕ
  is : heard ≡ said.Published None (said.Death (node_at w n).config.group (node_at w n).config.node bd)
  read : IsRead (node_at w n) (published_of w done n) (DeathComes session now) (Dies bd)

-- a moment at which a session was opened
pub moment-below : (times : List ℕ) (k time : ℕ) → All (λ t. t < 2 ^ 63) times → slice_get times k ≡ Some time → time < 2 ^ 63
moment-below [] k time all there = absurd (let z : ⊥ = cc in z)
moment-below (t ∷ times) zero time all there =
    let same : t ≡ time = cc in
    subst (λ x. x < 2 ^ 63) same (All-head (λ x. x < 2 ^ 63) t times all)
moment-below (t ∷ times) (suc k) time all there = moment-below times k time (All-tail (λ x. x < 2 ^ 63) t times all) there

-- bdSeqs of sessions count from 0
pub session-from : (s : Setup) (session : ℕ) → s.bd ≡ 0 → session % 256 ≡ session_number s session
session-from s session zero-bd = ap (λ k. k % 256) (let e : session ≡ s.bd + session = omega (arith, zero-bd) in e)

is-heard : ReadsDeaths → (w : World) (done : List Deed) (d : WorldData) (n session time now : ℕ) (part : NodePart) (heard : HeardData) → IsRun w done d
    → slice_get d.nodes n ≡ Some part → slice_get part.opened session ≡ Some time
    → Spells (spelling (death_of part.node.config session time)) (death_of part.node.config session time)
    → Says (spelling (death_of part.node.config session time)) heard → IsHeard w done n session now heard
is-heard reads w done d n session time now part heard run there opened spelled says =
    let s = node_at w n in
    let below = node-below w done d n part run there in
    let node = run.nodes n part there in
    let names = run.world.nodes n below in
    let config : part.node.config ≡ s.config = ap (λ (x : NodeData). x.config) node.node in
    let one : packet.Message = packet.Publish false 0 false (death_topic s.config) None (payload.spelling (death_payload (session_number s session) time)) in
    let same : death_of part.node.config session time ≡ one =
    ap (λ (c : Config). death_of c session time) config
    ∙ ap (λ b. packet.Publish false 0 false (death_topic s.config) None (payload.spelling (death_payload b time))) (session-from s session names.bd) in
    let sent : IsDeathOf s session time false 0 false None (spelling one) = subst (λ (m : packet.Message). Spells (spelling m) m) same spelled in
    let tie : ReadsDeath s session None (spelling one) =
    reads s session time 0 false false None (spelling one) names.names (moment-below part.opened session time node.moments opened) sent in
    record {
      bd = tie.bd;
      is = tie.alone.only heard (subst (λ (m : packet.Message). Says (spelling m) heard) same says);
      read = λ wait width. tie.call (published_of w done n) wait width now;
    }

-- ---- the host after it

death-comes : (done : List Deed) (h n session now : ℕ) → ComesAs done (Death h n session now) h n (DeathComes session now)
death-comes done h n session now = ap (λ b. cond b (DeathComes session now ∷ inputs_of done h n) (inputs_of done h n)) (this-pair h n)

abbrev death_in : World → ℕ → ℕ → HeardData
death_in w n bd = said.Published None (said.Death (node_at w n).config.group (node_at w n).config.node bd)

death-host : (w : World) (done : List Deed) (h n session now bd : ℕ) (part : HostPart) → IsHostRun w done h part → AreApart w → n < length w.nodes
    → IsRead (node_at w n) (published_of w done n) (DeathComes session now) (Dies bd)
    → IsHostRun w (Death h n session now ∷ done) h (record part { host = after_packet part.host (death_in w n bd) now })
death-host w done h n session now bd part run apart below read = record {
  config = run.config;
  calls = Heard (death_in w n bd) now ∷ run.calls;
  is = ap (λ (x : HostData). after_packet x (death_in w n bd) now) run.is;
  began = run.began;
  waits = run.waits;
  wide = run.wide;
  count = run.count;
  tracks = λ k track there. by (n == k) k refl track there;
}
  where
    this : (track : Track) → slice_get part.tracks n ≡ Some track → IsTrack w (Death h n session now ∷ done) h n (Heard (death_in w n bd) now ∷ run.calls) track
    this track there =
        track-from w (Death h n session now ∷ done) h n (Heard (death_in w n bd) now ∷ run.calls) track (DeathComes session now ∷ inputs_of done h n) (Dies bd ∷ told_of w n run.calls)
        (death-comes done h n session now)
        (ap (λ b. since_end (cond b (Dies bd ∷ node_calls run.calls (node_at w n).config.group (node_at w n).config.node) (node_calls run.calls (node_at w n).config.group (node_at w n).config.node)))
        (own-names (node_at w n).config.group (node_at w n).config.node (node_at w n).config.group (node_at w n).config.node refl refl))
        (death-tracked (node_at w n) (published_of w done n) (host_at w h).wait (host_at w h).width (inputs_of done h n) (told_of w n run.calls) track session now bd read
        (tracked-of w done h n run.calls track (run.tracks n track there)))

    other : (k : ℕ) → (k ≡ n → ⊥) → (track : Track) → slice_get part.tracks k ≡ Some track
        → IsTrack w (Death h n session now ∷ done) h k (Heard (death_in w n bd) now ∷ run.calls) track
    other k differs track there =
        track-from w (Death h n session now ∷ done) h k (Heard (death_in w n bd) now ∷ run.calls) track (inputs_of done h k) (told_of w k run.calls)
        (ap (λ b. cond b (DeathComes session now ∷ inputs_of done h k) (inputs_of done h k)) (other-node h n k differs))
        (ap (λ b. since_end (cond b (Dies bd ∷ node_calls run.calls (node_at w k).config.group (node_at w k).config.node) (node_calls run.calls (node_at w k).config.group (node_at w k).config.node)))
        (other-names w n k (node_at w n).config.group (node_at w n).config.node apart below (track-below w done h k part track run there) differs refl refl))
        (tracked-of w done h k run.calls track (run.tracks k track there))

    by : (b : Bool) (k : ℕ) → (n == k) ≡ b → (track : Track) → slice_get part.tracks k ≡ Some track
        → IsTrack w (Death h n session now ∷ done) h k (Heard (death_in w n bd) now ∷ run.calls) track
    by true k e track there =
        let same : n ≡ k = eqb-true n k e in
        subst (λ i. IsTrack w (Death h n session now ∷ done) h i (Heard (death_in w n bd) now ∷ run.calls) track) same
        (this track (subst (λ i. slice_get part.tracks i ≡ Some track) (sym same) there))
    by false k e track there = other k (λ same. true≢false (sym (eq-eqb n k (sym same)) ∙ e)) track there

-- ---- the world after it

pub death-run : ReadsDeaths → SpellingSpells → (w : World) (done : List Deed) (d after : WorldData) (h n session now : ℕ) (answer : Answer) → IsRun w done d
    → refusal_of w done (Death h n session now) ≡ None → IsDeath d h n session now after answer → IsRun w (Death h n session now ∷ done) after
death-run reads spells w done d after h n session now answer run passed death =
    let part = death.host in
    let below = node-below w done d n death.part run death.there in
    let names = run.world.nodes n below in
    let node = run.nodes n death.part death.there in
    let config : death.part.node.config ≡ (node_at w n).config = ap (λ (x : NodeData). x.config) node.node in
    let spelled : Spells (spelling (death_of death.part.node.config session death.time)) (death_of death.part.node.config session death.time) =
    subst (λ (c : Config). Spells (spelling (death_of c session death.time)) (death_of c session death.time)) (sym config)
    (death-spelled spells (node_at w n).config session death.time names.group_text names.node_text (node.dying session death.time death.opened)) in
    let heard = is-heard reads w done d n session death.time now death.part death.heard run death.there death.opened spelled death.says in
    let new : HostPart = record part { host = after_packet part.host (death_in w n heard.bd) now } in
    let leaves : after ≡ record d { hosts = set d.hosts h new } =
    death.leaves ∙ ap (λ (x : HeardData). record d { hosts = set d.hosts h (record part { host = after_packet part.host x now }) }) heard.is in
    subst (IsRun w (Death h n session now ∷ done)) (sym leaves)
    (with-host w done (Death h n session now) d h new run passed (λ m. refl)
    (λ k m differs. ap (λ b. cond b (DeathComes session now ∷ inputs_of done k m) (inputs_of done k m)) (other-host h k n m differs))
    (death-host w done h n session now heard.bd part (run.hosts h part death.host_there) run.world.apart below heard.read))

-- ---- its answer

same-session : (s : Setting) (o : Option ℕ) (session : ℕ) → is_session_at (option_map (session_at s.published) o) session ≡ is_session_of s o session
same-session s None session = refl
same-session s (Some b) session = refl

pub death-answer : RightSteps → (w : World) (done : List Deed) (d after : WorldData) (h n session now : ℕ) (answer : Answer) → IsRun w done d
    → refusal_of w done (Death h n session now) ≡ None → IsDeath d h n session now after answer → answer ≡ answer_of w done (Death h n session now)
death-answer right w done d after h n session now answer run passed death =
    let s = setting_of w done h n in
    let r = record_of w done h n in
    let host = run.hosts h death.host death.host_there in
    let track = track-is w done h n death.host host (node-below w done d n death.part run death.there) in
    death.told
    ∙ ap (λ (o : Option ℕ). Told (cond (is_session_at o session) Matched Ignored)) track.session
    ∙ ap (λ b. Told (cond b Matched Ignored)) (same-session s (taken s r) session)
    ∙ ap (λ (e : order.Done). reply_as e.reply)
    (sym (right w done (Death h n session now) h n (DeathComes session now) run.world.widths (passed, run.all) (death-comes done h n session now)))
