-- What a host of a world shows of a node.
use Rattle.std.proofs.Common.{◌≡◌, ◌∙◌, sym, ap, subst, refl, ℕ, zero, suc, ◌<◌, ◌≤◌, Bool, List, [], ◌∷◌, ◌++◌, length, map, reverse, slice_get, Option, Some, None, arith}
use Rattle.spk_packets.specs.Spelling.{spelling}
use Rattle.spk_sequence.specs.Claims.{IsLawful}
use Rattle.spk_sequence.specs.Following.{following}
use Rattle.spk_sequence.specs.HostRecord as order
use Rattle.spk_sequence.specs.HostRecord.{Input}
use Rattle.spk_sequence.specs.Window.{AllNearDeaths}
use Rattle.spk_reading.specs.Data.{NumberedData, Published, Message}
use Rattle.spk_reading.specs.Meaning.{Says}
use Rattle.spk_host_rules.specs.Data as rules
use Rattle.spk_host_rules.specs.Data.{View}
use Rattle.spk_host_rules.specs.Values as values
use Rattle.spk_host_node.specs.Data as kept
use Rattle.spk_host_node.specs.Data.{fresh_node}
use Rattle.spk_host_node.specs.Inputs as node
use Rattle.spk_host_node.specs.Inputs.{events_of, node_after, since_end}
use Rattle.spk_host_node.specs.Step.{message_of}
use Rattle.spk_host_session.specs.Data.{Config}
use Rattle.spk_host.specs.Data.{HostData}
use Rattle.spk_host.specs.Inputs as host
use Rattle.spk_host.specs.Inputs.{host_after, node_calls}
use Rattle.spk_host.specs.Nodes.{node_or}
use Rattle.spk_host.specs.Step.{fresh}
use Rattle.spk_edge_rules.specs.Claims.{HasNames, IsUnreserved, IsWhole}
use Rattle.spk_edge_rules.specs.Config.{Setup}
use Rattle.spk_edge_rules.specs.Inputs as edge_input
use Rattle.spk_edge_rules.specs.Messages.{wire}
use Rattle.spk_edge_rules.specs.Run as edge
use Rattle.spk_edge_rules.specs.Run.{number_at, published, run_of}
use Rattle.spk_tie.specs.Tie.{IsMessageAt, ReadsMessage, host_setting}
use Rattle.spk_heard.specs.Read.{AreMessagesAt, AreRead}
use Rattle.spk_shown.specs.Shown.{AreMarked, AreOver, IsMarked, IsShownSo, is_alive}
use Rattle.spk_world_rules.specs.Claims.{IsLawfulPair}
use Rattle.spk_world_rules.specs.Events.{Deed, HasWidths, World, host_at, node_at}
use Rattle.spk_world_rules.specs.Queries.{calls_of, consumed_of, inputs_of, published_of, record_of, setting_of}
use Rattle.spk_world_rules.specs.Refusals.{AllDone}
use Rattle.spk_world_run.specs.Data.{HostPart, Track, WorldData, no_track}
use Rattle.spk_world_run.specs.Run.{IsHostRun, IsRun, IsTrack}
use Rattle.spk_world_shown.specs.Seen.{IsSeen}
use Rattle.spk_world_shown.proofs.Marks.{marked_along, marked_at}
use Rattle.spk_world_shown.proofs.Split.{split}

-- what the laws below say
pub record Laws : Type 0 where
  pub reads : (s : Setup) (later is : List edge_input.Input) (p : ℕ) (m : edge.Message) (bytes : List ℕ) → HasNames s → IsUnreserved s →
      slice_get (published (run_of s is)) p ≡ Some m → IsWhole bytes s.config (number_at s (published (run_of s is)) p) m.draft →
      ReadsMessage s (published (run_of s (later ++ is))) p m bytes
  pub kept : (config : Config) (calls : List host.Call) (group name : List ℕ) →
      node_or (fresh_node config.wait config.width) (host_after config calls).nodes group name ≡ node_after config.wait config.width (node_calls calls group name)
  pub config : (config : Config) (calls : List host.Call) → (host_after config calls).session.config ≡ config
  pub lawful : (w : World) (done : List Deed) (h n : ℕ) → HasWidths w → AllDone w done → IsLawfulPair w done h n
  pub view : (s : Setup) (published : List edge.Message) (wait width : ℕ) (is : List Input) (js earlier : List node.Input) →
      IsLawful (host_setting s published wait width) is → AllNearDeaths (host_setting s published wait width) is → AreRead s published is js → AreMarked js → AreOver earlier →
      IsShownSo (is_alive (host_setting s published wait width) (order.record_of (host_setting s published wait width) is))
      (following (host_setting s published wait width) (order.record_of (host_setting s published wait width) is)).on
      (values.consumed_of (events_of wait width (js ++ earlier))) (node_after wait width (js ++ earlier)).watch.view
  pub messages : (s : Setup) (published : List edge.Message) (wait width : ℕ) (is : List Input) (js earlier : List node.Input) → 0 < width → width ≤ 96 →
      AreRead s published is js → AreOver earlier →
      (reads : List NumberedData) × AreMessagesAt s published (order.consumed_of (order.record_of (host_setting s published wait width) is)) reads
      × (values.consumed_of (events_of wait width (js ++ earlier)) ≡ reverse (map message_of reads) ++ values.consumed_of (events_of wait width earlier))
  pub marked : (bytes : List ℕ) (ack : Option ℕ) (read : NumberedData) → Says bytes (Published ack (Message read)) → IsMarked read

there : {X : Type 0} (xs : List X) (n : ℕ) → n < length xs → (x : X) × (slice_get xs n ≡ Some x)
there [] n low = absurd (omega (arith, low))
there (x ∷ xs) zero low = (x, refl)
there (x ∷ xs) (suc n) low = there xs n (omega (arith, low))

-- a message that a node of a world published is marked as what it is
marks : Laws → (w : World) (done : List Deed) (d : WorldData) (n : ℕ) → IsRun w done d → n < length w.nodes →
    (p : ℕ) (m : edge.Message) (read : NumberedData) → IsMessageAt (node_at w n) (published_of w done n) p m read → IsMarked read
marks laws w done d n run low p m read at =
    let s = node_at w n in
    let messages = published_of w done n in
    let known = run.world.nodes n low in
    let count : n < length d.nodes = omega (arith, run.node_count, low) in
    let found = there d.nodes n count in
    let part = run.nodes n found.0 found.1 in
    marked_at (λ bytes r says. laws.marked bytes None r says) s messages p m read (spelling (wire s.config (number_at s messages p) m.draft))
    (laws.reads s [] (calls_of done n) p m _ known.names known.unreserved at.there (part.whole p m at.there)) at

-- what a host that was told these calls shows
shown_by : Laws → (cfg : Config) (calls : List host.Call) (h : HostData) (s : Setup) (alive followed : Bool) (messages : List rules.Message) → h ≡ host_after cfg calls →
    IsShownSo alive followed messages (node_after cfg.wait cfg.width (node_calls calls s.config.group s.config.node)).watch.view →
    IsShownSo alive followed messages (node_or (fresh h) h.nodes s.config.group s.config.node).watch.view
shown_by laws cfg calls h s alive followed messages is shown =
    let same : node_or (fresh (host_after cfg calls)) (host_after cfg calls).nodes s.config.group s.config.node ≡ node_after cfg.wait cfg.width (node_calls calls s.config.group s.config.node) =
    ap (λ (c : Config). node_or (fresh_node c.wait c.width) (host_after cfg calls).nodes s.config.group s.config.node) (laws.config cfg calls) ∙ laws.kept cfg calls s.config.group s.config.node in
    subst (λ (x : HostData). IsShownSo alive followed messages (node_or (fresh x) x.nodes s.config.group s.config.node).watch.view) (sym is)
    (subst (λ (k : kept.NodeData). IsShownSo alive followed messages k.watch.view) (sym same) shown)

pub seen : Laws → (w : World) (done : List Deed) (d : WorldData) (h n : ℕ) (part : HostPart) → IsRun w done d → slice_get d.hosts h ≡ Some part → n < length w.nodes →
    IsSeen (node_at w n) (published_of w done n) (is_alive (setting_of w done h n) (record_of w done h n)) (following (setting_of w done h n) (record_of w done h n)).on
    (consumed_of w done h n) part.host
seen laws w done d h n part run stands low =
    let s = node_at w n in
    let messages = published_of w done n in
    let is = inputs_of done h n in
    let r = run.hosts h part stands in
    let wait = (host_at w h).wait in
    let width = (host_at w h).width in
    let count : n < length part.tracks = omega (arith, r.count, low) in
    let found = there part.tracks n count in
    let track = r.tracks n found.0 found.1 in
    let calls = node_calls r.calls s.config.group s.config.node in
    let js = since_end calls in
    let parts = split calls in
    let pair = laws.lawful w done h n run.world.widths run.all in
    let marked = marked_along s messages (marks laws w done d n run low) is js track.read in
    let view = laws.view s messages wait width is js parts.0 pair.lawful pair.near track.read marked parts.1 in
    let said = laws.messages s messages wait width is js parts.0 pair.lawful.some_places pair.lawful.few_places track.read parts.1 in
    let all = subst (λ (ms : List rules.Message). IsShownSo (is_alive (setting_of w done h n) (record_of w done h n)) (following (setting_of w done h n) (record_of w done h n)).on ms
    (node_after wait width (js ++ parts.0)).watch.view) said.2 view in
    let told = subst (λ (xs : List node.Input). IsShownSo (is_alive (setting_of w done h n) (record_of w done h n)) (following (setting_of w done h n) (record_of w done h n)).on
    (reverse (map message_of said.0) ++ values.consumed_of (events_of wait width parts.0)) (node_after wait width xs).watch.view) (sym parts.2) all in
    let mine = subst (λ (k : ℕ). IsShownSo (is_alive (setting_of w done h n) (record_of w done h n)) (following (setting_of w done h n) (record_of w done h n)).on
    (reverse (map message_of said.0) ++ values.consumed_of (events_of wait width parts.0)) (node_after k width calls).watch.view) (sym r.waits) told in
    let wide = subst (λ (k : ℕ). IsShownSo (is_alive (setting_of w done h n) (record_of w done h n)) (following (setting_of w done h n) (record_of w done h n)).on
    (reverse (map message_of said.0) ++ values.consumed_of (events_of wait width parts.0)) (node_after r.config.wait k calls).watch.view) (sym r.wide) mine in
    record {
      reads = said.0;
      earlier = values.consumed_of (events_of wait width parts.0);
      are = said.1;
      shown = shown_by laws r.config r.calls part.host s (is_alive (setting_of w done h n) (record_of w done h n)) (following (setting_of w done h n) (record_of w done h n)).on
          (reverse (map message_of said.0) ++ values.consumed_of (events_of wait width parts.0)) r.is wide;
    }
