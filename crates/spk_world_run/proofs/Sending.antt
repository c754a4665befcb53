-- Nothing that a world hands to a host is refused for another cause than memory.
use Rattle.std.proofs.Common.{◌≡◌, ◌∙◌, ap, sym, refl, subst, ℕ, ◌+◌, ◌^◌, ◌%◌, ◌<◌, length, arith, Bool, true, false, List, [], ◌∷◌, ◌++◌, Option, Some, None}
use Rattle.std.specs.Prelude.{slice_get, is_some, All, IfSome}
use Rattle.std.proofs.lemmas.Bool.{true≢false}
use Rattle.std.proofs.lemmas.Option.{slice_get_within}
use Rattle.spk_payload.specs.Meaning.{MetricData, Other}
use Rattle.spk_payload.specs.Spelling as payload
use Rattle.spk_payload.specs.Spelling.{ContentFits, HoldsOther, MetricFits, PayloadFits}
use Rattle.spk_packets.specs.Grammar.{Spells}
use Rattle.spk_packets.specs.Message as packet
use Rattle.spk_packets.specs.Spelling.{spelling}
use Rattle.spk_edge_rules.specs.Writable.{is_writable}
use Rattle.spk_edge_rules.specs.Claims.{HasNames, IsUnreserved, IsWhole}
use Rattle.spk_edge_rules.specs.Config.{Config, Setup}
use Rattle.spk_edge_rules.specs.Inputs.{Input}
use Rattle.spk_edge_rules.specs.Messages.{wire}
use Rattle.spk_edge_rules.specs.Packets.{death_payload, death_topic}
use Rattle.spk_edge_rules.specs.Run.{Message, number_at, published, run_of}
use Rattle.spk_edge.specs.View.{NodeData}
use Rattle.spk_reading.specs.Meaning.{IsReadFault}
use Rattle.spk_reading.specs.declared.fault.ReadFault.{ReadFault}
use Rattle.spk_host.specs.Data.{HostData}
use Rattle.spk_tie.specs.Tie.{IsDeathOf, ReadsDeath, ReadsMessage, ack_of}
use Rattle.spk_world_rules.specs.Events.{Deed, World, node_at}
use Rattle.spk_world_rules.specs.Queries.{calls_of, published_of}
use Rattle.spk_world_run.specs.Data.{HostPart, NodePart, PublishedData, WorldData}
use Rattle.spk_world_run.specs.Run.{IsNodeRun, IsRun, post_of}
use Rattle.spk_world_run.specs.Sending.{IsKnown, IsSendable}
use Rattle.spk_world_run.specs.Step.{death_of, packet_of}
use Rattle.spk_world_run.proofs.Deaths.{ReadsDeaths, moment-below, session-from}
use Rattle.spk_world_run.proofs.Refused.{message-there}
use Rattle.spk_world_run.proofs.Texts.{SpellingSpells, death-spelled}

abbrev pub ReadsMessages : Type 0
ReadsMessages = (s : Setup) (later is : List Input) (p : ℕ) (m : Message) (bytes : List ℕ) → HasNames s → IsUnreserved s → slice_get (published (run_of s is)) p ≡ Some m
    → IsWhole bytes s.config (number_at s (published (run_of s is)) p) m.draft → ReadsMessage s (published (run_of s (later ++ is))) p m bytes

-- a host that is within a session
in-session : (o : Option ℕ) → is_some o ≡ true → o ≡ None → ⊥
in-session None e f = true≢false (sym e)
in-session (Some x) e f = let z : ⊥ = cc in z

-- a payload that has a spelling holds no value that isn't known
no-other : (ms : List MetricData) → All MetricFits ms → HoldsOther ms → ⊥
no-other ms fits (k, x, below, same, other) =
    let fit : MetricFits x = subst MetricFits same (fits k x below) in
    subst (λ v. IfSome v ContentFits) other fit.value

pub message-sent : ReadsMessages → (w : World) (done : List Deed) (d : WorldData) (h n p : ℕ) (host : HostPart) (part : NodePart) (message : PublishedData) → IsRun w done d
    → slice_get d.hosts h ≡ Some host → slice_get d.nodes n ≡ Some part → slice_get part.published p ≡ Some message
    → IsSendable host.host (packet_of message) × IsKnown message
message-sent reads w done d h n p host part message run has-host has-part there =
    let s = node_at w n in
    let node = run.nodes n part has-part in
    let below : n < length w.nodes = let b = slice_get_within d.nodes n part has-part in let size = run.node_count in omega (arith, b, size) in
    let names = run.world.nodes n below in
    let found = message-there s (calls_of done n) part p message node there in
    let m = found.0 in
    let whole = node.whole p m found.1 in
    let wire-is : packet_of message ≡ wire s.config (number_at s (published_of w done n) p) m.draft = ap packet_of found.2 in
    let read = reads s [] (calls_of done n) p m (spelling (wire s.config (number_at s (published_of w done n) p) m.draft)) names.names names.unreserved found.1 whole in
    let can : is_writable (packet_of message) ≡ true = ap is_writable wire-is ∙ node.writable p m found.1 in
    let fits : PayloadFits message.payload = subst (λ (x : PublishedData). PayloadFits x.payload) (sym found.2) whole.fits in (
      record {
        within = in-session host.host.session.began (run.hosts h host has-host).began;
        writable = can;
        unrefused = λ fault amiss. read.alone.unrefused fault (subst (λ x. IsReadFault (spelling x) fault) wire-is amiss);
      },
      record { known = no-other message.payload.metrics fits.metrics },
    )

pub death-sent : ReadsDeaths → SpellingSpells → (w : World) (done : List Deed) (d : WorldData) (h n session time : ℕ) (host : HostPart) (part : NodePart) → IsRun w done d
    → slice_get d.hosts h ≡ Some host → slice_get d.nodes n ≡ Some part → slice_get part.opened session ≡ Some time
    → IsSendable host.host (death_of part.node.config session time)
death-sent reads spells w done d h n session time host part run has-host has-part there =
    let s = node_at w n in
    let node = run.nodes n part has-part in
    let below : n < length w.nodes = let b = slice_get_within d.nodes n part has-part in let size = run.node_count in omega (arith, b, size) in
    let names = run.world.nodes n below in
    let config : part.node.config ≡ s.config = ap (λ (x : NodeData). x.config) node.node in
    record {
      within = in-session host.host.session.began (run.hosts h host has-host).began;
      writable = ap (λ (c : Config). is_writable (death_of c session time)) config ∙ node.dying session time there;
      unrefused = λ fault amiss.
          let mine = death-spelled spells s.config session time names.group_text names.node_text (node.dying session time there) in
          let bytes = spelling (death_of s.config session time) in
          let dead : IsDeathOf s session time false 0 false None bytes =
          subst (λ k. Spells bytes (packet.Publish false 0 false (death_topic s.config) None (payload.spelling (death_payload k time)))) (session-from s session names.bd) mine in
          (reads s session time 0 false false None bytes names.names (moment-below part.opened session time node.moments there) dead).alone.unrefused fault
          (subst (λ (c : Config). IsReadFault (spelling (death_of c session time)) fault) config amiss);
    }
