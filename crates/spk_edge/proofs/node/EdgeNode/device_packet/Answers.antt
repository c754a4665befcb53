use Rattle.std.proofs.Common.{◌≡◌, ◌∙◌, ap, sym, subst, ℕ, List, true, false, None}
use Rattle.std.specs.Str.{IsUtf8}
use Rattle.spk_edge_rules.specs.Writable.{is_writable}
use Rattle.spk_packets.specs.Message.{Publish}
use Rattle.spk_topics.specs.Spark.{topic_of}
use Rattle.spk_topics.specs.Spark.Named.{of_device}
use Rattle.spk_topics.specs.declared.spark.Verb.TheVariants.{Birth}
use Rattle.spk_edge.specs.Rows.{device_born}
use Rattle.spk_edge.specs.Sealing.{wire_of}
use Rattle.spk_edge.specs.View.{NodeData}
use Rattle.spk_edge.proofs.Written.{on-ok, written-whole}
use Rattle.spk_edge.proofs.node.EdgeNode.device_packet.Goals as goal

pub returns-clause-whole : goal.returns-clause-whole
returns-clause-whole c =
    let m = device_born c.args.self.now c.args.stamp c.args.seq (c.args.number, record { name = c.args.name.now; up = true }) in
    let topic : c.as_str.result.now ≡ m.topic =
    c.as_str.ensures.value ∙ c.in_ok-topic.ensures ∙ ap (λ (n : NodeData). topic_of (of_device n.config.group Birth n.config.node c.args.name.now)) c.self.view_is in
    let same : Publish false 0 false c.as_str.result.now None c.deref.result.now ≡ wire_of m =
    ap (λ (t : List ℕ). Publish false 0 false t None c.deref.result.now) topic
    ∙ ap (λ (bytes : List ℕ). Publish false 0 false m.topic None bytes) (c.deref.ensures.value ∙ c.in_ok-payload.ensures.bytes) in
    on-ok c.published.result
    (λ writable. written-whole c.spelling_spells.ensures m (subst IsUtf8 topic c.as_str.utf8) c.in_ok-payload.ensures.fits (ap is_writable (sym same) ∙ writable))
    c.published.ensures.writable
