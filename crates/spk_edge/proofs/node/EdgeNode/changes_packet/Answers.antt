use Rattle.std.proofs.Common.{◌≡◌, ◌∙◌, ap, sym, subst, ℕ, List, false, None}
use Rattle.std.specs.Str.{IsUtf8}
use Rattle.spk_edge_rules.specs.Writable.{is_writable}
use Rattle.spk_packets.specs.Message.{Publish}
use Rattle.spk_edge.specs.Sealing.{wire_of}
use Rattle.spk_edge.specs.Several.{message, pairs}
use Rattle.spk_edge.proofs.Written.{on-ok, written-whole}
use Rattle.spk_edge.proofs.node.EdgeNode.changes_packet.Goals as goal

pub returns-clause-whole : goal.returns-clause-whole
returns-clause-whole c =
    let m = message c.args.self.now c.args.owner c.args.stamp (pairs c.args.changes.now) in
    let topic : c.as_str.result.now ≡ m.topic = c.as_str.ensures.value ∙ c.in_ok-topic.ensures in
    let same : Publish false 0 false c.as_str.result.now None c.deref.result.now ≡ wire_of m =
    ap (λ (t : List ℕ). Publish false 0 false t None c.deref.result.now) topic
    ∙ ap (λ (bytes : List ℕ). Publish false 0 false m.topic None bytes) (c.deref.ensures.value ∙ c.in_ok-payload.ensures.bytes) in
    on-ok c.published.result
    (λ writable. written-whole c.spelling_spells.ensures m (subst IsUtf8 topic c.as_str.utf8) c.in_ok-payload.ensures.fits (ap is_writable (sym same) ∙ writable))
    c.published.ensures.writable
