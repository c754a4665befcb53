use Rattle.std.proofs.Common.{◌∙◌, ◌*◌, ◌++◌, ap}
use Rattle.spk_payload.specs.Spelling.{number_field}
use Rattle.spk_edge.specs.Several.{pairs, rows}
use Rattle.spk_edge.specs.View.{NodeData}
use Rattle.spk_edge.proofs.Born.{joined}
use Rattle.spk_edge.proofs.node.EdgeNode.changes_bytes.Goals as goal

pub returns-clause-bytes : goal.returns-clause-bytes
returns-clause-bytes c =
    let n = c.args.self.now in
    joined c.args.stamp n.standing.seq (rows n.standing.asked.book c.args.stamp (pairs c.args.changes.now)) c.in_ok-out.out.items c.put_field.new.out.items c.put_changes.new.out.items c.put_field-2.new.out.items
    c.in_ok-out.ensures.items c.in_ok-put_field.ensures.ok c.in_ok-put_changes.ensures.ok
    (c.in_ok-put_field-2.ensures.ok ∙ ap (λ k. c.put_changes.new.out.items ++ number_field (3 * 8) k) (c.from.ensures ∙ ap (λ (n : NodeData). n.standing.seq) c.self.view_is))
