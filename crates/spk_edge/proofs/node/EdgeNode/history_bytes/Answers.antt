use Rattle.std.proofs.Common.{◌∙◌, ◌*◌, ◌++◌, ap, length, take, List, ℕ}
use Rattle.spk_payload.specs.Spelling.{number_field}
use Rattle.spk_edge_rules.specs.Births.{later_stamp}
use Rattle.spk_edge.specs.History.{all_kept}
use Rattle.spk_edge.specs.View.{NodeData}
use Rattle.spk_edge.proofs.Born.{joined}
use Rattle.spk_edge.proofs.Fronts.{filled-front}
use Rattle.spk_edge.proofs.node.EdgeNode.history_bytes.Goals as goal

pub returns-clause-bytes : goal.returns-clause-bytes
returns-clause-bytes c =
    let n = c.args.self.now in
    let a = n.standing.asked in
    joined (later_stamp a.stamp c.args.now) n.standing.seq (take c.in_ok-count.count (all_kept a)) c.in_ok-out.out.items c.put_field.new.out.items c.put_first.new.out.items c.put_field-2.new.out.items c.in_ok-out.ensures.items
    (c.in_ok-put_field.ensures.ok ∙ ap (λ k. c.in_ok-out.out.items ++ number_field (1 * 8) k) c.later_stamp.ensures) c.in_ok-count.ensures.items
    (c.in_ok-put_field-2.ensures.ok ∙ ap (λ k. c.put_first.new.out.items ++ number_field (3 * 8) k) (c.from-seq.ensures ∙ ap (λ (n : NodeData). n.standing.seq) c.self.view_is))

pub returns-clause-front : goal.returns-clause-front
returns-clause-front c =
    let n = c.args.self.now in
    filled-front n c.args.now c.args.room c.args.most c.in_ok-count.count c.field_size.result c.saturating_sub-limit.result c.put_field.new.out.items c.put_first.new.out.items
    (c.in_ok-put_field.ensures.ok ∙ ap (λ (l : List ℕ). l ++ number_field (1 * 8) c.later_stamp.result) c.in_ok-out.ensures.items ∙ ap (λ k. number_field (1 * 8) k) c.later_stamp.ensures)
    (c.field_size.ensures.size ∙ ap (λ k. length (number_field (3 * 8) k)) (c.from-seq.ensures ∙ ap (λ (n : NodeData). n.standing.seq) c.self.view_is))
    c.saturating_sub-limit.ensures c.in_ok-count.ensures
