use Rattle.std.proofs.Common.{◌∙◌, ◌*◌, ◌++◌, ◌∷◌, ap, Some}
use Rattle.spk_payload.specs.Spelling.{number_field}
use Rattle.spk_device.specs.declared.owner.Owner.TheVariants.{Node}
use Rattle.spk_edge_rules.specs.Births.{own_metrics, rebirth_metric}
use Rattle.spk_edge_rules.specs.Packets.{session_metric}
use Rattle.spk_edge.proofs.Born.{joined, two-first}
use Rattle.spk_edge.proofs.node.EdgeNode.node_bytes.Goals as goal

pub returns-clause-bytes : goal.returns-clause-bytes
returns-clause-bytes c =
    let a = c.args.self.now.standing.asked in
    let own = own_metrics a.book c.args.stamp Node in
    let first = session_metric a.will_bd (Some c.args.stamp) in
    let second = rebirth_metric c.args.stamp in
    joined c.args.stamp c.args.seq (first ∷ second ∷ own) c.in_ok-out.out.items c.put_field.new.out.items c.put_owned.new.out.items c.put_field-2.new.out.items c.in_ok-out.ensures.items c.in_ok-put_field.ensures.ok
    (two-first first second own c.put_field.new.out.items c.put_session.new.out.items c.put_rebirth.new.out.items c.put_owned.new.out.items c.in_ok-put_session.ensures.ok c.in_ok-put_rebirth.ensures.ok c.in_ok-put_owned.ensures.ok)
    (c.in_ok-put_field-2.ensures.ok ∙ ap (λ k. c.put_owned.new.out.items ++ number_field (3 * 8) k) c.from.ensures)
