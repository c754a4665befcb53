use Rattle.std.proofs.Common.{◌∙◌, ◌*◌, ◌++◌, ap}
use Rattle.spk_payload.specs.Spelling.{number_field}
use Rattle.spk_device.specs.declared.owner.Owner.TheVariants.{Device}
use Rattle.spk_edge_rules.specs.Births.{own_metrics}
use Rattle.spk_edge.proofs.Born.{joined}
use Rattle.spk_edge.proofs.node.EdgeNode.device_bytes.Goals as goal

pub returns-clause-bytes : goal.returns-clause-bytes
returns-clause-bytes c =
    let ms = own_metrics c.args.self.now.standing.asked.book c.args.stamp (Device c.args.number) in
    joined c.args.stamp c.args.seq ms c.in_ok-out.out.items c.put_field.new.out.items c.put_owned.new.out.items c.put_field-2.new.out.items c.in_ok-out.ensures.items c.in_ok-put_field.ensures.ok c.in_ok-put_owned.ensures.ok
    (c.in_ok-put_field-2.ensures.ok ∙ ap (λ k. c.put_owned.new.out.items ++ number_field (3 * 8) k) c.from.ensures)
