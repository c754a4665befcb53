use Rattle.spk_edge.specs.Rows.{row_said}
use Rattle.spk_edge.proofs.Rows.{as-field}
use Rattle.spk_edge.proofs.row.Row.put_sized.Goals as goal

pub returns-clause-ok : goal.returns-clause-ok
returns-clause-ok c =
    as-field c.put_fields.result c.args.out.now.items c.put_varint.new.out.items c.put_varint-2.new.out.items c.put_fields.new.out.items (row_said c.args.self.now) c.args.size c.put_fields.ensures.ok
    c.put_fields.ensures.fits c.in_ok-put_varint-2.ensures.ok c.in_ok-put_varint.ensures.ok c.requires.size
