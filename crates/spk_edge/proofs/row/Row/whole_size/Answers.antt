use Rattle.spk_edge.specs.Rows.{row_said}
use Rattle.spk_edge.proofs.Rows.{field-size}
use Rattle.spk_edge.proofs.row.Row.whole_size.Goals as goal

pub returns : goal.returns
returns c = field-size (row_said c.args.self.now) c.size.result c.field_of.result c.size.ensures c.field_of.ensures
