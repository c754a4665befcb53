use Rattle.std.proofs.Common.{◌≡◌, length, arith}
use Rattle.spk_edge.specs.Rows.{row_said}
use Rattle.spk_edge.proofs.Rows.{past-limit, put-within}
use Rattle.spk_edge.proofs.row.Row.put_within.Goals as goal

pub returns-then-saturating_add-limit : goal.returns-then-saturating_add-limit
returns-then-saturating_add-limit c =
    let size : c.len.result ≡ length c.args.out.now.items = (let len = c.len.ensures in let ok = c.args.out.now.ok.0 in omega (arith, len, ok)) in
    past-limit c.args.limit c.size-size.result c.field_of.result c.len.result c.saturating_add.result c.args.out.now.items (row_said c.args.self.now) c.size-size.ensures c.field_of.ensures size
    c.saturating_add.ensures c.if-saturating_add-limit.true

pub returns : goal.returns
returns c =
    let size : c.len.result ≡ length c.args.out.now.items = (let len = c.len.ensures in let ok = c.args.out.now.ok.0 in omega (arith, len, ok)) in
    put-within c.args.limit c.size-size.result c.field_of.result c.len.result c.saturating_add.result c.args.out.now.items c.put_sized.new.out.items (row_said c.args.self.now) c.requires.small c.size-size.ensures
    c.field_of.ensures size c.saturating_add.ensures c.if-saturating_add-limit.false c.in_ok-put_sized.ensures.ok c.in_ok-put_sized.ensures.fits
