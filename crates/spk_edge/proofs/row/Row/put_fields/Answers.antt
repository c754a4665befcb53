use Rattle.std.proofs.Common.{◌<◌, ◌^◌, length, arith}
use Rattle.spk_edge.proofs.Rows.{fields, row-fits}
use Rattle.spk_edge.proofs.row.Row.put_fields.Goals as goal

pub returns-clause-ok : goal.returns-clause-ok
returns-clause-ok c =
    fields c.put_value.result c.args.self.now c.args.out.now.items c.put_name.new.out.items c.put_long.new.out.items c.put_field.new.out.items c.put_int.new.out.items c.put_flag.new.out.items c.put_flag-2.new.out.items
    c.put_value.new.out.items c.in_ok-put_name.ensures.ok c.in_ok-put_long.ensures.ok c.in_ok-put_field.ensures.ok c.in_ok-put_int.ensures.ok c.in_ok-put_flag.ensures c.in_ok-put_flag-2.ensures c.put_value.ensures.ok

pub returns-clause-fits : goal.returns-clause-fits
returns-clause-fits c =
    let new = c.put_value.new.out in
    let small = new.small in
    let len = new.ok.0 in
    let room = new.ok.1 in
    let short : length new.items < 2 ^ 64 = omega (arith, small, len, room) in
    row-fits c.put_value.result c.args.self.now c.args.out.now.items new.items c.in_ok-put_name.ensures.fits c.in_ok-put_long.ensures.fits c.in_ok-put_field.ensures.fits c.in_ok-put_int.ensures.fits short c.put_value.ensures.fits
    (fields c.put_value.result c.args.self.now c.args.out.now.items c.put_name.new.out.items c.put_long.new.out.items c.put_field.new.out.items c.put_int.new.out.items c.put_flag.new.out.items c.put_flag-2.new.out.items
    new.items c.in_ok-put_name.ensures.ok c.in_ok-put_long.ensures.ok c.in_ok-put_field.ensures.ok c.in_ok-put_int.ensures.ok c.in_ok-put_flag.ensures c.in_ok-put_flag-2.ensures c.put_value.ensures.ok)
