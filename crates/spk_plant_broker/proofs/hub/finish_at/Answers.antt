use Rattle.std.proofs.Common.{◌<◌, ◌≤◌, length, arith}
use Rattle.spk_plant_broker.proofs.Lines.{finished_at, finished_past}
use Rattle.spk_plant_broker.proofs.hub.finish_at.Goals as goal

pub returns-then-client-len-clause-fits : goal.returns-then-client-len-clause-fits
returns-then-client-len-clause-fits c firsts dropped got taken fits =
    let below : c.args.client < length c.args.lines.now.items = omega (arith, c.if-client-len.true, c.len.ensures, c.args.lines.now.ok.0) in
    finished_at firsts dropped got taken c.args.lines.now.items c.args.client c.index_mut.result.now c.finish.new.self fits below c.index_mut.ensures.value c.finish.ensures

pub returns-else-client-len-clause-fits : goal.returns-else-client-len-clause-fits
returns-else-client-len-clause-fits c firsts dropped got taken fits =
    let past : length c.args.lines.now.items ≤ c.args.client = omega (arith, c.if-client-len.false, c.len.ensures, c.args.lines.now.ok.0) in
    finished_past firsts dropped got taken c.args.lines.now.items c.args.client past fits
