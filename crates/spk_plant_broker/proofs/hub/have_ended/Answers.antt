use Rattle.std.proofs.Common.{◌≡◌, ◌<◌, ◌∙◌, sym, ap, length, arith}
use Rattle.spk_plant_broker.specs.Step.{have_ended}
use Rattle.spk_plant_broker.proofs.Lines.{ended_at, one_has_not, one_more_has}
use Rattle.spk_plant_broker.proofs.hub.have_ended.Goals as goal

pub returns-then-not-index : goal.returns-then-not-index
returns-then-not-index c firsts dropped got taken fits =
    let below : c.loop-i.i < length c.args.lines.now.items = omega (arith, c.requires, c.loop-i-test.true) in
    sym (one_has_not c.args.count c.loop-i.i taken c.loop-i-test.true
    (sym (ended_at firsts dropped got taken c.args.lines.now.items c.loop-i.i c.index.result.now fits below c.index.ensures) ∙ c.if-not-index.true))

pub loop-i-preserved : goal.loop-i-preserved
loop-i-preserved c firsts dropped got taken fits =
    let below : c.loop-i.i < length c.args.lines.now.items = omega (arith, c.requires, c.loop-i-test.true) in
    one_more_has c.loop-i.i taken (c.loop-i.invariant firsts dropped got taken fits)
    (sym (ended_at firsts dropped got taken c.args.lines.now.items c.loop-i.i c.index.result.now fits below c.index.ensures) ∙ c.if-not-index.false)

pub returns : goal.returns
returns c firsts dropped got taken fits =
    let all : c.loop-i.i ≡ c.args.count = omega (arith, c.loop-i-test.false, c.loop-i.auto.i-end) in
    sym (ap (λ n. have_ended n taken) (sym all) ∙ c.loop-i.invariant firsts dropped got taken fits)
