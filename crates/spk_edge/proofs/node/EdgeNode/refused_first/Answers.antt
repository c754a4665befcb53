use Rattle.std.proofs.Common.{◌∙◌, sym}
use Rattle.spk_edge_rules.specs.Rules.{refused_first}
use Rattle.spk_edge.specs.Several.{pair_view, pairs}
use Rattle.spk_edge.proofs.Sets.{at-pair, fault-here, fault-more}
use Rattle.spk_edge.proofs.node.EdgeNode.refused_first.Goals as goal

pub returns-in-Some : goal.returns-in-Some
returns-in-Some c =
    let b = c.args.self.now.standing.asked.book in
    let x = c.index-changes-place.result in
    fault-here b c.owner_of-owner.result (pairs c.args.changes.now) c.loop-place.place (pair_view x) c.in-Some.fault (refused_first b (pairs c.args.changes.now))
    (at-pair c.args.changes.now c.loop-place.place x c.loop-place-test.true c.index-changes-place.is) (sym c.change_fault.ensures ∙ c.in-Some.is) c.loop-place.invariant

pub loop-place-preserved : goal.loop-place-preserved
loop-place-preserved c =
    let b = c.args.self.now.standing.asked.book in
    let x = c.index-changes-place.result in
    fault-more b c.owner_of-owner.result (pairs c.args.changes.now) c.loop-place.place (pair_view x) (refused_first b (pairs c.args.changes.now))
    (at-pair c.args.changes.now c.loop-place.place x c.loop-place-test.true c.index-changes-place.is) (sym c.change_fault.ensures ∙ c.in_default.is) c.loop-place.invariant
