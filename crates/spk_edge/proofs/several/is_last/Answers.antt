use Rattle.std.proofs.Common.{take}
use Rattle.std.specs.Option.{option_map}
use Rattle.spk_payload.specs.Typing.{typed_view}
use Rattle.spk_edge.specs.Several.{pair_view, pairs}
use Rattle.spk_edge.proofs.Sets.{last-same, pairs-more}
use Rattle.spk_edge.proofs.several.is_last.Goals as goal

pub loop-change-preserved : goal.loop-change-preserved
loop-change-preserved c =
    let i = c.loop-change.change-index in
    let x = c.change-item.result in
    last-same (pairs (take i c.args.changes.now)) _ (pair_view x) c.args.alias (option_map typed_view c.args.before.now) (option_map typed_view c.args.value.now) c.loop-change.same _
    (pairs-more c.args.changes.now i x c.loop-change-test.true c.change-item.is) c.loop-change.invariant c.is_last_by-same.ensures
