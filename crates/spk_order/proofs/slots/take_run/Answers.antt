use Rattle.std.proofs.Common.{◌-◌, ◌<◌, ◌≤◌, arith, length, ◌∙◌, ap, length-set, map}
use Rattle.spk_order.proofs.Runs.{taken_more, others_more, next_slot, same_count}
use Rattle.spk_order.proofs.slots.take_run.Goals as goal

pub loop-distance-preserved : goal.loop-distance-preserved
loop-distance-preserved g c =
    let some : 0 < c.loop-distance.distance = omega arith in
    let byte : c.args.number < 256 = omega arith in
    let few : c.loop-distance.distance < 256 = omega arith in (
      ap length c.take_one.ensures.after ∙ length-set _ _ _ ∙ c.loop-distance.invariant.0,
      omega arith,
      ap (map _) c.push_reserved.ensures.items ∙ taken_more c.loop-distance.consumed.items c.args.consumed.now.items c.take_one.result _ c.loop-distance.distance some c.loop-distance.invariant.2 (c.take_one.ensures.value ∙ next_slot c.loop-distance.slots.items c.args.slots.now.items c.args.number c.loop-distance.distance byte few c.loop-distance.invariant.3),
      rw c.take_one.ensures.after (others_more c.loop-distance.slots.items c.args.slots.now.items c.args.number c.loop-distance.distance byte few some c.loop-distance.invariant.3),
      omega arith,
    )

pub returns-clause-taken : goal.returns-clause-taken
returns-clause-taken g c =
    let bound : c.loop-distance.distance - 1 ≤ c.args.count - 1 = c.loop-distance.invariant.4 in
    c.loop-distance.invariant.2 ∙ same_count c.args.consumed.now.items _ c.loop-distance.distance c.args.count (omega arith)

pub returns-clause-others : goal.returns-clause-others
returns-clause-others g c =
    let bound : c.loop-distance.distance - 1 ≤ c.args.count - 1 = c.loop-distance.invariant.4 in
    λ x byte further. c.loop-distance.invariant.3 x byte (λ positive. omega (arith, further positive))
