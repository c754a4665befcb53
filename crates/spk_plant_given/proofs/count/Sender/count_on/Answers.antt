use Rattle.std.proofs.Common.{◌<◌, arith, length}
use Rattle.spk_plant_relay.specs.Topics.{is_numbered_topic}
use Rattle.spk_plant_given.proofs.Counting.{index-more, taken-more, taken-other}
use Rattle.spk_plant_given.proofs.count.Sender.count_on.Goals as goal

pub loop-at-preserved-then-not-branch : goal.loop-at-preserved-then-not-branch
loop-at-preserved-then-not-branch c =
    let low = c.loop-at.invariant.0 in
    let below : c.loop-at.at < length c.args.taken.now = omega arith in (
      omega (arith, low),
      taken-other (is_numbered_topic c.args.self.group.now c.args.self.name.now) c.args.self.place c.args.taken.now c.loop-at.at c.loop-at.numbered c.index-taken-at.result
          (index-more c.args.taken.now c.loop-at.at c.index-taken-at.result below c.index-taken-at.is)
          (c.in_ok-is_numbered.ensures.no c.if-not-branch.true) c.loop-at.invariant.1,
    )

pub loop-at-preserved : goal.loop-at-preserved
loop-at-preserved c =
    let low = c.loop-at.invariant.0 in
    let below : c.loop-at.at < length c.args.taken.now = omega arith in (
      omega (arith, low),
      taken-more (is_numbered_topic c.args.self.group.now c.args.self.name.now) c.args.self.place c.args.taken.now c.loop-at.at c.loop-at.numbered c.index-taken-at.result
          (index-more c.args.taken.now c.loop-at.at c.index-taken-at.result below c.index-taken-at.is)
          (c.in_ok-is_numbered.ensures.yes c.if-not-branch.false) c.loop-at.invariant.1,
    )
