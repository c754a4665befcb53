use Rattle.std.proofs.Common.{refl}
use Rattle.spk_sequence.specs.declared.message.Kind.TheVariants.{Birth}
use Rattle.spk_sequence.specs.Calls.{Hand}
use Rattle.spk_sequence.specs.Numbers.{held_count}
use Rattle.spk_sequence.specs.Losses.{Called}
use Rattle.spk_sequence.proofs.LossCalls.{unborn_loss, born_loss, born_none, born_some}
use Rattle.spk_sequence.proofs.sequence.Sequence.birth_loss.Goals as goal

pub returns-in_default : goal.returns-in_default
returns-in_default c =
    unborn_loss c.args.self.now c.copied-after.result c.args.number c.args.stamp c.args.bd c.args.now c.hand_birth.result c.copied-after.ensures c.hand_birth.ensures.step c.in_default.not-Consumed

pub overflow_sub-held-2 : goal.overflow_sub-held-2
overflow_sub-held-2 c =
    (born_loss c.args.self.now c.copied-after.result c.hand_birth.new.self c.args.number c.args.stamp c.args.bd c.args.now c.in-Consumed.count c.held.result (held_count c.hand_birth.new.self.held) c.hand_birth.result
    c.ranges.number.fits c.copied-after.ensures c.held.ensures.whole c.in-Consumed.is c.hand_birth.ensures.step c.hand_birth.ensures.data c.held.ensures.count refl).few

pub overflow_sub-held-3 : goal.overflow_sub-held-3
overflow_sub-held-3 c =
    (born_loss c.args.self.now c.copied-after.result c.hand_birth.new.self c.args.number c.args.stamp c.args.bd c.args.now c.in-Consumed.count c.held.result c.held-2.result c.hand_birth.result
    c.ranges.number.fits c.copied-after.ensures c.held.ensures.whole c.in-Consumed.is c.hand_birth.ensures.step c.hand_birth.ensures.data c.held.ensures.count c.held-2.ensures.count).rest

pub returns-then-held-eq0 : goal.returns-then-held-eq0
returns-then-held-eq0 c =
    born_none c.args.self.now (Called (Hand c.args.number (Birth c.args.stamp c.args.bd) c.args.now)) c.in-Consumed.count c.held.result c.held-2.result
    (born_loss c.args.self.now c.copied-after.result c.hand_birth.new.self c.args.number c.args.stamp c.args.bd c.args.now c.in-Consumed.count c.held.result c.held-2.result c.hand_birth.result
    c.ranges.number.fits c.copied-after.ensures c.held.ensures.whole c.in-Consumed.is c.hand_birth.ensures.step c.hand_birth.ensures.data c.held.ensures.count c.held-2.ensures.count)
    c.if-held-eq0.true

pub returns : goal.returns
returns c =
    born_some c.args.self.now (Called (Hand c.args.number (Birth c.args.stamp c.args.bd) c.args.now)) c.in-Consumed.count c.held.result c.held-2.result c.missing.result
    (born_loss c.args.self.now c.copied-after.result c.hand_birth.new.self c.args.number c.args.stamp c.args.bd c.args.now c.in-Consumed.count c.held.result c.held-2.result c.hand_birth.result
    c.ranges.number.fits c.copied-after.ensures c.held.ensures.whole c.in-Consumed.is c.hand_birth.ensures.step c.hand_birth.ensures.data c.held.ensures.count c.held-2.ensures.count)
    c.if-held-eq0.false c.missing.ensures.value
