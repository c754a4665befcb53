use Rattle.std.proofs.Common.{◌∙◌, ap, length}
use Rattle.spk_session.specs.Parts.{ids_after_rewind}
use Rattle.spk_broker.proofs.Restores.{taken}
use Rattle.spk_broker.proofs.restored_session.take.Goals as goal

pub returns : goal.returns
returns c =
    taken c.args.ids.now c.rewind.new.self c.sent.new.self (length c.waiting-count.result.now) c.args.id c.sent.result (ap length c.waiting-count.ensures.ids)
    (c.rewind.ensures.data ∙ ap (ids_after_rewind c.args.ids.now (length c.waiting-count.result.now)) c.saturating_sub.ensures) c.sent.ensures.data c.sent.ensures.answer
    c.sent.ensures.next c.requires c.ranges.id.fits
