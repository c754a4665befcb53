use Rattle.std.proofs.Common.{◌∙◌, sym, ap, length}
use Rattle.spk_packets.specs.View.{view}
use Rattle.spk_host_app.specs.Meant.{is_refusal, refuses}
use Rattle.spk_host_app.proofs.Reading.{enough, same_message, whole}
use Rattle.spk_host_app.proofs.meant.refuses.Goals as goal

pub returns-in-Ok-SubAck-default : goal.returns-in-Ok-SubAck-default
returns-in-Ok-SubAck-default c = λ p spells.
    let bytes = c.args.bytes.now in
    let same = same_message p _ (length bytes) _ (c.in-Ok-SubAck-default.ensures.only p (length bytes) (enough bytes) (whole bytes p spells)) in
    c.is_refusal.ensures ∙ ap is_refusal c.deref.ensures.value ∙ sym (ap (λ m. refuses (view m)) c.in-Ok-SubAck-default.field-0-0-is) ∙ ap refuses same
