use Rattle.std.proofs.Common.{◌∙◌, ap, length}
use Rattle.spk_host_app.specs.Meant.{id_in, topic_in}
use Rattle.spk_host_app.proofs.Reading.{enough, same_message, whole}
use Rattle.spk_host_app.proofs.meant.refused.Goals as goal

pub returns-in_ok-from_str-in-Ok : goal.returns-in_ok-from_str-in-Ok
returns-in_ok-from_str-in-Ok c = λ p spells is.
    let bytes = c.args.bytes.now in
    let same = same_message p _ (length bytes) _ (c.in-Ok.ensures.only p (length bytes) (enough bytes) (whole bytes p spells)) in
    (record { why = c.args.fault; is = is; same = c.fault_of.ensures }, c.in_ok-from_str-in-Ok.ensures.ok ∙ ap topic_in same, ap id_in same)
