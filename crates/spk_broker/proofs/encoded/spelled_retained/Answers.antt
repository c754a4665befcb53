use Rattle.std.proofs.Common.{None, false, string_bytes, subst, sym, true}
use Rattle.spk_packets.specs.Message.{Publish}
use Rattle.spk_broker.specs.Sendable.{IsWritable}
use Rattle.spk_broker.proofs.Sendables.{plain-writable}
use Rattle.spk_broker.proofs.encoded.spelled_retained.Goals as goal

pub spelled_publish-requires : goal.spelled_publish-requires
spelled_publish-requires c =
    let stored = c.args.stored.now in
    subst (λ t. IsWritable (Publish false 0 true t None c.as_slice.result.now)) (sym c.as_str.ensures.value)
    (subst (λ p. IsWritable (Publish false 0 true (string_bytes c.args.topic.now) None p)) (sym c.as_slice.ensures)
    (plain-writable (string_bytes c.args.topic.now) stored.payload stored.qos true c.requires))
