use Rattle.std.proofs.Common.{string_bytes, false, sym, subst}
use Rattle.spk_broker.specs.Sendable.{IsWritable}
use Rattle.spk_broker.proofs.Sendables.{plain-writable}
use Rattle.spk_broker.proofs.delivery.Delivery.plain.Goals as goal

pub spelled_publish-requires : goal.spelled_publish-requires
spelled_publish-requires c =
    let app_message = c.self.inside.app_message.now in
    subst IsWritable (sym c.as_publish-publish.ensures) (plain-writable (string_bytes app_message.topic) app_message.payload app_message.qos false app_message.sendable)
