use Rattle.std.proofs.Common.{string_bytes}
use Rattle.spk_broker.proofs.Sendables.{plain-writable}
use Rattle.spk_broker.proofs.session.Session.hand_plain.Goals as goal

pub spelled-requires : goal.spelled-requires
spelled-requires c =
    let app_message = c.args.app_message.now in
    plain-writable (string_bytes app_message.topic) app_message.payload app_message.qos c.args.retain app_message.sendable
