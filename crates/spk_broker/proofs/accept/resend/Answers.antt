use Rattle.std.proofs.Common.{string_bytes}
use Rattle.spk_broker.proofs.Sendables.{message-writable}
use Rattle.spk_broker.proofs.accept.resend.Goals as goal

pub spelled-requires : goal.spelled-requires
spelled-requires c =
    let message = c.args.message.now in
    let app_message = message.app_message in
    message-writable (string_bytes app_message.topic) app_message.payload app_message.qos message.id message.handed app_message.retain app_message.sendable message.numbered
