use Rattle.std.proofs.Common.{string_bytes}
use Rattle.spk_broker.proofs.Sendables.{lower}
use Rattle.spk_broker.proofs.app_message.AppMessage.copied.Goals as goal

pub sharing-requires : goal.sharing-requires
sharing-requires c =
    let app_message = c.args.self.now in
    lower (string_bytes app_message.topic) app_message.payload app_message.qos c.args.qos app_message.sendable c.requires
