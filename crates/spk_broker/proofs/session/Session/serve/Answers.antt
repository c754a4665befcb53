use Rattle.std.proofs.Common.{◌∙◌, string_bytes, sym}
use Rattle.spk_broker.proofs.Sendables.{level-one, sendable-low}
use Rattle.spk_broker.proofs.session.Session.serve.Goals as goal

pub hand_numbered-requires-clause-one : goal.hand_numbered-requires-clause-one
hand_numbered-requires-clause-one c =
    let app_message = c.app_message-app_message.result.now in
    (level-one app_message.qos c.in-Some.qos c.best.result (sendable-low (string_bytes app_message.topic) app_message.payload app_message.qos app_message.sendable)
    (sym c.level.ensures ∙ c.in-Some.is) c.in-Some.qos-test.1).0

pub hand_numbered-requires-clause-full : goal.hand_numbered-requires-clause-full
hand_numbered-requires-clause-full c =
    let app_message = c.app_message-app_message.result.now in
    (level-one app_message.qos c.in-Some.qos c.best.result (sendable-low (string_bytes app_message.topic) app_message.payload app_message.qos app_message.sendable)
    (sym c.level.ensures ∙ c.in-Some.is) c.in-Some.qos-test.1).1
