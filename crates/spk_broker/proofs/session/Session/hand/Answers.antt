use Rattle.std.proofs.Common.{string_bytes}
use Rattle.spk_broker.proofs.Sendables.{one-of}
use Rattle.spk_broker.proofs.session.Session.hand.Goals as goal

pub hand_numbered-requires-clause-one : goal.hand_numbered-requires-clause-one
hand_numbered-requires-clause-one c =
    let app_message = c.args.app_message.now in
    one-of (string_bytes app_message.topic) app_message.payload app_message.qos app_message.sendable c.if-app_message-eq0.false

pub hand_numbered-requires-clause-full : goal.hand_numbered-requires-clause-full
hand_numbered-requires-clause-full c =
    let app_message = c.args.app_message.now in
    one-of (string_bytes app_message.topic) app_message.payload app_message.qos app_message.sendable c.if-app_message-eq0.false
