use Rattle.std.proofs.Common.{◌≡◌, ◌∙◌, ap, cond, sym, subst, string_bytes, Some, None, true}
use Rattle.spk_packets.specs.View.{view}
use Rattle.spk_broker.specs.Restoring.{is_app_message, message_view}
use Rattle.spk_broker.specs.Sendable.{is_sendable}
use Rattle.spk_broker.proofs.Restores.{app_message-fits, words-fit}
use Rattle.spk_broker.proofs.message.app_message.Goals as goal

pub returns-then-not-is_writable : goal.returns-then-not-is_writable
returns-then-not-is_writable c =
    sym (ap (λ b. cond b (Some (message_view c.args.message)) None)
    (app_message-fits (message_view c.args.message) (view c.publish-packet.result) c.is_writable.result c.publish-packet.ensures c.is_writable.ensures ∙ c.if-not-is_writable.true))

pub invariant_of-result : goal.invariant_of-result
invariant_of-result c =
    let m = message_view c.args.message in
    let fits : is_app_message m ≡ true = app_message-fits m (view c.publish-packet.result) c.is_writable.result c.publish-packet.ensures c.is_writable.ensures ∙ c.if-not-is_writable.false in
    let same = words-fit m (view c.publish-packet.result) (string_bytes c.in_ok-topic.topic) c.in_ok-topic.payload.items c.publish-packet.ensures c.in_ok-topic.ensures in
    record {
      sendable = subst (λ q. is_sendable (string_bytes c.in_ok-topic.topic) q m.qos ≡ true) (sym c.new.ensures)
          (ap (λ t. is_sendable t c.in_ok-topic.payload.items m.qos) same.0 ∙ ap (λ q. is_sendable m.topic q m.qos) same.1 ∙ fits);
    }
