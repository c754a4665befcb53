use Rattle.std.proofs.Common.{false, string_bytes, subst}
use Rattle.std.specs.Prelude.{◌≡◌, true}
use Rattle.spk_broker.specs.Sendable.{is_sendable}
use Rattle.spk_broker.proofs.Sendables.{id-some, numbered-writable}
use Rattle.spk_broker.proofs.session.Session.hand_numbered.Goals as goal

pub spelled-requires : goal.spelled-requires
spelled-requires c =
    let app_message = c.args.app_message.now in
    numbered-writable (string_bytes app_message.topic) app_message.payload false c.args.retain c.in-Ok.id
    (subst (λ q. is_sendable (string_bytes app_message.topic) app_message.payload q ≡ true) c.requires.full app_message.sendable) (id-some c.in-Ok.id c.in-Ok.ensures.next.low)
