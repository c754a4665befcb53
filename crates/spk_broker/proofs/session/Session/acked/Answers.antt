use Rattle.std.proofs.Common.{◌≡◌, ◌∙◌, ap, sym, length, rules}
use Rattle.spk_session.specs.Data.{Ids}
use Rattle.spk_session.specs.Parts.{ids_after_acked}
use Rattle.spk_broker.specs.Both.{Both}
use Rattle.spk_broker.specs.Entering.{acked, whole}
use Rattle.spk_broker.specs.Sitting.{session_both, session_was}
use Rattle.spk_broker.proofs.Wholes.{acked-whole}
use Rattle.spk_broker.proofs.session.Session.acked.Goals as goal

pub returns : goal.returns
returns c =
    let settled : session_both c.self.inside ≡ whole (session_was c.self.inside) = c.self.view_is ∙ c.requires ∙ ap (λ (b : Both). whole b.was) (sym c.self.view_is) in
    let most : c.len-self-inside.result ≡ length c.drop_in_flight.new.in_flight.items = search rules in
    acked-whole c.self.inside c.args.id (record c.self.inside.ids { value = c.acked.new.self }) c.drop_in_flight.new.in_flight (length c.waiting.result.now) c.last-self-inside.result c.len-self-inside.result settled
    (c.acked.ensures.data ∙ ap (λ (i : Ids). ids_after_acked i c.args.id) c.deref_mut.ensures.value) c.drop_in_flight.ensures (ap length c.waiting.ensures.ids ∙ ap (λ (i : Ids). length i.used) c.deref.ensures) (c.last-self-inside.ensures.value ∙ ap (λ (i : Ids). i.last) c.deref-2.ensures) most
    ∙ ap (λ (b : Both). whole (acked c.args.id b.was)) c.self.view_is
