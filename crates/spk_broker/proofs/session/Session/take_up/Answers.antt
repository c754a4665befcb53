use Rattle.std.proofs.Common.{◌≡◌, ◌∙◌, ap, map, sym, length, rules}
use Rattle.std.proofs.lemmas.List.{with_items_is}
use Rattle.std.specs.Vec.{with_items}
use Rattle.spk_session.specs.Data.{Ids}
use Rattle.spk_broker_rules.specs.Words.{handed_out}
use Rattle.spk_broker.specs.Both.{Both}
use Rattle.spk_broker.specs.Entering.{taken_up, whole}
use Rattle.spk_broker.specs.Parts.{in_flight_view, connection_now}
use Rattle.spk_broker.specs.Sitting.{session_both, session_was}
use Rattle.spk_broker.proofs.Wholes.{taken-whole}
use Rattle.spk_broker.proofs.session.Session.take_up.Goals as goal

pub returns : goal.returns
returns c =
    let settled : session_both c.self.inside ≡ whole (session_was c.self.inside) = c.self.view_is ∙ c.requires.settled ∙ ap (λ (b : Both). whole b.was) (sym c.self.view_is) in
    let len : length c.hand_out.new.in_flight ≡ c.self.inside.in_flight.len = search rules in
    let same : (with_items c.self.inside.in_flight c.hand_out.new.in_flight).items ≡ c.hand_out.new.in_flight = with_items_is c.self.inside.in_flight c.hand_out.new.in_flight len in
    let most : c.len-self-inside.result ≡ length (with_items c.self.inside.in_flight c.hand_out.new.in_flight).items = c.len-self-inside.ensures ∙ sym len ∙ ap length (sym same) in
    let handed : map in_flight_view (with_items c.self.inside.in_flight c.hand_out.new.in_flight).items ≡ map handed_out (map in_flight_view c.self.inside.in_flight.items) =
    ap (map in_flight_view) same ∙ c.hand_out.ensures ∙ ap (λ xs. map handed_out (map in_flight_view xs)) c.deref_mut.ensures.value in
    taken-whole c.self.inside c.args.connection (with_items c.self.inside.in_flight c.hand_out.new.in_flight) (length c.waiting.result.now) c.last-self-inside.result c.len-self-inside.result settled
    c.requires.connection handed (ap length c.waiting.ensures.ids ∙ ap (λ (i : Ids). length i.used) c.deref.ensures) (c.last-self-inside.ensures.value ∙ ap (λ (i : Ids). i.last) c.deref-2.ensures) most
    ∙ ap (λ (b : Both). whole (taken_up (connection_now c.args.connection) b.was)) c.self.view_is
