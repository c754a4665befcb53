use Rattle.std.proofs.Common.{◌≡◌, ◌∙◌, ap, get_or, map, set, sym, true}
use Rattle.std.proofs.lemmas.List.Edits.{map_over_more}
use Rattle.spk_broker.specs.Parts.{in_flight_view}
use Rattle.spk_broker.specs.declared.session.InFlight.{InFlight}
use Rattle.spk_broker.proofs.Entered.{handed-all, mapped-all, out_of_hand}
use Rattle.spk_broker.specs.Sendable.{is_numbered}
use Rattle.spk_broker.proofs.accept.hand_out.Goals as goal
use denote.Struct.Props.{props}

-- what a message in flight says of its number, it says in one way
alike : (x : InFlight) (h : is_numbered x.app_message.qos x.id ≡ true) → record x { handed = true; numbered = h } ≡ out_of_hand x
alike x h =
    let once : IsProp (is_numbered x.app_message.qos x.id ≡ true) = hlevel props in
    ap (λ k. record x { handed = true; numbered = k }) (once h x.numbered)

pub loop-message-preserved : goal.loop-message-preserved
loop-message-preserved c =
    let item = get_or c.loop-message.in_flight c.loop-message.message-index c.message-item.result in
    ap (λ (x : InFlight). set c.loop-message.in_flight c.loop-message.message-index x) (alike item c.message-1.given.0)
    ∙ ap (λ (x : InFlight). set c.loop-message.in_flight c.loop-message.message-index (out_of_hand x)) (sym c.message-item.is)
    ∙ map_over_more out_of_hand c.args.in_flight.now c.loop-message.in_flight c.loop-message.message-index c.message-item.result c.loop-message-test.true c.loop-message.invariant c.message-item.is

pub returns : goal.returns
returns c = ap (map in_flight_view) (c.loop-message.invariant ∙ mapped-all out_of_hand c.args.in_flight.now c.loop-message.message-index c.loop-message-test.false) ∙ handed-all c.args.in_flight.now
