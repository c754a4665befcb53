use Rattle.std.proofs.Common.{◌∷◌, [], length, get_or, sym, ap, ◌∙◌}
use Rattle.spk_broker_events.proofs.Saying.{fault-not, fault-said, nothing-fault, one-there}
use Rattle.spk_broker_events.proofs.reading.fault.Goals as goal

pub returns-in_default : goal.returns-in_default
returns-in_default c = nothing-fault c.args.bytes.now (λ conn moment why a b is. c.in_default.ensures.none conn moment _ a b is)

pub returns-then-rest-ne1 : goal.returns-then-rest-ne1
returns-then-rest-ne1 c = fault-not c.args.bytes.now c.in-Some.conn c.in-Some.moment c.in-Some.rest.now c.in-Some.ensures.some
    (λ why is. c.if-rest-ne1.true (ap length is))

pub returns-in_default-fault_of : goal.returns-in_default-fault_of
returns-in_default-fault_of c = fault-not c.args.bytes.now c.in-Some.conn c.in-Some.moment c.in-Some.rest.now c.in-Some.ensures.some
    (λ why is. c.in_default-fault_of.ensures.none why (sym (ap (λ t. get_or t 0 0) is)))

pub returns : goal.returns
returns c = fault-said c.args.bytes.now c.in-Some.conn c.in-Some.moment c.in-Some.rest.now c.in-Some.ensures.some c.in-Some-fault_of.fault
    (one-there c.in-Some.rest.now c.if-rest-ne1.false ∙ ap (λ n. n ∷ []) (sym c.in-Some-fault_of.ensures.some))
