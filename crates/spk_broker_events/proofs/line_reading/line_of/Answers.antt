use Rattle.std.proofs.Common.{subst}
use Rattle.std.specs.Option.{option_map}
use Rattle.spk_packets.specs.View.{view}
use Rattle.spk_broker_events.specs.Line.{IsPacket, Kept}
use Rattle.spk_broker_events.proofs.Lines.{no-line-of-code, no-line-of-front, no-line-of-text, says-line}
use Rattle.spk_broker_events.proofs.line_reading.line_of.Goals as goal

pub returns-in_default : goal.returns-in_default
returns-in_default c = no-line-of-code c.args.code c.args.behind.now c.in_default.ensures.none

pub returns-in_default-front_in : goal.returns-in_default-front_in
returns-in_default-front_in c = no-line-of-front c.args.code c.args.behind.now c.in_default-front_in.ensures.none

pub returns-in-Some-2 : goal.returns-in-Some-2
returns-in-Some-2 c =
    let l : Kept = record { kind = c.in-Some.kind; first = c.in-Some-front_in.first; second = c.in-Some-front_in.second; packet = option_map view c.in-Some-2.packet } in
    says-line c.args.code c.args.behind.now l c.in-Some-front_in.rest.now c.in-Some-front_in.ensures.some.0 c.in-Some-front_in.ensures.some.1
    (subst (IsPacket c.in-Some-front_in.rest.now) c.in-Some-2.is c.in_ok-packet.ensures) c.in-Some.ensures.some c.in-Some-front_in.ensures.some.2

pub returns-in-None : goal.returns-in-None
returns-in-None c =
    no-line-of-text c.args.code c.args.behind.now c.in-Some-front_in.first c.in-Some-front_in.second c.in-Some-front_in.rest.now c.in-Some-front_in.ensures.some
    (subst (IsPacket c.in-Some-front_in.rest.now) c.in-None.is c.in_ok-packet.ensures)
