use Rattle.std.proofs.Common.{refl}
use Rattle.std.proofs.lemmas.Result.{IfOk-weaker}
use Rattle.spk_packets.specs.View.{view}
use Rattle.spk_ingress.specs.declared.frame.Frame.TheVariants as frame
use Rattle.spk_plant_broker.specs.Data.{Says}
use Rattle.spk_plant_broker.specs.Step.{conn_at, packet_on}
use Rattle.spk_plant_broker.proofs.Hubs.{frame_taken}
use Rattle.std.proofs.lemmas.Result.{on_ok_weaker}
use Rattle.spk_plant_broker.proofs.Rings.{rings_noted, rings_opened}
use Rattle.spk_plant_broker.proofs.hub.Hub.packet.Goals as goal

pub returns-clause-taken : goal.returns-clause-taken
returns-clause-taken c =
    IfOk-weaker c.packet.result _ _
    (λ out g. frame_taken c.args.self.now c.note.new.self c.packet.new.self (record { sender = c.args.sender; frame = frame.Packet c.args.whole }) (Says (view c.in-Ok.packet)) c.in_ok-now.now out
    (λ limit now r. packet_on limit now r c.args.sender (view c.in-Ok.packet) (conn_at limit r c.args.sender)) c.in-Ok.ensures.packet refl refl c.in_ok-now.ensures (λ limit edges taken r. refl) g c.packet.ensures.sized)
    c.packet.ensures.done

pub returns-clause-rings : goal.returns-clause-rings
returns-clause-rings c =
    on_ok_weaker c.packet.result
    (λ may. rings_opened c.args.sender c.note.new.self _ (rw c.in_ok-now.ensures.same c.requires.lines) may refl
    (rings_noted _ c.in_ok-now.now c.args.self.now c.note.new.self c.in_ok-now.ensures c.requires.rings))
    c.packet.ensures.openers
