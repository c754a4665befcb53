use Rattle.std.proofs.Common.{length, ap, ◌∙◌}
use Rattle.std.specs.Option.{option_map}
use Rattle.spk_packets.specs.View.{view}
use Rattle.spk_broker_rules.specs.Plan.{Packet}
use Rattle.spk_broker_rules.specs.Step.{step}
use Rattle.spk_broker_notes.specs.Logs.{log_view, settled}
use Rattle.spk_broker_notes.specs.Noted.{Noted, after, bytes_of}
use Rattle.spk_broker_notes.proofs.Noting.{packet-settles}
use Rattle.spk_broker_notes.proofs.broker.NotedBroker.packet.Goals as goal

pub returns-in-Ok-clause-done : goal.returns-in-Ok-clause-done
returns-in-Ok-clause-done c =
    let b = c.self.inside.broker in
    let o = option_map log_view c.self.inside.log in
    let e = Packet c.args.conn (view c.args.packet.now) c.args.now in
    c.settle.ensures
    ∙ ap (λ n. settled c.is_nothing.result n c.tell_packet.new.self) c.len-before.ensures
    ∙ ap (settled c.is_nothing.result (length (bytes_of o)))
    (c.in-Ok.ensures.done ∙ ap {B = Noted} (λ n. record { broker = (step b e).broker; notes = n }) c.in_ok-add_packet.ensures.done)
    ∙ packet-settles b c.args.conn (view c.args.packet.now) c.args.now o c.in-Ok.out.closes.items c.is_nothing.result c.in-Ok.ensures.closes c.is_nothing.ensures
    ∙ ap (after e) c.self.view_is
