use Rattle.std.proofs.Common.{◌≡◌, ◌∙◌, sym, arith}
use Rattle.std.proofs.lemmas.Result.{IfOk-weaker}
use Rattle.spk_packets.specs.View.{view}
use Rattle.spk_plant_relay.specs.Topics.{is_numbered_topic}
use Rattle.spk_plant_given.proofs.Counting.{no-frame, yes-frame}
use Rattle.spk_plant_given.proofs.count.Sender.is_numbered.Goals as goal

pub returns-clause-yes : goal.returns-clause-yes
returns-clause-yes c =
    let own : c.args.message.now.sender ≡ c.args.self.place = omega arith in
    IfOk-weaker c.is_said.result _ _
    (λ b said. λ told. yes-frame (is_numbered_topic c.args.self.group.now c.args.self.name.now) c.args.self.place c.args.message.now c.in-Packet.whole (view c.in-Ok.packet) own c.in-Packet.is
    c.in-Ok.ensures.packet (sym said ∙ told))
    c.is_said.ensures

pub returns-clause-no : goal.returns-clause-no
returns-clause-no c =
    IfOk-weaker c.is_said.result _ _
    (λ b said. λ not. no-frame c.prefix_free.ensures (is_numbered_topic c.args.self.group.now c.args.self.name.now) c.args.self.place c.args.message.now c.in-Packet.whole (view c.in-Ok.packet)
    c.in-Packet.is c.in-Ok.ensures.packet (sym said ∙ not))
    c.is_said.ensures
