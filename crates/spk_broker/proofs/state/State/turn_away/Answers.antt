use Rattle.std.proofs.Common.{false}
use Rattle.spk_packets.specs.Message.{ConnAck}
use Rattle.spk_broker.proofs.Sendables.{connack-writable}
use Rattle.spk_broker.proofs.Standing.{say-stands}
use Rattle.spk_broker.proofs.state.State.turn_away.Goals as goal

pub say-requires : goal.say-requires
say-requires c = connack-writable false c.args.code c.requires

pub returns-clause-done : goal.returns-clause-done
returns-clause-done c t s =
    c.in_ok-shut.ensures.done _ (say-stands c.args.self.now c.args.draft.now c.say.new.self t (record { conn = c.args.conn; packet = ConnAck false c.args.code }) c.in_ok-say.ensures s)
