use Rattle.std.proofs.Common.{subst, sym, arith}
use Rattle.spk_host_session.specs.Packets.{IsWritable}
use Rattle.spk_host_session.specs.View.{config_view}
use Rattle.spk_host_session.proofs.Writable.{state_writable}
use Rattle.spk_host_session.proofs.session.HostSession.state.Goals as goal

pub written-requires : goal.written-requires
written-requires c = subst IsWritable (sym c.in_ok-packet.ensures) (state_writable (config_view c.self.inside.config) c.args.id (record { online = c.args.online; timestamp = c.args.timestamp }) c.self.invariant (omega (arith, c.ranges.timestamp)) c.requires)
