use Rattle.std.proofs.Common.{subst, sym, arith}
use Rattle.spk_host_session.specs.Packets.{IsWritable}
use Rattle.spk_host_session.specs.View.{config_view}
use Rattle.spk_host_session.proofs.Writable.{connect_writable}
use Rattle.spk_host_session.proofs.session.HostSession.connect.Goals as goal

pub written-requires : goal.written-requires
written-requires c = subst IsWritable (sym c.in_ok-packet.ensures) (connect_writable (config_view c.self.inside.config) c.args.now c.self.invariant (omega (arith, c.ranges.now)))
