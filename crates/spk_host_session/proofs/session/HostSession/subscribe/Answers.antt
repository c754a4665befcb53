use Rattle.std.proofs.Common.{subst, sym}
use Rattle.spk_host_session.specs.Packets.{IsWritable}
use Rattle.spk_host_session.specs.View.{config_view}
use Rattle.spk_host_session.proofs.Writable.{subscribe_writable}
use Rattle.spk_host_session.proofs.session.HostSession.subscribe.Goals as goal

pub written-requires : goal.written-requires
written-requires c = subst IsWritable (sym c.in_ok-packet.ensures) (subscribe_writable (config_view c.self.inside.config) c.self.invariant)
