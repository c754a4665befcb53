use Rattle.std.proofs.Common.{◌∙◌, subst, sym}
use Rattle.spk_host_session.specs.Packets.{IsWritable}
use Rattle.spk_host_session.proofs.Writable.{rebirth_writable}
use Rattle.spk_host_session.proofs.requests.rebirth.Goals as goal

pub written-requires : goal.written-requires
written-requires c = subst IsWritable (sym c.in_ok-packet.ensures) (rebirth_writable c.args.group.now c.args.node.now c.args.now (sym c.is_address.ensures ∙ c.if-not-is_address.false))
