use Rattle.std.proofs.Common.{subst, string_bytes}
use Rattle.spk_packets.specs.View.{view}
use Rattle.spk_broker.specs.Sendable.{IsWritable}
use Rattle.spk_broker.proofs.Sendables.{ids-of, publish-sendable}
use Rattle.spk_broker.proofs.state.State.further_packet.Goals as goal

pub of-requires : goal.of-requires
of-requires c =
    publish-sendable c.in-Publish.dup c.in-Publish.retain c.in-Publish.qos (string_bytes c.in-Publish.topic) c.in-Publish.payload.items c.in-Publish.id
    (subst (λ p. IsWritable (view p)) c.in-Publish.is c.requires.writable)

pub publish-requires-clause-id : goal.publish-requires-clause-id
publish-requires-clause-id c =
    ids-of c.in-Publish.dup c.in-Publish.retain c.in-Publish.qos c.in-Publish.id (string_bytes c.in-Publish.topic) c.in-Publish.payload.items
    (subst (λ p. IsWritable (view p)) c.in-Publish.is c.requires.writable)
