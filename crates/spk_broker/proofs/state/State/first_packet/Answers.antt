use Rattle.std.proofs.Common.{◌≡◌, ℕ, Bool, Global, Option, String, refl, string_bytes, sym, subst}
use Rattle.spk_packets.specs.View.{view, will_view}
use Rattle.spk_packets.specs.declared.packet.Packet.{Packet}
use Rattle.spk_packets.specs.declared.packet.Packet.TheVariants as packets
use Rattle.spk_packets.specs.declared.packet.Will.{Will}
use Rattle.spk_broker_rules.specs.Plan.{Seen, first_packet, shut}
use Rattle.spk_broker_rules.specs.Step.{acts}
use Rattle.spk_broker.specs.declared.packet_end.Ending.TheVariants.{Nothing}
use Rattle.spk_broker.specs.Endings.{Leads}
use Rattle.std.specs.Option.{option_map}
use Rattle.spk_broker.specs.Sendable.{IsWritable}
use Rattle.spk_broker.proofs.Sendables.{wills-sendable}
use Rattle.spk_broker.proofs.Packeted.{leads-plain}
use Rattle.spk_broker.proofs.state.State.first_packet.Goals as goal

-- whatever isn't a CONNECT
shuts : (seen : Seen) (conn : ℕ) (p : Packet) → ((client : String Global) (clean : Bool) (alive : ℕ) (will : Option Will) → p ≡ packets.Connect client clean alive will → ⊥)
    → first_packet seen conn (view p) ≡ shut conn
shuts seen conn (packets.Connect client clean alive will) other = absurd (other client clean alive will refl)
shuts seen conn (packets.ConnAck present code) other = refl
shuts seen conn (packets.Publish dup qos retain topic id payload) other = refl
shuts seen conn (packets.PubAck id) other = refl
shuts seen conn (packets.Subscribe id filters) other = refl
shuts seen conn (packets.SubAck id codes) other = refl
shuts seen conn (packets.Unsubscribe id filters) other = refl
shuts seen conn (packets.UnsubAck id) other = refl
shuts seen conn packets.PingReq other = refl
shuts seen conn packets.PingResp other = refl
shuts seen conn packets.Disconnect other = refl

pub connect-requires-clause-will : goal.connect-requires-clause-will
connect-requires-clause-will c =
    wills-sendable (string_bytes c.in-Connect.client) c.in-Connect.clean c.in-Connect.keep (option_map will_view c.in-Connect.will)
    (subst (λ p. IsWritable (view p)) c.in-Connect.is c.requires.writable)

pub returns-in_default-clause-done : goal.returns-in_default-clause-done
returns-in_default-clause-done c seen t older welcome s =
    subst (λ l. Leads c.shut.new.self c.shut.new.draft Nothing (acts l t)) (sym (shuts seen c.args.conn c.args.packet.now c.in_default.not-Connect))
    (leads-plain c.shut.new.self c.shut.new.draft (acts (shut c.args.conn) t) (c.in_ok-shut.ensures.done t s))
