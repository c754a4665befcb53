use Rattle.std.proofs.Common.{◌≡◌, ◌∙◌, ℕ, true, sym, ap, subst, map, refl, string_bytes, String, Vec, Global}
use Rattle.spk_packets.specs.View.{request_view, view}
use Rattle.spk_packets.specs.declared.packet.Packet.{Packet}
use Rattle.spk_packets.specs.declared.packet.Packet.TheVariants as packets
use Rattle.spk_packets.specs.declared.packet.Request.{Request}
use Rattle.spk_packets.specs.Message.{PingResp}
use Rattle.spk_broker_rules.specs.Plan.{Seen, entries_in, next_packet, shut, subscribe, unsubscribe}
use Rattle.spk_broker_rules.specs.Step.{acts, heavy_in}
use Rattle.spk_broker.specs.Endings.{Leads}
use Rattle.spk_broker.specs.Plain.{is_plain}
use Rattle.spk_broker.specs.declared.packet_end.Ending.TheVariants.{One}
use Rattle.spk_broker.proofs.Packeted.{leads-one}
use Rattle.spk_broker.proofs.Sendables.{pingresp-writable}
use Rattle.spk_broker.proofs.Standing.{say-stands}
use Rattle.spk_broker.proofs.state.State.next_packet.Goals as goal

-- whatever else is neither a PUBLISH nor a PUBACK
shuts : (seen : Seen) (conn : ℕ) (p : Packet) → is_plain (view p) ≡ true
    → ((id : ℕ) (filters : Vec Request Global) → p ≡ packets.Subscribe id filters → ⊥) → ((id : ℕ) (filters : Vec (String Global) Global) → p ≡ packets.Unsubscribe id filters → ⊥)
    → (p ≡ packets.PingReq → ⊥) → (p ≡ packets.Disconnect → ⊥) → next_packet seen conn (view p) ≡ shut conn
shuts seen conn (packets.Connect client clean alive will) plain s u q d = refl
shuts seen conn (packets.ConnAck present code) plain s u q d = refl
shuts seen conn (packets.Publish dup qos retain topic id payload) plain s u q d = cc
shuts seen conn (packets.PubAck id) plain s u q d = cc
shuts seen conn (packets.Subscribe id filters) plain s u q d = absurd (s id filters refl)
shuts seen conn (packets.SubAck id codes) plain s u q d = refl
shuts seen conn (packets.Unsubscribe id filters) plain s u q d = absurd (u id filters refl)
shuts seen conn (packets.UnsubAck id) plain s u q d = refl
shuts seen conn packets.PingReq plain s u q d = absurd (q refl)
shuts seen conn packets.PingResp plain s u q d = refl
shuts seen conn packets.Disconnect plain s u q d = absurd (d refl)

pub say-requires : goal.say-requires
say-requires c = pingresp-writable

pub returns-in_ok-ending-in-Unsubscribe-clause-done : goal.returns-in_ok-ending-in-Unsubscribe-clause-done
returns-in_ok-ending-in-Unsubscribe-clause-done c seen t heavy s =
    subst (λ p. Leads c.unsubscribe.new.self c.unsubscribe.new.draft c.in_ok-ending-in-Unsubscribe.ending (acts (next_packet seen c.args.conn (view p)) t)) (sym c.in-Unsubscribe.is)
    (subst (λ l. Leads c.unsubscribe.new.self c.unsubscribe.new.draft c.in_ok-ending-in-Unsubscribe.ending (acts (unsubscribe c.args.conn c.in-Unsubscribe.id (map (λ name. string_bytes name) l)) t)) c.deref-in-Unsubscribe.ensures.value
    (c.in_ok-ending-in-Unsubscribe.ensures.done t s))

pub returns-in_ok-ending-in-Subscribe-clause-done : goal.returns-in_ok-ending-in-Subscribe-clause-done
returns-in_ok-ending-in-Subscribe-clause-done c seen t heavy s =
    subst (λ p. Leads c.subscribe.new.self c.subscribe.new.draft c.in_ok-ending-in-Subscribe.ending (acts (next_packet seen c.args.conn (view p)) t)) (sym c.in-Subscribe.is)
    (subst (λ l. Leads c.subscribe.new.self c.subscribe.new.draft c.in_ok-ending-in-Subscribe.ending (acts (subscribe seen c.args.conn c.in-Subscribe.id (map request_view l)) t)) c.deref.ensures.value
    (c.in_ok-ending-in-Subscribe.ensures.done seen t
    (heavy ∙ ap (λ p. heavy_in c.args.conn (entries_in (view p)) t.broker) c.in-Subscribe.is ∙ ap (λ l. heavy_in c.args.conn (map request_view l) t.broker) (sym c.deref.ensures.value)) s))

pub returns-in_ok-say-in-PingReq-clause-done : goal.returns-in_ok-say-in-PingReq-clause-done
returns-in_ok-say-in-PingReq-clause-done c seen t heavy s =
    subst (λ p. Leads c.args.self.now c.say.new.self (One c.args.place) (acts (next_packet seen c.args.conn (view p)) t)) (sym c.in-PingReq.is)
    (leads-one c.args.self.now c.say.new.self _ c.args.place
    (say-stands c.args.self.now c.args.draft.now c.say.new.self t (record { conn = c.args.conn; packet = PingResp }) c.in_ok-say-in-PingReq.ensures s))

pub returns-in_ok-ending-in_default-clause-done : goal.returns-in_ok-ending-in_default-clause-done
returns-in_ok-ending-in_default-clause-done c seen t heavy s =
    subst (λ l. Leads c.shut_at.new.self c.shut_at.new.draft c.in_ok-ending-in_default.ending (acts l t))
    (sym (shuts seen c.args.conn c.args.packet.now c.requires.plain c.in_default.not-Subscribe c.in_default.not-Unsubscribe c.in_default.not-PingReq c.in_default.not-Disconnect))
    (c.in_ok-ending-in_default.ensures.done t s)
