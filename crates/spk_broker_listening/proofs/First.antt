-- A first packet that is no CONNECT closes its connection.
use Rattle.std.proofs.Common.{◌≡◌, ℕ, max, Bool, true, false, cond, eqb, ◌∙◌, sym, subst, refl, is_some}
use Rattle.std.specs.List.{list_any}
use Rattle.spk_packets.specs.Fault.{first_of}
use Rattle.spk_packets.specs.Message.{Message, Connect, ConnAck, Publish, PubAck, Subscribe, SubAck, Unsubscribe, UnsubAck, PingReq, PingResp, Disconnect}
use Rattle.spk_packets.specs.Spelling.{unwritable}
use Rattle.spk_broker_rules.specs.Data.{Broker}
use Rattle.spk_broker_rules.specs.Listening.{is_closed_in, is_joined}
use Rattle.spk_broker_rules.specs.Plan.{Packet, Seen, first_packet, next_packet, shut}
use Rattle.spk_broker_rules.specs.Step.{Turn, acts, noted, session_by, seen, step}
use Rattle.spk_broker_rules.proofs.Lists.{eqb-self}
use Rattle.spk_broker_rules.proofs.Publishing.{joined-heard}
use Rattle.spk_broker_listening.specs.Granted.{is_connect}
use Rattle.spk_broker_listening.proofs.Fine.{yes_no, told-shut}

first-shut : (v : Seen) (c : ℕ) (p : Message) → is_connect p ≡ false → first_packet v c p ≡ shut c
first-shut v c (Connect client clean alive will) e = absurd (yes_no e)
first-shut v c (ConnAck present code) e = refl
first-shut v c (Publish dup qos retain topic id payload) e = refl
first-shut v c (PubAck id) e = refl
first-shut v c (Subscribe id entries) e = refl
first-shut v c (SubAck id codes) e = refl
first-shut v c (Unsubscribe id filters) e = refl
first-shut v c (UnsubAck id) e = refl
first-shut v c PingReq e = refl
first-shut v c PingResp e = refl
first-shut v c Disconnect e = refl

abbrev Closes : ℕ → Turn → Type 0
Closes c t = list_any (λ d. eqb d c) t.closes ≡ true

closes : (t : Turn) (v : Seen) (u j : Bool) (c : ℕ) (p : Message) → j ≡ false → is_connect p ≡ false → Closes c (acts (cond u (shut c) (cond j (next_packet v c p) (first_packet v c p))) t)
closes t v true j c p e other = told-shut c (λ g. true) c t (eqb-self c)
closes t v false true c p e other = absurd (yes_no e)
closes t v false false c p e other = subst (λ xs. Closes c (acts xs t)) (sym (first-shut v c p other)) (told-shut c (λ g. true) c t (eqb-self c))

pub unjoined : (b : Broker) (conn moment : ℕ) (packet : Message) → is_joined b conn ≡ false → is_connect packet ≡ false → is_closed_in conn (step b (Packet conn packet moment)) ≡ true
unfolding step
unjoined b conn moment packet e other =
    closes (noted b (Packet conn packet moment)) (seen (noted b (Packet conn packet moment)).broker (Packet conn packet moment)) (is_some (first_of (unwritable packet)))
    (is_some (session_by conn (noted b (Packet conn packet moment)).broker.sessions)) conn packet (joined-heard conn (max b.clock moment) b.sessions ∙ e) other
