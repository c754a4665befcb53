-- What bytes say is one thing, and so is what is answered.
use Rattle.std.proofs.Common.{◌≡◌, ◌==◌, refl, subst, ℕ, Bool, true, false, List, Option, Some, None}
use Rattle.std.specs.Prelude.{Result, Ok, Err, OnOk, if◌then◌else◌}
use Rattle.spk_packets.specs.Grammar.{IsBody, IsIdPart}
use Rattle.spk_packets.specs.Message.{Message, Connect, ConnAck, Publish, PubAck, Subscribe, SubAck, Unsubscribe, UnsubAck, PingReq, PingResp, Disconnect}
use Rattle.spk_reading.specs.Data.{ContentData, HeardData, Published}
use Rattle.spk_reading.specs.Meaning.{◌>>=◌, Says, content_at, heard}
use Rattle.spk_reading.specs.Answer as read
use Rattle.spk_reading.specs.declared.fault.ReadFault.{ReadFault}
use Rattle.spk_reading.specs.declared.fault.ReadFault.TheVariants.{NoMemory, NotSparkplug, BadPayload, NoSeq, NoStamp, NoBdSeq}
use Rattle.spk_host_session.specs.Answer.{Fails, Gives}
use Rattle.spk_host_session.specs.declared.fault.HostFault.{HostFault}
use Rattle.spk_host.specs.declared.out.Out.{Out}
use Rattle.spk_host.specs.Data.{HostData, OutData}
use Rattle.spk_host.specs.Step.{HasIdentifier, IsIdentified, after_packet, packet_out}
use Rattle.spk_host.specs.View.{fault_of, out_view}

abbrev pub same : HeardData → Result HeardData ReadFault
same x = Ok x

abbrev pub due : OutData → Result OutData HostFault
due out = Ok out

pub one_meaning : {x y : HeardData} → same x ≡ same y → x ≡ y
one_meaning h = cc

pub gives_at : (host : HostData) (r : Result Out HostFault) (x y : HeardData) (now : ℕ) → x ≡ y → Gives out_view r (Ok (packet_out host y now)) →
    Gives out_view r (Ok (packet_out host x now))
gives_at host r x y now e h = rw (e) h

pub after_at : (host new : HostData) (r : Result Out HostFault) (x y : HeardData) (now : ℕ) → x ≡ y → OnOk r (new ≡ after_packet host y now) →
    OnOk r (new ≡ after_packet host x now)
after_at host new r x y now e h = rw (e) h

-- bytes that say something are refused for want of memory alone
pub fails_as : (f : ReadFault) (h : HeardData) (out : OutData) → read.Fails f (Ok h) → Fails (fault_of f) (due out)
fails_as NoMemory h out is = (out, refl)
fails_as NotSparkplug h out is = absurd (cc)
fails_as BadPayload h out is = absurd (cc)
fails_as NoSeq h out is = absurd (cc)
fails_as NoStamp h out is = absurd (cc)
fails_as NoBdSeq h out is = absurd (cc)

-- ---- a PUBLISH at QoS 1 has an identifier, which isn't 0

acked : (b : Bool) (part : List ℕ) (qos : ℕ) (id : Option ℕ) → IsIdPart part qos id → IsIdentified (if b then id else None)
acked true part qos None is = tt
acked true part qos (Some n) is = is.1.1
acked false part qos id is = tt

published : (found : Result ContentData ReadFault) (asked : Option ℕ) (h : HeardData) → IsIdentified asked →
    (found >>= λ content. Ok (Published asked content)) ≡ same h → HasIdentifier h
published (Ok content) asked h is e = subst HasIdentifier (one_meaning e) is
published (Err f) asked h is e = absurd cc

with_body : (p : Message) (body : List ℕ) (h : HeardData) → IsBody p body → heard p ≡ same h → HasIdentifier h
with_body (Publish dup qos retain topic id payload) body h is e =
    published (content_at topic payload) (if qos == 1 then id else None) h (acked (qos == 1) is.1 qos id is.3) e
with_body (Connect client clean keep will) body h is e = subst HasIdentifier (one_meaning e) tt
with_body (ConnAck present code) body h is e = subst HasIdentifier (one_meaning e) tt
with_body (PubAck id) body h is e = subst HasIdentifier (one_meaning e) tt
with_body (Subscribe id filters) body h is e = subst HasIdentifier (one_meaning e) tt
with_body (SubAck id codes) body h is e = subst HasIdentifier (one_meaning e) tt
with_body (Unsubscribe id filters) body h is e = subst HasIdentifier (one_meaning e) tt
with_body (UnsubAck id) body h is e = subst HasIdentifier (one_meaning e) tt
with_body PingReq body h is e = subst HasIdentifier (one_meaning e) tt
with_body PingResp body h is e = subst HasIdentifier (one_meaning e) tt
with_body Disconnect body h is e = subst HasIdentifier (one_meaning e) tt

pub identified : (bytes : List ℕ) (h : HeardData) → Says bytes h → HasIdentifier h
identified bytes h said = with_body said.packet said.spelled.body h said.spelled.is_body said.is
