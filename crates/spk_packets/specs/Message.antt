-- What a control packet says (MQTT 3.1.1, chapter 3), without where it lies in memory. Texts are their bytes.
use Rattle.std.specs.Prelude.{ℕ, Bool, List, Option}

-- a will (section 3.1.2.5)
pub record WillData : Type 0 where
  pub topic : List ℕ
  pub message : List ℕ
  pub qos : ℕ
  pub retain : Bool

-- a packet; an entry of Subscribe is a topic filter and the QoS asked for
pub data Message : Type 0 where
  Connect : (client : List ℕ) (clean : Bool) (keep : ℕ) (will : Option WillData) → Message
  ConnAck : (present : Bool) (code : ℕ) → Message
  Publish : (dup : Bool) (qos : ℕ) (retain : Bool) (topic : List ℕ) (id : Option ℕ) (payload : List ℕ) → Message
  PubAck : (id : ℕ) → Message
  Subscribe : (id : ℕ) (filters : List (List ℕ × ℕ)) → Message
  SubAck : (id : ℕ) (codes : List ℕ) → Message
  Unsubscribe : (id : ℕ) (filters : List (List ℕ)) → Message
  UnsubAck : (id : ℕ) → Message
  PingReq : Message
  PingResp : Message
  Disconnect : Message
