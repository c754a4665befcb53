-- Of whom what was said is.
use Rattle.std.proofs.Common.{◌≡◌, ◌∙◌, ℕ, List, [], ◌∷◌, Bool, true, false, Option, Some, None, inl, inr, refl, sym, ap}
use Rattle.std.specs.Prelude.{◌&&◌}
use Rattle.std.specs.List.{list_all}
use Rattle.spk_packets.specs.Message.{Message, WillData, Connect, ConnAck, Publish, PubAck, Subscribe, SubAck, Unsubscribe, UnsubAck, PingReq, PingResp, Disconnect}
use Rattle.spk_broker_rules.specs.Data.{Send}
use Rattle.spk_broker_rules.specs.Origins.{SaidBy, SaidIn, Says, SaysAll, WasSaid, WillOf}
use Rattle.spk_broker_rules.specs.Plan.{Event, Open, Packet, Fault, Closed, Tick, Refused}
use Rattle.spk_access.specs.Rights.{RightsData, may_publish}
use Rattle.spk_door.specs.Broker.{SaidInBy, WasSaidBy, is_let}
use Rattle.spk_door.specs.Rules.{lets}

both : (a b : Bool) → (a && b) ≡ true → (a ≡ true) × (b ≡ true)
both true b h = (refl, h)
both false b h = cc

-- whoever may send a packet may publish what it says
let-publishes : (r : RightsData) (p : Message) (topic payload : List ℕ) → lets r true p ≡ true → SaidBy p topic payload → may_publish r true topic ≡ true
let-publishes r (Connect client clean keep None) topic payload h said = absurd said
let-publishes r (Connect client clean keep (Some w)) topic payload h said = ap (may_publish r true) (sym said.0) ∙ h
let-publishes r (ConnAck present code) topic payload h said = absurd said
let-publishes r (Publish dup qos retain t id p) topic payload h said = ap (may_publish r true) (sym said.0) ∙ h
let-publishes r (PubAck id) topic payload h said = absurd said
let-publishes r (Subscribe id entries) topic payload h said = absurd said
let-publishes r (SubAck id codes) topic payload h said = absurd said
let-publishes r (Unsubscribe id filters) topic payload h said = absurd said
let-publishes r (UnsubAck id) topic payload h said = absurd said
let-publishes r PingReq topic payload h said = absurd said
let-publishes r PingResp topic payload h said = absurd said
let-publishes r Disconnect topic payload h said = absurd said

-- an event that said something is of one who may publish it
said-by : (rights : ℕ → RightsData) (Of : ℕ → Type 0) (topic payload : List ℕ) → ((conn : ℕ) → may_publish (rights conn) true topic ≡ true → Of conn)
    → (e : Event) → is_let rights true e ≡ true → SaidIn e topic payload → SaidInBy Of e topic payload
said-by rights Of topic payload who (Open moment) h said = absurd said
said-by rights Of topic payload who (Packet conn p moment) h said = (said, who conn (let-publishes (rights conn) p topic payload h said))
said-by rights Of topic payload who (Fault conn f moment) h said = absurd said
said-by rights Of topic payload who (Closed conn moment) h said = absurd said
said-by rights Of topic payload who (Tick moment) h said = absurd said
said-by rights Of topic payload who (Refused conn s moment) h said = absurd said

pub was-said-by : (rights : ℕ → RightsData) (Of : ℕ → Type 0) (topic payload : List ℕ) → ((conn : ℕ) → may_publish (rights conn) true topic ≡ true → Of conn)
    → (es : List Event) → list_all (is_let rights true) es ≡ true → WasSaid es topic payload → WasSaidBy Of es topic payload
was-said-by rights Of topic payload who [] h said = absurd said
was-said-by rights Of topic payload who (e ∷ es) h (inl here) = inl (said-by rights Of topic payload who e (both _ _ h).0 here)
was-said-by rights Of topic payload who (e ∷ es) h (inr there) = inr (was-said-by rights Of topic payload who es (both _ _ h).1 there)

-- ---- what holds of all that is sent

more-will : (T U : List ℕ → List ℕ → Type 0) → ((t p : List ℕ) → T t p → U t p) → (w : Option WillData) → WillOf T w → WillOf U w
more-will T U more None h = tt
more-will T U more (Some w) h = more w.topic w.message h

more-says : (T U : List ℕ → List ℕ → Type 0) → ((t p : List ℕ) → T t p → U t p) → (p : Message) → Says T p → Says U p
more-says T U more (Connect client clean keep will) h = more-will T U more will h
more-says T U more (ConnAck present code) h = tt
more-says T U more (Publish dup qos retain t id p) h = more t p h
more-says T U more (PubAck id) h = tt
more-says T U more (Subscribe id entries) h = tt
more-says T U more (SubAck id codes) h = tt
more-says T U more (Unsubscribe id filters) h = tt
more-says T U more (UnsubAck id) h = tt
more-says T U more PingReq h = tt
more-says T U more PingResp h = tt
more-says T U more Disconnect h = tt

pub more-sent : (T U : List ℕ → List ℕ → Type 0) → ((t p : List ℕ) → T t p → U t p) → (sends : List Send) → SaysAll T sends → SaysAll U sends
more-sent T U more [] h = tt
more-sent T U more (s ∷ sends) h = (more-says T U more s.packet h.0, more-sent T U more sends h.1)
