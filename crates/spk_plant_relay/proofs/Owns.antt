-- An edge node's packets beside its numbered messages: acknowledgements, CONNECT, SUBSCRIBE, and its NDEATH with DISCONNECT.
use Rattle.std.proofs.Common.{◌≡◌, refl, subst, ℕ, Bool, true, false, not, ◌&&◌, cond, List, [], ◌∷◌, Option, Some, None, Result, Ok, Err, is_some, nat_lt, ◌^◌}
use Rattle.std.proofs.lemmas.Bool.{and_from}
use Rattle.spk_payload.specs.Typing.{Typed}
use Rattle.spk_packets.specs.Grammar.{Spells}
use Rattle.spk_packets.specs.Message.{Publish, PubAck, Disconnect}
use Rattle.spk_packets.specs.Message.{Message as Packet}
use Rattle.spk_packets.specs.Spelling.{spelling}
use Rattle.spk_topics.specs.Spark.Named.{of_node}
use Rattle.spk_topics.specs.declared.spark.Verb.TheVariants.{Death}
use Rattle.spk_device.specs.declared.fault.Refusal.{Refusal}
use Rattle.spk_device.specs.declared.owner.Owner.{Owner}
use Rattle.spk_state.specs.declared.primary.Heard.{Heard}
use Rattle.spk_state.specs.declared.primary.Heard.TheVariants.{Online, Offline, Ignored}
use Rattle.spk_state.specs.declared.state.State as read
use Rattle.spk_edge_rules.specs.Commands.{Order, command_of, wants_rebirth}
use Rattle.spk_edge_rules.specs.Births.{later_stamp, owner_at, owner_is_up}
use Rattle.spk_edge_rules.specs.declared.fault.EdgeFault.TheVariants as fault
use Rattle.spk_device.specs.Step.{set_refusal, turn_refusal}
use Rattle.spk_state.specs.Step.{heard_as}
use Rattle.spk_state.specs.Text.{state_at}
use Rattle.spk_edge_rules.specs.declared.fault.EdgeFault.{EdgeFault}
use Rattle.spk_edge_rules.specs.Writable.{is_writable}
use Rattle.spk_edge_rules.specs.Claims.{HasNames}
use Rattle.spk_edge_rules.specs.Config.{Config, Setup}
use Rattle.spk_edge_rules.specs.History.{front_going}
use Rattle.spk_edge_rules.specs.Inputs.{Act, Open, Accepted, Change, Changes, Turn, Command, State, Drain, Stop, Cut, TurnedAway, Pass, ChangeData, Input}
use Rattle.spk_edge_rules.specs.Packets.{connect_of, death_topic, subscribe_of}
use Rattle.spk_edge_rules.specs.Rules.{Asked, Given, accepting, acked, acts, born, changes_fault, changing, faulted_or, is_born, is_connecting, is_same_value, is_so_already, is_waiting, commanded, draining, fits, hearing, heard_in, is_timely, joining, leaving, nothing, obeying, on_ok, others_in, owner_of, refused_or, rules, saying, several, telling, timely, turned_away, turning}
use Rattle.spk_plant_relay.specs.Speech.{HasTexts}
use Rattle.spk_plant_relay.specs.Topics.{is_numbered_topic}
use Rattle.spk_plant_relay.proofs.Dying.{own-birth}
use Rattle.spk_plant_relay.proofs.Tells.{PacketFacts, Quietly, connect-fits, connect-off, death-fits, dying-off, disconnect-fits, itself-quiet, puback-quiet, subscribe-asks, subscribe-fits, written}
use Rattle.spk_plant_relay.proofs.Topics.{TopicFacts, numbered-is}

pub data IsOwn (c : Config) (p : Packet) : Type 0 where
  Acknowledges : (id : ℕ) → p ≡ PubAck id → IsOwn c p
  Connects : (bd time : ℕ) → p ≡ connect_of c bd time → IsOwn c p
  Subscribes : p ≡ subscribe_of c → IsOwn c p
  Dies : (text : List ℕ) → p ≡ Publish false 1 false (death_topic c) (Some 2) text → IsOwn c p
  Leaves : p ≡ Disconnect → IsOwn c p

abbrev pub AreOwn : Config → List Packet → Type 0
AreOwn c [] = Unit {0}
AreOwn c (p ∷ ps) = IsOwn c p × AreOwn c ps

-- what the rules give is such
pub record IsOwnGiven (c : Config) (g : Given) : Type 0 where
  pub own : AreOwn c g.plain

abbrev pub GivesOwn : Config → Result Given EdgeFault → Type 0
GivesOwn c (Ok g) = IsOwnGiven c g
GivesOwn c (Err f) = Unit {0}

own-cond : (c : Config) (b : Bool) (x y : Given) → IsOwnGiven c x → IsOwnGiven c y → IsOwnGiven c (cond b x y)
own-cond c true x y a z = a
own-cond c false x y a z = z

gives-cond : (c : Config) (b : Bool) (x y : Result Given EdgeFault) → GivesOwn c x → GivesOwn c y → GivesOwn c (cond b x y)
gives-cond c true x y a z = a
gives-cond c false x y a z = z

own-nothing : (c : Config) (a : Asked) → IsOwnGiven c (nothing a)
own-nothing c a = record { own = tt }

own-told : (c : Config) (a : Asked) (now alias : ℕ) (value : Option Typed) → IsOwnGiven c (telling a now alias value)
own-told c a now alias value = own-cond c (is_born a.phase) _ _ (record { own = tt }) (record { own = tt })

own-change : (c : Config) (a : Asked) (now alias : ℕ) (value : Option Typed) → IsOwnGiven c (changing a now alias value)
own-change c a now alias value = own-cond c (not (is_same_value a.book alias value) && owner_is_up a.book (owner_at a.book alias)) (telling a now alias value) (nothing a) (own-told c a now alias value) (own-nothing c a)

own-saying : (c : Config) (a : Asked) (now : ℕ) (owner : Owner) (changes : List (ℕ × Option Typed)) → IsOwnGiven c (saying a now owner changes)
own-saying c a now owner [] = own-nothing c a
own-saying c a now owner (x ∷ xs) = own-cond c (owner_is_up a.book owner) _ (nothing a) (record { own = tt }) (own-nothing c a)

own-turn : (c : Config) (a : Asked) (now : ℕ) (name : List ℕ) (up : Bool) → IsOwnGiven c (turning a now name up)
own-turn c a now name up = own-cond c (not (is_so_already a.book name up) && is_born a.phase) _ (nothing a) (record { own = tt }) (own-nothing c a)

own-obey : (c : Config) (a : Asked) (now : ℕ) (orders : List Order) → IsOwnGiven c (obeying a now orders)
own-obey c a now orders = own-cond c (wants_rebirth orders && is_born a.phase) _ _ (record { own = tt }) (record { own = tt })

own-leave : (c : Config) (a : Asked) → IsOwnGiven c (leaving c a)
own-leave c a = record { own = (Dies _ refl, (Leaves refl, tt)) }

own-hear : (c : Config) (a : Asked) (now : ℕ) (h : Heard) → IsOwnGiven c (hearing c a now h)
own-hear c a now Online = own-cond c (is_waiting a.phase) (born a now (nothing a)) (nothing a) (record { own = tt }) (own-nothing c a)
own-hear c a now Offline = own-cond c (is_born a.phase) (leaving c a) (nothing a) (own-leave c a) (own-nothing c a)
own-hear c a now Ignored = own-nothing c a

own-drain : (c : Config) (k : ℕ) (a : Asked) (now : ℕ) (xs : List ChangeData) → IsOwnGiven c (draining c k a now xs)
own-drain c k a now [] = own-nothing c a
own-drain c k a now (x ∷ xs) =
    own-cond c (owner_is_up a.book x.owner) _ _
    (own-cond c (nat_lt 0 (front_going c k a.book x.owner (later_stamp a.stamp now) (x ∷ xs))) _ _ (record { own = tt }) (record { own = tt })) (record { own = tt })

own-turned-away : (c : Config) (a : Asked) → IsOwnGiven c (turned_away a)
own-turned-away c a = own-cond c (is_connecting a.phase) _ (nothing a) (record { own = tt }) (own-nothing c a)

own-accept : (c : Config) (a : Asked) (now : ℕ) → IsOwnGiven c (accepting c a now)
own-accept c a now = own-cond c (is_some c.primary) (joining c a) (born a now (joining c a)) (record { own = (Subscribes refl, tt) }) (record { own = (Subscribes refl, tt) })

own-acts : (c : Config) (k : ℕ) (a : Asked) (now : ℕ) (act : Act) → GivesOwn c (acts c k a now act)
own-acts c k a now Open = record { own = (Connects a.bd now refl, tt) }
own-acts c k a now Accepted = own-accept c a now
own-acts c k a now (Change alias value) = by (set_refusal a.book alias value)
  where
    by : (o : Option Refusal) → GivesOwn c (refused_or o (changing a now alias value))
    by None = own-change c a now alias value
    by (Some r) = tt
own-acts c k a now (Changes changes) = by (changes_fault a.book changes)
  where
    by : (o : Option EdgeFault) → GivesOwn c (faulted_or o (several a now changes))
    by None = own-saying c a now (owner_of a.book changes) (others_in a.book changes)
    by (Some f) = tt
own-acts c k a now (Turn name up) = by (turn_refusal a.book name)
  where
    by : (o : Option Refusal) → GivesOwn c (refused_or o (turning a now name up))
    by None = own-turn c a now name up
    by (Some r) = tt
own-acts c k a now (Command topic payload) = by (command_of c a.book topic payload)
  where
    by : (o : Option (List Order)) → GivesOwn c (commanded a now o)
    by None = tt
    by (Some orders) = own-obey c a now orders
own-acts c k a now (State payload) = by (is_some c.primary) (state_at payload)
  where
    state : (o : Option read.State) → GivesOwn c (heard_in c a now o)
    state None = tt
    state (Some s) = own-hear c a now (heard_as a.heard s)

    by : (b : Bool) (o : Option read.State) → GivesOwn c (cond b (heard_in c a now o) (Ok (nothing a)))
    by true o = state o
    by false o = own-nothing c a
own-acts c k a now Drain = own-drain c k a now a.store.items
own-acts c k a now Stop = own-leave c a
own-acts c k a now Cut = record { own = tt }
own-acts c k a now TurnedAway = own-turned-away c a
own-acts c k a now Pass = own-nothing c a

own-timely : (c : Config) (g : Given) → IsOwnGiven c g → GivesOwn c (timely g)
own-timely c g own = by (is_timely g)
  where
    by : (b : Bool) → GivesOwn c (cond b (Ok g) (Err fault.ClockEnd))
    by true = own
    by false = tt

own-acked : (c : Config) (ack : Option ℕ) (g : Given) → IsOwnGiven c g → IsOwnGiven c (acked ack g)
own-acked c None g own = own
own-acked c (Some id) g own = record { own = (Acknowledges id refl, own.own) }

own-on : (c : Config) (ack : Option ℕ) (r : Result Given EdgeFault) → GivesOwn c r → GivesOwn c (on_ok r (λ g. timely (acked ack g)))
own-on c ack (Ok g) own = own-timely c (acked ack g) (own-acked c ack g own)
own-on c ack (Err f) own = tt

pub own-rules : (c : Config) (k : ℕ) (a : Asked) (i : Input) → GivesOwn c (rules c k a i)
own-rules c k a i = by (fits a.phase i.act) (nat_lt i.now (2 ^ 63))
  where
    given : GivesOwn c (on_ok (acts c k a i.now i.act) (λ g. timely (acked i.ack g)))
    given = own-on c i.ack (acts c k a i.now i.act) (own-acts c k a i.now i.act)

    by : (x y : Bool) → GivesOwn c (cond (not x) (Err fault.WrongPhase) (cond (not y) (Err fault.ClockEnd) (on_ok (acts c k a i.now i.act) (λ g. timely (acked i.ack g)))))
    by false y = tt
    by true false = tt
    by true true = given

-- what is said in each of them
pub own-quiet : PacketFacts → TopicFacts → (s : Setup) → HasNames s → HasTexts s.config → (p q : Packet) → IsOwn s.config p → is_writable p ≡ true → Spells (spelling p) q →
    Quietly (is_numbered_topic s.config.group s.config.node) q
own-quiet f t s names texts p q (Acknowledges id is) can says =
    puback-quiet (is_numbered_topic s.config.group s.config.node) id q (subst (λ x. Spells (spelling x) q) is says)
own-quiet f t s names texts p q (Connects bd time is) can says =
    itself-quiet f (is_numbered_topic s.config.group s.config.node) (connect_of s.config bd time) q
    (written f (connect_of s.config bd time) (connect-fits s.config bd time texts) (subst (λ x. is_writable x ≡ true) is can))
    (refl, (λ group node one two x y. tt), connect-off t s.config bd time names.group names.node (subst (λ x. is_writable x ≡ true) is can), refl, (λ group node payload named h. own-birth t s.config.group s.config.node group node (and_from _ _ names.group names.node) named h.0)) (subst (λ x. Spells (spelling x) q) is says)
own-quiet f t s names texts p q (Subscribes is) can says =
    itself-quiet f (is_numbered_topic s.config.group s.config.node) (subscribe_of s.config) q
    (written f (subscribe_of s.config) (subscribe-fits s.config texts) (subst (λ x. is_writable x ≡ true) is can))
    (refl, subscribe-asks t s.config names.group names.node texts.primary, (λ group node. tt), tt, (λ group node payload named h. absurd h)) (subst (λ x. Spells (spelling x) q) is says)
own-quiet f t s names texts p q (Dies text is) can says =
    itself-quiet f (is_numbered_topic s.config.group s.config.node) (Publish false 1 false (death_topic s.config) (Some 2) text) q
    (written f (Publish false 1 false (death_topic s.config) (Some 2) text) (death-fits s.config text texts) (subst (λ x. is_writable x ≡ true) is can))
    (numbered-is t s.config.group s.config.node (of_node s.config.group Death s.config.node) (and_from _ _ names.group names.node), (λ group node one two x y. tt), dying-off t s.config text names.group names.node (subst (λ x. is_writable x ≡ true) is can), tt, (λ group node payload named h. own-birth t s.config.group s.config.node group node (and_from _ _ names.group names.node) named h.0))
    (subst (λ x. Spells (spelling x) q) is says)
own-quiet f t s names texts p q (Leaves is) can says =
    itself-quiet f (is_numbered_topic s.config.group s.config.node) Disconnect q
    (written f Disconnect disconnect-fits (subst (λ x. is_writable x ≡ true) is can))
    (refl, (λ group node one two x y. tt), (λ group node. tt), tt, (λ group node payload named h. absurd h)) (subst (λ x. Spells (spelling x) q) is says)
