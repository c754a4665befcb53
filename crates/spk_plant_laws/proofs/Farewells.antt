-- Of which session an NDEATH is that an edge node gives: a CONNECT has the will of the session that it opens, and a farewell is of the session
-- opened last (Sparkplug 3.0.0, chapter 5).
use Rattle.std.proofs.Common.{◌≡◌, ◌∙◌, sym, ap, refl, subst, true≢false, ℕ, ◌+◌, ◌-◌, ◌^◌, ◌<◌, ◌≤◌, Bool, true, false, not, ◌&&◌, cond, nat_lt, List, [], ◌∷◌, ◌++◌, Option, Some, None, is_some, Result, Ok, Err, arith}
use Rattle.std.specs.List.{list_all}
use Rattle.std.proofs.lemmas.Bool.{ltb-true}
use Rattle.spk_payload.specs.Spelling as payload
use Rattle.spk_payload.specs.Typing.{Typed}
use Rattle.spk_packets.specs.Message.{Message as Packet, Publish, PubAck, Disconnect}
use Rattle.spk_device.specs.Step.{set_refusal, turn_refusal}
use Rattle.spk_device.specs.declared.fault.Refusal.{Refusal}
use Rattle.spk_device.specs.declared.owner.Owner.{Owner}
use Rattle.spk_state.specs.Step.{heard_as}
use Rattle.spk_state.specs.Text.{state_at}
use Rattle.spk_state.specs.declared.primary.Heard.{Heard}
use Rattle.spk_state.specs.declared.primary.Heard.TheVariants.{Online, Offline, Ignored}
use Rattle.spk_state.specs.declared.state.State as read
use Rattle.spk_edge_rules.specs.declared.fault.EdgeFault.{EdgeFault}
use Rattle.spk_edge_rules.specs.declared.fault.EdgeFault.TheVariants as fault
use Rattle.spk_edge_rules.specs.declared.phase.Phase.{Phase}
use Rattle.spk_edge_rules.specs.declared.phase.Phase.TheVariants.{Idle, Connecting, Waiting, Born}
use Rattle.spk_edge_rules.specs.Answers.{Answer, checked}
use Rattle.spk_edge_rules.specs.Births.{later_stamp, owner_at, owner_is_up}
use Rattle.spk_edge_rules.specs.Commands.{Order, command_of, wants_rebirth}
use Rattle.spk_edge_rules.specs.Config.{Config, Setup}
use Rattle.spk_edge_rules.specs.History.{front_going}
use Rattle.spk_edge_rules.specs.Inputs.{Act, Open, Accepted, Change, Changes, Turn, Command, State, Drain, Stop, Cut, TurnedAway, Pass, ChangeData, Input}
use Rattle.spk_edge_rules.specs.Packets.{connect_of, death_payload, death_topic, subscribe_of}
use Rattle.spk_edge_rules.specs.Rules.{Asked, Given, accepting, acked, acts, born, changes_fault, changing, commanded, draining, faulted_or, fits, heard_in, hearing, is_born, is_connecting, is_idle, is_joined, is_same_value, is_so_already, is_timely, is_waiting, joining, leaving, nothing, obeying, on_ok, others_in, owner_of, refused_or, rules, saying, several, telling, timely, turned_away, turning}
use Rattle.spk_edge_rules.specs.Run.{Done, asked_of, next_number, opened, packets_of, phase_of, right_at, run_of, with_done}
use Rattle.spk_edge_rules.specs.Step.{is_open}
use Rattle.spk_edge_rules.specs.Writable.{is_writable}

-- ---- phases

no-yes : false ≡ true → ⊥
no-yes e = true≢false (sym e)

joined-awake : (p : Phase) → is_joined p ≡ true → is_idle p ≡ false
joined-awake Waiting e = refl
joined-awake Born e = refl
joined-awake Connecting e = refl
joined-awake Idle e = absurd (no-yes e)

born-awake : (p : Phase) → is_born p ≡ true → is_idle p ≡ false
born-awake Waiting e = refl
born-awake Born e = refl
born-awake Connecting e = refl
born-awake Idle e = absurd (no-yes e)

connecting-awake : (p : Phase) → is_connecting p ≡ true → is_idle p ≡ false
connecting-awake Waiting e = refl
connecting-awake Born e = refl
connecting-awake Connecting e = refl
connecting-awake Idle e = absurd (no-yes e)

-- ---- what the rules give beside numbered messages

-- An acknowledgement, SUBSCRIBE and DISCONNECT; a CONNECT with the will of the session that comes next; and the NDEATH of the session opened
-- last, where the node isn't idle.
pub data IsOwn (c : Config) (a : Asked) (now : ℕ) (act : Act) (p : Packet) : Type 0 where
  Acknowledges : (id : ℕ) → p ≡ PubAck id → IsOwn c a now act p
  Subscribes : p ≡ subscribe_of c → IsOwn c a now act p
  Leaves : p ≡ Disconnect → IsOwn c a now act p
  Connects : is_open act ≡ true → p ≡ connect_of c a.bd now → IsOwn c a now act p
  Dies : is_idle a.phase ≡ false → p ≡ Publish false 1 false (death_topic c) (Some 2) (payload.spelling (death_payload a.will_bd a.will_time)) → IsOwn c a now act p

abbrev pub AreOwn : Config → Asked → ℕ → Act → List Packet → Type 0
AreOwn c a now act [] = Unit {0}
AreOwn c a now act (p ∷ ps) = IsOwn c a now act p × AreOwn c a now act ps

-- they are such, and a node that is idle stays so but for an Open
pub record IsFair (c : Config) (a : Asked) (now : ℕ) (act : Act) (g : Given) : Type 0 where
  pub own : AreOwn c a now act g.plain
  pub stays : is_open act ≡ false → is_idle a.phase ≡ true → is_idle g.phase ≡ true

abbrev GivesFair : Config → Asked → ℕ → Act → Result Given EdgeFault → Type 0
GivesFair c a now act (Ok g) = IsFair c a now act g
GivesFair c a now act (Err f) = Unit {0}

-- nothing but numbered messages, and the phase stays
same-fair : (c : Config) (a : Asked) (now : ℕ) (act : Act) (g : Given) → g.plain ≡ [] → g.phase ≡ a.phase → IsFair c a now act g
same-fair c a now act g none same = record { own = subst (AreOwn c a now act) (sym none) tt; stays = λ shut idle. ap is_idle same ∙ idle }

-- where the node isn't idle, nothing is asked of the phase
awake-fair : (c : Config) (a : Asked) (now : ℕ) (act : Act) (g : Given) → AreOwn c a now act g.plain → is_idle a.phase ≡ false → IsFair c a now act g
awake-fair c a now act g own awake = record { own = own; stays = λ shut idle. absurd (true≢false (sym idle ∙ awake)) }

fair-cond : (c : Config) (a : Asked) (now : ℕ) (act : Act) (b : Bool) (x y : Given) → IsFair c a now act x → IsFair c a now act y → IsFair c a now act (cond b x y)
fair-cond c a now act true x y f g = f
fair-cond c a now act false x y f g = g

fair-nothing : (c : Config) (a : Asked) (now : ℕ) (act : Act) → IsFair c a now act (nothing a)
fair-nothing c a now act = same-fair c a now act (nothing a) refl refl

fair-told : (c : Config) (a : Asked) (now : ℕ) (act : Act) (alias : ℕ) (value : Option Typed) → IsFair c a now act (telling a now alias value)
fair-told c a now act alias value = fair-cond c a now act (is_born a.phase) _ _ (same-fair c a now act _ refl refl) (same-fair c a now act _ refl refl)

fair-change : (c : Config) (a : Asked) (now : ℕ) (act : Act) (alias : ℕ) (value : Option Typed) → IsFair c a now act (changing a now alias value)
fair-change c a now act alias value =
    fair-cond c a now act (not (is_same_value a.book alias value) && owner_is_up a.book (owner_at a.book alias)) (telling a now alias value) (nothing a)
    (fair-told c a now act alias value) (fair-nothing c a now act)

fair-saying : (c : Config) (a : Asked) (now : ℕ) (act : Act) (owner : Owner) (changes : List (ℕ × Option Typed)) → IsFair c a now act (saying a now owner changes)
fair-saying c a now act owner [] = fair-nothing c a now act
fair-saying c a now act owner (x ∷ xs) = fair-cond c a now act (owner_is_up a.book owner) _ (nothing a) (same-fair c a now act _ refl refl) (fair-nothing c a now act)

fair-turn : (c : Config) (a : Asked) (now : ℕ) (act : Act) (name : List ℕ) (up : Bool) → IsFair c a now act (turning a now name up)
fair-turn c a now act name up =
    fair-cond c a now act (not (is_so_already a.book name up) && is_born a.phase) _ (nothing a) (same-fair c a now act _ refl refl) (fair-nothing c a now act)

fair-obey : (c : Config) (a : Asked) (now : ℕ) (act : Act) (orders : List Order) → is_idle a.phase ≡ false → IsFair c a now act (obeying a now orders)
fair-obey c a now act orders awake =
    fair-cond c a now act (wants_rebirth orders && is_born a.phase) _ _ (awake-fair c a now act _ tt awake) (awake-fair c a now act _ tt awake)

fair-leave : (c : Config) (a : Asked) (now : ℕ) (act : Act) → is_idle a.phase ≡ false → IsFair c a now act (leaving c a)
fair-leave c a now act awake = awake-fair c a now act (leaving c a) (Dies awake refl, (Leaves refl, tt)) awake

fair-hear : (c : Config) (a : Asked) (now : ℕ) (act : Act) (h : Heard) → is_idle a.phase ≡ false → IsFair c a now act (hearing c a now h)
fair-hear c a now act Online awake =
    fair-cond c a now act (is_waiting a.phase) (born a now (nothing a)) (nothing a) (awake-fair c a now act (born a now (nothing a)) tt awake) (fair-nothing c a now act)
fair-hear c a now act Offline awake = fair-cond c a now act (is_born a.phase) (leaving c a) (nothing a) (fair-leave c a now act awake) (fair-nothing c a now act)
fair-hear c a now act Ignored awake = fair-nothing c a now act

fair-drain : (c : Config) (k : ℕ) (a : Asked) (now : ℕ) (act : Act) (xs : List ChangeData) → IsFair c a now act (draining c k a now xs)
fair-drain c k a now act [] = fair-nothing c a now act
fair-drain c k a now act (x ∷ xs) =
    fair-cond c a now act (owner_is_up a.book x.owner) _ _
    (fair-cond c a now act (nat_lt 0 (front_going c k a.book x.owner (later_stamp a.stamp now) (x ∷ xs))) _ _ (same-fair c a now act _ refl refl) (same-fair c a now act _ refl refl))
    (same-fair c a now act _ refl refl)

fair-turned-away : (c : Config) (a : Asked) (now : ℕ) (act : Act) → IsFair c a now act (turned_away a)
fair-turned-away c a now act = fair-cond c a now act (is_connecting a.phase) _ (nothing a) (record { own = tt; stays = λ shut idle. refl }) (fair-nothing c a now act)

fair-accept : (c : Config) (a : Asked) (now : ℕ) (act : Act) → is_idle a.phase ≡ false → IsFair c a now act (accepting c a now)
fair-accept c a now act awake =
    fair-cond c a now act (is_some c.primary) (joining c a) (born a now (joining c a)) (awake-fair c a now act (joining c a) (Subscribes refl, tt) awake)
    (awake-fair c a now act (born a now (joining c a)) (Subscribes refl, tt) awake)

fair-acts : (c : Config) (k : ℕ) (a : Asked) (now : ℕ) (act : Act) → fits a.phase act ≡ true → GivesFair c a now act (acts c k a now act)
fair-acts c k a now Open fit = record { own = (Connects refl refl, tt); stays = λ shut idle. absurd (true≢false shut) }
fair-acts c k a now Accepted fit = fair-accept c a now Accepted (connecting-awake a.phase fit)
fair-acts c k a now (Change alias value) fit = by (set_refusal a.book alias value)
  where
    by : (o : Option Refusal) → GivesFair c a now (Change alias value) (refused_or o (changing a now alias value))
    by None = fair-change c a now (Change alias value) alias value
    by (Some r) = tt
fair-acts c k a now (Changes changes) fit = by (changes_fault a.book changes)
  where
    by : (o : Option EdgeFault) → GivesFair c a now (Changes changes) (faulted_or o (several a now changes))
    by None = fair-saying c a now (Changes changes) (owner_of a.book changes) (others_in a.book changes)
    by (Some f) = tt
fair-acts c k a now (Turn name up) fit = by (turn_refusal a.book name)
  where
    by : (o : Option Refusal) → GivesFair c a now (Turn name up) (refused_or o (turning a now name up))
    by None = fair-turn c a now (Turn name up) name up
    by (Some r) = tt
fair-acts c k a now (Command topic payload) fit = by (command_of c a.book topic payload)
  where
    by : (o : Option (List Order)) → GivesFair c a now (Command topic payload) (commanded a now o)
    by None = tt
    by (Some orders) = fair-obey c a now (Command topic payload) orders (joined-awake a.phase fit)
fair-acts c k a now (State payload) fit = by (is_some c.primary) (state_at payload)
  where
    state : (o : Option read.State) → GivesFair c a now (State payload) (heard_in c a now o)
    state None = tt
    state (Some s) = fair-hear c a now (State payload) (heard_as a.heard s) (joined-awake a.phase fit)

    by : (b : Bool) (o : Option read.State) → GivesFair c a now (State payload) (cond b (heard_in c a now o) (Ok (nothing a)))
    by true o = state o
    by false o = fair-nothing c a now (State payload)
fair-acts c k a now Drain fit = fair-drain c k a now Drain a.store.items
fair-acts c k a now Stop fit = fair-leave c a now Stop (joined-awake a.phase fit)
fair-acts c k a now Cut fit = record { own = tt; stays = λ shut idle. refl }
fair-acts c k a now TurnedAway fit = fair-turned-away c a now TurnedAway
fair-acts c k a now Pass fit = fair-nothing c a now Pass

fair-timely : (c : Config) (a : Asked) (now : ℕ) (act : Act) (g : Given) → IsFair c a now act g → GivesFair c a now act (timely g)
fair-timely c a now act g fair = by (is_timely g)
  where
    by : (b : Bool) → GivesFair c a now act (cond b (Ok g) (Err fault.ClockEnd))
    by true = fair
    by false = tt

fair-acked : (c : Config) (a : Asked) (now : ℕ) (act : Act) (ack : Option ℕ) (g : Given) → IsFair c a now act g → IsFair c a now act (acked ack g)
fair-acked c a now act None g fair = fair
fair-acked c a now act (Some id) g fair = record { own = (Acknowledges id refl, fair.own); stays = fair.stays }

fair-on : (c : Config) (a : Asked) (now : ℕ) (act : Act) (ack : Option ℕ) (r : Result Given EdgeFault) → GivesFair c a now act r → GivesFair c a now act (on_ok r (λ g. timely (acked ack g)))
fair-on c a now act ack (Ok g) fair = fair-timely c a now act (acked ack g) (fair-acked c a now act ack g fair)
fair-on c a now act ack (Err f) fair = tt

-- and what is done is done at a moment
pub record IsFairAt (c : Config) (a : Asked) (i : Input) (g : Given) : Type 0 where
  pub fair : IsFair c a i.now i.act g
  pub moment : i.now < 2 ^ 63

abbrev GivesFairAt : Config → Asked → Input → Result Given EdgeFault → Type 0
GivesFairAt c a i (Ok g) = IsFairAt c a i g
GivesFairAt c a i (Err f) = Unit {0}

fair-at : (c : Config) (a : Asked) (i : Input) (r : Result Given EdgeFault) → i.now < 2 ^ 63 → GivesFair c a i.now i.act r → GivesFairAt c a i r
fair-at c a i (Ok g) moment fair = record { fair = fair; moment = moment }
fair-at c a i (Err f) moment fair = tt

fair-rules : (c : Config) (k : ℕ) (a : Asked) (i : Input) → GivesFairAt c a i (rules c k a i)
fair-rules c k a i = by (fits a.phase i.act) (nat_lt i.now (2 ^ 63)) refl refl
  where
    by : (x y : Bool) → fits a.phase i.act ≡ x → nat_lt i.now (2 ^ 63) ≡ y →
        GivesFairAt c a i (cond (not x) (Err fault.WrongPhase) (cond (not y) (Err fault.ClockEnd) (on_ok (acts c k a i.now i.act) (λ g. timely (acked i.ack g)))))
    by false y fit time = tt
    by true false fit time = tt
    by true true fit time =
        fair-at c a i (on_ok (acts c k a i.now i.act) (λ g. timely (acked i.ack g))) (ltb-true i.now (2 ^ 63) time)
        (fair-on c a i.now i.act i.ack (acts c k a i.now i.act) (fair-acts c k a i.now i.act fit))

-- ---- an answer

pub record IsAnswer (s : Setup) (h : List Done) (i : Input) (answer : Answer) : Type 0 where
  pub fair : IsFairAt s.config (asked_of s h) i answer.given
  pub packets : answer.packets ≡ packets_of s h answer.given
  pub can : list_all is_writable (packets_of s h answer.given) ≡ true

same-ok : (x y : Answer) → ◌≡◌ {A = Result Answer EdgeFault} (Ok x) (Ok y) → x ≡ y
same-ok x y e = cc

ok-err : (x : Answer) (f : EdgeFault) → ◌≡◌ {A = Result Answer EdgeFault} (Err f) (Ok x) → ⊥
ok-err x f e = cc

pub answer-is : (s : Setup) (h : List Done) (i : Input) (answer : Answer) → right_at s h i ≡ Ok answer → IsAnswer s h i answer
answer-is s h i answer e = by (rules s.config (next_number s h) (asked_of s h) i) (fair-rules s.config (next_number s h) (asked_of s h) i) e
  where
    can-be : (g : Given) → IsFairAt s.config (asked_of s h) i g → (b : Bool) → list_all is_writable (packets_of s h g) ≡ b →
        cond b (Ok (record { given = g; packets = packets_of s h g })) (Err fault.TooLarge) ≡ Ok answer → IsAnswer s h i answer
    can-be g fair true at e = subst (IsAnswer s h i) (same-ok (record { given = g; packets = packets_of s h g }) answer e) (record { fair = fair; packets = refl; can = at })
    can-be g fair false at e = absurd (ok-err answer _ e)

    by : (r : Result Given EdgeFault) → GivesFairAt s.config (asked_of s h) i r → on_ok r (λ g. checked g (packets_of s h g)) ≡ Ok answer → IsAnswer s h i answer
    by (Err f) fair e = absurd (ok-err answer f e)
    by (Ok g) fair e = can-be g fair (list_all is_writable (packets_of s h g)) refl e

-- ---- a node that isn't idle has opened a session

-- the same of what was done
abbrev IsBegun : List Done → Type 0
IsBegun h = is_idle (phase_of h) ≡ false → 0 < opened h

begun-more : (s : Setup) (h : List Done) (i : Input) (r : Result Answer EdgeFault) → right_at s h i ≡ r → IsBegun h → IsBegun (with_done h i r)
begun-more s h i (Err f) at before awake = before awake
begun-more s h i (Ok answer) at before awake = by (is_open i.act) refl
  where
    still : is_open i.act ≡ false → (b : Bool) → is_idle (phase_of h) ≡ b → is_idle (phase_of h) ≡ false
    still shut true idle = absurd (true≢false (sym ((answer-is s h i answer at).fair.fair.stays shut idle) ∙ awake))
    still shut false idle = idle

    by : (b : Bool) → is_open i.act ≡ b → 0 < cond b (opened h + 1) (opened h)
    by true is = omega arith
    by false shut = before (still shut (is_idle (phase_of h)) refl)

pub begun : (s : Setup) (is : List Input) → is_idle (phase_of (run_of s is)) ≡ false → 0 < opened (run_of s is)
begun s [] awake = absurd (true≢false awake)
begun s (i ∷ is) awake = begun-more s (run_of s is) i (right_at s (run_of s is) i) refl (begun s is) awake

-- what is opened stays so
pub opened-more : (h : List Done) (i : Input) (r : Result Answer EdgeFault) → opened h ≤ opened (with_done h i r)
opened-more h i (Err f) = omega arith
opened-more h i (Ok answer) = by (is_open i.act)
  where
    by : (b : Bool) → opened h ≤ cond b (opened h + 1) (opened h)
    by true = omega arith
    by false = omega arith
