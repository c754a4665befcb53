-- What the rules can give: nothing, one message, or births.
use Rattle.std.proofs.Common.{◌≡◌, ℕ, zero, suc, ◌≤◌, ◌^◌, Bool, true, false, not, ◌&&◌, cond, List, [], ◌∷◌, length, Option, Some, None, is_some, Result, Ok, Err, refl, sym, ◌∙◌, subst, arith, nat_lt}
use Rattle.std.proofs.lemmas.Bool.{true≢false, and_parts}
use Rattle.std.proofs.lemmas.List.Sums.{prefix_len-le-length}
use Rattle.spk_payload.specs.Typing.{Typed}
use Rattle.spk_device.specs.Step.{set_refusal, turn_refusal}
use Rattle.spk_device.specs.declared.fault.Refusal.{Refusal}
use Rattle.spk_device.specs.declared.owner.Owner.{Owner}
use Rattle.spk_store.specs.Calls.{Call, Push, DropFront}
use Rattle.spk_state.specs.Step.{heard_as}
use Rattle.spk_state.specs.Text.{state_at}
use Rattle.spk_state.specs.declared.primary.Heard.{Heard}
use Rattle.spk_state.specs.declared.primary.Heard.TheVariants.{Online, Offline, Ignored}
use Rattle.spk_state.specs.declared.state.State as read
use Rattle.spk_edge_rules.specs.declared.fault.EdgeFault.{EdgeFault}
use Rattle.spk_edge_rules.specs.declared.fault.EdgeFault.TheVariants as fault
use Rattle.spk_edge_rules.specs.declared.phase.Phase.{Phase}
use Rattle.spk_edge_rules.specs.declared.phase.Phase.TheVariants.{Idle, Connecting, Waiting, Born}
use Rattle.spk_edge_rules.specs.Births.{births_at, birth_stamp, later_stamp, owner_is_up, owner_at, turn_draft}
use Rattle.spk_edge_rules.specs.Claims.{Link, Closed, Asked, Joined, accepted_by, link_by}
use Rattle.spk_edge_rules.specs.Commands.{Order, command_of, wants_rebirth, writes_in}
use Rattle.spk_edge_rules.specs.Config.{Config}
use Rattle.spk_edge_rules.specs.History.{can_go, front_going, front_run, have_one_owner, longest}
use Rattle.spk_edge_rules.specs.Inputs.{Act, Open, Accepted, Change, Changes, Turn, Command, State, Drain, Stop, Cut, TurnedAway, Pass, Input, ChangeData}
use Rattle.spk_edge_rules.specs.Messages.{Draft, opens}
use Rattle.spk_edge_rules.specs.Rules as rule
use Rattle.spk_edge_rules.specs.Rules.{Given, acked, acts, changes_draft, changing, commanded, draining, faulted_or, fits, heard_in, hearing, is_born, is_connecting, is_idle, is_joined, is_timely, is_waiting, joining, leaving, nothing, obeying, on_ok, opening, others_in, refused_or, rules, saying, several, stating, telling, timely, turned_away, turning, born}
use Rattle.spk_edge_rules.specs.Step.{is_open}

-- ---- pushing a fact through tests

pub by_if : {X : Type 0} (P : X → Type 0) (b : Bool) (x y : X) → (b ≡ true → P x) → (b ≡ false → P y) → P (cond b x y)
by_if P true x y yes_ no_ = yes_ refl
by_if P false x y yes_ no_ = no_ refl

abbrev pub Gives : (Given → Type 0) → Result Given EdgeFault → Type 0
Gives P (Ok g) = P g
Gives P (Err f) = Unit {0}

pub refused-gives : (P : Given → Type 0) (r : Option Refusal) (g : Given) → (r ≡ None → P g) → Gives P (refused_or r g)
refused-gives P None g p = p refl
refused-gives P (Some r) g p = tt

pub faulted-gives : (P : Given → Type 0) (o : Option EdgeFault) (g : Given) → (o ≡ None → P g) → Gives P (faulted_or o g)
faulted-gives P None g p = p refl
faulted-gives P (Some f) g p = tt

-- a fact of several changes: where they say nothing, and where they say something of an owner that is up
pub saying-gives : (P : Given → Type 0) (a : rule.Asked) (now : ℕ) (owner : Owner) (xs : List (ℕ × Option Typed)) → P (nothing a)
    → ((ys : List (ℕ × Option Typed)) → owner_is_up a.book owner ≡ true → P (record (nothing a) { drafts = changes_draft a.book owner (later_stamp a.stamp now) ys ∷ [] }))
    → P (saying a now owner xs)
saying-gives P a now owner [] none some = none
saying-gives P a now owner (x ∷ xs) none some = by_if P (owner_is_up a.book owner) _ _ (λ up. some (x ∷ xs) up) (λ down. none)

-- ---- taken

-- an input that the rules take: its phase fits, its moment is below 2^63, and the acts give what is acknowledged
pub record Taken (c : Config) (k : ℕ) (a : rule.Asked) (i : Input) (g : Given) : Type 0 where
  pub fitting : fits a.phase i.act ≡ true
  pub now : nat_lt i.now (2 ^ 63) ≡ true
  pub given : Given
  pub acted : acts c k a i.now i.act ≡ Ok given
  pub is : g ≡ acked i.ack given
  pub in_time : is_timely (acked i.ack given) ≡ true

pub rules-taken : (c : Config) (k : ℕ) (a : rule.Asked) (i : Input) (g : Given) → rules c k a i ≡ Ok g → Taken c k a i g
rules-taken c k a i g = by (fits a.phase i.act) (nat_lt i.now (2 ^ 63)) (acts c k a i.now i.act) refl refl refl
  where
    in_time : (given : Given) (b : Bool) → fits a.phase i.act ≡ true → nat_lt i.now (2 ^ 63) ≡ true → acts c k a i.now i.act ≡ Ok given
        → is_timely (acked i.ack given) ≡ b → cond b (Ok (acked i.ack given)) (Err fault.ClockEnd) ≡ Ok g → Taken c k a i g
    in_time given true f n e t is =
        let same : acked i.ack given ≡ g = cc in
        record { fitting = f; now = n; given = given; acted = e; is = sym same; in_time = t }
    in_time given false f n e t is = absurd (let x : ⊥ = cc in x)

    by : (b1 b2 : Bool) (r : Result Given EdgeFault) → fits a.phase i.act ≡ b1 → nat_lt i.now (2 ^ 63) ≡ b2 → acts c k a i.now i.act ≡ r
        → cond (not b1) (Err fault.WrongPhase) (cond (not b2) (Err fault.ClockEnd) (on_ok r (λ g. timely (acked i.ack g)))) ≡ Ok g → Taken c k a i g
    by false b2 r f n e is = absurd (let x : ⊥ = cc in x)
    by true false r f n e is = absurd (let x : ⊥ = cc in x)
    by true true (Err why) f n e is = absurd (let x : ⊥ = cc in x)
    by true true (Ok given) f n e is = in_time given (is_timely (acked i.ack given)) f n e refl is

-- ---- phases

connecting-busy : (p : Phase) → is_connecting p ≡ true → is_idle p ≡ false
connecting-busy Idle e = absurd (true≢false (sym e))
connecting-busy Connecting e = refl
connecting-busy Waiting e = refl
connecting-busy Born e = refl

joined-busy : (p : Phase) → is_joined p ≡ true → is_idle p ≡ false
joined-busy Idle e = absurd (true≢false (sym e))
joined-busy Connecting e = refl
joined-busy Waiting e = refl
joined-busy Born e = refl

-- ---- courses

pub data Course (a : rule.Asked) (now : ℕ) (act : Act) (g : Given) : Type 0 where
  Quiet : g.drafts ≡ [] → (is_born g.phase ≡ true → (is_born a.phase ≡ true) × (is_open act ≡ false)) → Course a now act g
  One : (d : Draft) → g.drafts ≡ d ∷ [] → opens d ≡ false → d.stamp ≡ later_stamp a.stamp now → is_born a.phase ≡ true → is_born g.phase ≡ true → is_open act ≡ false → Course a now act g
  Births : g.drafts ≡ births_at a.book a.will_bd (birth_stamp a.stamp now) → is_idle a.phase ≡ false → is_born g.phase ≡ true → is_open act ≡ false → Course a now act g

quiet : (a : rule.Asked) (now : ℕ) (act : Act) → is_open act ≡ false → Course a now act (nothing a)
quiet a now act e = Quiet refl (λ b. (b, e))

away : (a : rule.Asked) (now : ℕ) (act : Act) (g : Given) → g.drafts ≡ [] → is_born g.phase ≡ false → Course a now act g
away a now act g e not_born = Quiet e (λ b. absurd (true≢false (sym b ∙ not_born)))

turn-opens : (a : rule.Asked) (stamp : ℕ) (name : List ℕ) (up : Bool) → opens (turn_draft a.book stamp name up) ≡ false
turn-opens a stamp name true = refl
turn-opens a stamp name false = refl

turn-stamp : (a : rule.Asked) (stamp : ℕ) (name : List ℕ) (up : Bool) → (turn_draft a.book stamp name up).stamp ≡ stamp
turn-stamp a stamp name true = refl
turn-stamp a stamp name false = refl

hearing-course : (c : Config) (a : rule.Asked) (now : ℕ) (payload : List ℕ) (heard : Heard) → is_joined a.phase ≡ true → Course a now (State payload) (hearing c a now heard)
hearing-course c a now payload Online joined =
    by_if (Course a now (State payload)) (is_waiting a.phase) (born a now (nothing a)) (nothing a)
    (λ e. Births refl (joined-busy a.phase joined) refl refl) (λ e. quiet a now (State payload) refl)
hearing-course c a now payload Offline joined =
    by_if (Course a now (State payload)) (is_born a.phase) (leaving c a) (nothing a)
    (λ e. away a now (State payload) (leaving c a) refl refl) (λ e. quiet a now (State payload) refl)
hearing-course c a now payload Ignored joined = quiet a now (State payload) refl

heard-course : (c : Config) (a : rule.Asked) (now : ℕ) (payload : List ℕ) (s : Option read.State) → is_joined a.phase ≡ true → Gives (Course a now (State payload)) (heard_in c a now s)
heard-course c a now payload None joined = tt
heard-course c a now payload (Some s) joined = hearing-course c a now payload (heard_as a.heard s) joined

commanded-course : (a : rule.Asked) (now : ℕ) (topic payload : List ℕ) (orders : Option (List Order)) → is_joined a.phase ≡ true → Gives (Course a now (Command topic payload)) (commanded a now orders)
commanded-course a now topic payload None joined = tt
commanded-course a now topic payload (Some orders) joined =
    let g = record (nothing a) { writes = writes_in orders } in
    by_if (Course a now (Command topic payload)) (wants_rebirth orders && is_born a.phase) (born a now g) g
    (λ e. Births refl (joined-busy a.phase joined) refl refl) (λ e. Quiet refl (λ b. (b, refl)))

draining-course : (c : Config) (k : ℕ) (a : rule.Asked) (now : ℕ) (changes : List ChangeData) → is_born a.phase ≡ true → Course a now Drain (draining c k a now changes)
draining-course c k a now [] is_up = quiet a now Drain refl
draining-course c k a now (x ∷ xs) is_up =
    let n = front_going c k a.book x.owner (later_stamp a.stamp now) (x ∷ xs) in
    by_if (Course a now Drain) (owner_is_up a.book x.owner) _ _
    (λ e. by_if (Course a now Drain) (nat_lt 0 n) _ _ (λ some. One _ refl refl refl is_up is_up refl) (λ none. Quiet refl (λ b. (b, refl)))) (λ e. Quiet refl (λ b. (b, refl)))

acts-course : (c : Config) (k : ℕ) (a : rule.Asked) (now : ℕ) (act : Act) → fits a.phase act ≡ true → Gives (Course a now act) (acts c k a now act)
acts-course c k a now Open fit = away a now Open (opening c a now) refl refl
acts-course c k a now Accepted fit =
    by_if (Course a now Accepted) (is_some c.primary) (joining c a) (born a now (joining c a))
    (λ e. away a now Accepted (joining c a) refl refl) (λ e. Births refl (connecting-busy a.phase fit) refl refl)
acts-course c k a now (Change alias value) fit =
    refused-gives (Course a now (Change alias value)) (set_refusal a.book alias value) (changing a now alias value)
    (λ accepted. by_if (Course a now (Change alias value)) (not (rule.is_same_value a.book alias value) && owner_is_up a.book (owner_at a.book alias)) (telling a now alias value) (nothing a)
    (λ e. by_if (Course a now (Change alias value)) (is_born a.phase) _ _ (λ b. One _ refl refl refl b b refl) (λ b. Quiet refl (λ k. (k, refl))))
    (λ e. quiet a now (Change alias value) refl))
acts-course c k a now (Changes changes) fit =
    faulted-gives (Course a now (Changes changes)) (rule.changes_fault a.book changes) (several a now changes)
    (λ accepted. saying-gives (Course a now (Changes changes)) a now (rule.owner_of a.book changes) (others_in a.book changes)
    (quiet a now (Changes changes) refl) (λ ys up. One _ refl refl refl fit fit refl))
acts-course c k a now (Turn name up) fit =
    refused-gives (Course a now (Turn name up)) (turn_refusal a.book name) (turning a now name up)
    (λ accepted. by_if (Course a now (Turn name up)) (not (rule.is_so_already a.book name up) && is_born a.phase) _ (nothing a)
    (λ e. One (turn_draft a.book (later_stamp a.stamp now) name up) refl (turn-opens a (later_stamp a.stamp now) name up) (turn-stamp a (later_stamp a.stamp now) name up)
    (and_parts (not (rule.is_so_already a.book name up)) (is_born a.phase) e).1 (and_parts (not (rule.is_so_already a.book name up)) (is_born a.phase) e).1 refl)
    (λ e. quiet a now (Turn name up) refl))
acts-course c k a now (Command topic payload) fit = commanded-course a now topic payload (command_of c a.book topic payload) fit
acts-course c k a now (State payload) fit =
    by_if (Gives (Course a now (State payload))) (is_some c.primary) (heard_in c a now (state_at payload)) (Ok (nothing a))
    (λ e. heard-course c a now payload (state_at payload) fit) (λ e. quiet a now (State payload) refl)
acts-course c k a now Drain fit = draining-course c k a now a.store.items fit
acts-course c k a now Stop fit = away a now Stop (leaving c a) refl refl
acts-course c k a now Cut fit = away a now Cut (record (nothing a) { phase = Idle }) refl refl
acts-course c k a now TurnedAway fit =
    by_if (Course a now TurnedAway) (is_connecting a.phase) (record (nothing a) { close = true; phase = Idle }) (nothing a)
    (λ e. away a now TurnedAway (record (nothing a) { close = true; phase = Idle }) refl refl) (λ e. quiet a now TurnedAway refl)
acts-course c k a now Pass fit = quiet a now Pass refl

-- ---- the link

abbrev pub link_in : Phase → Link
link_in Idle = Closed
link_in Connecting = Asked
link_in Waiting = Joined
link_in Born = Joined

-- the link after an input is the one that its phase says
abbrev pub Links : rule.Asked → Act → Given → Type 0
Links a act g = cond g.close Closed (link_by act (link_in a.phase)) ≡ link_in g.phase

connecting-accepted : (p : Phase) → is_connecting p ≡ true → accepted_by (link_in p) ≡ Joined
connecting-accepted Idle e = absurd (true≢false (sym e))
connecting-accepted Connecting e = refl
connecting-accepted Waiting e = refl
connecting-accepted Born e = refl

joined-link : (p : Phase) → is_joined p ≡ true → link_in p ≡ Joined
joined-link Idle e = absurd (true≢false (sym e))
joined-link Connecting e = absurd (true≢false (sym e))
joined-link Waiting e = refl
joined-link Born e = refl

hearing-link : (c : Config) (a : rule.Asked) (now : ℕ) (payload : List ℕ) (heard : Heard) → is_joined a.phase ≡ true → Links a (State payload) (hearing c a now heard)
hearing-link c a now payload Online joined =
    by_if (Links a (State payload)) (is_waiting a.phase) (born a now (nothing a)) (nothing a) (λ e. joined-link a.phase joined) (λ e. refl)
hearing-link c a now payload Offline joined =
    by_if (Links a (State payload)) (is_born a.phase) (leaving c a) (nothing a) (λ e. refl) (λ e. refl)
hearing-link c a now payload Ignored joined = refl

heard-link : (c : Config) (a : rule.Asked) (now : ℕ) (payload : List ℕ) (s : Option read.State) → is_joined a.phase ≡ true → Gives (Links a (State payload)) (heard_in c a now s)
heard-link c a now payload None joined = tt
heard-link c a now payload (Some s) joined = hearing-link c a now payload (heard_as a.heard s) joined

commanded-link : (a : rule.Asked) (now : ℕ) (topic payload : List ℕ) (orders : Option (List Order)) → is_joined a.phase ≡ true → Gives (Links a (Command topic payload)) (commanded a now orders)
commanded-link a now topic payload None joined = tt
commanded-link a now topic payload (Some orders) joined =
    let g = record (nothing a) { writes = writes_in orders } in
    by_if (Links a (Command topic payload)) (wants_rebirth orders && is_born a.phase) (born a now g) g (λ e. joined-link a.phase joined) (λ e. refl)

draining-link : (c : Config) (k : ℕ) (a : rule.Asked) (now : ℕ) (changes : List ChangeData) → Links a Drain (draining c k a now changes)
draining-link c k a now [] = refl
draining-link c k a now (x ∷ xs) =
    by_if (Links a Drain) (owner_is_up a.book x.owner) _ _
    (λ e. by_if (Links a Drain) (nat_lt 0 (front_going c k a.book x.owner (later_stamp a.stamp now) (x ∷ xs))) _ _ (λ some. refl) (λ none. refl)) (λ e. refl)

acts-link : (c : Config) (k : ℕ) (a : rule.Asked) (now : ℕ) (act : Act) → fits a.phase act ≡ true → Gives (Links a act) (acts c k a now act)
acts-link c k a now Open fit = refl
acts-link c k a now Accepted fit =
    by_if (Links a Accepted) (is_some c.primary) (joining c a) (born a now (joining c a))
    (λ e. connecting-accepted a.phase fit) (λ e. connecting-accepted a.phase fit)
acts-link c k a now (Change alias value) fit =
    refused-gives (Links a (Change alias value)) (set_refusal a.book alias value) (changing a now alias value)
    (λ accepted. by_if (Links a (Change alias value)) (not (rule.is_same_value a.book alias value) && owner_is_up a.book (owner_at a.book alias)) (telling a now alias value) (nothing a)
    (λ e. by_if (Links a (Change alias value)) (is_born a.phase) _ _ (λ b. refl) (λ b. refl)) (λ e. refl))
acts-link c k a now (Changes changes) fit =
    faulted-gives (Links a (Changes changes)) (rule.changes_fault a.book changes) (several a now changes)
    (λ accepted. saying-gives (Links a (Changes changes)) a now (rule.owner_of a.book changes) (others_in a.book changes) refl (λ ys up. refl))
acts-link c k a now (Turn name up) fit =
    refused-gives (Links a (Turn name up)) (turn_refusal a.book name) (turning a now name up)
    (λ accepted. by_if (Links a (Turn name up)) (not (rule.is_so_already a.book name up) && is_born a.phase) _ (nothing a) (λ e. refl) (λ e. refl))
acts-link c k a now (Command topic payload) fit = commanded-link a now topic payload (command_of c a.book topic payload) fit
acts-link c k a now (State payload) fit =
    by_if (Gives (Links a (State payload))) (is_some c.primary) (heard_in c a now (state_at payload)) (Ok (nothing a))
    (λ e. heard-link c a now payload (state_at payload) fit) (λ e. refl)
acts-link c k a now Drain fit = draining-link c k a now a.store.items
acts-link c k a now Stop fit = refl
acts-link c k a now Cut fit = refl
acts-link c k a now TurnedAway fit =
    by_if (Links a TurnedAway) (is_connecting a.phase) (record (nothing a) { close = true; phase = Idle }) (nothing a) (λ e. refl) (λ e. refl)
acts-link c k a now Pass fit = refl

-- ---- the kept changes: no more are dropped than are kept

abbrev pub KeepsLaw : rule.Asked → Option (Call ChangeData) → Type 0
KeepsLaw a None = Unit {0}
KeepsLaw a (Some (Push x)) = Unit {0}
KeepsLaw a (Some (DropFront n is_lost)) = n ≤ length a.store.items

abbrev Keeps : rule.Asked → Given → Type 0
Keeps a g = KeepsLaw a g.store

pub front-few : (x : ChangeData) (xs : List ChangeData) → front_run (x ∷ xs) ≤ length (x ∷ xs)
front-few x xs = let e = prefix_len-le-length (have_one_owner x) (x ∷ xs) in omega (arith, e)

pub longest-few : (holds : ℕ → Bool) (n : ℕ) → longest holds n ≤ n
longest-few holds zero = omega arith
longest-few holds (suc n) =
    by_if (λ m. m ≤ suc n) (holds (suc n)) (suc n) (longest holds n) (λ e. omega arith) (λ e. let l = longest-few holds n in omega (arith, l))

draining-keeps : (c : Config) (k : ℕ) (a : rule.Asked) (now : ℕ) (changes : List ChangeData) → a.store.items ≡ changes → Keeps a (draining c k a now changes)
draining-keeps c k a now [] is = tt
draining-keeps c k a now (x ∷ xs) is =
    let few : front_run (x ∷ xs) ≤ length a.store.items = subst (λ (cs : List ChangeData). front_run (x ∷ xs) ≤ length cs) (sym is) (front-few x xs) in
    let one : 1 ≤ length a.store.items = subst (λ (cs : List ChangeData). 1 ≤ length cs) (sym is) (omega arith) in
    let going = longest-few (can_go c k a.book x.owner (later_stamp a.stamp now) (x ∷ xs)) (front_run (x ∷ xs)) in
    by_if (Keeps a) (owner_is_up a.book x.owner) _ _
    (λ e. by_if (Keeps a) (nat_lt 0 (front_going c k a.book x.owner (later_stamp a.stamp now) (x ∷ xs))) _ _ (λ some. omega (arith, few, going)) (λ none. one)) (λ e. few)

hearing-keeps : (c : Config) (a : rule.Asked) (now : ℕ) (heard : Heard) → Keeps a (hearing c a now heard)
hearing-keeps c a now Online = by_if (Keeps a) (is_waiting a.phase) (born a now (nothing a)) (nothing a) (λ e. tt) (λ e. tt)
hearing-keeps c a now Offline = by_if (Keeps a) (is_born a.phase) (leaving c a) (nothing a) (λ e. tt) (λ e. tt)
hearing-keeps c a now Ignored = tt

heard-keeps : (c : Config) (a : rule.Asked) (now : ℕ) (s : Option read.State) → Gives (Keeps a) (heard_in c a now s)
heard-keeps c a now None = tt
heard-keeps c a now (Some s) = hearing-keeps c a now (heard_as a.heard s)

commanded-keeps : (a : rule.Asked) (now : ℕ) (orders : Option (List Order)) → Gives (Keeps a) (commanded a now orders)
commanded-keeps a now None = tt
commanded-keeps a now (Some orders) =
    let g = record (nothing a) { writes = writes_in orders } in
    by_if (Keeps a) (wants_rebirth orders && is_born a.phase) (born a now g) g (λ e. tt) (λ e. tt)

acts-keeps : (c : Config) (k : ℕ) (a : rule.Asked) (now : ℕ) (act : Act) → Gives (Keeps a) (acts c k a now act)
acts-keeps c k a now Open = tt
acts-keeps c k a now Accepted = by_if (Keeps a) (is_some c.primary) (joining c a) (born a now (joining c a)) (λ e. tt) (λ e. tt)
acts-keeps c k a now (Change alias value) =
    refused-gives (Keeps a) (set_refusal a.book alias value) (changing a now alias value)
    (λ accepted. by_if (Keeps a) (not (rule.is_same_value a.book alias value) && owner_is_up a.book (owner_at a.book alias)) (telling a now alias value) (nothing a)
    (λ e. by_if (Keeps a) (is_born a.phase) _ _ (λ b. tt) (λ b. tt)) (λ e. tt))
acts-keeps c k a now (Changes changes) =
    faulted-gives (Keeps a) (rule.changes_fault a.book changes) (several a now changes)
    (λ accepted. saying-gives (Keeps a) a now (rule.owner_of a.book changes) (others_in a.book changes) tt (λ ys up. tt))
acts-keeps c k a now (Turn name up) =
    refused-gives (Keeps a) (turn_refusal a.book name) (turning a now name up)
    (λ accepted. by_if (Keeps a) (not (rule.is_so_already a.book name up) && is_born a.phase) _ (nothing a) (λ e. tt) (λ e. tt))
acts-keeps c k a now (Command topic payload) = commanded-keeps a now (command_of c a.book topic payload)
acts-keeps c k a now (State payload) =
    by_if (Gives (Keeps a)) (is_some c.primary) (heard_in c a now (state_at payload)) (Ok (nothing a)) (λ e. heard-keeps c a now (state_at payload)) (λ e. tt)
acts-keeps c k a now Drain = draining-keeps c k a now a.store.items refl
acts-keeps c k a now Stop = tt
acts-keeps c k a now Cut = tt
acts-keeps c k a now TurnedAway = by_if (Keeps a) (is_connecting a.phase) (record (nothing a) { close = true; phase = Idle }) (nothing a) (λ e. tt) (λ e. tt)
acts-keeps c k a now Pass = tt

-- ---- all of it of what the rules give

pub record Lawful (a : rule.Asked) (i : Input) (g : Given) : Type 0 where
  pub course : Course a i.now i.act g
  pub links : Links a i.act g
  pub keeps : KeepsLaw a g.store

acked-course : (a : rule.Asked) (now : ℕ) (act : Act) (ack : Option ℕ) (g : Given) → Course a now act g → Course a now act (acked ack g)
acked-course a now act None g course = course
acked-course a now act (Some id) g (Quiet e p) = Quiet e p
acked-course a now act (Some id) g (One d e o s b k n) = One d e o s b k n
acked-course a now act (Some id) g (Births e b k n) = Births e b k n

acked-links : (a : rule.Asked) (act : Act) (ack : Option ℕ) (g : Given) → Links a act g → Links a act (acked ack g)
acked-links a act None g links = links
acked-links a act (Some id) g links = links

acked-keeps : (a : rule.Asked) (ack : Option ℕ) (g : Given) → Keeps a g → Keeps a (acked ack g)
acked-keeps a None g keeps = keeps
acked-keeps a (Some id) g keeps = keeps

pub rules-lawful : (c : Config) (k : ℕ) (a : rule.Asked) (i : Input) (g : Given) → rules c k a i ≡ Ok g → Lawful a i g
rules-lawful c k a i g is =
    let t = rules-taken c k a i g is in
    subst (λ g. Lawful a i g) (sym t.is) (record {
      course = acked-course a i.now i.act i.ack t.given (subst (Gives (Course a i.now i.act)) t.acted (acts-course c k a i.now i.act t.fitting));
      links = acked-links a i.act i.ack t.given (subst (Gives (Links a i.act)) t.acted (acts-link c k a i.now i.act t.fitting));
      keeps = acked-keeps a i.ack t.given (subst (Gives (Keeps a)) t.acted (acts-keeps c k a i.now i.act));
    })
