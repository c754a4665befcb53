-- Each DISCONNECT stands behind the NDEATH of its session.
use Rattle.std.proofs.Common.{◌≡◌, ◌⊎◌, ℕ, ◌+◌, ◌-◌, Bool, true, false, not, ◌&&◌, ◌||◌, cond, List, [], ◌∷◌, ◌++◌, Option, Some, None, is_some, Result, Ok, Err, refl, sym, ◌∙◌, ap, subst, inl, inr, nat_lt}
use Rattle.std.specs.List.{list_all, list_any}
use Rattle.std.proofs.lemmas.Bool.{true≢false}
use Rattle.std.proofs.lemmas.List.{append-nil}
use Rattle.spk_packets.specs.Message as packets
use Rattle.spk_device.specs.Step.{set_refusal, turn_refusal}
use Rattle.spk_state.specs.Step.{heard_as}
use Rattle.spk_state.specs.Text.{state_at}
use Rattle.spk_state.specs.declared.primary.Heard.{Heard}
use Rattle.spk_state.specs.declared.primary.Heard.TheVariants.{Online, Offline, Ignored}
use Rattle.spk_state.specs.declared.state.State as read
use Rattle.spk_edge_rules.specs.declared.fault.EdgeFault.{EdgeFault}
use Rattle.spk_edge_rules.specs.declared.fault.EdgeFault.TheVariants.{TooLarge}
use Rattle.spk_edge_rules.specs.declared.phase.Phase.TheVariants.{Idle}
use Rattle.spk_edge_rules.specs.Answers.{Answer, checked}
use Rattle.spk_edge_rules.specs.Writable.{is_writable}
use Rattle.spk_edge_rules.specs.Births.{later_stamp, owner_at, owner_is_up}
use Rattle.spk_edge_rules.specs.Claims.{is_disconnect}
use Rattle.spk_edge_rules.specs.Commands.{Order, command_of, wants_rebirth, writes_in}
use Rattle.spk_edge_rules.specs.Config.{Config, Setup}
use Rattle.spk_edge_rules.specs.History.{front_going}
use Rattle.spk_edge_rules.specs.Inputs.{Act, Open, Accepted, Change, Changes, Turn, Command, State, Drain, Stop, Cut, TurnedAway, Pass, Input, ChangeData}
use Rattle.spk_edge_rules.specs.Messages.{Draft}
use Rattle.spk_edge_rules.specs.Packets.{farewell}
use Rattle.spk_edge_rules.specs.Rules as rule
use Rattle.spk_edge_rules.specs.Rules.{Given, acked, acts, born, changing, commanded, draining, heard_in, hearing, is_born, is_connecting, is_so_already, is_waiting, joining, leaving, nothing, on_ok, rules, telling, turning}
use Rattle.spk_edge_rules.specs.Run.{Done, Message, asked_of, next_number, opened, opened_at, packets_of, right_at, run_of, session_number, wires_at}
use Rattle.spk_edge_rules.proofs.Courses.{by_if, faulted-gives, Gives, refused-gives, rules-taken, saying-gives}
use Rattle.spk_edge_rules.proofs.Records.{right-given}

-- packets that end with the farewell of the session, and no message; or no DISCONNECT
abbrev Leaves : Config → rule.Asked → Given → Type 0
Leaves c a g = ((front : List packets.Message) × (g.plain ≡ front ++ farewell c a.will_bd a.will_time) × (g.drafts ≡ [])) ⊎ (list_any is_disconnect g.plain ≡ false)

hearing-leaves : (c : Config) (a : rule.Asked) (now : ℕ) (heard : Heard) → Leaves c a (hearing c a now heard)
hearing-leaves c a now Online = by_if (Leaves c a) (is_waiting a.phase) (born a now (nothing a)) (nothing a) (λ e. inr refl) (λ e. inr refl)
hearing-leaves c a now Offline = by_if (Leaves c a) (is_born a.phase) (leaving c a) (nothing a) (λ e. inl ([], refl, refl)) (λ e. inr refl)
hearing-leaves c a now Ignored = inr refl

heard-leaves : (c : Config) (a : rule.Asked) (now : ℕ) (s : Option read.State) → Gives (Leaves c a) (heard_in c a now s)
heard-leaves c a now None = tt
heard-leaves c a now (Some s) = hearing-leaves c a now (heard_as a.heard s)

commanded-leaves : (c : Config) (a : rule.Asked) (now : ℕ) (orders : Option (List Order)) → Gives (Leaves c a) (commanded a now orders)
commanded-leaves c a now None = tt
commanded-leaves c a now (Some orders) =
    let g = record (nothing a) { writes = writes_in orders } in
    by_if (Leaves c a) (wants_rebirth orders && is_born a.phase) (born a now g) g (λ e. inr refl) (λ e. inr refl)

draining-leaves : (c : Config) (k : ℕ) (a : rule.Asked) (now : ℕ) (changes : List ChangeData) → Leaves c a (draining c k a now changes)
draining-leaves c k a now [] = inr refl
draining-leaves c k a now (x ∷ xs) =
    by_if (Leaves c a) (owner_is_up a.book x.owner) _ _
    (λ e. by_if (Leaves c a) (nat_lt 0 (front_going c k a.book x.owner (later_stamp a.stamp now) (x ∷ xs))) _ _ (λ some. inr refl) (λ none. inr refl)) (λ e. inr refl)

acts-leave : (c : Config) (k : ℕ) (a : rule.Asked) (now : ℕ) (act : Act) → Gives (Leaves c a) (acts c k a now act)
acts-leave c k a now Open = inr refl
acts-leave c k a now Accepted = by_if (Leaves c a) (is_some c.primary) (joining c a) (born a now (joining c a)) (λ e. inr refl) (λ e. inr refl)
acts-leave c k a now (Change alias value) =
    refused-gives (Leaves c a) (set_refusal a.book alias value) (changing a now alias value)
    (λ accepted. by_if (Leaves c a) (not (rule.is_same_value a.book alias value) && owner_is_up a.book (owner_at a.book alias)) (telling a now alias value) (nothing a)
    (λ e. by_if (Leaves c a) (is_born a.phase) _ _ (λ b. inr refl) (λ b. inr refl)) (λ e. inr refl))
acts-leave c k a now (Changes changes) =
    faulted-gives (Leaves c a) (rule.changes_fault a.book changes) (rule.several a now changes)
    (λ accepted. saying-gives (Leaves c a) a now (rule.owner_of a.book changes) (rule.others_in a.book changes) (inr refl) (λ ys up. inr refl))
acts-leave c k a now (Turn name up) =
    refused-gives (Leaves c a) (turn_refusal a.book name) (turning a now name up)
    (λ accepted. by_if (Leaves c a) (not (is_so_already a.book name up) && is_born a.phase) _ (nothing a) (λ e. inr refl) (λ e. inr refl))
acts-leave c k a now (Command topic payload) = commanded-leaves c a now (command_of c a.book topic payload)
acts-leave c k a now (State payload) =
    by_if (Gives (Leaves c a)) (is_some c.primary) (heard_in c a now (state_at payload)) (Ok (nothing a)) (λ e. heard-leaves c a now (state_at payload)) (λ e. inr refl)
acts-leave c k a now Drain = draining-leaves c k a now a.store.items
acts-leave c k a now Stop = inl ([], refl, refl)
acts-leave c k a now Cut = inr refl
acts-leave c k a now TurnedAway = by_if (Leaves c a) (is_connecting a.phase) (record (nothing a) { close = true; phase = Idle }) (nothing a) (λ e. inr refl) (λ e. inr refl)
acts-leave c k a now Pass = inr refl

acked-leaves : (c : Config) (a : rule.Asked) (ack : Option ℕ) (g : Given) → Leaves c a g → Leaves c a (acked ack g)
acked-leaves c a None g leaves = leaves
acked-leaves c a (Some id) g (inl (front, is, none)) = inl (packets.PubAck id ∷ front, ap (λ (l : List packets.Message). packets.PubAck id ∷ l) is, none)
acked-leaves c a (Some id) g (inr quiet) = inr quiet

rules-leave : (c : Config) (k : ℕ) (a : rule.Asked) (i : Input) (g : Given) → rules c k a i ≡ Ok g → Leaves c a g
rules-leave c k a i g is =
    let t = rules-taken c k a i g is in
    subst (Leaves c a) (sym t.is) (acked-leaves c a i.ack t.given (subst (Gives (Leaves c a)) t.acted (acts-leave c k a i.now i.act)))

-- ---- the packets of an answer

abbrev gave : Answer → Result Answer EdgeFault
gave a = Ok a

right-packets : (s : Setup) (h : List Done) (i : Input) (answer : Answer) → right_at s h i ≡ Ok answer → answer.packets ≡ packets_of s h answer.given
right-packets s h i answer = by (rules s.config (next_number s h) (asked_of s h) i)
  where
    writable : (g : Given) (b : Bool) → cond b (gave (record { given = g; packets = packets_of s h g })) (Err TooLarge) ≡ Ok answer → answer.packets ≡ packets_of s h answer.given
    writable g true e =
        let mine : Answer = record { given = g; packets = packets_of s h g } in
        let same : mine ≡ answer = cc in
        ap (λ (a : Answer). a.packets) (sym same) ∙ ap (λ (a : Answer). packets_of s h a.given) same
    writable g false e = absurd (let x : ⊥ = cc in x)

    by : (r : Result Given EdgeFault) → on_ok r (λ g. checked g (packets_of s h g)) ≡ Ok answer → answer.packets ≡ packets_of s h answer.given
    by (Ok g) e = writable g (list_all is_writable (packets_of s h g)) e
    by (Err f) e = absurd (let x : ⊥ = cc in x)

no-more : (xs ys : List packets.Message) → list_any is_disconnect xs ≡ false → list_any is_disconnect ys ≡ false → list_any is_disconnect (xs ++ ys) ≡ false
no-more [] ys a b = b
no-more (x ∷ xs) ys a b = by (is_disconnect x) a (no-more xs ys)
  where
    by : (c : Bool) → (c || list_any is_disconnect xs) ≡ false → (list_any is_disconnect xs ≡ false → list_any is_disconnect ys ≡ false → list_any is_disconnect (xs ++ ys) ≡ false)
        → (c || list_any is_disconnect (xs ++ ys)) ≡ false
    by true e more = absurd (true≢false e)
    by false e more = more e b

no-wires : (s : Setup) (messages : List Message) (ds : List Draft) (p : ℕ) → list_any is_disconnect (wires_at s messages p ds) ≡ false
no-wires s messages [] p = refl
no-wires s messages (d ∷ ds) p = no-wires s messages ds (p + 1)

pub disconnects : (s : Setup) (is : List Input) (i : Input) (answer : Answer) → right_at s (run_of s is) i ≡ Ok answer → list_any is_disconnect answer.packets ≡ true
    → (front : List packets.Message) × (answer.packets ≡ front ++ farewell s.config (session_number s (opened (run_of s is) - 1)) (opened_at (run_of s is)))
disconnects s is i answer e some = by (rules-leave s.config (next_number s (run_of s is)) (asked_of s (run_of s is)) i answer.given (right-given s (run_of s is) i answer e))
  where
    by : Leaves s.config (asked_of s (run_of s is)) answer.given
        → (front : List packets.Message) × (answer.packets ≡ front ++ farewell s.config (session_number s (opened (run_of s is) - 1)) (opened_at (run_of s is)))
    by (inl (front, is_last, none)) =
        (front, right-packets s (run_of s is) i answer e ∙ same answer.given none ∙ is_last)
      where
        same : (g : Given) → g.drafts ≡ [] → packets_of s (run_of s is) g ≡ g.plain
        same g none = ap (λ (ds : List Draft). packets_of s (run_of s is) (record g { drafts = ds })) none ∙ append-nil g.plain
    by (inr quiet) =
        absurd (true≢false (sym some ∙ ap (list_any is_disconnect) (right-packets s (run_of s is) i answer e)
        ∙ no-more answer.given.plain _ quiet (no-wires s _ answer.given.drafts _)))

-- a stop gives the farewell alone
pub stops : (s : Setup) (is : List Input) (i : Input) (answer : Answer) → i.act ≡ Stop → i.ack ≡ None → right_at s (run_of s is) i ≡ Ok answer
    → answer.packets ≡ farewell s.config (session_number s (opened (run_of s is) - 1)) (opened_at (run_of s is))
stops s is i answer stop plain e =
    let a = asked_of s (run_of s is) in
    let k = next_number s (run_of s is) in
    let t = rules-taken s.config k a i answer.given (right-given s (run_of s is) i answer e) in
    let acted : (let r : Result Given EdgeFault = Ok (leaving s.config a) in r) ≡ Ok t.given = sym (ap (acts s.config k a i.now) stop) ∙ t.acted in
    let left : leaving s.config a ≡ t.given = cc in
    let given : answer.given ≡ leaving s.config a = t.is ∙ ap (λ ack. acked ack t.given) plain ∙ sym left in
    right-packets s (run_of s is) i answer e ∙ ap (packets_of s (run_of s is)) given ∙ append-nil (farewell s.config a.will_bd a.will_time)
