-- What a node publishes is past the stamp that it was made with, and of sessions that it opened.
use Rattle.std.proofs.Common.{◌≡◌, ℕ, ◌^◌, Bool, true, false, cond, not, ◌&&◌, nat_lt, List, [], ◌∷◌, Option, Some, None, is_some, Result, Ok, Err, refl, sym, ◌∙◌, ap, subst}
use Rattle.std.specs.List.{list_all}
use Rattle.std.proofs.lemmas.Bool.{true≢false}
use Rattle.spk_payload.specs.Typing.{Typed}
use Rattle.spk_device.specs.Step.{set_refusal, turn_refusal}
use Rattle.spk_device.specs.declared.fault.Refusal.{Refusal}
use Rattle.spk_device.specs.declared.owner.Owner.{Owner}
use Rattle.spk_state.specs.Step.{heard_as}
use Rattle.spk_state.specs.Text.{state_at}
use Rattle.spk_state.specs.declared.primary.Heard.{Heard}
use Rattle.spk_state.specs.declared.primary.Heard.TheVariants.{Online, Offline, Ignored}
use Rattle.spk_state.specs.declared.state.State as read
use Rattle.spk_edge_rules.specs.declared.fault.EdgeFault.{EdgeFault}
use Rattle.spk_edge_rules.specs.declared.fault.EdgeFault.TheVariants as fault
use Rattle.spk_edge_rules.specs.Answers.{Answer, checked}
use Rattle.spk_edge_rules.specs.Births.{birth_stamp, owner_at, owner_is_up}
use Rattle.spk_edge_rules.specs.Commands.{Order, command_of, wants_rebirth, writes_in}
use Rattle.spk_edge_rules.specs.Config.{Config, Setup}
use Rattle.spk_edge_rules.specs.History.{front_going}
use Rattle.spk_edge_rules.specs.Inputs.{Act, Open, Accepted, Change, Changes, Turn, Command, State, Drain, Stop, Cut, TurnedAway, Pass, Input, ChangeData}
use Rattle.spk_edge_rules.specs.Messages.{Draft, opens}
use Rattle.spk_edge_rules.specs.Rules as rule
use Rattle.spk_edge_rules.specs.Rules.{Given, is_born, is_connecting, is_waiting, on_ok, rules}
use Rattle.spk_edge_rules.specs.Run.{Done, asked_of, next_number, packets_of, right_at}
use Rattle.spk_edge_rules.specs.Writable.{is_writable}

-- ---- an NBIRTH that stands first in an answer has the stamp of a birth

pub record Fits (a : rule.Asked) (now : ℕ) (g : Given) : Type 0 where
  pub fits : (d : Draft) (ds : List Draft) → g.drafts ≡ d ∷ ds → opens d ≡ true → d.stamp ≡ birth_stamp a.stamp now

abbrev FitsIn : rule.Asked → ℕ → Result Given EdgeFault → Type 0
FitsIn a now (Ok g) = Fits a now g
FitsIn a now (Err f) = Unit {0}

-- nothing is published
quiet : (a : rule.Asked) (now : ℕ) (g : Given) → g.drafts ≡ [] → Fits a now g
quiet a now g none = record { fits = λ d ds is opening. absurd (let x : [] ≡ d ∷ ds = sym none ∙ is in cc) }

-- one message that isn't an NBIRTH
other : (a : rule.Asked) (now : ℕ) (g : Given) (e : Draft) → g.drafts ≡ e ∷ [] → opens e ≡ false → Fits a now g
other a now g e one closed = record {
  fits = λ d ds is opening.
      let same : e ≡ d = (let x : e ∷ [] ≡ d ∷ ds = sym one ∙ is in cc) in
      absurd (true≢false (sym opening ∙ ap opens (sym same) ∙ closed));
}

same-head : (x y : Draft) (xs ys : List Draft) → x ∷ xs ≡ y ∷ ys → x ≡ y
same-head x y xs ys e = cc

-- the births
births : (a : rule.Asked) (now : ℕ) (g : Given) → Fits a now (rule.born a now g)
births a now g = record { fits = λ d ds is opening. sym (ap (λ (x : Draft). x.stamp) (same-head _ d _ ds is)) }

either : (a : rule.Asked) (now : ℕ) (b : Bool) (g k : Given) → Fits a now g → Fits a now k → Fits a now (cond b g k)
either a now true g k x y = x
either a now false g k x y = y

chosen : (a : rule.Asked) (now : ℕ) (b : Bool) (r t : Result Given EdgeFault) → FitsIn a now r → FitsIn a now t → FitsIn a now (cond b r t)
chosen a now true r t x y = x
chosen a now false r t x y = y

refused_or : (a : rule.Asked) (now : ℕ) (o : Option Refusal) (g : Given) → Fits a now g → FitsIn a now (rule.refused_or o g)
refused_or a now (Some refusal) g x = tt
refused_or a now None g x = x

turned : (a : rule.Asked) (now : ℕ) (name : List ℕ) (up : Bool) → Fits a now (rule.turning a now name up)
turned a now name true = either a now (not (rule.is_so_already a.book name true) && is_born a.phase) _ (rule.nothing a) (other a now _ _ refl refl) (quiet a now (rule.nothing a) refl)
turned a now name false = either a now (not (rule.is_so_already a.book name false) && is_born a.phase) _ (rule.nothing a) (other a now _ _ refl refl) (quiet a now (rule.nothing a) refl)

told : (a : rule.Asked) (now alias : ℕ) (value : Option Typed) → Fits a now (rule.telling a now alias value)
told a now alias value = either a now (is_born a.phase) _ _ (other a now _ _ refl refl) (quiet a now _ refl)

changed : (a : rule.Asked) (now alias : ℕ) (value : Option Typed) → Fits a now (rule.changing a now alias value)
changed a now alias value =
    either a now (not (rule.is_same_value a.book alias value) && owner_is_up a.book (owner_at a.book alias)) (rule.telling a now alias value) (rule.nothing a) (told a now alias value) (quiet a now (rule.nothing a) refl)

faulted_or : (a : rule.Asked) (now : ℕ) (o : Option EdgeFault) (g : Given) → Fits a now g → FitsIn a now (rule.faulted_or o g)
faulted_or a now (Some f) g x = tt
faulted_or a now None g x = x

said : (a : rule.Asked) (now : ℕ) (owner : Owner) (changes : List (ℕ × Option Typed)) → Fits a now (rule.saying a now owner changes)
said a now owner [] = quiet a now (rule.nothing a) refl
said a now owner (x ∷ xs) = either a now (owner_is_up a.book owner) _ (rule.nothing a) (other a now _ _ refl refl) (quiet a now (rule.nothing a) refl)

obeyed : (a : rule.Asked) (now : ℕ) (orders : List Order) → Fits a now (rule.obeying a now orders)
obeyed a now orders =
    let g : Given = record (rule.nothing a) { writes = writes_in orders } in
    either a now (wants_rebirth orders && is_born a.phase) (rule.born a now g) g (births a now g) (quiet a now g refl)

commanded : (a : rule.Asked) (now : ℕ) (o : Option (List Order)) → FitsIn a now (rule.commanded a now o)
commanded a now None = tt
commanded a now (Some orders) = obeyed a now orders

heard : (c : Config) (a : rule.Asked) (now : ℕ) (h : Heard) → Fits a now (rule.hearing c a now h)
heard c a now Online = either a now (is_waiting a.phase) _ (rule.nothing a) (births a now (rule.nothing a)) (quiet a now (rule.nothing a) refl)
heard c a now Offline = either a now (is_born a.phase) (rule.leaving c a) (rule.nothing a) (quiet a now (rule.leaving c a) refl) (quiet a now (rule.nothing a) refl)
heard c a now Ignored = quiet a now (rule.nothing a) refl

heard_in : (c : Config) (a : rule.Asked) (now : ℕ) (o : Option read.State) → FitsIn a now (rule.heard_in c a now o)
heard_in c a now None = tt
heard_in c a now (Some s) = heard c a now (heard_as a.heard s)

sent : (a : rule.Asked) (now : ℕ) (owner : Owner) (stamp : ℕ) (changes : List ChangeData) (n : ℕ) → Fits a now (rule.sending a owner stamp changes n)
sent a now owner stamp changes n = either a now (nat_lt 0 n) _ _ (other a now _ _ refl refl) (quiet a now _ refl)

drained : (c : Config) (number : ℕ) (a : rule.Asked) (now : ℕ) (changes : List ChangeData) → Fits a now (rule.draining c number a now changes)
drained c number a now [] = quiet a now (rule.nothing a) refl
drained c number a now (x ∷ xs) =
    either a now (owner_is_up a.book x.owner) _ _
    (sent a now x.owner _ (x ∷ xs) (front_going c number a.book x.owner _ (x ∷ xs))) (quiet a now _ refl)

acted : (c : Config) (number : ℕ) (a : rule.Asked) (now : ℕ) (act : Act) → FitsIn a now (rule.acts c number a now act)
acted c number a now Open = quiet a now (rule.opening c a now) refl
acted c number a now Accepted = either a now (is_some c.primary) (rule.joining c a) _ (quiet a now (rule.joining c a) refl) (births a now (rule.joining c a))
acted c number a now (Change alias value) = refused_or a now (set_refusal a.book alias value) (rule.changing a now alias value) (changed a now alias value)
acted c number a now (Changes changes) = faulted_or a now (rule.changes_fault a.book changes) (rule.several a now changes) (said a now (rule.owner_of a.book changes) (rule.others_in a.book changes))
acted c number a now (Turn name up) = refused_or a now (turn_refusal a.book name) (rule.turning a now name up) (turned a now name up)
acted c number a now (Command topic payload) = commanded a now (command_of c a.book topic payload)
acted c number a now (State payload) = chosen a now (is_some c.primary) (rule.heard_in c a now (state_at payload)) (Ok (rule.nothing a)) (heard_in c a now (state_at payload)) (quiet a now (rule.nothing a) refl)
acted c number a now Drain = drained c number a now a.store.items
acted c number a now Stop = quiet a now (rule.leaving c a) refl
acted c number a now Cut = quiet a now _ refl
acted c number a now TurnedAway = either a now (is_connecting a.phase) _ (rule.nothing a) (quiet a now _ refl) (quiet a now (rule.nothing a) refl)
acted c number a now Pass = quiet a now (rule.nothing a) refl

acked : (a : rule.Asked) (now : ℕ) (ack : Option ℕ) (g : Given) → Fits a now g → Fits a now (rule.acked ack g)
acked a now None g x = x
acked a now (Some id) g x = record { fits = x.fits }

after_all : (a : rule.Asked) (now : ℕ) (ack : Option ℕ) (r : Result Given EdgeFault) → FitsIn a now r → FitsIn a now (on_ok r (λ g. rule.timely (rule.acked ack g)))
after_all a now ack (Err f) x = tt
after_all a now ack (Ok g) x = chosen a now (rule.is_timely (rule.acked ack g)) (Ok (rule.acked ack g)) (Err fault.ClockEnd) (acked a now ack g x) tt

ruled : (c : Config) (number : ℕ) (a : rule.Asked) (i : Input) → FitsIn a i.now (rules c number a i)
ruled c number a i =
    chosen a i.now (not (rule.fits a.phase i.act)) (Err fault.WrongPhase) _ tt
    (chosen a i.now (not (nat_lt i.now (2 ^ 63))) (Err fault.ClockEnd) _ tt (after_all a i.now i.ack (rule.acts c number a i.now i.act) (acted c number a i.now i.act)))

-- what was answered was given by the rules
pub answered : (s : Setup) (h : List Done) (i : Input) (answer : Answer) → right_at s h i ≡ Ok answer → Fits (asked_of s h) i.now answer.given
answered s h i answer = by (rules s.config (next_number s h) (asked_of s h) i) (ruled s.config (next_number s h) (asked_of s h) i)
  where
    writable : (g : Given) (b : Bool) → cond b (Ok (record { given = g; packets = packets_of s h g })) (Err fault.TooLarge) ≡ Ok answer → Fits (asked_of s h) i.now g → Fits (asked_of s h) i.now answer.given
    writable g true e x =
        let mine : Answer = record { given = g; packets = packets_of s h g } in
        let same : mine ≡ answer = cc in
        subst (λ (a : Answer). Fits (asked_of s h) i.now a.given) same x
    writable g false e x = absurd (let y : ⊥ = cc in y)

    by : (r : Result Given EdgeFault) → FitsIn (asked_of s h) i.now r → on_ok r (λ g. checked g (packets_of s h g)) ≡ Ok answer → Fits (asked_of s h) i.now answer.given
    by (Ok g) x e = writable g (list_all is_writable (packets_of s h g)) e x
    by (Err f) x e = absurd (let y : ⊥ = cc in y)
