-- A plan answers what the rules ask.
use Rattle.std.proofs.Common.{◌⊎◌, ◌≡◌, inl, inr, ◌∙◌, ap, sym, refl, subst, ℕ, ◌+◌, ◌%◌, ◌^◌, min, length, arith, nat_lt, Bool, true, false, not, ◌&&◌, cond, List, [], ◌∷◌, ◌++◌, map, Option, Some, None, Result, Ok, Err}
use Rattle.std.specs.Prelude.{IfOk, IfErr}
use Rattle.std.specs.List.{last_or, list_all}
use Rattle.spk_packets.specs.Message as packets
use Rattle.spk_packets.specs.Spelling.{spelling}
use Rattle.spk_device.specs.Book.{Book}
use Rattle.spk_device.specs.Calls.{unless_refused}
use Rattle.spk_device.specs.Step.{set_refusal, turn_refusal, with_turn, with_value}
use Rattle.spk_device.specs.declared.fault.Refusal.{Refusal}
use Rattle.spk_sequence.specs.NodeRecord.{Numbering, RunsOn, Restarts}
use Rattle.spk_store.specs.Step.{after_drop}
use Rattle.spk_edge_rules.specs.declared.fault.EdgeFault.{EdgeFault}
use Rattle.spk_edge_rules.specs.declared.fault.EdgeFault.TheVariants as fault
use Rattle.spk_edge_rules.specs.Answers.{Answer, checked}
use Rattle.spk_edge_rules.specs.Writable.{is_writable}
use Rattle.spk_edge_rules.specs.Commands.{Order, command_of}
use Rattle.spk_edge_rules.specs.Config.{Config}
use Rattle.spk_edge_rules.specs.Inputs as inputs
use Rattle.spk_edge_rules.specs.Inputs.{ChangeData}
use Rattle.spk_edge_rules.specs.Messages.{Draft, opens, wire}
use Rattle.spk_edge_rules.specs.Rules as rule
use Rattle.spk_edge_rules.specs.Rules.{acked, acts, fits, is_timely, on_ok, rules, timely}
use Rattle.spk_edge_rules.specs.Step as step
use Rattle.spk_edge_rules.proofs.Courses.{KeepsLaw, rules-lawful}
use Rattle.spk_edge_rules.proofs.Known as known
use Rattle.spk_edge.specs.Patch.{IsDone, IsGivenBy, IsPlan, IsRefusal, IsRefusedBy, IsSealed, IsUnsealed, IsSetBy, acked_data, are_timely, kept_after, packets_of, patched, setting_book}
use Rattle.spk_edge.specs.Sealing as seal
use Rattle.spk_edge.specs.Sealing.{AllKnown, numbered, bytes_of, seq_past, wire_of, with_number}
use Rattle.spk_edge.specs.View.{GivenData, MessageData, NodeData, act_view, given_of, given_view, input_view, keeping_view, unnumbered, write_view}
use Rattle.spk_edge.specs.declared.input.Act.{Act}
use Rattle.spk_edge.specs.declared.input.Input.{Input}
use Rattle.spk_edge.specs.declared.message.Given.{Given}
use Rattle.spk_edge.specs.declared.message.Keeping.{Keeping}
use Rattle.spk_edge.specs.declared.message.Out.{Out}
use Rattle.spk_edge.specs.declared.plan.Plan.{Plan}
use Rattle.spk_edge.specs.declared.plan.Setting.{Setting}

-- ---- messages

same-anew : (numbering : Numbering) (d : Draft) → seal.begins_anew numbering (opens d) ≡ step.begins_anew numbering d
same-anew RunsOn d = refl
same-anew Restarts d = refl

pub same-number : (c : Config) (seq : ℕ) (d : Draft) → seal.number_in c.numbering seq (unnumbered c d) ≡ step.number_of c seq d
same-number c seq d = ap (λ b. cond b 0 seq) (same-anew c.numbering d)

pub wires-are : (c : Config) (seq : ℕ) (ds : List Draft) → map wire_of (numbered c.numbering seq (map (unnumbered c) ds)) ≡ step.wires c seq ds
wires-are c seq [] = refl
wires-are c seq (d ∷ ds) =
    ap (λ n. wire c n d ∷ map wire_of (numbered c.numbering ((n + 1) % 256) (map (unnumbered c) ds))) (same-number c seq d)
    ∙ ap (λ (l : List packets.Message). wire c (step.number_of c seq d) d ∷ l) (wires-are c (step.next_of c seq d) ds)

pub seqs-are : (c : Config) (seq : ℕ) (ds : List Draft) → seq_past c.numbering seq (map (unnumbered c) ds) ≡ step.seq_after c seq ds
seqs-are c seq [] = refl
seqs-are c seq (d ∷ ds) =
    ap (λ n. seq_past c.numbering ((n + 1) % 256) (map (unnumbered c) ds)) (same-number c seq d) ∙ seqs-are c (step.next_of c seq d) ds

stamps-are : (c : Config) (seq : ℕ) (ds : List Draft) → map (λ (m : MessageData). m.stamp) (numbered c.numbering seq (map (unnumbered c) ds)) ≡ map (λ (d : Draft). d.stamp) ds
stamps-are c seq [] = refl
stamps-are c seq (d ∷ ds) = ap (λ (l : List ℕ). d.stamp ∷ l) (stamps-are c (seal.next_in c.numbering seq (unnumbered c d)) ds)

timely-are : (c : Config) (ds : List Draft) → are_timely (map (unnumbered c) ds) ≡ list_all (λ (d : Draft). nat_lt d.stamp (2 ^ 63)) ds
timely-are c [] = refl
timely-are c (d ∷ ds) = ap (λ b. nat_lt d.stamp (2 ^ 63) && b) (timely-are c ds)

known-are : (c : Config) (ds : List Draft) → known.DraftsKnown ds → AllKnown (map (unnumbered c) ds)
known-are c [] all = tt
known-are c (d ∷ ds) all = (all.0, known-are c ds all.1)

-- what is given is known
pub given-known : (n : NodeData) (i : inputs.Input) (g : Given) (ack : Option ℕ) (g' : Given) → IsGivenBy n i g → given_view g' ≡ acked_data ack (given_view g) → AllKnown (given_view g').messages
given-known n i g ack g' given is =
    let all = known-are n.config given.given.drafts (known.given-known n.config n.standing.seq n.standing.asked i.now i.act given.given given.acted) in
    subst (λ (g : GivenData). AllKnown g.messages) (sym (is ∙ ap (acked_data ack) given.is)) (by ack all)
  where
    by : (ack : Option ℕ) → AllKnown (map (unnumbered n.config) given.given.drafts) → AllKnown (acked_data ack (given_of n.config (step.heard_after n.config n.standing.asked.heard i.act) given.given)).messages
    by None all = all
    by (Some id) all = all

acked-is : (c : Config) (heard : Option ℕ) (ack : Option ℕ) (g : rule.Given) → acked_data ack (given_of c heard g) ≡ given_of c heard (acked ack g)
acked-is c heard None g = refl
acked-is c heard (Some id) g = refl

-- ---- the rules

rules-are : (c : Config) (k : ℕ) (a : rule.Asked) (i : inputs.Input) (r : Result rule.Given EdgeFault) → fits a.phase i.act ≡ true → nat_lt i.now (2 ^ 63) ≡ true → acts c k a i.now i.act ≡ r
    → rules c k a i ≡ on_ok r (λ g. timely (acked i.ack g))
rules-are c k a i r fit now is =
    ap (λ b. cond (not b) (Err fault.WrongPhase) (cond (not (nat_lt i.now (2 ^ 63))) (Err fault.ClockEnd) (on_ok (acts c k a i.now i.act) (λ g. timely (acked i.ack g))))) fit
    ∙ ap (λ b. cond (not b) (Err fault.ClockEnd) (on_ok (acts c k a i.now i.act) (λ g. timely (acked i.ack g)))) now
    ∙ ap (λ r. on_ok r (λ g. timely (acked i.ack g))) is

abbrev pub answered : NodeData → Result rule.Given EdgeFault → Result Answer EdgeFault
answered n r = on_ok r (λ g. checked g (g.plain ++ step.wires n.config n.standing.seq g.drafts))

abbrev gave : rule.Given → Result rule.Given EdgeFault
gave g = Ok g

abbrev refused : EdgeFault → Result rule.Given EdgeFault
refused e = Err e

pub wrong_phase : (n : NodeData) (i : inputs.Input) → fits n.standing.asked.phase i.act ≡ false → IsRefusal n i fault.WrongPhase
wrong_phase n i never = inr (ap (λ b. answered n (cond (not b) (Err fault.WrongPhase) (cond (not (nat_lt i.now (2 ^ 63))) (Err fault.ClockEnd) (on_ok (acts n.config n.standing.seq n.standing.asked i.now i.act) (λ g. timely (acked i.ack g)))))) never)

pub clock_end : (n : NodeData) (i : inputs.Input) → fits n.standing.asked.phase i.act ≡ true → nat_lt i.now (2 ^ 63) ≡ false → IsRefusal n i fault.ClockEnd
clock_end n i fit never = inr (
    ap (λ b. answered n (cond (not b) (Err fault.WrongPhase) (cond (not (nat_lt i.now (2 ^ 63))) (Err fault.ClockEnd) (on_ok (acts n.config n.standing.seq n.standing.asked i.now i.act) (λ g. timely (acked i.ack g)))))) fit
    ∙ ap (λ b. answered n (cond (not b) (Err fault.ClockEnd) (on_ok (acts n.config n.standing.seq n.standing.asked i.now i.act) (λ g. timely (acked i.ack g))))) never)

acked-timely : (ack : Option ℕ) (g : rule.Given) → is_timely (acked ack g) ≡ is_timely g
acked-timely None g = refl
acked-timely (Some id) g = refl

pub late : (n : NodeData) (i : inputs.Input) (g : rule.Given) → fits n.standing.asked.phase i.act ≡ true → nat_lt i.now (2 ^ 63) ≡ true
    → acts n.config n.standing.seq n.standing.asked i.now i.act ≡ Ok g → is_timely g ≡ false → IsRefusal n i fault.ClockEnd
late n i g fit now is never = inr (
    ap (answered n) (rules-are n.config n.standing.seq n.standing.asked i (gave g) fit now is)
    ∙ ap (λ b. answered n (cond b (Ok (acked i.ack g)) (Err fault.ClockEnd))) (acked-timely i.ack g ∙ never))

pub act_refused : (n : NodeData) (i : inputs.Input) (e : EdgeFault) → fits n.standing.asked.phase i.act ≡ true → nat_lt i.now (2 ^ 63) ≡ true → IsRefusedBy n i e → IsRefusal n i e
act_refused n i e fit now (inl memory) = inl memory
act_refused n i e fit now (inr (inl is)) = inr (ap (answered n) (rules-are n.config n.standing.seq n.standing.asked i (refused e) fit now is))
act_refused n i e fit now (inr (inr (end, (g, is, never)))) = subst (IsRefusal n i) (sym end) (late n i g fit now is never)

abbrev pub answer-ok : Answer → Result Answer EdgeFault
answer-ok a = Ok a

-- ---- what was given, acknowledged and sealed

-- what the rules give, acknowledged
abbrev after_ack : (n : NodeData) (i : inputs.Input) (g : Given) → IsGivenBy n i g → rule.Given
after_ack n i g given = acked i.ack given.given

abbrev data_of : (n : NodeData) (i : inputs.Input) (g : Given) → IsGivenBy n i g → GivenData
data_of n i g given = given_of n.config (step.heard_after n.config n.standing.asked.heard i.act) (after_ack n i g given)

same-data : (n : NodeData) (i : inputs.Input) (g g' : Given) (given : IsGivenBy n i g) → given_view g' ≡ acked_data i.ack (given_view g) → given_view g' ≡ data_of n i g given
same-data n i g g' given is =
    is ∙ ap (acked_data i.ack) given.is ∙ acked-is n.config (step.heard_after n.config n.standing.asked.heard i.act) i.ack given.given

sent : (n : NodeData) (heard : Option ℕ) (r : rule.Given) → packets_of n (given_of n.config heard r) ≡ r.plain ++ step.wires n.config n.standing.seq r.drafts
sent n heard r = ap (λ (l : List packets.Message). r.plain ++ l) (wires-are n.config n.standing.seq r.drafts)

pub all-timely : (n : NodeData) (i : inputs.Input) (r : rule.Given) (b : Bool) → is_timely (acked i.ack r) ≡ b → fits n.standing.asked.phase i.act ≡ true → nat_lt i.now (2 ^ 63) ≡ true
    → acts n.config n.standing.seq n.standing.asked i.now i.act ≡ Ok r → step.answer_at n.config n.standing i ≡ answered n (cond b (Ok (acked i.ack r)) (Err fault.ClockEnd))
all-timely n i r b is fit now acted =
    ap (answered n) (rules-are n.config n.standing.seq n.standing.asked i (gave r) fit now acted) ∙ ap (λ b. answered n (cond b (Ok (acked i.ack r)) (Err fault.ClockEnd))) is

pub sealed_refused : (n : NodeData) (i : inputs.Input) (g g' : Given) (e : EdgeFault) → fits n.standing.asked.phase i.act ≡ true → nat_lt i.now (2 ^ 63) ≡ true
    → IsGivenBy n i g → given_view g' ≡ acked_data i.ack (given_view g) → IsUnsealed n (given_view g') e → IsRefusal n i e
sealed_refused n i g g' e fit now given is unsealed =
    by (subst (λ (d : GivenData). IsUnsealed n d e) (same-data n i g g' given is) unsealed)
  where
    r : rule.Given
    r = acked i.ack given.given

    heard : Option ℕ
    heard = step.heard_after n.config n.standing.asked.heard i.act

    timely-is : (b : Bool) → are_timely (map (unnumbered n.config) (acked i.ack given.given).drafts) ≡ b → is_timely (acked i.ack given.given) ≡ b
    timely-is b e = sym (timely-are n.config (acked i.ack given.given).drafts) ∙ e

    by : IsUnsealed n (given_of n.config (step.heard_after n.config n.standing.asked.heard i.act) (acked i.ack given.given)) e → IsRefusal n i e
    by (inl memory) = inl memory
    by (inr (inl (end, never))) = subst (IsRefusal n i) (sym end) (inr (all-timely n i given.given false (timely-is false never) fit now given.acted))
    by (inr (inr (large, good, never))) = subst (IsRefusal n i) (sym large) (inr (
        all-timely n i given.given true (timely-is true good) fit now given.acted
        ∙ ap (λ b. cond b (Ok (answer-of (acked i.ack given.given))) (Err fault.TooLarge))
        (ap (list_all is_writable) (sym (sent n (step.heard_after n.config n.standing.asked.heard i.act) (acked i.ack given.given))) ∙ never)))
      where
        answer-of : rule.Given → Answer
        answer-of r = record { given = r; packets = r.plain ++ step.wires n.config n.standing.seq r.drafts }

kept-is : (a : rule.Asked) (k : Keeping) → KeepsLaw a (keeping_view k) → kept_after a.store k ≡ step.store_after a.store (keeping_view k)
kept-is a Keeping.Nothing few = refl
kept-is a (Keeping.Push change) few = refl
kept-is a (Keeping.DropFront n is_lost) few =
    let whole : min n (length a.store.items) ≡ n = omega (arith, few) in
    ap (λ m. after_drop a.store m is_lost) whole

-- what isn't refused is given
accepted : (b : Book) (r : Option Refusal) (g g' : rule.Given) → rule.refused_or r g ≡ Ok g' → r ≡ None
accepted b None g g' e = refl
accepted b (Some why) g g' e = absurd (let x : ⊥ = cc in x)

-- what is set is what the act does to the registry
book-is : (c : Config) (k : ℕ) (a : rule.Asked) (now : ℕ) (act : inputs.Act) (s : Setting) (g : rule.Given) → acts c k a now act ≡ Ok g → IsSetBy a.book act s
    → setting_book a.book s ≡ step.book_after a.book act
book-is c k a now (inputs.Change alias value) s g ok set =
    set ∙ ap (λ r. unless_refused r (with_value a.book alias value) a.book) (accepted a.book (set_refusal a.book alias value) _ g ok)
book-is c k a now (inputs.Changes changes) s g ok set = set
book-is c k a now inputs.Open s g ok set = set
book-is c k a now inputs.Accepted s g ok set = set
book-is c k a now (inputs.Turn name up) s g ok set =
    set ∙ ap (λ r. unless_refused r (with_turn a.book name up) a.book) (accepted a.book (turn_refusal a.book name) _ g ok)
book-is c k a now (inputs.Command topic payload) s g ok set = set
book-is c k a now (inputs.State payload) s g ok set = set
book-is c k a now inputs.Drain s g ok set = set
book-is c k a now inputs.Stop s g ok set = set
book-is c k a now inputs.Cut s g ok set = set
book-is c k a now inputs.TurnedAway s g ok set = set
book-is c k a now inputs.Pass s g ok set = set

-- the data after the plan are the data after the step
after-is : (n : NodeData) (i : inputs.Input) (g : rule.Given) (setting : Setting) (p : Plan) → acts n.config n.standing.seq n.standing.asked i.now i.act ≡ Ok g
    → IsSetBy n.standing.asked.book i.act setting → IsSealed n i (given_of n.config (step.heard_after n.config n.standing.asked.heard i.act) (acked i.ack g)) setting p
    → KeepsLaw n.standing.asked (acked i.ack g).store → patched n p ≡ record n { standing = step.stepped n.config n.standing i (acked i.ack g) }
after-is n i g setting p acted set s lawful =
    let c = n.config in
    let book : setting_book n.standing.asked.book p.setting ≡ step.book_after n.standing.asked.book i.act =
    ap (setting_book n.standing.asked.book) s.set ∙ book-is c n.standing.seq n.standing.asked i.now i.act setting g acted set in
    let kept : kept_after n.standing.asked.store p.kept ≡ step.store_after n.standing.asked.store (acked i.ack g).store =
    kept-is n.standing.asked p.kept (subst (λ o. KeepsLaw n.standing.asked o) (sym s.kept) lawful) ∙ ap (step.store_after n.standing.asked.store) s.kept in
    let stamp : p.tally.stamp ≡ step.stamp_after n.standing.asked.stamp (acked i.ack g).drafts =
    s.tally.stamp ∙ ap (last_or n.standing.asked.stamp) (stamps-are c n.standing.seq (acked i.ack g).drafts) in
    let seq : p.tally.seq ≡ step.seq_after c n.standing.seq (acked i.ack g).drafts = s.tally.of_seq ∙ seqs-are c n.standing.seq (acked i.ack g).drafts in
    rw (s.tally.of_phase, book, kept, s.tally.of_heard, stamp, s.tally.bd, s.tally.will_bd, s.tally.will_time, seq) refl

pub planned : (n : NodeData) (i : inputs.Input) (g g' : Given) (setting : Setting) (p : Plan) → fits n.standing.asked.phase i.act ≡ true → nat_lt i.now (2 ^ 63) ≡ true
    → IsGivenBy n i g → given_view g' ≡ acked_data i.ack (given_view g) → IsSetBy n.standing.asked.book i.act setting → IsSealed n i (given_view g') setting p → IsPlan n i p
planned n i g g' setting p fit now given is set sealed =
    let heard = step.heard_after n.config n.standing.asked.heard i.act in
    let r = acked i.ack given.given in
    let s : IsSealed n i (given_of n.config heard r) setting p = subst (λ (d : GivenData). IsSealed n i d setting p) (same-data n i g g' given is) sealed in
    let ps = r.plain ++ step.wires n.config n.standing.seq r.drafts in
    let whole : Answer = record { given = r; packets = ps } in
    let timely : is_timely r ≡ true = sym (timely-are n.config r.drafts) ∙ s.timely in
    let ruled : rules n.config n.standing.seq n.standing.asked i ≡ gave r =
    rules-are n.config n.standing.seq n.standing.asked i (gave given.given) fit now given.acted ∙ ap (λ b. cond b (gave r) (Err fault.ClockEnd)) timely in
    record {
      answer = whole;
      answered = all-timely n i given.given true timely fit now given.acted
          ∙ ap (λ b. cond b (answer-ok whole) (Err fault.TooLarge)) (ap (list_all is_writable) (sym (sent n heard r)) ∙ s.writable);
      packets = s.packets ∙ ap (map spelling) (sent n heard r);
      writes = s.writes;
      close = s.close;
      messages = s.messages;
      whole = s.whole;
      after = after-is n i given.given setting p given.acted set s (rules-lawful n.config n.standing.seq n.standing.asked i r ruled).keeps;
    }

-- ---- from the code's input

pub gave-is : (n : NodeData) (i : Input) (act : Act) (r : rule.Given) (g : Given) → i.act ≡ act → acts n.config n.standing.seq n.standing.asked i.now (act_view act) ≡ Ok r
    → given_view g ≡ given_of n.config (step.heard_after n.config n.standing.asked.heard (act_view act)) r → IsGivenBy n (input_view i) g
gave-is n i act r g is acted given = record {
  given = r;
  acted = ap (λ (a : Act). acts n.config n.standing.seq n.standing.asked i.now (act_view a)) is ∙ acted;
  is = given ∙ ap (λ (a : Act). given_of n.config (step.heard_after n.config n.standing.asked.heard (act_view a)) r) (sym is);
}

pub if-ok : {X E : Type 0} (P Q : X → Type 0) (r : Result X E) → ((x : X) → P x → Q x) → IfOk r P → IfOk r Q
if-ok P Q (Ok x) f p = f x p
if-ok P Q (Err e) f p = tt

pub if-err : {X E : Type 0} (P Q : E → Type 0) (r : Result X E) → ((e : E) → P e → Q e) → IfErr r P → IfErr r Q
if-err P Q (Ok x) f p = tt
if-err P Q (Err e) f p = f e p

-- a plan that was taken up was done
pub done_by : (n : NodeData) (i : inputs.Input) (p : Plan) (after : NodeData) (out : Out) → IsPlan n i p → after ≡ patched n p → out ≡ p.out → IsDone n i after out
done_by n i p after out plan is same = record {
  answer = plan.answer;
  answered = plan.answered;
  packets = ap (λ (o : Out). map bytes_of o.packets.items) same ∙ plan.packets;
  writes = ap (λ (o : Out). map write_view o.writes.items) same ∙ plan.writes;
  close = ap (λ (o : Out). o.close) same ∙ plan.close;
  whole = plan.whole;
  stands = is ∙ plan.after;
}

-- ---- commands

pub command-given : (n : NodeData) (i : Input) (topic payload : List ℕ) (orders : List Order) (g : Given) → act_view i.act ≡ inputs.Command topic payload
    → command_of n.config n.standing.asked.book topic payload ≡ Some orders → given_view g ≡ given_of n.config n.standing.asked.heard (rule.obeying n.standing.asked i.now orders)
    → IsGivenBy n (input_view i) g
command-given n i topic payload orders g is some given = record {
  given = rule.obeying n.standing.asked i.now orders;
  acted = ap (acts n.config n.standing.seq n.standing.asked i.now) is ∙ ap (rule.commanded n.standing.asked i.now) some;
  is = given ∙ ap (λ a. given_of n.config (step.heard_after n.config n.standing.asked.heard a) (rule.obeying n.standing.asked i.now orders)) (sym is);
}

pub command-late : (n : NodeData) (i : Input) (topic payload : List ℕ) (orders : List Order) (e : EdgeFault) → act_view i.act ≡ inputs.Command topic payload
    → command_of n.config n.standing.asked.book topic payload ≡ Some orders
    → (e ≡ fault.NoMemory) ⊎ ((e ≡ fault.ClockEnd) × (is_timely (rule.obeying n.standing.asked i.now orders) ≡ false)) → IsRefusedBy n (input_view i) e
command-late n i topic payload orders e is some (inl memory) = inl memory
command-late n i topic payload orders e is some (inr (end, never)) =
    inr (inr (end, (rule.obeying n.standing.asked i.now orders, ap (acts n.config n.standing.seq n.standing.asked i.now) is ∙ ap (rule.commanded n.standing.asked i.now) some, never)))

pub command-refused : (n : NodeData) (i : Input) (topic payload : List ℕ) (e : EdgeFault) → act_view i.act ≡ inputs.Command topic payload
    → (e ≡ fault.NoMemory) ⊎ ((e ≡ fault.BadCommand) × (command_of n.config n.standing.asked.book topic payload ≡ None)) → IsRefusedBy n (input_view i) e
command-refused n i topic payload e is (inl memory) = inl memory
command-refused n i topic payload e is (inr (bad, none)) =
    subst (IsRefusedBy n (input_view i)) (sym bad) (inr (inl (ap (acts n.config n.standing.seq n.standing.asked i.now) is ∙ ap (rule.commanded n.standing.asked i.now) none)))
