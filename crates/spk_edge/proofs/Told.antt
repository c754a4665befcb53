-- A change that is done at once does what the rules ask.
use Rattle.std.proofs.Common.{◌≡◌, inl, inr, ◌∙◌, ap, sym, refl, subst, ℕ, ◌+◌, ◌%◌, ◌^◌, nat_lt, Bool, true, false, not, ◌&&◌, cond, [], ◌∷◌, ◌++◌, map, Option, Some, None, Result, Ok, Err}
use Rattle.std.specs.List.{list_all}
use Rattle.std.specs.Option.{option_map}
use Rattle.spk_payload.specs.Typing.{Typed, typed_view}
use Rattle.spk_payload.specs.declared.typing.Value.{Value}
use Rattle.spk_packets.specs.Spelling.{spelling}
use Rattle.spk_device.specs.Book.{Book}
use Rattle.spk_device.specs.Calls.{unless_refused}
use Rattle.spk_device.specs.Step.{set_refusal, with_value}
use Rattle.spk_device.specs.declared.fault.Refusal.{Refusal}
use Rattle.spk_sequence.specs.NodeRecord.{Numbering, RunsOn, Restarts}
use Rattle.spk_store.specs.Step.{after_push}
use Rattle.spk_store.specs.declared.change.Change.{Change}
use Rattle.spk_edge_rules.specs.declared.fault.EdgeFault.{EdgeFault}
use Rattle.spk_edge_rules.specs.declared.fault.EdgeFault.TheVariants as fault
use Rattle.spk_edge_rules.specs.Answers.{Answer}
use Rattle.spk_edge_rules.specs.Writable.{is_writable}
use Rattle.spk_edge_rules.specs.Births.{later_stamp, owner_at, owner_is_up}
use Rattle.spk_edge_rules.specs.Config.{Config}
use Rattle.spk_edge_rules.specs.Inputs.{ChangeData}
use Rattle.spk_edge_rules.specs.Messages.{Draft, opens, wire}
use Rattle.spk_edge_rules.specs.Rules as rule
use Rattle.spk_edge_rules.specs.Rules.{Given, is_timely}
use Rattle.spk_edge_rules.specs.Step as step
use Rattle.spk_edge.specs.Changing.{Asks, IsSentTally, IsTally, change_at, change_draft, change_message, change_of, change_wire, kept, sent, with_book, with_sent, with_store}
use Rattle.spk_edge.specs.Patch.{IsDone, IsPlan, IsRefusal, kept_after, patched, setting_book}
use Rattle.spk_edge.specs.Sealing.{AreWhole, IsWhole, bytes_of, numbered, with_number}
use Rattle.spk_edge.specs.View.{NodeData, change_view, message_view, unnumbered, write_view}
use Rattle.spk_edge.specs.declared.message.Out.{Out}
use Rattle.spk_edge.specs.declared.message.Keeping.TheVariants as Keeping
use Rattle.spk_edge.specs.declared.plan.Plan.{Plan}
use Rattle.spk_edge.specs.declared.plan.Setting.{Setting}
use Rattle.spk_edge.specs.declared.plan.Setting.TheVariants.{Nothing as Unset, Value as Valued}
use Rattle.spk_edge.proofs.Plans.{act_refused, all-timely, answer-ok, late, same-number}
use Rattle.spk_edge.proofs.Still.{same-book}

-- ---- what the rules ask

abbrev gave : Given → Result Given EdgeFault
gave g = Ok g

asks : (n : NodeData) (now alias : ℕ) (v : Option Typed) (g : Given) → set_refusal n.standing.asked.book alias v ≡ None → rule.changing n.standing.asked now alias v ≡ g → Asks n now alias v g
asks n now alias v g none is =
    ap (λ r. rule.refused_or r (rule.changing n.standing.asked now alias v)) none ∙ ap gave is

-- another value of an owner that is up is told
told : (a : rule.Asked) (now alias : ℕ) (v : Option Typed) → rule.is_same_value a.book alias v ≡ false → owner_is_up a.book (owner_at a.book alias) ≡ true
    → rule.changing a now alias v ≡ rule.telling a now alias v
told a now alias v another up =
    ap (λ b. cond (not b && owner_is_up a.book (owner_at a.book alias)) (rule.telling a now alias v) (rule.nothing a)) another
    ∙ ap (λ b. cond b (rule.telling a now alias v) (rule.nothing a)) up

pub asks-sent : (n : NodeData) (now alias : ℕ) (v : Option Typed) → set_refusal n.standing.asked.book alias v ≡ None → rule.is_same_value n.standing.asked.book alias v ≡ false
    → owner_is_up n.standing.asked.book (owner_at n.standing.asked.book alias) ≡ true → rule.is_born n.standing.asked.phase ≡ true → Asks n now alias v (sent n.standing.asked now alias v)
asks-sent n now alias v none another up born =
    let a = n.standing.asked in
    asks n now alias v (sent a now alias v) none (told a now alias v another up ∙ ap (λ b. cond b (sent a now alias v) (kept a now alias v)) born)

pub asks-kept : (n : NodeData) (now alias : ℕ) (v : Option Typed) → set_refusal n.standing.asked.book alias v ≡ None → rule.is_same_value n.standing.asked.book alias v ≡ false
    → owner_is_up n.standing.asked.book (owner_at n.standing.asked.book alias) ≡ true → rule.is_born n.standing.asked.phase ≡ false → Asks n now alias v (kept n.standing.asked now alias v)
asks-kept n now alias v none another up born =
    let a = n.standing.asked in
    asks n now alias v (kept a now alias v) none (told a now alias v another up ∙ ap (λ b. cond b (sent a now alias v) (kept a now alias v)) born)

and-never : (b : Bool) → (b && false) ≡ false
and-never true = refl
and-never false = refl

pub asks-down : (n : NodeData) (now alias : ℕ) (v : Option Typed) → set_refusal n.standing.asked.book alias v ≡ None
    → owner_is_up n.standing.asked.book (owner_at n.standing.asked.book alias) ≡ false → Asks n now alias v (rule.nothing n.standing.asked)
asks-down n now alias v none down =
    let a = n.standing.asked in
    let same = rule.is_same_value a.book alias v in
    asks n now alias v (rule.nothing a) none (
    ap (λ b. cond (not same && b) (rule.telling a now alias v) (rule.nothing a)) down
    ∙ ap (λ b. cond b (rule.telling a now alias v) (rule.nothing a)) (and-never (not same)))

pub asks-same : (n : NodeData) (now alias : ℕ) (v : Option Typed) → set_refusal n.standing.asked.book alias v ≡ None → rule.is_same_value n.standing.asked.book alias v ≡ true
    → Asks n now alias v (rule.nothing n.standing.asked)
asks-same n now alias v none same =
    let a = n.standing.asked in
    asks n now alias v (rule.nothing a) none
    (ap (λ b. cond (not b && owner_is_up a.book (owner_at a.book alias)) (rule.telling a now alias v) (rule.nothing a)) same)

pub refused : (n : NodeData) (now alias : ℕ) (v : Option Typed) (r : Refusal) → nat_lt now (2 ^ 63) ≡ true → set_refusal n.standing.asked.book alias v ≡ Some r
    → IsRefusal n (change_of now alias v) (fault.Device r)
refused n now alias v r moment is =
    act_refused n (change_of now alias v) (fault.Device r) refl moment (inr (inl (ap (λ o. rule.refused_or o (rule.changing n.standing.asked now alias v)) is)))

-- ---- its number

pub plain-number : (c : Config) (seq : ℕ) (d : Draft) → opens d ≡ false → step.number_of c seq d ≡ seq
plain-number c seq d closed = ap (λ b. cond b 0 seq) (by c.numbering)
  where
    by : (m : Numbering) → step.begins_anew m d ≡ false
    by RunsOn = refl
    by Restarts = closed

change-number : (n : NodeData) (now alias : ℕ) (v : Option Typed) → step.number_of n.config n.standing.seq (change_draft n.standing.asked now alias v) ≡ n.standing.seq
change-number n now alias v = plain-number n.config n.standing.seq (change_draft n.standing.asked now alias v) refl

change-wires : (n : NodeData) (now alias : ℕ) (v : Option Typed)
    → step.wires n.config n.standing.seq (change_draft n.standing.asked now alias v ∷ []) ≡ change_wire n now alias v ∷ []
change-wires n now alias v = ap (λ k. wire n.config k (change_draft n.standing.asked now alias v) ∷ []) (change-number n now alias v)

change-numbered : (n : NodeData) (now alias : ℕ) (v : Option Typed)
    → numbered n.config.numbering n.standing.seq (unnumbered n.config (change_draft n.standing.asked now alias v) ∷ []) ≡ change_message n now alias v ∷ []
change-numbered n now alias v =
    let d = change_draft n.standing.asked now alias v in
    ap (λ k. with_number k (unnumbered n.config d) ∷ []) (same-number n.config n.standing.seq d ∙ change-number n now alias v)

-- ---- what is done

done-so : (n : NodeData) (now alias : ℕ) (v : Option Typed) (r : Given) (after : NodeData) (out : Out) → nat_lt now (2 ^ 63) ≡ true → Asks n now alias v r → is_timely r ≡ true
    → list_all is_writable (r.plain ++ step.wires n.config n.standing.seq r.drafts) ≡ true
    → map bytes_of out.packets.items ≡ map spelling (r.plain ++ step.wires n.config n.standing.seq r.drafts) → map write_view out.writes.items ≡ r.writes → out.close ≡ r.close
    → AreWhole (numbered n.config.numbering n.standing.seq (map (unnumbered n.config) r.drafts))
    → after ≡ record n { standing = step.stepped n.config n.standing (change_of now alias v) r } → IsDone n (change_of now alias v) after out
done-so n now alias v r after out moment asked timely writable packets writes close whole stands =
    let a : Answer = record { given = r; packets = r.plain ++ step.wires n.config n.standing.seq r.drafts } in
    record {
      answer = a;
      answered = all-timely n (change_of now alias v) r true timely refl moment asked ∙ ap (λ b. cond b (answer-ok a) (Err fault.TooLarge)) writable;
      packets = packets;
      writes = writes;
      close = close;
      whole = whole;
      stands = stands;
    }

-- the registry where the value isn't refused
value-set : (b : Book) (alias : ℕ) (value : Option Value) (v : Option Typed) → set_refusal b alias v ≡ None → option_map typed_view value ≡ v
    → setting_book b (Valued alias value) ≡ with_value b alias v
value-set b alias value v none same =
    ap (λ o. unless_refused (set_refusal b alias o) (with_value b alias o) b) same ∙ ap (λ r. unless_refused r (with_value b alias v) b) none

pub sent-done : (n : NodeData) (now alias : ℕ) (value : Option Value) (v : Option Typed) (stamp : ℕ) (between after : NodeData) (out : Out) → nat_lt now (2 ^ 63) ≡ true
    → set_refusal n.standing.asked.book alias v ≡ None → Asks n now alias v (sent n.standing.asked now alias v)
    → option_map typed_view value ≡ v → stamp ≡ later_stamp n.standing.asked.stamp now → nat_lt stamp (2 ^ 63) ≡ true → is_writable (change_wire n now alias v) ≡ true
    → map bytes_of out.packets.items ≡ spelling (change_wire n now alias v) ∷ [] → out.writes.items ≡ [] → out.close ≡ false → IsWhole (change_message n now alias v)
    → between ≡ with_book n (setting_book n.standing.asked.book (Valued alias value)) → after ≡ with_sent between stamp
    → IsDone n (change_of now alias v) after out
sent-done n now alias value v stamp between after out moment none asked same at timely writable packets writes close whole set counted =
    let a = n.standing.asked in
    let r = sent a now alias v in
    let wires = change-wires n now alias v in
    done-so n now alias v r after out moment asked
    (ap (λ s. nat_lt s (2 ^ 63) && true) (sym at) ∙ ap (λ b. b && true) timely)
    (ap (list_all is_writable) wires ∙ ap (λ b. b && true) writable)
    (packets ∙ ap (map spelling) (sym wires))
    (ap (map write_view) writes)
    close
    (subst AreWhole (sym (change-numbered n now alias v)) (whole, tt))
    (counted ∙ ap (λ m. with_sent m stamp) (set ∙ ap (with_book n) (value-set a.book alias value v none same))
    ∙ ap (λ s. with_sent (with_book n (with_value a.book alias v)) s) at
    ∙ ap (λ k. record n { standing = record { asked = record a { book = with_value a.book alias v; stamp = Some (later_stamp a.stamp now) }; seq = (k + 1) % 256 } }) (sym (change-number n now alias v)))

pub sent-late : (n : NodeData) (now alias : ℕ) (v : Option Typed) (stamp : ℕ) → nat_lt now (2 ^ 63) ≡ true → Asks n now alias v (sent n.standing.asked now alias v)
    → stamp ≡ later_stamp n.standing.asked.stamp now → nat_lt stamp (2 ^ 63) ≡ false → IsRefusal n (change_of now alias v) fault.ClockEnd
sent-late n now alias v stamp moment asked at never =
    late n (change_of now alias v) (sent n.standing.asked now alias v) refl moment asked
    (ap (λ s. nat_lt s (2 ^ 63) && true) (sym at) ∙ ap (λ b. b && true) never)

pub sent-large : (n : NodeData) (now alias : ℕ) (v : Option Typed) (stamp : ℕ) → nat_lt now (2 ^ 63) ≡ true → Asks n now alias v (sent n.standing.asked now alias v)
    → stamp ≡ later_stamp n.standing.asked.stamp now → nat_lt stamp (2 ^ 63) ≡ true → is_writable (change_wire n now alias v) ≡ false → IsRefusal n (change_of now alias v) fault.TooLarge
sent-large n now alias v stamp moment asked at timely never =
    let r = sent n.standing.asked now alias v in
    let a : Answer = record { given = r; packets = step.wires n.config n.standing.seq r.drafts } in
    inr (
    all-timely n (change_of now alias v) r true (ap (λ s. nat_lt s (2 ^ 63) && true) (sym at) ∙ ap (λ b. b && true) timely) refl moment asked
    ∙ ap (λ b. cond b (answer-ok a) (Err fault.TooLarge)) (ap (list_all is_writable) (change-wires n now alias v) ∙ ap (λ b. b && true) never))

pub kept-done : (n : NodeData) (now alias : ℕ) (value : Option Value) (v : Option Typed) (x : ChangeData) (between after : NodeData) (out : Out) → nat_lt now (2 ^ 63) ≡ true
    → set_refusal n.standing.asked.book alias v ≡ None → Asks n now alias v (kept n.standing.asked now alias v)
    → option_map typed_view value ≡ v → x ≡ change_at n.standing.asked.book now alias v
    → out.packets.items ≡ [] → out.writes.items ≡ [] → out.close ≡ false
    → between ≡ with_book n (setting_book n.standing.asked.book (Valued alias value)) → after ≡ with_store between (after_push between.standing.asked.store x)
    → IsDone n (change_of now alias v) after out
kept-done n now alias value v x between after out moment none asked same is packets writes close set pushed =
    let a = n.standing.asked in
    done-so n now alias v (kept a now alias v) after out moment asked refl refl (ap (map bytes_of) packets) (ap (map write_view) writes) close tt
    (pushed ∙ ap (λ m. with_store m (after_push m.standing.asked.store x)) (set ∙ ap (with_book n) (value-set a.book alias value v none same))
    ∙ ap (λ y. with_store (with_book n (with_value a.book alias v)) (after_push a.store y)) is)

pub down-done : (n : NodeData) (now alias : ℕ) (value : Option Value) (v : Option Typed) (after : NodeData) (out : Out) → nat_lt now (2 ^ 63) ≡ true
    → set_refusal n.standing.asked.book alias v ≡ None → Asks n now alias v (rule.nothing n.standing.asked) → option_map typed_view value ≡ v
    → out.packets.items ≡ [] → out.writes.items ≡ [] → out.close ≡ false
    → after ≡ with_book n (setting_book n.standing.asked.book (Valued alias value)) → IsDone n (change_of now alias v) after out
down-done n now alias value v after out moment none asked same packets writes close set =
    let a = n.standing.asked in
    done-so n now alias v (rule.nothing a) after out moment asked refl refl (ap (map bytes_of) packets) (ap (map write_view) writes) close tt
    (set ∙ ap (with_book n) (value-set a.book alias value v none same))

pub same-done : (n : NodeData) (now alias : ℕ) (v : Option Typed) (out : Out) → nat_lt now (2 ^ 63) ≡ true
    → set_refusal n.standing.asked.book alias v ≡ None → rule.is_same_value n.standing.asked.book alias v ≡ true
    → out.packets.items ≡ [] → out.writes.items ≡ [] → out.close ≡ false → IsDone n (change_of now alias v) n out
same-done n now alias v out moment none same packets writes close =
    let a = n.standing.asked in
    done-so n now alias v (rule.nothing a) n out moment (asks-same n now alias v none same) refl refl (ap (map bytes_of) packets) (ap (map write_view) writes) close tt
    (ap (with_book n) (sym (same-book a.book alias v same)))

-- ---- what is planned

plan-so : (n : NodeData) (now alias : ℕ) (v : Option Typed) (r : Given) (p : Plan) → nat_lt now (2 ^ 63) ≡ true → Asks n now alias v r → is_timely r ≡ true
    → list_all is_writable (r.plain ++ step.wires n.config n.standing.seq r.drafts) ≡ true
    → map bytes_of p.out.packets.items ≡ map spelling (r.plain ++ step.wires n.config n.standing.seq r.drafts) → map write_view p.out.writes.items ≡ r.writes → p.out.close ≡ r.close
    → map message_view p.messages.items ≡ numbered n.config.numbering n.standing.seq (map (unnumbered n.config) r.drafts)
    → AreWhole (numbered n.config.numbering n.standing.seq (map (unnumbered n.config) r.drafts))
    → patched n p ≡ record n { standing = step.stepped n.config n.standing (change_of now alias v) r } → IsPlan n (change_of now alias v) p
plan-so n now alias v r p moment asked timely writable packets writes close messages whole after =
    let a : Answer = record { given = r; packets = r.plain ++ step.wires n.config n.standing.seq r.drafts } in
    record {
      answer = a;
      answered = all-timely n (change_of now alias v) r true timely refl moment asked ∙ ap (λ b. cond b (answer-ok a) (Err fault.TooLarge)) writable;
      packets = packets;
      writes = writes;
      close = close;
      messages = messages;
      whole = whole;
      after = after;
    }

pub sent-planned : (n : NodeData) (now alias : ℕ) (value : Option Value) (v : Option Typed) (stamp : ℕ) (p : Plan) → nat_lt now (2 ^ 63) ≡ true
    → set_refusal n.standing.asked.book alias v ≡ None → Asks n now alias v (sent n.standing.asked now alias v)
    → option_map typed_view value ≡ v → stamp ≡ later_stamp n.standing.asked.stamp now → nat_lt stamp (2 ^ 63) ≡ true → is_writable (change_wire n now alias v) ≡ true
    → map bytes_of p.out.packets.items ≡ spelling (change_wire n now alias v) ∷ [] → p.out.writes.items ≡ [] → p.out.close ≡ false
    → map message_view p.messages.items ≡ change_message n now alias v ∷ [] → IsWhole (change_message n now alias v)
    → IsSentTally n stamp p.tally → p.setting ≡ Valued alias value → p.kept ≡ Keeping.Nothing → IsPlan n (change_of now alias v) p
sent-planned n now alias value v stamp p moment none asked same at timely writable packets writes close messages whole tally set kept =
    let a = n.standing.asked in
    let r = sent a now alias v in
    let wires = change-wires n now alias v in
    let numbers = change-numbered n now alias v in
    let book : setting_book a.book p.setting ≡ with_value a.book alias v = ap (setting_book a.book) set ∙ value-set a.book alias value v none same in
    let store : kept_after a.store p.kept ≡ a.store = ap (kept_after a.store) kept in
    let last : p.tally.stamp ≡ Some (later_stamp a.stamp now) = tally.stamp ∙ ap (λ s. Some s) at in
    let seq : p.tally.seq ≡ step.seq_after n.config n.standing.seq (change_draft a now alias v ∷ []) = tally.seq ∙ ap (λ k. (k + 1) % 256) (sym (change-number n now alias v)) in
    plan-so n now alias v r p moment asked
    (ap (λ s. nat_lt s (2 ^ 63) && true) (sym at) ∙ ap (λ b. b && true) timely)
    (ap (list_all is_writable) wires ∙ ap (λ b. b && true) writable)
    (packets ∙ ap (map spelling) (sym wires))
    (ap (map write_view) writes)
    close
    (messages ∙ sym numbers)
    (subst AreWhole (sym numbers) (whole, tt))
    (rw (tally.phase, book, store, tally.heard, last, tally.bd, tally.will_bd, tally.will_time, seq) refl)

still-so : (n : NodeData) (now alias : ℕ) (v : Option Typed) (r : Given) (p : Plan) → nat_lt now (2 ^ 63) ≡ true → Asks n now alias v r
    → r ≡ record (rule.nothing n.standing.asked) { store = r.store }
    → p.out.packets.items ≡ [] → p.out.writes.items ≡ [] → p.out.close ≡ false → p.messages.items ≡ [] → IsTally n p.tally
    → setting_book n.standing.asked.book p.setting ≡ with_value n.standing.asked.book alias v
    → kept_after n.standing.asked.store p.kept ≡ step.store_after n.standing.asked.store r.store → IsPlan n (change_of now alias v) p
still-so n now alias v r p moment asked bare packets writes close messages tally book store =
    let r' : Given = record (rule.nothing n.standing.asked) { store = r.store } in
    plan-so n now alias v r' p moment (asked ∙ ap gave bare) refl refl (ap (map bytes_of) packets) (ap (map write_view) writes) close (ap (map message_view) messages) tt
    (rw (tally.phase, book, store, tally.heard, tally.stamp, tally.bd, tally.will_bd, tally.will_time, tally.seq) refl)

pub still-planned : (n : NodeData) (now alias : ℕ) (v : Option Typed) (p : Plan) → nat_lt now (2 ^ 63) ≡ true → Asks n now alias v (rule.nothing n.standing.asked)
    → p.out.packets.items ≡ [] → p.out.writes.items ≡ [] → p.out.close ≡ false → p.messages.items ≡ [] → IsTally n p.tally
    → setting_book n.standing.asked.book p.setting ≡ with_value n.standing.asked.book alias v → p.kept ≡ Keeping.Nothing → IsPlan n (change_of now alias v) p
still-planned n now alias v p moment asked packets writes close messages tally book kept =
    still-so n now alias v (rule.nothing n.standing.asked) p moment asked refl packets writes close messages tally book (ap (kept_after n.standing.asked.store) kept)

pub kept-planned : (n : NodeData) (now alias : ℕ) (value : Option Value) (v : Option Typed) (x : Change) (p : Plan) → nat_lt now (2 ^ 63) ≡ true
    → set_refusal n.standing.asked.book alias v ≡ None → Asks n now alias v (kept n.standing.asked now alias v)
    → option_map typed_view value ≡ v → change_view x ≡ change_at n.standing.asked.book now alias v
    → p.out.packets.items ≡ [] → p.out.writes.items ≡ [] → p.out.close ≡ false → p.messages.items ≡ [] → IsTally n p.tally
    → p.setting ≡ Valued alias value → p.kept ≡ Keeping.Push x → IsPlan n (change_of now alias v) p
kept-planned n now alias value v x p moment none asked same is packets writes close messages tally set held =
    let a = n.standing.asked in
    still-so n now alias v (kept a now alias v) p moment asked refl packets writes close messages tally
    (ap (setting_book a.book) set ∙ value-set a.book alias value v none same)
    (ap (kept_after a.store) held ∙ ap (after_push a.store) is)

-- a value that is set, and one that is so already
pub set-book : (n : NodeData) (alias : ℕ) (value : Option Value) (v : Option Typed) (s : Setting) → set_refusal n.standing.asked.book alias v ≡ None → option_map typed_view value ≡ v
    → s ≡ Valued alias value → setting_book n.standing.asked.book s ≡ with_value n.standing.asked.book alias v
set-book n alias value v s none same is = ap (setting_book n.standing.asked.book) is ∙ value-set n.standing.asked.book alias value v none same

pub same-planned : (n : NodeData) (now alias : ℕ) (v : Option Typed) (p : Plan) → nat_lt now (2 ^ 63) ≡ true
    → set_refusal n.standing.asked.book alias v ≡ None → rule.is_same_value n.standing.asked.book alias v ≡ true
    → p.out.packets.items ≡ [] → p.out.writes.items ≡ [] → p.out.close ≡ false → p.messages.items ≡ [] → IsTally n p.tally
    → p.setting ≡ Unset → p.kept ≡ Keeping.Nothing → IsPlan n (change_of now alias v) p
same-planned n now alias v p moment none same packets writes close messages tally set kept =
    let b = n.standing.asked.book in
    still-planned n now alias v p moment (asks-same n now alias v none same) packets writes close messages tally (ap (setting_book b) set ∙ sym (same-book b alias v same)) kept
