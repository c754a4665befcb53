-- Kept changes that are sent at once are what the rules drain.
use Rattle.std.proofs.Common.{◌≡◌, ◌∙◌, ap, sym, refl, subst, ℕ, zero, suc, ◌+◌, ◌%◌, ◌^◌, ◌≤◌, min, nat_lt, Bool, true, false, not, ◌&&◌, List, [], ◌∷◌, length, map, take, slice_get, Option, Some, None, is_some, is_none, Result, Ok, Err, arith}
use Rattle.std.specs.Prelude.{IfOk}
use Rattle.std.specs.List.{list_all}
use Rattle.std.specs.Option.{option_and_then, option_map, option_map_or}
use Rattle.std.proofs.lemmas.Option.{slice_get-map}
use Rattle.spk_packets.specs.Spelling.{spelling}
use Rattle.spk_payload.specs.Meaning.{Content, MetricData}
use Rattle.spk_payload.specs.Typing.{typed_view, written_of}
use Rattle.spk_payload.specs.declared.typing.Value.{Value}
use Rattle.spk_device.specs.Book.{Book, gauge_at}
use Rattle.spk_device.specs.declared.owner.Owner.{Owner}
use Rattle.spk_store.specs.Step.{after_drop}
use Rattle.spk_edge_rules.specs.Writable.{is_writable}
use Rattle.spk_edge_rules.specs.Births.{data_draft, kept_metric, later_stamp}
use Rattle.spk_edge_rules.specs.History.{history}
use Rattle.spk_edge_rules.specs.Inputs.{ChangeData, Drain}
use Rattle.spk_edge_rules.specs.Messages.{Draft, wire}
use Rattle.spk_edge_rules.specs.Rules as rule
use Rattle.spk_edge_rules.specs.Rules.{Given}
use Rattle.spk_edge_rules.specs.Step as step
use Rattle.spk_edge_rules.specs.declared.fault.EdgeFault.{EdgeFault}
use Rattle.spk_edge_rules.specs.declared.fault.EdgeFault.TheVariants as fault
use Rattle.spk_edge.specs.Changing.{with_sent}
use Rattle.spk_edge.specs.History.{Asks, IsTried, IsTriedAt, dropped, message, sent, with_fewer}
use Rattle.spk_edge.specs.Patch.{IsDone, IsRefusal, plain_input}
use Rattle.spk_edge.specs.Saying.{null_said}
use Rattle.spk_edge.specs.Sealing.{AreWhole, IsWhole, bytes_of, numbered, wire_of, with_number}
use Rattle.spk_edge.specs.View.{NodeData, unnumbered, write_view}
use Rattle.spk_edge.specs.declared.message.Out.{Out}
use Rattle.spk_edge.proofs.Born.{none-of}
use Rattle.spk_edge.proofs.Packed.{null-same}
use Rattle.spk_edge.proofs.Plans.{late, same-number}
use Rattle.spk_edge.proofs.Reborn.{done-ruled}
use Rattle.spk_edge.proofs.Told.{plain-number}

-- ---- a kept change at its place

-- what is said of a kept change
abbrev pub kept_so : ℕ → ℕ → Option Bool → Option Content → MetricData
kept_so alias time null value = record {
  name = None;
  alias = Some alias;
  timestamp = Some time;
  datatype = None;
  historical = Some true;
  transient = None;
  null = null;
  value = value;
}

pub kept-is : (b : Book) (items : List ChangeData) (place : ℕ) (owner : Owner) (alias time : ℕ) (held : Option Value) (null : Bool) (value : Option Content)
    → slice_get items place ≡ Some (record { owner = owner; alias = alias; value = option_map typed_view held; time = time }) → is_some held ≡ not null
    → value ≡ option_and_then (written_of (option_map_or (λ g. g.datatype) (gauge_at b alias) 0)) (option_map typed_view held)
    → slice_get (map (kept_metric b) items) place ≡ Some (kept_so alias time (null_said null) value)
kept-is b items place owner alias time held null value there nothing written =
    let v = option_map typed_view held in
    let w = option_and_then (written_of (option_map_or (λ g. g.datatype) (gauge_at b alias) 0)) v in
    slice_get-map (kept_metric b) items place ∙ ap (option_map (kept_metric b)) there
    ∙ sym (ap (λ o. Some (kept_so alias time (null_said null) o)) written
    ∙ ap (λ o. Some (kept_so alias time o w)) (ap null_said (none-of held null nothing) ∙ null-same (is_none v)))

pub kept-none : (b : Book) (items : List ChangeData) (place : ℕ) → slice_get items place ≡ None → slice_get (map (kept_metric b) items) place ≡ None
kept-none b items place none = slice_get-map (kept_metric b) items place ∙ ap (option_map (kept_metric b)) none

-- ---- its message

pub take-map : {X Y : Type 0} (f : X → Y) (n : ℕ) (xs : List X) → take n (map f xs) ≡ map f (take n xs)
take-map f zero [] = refl
take-map f zero (x ∷ xs) = refl
take-map f (suc n) [] = refl
take-map f (suc n) (x ∷ xs) = ap (λ l. f x ∷ l) (take-map f n xs)

-- the draft by the rules
abbrev draft : NodeData → ℕ → Owner → ℕ → Draft
draft n now owner count =
    let a = n.standing.asked in
    history a.book owner (later_stamp a.stamp now) a.store.items count

message-is : (n : NodeData) (now : ℕ) (owner : Owner) (count : ℕ) → message n now owner count ≡ with_number n.standing.seq (unnumbered n.config (draft n now owner count))
message-is n now owner count =
    let a = n.standing.asked in
    ap (λ (ms : List MetricData). with_number n.standing.seq (unnumbered n.config (data_draft a.book owner (later_stamp a.stamp now) ms))) (take-map (kept_metric a.book) count a.store.items)

number-is : (n : NodeData) (now : ℕ) (owner : Owner) (count : ℕ) → step.number_of n.config n.standing.seq (draft n now owner count) ≡ n.standing.seq
number-is n now owner count = plain-number n.config n.standing.seq (draft n now owner count) refl

wires-is : (n : NodeData) (now : ℕ) (owner : Owner) (count : ℕ) → step.wires n.config n.standing.seq (draft n now owner count ∷ []) ≡ wire_of (message n now owner count) ∷ []
wires-is n now owner count =
    ap (λ k. wire n.config k (draft n now owner count) ∷ []) (number-is n now owner count) ∙ ap (λ m. wire_of m ∷ []) (sym (message-is n now owner count))

numbered-is : (n : NodeData) (now : ℕ) (owner : Owner) (count : ℕ)
    → numbered n.config.numbering n.standing.seq (unnumbered n.config (draft n now owner count) ∷ []) ≡ message n now owner count ∷ []
numbered-is n now owner count =
    let d = draft n now owner count in
    ap (λ k. with_number k (unnumbered n.config d) ∷ []) (same-number n.config n.standing.seq d ∙ number-is n now owner count) ∙ ap (λ m. m ∷ []) (sym (message-is n now owner count))

-- ---- what the rules ask

abbrev gave : Given → Result Given EdgeFault
gave g = Ok g

fewer : (count : ℕ) (items : List ChangeData) → count ≤ length items → min count (length items) ≡ count
fewer count items few = omega (arith, few)

-- ---- what is done

pub sent-done : (n : NodeData) (now : ℕ) (owner : Owner) (count stamp : ℕ) (between after : NodeData) (out : Out) → rule.is_born n.standing.asked.phase ≡ true → nat_lt now (2 ^ 63) ≡ true
    → Asks n now (sent n.standing.asked now owner count) → count ≤ length n.standing.asked.store.items → stamp ≡ later_stamp n.standing.asked.stamp now → nat_lt stamp (2 ^ 63) ≡ true
    → is_writable (wire_of (message n now owner count)) ≡ true → map bytes_of out.packets.items ≡ spelling (wire_of (message n now owner count)) ∷ [] → out.writes.items ≡ [] → out.close ≡ false
    → IsWhole (message n now owner count) → between ≡ with_fewer n count false → after ≡ with_sent between stamp → IsDone n (plain_input now Drain) after out
sent-done n now owner count stamp between after out born moment asked few at timely writable packets writes close whole fewer-is counted =
    let a = n.standing.asked in
    let wires = wires-is n now owner count in
    let numbers = numbered-is n now owner count in
    done-ruled n (plain_input now Drain) (sent a now owner count) after out born moment (ap gave asked)
    (ap (λ s. nat_lt s (2 ^ 63) && true) (sym at) ∙ ap (λ b. b && true) timely)
    (ap (list_all is_writable) wires ∙ ap (λ b. b && true) writable)
    (packets ∙ ap (map spelling) (sym wires))
    (ap (map write_view) writes)
    close
    (subst AreWhole (sym numbers) (whole, tt))
    (counted ∙ ap (λ m. with_sent m stamp) fewer-is ∙ ap (with_sent (with_fewer n count false)) at
    ∙ ap (λ k. record n {
      standing = record { asked = record a { stamp = Some (later_stamp a.stamp now); store = after_drop a.store k false }; seq = (n.standing.seq + 1) % 256 };
    }) (fewer count a.store.items few)
    ∙ ap (λ k. record n {
      standing = record { asked = record a { stamp = Some (later_stamp a.stamp now); store = after_drop a.store count false }; seq = (k + 1) % 256 };
    }) (sym (number-is n now owner count)))

pub sent-late : (n : NodeData) (now : ℕ) (owner : Owner) (count stamp : ℕ) → rule.is_born n.standing.asked.phase ≡ true → nat_lt now (2 ^ 63) ≡ true
    → Asks n now (sent n.standing.asked now owner count) → stamp ≡ later_stamp n.standing.asked.stamp now → nat_lt stamp (2 ^ 63) ≡ false
    → IsRefusal n (plain_input now Drain) fault.ClockEnd
sent-late n now owner count stamp born moment asked at never =
    late n (plain_input now Drain) (sent n.standing.asked now owner count) born moment (ap gave asked)
    (ap (λ s. nat_lt s (2 ^ 63) && true) (sym at) ∙ ap (λ b. b && true) never)

pub dropped-done : (n : NodeData) (now count : ℕ) (after : NodeData) (out : Out) → rule.is_born n.standing.asked.phase ≡ true → nat_lt now (2 ^ 63) ≡ true
    → Asks n now (dropped n.standing.asked count) → count ≤ length n.standing.asked.store.items
    → out.packets.items ≡ [] → out.writes.items ≡ [] → out.close ≡ false → after ≡ with_fewer n count true → IsDone n (plain_input now Drain) after out
dropped-done n now count after out born moment asked few packets writes close is =
    let a = n.standing.asked in
    done-ruled n (plain_input now Drain) (dropped a count) after out born moment (ap gave asked) refl refl
    (ap (map bytes_of) packets) (ap (map write_view) writes) close tt
    (is ∙ ap (λ k. record n { standing = record n.standing { asked = record a { store = after_drop a.store k true } } }) (fewer count a.store.items few))

pub none-done : (n : NodeData) (now : ℕ) (out : Out) → rule.is_born n.standing.asked.phase ≡ true → nat_lt now (2 ^ 63) ≡ true
    → Asks n now (rule.nothing n.standing.asked)
    → out.packets.items ≡ [] → out.writes.items ≡ [] → out.close ≡ false → IsDone n (plain_input now Drain) n out
none-done n now out born moment asked packets writes close =
    done-ruled n (plain_input now Drain) (rule.nothing n.standing.asked) n out born moment (ap gave asked) refl refl
    (ap (map bytes_of) packets) (ap (map write_view) writes) close tt refl

-- ---- whether a kept change is put

pub some-same : {X : Type 0} (x y : X) → (let o : Option X = Some x in o) ≡ Some y → x ≡ y
some-same x y e = let same : x ≡ y = cc in same

pub none-some : {X : Type 0} (x : X) → (let o : Option X = None in o) ≡ Some x → ⊥
none-some x e = let z : ⊥ = cc in z

pub tried-at : {E : Type 0} (r : Result Bool E) (limit : ℕ) (before after : List ℕ) (ms : List MetricData) (place : ℕ) (m : MetricData) → slice_get ms place ≡ Some m
    → IfOk r (IsTried limit before after m) → IfOk r (IsTriedAt limit before after ms place)
tried-at (Ok b) limit before after ms place m there tried = λ other at.
    let same : m ≡ other = some-same m other (sym there ∙ at) in
    subst (λ x. IsTried limit before after x b) same tried
tried-at (Err e) limit before after ms place m there tried = tt

pub no-metric : (limit : ℕ) (before : List ℕ) (ms : List MetricData) (place : ℕ) → slice_get ms place ≡ None → IsTriedAt limit before before ms place true
no-metric limit before ms place none = λ m at. absurd (none-some m (sym none ∙ at))

-- a kept change at its place, as a metric
pub kept-there : (b : Book) (items : List ChangeData) (place : ℕ) (change : ChangeData) → slice_get items place ≡ Some change → slice_get (map (kept_metric b) items) place ≡ Some (kept_metric b change)
kept-there b items place change there = slice_get-map (kept_metric b) items place ∙ ap (option_map (kept_metric b)) there
