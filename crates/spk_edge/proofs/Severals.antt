-- Several changes that are done at once do what the rules ask, or what each of them asks by itself.
use Rattle.std.proofs.Common.{◌≡◌, ◌⊎◌, inl, inr, ◌∙◌, ap, sym, refl, subst, ℕ, ◌+◌, ◌%◌, ◌^◌, nat_lt, Bool, true, false, ◌&&◌, cond, List, [], ◌∷◌, ◌++◌, map, Option, Some, None, Result, Ok, Err}
use Rattle.std.specs.List.{list_all}
use Rattle.std.specs.Option.{option_map}
use Rattle.std.proofs.lemmas.Bool.{true≢false}
use Rattle.spk_payload.specs.Typing.{Typed}
use Rattle.spk_packets.specs.Message as packets
use Rattle.spk_packets.specs.Spelling.{spelling}
use Rattle.spk_device.specs.Book.{Book}
use Rattle.spk_device.specs.Step.{set_refusal, with_value}
use Rattle.spk_device.specs.declared.owner.Owner.{Owner}
use Rattle.spk_store.specs.Data.{Kept}
use Rattle.spk_store.specs.Step.{after_push}
use Rattle.spk_edge_rules.specs.declared.fault.EdgeFault.{EdgeFault}
use Rattle.spk_edge_rules.specs.declared.fault.EdgeFault.TheVariants as fault
use Rattle.spk_edge_rules.specs.Answers.{Answer}
use Rattle.spk_edge_rules.specs.Writable.{is_writable}
use Rattle.spk_edge_rules.specs.Births.{later_stamp, owner_at, owner_is_up}
use Rattle.spk_edge_rules.specs.Inputs.{ChangeData, Changes}
use Rattle.spk_edge_rules.specs.Messages.{Draft, wire}
use Rattle.spk_edge_rules.specs.Rules as rule
use Rattle.spk_edge_rules.specs.Rules.{Given, changes_draft, changes_fault, first_fault, is_born, is_same_value, is_timely, others_in, owner_of, with_values}
use Rattle.spk_edge_rules.specs.Several.{single}
use Rattle.spk_edge_rules.specs.Step as step
use Rattle.spk_edge_rules.proofs.Several.{first-stays, head-of, none-refused, owner-stays, up-stays}
use Rattle.spk_edge.specs.Changing.{Asks, change_at, kept, with_book, with_sent, with_store}
use Rattle.spk_edge.specs.Patch.{IsDone, IsRefusal}
use Rattle.spk_edge.specs.Sealing.{AreWhole, IsWhole, bytes_of, numbered, wire_of, with_number}
use Rattle.spk_edge.specs.Several.{AreDone, IsRefused, IsTold, all_at, changes_of, fault_at, message, push_each, set_each}
use Rattle.spk_edge.specs.View.{NodeData, unnumbered, write_view}
use Rattle.spk_edge.specs.declared.message.Out.{Out}
use Rattle.spk_edge.proofs.Plans.{act_refused, all-timely, answer-ok, clock_end, late, same-number}
use Rattle.spk_edge.proofs.Sets.{set-others}
use Rattle.spk_edge.proofs.Told.{asks-down, asks-kept, asks-same, plain-number}

abbrev gave : Given → Result Given EdgeFault
gave g = Ok g

asks-all : (n : NodeData) (now : ℕ) (xs : List (ℕ × Option Typed)) (g : Given) → changes_fault n.standing.asked.book xs ≡ None → rule.several n.standing.asked now xs ≡ g
    → rule.acts n.config n.standing.seq n.standing.asked now (Changes xs) ≡ Ok g
asks-all n now xs g none is = ap (λ o. rule.faulted_or o (rule.several n.standing.asked now xs)) none ∙ ap gave is

-- ---- of a Born node

done-so : (n : NodeData) (now : ℕ) (xs : List (ℕ × Option Typed)) (r : Given) (after : NodeData) (out : Out) → is_born n.standing.asked.phase ≡ true → nat_lt now (2 ^ 63) ≡ true
    → rule.acts n.config n.standing.seq n.standing.asked now (Changes xs) ≡ Ok r → is_timely r ≡ true
    → list_all is_writable (r.plain ++ step.wires n.config n.standing.seq r.drafts) ≡ true
    → map bytes_of out.packets.items ≡ map spelling (r.plain ++ step.wires n.config n.standing.seq r.drafts) → map write_view out.writes.items ≡ r.writes → out.close ≡ r.close
    → AreWhole (numbered n.config.numbering n.standing.seq (map (unnumbered n.config) r.drafts))
    → after ≡ record n { standing = step.stepped n.config n.standing (changes_of now xs) r } → IsDone n (changes_of now xs) after out
done-so n now xs r after out born moment asked timely writable packets writes close whole stands =
    let a : Answer = record { given = r; packets = r.plain ++ step.wires n.config n.standing.seq r.drafts } in
    record {
      answer = a;
      answered = all-timely n (changes_of now xs) r true timely born moment asked ∙ ap (λ b. cond b (answer-ok a) (Err fault.TooLarge)) writable;
      packets = packets;
      writes = writes;
      close = close;
      whole = whole;
      stands = stands;
    }

-- nothing is said where none sets anything, or the owner is down
says-nothing : (a : rule.Asked) (now : ℕ) (owner : Owner) (ys : List (ℕ × Option Typed)) → (ys ≡ []) ⊎ (owner_is_up a.book owner ≡ false) → rule.saying a now owner ys ≡ rule.nothing a
says-nothing a now owner [] quiet = refl
says-nothing a now owner (y ∷ ys) (inl none) = absurd (let x : ⊥ = cc in x)
says-nothing a now owner (y ∷ ys) (inr down) =
    ap (λ b. cond b (record (rule.nothing a) { drafts = changes_draft a.book owner (later_stamp a.stamp now) (y ∷ ys) ∷ [] }) (rule.nothing a)) down

abbrev pub sent : rule.Asked → ℕ → Owner → List (ℕ × Option Typed) → Given
sent a now owner ys = record (rule.nothing a) { drafts = changes_draft a.book owner (later_stamp a.stamp now) ys ∷ [] }

says-something : (a : rule.Asked) (now : ℕ) (owner : Owner) (ys : List (ℕ × Option Typed)) → (ys ≡ [] → ⊥) → owner_is_up a.book owner ≡ true → rule.saying a now owner ys ≡ sent a now owner ys
says-something a now owner [] some up = absurd (some refl)
says-something a now owner (y ∷ ys) some up = ap (λ b. cond b (sent a now owner (y ∷ ys)) (rule.nothing a)) up

still-done : (n : NodeData) (now : ℕ) (xs : List (ℕ × Option Typed)) (after : NodeData) (out : Out) → is_born n.standing.asked.phase ≡ true → nat_lt now (2 ^ 63) ≡ true
    → changes_fault n.standing.asked.book xs ≡ None
    → (others_in n.standing.asked.book xs ≡ []) ⊎ (owner_is_up n.standing.asked.book (owner_of n.standing.asked.book xs) ≡ false)
    → out.packets.items ≡ [] → out.writes.items ≡ [] → out.close ≡ false → after ≡ with_book n (with_values n.standing.asked.book xs) → IsDone n (changes_of now xs) after out
still-done n now xs after out born moment none quiet packets writes close set =
    let a = n.standing.asked in
    done-so n now xs (rule.nothing a) after out born moment
    (asks-all n now xs (rule.nothing a) none (says-nothing a now (owner_of a.book xs) (others_in a.book xs) quiet)) refl refl (ap (map bytes_of) packets) (ap (map write_view) writes) close tt set

-- ---- of any other node

same-all-at : (b : Book) (alias : ℕ) (v : Option Typed) (now : ℕ) (ys : List (ℕ × Option Typed)) → all_at (with_value b alias v) now ys ≡ all_at b now ys
same-all-at b alias v now [] = refl
same-all-at b alias v now (y ∷ ys) =
    ap (λ (o : Owner). (let x : ChangeData = record { owner = o; alias = y.0; value = y.1; time = now } in x) ∷ all_at (with_value b alias v) now ys) (owner-stays b alias v y.0)
    ∙ ap (λ (l : List ChangeData). change_at b now y.0 y.1 ∷ l) (same-all-at b alias v now ys)

-- the data behind them all
abbrev pub behind_all : NodeData → ℕ → Bool → List (ℕ × Option Typed) → NodeData
behind_all n now up xs =
    let a = n.standing.asked in
    with_store (with_book n (with_values a.book xs)) (cond up (push_each a.store (all_at a.book now (others_in a.book xs))) a.store)

-- what one of them gives
record One (n : NodeData) (now : ℕ) (x : ℕ × Option Typed) (up : Bool) : Type 0 where
  given : Given
  asked : Asks n now x.0 x.1 given
  drafts : given.drafts ≡ []
  plain : given.plain ≡ []
  writes : given.writes ≡ []
  close : given.close ≡ false
  next : record n { standing = step.stepped n.config n.standing (single now x) given }
      ≡ with_store (with_book n (with_value n.standing.asked.book x.0 x.1))
      (cond up (cond (is_same_value n.standing.asked.book x.0 x.1) n.standing.asked.store (after_push n.standing.asked.store (change_at n.standing.asked.book now x.0 x.1))) n.standing.asked.store)

one-of : (n : NodeData) (now : ℕ) (owner : Owner) (k : ℕ) (x : ℕ × Option Typed) (xs : List (ℕ × Option Typed)) (up : Bool) → is_born n.standing.asked.phase ≡ false
    → first_fault n.standing.asked.book owner k (x ∷ xs) ≡ None → owner_is_up n.standing.asked.book owner ≡ up → One n now x up
one-of n now owner k x xs up waits none is_up =
    let head = head-of n.standing.asked.book owner k x xs none in
    by up (is_same_value n.standing.asked.book x.0 x.1) refl head.accepted (ap (owner_is_up n.standing.asked.book) head.owned ∙ is_up)
  where
    by : (up same : Bool) → is_same_value n.standing.asked.book x.0 x.1 ≡ same → set_refusal n.standing.asked.book x.0 x.1 ≡ None → owner_is_up n.standing.asked.book (owner_at n.standing.asked.book x.0) ≡ up → One n now x up
    by false same e accepted down = record {
      given = rule.nothing n.standing.asked;
      asked = asks-down n now x.0 x.1 accepted down;
      drafts = refl;
      plain = refl;
      writes = refl;
      close = refl;
      next = refl;
    }
    by true true e accepted is_up = record {
      given = rule.nothing n.standing.asked;
      asked = asks-same n now x.0 x.1 accepted e;
      drafts = refl;
      plain = refl;
      writes = refl;
      close = refl;
      next = ap (λ t. with_store (with_book n (with_value n.standing.asked.book x.0 x.1)) (cond t n.standing.asked.store (after_push n.standing.asked.store (change_at n.standing.asked.book now x.0 x.1)))) (sym e);
    }
    by true false e accepted is_up = record {
      given = kept n.standing.asked now x.0 x.1;
      asked = asks-kept n now x.0 x.1 accepted e is_up waits;
      drafts = refl;
      plain = refl;
      writes = refl;
      close = refl;
      next = ap (λ t. with_store (with_book n (with_value n.standing.asked.book x.0 x.1)) (cond t n.standing.asked.store (after_push n.standing.asked.store (change_at n.standing.asked.book now x.0 x.1)))) (sym e);
    }

-- those behind the first one that set something, and the data with other kept changes
abbrev rest_of : NodeData → ℕ × Option Typed → List (ℕ × Option Typed) → List (ℕ × Option Typed)
rest_of n x xs = others_in (with_value n.standing.asked.book x.0 x.1) xs

abbrev kept_at : NodeData → ℕ × Option Typed → List (ℕ × Option Typed) → Kept ChangeData → NodeData
kept_at n x xs s = with_store (with_book n (with_values (with_value n.standing.asked.book x.0 x.1) xs)) s

-- the data behind the first one and the rest
behind-step : (n : NodeData) (now : ℕ) (up : Bool) (x : ℕ × Option Typed) (xs : List (ℕ × Option Typed))
    → behind_all n now up (x ∷ xs) ≡ behind_all (with_store (with_book n (with_value n.standing.asked.book x.0 x.1))
    (cond up (cond (is_same_value n.standing.asked.book x.0 x.1) n.standing.asked.store (after_push n.standing.asked.store (change_at n.standing.asked.book now x.0 x.1))) n.standing.asked.store)) now up xs
behind-step n now false x xs = refl
behind-step n now true x xs = by (is_same_value n.standing.asked.book x.0 x.1)
  where
    by : (same : Bool)
        → kept_at n x xs (push_each n.standing.asked.store (all_at n.standing.asked.book now (cond same (rest_of n x xs) (x ∷ rest_of n x xs))))
        ≡ kept_at n x xs (push_each (cond same n.standing.asked.store (after_push n.standing.asked.store (change_at n.standing.asked.book now x.0 x.1))) (all_at (with_value n.standing.asked.book x.0 x.1) now (rest_of n x xs)))
    by true = ap (λ (l : List ChangeData). kept_at n x xs (push_each n.standing.asked.store l)) (sym (same-all-at n.standing.asked.book x.0 x.1 now (rest_of n x xs)))
    by false = ap (λ (l : List ChangeData). kept_at n x xs (push_each (after_push n.standing.asked.store (change_at n.standing.asked.book now x.0 x.1)) l)) (sym (same-all-at n.standing.asked.book x.0 x.1 now (rest_of n x xs)))

pub each-done : (n : NodeData) (now : ℕ) (owner : Owner) (k : ℕ) (xs : List (ℕ × Option Typed)) (up : Bool) (after : NodeData) → nat_lt now (2 ^ 63) ≡ true
    → is_born n.standing.asked.phase ≡ false → first_fault n.standing.asked.book owner k xs ≡ None → owner_is_up n.standing.asked.book owner ≡ up
    → after ≡ behind_all n now up xs → AreDone n now xs after
each-done n now owner k [] up after moment waits none is_up is = is ∙ by up
  where
    by : (up : Bool) → behind_all n now up [] ≡ n
    by true = refl
    by false = refl
each-done n now owner k (x ∷ xs) up after moment waits none is_up is =
    let a = n.standing.asked in
    let one = one-of n now owner k x xs up waits none is_up in
    let r = one.given in
    let wires : r.plain ++ step.wires n.config n.standing.seq r.drafts ≡ [] =
    ap (λ (l : List packets.Message). l ++ step.wires n.config n.standing.seq r.drafts) one.plain ∙ ap (step.wires n.config n.standing.seq) one.drafts in
    let answer : Answer = record { given = r; packets = r.plain ++ step.wires n.config n.standing.seq r.drafts } in
    let next : NodeData = with_store (with_book n (with_value a.book x.0 x.1))
    (cond up (cond (is_same_value a.book x.0 x.1) a.store (after_push a.store (change_at a.book now x.0 x.1))) a.store) in (
      answer,
      all-timely n (single now x) r true (ap (λ (ds : List Draft). list_all (λ d. nat_lt d.stamp (2 ^ 63)) ds) one.drafts) refl moment one.asked
          ∙ ap (λ b. cond b (answer-ok answer) (Err fault.TooLarge)) (ap (list_all is_writable) wires),
      record { packets = wires; drafts = one.drafts; writes = one.writes; close = one.close },
      subst (λ (m : NodeData). AreDone m now xs after) (sym one.next)
          (each-done next now owner (k + 1) xs up after moment waits
          (first-stays a.book x.0 x.1 owner (k + 1) xs ∙ (head-of a.book owner k x xs none).rest) (up-stays a.book x.0 x.1 owner ∙ is_up)
          (is ∙ behind-step n now up x xs)),
    )

-- ---- of both

pub set-done : (n : NodeData) (now : ℕ) (xs ys : List (ℕ × Option Typed)) (after : NodeData) (out : Out) → nat_lt now (2 ^ 63) ≡ true
    → changes_fault n.standing.asked.book xs ≡ None → ys ≡ others_in n.standing.asked.book xs
    → (ys ≡ []) ⊎ (owner_is_up n.standing.asked.book (owner_of n.standing.asked.book xs) ≡ false)
    → out.packets.items ≡ [] → out.writes.items ≡ [] → out.close ≡ false → after ≡ with_book n (set_each n.standing.asked.book ys) → IsTold n now xs after out
set-done n now xs ys after out moment none others quiet packets writes close set =
    let a = n.standing.asked in
    let first = none-refused a.book xs none in
    let book : after ≡ with_book n (with_values a.book xs) = set ∙ ap (λ (l : List (ℕ × Option Typed)). with_book n (set_each a.book l)) others ∙ ap (with_book n) (set-others a.book (owner_of a.book xs) 0 xs first) in
    record {
      born = λ born. still-done n now xs after out born moment none (quiet_ others quiet) packets writes close book;
      each = λ waits. by others quiet (owner_is_up a.book (owner_of a.book xs)) refl first waits book;
      silent = λ waits. packets;
      writes = writes;
      close = close;
    }
  where
    quiet_ : ys ≡ others_in n.standing.asked.book xs → (ys ≡ []) ⊎ (owner_is_up n.standing.asked.book (owner_of n.standing.asked.book xs) ≡ false)
        → (others_in n.standing.asked.book xs ≡ []) ⊎ (owner_is_up n.standing.asked.book (owner_of n.standing.asked.book xs) ≡ false)
    quiet_ others (inl none) = inl (sym others ∙ none)
    quiet_ others (inr down) = inr down

    by : ys ≡ others_in n.standing.asked.book xs → (ys ≡ []) ⊎ (owner_is_up n.standing.asked.book (owner_of n.standing.asked.book xs) ≡ false)
        → (up : Bool) → owner_is_up n.standing.asked.book (owner_of n.standing.asked.book xs) ≡ up → first_fault n.standing.asked.book (owner_of n.standing.asked.book xs) 0 xs ≡ None
        → is_born n.standing.asked.phase ≡ false → after ≡ with_book n (with_values n.standing.asked.book xs) → AreDone n now xs after
    by others quiet false is_up first waits book = each-done n now (owner_of n.standing.asked.book xs) 0 xs false after moment waits first is_up book
    by others (inr down) true is_up first waits book = absurd (true≢false (sym is_up ∙ down))
    by others (inl none) true is_up first waits book =
        each-done n now (owner_of n.standing.asked.book xs) 0 xs true after moment waits first is_up
        (book ∙ ap (λ (l : List (ℕ × Option Typed)). with_store (with_book n (with_values n.standing.asked.book xs)) (push_each n.standing.asked.store (all_at n.standing.asked.book now l))) (sym none ∙ others))

pub keep-done : (n : NodeData) (now : ℕ) (xs ys : List (ℕ × Option Typed)) (cs : List ChangeData) (between after : NodeData) (out : Out) → nat_lt now (2 ^ 63) ≡ true
    → is_born n.standing.asked.phase ≡ false → changes_fault n.standing.asked.book xs ≡ None → ys ≡ others_in n.standing.asked.book xs
    → owner_is_up n.standing.asked.book (owner_of n.standing.asked.book xs) ≡ true → cs ≡ all_at n.standing.asked.book now ys
    → out.packets.items ≡ [] → out.writes.items ≡ [] → out.close ≡ false → between ≡ with_book n (set_each n.standing.asked.book ys)
    → after ≡ with_store between (push_each between.standing.asked.store cs) → IsTold n now xs after out
keep-done n now xs ys cs between after out moment waits none others up changes packets writes close set pushed =
    let a = n.standing.asked in
    let first = none-refused a.book xs none in
    let book : between ≡ with_book n (with_values a.book xs) = set ∙ ap (λ (l : List (ℕ × Option Typed)). with_book n (set_each a.book l)) others ∙ ap (with_book n) (set-others a.book (owner_of a.book xs) 0 xs first) in
    record {
      born = λ born. absurd (true≢false (sym born ∙ waits));
      each = λ waits. each-done n now (owner_of a.book xs) 0 xs true after moment waits first up
          (pushed ∙ ap (λ (m : NodeData). with_store m (push_each m.standing.asked.store cs)) book
          ∙ ap (λ (l : List ChangeData). with_store (with_book n (with_values a.book xs)) (push_each a.store l)) (changes ∙ ap (all_at a.book now) others));
      silent = λ waits. packets;
      writes = writes;
      close = close;
    }

-- ---- what is sent

number-is : (n : NodeData) (owner : Owner) (stamp : ℕ) (ys : List (ℕ × Option Typed)) → step.number_of n.config n.standing.seq (changes_draft n.standing.asked.book owner stamp ys) ≡ n.standing.seq
number-is n owner stamp ys = plain-number n.config n.standing.seq (changes_draft n.standing.asked.book owner stamp ys) refl

wires-are : (n : NodeData) (owner : Owner) (stamp : ℕ) (ys : List (ℕ × Option Typed))
    → step.wires n.config n.standing.seq (changes_draft n.standing.asked.book owner stamp ys ∷ []) ≡ wire_of (message n owner stamp ys) ∷ []
wires-are n owner stamp ys = ap (λ k. wire n.config k (changes_draft n.standing.asked.book owner stamp ys) ∷ []) (number-is n owner stamp ys)

numbered-is : (n : NodeData) (owner : Owner) (stamp : ℕ) (ys : List (ℕ × Option Typed))
    → numbered n.config.numbering n.standing.seq (unnumbered n.config (changes_draft n.standing.asked.book owner stamp ys) ∷ []) ≡ message n owner stamp ys ∷ []
numbered-is n owner stamp ys =
    let d = changes_draft n.standing.asked.book owner stamp ys in
    ap (λ k. with_number k (unnumbered n.config d) ∷ []) (same-number n.config n.standing.seq d ∙ number-is n owner stamp ys)

asks-sent : (n : NodeData) (now : ℕ) (xs ys : List (ℕ × Option Typed)) → changes_fault n.standing.asked.book xs ≡ None → ys ≡ others_in n.standing.asked.book xs → (ys ≡ [] → ⊥)
    → owner_is_up n.standing.asked.book (owner_of n.standing.asked.book xs) ≡ true
    → rule.acts n.config n.standing.seq n.standing.asked now (Changes xs) ≡ Ok (sent n.standing.asked now (owner_of n.standing.asked.book xs) ys)
asks-sent n now xs ys none others some up =
    let a = n.standing.asked in
    asks-all n now xs (sent a now (owner_of a.book xs) ys) none
    (ap (rule.saying a now (owner_of a.book xs)) (sym others) ∙ says-something a now (owner_of a.book xs) ys some up)

pub sent-done : (n : NodeData) (now : ℕ) (xs ys : List (ℕ × Option Typed)) (owner : Owner) (stamp : ℕ) (between after : NodeData) (out : Out) → is_born n.standing.asked.phase ≡ true → nat_lt now (2 ^ 63) ≡ true
    → changes_fault n.standing.asked.book xs ≡ None → ys ≡ others_in n.standing.asked.book xs → (ys ≡ [] → ⊥) → owner_is_up n.standing.asked.book (owner_of n.standing.asked.book xs) ≡ true
    → owner ≡ owner_of n.standing.asked.book xs → stamp ≡ later_stamp n.standing.asked.stamp now → nat_lt stamp (2 ^ 63) ≡ true
    → is_writable (wire_of (message n owner stamp ys)) ≡ true
    → map bytes_of out.packets.items ≡ spelling (wire_of (message n owner stamp ys)) ∷ [] → out.writes.items ≡ [] → out.close ≡ false → IsWhole (message n owner stamp ys)
    → between ≡ with_book n (set_each n.standing.asked.book ys) → after ≡ with_sent between stamp → IsTold n now xs after out
sent-done n now xs ys owner stamp between after out born moment none others some up own at timely writable packets writes close whole set counted = record {
  born = λ born. done-so n now xs (sent n.standing.asked now (owner_of n.standing.asked.book xs) ys) after out born moment (asks-sent n now xs ys none others some up)
      (ap (λ s. nat_lt s (2 ^ 63) && true) (sym at) ∙ ap (λ b. b && true) timely)
      (ap (list_all is_writable) wires ∙ ap (λ b. b && true) writable)
      (packets ∙ ap (map spelling) (sym wires))
      (ap (map write_view) writes)
      close
      (subst AreWhole (sym (ap (λ (d : Draft). numbered n.config.numbering n.standing.seq (unnumbered n.config d ∷ [])) draft ∙ numbered-is n owner stamp ys)) (whole, tt))
      stands;
  each = λ waits. absurd (true≢false (sym born ∙ waits));
  silent = λ waits. absurd (true≢false (sym born ∙ waits));
  writes = writes;
  close = close;
}
  where
    draft : changes_draft n.standing.asked.book (owner_of n.standing.asked.book xs) (later_stamp n.standing.asked.stamp now) ys ≡ changes_draft n.standing.asked.book owner stamp ys
    draft = ap (λ (o : Owner). changes_draft n.standing.asked.book o (later_stamp n.standing.asked.stamp now) ys) (sym own) ∙ ap (λ s. changes_draft n.standing.asked.book owner s ys) (sym at)

    wires : step.wires n.config n.standing.seq (sent n.standing.asked now (owner_of n.standing.asked.book xs) ys).drafts ≡ wire_of (message n owner stamp ys) ∷ []
    wires = ap (λ (d : Draft). step.wires n.config n.standing.seq (d ∷ [])) draft ∙ wires-are n owner stamp ys

    seq : (n.standing.seq + 1) % 256 ≡ step.seq_after n.config n.standing.seq (sent n.standing.asked now (owner_of n.standing.asked.book xs) ys).drafts
    seq = ap (λ k. (k + 1) % 256) (sym (ap (step.number_of n.config n.standing.seq) draft ∙ number-is n owner stamp ys))

    stands : after ≡ record n { standing = step.stepped n.config n.standing (changes_of now xs) (sent n.standing.asked now (owner_of n.standing.asked.book xs) ys) }
    stands =
        counted ∙ ap (λ (m : NodeData). with_sent m stamp) (set ∙ ap (λ (l : List (ℕ × Option Typed)). with_book n (set_each n.standing.asked.book l)) others
        ∙ ap (with_book n) (set-others n.standing.asked.book (owner_of n.standing.asked.book xs) 0 xs (none-refused n.standing.asked.book xs none)))
        ∙ ap (λ s. with_sent (with_book n (with_values n.standing.asked.book xs)) s) at
        ∙ ap (λ k. record n { standing = record { asked = record n.standing.asked { book = with_values n.standing.asked.book xs; stamp = Some (later_stamp n.standing.asked.stamp now) }; seq = k } }) seq

-- ---- what is refused

-- a Born node refuses what the rules refuse
born-refused : (n : NodeData) (now : ℕ) (xs : List (ℕ × Option Typed)) (e : EdgeFault) → is_born n.standing.asked.phase ≡ true → IsRefusal n (changes_of now xs) e → IsRefused n now xs e
born-refused n now xs e born (inl memory) = inl memory
born-refused n now xs e born (inr is) = inr (record { born = λ b. is; others = λ waits. absurd (true≢false (sym born ∙ waits)) })

either : (n : NodeData) (now : ℕ) (xs : List (ℕ × Option Typed)) (e : EdgeFault) → (is_born n.standing.asked.phase ≡ true → IsRefusal n (changes_of now xs) e)
    → fault_at n.standing.asked.book now xs ≡ Some e → IsRefused n now xs e
either n now xs e when_born is = by (is_born n.standing.asked.phase) refl
  where
    by : (b : Bool) → is_born n.standing.asked.phase ≡ b → IsRefused n now xs e
    by true born = born-refused n now xs e born (when_born born)
    by false waits = inr (record { born = λ born. absurd (true≢false (sym born ∙ waits)); others = λ w. is })

pub sent-late : (n : NodeData) (now : ℕ) (xs ys : List (ℕ × Option Typed)) (stamp : ℕ) → is_born n.standing.asked.phase ≡ true → nat_lt now (2 ^ 63) ≡ true
    → changes_fault n.standing.asked.book xs ≡ None → ys ≡ others_in n.standing.asked.book xs → (ys ≡ [] → ⊥) → owner_is_up n.standing.asked.book (owner_of n.standing.asked.book xs) ≡ true
    → stamp ≡ later_stamp n.standing.asked.stamp now → nat_lt stamp (2 ^ 63) ≡ false → IsRefused n now xs fault.ClockEnd
sent-late n now xs ys stamp born moment none others some up at never =
    born-refused n now xs fault.ClockEnd born
    (late n (changes_of now xs) (sent n.standing.asked now (owner_of n.standing.asked.book xs) ys) born moment (asks-sent n now xs ys none others some up)
    (ap (λ s. nat_lt s (2 ^ 63) && true) (sym at) ∙ ap (λ b. b && true) never))

pub sent-large : (n : NodeData) (now : ℕ) (xs ys : List (ℕ × Option Typed)) (owner : Owner) (stamp : ℕ) → is_born n.standing.asked.phase ≡ true → nat_lt now (2 ^ 63) ≡ true
    → changes_fault n.standing.asked.book xs ≡ None → ys ≡ others_in n.standing.asked.book xs → (ys ≡ [] → ⊥) → owner_is_up n.standing.asked.book (owner_of n.standing.asked.book xs) ≡ true
    → owner ≡ owner_of n.standing.asked.book xs → stamp ≡ later_stamp n.standing.asked.stamp now → nat_lt stamp (2 ^ 63) ≡ true
    → is_writable (wire_of (message n owner stamp ys)) ≡ false → IsRefused n now xs fault.TooLarge
sent-large n now xs ys owner stamp born moment none others some up own at timely never =
    let a = n.standing.asked in
    let r = sent a now (owner_of a.book xs) ys in
    let draft : changes_draft a.book (owner_of a.book xs) (later_stamp a.stamp now) ys ≡ changes_draft a.book owner stamp ys =
    ap (λ (o : Owner). changes_draft a.book o (later_stamp a.stamp now) ys) (sym own) ∙ ap (λ s. changes_draft a.book owner s ys) (sym at) in
    let answer : Answer = record { given = r; packets = step.wires n.config n.standing.seq r.drafts } in
    born-refused n now xs fault.TooLarge born (inr (
    all-timely n (changes_of now xs) r true (ap (λ s. nat_lt s (2 ^ 63) && true) (sym at) ∙ ap (λ b. b && true) timely) born moment (asks-sent n now xs ys none others some up)
    ∙ ap (λ b. cond b (answer-ok answer) (Err fault.TooLarge))
    (ap (λ (d : Draft). list_all is_writable (step.wires n.config n.standing.seq (d ∷ []))) draft ∙ ap (list_all is_writable) (wires-are n owner stamp ys) ∙ ap (λ b. b && true) never)))

pub first-refused : (n : NodeData) (now : ℕ) (xs : List (ℕ × Option Typed)) (place : ℕ) (e : EdgeFault) → nat_lt now (2 ^ 63) ≡ true
    → rule.refused_first n.standing.asked.book xs ≡ Some (place, e) → IsRefused n now xs e
first-refused n now xs place e moment is =
    let a = n.standing.asked in
    let because : changes_fault a.book xs ≡ Some e = ap (option_map (λ (p : ℕ × EdgeFault). p.1)) is in
    either n now xs e
    (λ born. act_refused n (changes_of now xs) e born moment (inr (inl (ap (λ o. rule.faulted_or o (rule.several a now xs)) because))))
    (ap (λ b. cond b (changes_fault a.book xs) (Some fault.ClockEnd)) moment ∙ because)

pub moment-refused : (n : NodeData) (now : ℕ) (xs : List (ℕ × Option Typed)) → nat_lt now (2 ^ 63) ≡ false → IsRefused n now xs fault.ClockEnd
moment-refused n now xs never =
    either n now xs fault.ClockEnd (λ born. clock_end n (changes_of now xs) born never)
    (ap (λ b. let o : Option EdgeFault = cond b (changes_fault n.standing.asked.book xs) (Some fault.ClockEnd) in o) never)

pub none-first : (b : Book) (xs : List (ℕ × Option Typed)) → rule.refused_first b xs ≡ None → changes_fault b xs ≡ None
none-first b xs is = ap (option_map (λ (p : ℕ × EdgeFault). p.1)) is
