-- Several changes at once say what they say one after the other.
use Rattle.std.proofs.Common.{◌≡◌, ◌⊎◌, ℕ, zero, suc, ◌+◌, ◌-◌, Bool, true, false, not, ◌&&◌, cond, List, [], ◌∷◌, ◌++◌, map, Option, Some, None, Ok, refl, sym, ◌∙◌, ap, subst, inl, inr, arith}
use Rattle.std.specs.Prelude.{◌==◌, slice_get, if◌then◌else◌}
use Rattle.std.specs.Option.{option_and_then, option_map, option_map_or}
use Rattle.std.proofs.lemmas.Bool.{eqb-true, true≢false}
use Rattle.std.proofs.lemmas.List.{append-nil}
use Rattle.spk_payload.specs.Meaning.{MetricData}
use Rattle.spk_payload.specs.Typing.{Typed, written_of}
use Rattle.spk_device.specs.Book.{Book, GaugeData, gauge_at, is_owner, owner_number}
use Rattle.spk_device.specs.Step.{set_refusal, values_with, with_value}
use Rattle.spk_device.specs.Values.{is_of}
use Rattle.spk_device.specs.declared.fault.Refusal.{Refusal}
use Rattle.spk_device.specs.declared.fault.Refusal.TheVariants.{NoSuch, WrongKind}
use Rattle.spk_device.specs.declared.owner.Owner.{Owner}
use Rattle.spk_device.specs.declared.owner.Owner.TheVariants.{Node, Device}
use Rattle.spk_edge_rules.specs.declared.fault.EdgeFault.{EdgeFault}
use Rattle.spk_edge_rules.specs.declared.fault.EdgeFault.TheVariants as fault
use Rattle.spk_edge_rules.specs.Births.{data_metric, device_of, later_stamp, owner_at, owner_is_up}
use Rattle.spk_edge_rules.specs.Config.{Config}
use Rattle.spk_store.specs.Calls.{Push}
use Rattle.spk_edge_rules.specs.Inputs.{Changes}
use Rattle.spk_edge_rules.specs.Messages.{Draft}
use Rattle.spk_edge_rules.specs.Rules as rule
use Rattle.spk_edge_rules.specs.Rules.{Asked, Given, acts, change_fault, changes_fault, changing, faulted_or, first_fault, is_born, is_same_value, nothing, others_in, owner_of, rules, saying, several, telling, with_values}
use Rattle.spk_edge_rules.specs.Several.{AreTaken, behind, book_behind, messages_of, single, told_in}
use Rattle.spk_edge_rules.specs.Step.{asked_after}
use Rattle.spk_edge_rules.proofs.Courses.{rules-taken}
use Rattle.spk_edge_rules.proofs.Later.{same-owner}
use Rattle.spk_edge_rules.proofs.Published.{acked-drafts}

-- ---- a value that is set

-- the metric of the alias has it, the others are as they were
set-at : (n alias : ℕ) (v : Option Typed) (gs : List GaugeData) (k : ℕ)
    → slice_get (values_with n alias v gs) k ≡ option_map (λ (g : GaugeData). if n + k + 1 == alias then record g { value = v } else g) (slice_get gs k)
set-at n alias v [] k = refl
set-at n alias v (g ∷ gs) zero =
    let e : n + 1 ≡ n + 0 + 1 = omega arith in
    ap (λ m. let o : Option GaugeData = Some (if m == alias then record g { value = v } else g) in o) e
set-at n alias v (g ∷ gs) (suc k) =
    let e : n + 1 + k + 1 ≡ n + suc k + 1 = omega arith in
    set-at (n + 1) alias v gs k ∙ ap (λ m. option_map (λ (g : GaugeData). if m == alias then record g { value = v } else g) (slice_get gs k)) e

pub gauge-set : (b : Book) (alias : ℕ) (v : Option Typed) (at : ℕ)
    → gauge_at (with_value b alias v) at ≡ option_map (λ (g : GaugeData). if at == alias then record g { value = v } else g) (gauge_at b at)
gauge-set b alias v at = by (at == 0) refl
  where
    nonzero : (at : ℕ) → (at == 0) ≡ false → 0 + (at - 1) + 1 ≡ at
    nonzero zero e = absurd (true≢false e)
    nonzero (suc k) e = omega arith

    by : (t : Bool) → (at == 0) ≡ t
        → cond t None (slice_get (values_with 0 alias v b.gauges) (at - 1))
        ≡ option_map (λ (g : GaugeData). if at == alias then record g { value = v } else g) (cond t None (slice_get b.gauges (at - 1)))
    by true e = refl
    by false e =
        set-at 0 alias v b.gauges (at - 1)
        ∙ ap (λ m. option_map (λ (g : GaugeData). if m == alias then record g { value = v } else g) (slice_get b.gauges (at - 1))) (nonzero at e)

-- what of a metric isn't its value stays as it was
pub stays : {X : Type 0} (f : GaugeData → X) (z : X) (b : Book) (alias : ℕ) (v : Option Typed) (at : ℕ) → ((g : GaugeData) → f (record g { value = v }) ≡ f g)
    → option_map_or f (gauge_at (with_value b alias v) at) z ≡ option_map_or f (gauge_at b at) z
stays f z b alias v at same = ap (λ o. option_map_or f o z) (gauge-set b alias v at) ∙ by (gauge_at b at)
  where
    pick : (t : Bool) (g : GaugeData) → f (if t then record g { value = v } else g) ≡ f g
    pick true g = same g
    pick false g = refl

    by : (o : Option GaugeData) → option_map_or f (option_map (λ (g : GaugeData). if at == alias then record g { value = v } else g) o) z ≡ option_map_or f o z
    by None = refl
    by (Some g) = pick (at == alias) g

pub owner-stays : (b : Book) (alias : ℕ) (v : Option Typed) (at : ℕ) → owner_at (with_value b alias v) at ≡ owner_at b at
owner-stays b alias v at = stays (λ (g : GaugeData). g.owner) Node b alias v at (λ g. refl)

pub refusal-stays : (b : Book) (alias : ℕ) (v : Option Typed) (at : ℕ) (w : Option Typed) → set_refusal (with_value b alias v) at w ≡ set_refusal b at w
refusal-stays b alias v at w = stays (λ (g : GaugeData). if is_of g.datatype w then None else Some WrongKind) (Some NoSuch) b alias v at (λ g. refl)

abbrev data_with : Book → ℕ → ℕ → ℕ × Option Typed → MetricData
data_with b d stamp x = record (data_metric b x.0 stamp None x.1) { value = option_and_then (written_of d) x.1 }

pub up-stays : (b : Book) (alias : ℕ) (v : Option Typed) (owner : Owner) → owner_is_up (with_value b alias v) owner ≡ owner_is_up b owner
up-stays b alias v Node = refl
up-stays b alias v (Device n) = refl

device-stays : (b : Book) (alias : ℕ) (v : Option Typed) (owner : Owner) → device_of (with_value b alias v) owner ≡ device_of b owner
device-stays b alias v Node = refl
device-stays b alias v (Device n) = refl

pub metric-stays : (b : Book) (alias : ℕ) (v : Option Typed) (stamp : ℕ) (x : ℕ × Option Typed) → data_metric (with_value b alias v) x.0 stamp None x.1 ≡ data_metric b x.0 stamp None x.1
metric-stays b alias v stamp x =
    ap (λ d. data_with b d stamp x) (stays (λ (g : GaugeData). g.datatype) 0 b alias v x.0 (λ g. refl))

-- ---- refusals

fault-stays : (b : Book) (alias : ℕ) (v : Option Typed) (owner : Owner) (x : ℕ × Option Typed) → change_fault (with_value b alias v) owner x ≡ change_fault b owner x
fault-stays b alias v owner x =
    ap (λ o. option_map_or (λ (r : Refusal). let f : Option EdgeFault = Some (fault.Device r) in f) o (if is_owner owner (owner_at (with_value b alias v) x.0) then None else Some fault.TwoOwners)) (refusal-stays b alias v x.0 x.1)
    ∙ ap (λ o. option_map_or (λ (r : Refusal). let f : Option EdgeFault = Some (fault.Device r) in f) (set_refusal b x.0 x.1) (if is_owner owner o then None else Some fault.TwoOwners)) (owner-stays b alias v x.0)

pub first-stays : (b : Book) (alias : ℕ) (v : Option Typed) (owner : Owner) (n : ℕ) (xs : List (ℕ × Option Typed)) → first_fault (with_value b alias v) owner n xs ≡ first_fault b owner n xs
first-stays b alias v owner n [] = refl
first-stays b alias v owner n (x ∷ xs) =
    ap (λ o. option_map_or (λ (f : EdgeFault). let e : Option (ℕ × EdgeFault) = Some (n, f) in e) o (first_fault (with_value b alias v) owner (n + 1) xs)) (fault-stays b alias v owner x)
    ∙ ap (λ r. option_map_or (λ (f : EdgeFault). let e : Option (ℕ × EdgeFault) = Some (n, f) in e) (change_fault b owner x) r) (first-stays b alias v owner (n + 1) xs)

-- the first of changes that aren't refused
pub record IsHead (b : Book) (owner : Owner) (n : ℕ) (x : ℕ × Option Typed) (xs : List (ℕ × Option Typed)) : Type 0 where
  pub accepted : set_refusal b x.0 x.1 ≡ None
  pub owned : owner_at b x.0 ≡ owner
  pub rest : first_fault b owner (n + 1) xs ≡ None

pub head-of : (b : Book) (owner : Owner) (n : ℕ) (x : ℕ × Option Typed) (xs : List (ℕ × Option Typed)) → first_fault b owner n (x ∷ xs) ≡ None → IsHead b owner n x xs
head-of b owner n x xs none = by (set_refusal b x.0 x.1) (is_owner owner (owner_at b x.0)) refl refl none
  where
    by : (r : Option Refusal) (mine : Bool) → set_refusal b x.0 x.1 ≡ r → is_owner owner (owner_at b x.0) ≡ mine
        → option_map_or (λ (f : EdgeFault). let e : Option (ℕ × EdgeFault) = Some (n, f) in e)
        (option_map_or (λ (r : Refusal). let f : Option EdgeFault = Some (fault.Device r) in f) r (if mine then None else Some fault.TwoOwners))
        (first_fault b owner (n + 1) xs) ≡ None → IsHead b owner n x xs
    by (Some r) mine is own e = absurd (let x : ⊥ = cc in x)
    by None false is own e = absurd (let x : ⊥ = cc in x)
    by None true is own e = record {
      accepted = is;
      owned = sym (same-owner owner (owner_at b x.0) (eqb-true (owner_number owner) (owner_number (owner_at b x.0)) own));
      rest = e;
    }

pub none-refused : (b : Book) (xs : List (ℕ × Option Typed)) → changes_fault b xs ≡ None → first_fault b (owner_of b xs) 0 xs ≡ None
none-refused b xs e = by (first_fault b (owner_of b xs) 0 xs) e
  where
    by : (o : Option (ℕ × EdgeFault)) → option_map (λ (e : ℕ × EdgeFault). e.1) o ≡ None → o ≡ None
    by None e = refl
    by (Some f) e = absurd (let x : ⊥ = cc in x)

-- ---- what is said

abbrev rows : Book → Owner → ℕ → List (ℕ × Option Typed) → List (Option (List ℕ) × ℕ × MetricData)
rows b owner stamp xs = map (λ m. (device_of b owner, stamp, m)) (map (λ (x : ℕ × Option Typed). data_metric b x.0 stamp None x.1) xs)

rows-stay : (b : Book) (alias : ℕ) (v : Option Typed) (owner : Owner) (stamp : ℕ) (xs : List (ℕ × Option Typed)) → rows (with_value b alias v) owner stamp xs ≡ rows b owner stamp xs
rows-stay b alias v owner stamp [] = refl
rows-stay b alias v owner stamp (x ∷ xs) =
    ap (λ (o : Option (List ℕ)). (o, stamp, data_metric (with_value b alias v) x.0 stamp None x.1) ∷ rows (with_value b alias v) owner stamp xs) (device-stays b alias v owner)
    ∙ ap (λ (m : MetricData). (device_of b owner, stamp, m) ∷ rows (with_value b alias v) owner stamp xs) (metric-stays b alias v stamp x)
    ∙ ap (λ (l : List (Option (List ℕ) × ℕ × MetricData)). (device_of b owner, stamp, data_metric b x.0 stamp None x.1) ∷ l) (rows-stay b alias v owner stamp xs)

same-stamp : (last : Option ℕ) (now : ℕ) → later_stamp (Some (later_stamp last now)) now ≡ later_stamp last now
same-stamp None now = omega arith
same-stamp (Some last) now = omega arith

none-said : (up : Bool) → ◌≡◌ {A = List (Option (List ℕ) × ℕ × MetricData)} [] (cond up [] [])
none-said true = refl
none-said false = refl

abbrev Rest : Config → Asked → ℕ → ℕ × Option Typed → List (ℕ × Option Typed) → Bool → Owner → Type 0
Rest c a now x xs up owner =
    (next : Asked) → is_born next.phase ≡ true → next.book ≡ with_value a.book x.0 x.1 → later_stamp next.stamp now ≡ later_stamp a.stamp now
    → told_in (messages_of c next now xs) ≡ cond up (rows a.book owner (later_stamp a.stamp now) (others_in (with_value a.book x.0 x.1) xs)) []

-- a change that is sent, and one that is kept
abbrev sent_one : Asked → ℕ → ℕ × Option Typed → Given
sent_one a now x = record (nothing a) { drafts = rule.changes_draft a.book (owner_at a.book x.0) (later_stamp a.stamp now) (x ∷ []) ∷ [] }

abbrev kept_one : Asked → ℕ → ℕ × Option Typed → Given
kept_one a now x = record (nothing a) { store = Some (Push (record { owner = owner_at a.book x.0; alias = x.0; value = x.1; time = now })) }

-- one more in front
one-more : (c : Config) (a : Asked) (now : ℕ) (x : ℕ × Option Typed) (xs : List (ℕ × Option Typed)) → is_born a.phase ≡ true
    → (same up : Bool) → Rest c a now x xs up (owner_at a.book x.0)
    → told_in ((cond (not same && up) (telling a now x.0 x.1) (nothing a)).drafts
    ++ messages_of c (asked_after c a (single now x) (cond (not same && up) (telling a now x.0 x.1) (nothing a))) now xs)
    ≡ cond up (rows a.book (owner_at a.book x.0) (later_stamp a.stamp now) (cond same (others_in (with_value a.book x.0 x.1) xs) (x ∷ others_in (with_value a.book x.0 x.1) xs))) []
one-more c a now x xs born true true rest = rest (asked_after c a (single now x) (nothing a)) born refl refl
one-more c a now x xs born true false rest = rest (asked_after c a (single now x) (nothing a)) born refl refl
one-more c a now x xs born false false rest = rest (asked_after c a (single now x) (nothing a)) born refl refl
one-more c a now x xs born false true rest = by (is_born a.phase) born
  where
    by : (t : Bool) → t ≡ true
        → told_in ((cond t (sent_one a now x) (kept_one a now x)).drafts ++ messages_of c (asked_after c a (single now x) (cond t (sent_one a now x) (kept_one a now x))) now xs)
        ≡ (device_of a.book (owner_at a.book x.0), later_stamp a.stamp now, data_metric a.book x.0 (later_stamp a.stamp now) None x.1)
        ∷ rows a.book (owner_at a.book x.0) (later_stamp a.stamp now) (others_in (with_value a.book x.0 x.1) xs)
    by false e = absurd (true≢false (sym e))
    by true e =
        ap (λ (l : List (Option (List ℕ) × ℕ × MetricData)). (device_of a.book (owner_at a.book x.0), later_stamp a.stamp now, data_metric a.book x.0 (later_stamp a.stamp now) None x.1) ∷ l)
        (rest (asked_after c a (single now x) (sent_one a now x)) born refl (same-stamp a.stamp now))

pub one-by-one : (c : Config) (a : Asked) (now : ℕ) (owner : Owner) (n : ℕ) (xs : List (ℕ × Option Typed)) → is_born a.phase ≡ true → first_fault a.book owner n xs ≡ None
    → told_in (messages_of c a now xs) ≡ cond (owner_is_up a.book owner) (rows a.book owner (later_stamp a.stamp now) (others_in a.book xs)) []
one-by-one c a now owner n [] born none = none-said (owner_is_up a.book owner)
one-by-one c a now owner n (x ∷ xs) born none =
    let head = head-of a.book owner n x xs none in
    subst (λ (o : Owner). told_in (messages_of c a now (x ∷ xs)) ≡ cond (owner_is_up a.book o) (rows a.book o (later_stamp a.stamp now) (others_in a.book (x ∷ xs))) []) head.owned
    (one-more c a now x xs born (is_same_value a.book x.0 x.1) (owner_is_up a.book (owner_at a.book x.0)) (rest (λ next born_ none_. one-by-one c next now (owner_at a.book x.0) (n + 1) xs born_ none_)
    (subst (λ (o : Owner). first_fault a.book o (n + 1) xs ≡ None) (sym head.owned) head.rest)))
  where
    rest : ((next : Asked) → is_born next.phase ≡ true → first_fault next.book (owner_at a.book x.0) (n + 1) xs ≡ None
        → told_in (messages_of c next now xs)
        ≡ cond (owner_is_up next.book (owner_at a.book x.0)) (rows next.book (owner_at a.book x.0) (later_stamp next.stamp now) (others_in next.book xs)) [])
        → first_fault a.book (owner_at a.book x.0) (n + 1) xs ≡ None → Rest c a now x xs (owner_is_up a.book (owner_at a.book x.0)) (owner_at a.book x.0)
    rest more none next born_ book stamp =
        let o = owner_at a.book x.0 in
        more next born_ (ap (λ (b : Book). first_fault b o (n + 1) xs) book ∙ first-stays a.book x.0 x.1 o (n + 1) xs ∙ none)
        ∙ ap (λ (b : Book). cond (owner_is_up b o) (rows b o (later_stamp next.stamp now) (others_in b xs)) []) book
        ∙ ap (λ t. cond t (rows (with_value a.book x.0 x.1) o (later_stamp next.stamp now) (others_in (with_value a.book x.0 x.1) xs)) []) (up-stays a.book x.0 x.1 o)
        ∙ ap (λ s. cond (owner_is_up a.book o) (rows (with_value a.book x.0 x.1) o s (others_in (with_value a.book x.0 x.1) xs)) []) stamp
        ∙ ap (λ (l : List (Option (List ℕ) × ℕ × MetricData)). cond (owner_is_up a.book o) l []) (rows-stay a.book x.0 x.1 o (later_stamp a.stamp now) (others_in (with_value a.book x.0 x.1) xs))

at-once : (a : Asked) (now : ℕ) (owner : Owner) (xs : List (ℕ × Option Typed))
    → told_in (saying a now owner xs).drafts ≡ cond (owner_is_up a.book owner) (rows a.book owner (later_stamp a.stamp now) xs) []
at-once a now owner [] = none-said (owner_is_up a.book owner)
at-once a now owner (x ∷ xs) = by (owner_is_up a.book owner)
  where
    by : (up : Bool)
        → told_in (cond up (record (nothing a) { drafts = rule.changes_draft a.book owner (later_stamp a.stamp now) (x ∷ xs) ∷ [] }) (nothing a)).drafts
        ≡ cond up (rows a.book owner (later_stamp a.stamp now) (x ∷ xs)) []
    by true = append-nil (rows a.book owner (later_stamp a.stamp now) (x ∷ xs))
    by false = refl

-- ---- of what the rules give

-- what the rules take of several changes
record IsTaken (a : Asked) (now : ℕ) (xs : List (ℕ × Option Typed)) (g : Given) : Type 0 where
  born : is_born a.phase ≡ true
  none : changes_fault a.book xs ≡ None
  drafts : g.drafts ≡ (several a now xs).drafts

taken-of : (c : Config) (k : ℕ) (a : Asked) (now : ℕ) (ack : Option ℕ) (xs : List (ℕ × Option Typed)) (g : Given)
    → rules c k a (record { now = now; ack = ack; act = Changes xs }) ≡ Ok g → IsTaken a now xs g
taken-of c k a now ack xs g is =
    let t = rules-taken c k a (record { now = now; ack = ack; act = Changes xs }) g is in
    let p = accepted (changes_fault a.book xs) refl t.given t.acted in
    record {
      born = t.fitting;
      none = p.0;
      drafts = ap (λ (g : Given). g.drafts) t.is ∙ acked-drafts ack t.given ∙ ap (λ (g : Given). g.drafts) p.1;
    }
  where
    accepted : (o : Option EdgeFault) → changes_fault a.book xs ≡ o → (given : Given) → faulted_or o (several a now xs) ≡ Ok given → (changes_fault a.book xs ≡ None) × (given ≡ several a now xs)
    accepted None e given is = (e, (let same : given ≡ several a now xs = cc in same))
    accepted (Some f) e given is = absurd (let x : ⊥ = cc in x)

pub same-told : (c : Config) (k : ℕ) (a : Asked) (now : ℕ) (ack : Option ℕ) (xs : List (ℕ × Option Typed)) (g : Given)
    → rules c k a (record { now = now; ack = ack; act = Changes xs }) ≡ Ok g → told_in g.drafts ≡ told_in (messages_of c a now xs)
same-told c k a now ack xs g is =
    let t = taken-of c k a now ack xs g is in
    ap told_in t.drafts ∙ at-once a now (owner_of a.book xs) (others_in a.book xs)
    ∙ sym (one-by-one c a now (owner_of a.book xs) 0 xs t.born (none-refused a.book xs t.none))

pub at-most-one : (c : Config) (k : ℕ) (a : Asked) (now : ℕ) (ack : Option ℕ) (xs : List (ℕ × Option Typed)) (g : Given)
    → rules c k a (record { now = now; ack = ack; act = Changes xs }) ≡ Ok g → (g.drafts ≡ []) ⊎ ((d : Draft) × (g.drafts ≡ d ∷ []))
at-most-one c k a now ack xs g is = by (owner_of a.book xs) (others_in a.book xs) (taken-of c k a now ack xs g is).drafts
  where
    up_or : (owner : Owner) (ys : List (ℕ × Option Typed)) (up : Bool)
        → g.drafts ≡ (cond up (record (nothing a) { drafts = rule.changes_draft a.book owner (later_stamp a.stamp now) ys ∷ [] }) (nothing a)).drafts
        → (g.drafts ≡ []) ⊎ ((d : Draft) × (g.drafts ≡ d ∷ []))
    up_or owner ys true e = inr (rule.changes_draft a.book owner (later_stamp a.stamp now) ys, e)
    up_or owner ys false e = inl e

    by : (owner : Owner) (ys : List (ℕ × Option Typed)) → g.drafts ≡ (saying a now owner ys).drafts → (g.drafts ≡ []) ⊎ ((d : Draft) × (g.drafts ≡ d ∷ []))
    by owner [] e = inl e
    by owner (y ∷ ys) e = up_or owner (y ∷ ys) (owner_is_up a.book owner) e

pub same-book : (c : Config) (a : Asked) (now : ℕ) (xs : List (ℕ × Option Typed)) → with_values a.book xs ≡ book_behind c a now xs
same-book c a now [] = refl
same-book c a now (x ∷ xs) = same-book c (behind c a now x) now xs

all-taken : (c : Config) (a : Asked) (now : ℕ) (owner : Owner) (n : ℕ) (xs : List (ℕ × Option Typed)) → first_fault a.book owner n xs ≡ None → AreTaken c a now xs
all-taken c a now owner n [] none = tt
all-taken c a now owner n (x ∷ xs) none =
    let head = head-of a.book owner n x xs none in
    (head.accepted, all-taken c (behind c a now x) now owner (n + 1) xs (first-stays a.book x.0 x.1 owner (n + 1) xs ∙ head.rest))

pub each-taken : (c : Config) (k : ℕ) (a : Asked) (now : ℕ) (ack : Option ℕ) (xs : List (ℕ × Option Typed)) (g : Given)
    → rules c k a (record { now = now; ack = ack; act = Changes xs }) ≡ Ok g → AreTaken c a now xs
each-taken c k a now ack xs g is =
    all-taken c a now (owner_of a.book xs) 0 xs (none-refused a.book xs (taken-of c k a now ack xs g is).none)
