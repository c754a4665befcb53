-- A command is the same to a node of whole values, whether floats are read or not.
use Rattle.std.proofs.Common.{◌≡◌, ◌∙◌, sym, ap, refl, subst, ℕ, ◌-◌, Bool, true, false, List, [], ◌∷◌, map, Option, Some, None, Result, Ok, Err, arith}
use Rattle.std.proofs.lemmas.Bool.Decides.{nat_tests}
use Rattle.std.proofs.lemmas.Option.{get_or_from_slice_get, slice_get_within}
use Rattle.std.specs.Option.{option_map, option_map_or, option_and_then}
use Rattle.std.specs.Prelude.{◌==◌, All, slice_get, if◌then◌else◌}
use Rattle.spk_payload.specs.declared.fault.PayloadFault.{PayloadFault}
use Rattle.spk_payload.specs.declared.values.Values.TheVariants as choice
use Rattle.spk_payload.specs.Meaning.{Content, Int, Long, Flag, Words, Octets, Float, Double, Other, MetricData, PayloadData, whole_content, whole_metric}
use Rattle.spk_payload.specs.Reading.{payload_at, whole_result}
use Rattle.spk_payload.specs.Typing.{Typed, Binary32, Binary64, typed_of}
use Rattle.spk_device.specs.Book.{Book, GaugeData, gauge_at, is_owner}
use Rattle.spk_device.specs.Values.{is_written}
use Rattle.spk_device.specs.declared.owner.Owner.{Owner}
use Rattle.spk_edge_rules.specs.Commands.{Order, Rebirth, Writing, Target, ToNode, ToDevice, alias_in, command_of, content_in, flag_in, is_control, order_of, orders_in, orders_of, owned_gauge, target_of, target_owner, writing_of}
use Rattle.spk_edge_rules.specs.Config.{Config}

-- ---- a value

skip : (b : Bool) (x y rest : Option Typed) → b ≡ false → (if b then x else rest) ≡ (if b then y else rest)
skip b x y rest e = ap (λ t. if t then x else rest) e ∙ sym (ap (λ t. if t then y else rest) e)

-- what no datatype before Float reads
abbrev behind_8 : ℕ → Option Typed → Option Typed
behind_8 d rest =
    if d == 1 then None else (if d == 2 then None else (if d == 3 then None else (if d == 4 then None else (
    if d == 5 then None else (if d == 6 then None else (if d == 7 then None else (if d == 8 then None else rest)))))))

float-untyped : (d n : ℕ) → is_written choice.Whole d ≡ true → typed_of d Other ≡ typed_of d (Float n)
float-untyped d n h = ap (behind_8 d) (skip (d == 9) None (Some (Binary32 n)) _ (grind (arith, nat_tests)))

double-untyped : (d n : ℕ) → is_written choice.Whole d ≡ true → typed_of d Other ≡ typed_of d (Double n)
double-untyped d n h = ap (λ r. behind_8 d (if d == 9 then None else r)) (skip (d == 10) None (Some (Binary64 n)) _ (grind (arith, nat_tests)))

typed-whole : (d : ℕ) (v : Content) → is_written choice.Whole d ≡ true → typed_of d (whole_content v) ≡ typed_of d v
typed-whole d (Int n) h = refl
typed-whole d (Long n) h = refl
typed-whole d (Flag b) h = refl
typed-whole d (Words bytes) h = refl
typed-whole d (Octets bytes) h = refl
typed-whole d (Float n) h = float-untyped d n h
typed-whole d (Double n) h = double-untyped d n h
typed-whole d Other h = refl

flag-whole : (v : Content) → flag_in (whole_content v) ≡ flag_in v
flag-whole (Int n) = refl
flag-whole (Long n) = refl
flag-whole (Flag b) = refl
flag-whole (Words bytes) = refl
flag-whole (Octets bytes) = refl
flag-whole (Float n) = refl
flag-whole (Double n) = refl
flag-whole Other = refl

-- a value that isn't looked at where the metric is null
read-whole : {X : Type 0} (read : Content → Option X) → ((v : Content) → read (whole_content v) ≡ read v) → (m : MetricData)
    → option_and_then read (content_in (whole_metric m)) ≡ option_and_then read (content_in m)
read-whole {X = X} read same m = by (option_map_or (λ b. b) m.null false) m.value
  where
    by : (null : Bool) (value : Option Content) → option_and_then read (if null then None else option_map whole_content value)
        ≡ option_and_then read (if null then None else value)
    by true value = refl
    by false None = refl
    by false (Some v) = same v

-- ---- a metric

abbrev IsWhole : Book → Type 0
IsWhole b = All (λ (g : GaugeData). is_written choice.Whole g.datatype ≡ true) b.gauges

alias-whole : (b : Book) (owner : Owner) (m : MetricData) → alias_in b owner (whole_metric m) ≡ alias_in b owner m
alias-whole b owner m = by m.alias
  where
    by : (alias : Option ℕ) → alias_in b owner (record m { alias = alias; value = option_map whole_content m.value }) ≡ alias_in b owner (record m { alias = alias })
    by None = refl
    by (Some alias) = refl

gauge-whole : (b : Book) (owner : Owner) (alias : ℕ) (g : GaugeData) → IsWhole b → owned_gauge b owner alias ≡ Some g
    → is_written choice.Whole g.datatype ≡ true
gauge-whole b owner alias g whole found = of (gauge_at b alias) refl found
  where
    placed : (first : Bool) (h : GaugeData) → (if first then None else slice_get b.gauges (alias - 1)) ≡ Some h → is_written choice.Whole h.datatype ≡ true
    placed true h e = cc
    placed false h e =
        subst (λ (x : GaugeData). is_written choice.Whole x.datatype ≡ true) (get_or_from_slice_get b.gauges (alias - 1) h h e)
        (whole (alias - 1) h (slice_get_within b.gauges (alias - 1) h e))

    mine : (own : Bool) (h : GaugeData) → (if own then Some h else None) ≡ Some g → h ≡ g
    mine true h e = cc
    mine false h e = cc

    of : (o : Option GaugeData) → gauge_at b alias ≡ o
        → option_and_then (λ (h : GaugeData). if is_owner owner h.owner then Some h else None) (gauge_at b alias) ≡ Some g → is_written choice.Whole g.datatype ≡ true
    of None is e =
        let bad : None ≡ Some g = ap (option_and_then (λ (h : GaugeData). if is_owner owner h.owner then Some h else None)) (sym is) ∙ e in cc
    of (Some h) is e =
        let same = mine (is_owner owner h.owner) h (ap (option_and_then (λ (x : GaugeData). if is_owner owner x.owner then Some x else None)) (sym is) ∙ e) in
        subst (λ (x : GaugeData). is_written choice.Whole x.datatype ≡ true) same (placed (alias == 0) h is)

-- the write at an alias that a metric names
abbrev written_at : Book → Owner → MetricData → Option ℕ → Option Order
written_at b owner m aliases =
    option_and_then (λ alias.
    option_and_then (λ g.
    option_map (λ value. Writing (record { alias = alias; value = value }))
    (option_and_then (typed_of g.datatype) (content_in m))) (owned_gauge b owner alias)) aliases

writing-whole : (b : Book) (m : MetricData) (owner : Owner) → IsWhole b → writing_of b (whole_metric m) owner ≡ writing_of b m owner
writing-whole b m owner whole = ap (written_at b owner (whole_metric m)) (alias-whole b owner m) ∙ by (alias_in b owner m)
  where
    at : (alias : ℕ) (o : Option GaugeData) → owned_gauge b owner alias ≡ o
        → option_and_then (λ (g : GaugeData). option_map (λ value. Writing (record { alias = alias; value = value })) (option_and_then (typed_of g.datatype) (content_in (whole_metric m)))) o
        ≡ option_and_then (λ (g : GaugeData). option_map (λ value. Writing (record { alias = alias; value = value })) (option_and_then (typed_of g.datatype) (content_in m))) o
    at alias None is = refl
    at alias (Some g) is =
        ap (option_map (λ value. Writing (record { alias = alias; value = value })))
        (read-whole (typed_of g.datatype) (λ v. typed-whole g.datatype v (gauge-whole b owner alias g whole is)) m)

    by : (o : Option ℕ) → written_at b owner (whole_metric m) o ≡ written_at b owner m o
    by None = refl
    by (Some alias) = at alias (owned_gauge b owner alias) refl

-- what a metric asks, by whether it is the rebirth control
abbrev asked_by : Book → Target → MetricData → Bool → Option Order
asked_by b target m rebirth =
    if rebirth then option_map Rebirth (option_and_then flag_in (content_in m)) else option_and_then (writing_of b m) (target_owner b target)

order-whole : (b : Book) (target : Target) (m : MetricData) → IsWhole b → order_of b target (whole_metric m) ≡ order_of b target m
order-whole b target m whole = ap (asked_by b target (whole_metric m)) (control target) ∙ by (is_control target m) (target_owner b target)
  where
    control : (t : Target) → is_control t (whole_metric m) ≡ is_control t m
    control ToNode = refl
    control (ToDevice name) = refl

    by : (rebirth : Bool) (o : Option Owner)
        → (if rebirth then option_map Rebirth (option_and_then flag_in (content_in (whole_metric m))) else option_and_then (writing_of b (whole_metric m)) o)
        ≡ (if rebirth then option_map Rebirth (option_and_then flag_in (content_in m)) else option_and_then (writing_of b m) o)
    by true o = ap (option_map Rebirth) (read-whole flag_in flag-whole m)
    by false None = refl
    by false (Some owner) = writing-whole b m owner whole

-- ---- a command

orders-whole : (b : Book) (target : Target) (ms : List MetricData) → IsWhole b → orders_of b target (map whole_metric ms) ≡ orders_of b target ms
orders-whole b target [] whole = refl
orders-whole b target (m ∷ ms) whole =
    ap (λ o. option_and_then (λ (order : Order). option_map (λ orders. order ∷ orders) (orders_of b target (map whole_metric ms))) o) (order-whole b target m whole)
    ∙ ap (λ os. option_and_then (λ (order : Order). option_map (λ orders. order ∷ orders) os) (order_of b target m)) (orders-whole b target ms whole)

result-whole : (b : Book) (target : Target) (r : Result PayloadData PayloadFault) → IsWhole b → orders_in b target (whole_result r) ≡ orders_in b target r
result-whole b target (Ok p) whole = orders-whole b target p.metrics whole
result-whole b target (Err f) whole = refl

pub same-command : (c : Config) (b : Book) (topic payload : List ℕ) → IsWhole b → payload_at choice.Whole payload ≡ whole_result (payload_at choice.All payload)
    → command_of c b topic payload ≡ option_and_then (λ target. orders_in b target (payload_at choice.Whole payload)) (target_of c topic)
same-command c b topic payload whole reads = by (target_of c topic)
  where
    by : (o : Option Target) → option_and_then (λ target. orders_in b target (payload_at choice.All payload)) o
        ≡ option_and_then (λ target. orders_in b target (payload_at choice.Whole payload)) o
    by None = refl
    by (Some target) = sym (ap (orders_in b target) reads ∙ result-whole b target (payload_at choice.All payload) whole)
