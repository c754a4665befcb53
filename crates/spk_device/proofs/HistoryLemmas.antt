-- Stepping the data through any list of calls gives what the queries ask.
use Rattle.std.proofs.Common.{◌≡◌, ◌∙◌, sym, ap, refl, subst, ℕ, ◌+◌, ◌-◌, ◌<◌, ◌≤◌, Bool, true, false, cond, List, [], ◌∷◌, ◌++◌, map, length, set, Option, Some, None, arith}
use Rattle.std.proofs.lemmas.Bool.Decides.{Decides-eqb, nat_tests}
use Rattle.std.proofs.lemmas.List.{length-append, length-map, map-append}
use Rattle.std.proofs.lemmas.List.FromFn.{length-enumerate_from}
use Rattle.std.proofs.lemmas.Option.{slice_get_within}
use Rattle.std.proofs.lemmas.Slice.Eq.{bytes_eq-Decides}
use Rattle.std.specs.List.{enumerate_from, position_from, filter}
use Rattle.std.specs.Option.{option_map, option_map_or}
use Rattle.std.proofs.lemmas.List.Elements.{All-append, All-cons, All-filter, All-head, All-map, All-nil, All-tail}
use Rattle.spk_payload.specs.Meaning.{MetricData}
use Rattle.std.specs.Prelude.{◌==◌, ◌&&◌, ◌↔◌, slice_get, is_some, All, if◌then◌else◌}
use Rattle.std.specs.Str.{bytes_eq}
use Rattle.spk_payload.specs.Typing.{Typed}
use Rattle.spk_payload.specs.declared.values.Values.{Values}
use Rattle.spk_payload.specs.declared.values.Values.TheVariants as choice
use Rattle.spk_device.specs.declared.fault.Refusal.{Refusal}
use Rattle.spk_device.specs.declared.fault.Refusal.TheVariants.{NoSuch}
use Rattle.spk_device.specs.declared.owner.Owner.{Owner}
use Rattle.spk_device.specs.declared.owner.Owner.TheVariants.{Node, Device}
use Rattle.spk_device.specs.Book.{Book, DeviceData, GaugeData, alias_of, empty_book, fresh_book, owner_number, birth_of, births_of, is_owner, number_of}
use Rattle.spk_device.specs.Calls.{Call, AddDevice, AddMetric, Set, Turn, after, changed, refusal, standing, standing_from, unless_refused}
use Rattle.spk_device.specs.Lawful.{IsLawful, same_device, same_metric}
use Rattle.spk_device.specs.Queries.{book_from, device_by, devices_from, done_from, gauge_by, last_set, last_turn, metrics_from}
use Rattle.spk_device.specs.Step as step
use Rattle.spk_device.specs.Values.{is_written}
use Rattle.spk_device.proofs.LawfulLemmas.{All-one, apart-found, lawful-device, lawful-metric, lawful-set, lawful-turn, may_set, new_device, new_metric, position_from-none, values_with-set}
use Rattle.spk_device.proofs.PlaceLemmas.{enumerate_from-append}

-- ---- the names that are known

-- a name among devices is a name among those added
pub position-added : (h : List Call) (k : ℕ) (ds : List DeviceData) (name : List ℕ)
    → position_from (λ (d : DeviceData). bytes_eq name d.name) k (map (device_by h) ds) ≡ position_from (λ (d : DeviceData). bytes_eq name d.name) k ds
position-added h k [] name = refl
position-added h k (x ∷ ds) name = ap (cond (bytes_eq name x.name) (Some k)) (position-added h (k + 1) ds name)

pub position_from-front : {X : Type 0} (t : X → Bool) (k : ℕ) (xs : List X) (x : X) → position_from t k (xs ++ x ∷ []) ≡ None
    → position_from t k xs ≡ None
position_from-front t k [] x h = refl
position_from-front t k (y ∷ xs) x h =
    let (other, rest) = position_from-none t k y (xs ++ x ∷ []) h in
    ap (λ b. cond b (Some k) (position_from t (k + 1) xs)) other ∙ position_from-front t (k + 1) xs x rest

-- ---- the calls that were done speak of what was there

-- the place of a name among all devices
abbrev place_in : Book → List Call → List ℕ → Option ℕ
place_in b h name = position_from (λ (d : DeviceData). bytes_eq name d.name) 0 (devices_from b.devices h)

pub record Grounded (b : Book) (h : List Call) : Type 0 where
  pub turns : (name : List ℕ) (first : Bool) → place_in b h name ≡ None → last_turn h name first ≡ first
  pub sets : (alias : ℕ) (first : Option Typed) → length (metrics_from b.gauges h) < alias → last_set h alias first ≡ first

turn-known : (b : Book) (name : List ℕ) → step.turn_refusal b name ≡ None → is_some (number_of b name) ≡ true
turn-known b name h = by (is_some (number_of b name)) h
  where
    by : (k : Bool) → (if k then None else Some NoSuch) ≡ None → k ≡ true
    by true e = refl
    by false e = cc

set-known : (b : Book) (h : List Call) (alias : ℕ) (value : Option Typed) → step.set_refusal (book_from b h) alias value ≡ None
    → alias ≤ length (metrics_from b.gauges h)
set-known b h alias value accepted =
    let may = may_set (book_from b h) alias value accepted in
    let low = slice_get_within (book_from b h).gauges (alias - 1) may.gauge may.there in
    let size = length-map (enumerate_from 0 (metrics_from b.gauges h)) (gauge_by h) in
    let all = length-enumerate_from 0 (metrics_from b.gauges h) in
    let first = may.first in
    omega arith

pub grounded-step : (b : Book) (h : List Call) (call : Call) → Grounded b h → refusal (book_from b h) call ≡ None → Grounded b (call ∷ h)
grounded-step b h (AddDevice name) g accepted = record {
  turns = λ other first none. g.turns other first (position_from-front (λ (d : DeviceData). bytes_eq other d.name) 0 (devices_from b.devices h) (record { name = name; up = false }) none);
  sets = g.sets;
}
grounded-step b h (AddMetric owner name datatype value) g accepted = record {
  turns = g.turns;
  sets = λ alias first past. g.sets alias first (fewer alias past);
}
  where
    fewer : (alias : ℕ) → length (metrics_from b.gauges h ++ (record { owner = owner; name = name; datatype = datatype; value = value }) ∷ []) < alias → length (metrics_from b.gauges h) < alias
    fewer alias past = let size = length-append (metrics_from b.gauges h) ((record { owner = owner; name = name; datatype = datatype; value = value }) ∷ []) in omega arith
grounded-step b h (Set a value) g accepted = record {
  turns = g.turns;
  sets = λ alias first past. ap (λ t. if t then value else last_set h alias first) (past_set alias past) ∙ g.sets alias first past;
}
  where
    past_set : (alias : ℕ) → length (metrics_from b.gauges h) < alias → (alias == a) ≡ false
    past_set alias past = let low = set-known b h a value accepted in grind (arith, nat_tests)
grounded-step b h (Turn name up) g accepted = record {
  turns = λ other first none. ap (λ t. if t then up else last_turn h other first) (other_name other none) ∙ g.turns other first none;
  sets = g.sets;
}
  where
    by : (other : List ℕ) (t : Bool) → bytes_eq name other ≡ t → place_in b h other ≡ None → t ≡ false
    by other false is none = refl
    by other true is none =
        let same = (bytes_eq-Decides name other).0 is in
        let known : is_some (place_in b h name) ≡ true =
        ap is_some (sym (position-added h 0 (devices_from b.devices h) name)) ∙ turn-known (book_from b h) name accepted in
        let gone : is_some (place_in b h name) ≡ false =
        ap (λ n. is_some (place_in b h n)) same ∙ ap is_some none in
        cc

    other_name : (other : List ℕ) → place_in b h other ≡ None → bytes_eq name other ≡ false
    other_name other none = by other (bytes_eq name other) refl none

-- ---- one call more

none-number : (b : Book) (h : List Call) (name : List ℕ) → number_of (book_from b h) name ≡ None → place_in b h name ≡ None
none-number b h name none = sym (position-added h 0 (devices_from b.devices h) name) ∙ none

-- a value that is set is the last one set
set-gauges : (h : List Call) (a : ℕ) (value : Option Typed) (n : ℕ) (gs : List GaugeData)
    → step.values_with n a value (map (gauge_by h) (enumerate_from n gs)) ≡ map (gauge_by (Set a value ∷ h)) (enumerate_from n gs)
set-gauges h a value n [] = refl
set-gauges h a value n (g ∷ gs) = one (n + 1 == a) (set-gauges h a value (n + 1) gs)
  where
    one : (b : Bool) → step.values_with (n + 1) a value (map (gauge_by h) (enumerate_from (n + 1) gs)) ≡ map (gauge_by (Set a value ∷ h)) (enumerate_from (n + 1) gs)
        → (if b then record (gauge_by h (n, g)) { value = value } else gauge_by h (n, g)) ∷ step.values_with (n + 1) a value (map (gauge_by h) (enumerate_from (n + 1) gs))
        ≡ (record g { value = if b then value else last_set h (n + 1) g.value }) ∷ map (gauge_by (Set a value ∷ h)) (enumerate_from (n + 1) gs)
    one true rest = ap (λ l. (record g { value = value }) ∷ l) rest
    one false rest = ap (λ l. gauge_by h (n, g) ∷ l) rest

-- a turn is the last turn
turn-devices : (h : List Call) (name : List ℕ) (up : Bool) (ds : List DeviceData)
    → map (step.turned name up) (map (device_by h) ds) ≡ map (device_by (Turn name up ∷ h)) ds
turn-devices h name up [] = refl
turn-devices h name up (d ∷ ds) = one (bytes_eq name d.name) (turn-devices h name up ds)
  where
    one : (t : Bool) → map (step.turned name up) (map (device_by h) ds) ≡ map (device_by (Turn name up ∷ h)) ds
        → (if t then record (device_by h d) { up = up } else device_by h d) ∷ map (step.turned name up) (map (device_by h) ds)
        ≡ (record d { up = if t then up else last_turn h d.name d.up }) ∷ map (device_by (Turn name up ∷ h)) ds
    one true rest = ap (λ l. (record d { up = up }) ∷ l) rest
    one false rest = ap (λ l. device_by h d ∷ l) rest

pub book-step : (b : Book) (h : List Call) (call : Call) → Grounded b h → refusal (book_from b h) call ≡ None → changed (book_from b h) call ≡ book_from b (call ∷ h)
book-step b h (AddDevice name) g accepted =
    let new = new_device (book_from b h) name accepted in
    let down = g.turns name false (none-number b h name new.new) in
    ap (λ (l : List DeviceData). record { devices = l; gauges = (book_from b h).gauges; values = b.values })
    (ap (λ u. map (device_by h) (devices_from b.devices h) ++ (record { name = name; up = u }) ∷ []) (sym down)
    ∙ sym (map-append (device_by h) (devices_from b.devices h) ((record { name = name; up = false }) ∷ [])))
book-step b h (AddMetric owner name datatype value) g accepted =
    let x : GaugeData = record { owner = owner; name = name; datatype = datatype; value = value } in
    let all : List GaugeData = metrics_from b.gauges h in
    let first = g.sets (length all + 1) value (omega arith) in
    ap (λ (l : List GaugeData). record { devices = (book_from b h).devices; gauges = l; values = b.values })
    (ap (λ v. map (gauge_by h) (enumerate_from 0 all) ++ (record { owner = owner; name = name; datatype = datatype; value = v }) ∷ []) (sym first)
    ∙ sym (ap (map (gauge_by h)) (enumerate_from-append 0 all x ∙ ap (λ n. enumerate_from 0 all ++ (n, x) ∷ []) (omega arith))
    ∙ map-append (gauge_by h) (enumerate_from 0 all) ((length all, x) ∷ [])))
book-step b h (Set a value) g accepted =
    ap (λ (l : List GaugeData). record { devices = (book_from b h).devices; gauges = l; values = b.values }) (set-gauges h a value 0 (metrics_from b.gauges h))
book-step b h (Turn name up) g accepted =
    ap (λ (l : List DeviceData). record { devices = l; gauges = (book_from b h).gauges; values = b.values }) (turn-devices h name up (devices_from b.devices h))

-- ---- any list

-- at first nothing was done
unturned : (ds : List DeviceData) → ds ≡ map (device_by []) ds
unturned [] = refl
unturned (d ∷ ds) = ap (λ l. d ∷ l) (unturned ds)

unset : (n : ℕ) (gs : List GaugeData) → gs ≡ map (gauge_by []) (enumerate_from n gs)
unset n [] = refl
unset n (g ∷ gs) = ap (λ l. g ∷ l) (unset (n + 1) gs)

pub record Told (b : Book) (calls : List Call) : Type 0 where
  pub grounded : Grounded b (done_from b calls)
  pub book : standing_from b calls ≡ book_from b (done_from b calls)

pub told : (b : Book) (calls : List Call) → Told b calls
told b [] = record {
  grounded = record { turns = λ name first h. refl; sets = λ alias first h. refl };
  book = ap (λ (l : List DeviceData). record { devices = l; gauges = b.gauges; values = b.values }) (unturned b.devices)
      ∙ ap (λ (l : List GaugeData). record { devices = map (device_by []) b.devices; gauges = l; values = b.values }) (unset 0 b.gauges);
}
told b (call ∷ calls) = by (refusal (book_from b (done_from b calls)) call) refl (told b calls)
  where
    by : (r : Option Refusal) → refusal (book_from b (done_from b calls)) call ≡ r → Told b calls → Told b (call ∷ calls)
    by None is t =
        let kept : done_from b (call ∷ calls) ≡ call ∷ done_from b calls = ap (λ r. unless_refused r (call ∷ done_from b calls) (done_from b calls)) is in
        record {
          grounded = subst (Grounded b) (sym kept) (grounded-step b (done_from b calls) call t.grounded is);
          book = ap (λ x. after x call) t.book ∙ ap (λ r. unless_refused r (changed (book_from b (done_from b calls)) call) (book_from b (done_from b calls))) is
              ∙ book-step b (done_from b calls) call t.grounded is ∙ ap (book_from b) (sym kept);
        }
    by (Some why) is t =
        let kept : done_from b (call ∷ calls) ≡ done_from b calls = ap (λ r. unless_refused r (call ∷ done_from b calls) (done_from b calls)) is in
        record {
          grounded = subst (Grounded b) (sym kept) t.grounded;
          book = ap (λ x. after x call) t.book ∙ ap (λ r. unless_refused r (changed (book_from b (done_from b calls)) call) (book_from b (done_from b calls))) is
              ∙ ap (book_from b) (sym kept);
        }

-- a refused call leaves no trace
pub refused-call : (b : Book) (calls : List Call) (call : Call) (r : Refusal) → refusal (standing_from b calls) call ≡ Some r
    → (standing_from b (call ∷ calls) ≡ standing_from b calls) × (done_from b (call ∷ calls) ≡ done_from b calls)
refused-call b calls call r why =
    let same : refusal (book_from b (done_from b calls)) call ≡ Some r = ap (λ x. refusal x call) (sym (told b calls).book) ∙ why in (
      ap (λ o. unless_refused o (changed (standing_from b calls) call) (standing_from b calls)) why,
      ap (λ o. unless_refused o (call ∷ done_from b calls) (done_from b calls)) same,
    )

-- the births of metrics that count from n, with the values last set
births-from : (h : List Call) (owner : Owner) (n : ℕ) (gs : List GaugeData)
    → map birth_of (filter (λ (e : ℕ × GaugeData). is_owner owner e.1.owner) (enumerate_from n (map (gauge_by h) (enumerate_from n gs))))
    ≡ map (λ (e : ℕ × GaugeData). birth_of (e.0, gauge_by h e)) (filter (λ (e : ℕ × GaugeData). is_owner owner e.1.owner) (enumerate_from n gs))
births-from h owner n [] = refl
births-from h owner n (g ∷ gs) = one (is_owner owner g.owner) (births-from h owner (n + 1) gs)
  where
    old : List (ℕ × GaugeData)
    old = filter (λ (e : ℕ × GaugeData). is_owner owner e.1.owner) (enumerate_from (n + 1) gs)

    new : List (ℕ × GaugeData)
    new = filter (λ (e : ℕ × GaugeData). is_owner owner e.1.owner) (enumerate_from (n + 1) (map (gauge_by h) (enumerate_from (n + 1) gs)))

    one : (b : Bool) → map birth_of new ≡ map (λ (e : ℕ × GaugeData). birth_of (e.0, gauge_by h e)) old
        → map birth_of (cond b ((n, gauge_by h (n, g)) ∷ new) new)
        ≡ map (λ (e : ℕ × GaugeData). birth_of (e.0, gauge_by h e)) (cond b ((n, g) ∷ old) old)
    one true rest = ap (λ l. birth_of (n, gauge_by h (n, g)) ∷ l) rest
    one false rest = rest

pub births-done : (b : Book) (calls : List Call) (owner : Owner) → births_of (standing_from b calls) owner
    ≡ map (λ (e : ℕ × GaugeData). birth_of (e.0, gauge_by (done_from b calls) e))
    (filter (λ (e : ℕ × GaugeData). is_owner owner e.1.owner) (enumerate_from 0 (metrics_from b.gauges (done_from b calls))))
births-done b calls owner = ap (λ x. births_of x owner) (told b calls).book ∙ births-from (done_from b calls) owner 0 (metrics_from b.gauges (done_from b calls))

-- ---- lawful

lawful-changed : (b : Book) (call : Call) → IsLawful b → refusal b call ≡ None → IsLawful (changed b call)
lawful-changed b (AddDevice name) lawful h = lawful-device b name lawful (new_device b name h)
lawful-changed b (AddMetric owner name datatype value) lawful h = lawful-metric b owner name datatype value lawful (new_metric b owner name datatype value h)
lawful-changed b (Set alias value) lawful h =
    let may = may_set b alias value h in
    let same : step.values_with 0 alias value b.gauges ≡ set b.gauges (alias - 1) (record may.gauge { value = value }) =
    ap (λ a. step.values_with 0 a value b.gauges) (may.first ∙ omega arith) ∙ values_with-set 0 (alias - 1) value b.gauges may.gauge may.there in
    subst (λ (l : List GaugeData). IsLawful (record { devices = b.devices; gauges = l; values = b.values })) (sym same)
    (lawful-set b.values b.devices b.gauges (alias - 1) may.gauge value lawful may.there may.kind)
lawful-changed b (Turn name up) lawful h = lawful-turn b name up lawful

lawful-after : (b : Book) (call : Call) → IsLawful b → IsLawful (after b call)
lawful-after b call lawful = by (refusal b call) refl
  where
    by : (r : Option Refusal) → refusal b call ≡ r → IsLawful (unless_refused r (changed b call) b)
    by None is = lawful-changed b call lawful is
    by (Some r) is = lawful

pub lawful-from : (b : Book) (calls : List Call) → IsLawful b → IsLawful (standing_from b calls)
lawful-from b [] lawful = lawful
lawful-from b (call ∷ calls) lawful = lawful-after (standing_from b calls) call (lawful-from b calls lawful)

pub lawful-fresh : (values : Values) → IsLawful (fresh_book values)
lawful-fresh values = record {
  few_devices = omega arith;
  few_gauges = omega arith;
  apart = tt;
  metrics_apart = tt;
  owners = λ k d h. absurd (omega arith);
  values = λ k d h. absurd (omega arith);
  levels = λ k d h. absurd (omega arith);
  named = λ k d h. absurd (omega arith);
  unreserved = λ k d h. absurd (omega arith);
}

pub lawful-standing : (calls : List Call) → IsLawful (standing calls)
lawful-standing calls = lawful-from empty_book calls (lawful-fresh choice.Whole)

-- ---- which values there may be

pub values-kept : (b : Book) (calls : List Call) → (standing_from b calls).values ≡ b.values
values-kept b calls = ap (λ (x : Book). x.values) (told b calls).book

abbrev OfKind : Values → GaugeData → Type 0
OfKind values g = is_written values g.datatype ≡ true

set-kinds : (values : Values) (n alias : ℕ) (value : Option Typed) (gs : List GaugeData) → All (OfKind values) gs
    → All (OfKind values) (step.values_with n alias value gs)
set-kinds values n alias value [] all = All-nil (OfKind values)
set-kinds values n alias value (g ∷ gs) all =
    All-cons (OfKind values) (if n + 1 == alias then record g { value = value } else g) (step.values_with (n + 1) alias value gs)
    (by (n + 1 == alias)) (set-kinds values (n + 1) alias value gs (All-tail (OfKind values) g gs all))
  where
    by : (here : Bool) → OfKind values (if here then record g { value = value } else g)
    by true = All-head (OfKind values) g gs all
    by false = All-head (OfKind values) g gs all

kinds-changed : (b : Book) (call : Call) → All (OfKind b.values) b.gauges → refusal b call ≡ None → All (OfKind b.values) (changed b call).gauges
kinds-changed b (AddDevice name) all h = all
kinds-changed b (AddMetric owner name datatype value) all h =
    let g : GaugeData = record { owner = owner; name = name; datatype = datatype; value = value } in
    All-append (OfKind b.values) b.gauges (g ∷ []) all (All-one (OfKind b.values) g (new_metric b owner name datatype value h).written)
kinds-changed b (Set alias value) all h = set-kinds b.values 0 alias value b.gauges all
kinds-changed b (Turn name up) all h = all

kinds-after : (b : Book) (call : Call) → All (OfKind b.values) b.gauges → All (OfKind b.values) (after b call).gauges
kinds-after b call all = by (refusal b call) refl
  where
    by : (r : Option Refusal) → refusal b call ≡ r → All (OfKind b.values) (unless_refused r (changed b call) b).gauges
    by None is = kinds-changed b call all is
    by (Some r) is = all

pub kinds-from : (b : Book) (calls : List Call) → All (OfKind b.values) b.gauges → All (OfKind b.values) (standing_from b calls).gauges
kinds-from b [] all = all
kinds-from b (call ∷ calls) all =
    subst (λ v. All (OfKind v) (standing_from b (call ∷ calls)).gauges) (values-kept b calls)
    (kinds-after (standing_from b calls) call
    (subst (λ v. All (OfKind v) (standing_from b calls).gauges) (sym (values-kept b calls)) (kinds-from b calls all)))

-- ---- names in births

enumerated : (P : GaugeData → Type 0) (n : ℕ) (gs : List GaugeData) → All P gs → All (λ (e : ℕ × GaugeData). P e.1) (enumerate_from n gs)
enumerated P n [] h = All-nil (λ (e : ℕ × GaugeData). P e.1)
enumerated P n (g ∷ gs) h =
    All-cons (λ (e : ℕ × GaugeData). P e.1) (n, g) (enumerate_from (n + 1) gs) (All-head P g gs h) (enumerated P (n + 1) gs (All-tail P g gs h))

pub unreserved-births : (b : Book) (owner : Owner) → IsLawful b → All (λ m. option_map_or step.is_taken m.name false ≡ false) (births_of b owner)
unreserved-births b owner lawful =
    All-map (λ (m : MetricData). option_map_or step.is_taken m.name false ≡ false) birth_of (filter (λ (e : ℕ × GaugeData). is_owner owner e.1.owner) (enumerate_from 0 b.gauges))
    (All-filter (λ (e : ℕ × GaugeData). is_owner owner e.1.owner) (λ (e : ℕ × GaugeData). step.is_taken e.1.name ≡ false) (enumerate_from 0 b.gauges)
    (enumerated (λ (g : GaugeData). step.is_taken g.name ≡ false) 0 b.gauges lawful.unreserved))

-- ---- owners

pub owner-same : (a b : Owner) → owner_number a ≡ owner_number b → a ≡ b
owner-same Node Node e = refl
owner-same Node (Device n) e = absurd (omega arith)
owner-same (Device m) Node e = absurd (omega arith)
owner-same (Device m) (Device n) e = ap Device (omega arith)

pub owner-decides : (a b : Owner) → (is_owner a b ≡ true) ↔ (a ≡ b)
owner-decides a b = (λ h. owner-same a b ((Decides-eqb (owner_number a) (owner_number b)).0 h), λ e. (Decides-eqb (owner_number a) (owner_number b)).1 (ap owner_number e))

-- ---- names lead to what they name, and to nothing else

pub metric-found : (b : Book) (n : ℕ) (g : GaugeData) → IsLawful b → slice_get b.gauges n ≡ Some g
    → alias_of b g.owner g.name ≡ Some (n + 1)
metric-found b n g lawful there =
    let found = apart-found same_metric 0 n b.gauges g lawful.metrics_apart (itself g) there in
    ap (option_map (λ m. m + 1)) found ∙ ap (λ m. Some (m + 1)) (omega arith)
  where
    both : (x y : Bool) → x ≡ true → y ≡ true → (x && y) ≡ true
    both x y p q = ap (λ z. z && y) p ∙ q

    itself : (x : GaugeData) → same_metric x x ≡ true
    itself x = both (is_owner x.owner x.owner) (bytes_eq x.name x.name) ((Decides-eqb (owner_number x.owner) (owner_number x.owner)).1 refl) ((bytes_eq-Decides x.name x.name).1 refl)

pub device-found : (b : Book) (n : ℕ) (d : DeviceData) → IsLawful b → slice_get b.devices n ≡ Some d
    → number_of b d.name ≡ Some n
device-found b n d lawful there =
    apart-found same_device 0 n b.devices d lawful.apart ((bytes_eq-Decides d.name d.name).1 refl) there
    ∙ ap (λ m. Some m) (omega arith)
