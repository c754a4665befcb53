-- The names of a book stay true to it.
use Rattle.std.proofs.Common.{◌≡◌, ◌⊎◌, ◌∙◌, sym, ap, refl, subst, inl, inr, ℕ, suc, ◌+◌, ◌<◌, ◌≤◌, Bool, true, false, cond, List, [], ◌∷◌, ◌++◌, map, length, set, Option, Some, None, arith, nat_lt, get_or, take}
use Rattle.std.proofs.lemmas.Bool.Decides.{nat_tests}
use Rattle.std.proofs.lemmas.List.{length-map, append-nil, map-append, map-set, take_more}
use Rattle.std.proofs.lemmas.List.Elements.{filter-append}
use Rattle.std.proofs.lemmas.Option.{get_or_from_slice_get, slice_get-map, slice_get_read, slice_get_within}
use Rattle.std.specs.List.{enumerate_from, filter, All}
use Rattle.std.specs.Option.{option_map, option_and_then}
use Rattle.std.specs.Prelude.{◌-◌, slice_get, ◌==◌, ◌&&◌, IfSome, if◌then◌else◌}
use Rattle.std.specs.Str.{bytes_eq}
use Rattle.std.specs.String.{string_bytes}
use Rattle.spk_payload.specs.Meaning.{MetricData}
use Rattle.spk_payload.specs.Typing.{Typed, typed_view}
use Rattle.spk_payload.specs.declared.values.Values.{Values}
use Rattle.spk_device.specs.declared.device.Device.{Device}
use Rattle.spk_device.specs.declared.gauge.Gauge.{Gauge}
use Rattle.spk_device.specs.declared.owner.Owner.{Owner}
use Rattle.spk_device.specs.declared.owner.Owner.TheVariants.{Node, Device as OfDevice}
use Rattle.spk_device.specs.Book.{Book, DeviceData, GaugeData, birth_of, gauge_at, is_owner, is_there, is_up, owned, owner_number, number_of, place_of}
use Rattle.spk_device.specs.Inside.{IsIndexedBy, book_by}
use Rattle.spk_device.specs.Owned.{owned_at, with_alias}
use Rattle.spk_device.specs.Lawful.{IsLawful, device_names, metric_names}
use Rattle.spk_names.specs.Names.{number_in}
use Rattle.spk_device.specs.Step as step
use Rattle.spk_device.specs.Values.{is_of}
use Rattle.spk_device.specs.View.{device_view, gauge_view}
use Rattle.spk_device.proofs.BookLemmas.{number_in-devices, number_in-owned}
use Rattle.spk_device.proofs.LawfulLemmas.{All-at, NewDevice, NewMetric, lawful-device, lawful-metric, lawful-set, lawful-turn, may_set, turned-name, turned-set, values_with-set}
use Rattle.spk_device.proofs.PlaceLemmas.{append-sees, enumerate_from-append, filter-place, position_from-within, set-sees, set-seen}

-- ---- names of metrics

abbrev name_of : ℕ × GaugeData → List ℕ × ℕ
name_of e = (e.1.name, e.0)

abbrev is_mine : Owner → ℕ × GaugeData → Bool
is_mine owner e = is_owner owner e.1.owner

-- an owner's metrics among those that count from n
abbrev mine_from : ℕ → Owner → List GaugeData → List (ℕ × GaugeData)
mine_from n owner gs = filter (is_mine owner) (enumerate_from n gs)

-- a metric more
pub metric_names-append : (owner : Owner) (gs : List GaugeData) (g : GaugeData)
    → metric_names owner (gs ++ g ∷ []) ≡ metric_names owner gs ++ (if is_owner owner g.owner then (g.name, length gs) ∷ [] else [])
metric_names-append owner gs g =
    ap (λ l. map name_of (filter (is_mine owner) l)) (enumerate_from-append 0 gs g ∙ ap (λ n. enumerate_from 0 gs ++ (n, g) ∷ []) (omega arith))
    ∙ ap (map name_of) (filter-append (is_mine owner) (enumerate_from 0 gs) ((length gs, g) ∷ []))
    ∙ map-append name_of (mine_from 0 owner gs) (filter (is_mine owner) ((length gs, g) ∷ []))
    ∙ ap (λ l. metric_names owner gs ++ l) (by (is_owner owner g.owner))
  where
    by : (b : Bool) → map name_of (cond b ((length gs, g) ∷ []) []) ≡ (if b then (g.name, length gs) ∷ [] else [])
    by true = refl
    by false = refl

-- an owner that isn't there has no metrics
names-absent : (n : ℕ) (owner : Owner) (ds : List DeviceData) (gs : List GaugeData)
    → All (λ g. is_there ds g.owner ≡ true) gs → is_there ds owner ≡ false → map name_of (mine_from n owner gs) ≡ []
names-absent n owner ds [] all absent = refl
names-absent n owner ds (g ∷ gs) all absent =
    let first : is_there ds g.owner ≡ true = all 0 g (omega arith) in
    let other : is_owner owner g.owner ≡ false = apart (owner_number owner) (owner_number g.owner) (length ds + 1) absent first in
    ap (λ b. map name_of (cond b ((n, g) ∷ mine_from (n + 1) owner gs) (mine_from (n + 1) owner gs))) other
    ∙ names-absent (n + 1) owner ds gs (λ k d h. all (suc k) d (omega arith)) absent
  where
    apart : (a b m : ℕ) → nat_lt a m ≡ false → nat_lt b m ≡ true → (a == b) ≡ false
    apart a b m h k = grind (arith, nat_tests)

pub metric_names-absent : (owner : Owner) (ds : List DeviceData) (gs : List GaugeData)
    → All (λ g. is_there ds g.owner ≡ true) gs → is_there ds owner ≡ false → metric_names owner gs ≡ []
metric_names-absent owner ds gs all absent = names-absent 0 owner ds gs all absent

-- a value that is set changes no name
names-values : (n alias : ℕ) (value : Option Typed) (owner : Owner) (gs : List GaugeData)
    → map name_of (mine_from n owner (step.values_with n alias value gs)) ≡ map name_of (mine_from n owner gs)
names-values n alias value owner [] = refl
names-values n alias value owner (g ∷ gs) = by (n + 1 == alias) (names-values (n + 1) alias value owner gs)
  where
    old : List (ℕ × GaugeData)
    old = mine_from (n + 1) owner gs

    new : List (ℕ × GaugeData)
    new = mine_from (n + 1) owner (step.values_with (n + 1) alias value gs)

    put : Bool → GaugeData
    put b = if b then record g { value = value } else g

    mine : (here b : Bool) → map name_of new ≡ map name_of old
        → map name_of (cond b ((n, put here) ∷ new) new) ≡ map name_of (cond b ((n, g) ∷ old) old)
    mine true true rest = ap (λ l. (g.name, n) ∷ l) rest
    mine false true rest = ap (λ l. (g.name, n) ∷ l) rest
    mine true false rest = rest
    mine false false rest = rest

    by : (here : Bool) → map name_of new ≡ map name_of old
        → map name_of (cond (is_owner owner (put here).owner) ((n, put here) ∷ new) new) ≡ map name_of (cond (is_owner owner g.owner) ((n, g) ∷ old) old)
    by true rest = mine true (is_owner owner g.owner) rest
    by false rest = mine false (is_owner owner g.owner) rest

pub metric_names-values : (alias : ℕ) (value : Option Typed) (owner : Owner) (gs : List GaugeData)
    → metric_names owner (step.values_with 0 alias value gs) ≡ metric_names owner gs
metric_names-values alias value owner gs = names-values 0 alias value owner gs

-- ---- names of devices

abbrev device_name : ℕ × DeviceData → List ℕ × ℕ
device_name e = (e.1.name, e.0)

pub device_names-append : (ds : List DeviceData) (d : DeviceData)
    → device_names (ds ++ d ∷ []) ≡ device_names ds ++ (d.name, length ds) ∷ []
device_names-append ds d =
    ap (map device_name) (enumerate_from-append 0 ds d ∙ ap (λ n. enumerate_from 0 ds ++ (n, d) ∷ []) (omega arith))
    ∙ map-append device_name (enumerate_from 0 ds) ((length ds, d) ∷ [])

-- a turn changes no name
names-turned : (n : ℕ) (name : List ℕ) (up : Bool) (ds : List DeviceData)
    → map device_name (enumerate_from n (map (step.turned name up) ds)) ≡ map device_name (enumerate_from n ds)
names-turned n name up [] = refl
names-turned n name up (d ∷ ds) =
    ap (λ (s : List ℕ). (s, n) ∷ map device_name (enumerate_from (n + 1) (map (step.turned name up) ds))) (turned-name name up d)
    ∙ ap (λ l. (d.name, n) ∷ l) (names-turned (n + 1) name up ds)

-- ---- each change

module _ (values : Values) (ds : List Device) (gs : List Gauge) (names own : List (List ℕ × ℕ)) (is : IsIndexedBy values ds gs names own) where
  -- a device is turned
  pub turned-devices : (name : List ℕ) (up : Bool) (n : ℕ) (d new : Device) → number_of (book_by values ds gs) name ≡ Some n
      → slice_get ds n ≡ Some d → new ≡ record d { up = up }
      → map device_view (set ds n new) ≡ map (step.turned name up) (map device_view ds)
  turned-devices name up n d new found there changed =
      let seen : slice_get (map device_view ds) n ≡ Some (device_view d) = slice_get-map device_view ds n ∙ ap (option_map device_view) there in
      map-set device_view ds n new
      ∙ ap (λ x. set (map device_view ds) n (device_view x)) changed
      ∙ sym (turned-set 0 n name up (map device_view ds) (device_view d) is.lawful.apart (found ∙ ap (λ k. Some k) (omega arith)) seen)

  pub turned-indexed : (name : List ℕ) (up : Bool) (n : ℕ) (d new : Device) → number_of (book_by values ds gs) name ≡ Some n
      → slice_get ds n ≡ Some d → new ≡ record d { up = up } → IsIndexedBy values (set ds n new) gs names own
  turned-indexed name up n d new found there changed =
      let devices = turned-devices name up n d new found there changed in
      record {
        lawful = subst (λ (l : List DeviceData). IsLawful (record { devices = l; gauges = map gauge_view gs; values = values })) (sym devices) (lawful-turn (book_by values ds gs) name up is.lawful);
        numbers = is.numbers ∙ sym (ap device_names devices ∙ names-turned 0 name up (map device_view ds));
        own = is.own;
        tables = λ m x h. by m x (set-sees ds n new m x h);
      }
    where
      by : (m : ℕ) (x : Device) → ((m ≡ n) × (x ≡ new)) ⊎ ((m ≡ n → ⊥) × (slice_get ds m ≡ Some x)) → x.metrics ≡ metric_names (OfDevice m) (map gauge_view gs)
      by m x (inl (e, same)) =
          ap (λ (y : Device). y.metrics) (same ∙ changed) ∙ is.tables n d there ∙ ap (λ k. metric_names (OfDevice k) (map gauge_view gs)) (sym e)
      by m x (inr (off, old)) = is.tables m x old

  -- a value is set
  pub set-gauges : (n : ℕ) (g new : Gauge) (value : Option Typed) → slice_get gs n ≡ Some g
      → gauge_view new ≡ record (gauge_view g) { value = value }
      → map gauge_view (set gs n new) ≡ set (map gauge_view gs) n (record (gauge_view g) { value = value })
  set-gauges n g new value there changed =
      map-set gauge_view gs n new ∙ ap (set (map gauge_view gs) n) changed

  seen-gauge : (n : ℕ) (g : Gauge) → slice_get gs n ≡ Some g → slice_get (map gauge_view gs) n ≡ Some (gauge_view g)
  seen-gauge n g there = slice_get-map gauge_view gs n ∙ ap (option_map gauge_view) there

  pub set-book : (n alias : ℕ) (g new : Gauge) (value : Option Typed) → alias ≡ n + 1 → slice_get gs n ≡ Some g
      → gauge_view new ≡ record (gauge_view g) { value = value } → book_by values ds (set gs n new) ≡ step.with_value (book_by values ds gs) alias value
  set-book n alias g new value which there changed =
      let one = set-gauges n g new value there changed in
      let all = values_with-set 0 n value (map gauge_view gs) (gauge_view g) (seen-gauge n g there) in
      ap (λ (l : List GaugeData). record { devices = map device_view ds; gauges = l; values = values })
      (one ∙ sym all ∙ ap (λ a. step.values_with 0 a value (map gauge_view gs)) (omega arith))

  pub set-indexed : (n : ℕ) (g new : Gauge) (value : Option Typed) → slice_get gs n ≡ Some g
      → gauge_view new ≡ record (gauge_view g) { value = value } → is_of g.datatype value ≡ true → IsIndexedBy values ds (set gs n new) names own
  set-indexed n g new value there changed kind =
      let one = set-gauges n g new value there changed in
      let same : (owner : Owner) → metric_names owner (map gauge_view (set gs n new)) ≡ metric_names owner (map gauge_view gs) =
      λ owner. ap (metric_names owner) (one ∙ sym (values_with-set 0 n value (map gauge_view gs) (gauge_view g) (seen-gauge n g there)))
      ∙ metric_names-values (0 + n + 1) value owner (map gauge_view gs) in
      record {
        lawful = subst (λ (l : List GaugeData). IsLawful (record { devices = map device_view ds; gauges = l; values = values })) (sym one)
            (lawful-set values (map device_view ds) (map gauge_view gs) n (gauge_view g) value is.lawful (seen-gauge n g there) kind);
        numbers = is.numbers;
        own = is.own ∙ sym (same Node);
        tables = λ m x h. is.tables m x h ∙ sym (same (OfDevice m));
      }

  -- a device is added
  pub device-new : (name : List ℕ) → NewDevice (book_by values ds gs) name → number_in names name ≡ None
  device-new name new =
      ap (λ l. number_in l name) is.numbers ∙ number_in-devices 0 (map device_view ds) name ∙ new.new

  pub device-indexed : (name : List ℕ) (d : Device) → NewDevice (book_by values ds gs) name → device_view d ≡ record { name = name; up = false }
      → d.metrics ≡ [] → IsIndexedBy values (ds ++ d ∷ []) gs (names ++ (name, length ds) ∷ []) own
  device-indexed name d new looks empty =
      let devices : map device_view (ds ++ d ∷ []) ≡ map device_view ds ++ (record { name = name; up = false }) ∷ [] =
      map-append device_view ds (d ∷ []) ∙ ap (λ x. map device_view ds ++ x ∷ []) looks in
      let size = length-map ds device_view in
      record {
        lawful = subst (λ (l : List DeviceData). IsLawful (record { devices = l; gauges = map gauge_view gs; values = values })) (sym devices) (lawful-device (book_by values ds gs) name is.lawful new);
        numbers = ap (λ l. l ++ (name, length ds) ∷ []) is.numbers
            ∙ sym (ap device_names devices ∙ device_names-append (map device_view ds) (record { name = name; up = false })
            ∙ ap (λ n. device_names (map device_view ds) ++ (name, n) ∷ []) size);
        own = is.own;
        tables = λ m x h. by m x (append-sees ds d m x h);
      }
    where
      absent : is_there (map device_view ds) (OfDevice (length ds)) ≡ false
      absent = let size = length-map ds device_view in ap (λ n. nat_lt (length ds + 1) (n + 1)) size ∙ grind (arith, nat_tests)

      by : (m : ℕ) (x : Device) → ((m ≡ length ds) × (x ≡ d)) ⊎ (slice_get ds m ≡ Some x) → x.metrics ≡ metric_names (OfDevice m) (map gauge_view gs)
      by m x (inl (e, same)) =
          ap (λ (y : Device). y.metrics) same ∙ empty
          ∙ sym (ap (λ k. metric_names (OfDevice k) (map gauge_view gs)) e
          ∙ metric_names-absent (OfDevice (length ds)) (map device_view ds) (map gauge_view gs) is.lawful.owners absent)
      by m x (inr old) = is.tables m x old

  -- a metric is added
  pub own-new : (name : List ℕ) → place_of (book_by values ds gs) Node name ≡ None → number_in own name ≡ None
  own-new name new = ap (λ l. number_in l name) is.own ∙ number_in-owned 0 Node (map gauge_view gs) name ∙ new

  pub table-new : (n : ℕ) (d : Device) (name : List ℕ) → slice_get ds n ≡ Some d → place_of (book_by values ds gs) (OfDevice n) name ≡ None
      → number_in d.metrics name ≡ None
  table-new n d name there new =
      ap (λ l. number_in l name) (is.tables n d there) ∙ number_in-owned 0 (OfDevice n) (map gauge_view gs) name ∙ new

  more-names : (g : Gauge) (owner : Owner) (mine : Bool) → is_owner owner g.owner ≡ mine
      → metric_names owner (map gauge_view (gs ++ g ∷ [])) ≡ metric_names owner (map gauge_view gs) ++ (if mine then (string_bytes g.name, length gs) ∷ [] else [])
  more-names g owner mine e =
      ap (metric_names owner) (map-append gauge_view gs (g ∷ []))
      ∙ metric_names-append owner (map gauge_view gs) (gauge_view g)
      ∙ ap (λ b. metric_names owner (map gauge_view gs) ++ (if b then (string_bytes g.name, length (map gauge_view gs)) ∷ [] else [])) e
      ∙ ap (λ n. metric_names owner (map gauge_view gs) ++ (if mine then (string_bytes g.name, n) ∷ [] else [])) (length-map gs gauge_view)

  abbrev pub Addable : Gauge → Type 0
  Addable g = NewMetric (book_by values ds gs) g.owner (string_bytes g.name) g.datatype (option_map typed_view g.value)

  more-lawful : (g : Gauge) → Addable g → IsLawful (record { devices = map device_view ds; gauges = map gauge_view (gs ++ g ∷ []); values = values })
  more-lawful g new =
      subst (λ (l : List GaugeData). IsLawful (record { devices = map device_view ds; gauges = l; values = values })) (sym (map-append gauge_view gs (g ∷ [])))
      (lawful-metric (book_by values ds gs) g.owner (string_bytes g.name) g.datatype (option_map typed_view g.value) is.lawful new)

  pub own-indexed : (g : Gauge) → Addable g
      → g.owner ≡ Node → IsIndexedBy values ds (gs ++ g ∷ []) names (own ++ (string_bytes g.name, length gs) ∷ [])
  own-indexed g new mine = record {
    lawful = more-lawful g new;
    numbers = is.numbers;
    own = ap (λ l. l ++ (string_bytes g.name, length gs) ∷ []) is.own ∙ sym (more-names g Node true (ap (is_owner Node) mine));
    tables = λ m x h. is.tables m x h ∙ sym (more-names g (OfDevice m) false (ap (is_owner (OfDevice m)) mine ∙ later m) ∙ append-nil _);
  }
    where
      later : (m : ℕ) → is_owner (OfDevice m) Node ≡ false
      later m = grind (arith, nat_tests)

  table-devices : (n : ℕ) (d new : Device) (names_more : List (List ℕ × ℕ)) → slice_get ds n ≡ Some d → new ≡ record d { metrics = names_more }
      → map device_view (set ds n new) ≡ map device_view ds
  table-devices n d new names_more there changed =
      map-set device_view ds n new
      ∙ ap (λ x. set (map device_view ds) n (device_view x)) changed
      ∙ set-seen (map device_view ds) n (device_view d) (slice_get-map device_view ds n ∙ ap (option_map device_view) there)

  pub table-book : (n : ℕ) (d new : Device) (g : Gauge) (more : List Gauge) → slice_get ds n ≡ Some d
      → new ≡ record d { metrics = d.metrics ++ (string_bytes g.name, length gs) ∷ [] } → more ≡ gs ++ g ∷ []
      → book_by values (set ds n new) more ≡ step.with_metric (book_by values ds gs) g.owner (string_bytes g.name) g.datatype (option_map typed_view g.value)
  table-book n d new g more there changed is =
      ap (λ (l : List DeviceData). record { devices = l; gauges = map gauge_view more; values = values })
      (table-devices n d new (d.metrics ++ (string_bytes g.name, length gs) ∷ []) there changed)
      ∙ ap (λ (l : List GaugeData). record { devices = map device_view ds; gauges = l; values = values }) (ap (map gauge_view) is ∙ map-append gauge_view gs (g ∷ []))

  pub table-indexed : (n : ℕ) (d new : Device) (g : Gauge)
      → Addable g
      → g.owner ≡ OfDevice n → slice_get ds n ≡ Some d → new ≡ record d { metrics = d.metrics ++ (string_bytes g.name, length gs) ∷ [] }
      → IsIndexedBy values (set ds n new) (gs ++ g ∷ []) names own
  table-indexed n d new g addable mine there changed = record {
    lawful = subst (λ (l : List DeviceData). IsLawful (record { devices = l; gauges = map gauge_view (gs ++ g ∷ []); values = values })) (sym devices) (more-lawful g addable);
    numbers = is.numbers ∙ sym (ap device_names devices);
    own = is.own ∙ sym (more-names g Node false (ap (is_owner Node) mine ∙ first n) ∙ append-nil _);
    tables = λ m x h. by m x (set-sees ds n new m x h);
  }
    where
      first : (m : ℕ) → is_owner Node (OfDevice m) ≡ false
      first m = grind (arith, nat_tests)

      devices : map device_view (set ds n new) ≡ map device_view ds
      devices = table-devices n d new (d.metrics ++ (string_bytes g.name, length gs) ∷ []) there changed

      apart : (m : ℕ) → (m ≡ n → ⊥) → is_owner (OfDevice m) (OfDevice n) ≡ false
      apart m off = grind (arith, nat_tests)

      same : (m : ℕ) → m ≡ n → is_owner (OfDevice m) (OfDevice n) ≡ true
      same m e = grind (arith, nat_tests)

      by : (m : ℕ) (x : Device) → ((m ≡ n) × (x ≡ new)) ⊎ ((m ≡ n → ⊥) × (slice_get ds m ≡ Some x))
          → x.metrics ≡ metric_names (OfDevice m) (map gauge_view (gs ++ g ∷ []))
      by m x (inl (e, one)) =
          ap (λ (y : Device). y.metrics) (one ∙ changed)
          ∙ ap (λ l. l ++ (string_bytes g.name, length gs) ∷ []) (is.tables n d there ∙ ap (λ k. metric_names (OfDevice k) (map gauge_view gs)) (sym e))
          ∙ sym (more-names g (OfDevice m) true (ap (is_owner (OfDevice m)) mine ∙ same m e))
      by m x (inr (off, old)) =
          is.tables m x old ∙ sym (more-names g (OfDevice m) false (ap (is_owner (OfDevice m)) mine ∙ apart m off) ∙ append-nil _)

-- ---- what is found

pub number-within : (b : Book) (name : List ℕ) (n : ℕ) → number_of b name ≡ Some n → n < length b.devices
number-within b name n found =
    let within : IfSome (number_of b name) (λ p. (0 ≤ p) × (p < 0 + length b.devices)) = position_from-within (λ (d : DeviceData). bytes_eq name d.name) 0 b.devices in
    let low : (0 ≤ n) × (n < 0 + length b.devices) = subst (λ r. IfSome r (λ p. (0 ≤ p) × (p < 0 + length b.devices))) found within in
    omega arith

pub place-within : (b : Book) (owner : Owner) (name : List ℕ) → length b.gauges ≤ 10000 → IfSome (place_of b owner name) (λ p. p < 10000)
place-within b owner name few =
    by (place_of b owner name) (position_from-within (λ (g : GaugeData). is_owner owner g.owner && bytes_eq name g.name) 0 b.gauges)
  where
    by : (r : Option ℕ) → IfSome r (λ p. (0 ≤ p) × (p < 0 + length b.gauges)) → IfSome r (λ p. p < 10000)
    by None h = tt
    by (Some p) h = omega arith

pub up-is : (b : Book) (name : List ℕ) (n : ℕ) (d : DeviceData) → number_of b name ≡ Some n → slice_get b.devices n ≡ Some d
    → is_up b name ≡ Some d.up
up-is b name n d found there =
    ap (option_and_then (λ m. option_map (λ (x : DeviceData). x.up) (slice_get b.devices m))) found
    ∙ ap (option_map (λ (x : DeviceData). x.up)) there

-- a name's number is the place of a metric of its owner
pub named-place : (owner : Owner) (gs : List GaugeData) (i p : ℕ)
    → Some p ≡ option_map (λ (e : List ℕ × ℕ). e.1) (slice_get (metric_names owner gs) i)
    → (g : GaugeData) × (slice_get gs p ≡ Some g) × (slice_get (owned owner gs) i ≡ Some (p, g))
named-place owner gs i p h =
    by (slice_get (owned owner gs) i) refl (h ∙ ap (option_map (λ (e : List ℕ × ℕ). e.1)) (slice_get-map name_of (owned owner gs) i))
  where
    at_place : (e : ℕ × GaugeData) → slice_get (owned owner gs) i ≡ Some e → p ≡ e.0
        → (m : ℕ) × (e.0 ≡ 0 + m) × (slice_get gs m ≡ Some e.1)
        → (g : GaugeData) × (slice_get gs p ≡ Some g) × (slice_get (owned owner gs) i ≡ Some (p, g))
    at_place e is same w =
        let place : w.0 ≡ p = omega arith in
        (e.1, subst (λ k. slice_get gs k ≡ Some e.1) place w.2, is ∙ ap (λ k. Some (k, e.1)) (sym same))

    by : (o : Option (ℕ × GaugeData)) → slice_get (owned owner gs) i ≡ o → Some p ≡ option_map (λ (e : List ℕ × ℕ). e.1) (option_map name_of o)
        → (g : GaugeData) × (slice_get gs p ≡ Some g) × (slice_get (owned owner gs) i ≡ Some (p, g))
    by None is k = cc
    by (Some e) is k = let same : p ≡ e.0 = cc in at_place e is same (filter-place (is_mine owner) 0 gs i e is)

pub named-within : (owner : Owner) (gs : List Gauge) (i p : ℕ)
    → Some p ≡ option_map (λ (e : List ℕ × ℕ). e.1) (slice_get (metric_names owner (map gauge_view gs)) i) → p < length gs
named-within owner gs i p h =
    let w = named-place owner (map gauge_view gs) i p h in
    let low = slice_get_within (map gauge_view gs) p w.0 w.1 in
    let size = length-map gs gauge_view in
    omega arith

pub value-of : (gs : List Gauge) (p : ℕ) (g : Gauge) → All (λ (x : GaugeData). is_of x.datatype x.value ≡ true) (map gauge_view gs)
    → p < length gs → g ≡ get_or gs p g → is_of g.datatype (option_map typed_view g.value) ≡ true
value-of gs p g all low is =
    let there : slice_get gs p ≡ Some g = slice_get_read gs (length gs) p g refl low is in
    All-at (λ (x : GaugeData). is_of x.datatype x.value ≡ true) (map gauge_view gs) p (gauge_view g) all
    (slice_get-map gauge_view gs p ∙ ap (option_map gauge_view) there)

-- one metric more of a birth
pub births-step : (owner : Owner) (gs : List Gauge) (metrics : List MetricData) (i p : ℕ) (g : Gauge) (m : MetricData)
    → Some p ≡ option_map (λ (e : List ℕ × ℕ). e.1) (slice_get (metric_names owner (map gauge_view gs)) i)
    → g ≡ get_or gs p g → m ≡ birth_of (p, gauge_view g) → metrics ≡ map birth_of (take i (owned owner (map gauge_view gs)))
    → metrics ++ m ∷ [] ≡ map birth_of (take (i + 1) (owned owner (map gauge_view gs)))
births-step owner gs metrics i p g m h is looks before =
    let own = owned owner (map gauge_view gs) in
    let w = named-place owner (map gauge_view gs) i p h in
    let seen : slice_get (map gauge_view gs) p ≡ Some (gauge_view g) =
    slice_get-map gauge_view gs p ∙ ap (option_map gauge_view) (slice_get_read gs (length gs) p g refl (named-within owner gs i p h) is) in
    let same : w.0 ≡ gauge_view g = let both : Some w.0 ≡ Some (gauge_view g) = sym w.1 ∙ seen in cc in
    let there : slice_get own i ≡ Some (p, gauge_view g) = w.2 ∙ ap (λ (x : GaugeData). Some (p, x)) same in
    let low = slice_get_within own i (p, gauge_view g) there in
    let item = get_or_from_slice_get own i (p, gauge_view g) (p, gauge_view g) there in
    sym (ap (map birth_of) (take_more own i (p, gauge_view g) low ∙ ap (λ e. take i own ++ e ∷ []) item)
    ∙ map-append birth_of (take i own) ((p, gauge_view g) ∷ [])
    ∙ ap (λ l. l ++ birth_of (p, gauge_view g) ∷ []) (sym before)
    ∙ ap (λ x. metrics ++ x ∷ []) (sym looks))

-- ---- a value that may be set, at its place

pub record SetsAt (b : Book) (gs : List Gauge) (alias : ℕ) (value : Option Typed) (now : Gauge) : Type 0 where
  pub there : slice_get gs (alias - 1) ≡ Some now
  pub found : gauge_at b alias ≡ Some (gauge_view now)
  pub first : alias ≡ (alias - 1) + 1
  pub kind : is_of now.datatype value ≡ true

pub sets-at : (values : Values) (ds : List Device) (gs : List Gauge) (alias : ℕ) (value : Option Typed) (now : Gauge)
    → step.set_refusal (book_by values ds gs) alias value ≡ None → now ≡ get_or gs (alias - 1) now → SetsAt (book_by values ds gs) gs alias value now
sets-at values ds gs alias value now h is =
    let may = may_set (book_by values ds gs) alias value h in
    let low = slice_get_within (map gauge_view gs) (alias - 1) may.gauge may.there in
    let size = length-map gs gauge_view in
    let there : slice_get gs (alias - 1) ≡ Some now = slice_get_read gs (length gs) (alias - 1) now refl (omega arith) is in
    let seen : slice_get (map gauge_view gs) (alias - 1) ≡ Some (gauge_view now) = slice_get-map gauge_view gs (alias - 1) ∙ ap (option_map gauge_view) there in
    let same : may.gauge ≡ gauge_view now = let both : Some may.gauge ≡ Some (gauge_view now) = sym may.there ∙ seen in cc in
    record {
      there = there;
      found = may.found ∙ ap (λ (g : GaugeData). Some g) same;
      first = may.first;
      kind = subst (λ (g : GaugeData). is_of g.datatype value ≡ true) same may.kind;
    }

pub not-there : (ds : List Device) (n : ℕ) → length ds ≤ n → is_there (map device_view ds) (OfDevice n) ≡ false
not-there ds n low = ap (λ l. nat_lt (n + 1) (l + 1)) (length-map ds device_view) ∙ grind (arith, nat_tests)

pub there-within : (ds : List Device) (owner : Owner) (n : ℕ) → is_there (map device_view ds) owner ≡ true → owner ≡ OfDevice n → n < length ds
there-within ds owner n there is =
    let size = length-map ds device_view in
    let known : nat_lt (n + 1) (length (map device_view ds) + 1) ≡ true = ap (is_there (map device_view ds)) (sym is) ∙ there in
    let low : nat_lt (n + 1) (length ds + 1) ≡ true = ap (λ l. nat_lt (n + 1) (l + 1)) (sym size) ∙ known in
    grind (arith, nat_tests)

-- ---- an owner's metric at a place

-- the place that the table has among the metrics that the registry keeps
named-there : (b : Book) (owner : Owner) (gs : List Gauge) (table : List (List ℕ × ℕ)) (i p : ℕ) → b.gauges ≡ map gauge_view gs → table ≡ metric_names owner b.gauges
    → Some p ≡ option_map (λ (e : List ℕ × ℕ). e.1) (slice_get table i) → Some p ≡ option_map (λ (e : List ℕ × ℕ). e.1) (slice_get (metric_names owner (map gauge_view gs)) i)
named-there b owner gs table i p same names h =
    let e : metric_names owner b.gauges ≡ metric_names owner (map gauge_view gs) = ap (metric_names owner) same in
    h ∙ ap (λ (l : List (List ℕ × ℕ)). option_map (λ (e : List ℕ × ℕ). e.1) (slice_get l i)) (names ∙ e)

pub owned-within : (b : Book) (owner : Owner) (gs : List Gauge) (table : List (List ℕ × ℕ)) (i p : ℕ) → b.gauges ≡ map gauge_view gs → table ≡ metric_names owner b.gauges
    → Some p ≡ option_map (λ (e : List ℕ × ℕ). e.1) (slice_get table i) → p < length gs
owned-within b owner gs table i p same names h = named-within owner gs i p (named-there b owner gs table i p same names h)

pub owned-there : (b : Book) (owner : Owner) (gs : List Gauge) (table : List (List ℕ × ℕ)) (i p : ℕ) (g : Gauge) → b.gauges ≡ map gauge_view gs → table ≡ metric_names owner b.gauges
    → Some p ≡ option_map (λ (e : List ℕ × ℕ). e.1) (slice_get table i) → g ≡ get_or gs p g → owned_at b owner i ≡ Some (p + 1, gauge_view g)
owned-there b owner gs table i p g same names h is =
    let found = named-there b owner gs table i p same names h in
    let w = named-place owner (map gauge_view gs) i p found in
    let seen : slice_get (map gauge_view gs) p ≡ Some (gauge_view g) =
    slice_get-map gauge_view gs p ∙ ap (option_map gauge_view) (slice_get_read gs (length gs) p g refl (named-within owner gs i p found) is) in
    let one : w.0 ≡ gauge_view g = let both : Some w.0 ≡ Some (gauge_view g) = sym w.1 ∙ seen in cc in
    ap (λ (l : List GaugeData). option_map with_alias (slice_get (owned owner l) i)) same
    ∙ ap (option_map with_alias) (w.2 ∙ ap (λ (x : GaugeData). Some (p, x)) one)
