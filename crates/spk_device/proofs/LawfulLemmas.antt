-- Each call that isn't refused leaves a lawful book lawful.
use Rattle.std.proofs.Common.{◌≡◌, ◌∙◌, sym, ap, refl, subst, ℕ, zero, suc, ◌+◌, ◌<◌, ◌≤◌, Bool, true, false, cond, List, [], ◌∷◌, ◌++◌, map, length, set, Option, Some, None, arith, nat_lt, get_or}
use Rattle.std.proofs.lemmas.List.{length-append, length-map, length-set}
use Rattle.std.proofs.lemmas.Option.{get_or_from_slice_get, slice_get_within}
use Rattle.std.proofs.lemmas.List.Elements.{All-append, All-map, All-set, All-weaker}
use Rattle.std.proofs.lemmas.List.Folds.{list_any-append}
use Rattle.std.proofs.lemmas.Slice.Eq.{bytes_eq-Decides}
use Rattle.std.proofs.lemmas.Bool.Decides.{nat_tests, same_from_decides}
use Rattle.std.specs.List.{position_from, list_any}
use Rattle.std.specs.Option.{option_map_or}
use Rattle.std.specs.Prelude.{◌-◌, slice_get, ◌||◌, ◌&&◌, not, nat_le, ◌==◌, is_some, All, IfSome, if◌then◌else◌}
use Rattle.std.specs.Str.{bytes_eq}
use Rattle.spk_payload.specs.Typing.{Typed}
use Rattle.spk_payload.specs.declared.values.Values.{Values}
use Rattle.spk_device.specs.declared.fault.Refusal.{Refusal}
use Rattle.spk_device.specs.declared.fault.Refusal.TheVariants.{Duplicate, NoSuch, WrongKind, Full, BadName}
use Rattle.spk_device.specs.declared.owner.Owner.{Owner}
use Rattle.spk_device.specs.Book.{Book, DeviceData, GaugeData, is_there, number_of, place_of, has_device, has_owner, has_metric, gauge_at, owner_number}
use Rattle.spk_device.specs.Lawful.{AreApart, IsLawful, holds, is_level, same_device, same_metric}
use Rattle.spk_device.specs.Step as step
use Rattle.spk_device.specs.Values.{is_of, is_written}
use Rattle.spk_device.proofs.PlaceLemmas.{position_from-within}

-- ---- what it means that nothing is refused

pub passed : (b : Bool) (r : Refusal) (rest : Option Refusal) → (if b then Some r else rest) ≡ None → (b ≡ false) × (rest ≡ None)
passed true r rest h = cc
passed false r rest h = (refl, h)

pub or_false : (a b : Bool) → (a || b) ≡ false → (a ≡ false) × (b ≡ false)
or_false true b h = cc
or_false false b h = (refl, h)

pub and_true : (a b : Bool) → (a && b) ≡ true → (a ≡ true) × (b ≡ true)
and_true true b h = (refl, h)
and_true false b h = cc

pub not_false : (a : Bool) → not a ≡ false → a ≡ true
not_false true h = refl
not_false false h = cc

pub is_none : {X : Type 0} (o : Option X) → is_some o ≡ false → o ≡ None
is_none None h = refl
is_none (Some x) h = cc

-- a name that isn't barred is a level of a topic
barred_parts : (name : List ℕ) → list_any step.is_barred name ≡ false
    → (holds 43 name ≡ false) × (holds 47 name ≡ false) × (holds 35 name ≡ false) × (holds 0 name ≡ false)
barred_parts [] h = (refl, refl, refl, refl)
barred_parts (c ∷ cs) h =
    let (first, rest) = or_false (step.is_barred c) (list_any step.is_barred cs) h in
    let (plus, after) = or_false (c == 43) ((c == 47) || ((c == 35) || (c == 0))) first in
    let (slash, after2) = or_false (c == 47) ((c == 35) || (c == 0)) after in
    let (hash, nul) = or_false (c == 35) (c == 0) after2 in
    let more = barred_parts cs rest in
    (neither (c == 43) (holds 43 cs) plus more.0, neither (c == 47) (holds 47 cs) slash more.1, neither (c == 35) (holds 35 cs) hash more.2, neither (c == 0) (holds 0 cs) nul more.3)
  where
    neither : (a b : Bool) → a ≡ false → b ≡ false → (a || b) ≡ false
    neither a b p q = ap (λ x. x || b) p ∙ q

level_name : (name : List ℕ) → step.is_empty name ≡ false → list_any step.is_barred name ≡ false → is_level name ≡ true
level_name name some free =
    let parts = barred_parts name free in
    all_clear (step.is_empty name) (holds 47 name) (holds 43 name) (holds 35 name) (holds 0 name) some parts.1 parts.0 parts.2 parts.3
  where
    all_clear : (a b c d e : Bool) → a ≡ false → b ≡ false → c ≡ false → d ≡ false → e ≡ false → (not a && not b && (not c && not d) && not e) ≡ true
    all_clear a b c d e p q r s t =
        ap (λ x. not x && not b && (not c && not d) && not e) p ∙ ap (λ x. not x && (not c && not d) && not e) q
        ∙ ap (λ x. (not x && not d) && not e) r ∙ ap (λ x. not x && not e) s ∙ ap not t

-- a device that may be added
pub record NewDevice (b : Book) (name : List ℕ) : Type 0 where
  pub new : number_of b name ≡ None
  pub few : length b.devices < 1000
  pub level : is_level name ≡ true

pub new_device : (b : Book) (name : List ℕ) → step.add_device_refusal b name ≡ None → NewDevice b name
new_device b name h =
    let (known, rest) = passed (has_device b name) Duplicate _ h in
    let (full, rest2) = passed (nat_le 1000 (length b.devices)) Full _ rest in
    let (bad, _) = passed (step.is_empty name || list_any step.is_barred name) BadName _ rest2 in
    let (empty, barred) = or_false (step.is_empty name) (list_any step.is_barred name) bad in
    record { new = is_none (number_of b name) known; few = grind (arith, nat_tests); level = level_name name empty barred }

-- a metric that may be added
pub record NewMetric (b : Book) (owner : Owner) (name : List ℕ) (datatype : ℕ) (value : Option Typed) : Type 0 where
  pub new : place_of b owner name ≡ None
  pub there : has_owner b owner ≡ true
  pub written : is_written b.values datatype ≡ true
  pub kind : is_of datatype value ≡ true
  pub few : length b.gauges < 10000
  pub named : step.is_empty name ≡ false
  pub unreserved : step.is_taken name ≡ false

pub new_metric : (b : Book) (owner : Owner) (name : List ℕ) (datatype : ℕ) (value : Option Typed)
    → step.add_metric_refusal b owner name datatype value ≡ None → NewMetric b owner name datatype value
new_metric b owner name datatype value h =
    let (known, rest) = passed (step.is_taken name || has_metric b owner name) Duplicate _ h in
    let (absent, rest2) = passed (not (has_owner b owner)) NoSuch _ rest in
    let (wrong, rest3) = passed (not (is_written b.values datatype && is_of datatype value)) WrongKind _ rest2 in
    let (full, rest4) = passed (nat_le 10000 (length b.gauges)) Full _ rest3 in
    let (empty, _) = passed (step.is_empty name) BadName _ rest4 in
    record {
      new = is_none (place_of b owner name) (or_false (step.is_taken name) (has_metric b owner name) known).1;
      there = not_false (has_owner b owner) absent;
      written = (and_true (is_written b.values datatype) (is_of datatype value) (not_false (is_written b.values datatype && is_of datatype value) wrong)).0;
      kind = (and_true (is_written b.values datatype) (is_of datatype value) (not_false (is_written b.values datatype && is_of datatype value) wrong)).1;
      few = grind (arith, nat_tests);
      named = empty;
      unreserved = (or_false (step.is_taken name) (has_metric b owner name) known).0;
    }

-- ---- devices of a name

pub bytes_eq-sym : (x y : List ℕ) → bytes_eq x y ≡ bytes_eq y x
bytes_eq-sym x y =
    same_from_decides {P = x ≡ y} (bytes_eq x y) (bytes_eq y x) (bytes_eq-Decides x y)
    ((λ h. sym ((bytes_eq-Decides y x).0 h)), (λ e. (bytes_eq-Decides y x).1 (sym e)))

pub position_from-none : {X : Type 0} (t : X → Bool) (k : ℕ) (x : X) (xs : List X) → position_from t k (x ∷ xs) ≡ None
    → (t x ≡ false) × (position_from t (k + 1) xs ≡ None)
position_from-none t k x xs h = by (t x) refl h
  where
    by : (b : Bool) → t x ≡ b → cond b (Some k) (position_from t (k + 1) xs) ≡ None → (t x ≡ false) × (position_from t (k + 1) xs ≡ None)
    by true is h = cc
    by false is h = (is, h)

-- ---- lists whose elements are apart

-- one more, which is none of those that are there
pub apart-more : {X : Type 0} (same : X → X → Bool) (k : ℕ) (xs : List X) (x : X) → AreApart same xs
    → position_from (same x) k xs ≡ None → AreApart same (xs ++ x ∷ [])
apart-more same k [] x apart none = (refl, tt)
apart-more same k (y ∷ xs) x apart none =
    let (other, rest) = position_from-none (same x) k y xs none in
    let one : list_any (λ z. same z y) (x ∷ []) ≡ false = ap (λ b. b || false) other in (
      (list_any-append (λ z. same z y) xs (x ∷ []) ∙ ap (λ b. b || list_any (λ z. same z y) (x ∷ [])) apart.0 ∙ one),
      apart-more same (k + 1) xs x apart.1 rest,
    )

-- one changes in what the test doesn't look at
any-set : {X : Type 0} (test : X → Bool) (n : ℕ) (xs : List X) (x y : X) → slice_get xs n ≡ Some x → test y ≡ test x
    → list_any test (set xs n y) ≡ list_any test xs
any-set test n [] x y there same = cc
any-set test zero (z ∷ xs) x y there same =
    let one : z ≡ x = cc in ap (λ b. b || list_any test xs) (same ∙ ap test (sym one))
any-set test (suc n) (z ∷ xs) x y there same = ap (λ b. test z || b) (any-set test n xs x y there same)

pub apart-set : {X : Type 0} (same : X → X → Bool) (n : ℕ) (xs : List X) (x y : X) → AreApart same xs → slice_get xs n ≡ Some x
    → ((z : X) → same y z ≡ same x z) → ((z : X) → same z y ≡ same z x) → AreApart same (set xs n y)
apart-set same n [] x y apart there left right = cc
apart-set {X = X} same zero (z ∷ xs) x y apart there left right =
    let one : z ≡ x = cc in
    ((any-same (λ w. right w ∙ ap (same w) (sym one)) xs ∙ apart.0), apart.1)
  where
    any-same : ((w : X) → same w y ≡ same w z) → (ws : List X) → list_any (λ w. same w y) ws ≡ list_any (λ w. same w z) ws
    any-same h [] = refl
    any-same h (w ∷ ws) = ap (λ b. b || list_any (λ v. same v y) ws) (h w) ∙ ap (λ b. same w z || b) (any-same h ws)
apart-set same (suc n) (z ∷ xs) x y apart there left right =
    ((any-set (λ w. same w z) n xs x y there (left z) ∙ apart.0), apart-set same n xs x y apart.1 there left right)

any-at : {X : Type 0} (test : X → Bool) (n : ℕ) (xs : List X) (x : X) → list_any test xs ≡ false → slice_get xs n ≡ Some x → test x ≡ false
any-at test n [] x h there = cc
any-at test zero (z ∷ xs) x h there = let one : z ≡ x = cc in ap test (sym one) ∙ (or_false (test z) (list_any test xs) h).0
any-at test (suc n) (z ∷ xs) x h there = any-at test n xs x (or_false (test z) (list_any test xs) h).1 there

-- each is the first of its kind
pub apart-found : {X : Type 0} (same : X → X → Bool) (k n : ℕ) (xs : List X) (x : X) → AreApart same xs → same x x ≡ true
    → slice_get xs n ≡ Some x → position_from (same x) k xs ≡ Some (k + n)
apart-found same k n [] x apart self there = cc
apart-found same k zero (z ∷ xs) x apart self there =
    let one : z ≡ x = cc in
    ap (λ b. cond b (Some k) (position_from (same x) (k + 1) xs)) (ap (same x) one ∙ self) ∙ ap (λ m. Some m) (omega arith)
apart-found same k (suc n) (z ∷ xs) x apart self there =
    ap (λ b. cond b (Some k) (position_from (same x) (k + 1) xs)) (any-at (λ w. same w z) n xs x apart.0 there)
    ∙ apart-found same (k + 1) n xs x apart.1 self there ∙ ap (λ m. Some m) (omega arith)

-- no device has the name
pub turned-none : (name : List ℕ) (up : Bool) (ds : List DeviceData) → list_any (λ e. bytes_eq e.name name) ds ≡ false
    → map (step.turned name up) ds ≡ ds
turned-none name up [] h = refl
turned-none name up (d ∷ ds) h =
    let (other, rest) = or_false (bytes_eq d.name name) (list_any (λ (e : DeviceData). bytes_eq e.name name) ds) h in
    let apart = bytes_eq-sym name d.name ∙ other in
    ap (λ b. (if b then record d { up = up } else d) ∷ map (step.turned name up) ds) apart
    ∙ ap (λ l. d ∷ l) (turned-none name up ds rest)

-- of devices that are apart, the first of the name is the only one
pub turned-set : (k n : ℕ) (name : List ℕ) (up : Bool) (ds : List DeviceData) (e : DeviceData) → AreApart same_device ds
    → position_from (λ d. bytes_eq name d.name) k ds ≡ Some (k + n) → slice_get ds n ≡ Some e
    → map (step.turned name up) ds ≡ set ds n (record e { up = up })
turned-set k n name up [] e apart found there = cc
turned-set k n name up (d ∷ ds) e apart found there =
    by (bytes_eq name d.name) refl n found there (λ m f t. turned-set (k + 1) m name up ds e apart.1 f t)
  where
    rest : Option ℕ
    rest = position_from (λ (x : DeviceData). bytes_eq name x.name) (k + 1) ds

    low : (m : ℕ) → rest ≡ Some m → k + 1 ≤ m
    low m h = let w : IfSome rest (λ p. (k + 1 ≤ p) × (p < (k + 1) + length ds)) = position_from-within (λ (x : DeviceData). bytes_eq name x.name) (k + 1) ds in
        (subst (λ r. IfSome r (λ p. (k + 1 ≤ p) × (p < (k + 1) + length ds))) h w).0

    Goal : Bool → ℕ → Type 0
    Goal b m = (if b then record d { up = up } else d) ∷ map (step.turned name up) ds ≡ set (d ∷ ds) m (record e { up = up })

    here : bytes_eq name d.name ≡ true → Some d ≡ Some e → (record d { up = up }) ∷ map (step.turned name up) ds ≡ (record e { up = up }) ∷ ds
    here same is =
        let one : d ≡ e = cc in
        let names = (bytes_eq-Decides name d.name).0 same in
        let alone : list_any (λ (x : DeviceData). bytes_eq x.name name) ds ≡ false = subst (λ s. list_any (λ (x : DeviceData). bytes_eq x.name s) ds ≡ false) (sym names) apart.0 in
        ap (λ (x : DeviceData). (record x { up = up }) ∷ map (step.turned name up) ds) one
        ∙ ap (λ l. (record e { up = up }) ∷ l) (turned-none name up ds alone)

    by : (b : Bool) → bytes_eq name d.name ≡ b → (m : ℕ) → cond b (Some k) rest ≡ Some (k + m) → slice_get (d ∷ ds) m ≡ Some e
        → ((j : ℕ) → rest ≡ Some ((k + 1) + j) → slice_get ds j ≡ Some e → map (step.turned name up) ds ≡ set ds j (record e { up = up }))
        → Goal b m
    by true same zero f t more = here same t
    by true same (suc j) f t more = let is : k ≡ k + suc j = cc in absurd (omega arith)
    by false other zero f t more = let low_here = low (k + zero) f in absurd (omega arith)
    by false other (suc j) f t more = ap (λ l. d ∷ l) (more j (f ∙ ap (λ p. Some p) (omega arith)) t)

pub turned-name : (name : List ℕ) (up : Bool) (d : DeviceData) → (step.turned name up d).name ≡ d.name
turned-name name up d = by (bytes_eq name d.name)
  where
    by : (b : Bool) → (if b then record d { up = up } else d).name ≡ d.name
    by true = refl
    by false = refl

turned-any : (name other : List ℕ) (up : Bool) (ds : List DeviceData)
    → list_any (λ e. bytes_eq e.name other) (map (step.turned name up) ds) ≡ list_any (λ e. bytes_eq e.name other) ds
turned-any name other up [] = refl
turned-any name other up (d ∷ ds) =
    ap (λ n. bytes_eq n other || list_any (λ (e : DeviceData). bytes_eq e.name other) (map (step.turned name up) ds)) (turned-name name up d)
    ∙ ap (λ b. bytes_eq d.name other || b) (turned-any name other up ds)

-- a turn leaves the names
pub apart-turned : (name : List ℕ) (up : Bool) (ds : List DeviceData) → AreApart same_device ds → AreApart same_device (map (step.turned name up) ds)
apart-turned name up [] apart = tt
apart-turned name up (d ∷ ds) apart = (
  ap (λ n. list_any (λ (e : DeviceData). bytes_eq e.name n) (map (step.turned name up) ds)) (turned-name name up d)
      ∙ turned-any name d.name up ds ∙ apart.0,
  apart-turned name up ds apart.1,
)

-- ---- metrics

-- an alias below all places
values_with-below : (k alias : ℕ) (value : Option Typed) (gs : List GaugeData) → alias ≤ k → step.values_with k alias value gs ≡ gs
values_with-below k alias value [] h = refl
values_with-below k alias value (x ∷ gs) h =
    let off : (k + 1 == alias) ≡ false = grind (arith, nat_tests) in
    ap (λ b. (if b then record x { value = value } else x) ∷ step.values_with (k + 1) alias value gs) off
    ∙ ap (λ l. x ∷ l) (values_with-below (k + 1) alias value gs (omega arith))

-- what holds of all holds of one
pub All-at : {X : Type 0} (P : X → Type 0) (xs : List X) (n : ℕ) (x : X) → All P xs → slice_get xs n ≡ Some x → P x
All-at P xs n x all there =
    subst P (get_or_from_slice_get xs n x x there) (all n x (slice_get_within xs n x there))

pub All-one : {X : Type 0} (P : X → Type 0) (x : X) → P x → All P (x ∷ [])
All-one P x h zero d low = h
All-one P x h (suc k) d low = absurd (omega arith)

-- the value of one metric is set
pub values_with-set : (k n : ℕ) (value : Option Typed) (gs : List GaugeData) (g : GaugeData) → slice_get gs n ≡ Some g
    → step.values_with k (k + n + 1) value gs ≡ set gs n (record g { value = value })
values_with-set k n value [] g h = cc
values_with-set k zero value (x ∷ gs) g h =
    let one : x ≡ g = cc in
    let here : (k + 1 == k + zero + 1) ≡ true = grind (arith, nat_tests) in
    ap (λ b. (if b then record x { value = value } else x) ∷ step.values_with (k + 1) (k + zero + 1) value gs) here
    ∙ ap (λ (y : GaugeData). (record y { value = value }) ∷ step.values_with (k + 1) (k + zero + 1) value gs) one
    ∙ ap (λ l. (record g { value = value }) ∷ l) (values_with-below (k + 1) (k + zero + 1) value gs (omega arith))
values_with-set k (suc n) value (x ∷ gs) g h =
    let off : (k + 1 == k + suc n + 1) ≡ false = grind (arith, nat_tests) in
    ap (λ b. (if b then record x { value = value } else x) ∷ step.values_with (k + 1) (k + suc n + 1) value gs) off
    ∙ ap (λ a. x ∷ step.values_with (k + 1) a value gs) (omega arith)
    ∙ ap (λ l. x ∷ l) (values_with-set (k + 1) n value gs g h)

-- ---- each call that isn't refused

pub lawful-device : (b : Book) (name : List ℕ) → IsLawful b → NewDevice b name → IsLawful (step.with_device b name)
lawful-device b name lawful new =
    let more = length-append b.devices ((record { name = name; up = false }) ∷ []) in
    record {
      few_devices = omega arith;
      few_gauges = lawful.few_gauges;
      apart = apart-more same_device 0 b.devices (record { name = name; up = false }) lawful.apart new.new;
      metrics_apart = lawful.metrics_apart;
      owners = λ k d h. there-more (owner_number (get_or b.gauges k d).owner) (length b.devices) _ (lawful.owners k d h) more;
      values = lawful.values;
      levels = All-append (λ (d : DeviceData). is_level d.name ≡ true) b.devices ((record { name = name; up = false }) ∷ []) lawful.levels
          (All-one (λ (d : DeviceData). is_level d.name ≡ true) (record { name = name; up = false }) new.level);
      named = lawful.named;
      unreserved = lawful.unreserved;
    }
  where
    there-more : (n l m : ℕ) → nat_lt n (l + 1) ≡ true → m ≡ l + 1 → nat_lt n (m + 1) ≡ true
    there-more n l m h e = grind (arith, nat_tests)

pub lawful-metric : (b : Book) (owner : Owner) (name : List ℕ) (datatype : ℕ) (value : Option Typed) → IsLawful b
    → NewMetric b owner name datatype value → IsLawful (step.with_metric b owner name datatype value)
lawful-metric b owner name datatype value lawful new =
    let g : GaugeData = record { owner = owner; name = name; datatype = datatype; value = value } in
    let more = length-append b.gauges (g ∷ []) in
    record {
      few_devices = lawful.few_devices;
      few_gauges = omega arith;
      apart = lawful.apart;
      metrics_apart = apart-more same_metric 0 b.gauges g lawful.metrics_apart new.new;
      owners = All-append (λ (x : GaugeData). is_there b.devices x.owner ≡ true) b.gauges (g ∷ []) lawful.owners (All-one (λ (x : GaugeData). is_there b.devices x.owner ≡ true) g new.there);
      values = All-append (λ (x : GaugeData). is_of x.datatype x.value ≡ true) b.gauges (g ∷ []) lawful.values (All-one (λ (x : GaugeData). is_of x.datatype x.value ≡ true) g new.kind);
      levels = lawful.levels;
      named = All-append (λ (x : GaugeData). step.is_empty x.name ≡ false) b.gauges (g ∷ []) lawful.named (All-one (λ (x : GaugeData). step.is_empty x.name ≡ false) g new.named);
      unreserved = All-append (λ (x : GaugeData). step.is_taken x.name ≡ false) b.gauges (g ∷ []) lawful.unreserved (All-one (λ (x : GaugeData). step.is_taken x.name ≡ false) g new.unreserved);
    }

pub lawful-turn : (b : Book) (name : List ℕ) (up : Bool) → IsLawful b → IsLawful (step.with_turn b name up)
lawful-turn b name up lawful =
    let same = length-map b.devices (step.turned name up) in
    record {
      few_devices = subst (λ n. n ≤ 1000) (sym same) lawful.few_devices;
      few_gauges = lawful.few_gauges;
      apart = apart-turned name up b.devices lawful.apart;
      metrics_apart = lawful.metrics_apart;
      owners = λ k d h. ap (λ n. nat_lt (owner_number (get_or b.gauges k d).owner) (n + 1)) same ∙ lawful.owners k d h;
      values = lawful.values;
      levels = All-map (λ (d : DeviceData). is_level d.name ≡ true) (step.turned name up) b.devices
          (All-weaker (λ (d : DeviceData). is_level d.name ≡ true) (λ d. is_level (step.turned name up d).name ≡ true) (λ d h. ap is_level (turned-name name up d) ∙ h) b.devices lawful.levels);
      named = lawful.named;
      unreserved = lawful.unreserved;
    }

-- a value of its datatype is set at a place
pub lawful-set : (values : Values) (ds : List DeviceData) (gs : List GaugeData) (n : ℕ) (g : GaugeData) (value : Option Typed)
    → IsLawful (record { devices = ds; gauges = gs; values = values }) → slice_get gs n ≡ Some g → is_of g.datatype value ≡ true
    → IsLawful (record { devices = ds; gauges = set gs n (record g { value = value }); values = values })
lawful-set values ds gs n g value lawful there kind = record {
  few_devices = lawful.few_devices;
  few_gauges = subst (λ l. l ≤ 10000) (sym (length-set gs n (record g { value = value }))) lawful.few_gauges;
  apart = lawful.apart;
  metrics_apart = apart-set same_metric n gs g (record g { value = value }) lawful.metrics_apart there (λ z. refl) (λ z. refl);
  owners = All-set (λ (x : GaugeData). is_there ds x.owner ≡ true) gs n (record g { value = value }) (All-at (λ (x : GaugeData). is_there ds x.owner ≡ true) gs n g lawful.owners there) lawful.owners;
  values = All-set (λ (x : GaugeData). is_of x.datatype x.value ≡ true) gs n (record g { value = value }) kind lawful.values;
  levels = lawful.levels;
  named = All-set (λ (x : GaugeData). step.is_empty x.name ≡ false) gs n (record g { value = value }) (All-at (λ (x : GaugeData). step.is_empty x.name ≡ false) gs n g lawful.named there) lawful.named;
  unreserved = All-set (λ (x : GaugeData). step.is_taken x.name ≡ false) gs n (record g { value = value }) (All-at (λ (x : GaugeData). step.is_taken x.name ≡ false) gs n g lawful.unreserved there) lawful.unreserved;
}

-- a value that may be set
pub record MaySet (b : Book) (alias : ℕ) (value : Option Typed) : Type 0 where
  pub gauge : GaugeData
  pub found : gauge_at b alias ≡ Some gauge
  pub there : slice_get b.gauges (alias - 1) ≡ Some gauge
  pub first : alias ≡ (alias - 1) + 1
  pub kind : is_of gauge.datatype value ≡ true

abbrev judge_set : Option Typed → Option GaugeData → Option Refusal
judge_set value o = option_map_or (λ (g : GaugeData). if is_of g.datatype value then None else Some WrongKind) o (Some NoSuch)

pub may_set : (b : Book) (alias : ℕ) (value : Option Typed) → step.set_refusal b alias value ≡ None → MaySet b alias value
may_set b alias value h = by (gauge_at b alias) refl h
  where
    kind_of : (k : Bool) → (if k then None else Some WrongKind) ≡ None → k ≡ true
    kind_of true e = refl
    kind_of false e = cc

    place : (zero_alias : Bool) (g : GaugeData) → (alias == 0) ≡ zero_alias → (if zero_alias then None else slice_get b.gauges (alias - 1)) ≡ Some g
        → (slice_get b.gauges (alias - 1) ≡ Some g) × (alias ≡ (alias - 1) + 1)
    place true g is e = cc
    place false g is e = (e, grind (arith, nat_tests))

    by : (o : Option GaugeData) → gauge_at b alias ≡ o → judge_set value (gauge_at b alias) ≡ None → MaySet b alias value
    by None is e = let bad : Some NoSuch ≡ None = ap (judge_set value) (sym is) ∙ e in cc
    by (Some g) is e =
        let both = place (alias == 0) g refl is in
        record { gauge = g; found = is; there = both.0; first = both.1; kind = kind_of (is_of g.datatype value) (ap (judge_set value) (sym is) ∙ e) }
