-- What becomes of each device of a view at a message, and at a loss or an end.
use Rattle.std.proofs.Common.{◌≡◌, ℕ, Bool, true, false, not, ◌&&◌, ◌||◌, cond, List, [], ◌∷◌, ◌++◌, map, reverse, refl, sym, ◌∙◌, ap, Option, Some, None, true≢false}
use Rattle.std.specs.Option.{option_map}
use Rattle.std.specs.Str.{bytes_eq}
use Rattle.spk_payload.specs.Meaning.{MetricData}
use Rattle.spk_host_rules.specs.Data.{Row, Device}
use Rattle.spk_host_rules.specs.Table.{table_of}
use Rattle.spk_host_rules.specs.Values.{DeviceValues, values_at}
use Rattle.spk_host_rules.specs.Step.{put_device, unborn, stale_device, ended_device, changed_device, dead_device, show_all}
use Rattle.spk_host_rules.specs.Showing.{ShowsDevice, device_in}
use Rattle.spk_host_rules.proofs.Lists.{found-passes, find-map, map-id, same-text}
use Rattle.spk_host_rules.proofs.Rows.{show_all-values}

-- ---- by name

pub in-mapped : (f : Device → Device) → ((d : Device) → (f d).name ≡ d.name) → (n : List ℕ) (ds : List Device) → device_in n (map f ds) ≡ option_map f (device_in n ds)
in-mapped f h n ds = find-map f (λ d. bytes_eq d.name n) (λ d. bytes_eq d.name n) (λ d. ap (λ (x : List ℕ). bytes_eq x n) (h d)) ds

-- what was found has the name
pub name-found : (n : List ℕ) (ds : List Device) (d : Device) → device_in n ds ≡ Some d → d.name ≡ n
name-found n ds d h = same-text d.name n (found-passes (λ e. bytes_eq e.name n) ds d h)

-- a device that is put in is found by its name, and the others are found as before
pub in-put : (y : Device) (n : List ℕ) (ds : List Device) → device_in n (put_device y ds) ≡ cond (bytes_eq y.name n) (Some y) (device_in n ds)
in-put y n [] = refl
in-put y n (x ∷ xs) = by (bytes_eq y.name x.name) refl (bytes_eq y.name n) refl (bytes_eq x.name n) refl (in-put y n xs)
  where
    by : (b : Bool) → bytes_eq y.name x.name ≡ b → (e : Bool) → bytes_eq y.name n ≡ e → (f : Bool) → bytes_eq x.name n ≡ f
        → device_in n (put_device y xs) ≡ cond (bytes_eq y.name n) (Some y) (device_in n xs)
        → device_in n (cond b (y ∷ xs) (x ∷ put_device y xs)) ≡ cond e (Some y) (cond f (Some x) (device_in n xs))
    by true same e is f other rest = ap (λ b. cond b (Some y) (device_in n xs)) is ∙ there e f (sym is ∙ ap (λ (a : List ℕ). bytes_eq a n) (same-text y.name x.name same) ∙ other)
      where
        there : (e f : Bool) → e ≡ f → cond e (Some y) (device_in n xs) ≡ cond e (Some y) (cond f (Some x) (device_in n xs))
        there true f h = refl
        there false true h = absurd (true≢false (sym h))
        there false false h = refl
    by false apart true is true other rest =
        absurd (true≢false (sym (ap (bytes_eq y.name) (same-text x.name n other) ∙ is) ∙ apart))
    by false apart true is false other rest = ap (λ b. cond b (Some x) (device_in n (put_device y xs))) other ∙ rest ∙ ap (λ b. cond b (Some y) (device_in n xs)) is
    by false apart false is f other rest = ap (λ b. cond b (Some x) (device_in n (put_device y xs))) other ∙ ap (cond f (Some x)) (rest ∙ ap (λ b. cond b (Some y) (device_in n xs)) is)

-- ---- a new birth of the node, a loss, an end

pub shown-unborn : (o f : Bool) (found : Option Device) → ShowsDevice o f None (option_map unborn found)
shown-unborn o f None = tt
shown-unborn o f (Some d) = (refl, refl, refl)

pub shown-stale : (o f : Bool) (w : Option DeviceValues) (found : Option Device) → ShowsDevice o f w found → ShowsDevice o false w (option_map stale_device found)
shown-stale o f None None h = tt
shown-stale o f None (Some d) h = (h.0, h.1, refl)
shown-stale o f (Some w) None h = h
shown-stale o f (Some w) (Some d) h = (h.0, h.1, h.2, refl)

pub shown-ended : (o f : Bool) (w : Option DeviceValues) (found : Option Device) → ShowsDevice o f w found → ShowsDevice false false w (option_map ended_device found)
shown-ended o f None None h = tt
shown-ended o f None (Some d) h = (h.0, refl, refl)
shown-ended o f (Some w) None h = h
shown-ended o f (Some w) (Some d) h = (h.0, h.1, refl, refl)

-- ---- messages of devices

-- the values of a device from its birth, the data since, and whether it died
abbrev pub lives : Option (List MetricData) → List MetricData → Bool → Option DeviceValues
lives birth since died = option_map (λ b. record { alive = not died; rows = values_at b since }) birth

module _ (o f : Bool) where
  pub shown-born : (name n : List ℕ) (ms : List MetricData) (b online stale : Bool) (birth : Option (List MetricData)) (since : List MetricData) (died : Bool) (found : Option Device)
      → online ≡ o → stale ≡ not f → ShowsDevice o f (lives birth since died) found
      → ShowsDevice o f (lives (cond b (Some ms) birth) (cond b [] since) (cond b false died))
      (cond b (Some (record { name = name; born = true; online = online; stale = stale; rows = table_of ms })) found)
  shown-born name n ms true online stale birth since died found is was h =
      (refl, sym (map-id (λ r. r) (λ r. refl) (table_of ms)), is ∙ and-true o, was ∙ ap not (and-true f))
    where
      and-true : (x : Bool) → x ≡ (x && true)
      and-true true = refl
      and-true false = refl
  shown-born name n ms false online stale birth since died found is was h = h

  pub shown-changed : (name : List ℕ) (ms : List MetricData) (b : Bool) (birth : Option (List MetricData)) (since : List MetricData) (died : Bool) (found : Option Device)
      → ((d : Device) → found ≡ Some d → bytes_eq name d.name ≡ b) → ShowsDevice o f (lives birth since died) found
      → ShowsDevice o f (lives birth (cond b (reverse ms) [] ++ since) died) (option_map (changed_device name ms) found)
  shown-changed name ms b None since died None is h = tt
  shown-changed name ms b None since died (Some d) is h = h
  shown-changed name ms b (Some birth) since died None is h = h
  shown-changed name ms b (Some birth) since died (Some d) is h = (h.0, rows, h.2, h.3)
    where
      by : (b : Bool) → cond b (show_all ms (values_at birth since)) (values_at birth since) ≡ values_at birth (cond b (reverse ms) [] ++ since)
      by true = show_all-values ms (table_of birth) since
      by false = refl

      rows : cond (d.born && bytes_eq name d.name) (show_all ms d.rows) d.rows ≡ values_at birth (cond b (reverse ms) [] ++ since)
      rows = ap (λ c. cond (c && bytes_eq name d.name) (show_all ms d.rows) d.rows) h.0
          ∙ ap (λ c. cond c (show_all ms d.rows) d.rows) (is d refl)
          ∙ ap (λ (rows : List Row). cond b (show_all ms rows) rows) h.1
          ∙ by b

  pub shown-dead : (name : List ℕ) (b : Bool) (birth : Option (List MetricData)) (since : List MetricData) (died : Bool) (found : Option Device)
      → ((d : Device) → found ≡ Some d → bytes_eq name d.name ≡ b) → ShowsDevice o f (lives birth since died) found
      → ShowsDevice o f (lives birth since (b || died)) (option_map (dead_device name) found)
  shown-dead name b None since died None is h = tt
  shown-dead name b None since died (Some d) is h =
      (h.0, ap (λ x. x && not (bytes_eq name d.name)) h.1, ap (λ x. x || bytes_eq name d.name) h.2)
  shown-dead name b (Some birth) since died None is h = h
  shown-dead name b (Some birth) since died (Some d) is h = (
    h.0,
    h.1,
    ap (λ x. x && not (bytes_eq name d.name)) h.2 ∙ ap (λ c. (o && not died) && not c) (is d refl) ∙ off o died b,
    ap (λ x. x || bytes_eq name d.name) h.3 ∙ ap (λ c. not (f && not died) || c) (is d refl) ∙ old f died b,
  )
    where
      off : (x y z : Bool) → ((x && not y) && not z) ≡ (x && not (z || y))
      off true true true = refl
      off true true false = refl
      off true false true = refl
      off true false false = refl
      off false y z = refl

      old : (x y z : Bool) → (not (x && not y) || z) ≡ not (x && not (z || y))
      old true true true = refl
      old true true false = refl
      old true false true = refl
      old true false false = refl
      old false y z = refl
