-- How deep the JSON of a node nests.
use Rattle.std.proofs.Common.{◌≡◌, ℕ, ℤ, ◌≤◌, true, false, cond, List, [], ◌∷◌, map, Option, None, Some, refl, decimal, from_bits, string_bytes, arith}
use Rattle.std.specs.Fmt.{signed_decimal}
use Rattle.std.specs.Float.{Float, binary32, binary64, float_is_finite}
use Rattle.serde_json.specs.Data.{Data, depth, items_depth, number, string, float, unsigned}
use Rattle.serde_json.specs.Find.{of_integer}
use Rattle.serde_json.specs.Read.{max_depth}
use Rattle.serde_json.specs.View.{items_of}
use Rattle.spk_floats.specs.Text.{word_of}
use Rattle.spk_story.specs.declared.hole.End.{End}
use Rattle.spk_story.specs.declared.hole.End.TheVariants.{Birth, Death, Session}
use Rattle.spk_story.specs.declared.hole.Hole.{Hole}
use Rattle.spk_page.specs.declared.node.Shown.{Shown}
use Rattle.spk_page.specs.declared.node.Shown.TheVariants as Shown
use Rattle.spk_page.specs.declared.node.Metric.{Metric}
use Rattle.spk_page.specs.declared.node.Device.{Device}
use Rattle.spk_page.specs.declared.node.Node.{Node}
use Rattle.spk_page.specs.declared.node.Whole.{Whole}
use Rattle.spk_page.specs.Values.{is_wide, signed_data, unsigned_data, float_data, shown_data}
use Rattle.spk_page.specs.Rows.{maybe, end_data, hole_data, maybe_hole, row_data, metric_data, device_data, whole_data}

-- items each of which nests at most so deep
pub each_depth : {X : Type 0} → (f : X → Data) (n : ℕ) → ((x : X) → depth (f x) ≤ n) → (xs : List X) → items_depth (items_of (map f xs)) ≤ n
each_depth f n h [] = omega arith
each_depth f n h (x ∷ xs) = omega (arith, h x, each_depth f n h xs)

maybe_depth : (o : Option ℕ) → depth (maybe o) ≡ 0
maybe_depth None = refl
maybe_depth (Some n) = refl

end_depth : (e : Option End) → depth (end_data e) ≡ 0
end_depth None = refl
end_depth (Some Birth) = refl
end_depth (Some Death) = refl
end_depth (Some Session) = refl

hole_depth : (h : Hole) → depth (hole_data h) ≤ 1
hole_depth h = omega (arith, end_depth h.end, maybe_depth h.until)

maybe_hole_depth : (h : Option Hole) → depth (maybe_hole h) ≤ 1
maybe_hole_depth None = omega arith
maybe_hole_depth (Some h) = hole_depth h

signed_depth : (w : Option ℕ) (z : ℤ) → depth (signed_data w z) ≡ 0
signed_depth w z = elim (is_wide w) as (λ b. depth (cond b (string (signed_decimal z)) (number (of_integer z))) ≡ 0) [ true ↦ refl | false ↦ refl ]

unsigned_depth : (w : Option ℕ) (n : ℕ) → depth (unsigned_data w n) ≡ 0
unsigned_depth w n = elim (is_wide w) as (λ b. depth (cond b (string (decimal n)) (number (unsigned n))) ≡ 0) [ true ↦ refl | false ↦ refl ]

float_depth : (x : Float) → depth (float_data x) ≡ 0
float_depth x = elim (float_is_finite x) as (λ b. depth (cond b (number (float x)) (string (word_of x))) ≡ 0) [ true ↦ refl | false ↦ refl ]

shown_depth : (w : Option ℕ) (s : Shown) → depth (shown_data w s) ≤ 1
shown_depth w Shown.Nothing = omega arith
shown_depth w Shown.Other = omega arith
shown_depth w (Shown.Signed z) = omega (arith, signed_depth w z)
shown_depth w (Shown.Unsigned n) = omega (arith, unsigned_depth w n)
shown_depth w (Shown.Flag b) = omega arith
shown_depth w (Shown.Words t) = omega arith
shown_depth w (Shown.Octets o) = omega arith
shown_depth w (Shown.Float bits) = omega (arith, float_depth (from_bits binary32 bits))
shown_depth w (Shown.Double bits) = omega (arith, float_depth (from_bits binary64 bits))

metric_depth : (m : Metric) → depth (metric_data m) ≤ 2
metric_depth m = omega (arith, maybe_depth m.alias, maybe_depth m.at, maybe_depth m.datatype, shown_depth m.datatype m.shown)

device_depth : (d : Device) → depth (device_data d) ≤ 4
device_depth d = omega (arith, each_depth metric_data 2 metric_depth d.metrics.items)

pub row_depth : (n : Node) → depth (row_data n) ≤ 2
row_depth n =
    let down = each_depth (λ d. string d.now) 0 (λ d. omega arith) n.down.items in
    omega (arith, maybe_depth n.born_at, maybe_depth n.used_at, maybe_hole_depth n.hole, down)

-- within what a reader of JSON takes
pub whole_depth : (w : Whole) → depth (whole_data w) ≤ max_depth
whole_depth w =
    omega (arith, each_depth device_data 4 device_depth w.devices.items, each_depth hole_data 1 hole_depth w.holes.now, each_depth metric_data 2 metric_depth w.metrics.items, row_depth w.row)
