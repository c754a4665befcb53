-- Births that are written at once.
use Rattle.std.proofs.Common.{◌≡◌, ◌∙◌, ap, sym, refl, cond, ℕ, ◌*◌, ◌<◌, ◌≤◌, ◌^◌, Bool, true, false, not, List, [], ◌∷◌, ◌++◌, length, take, Option, Some, None, is_some, is_none, arith, append_assoc}
use Rattle.std.specs.Prelude.{All, slice_get}
use Rattle.std.specs.List.{flat_map}
use Rattle.std.specs.Option.{option_and_then, option_map}
use Rattle.std.specs.String.{string_bytes}
use Rattle.std.proofs.lemmas.List.{length-map, take_all}
use Rattle.std.proofs.lemmas.List.Elements.{All-cons}
use Rattle.std.proofs.lemmas.Option.{slice_get-map}
use Rattle.spk_payload.specs.Meaning.{Content, MetricData}
use Rattle.spk_payload.specs.Spelling.{MetricFits, PayloadFits, number_field, spelling}
use Rattle.spk_payload.specs.Typing.{typed_view, written_of}
use Rattle.spk_payload.specs.declared.typing.Value.{Value}
use Rattle.spk_device.specs.Book.{Book, GaugeData, birth_of, births_of, owned}
use Rattle.spk_device.specs.Owned.{owned_at, with_alias}
use Rattle.spk_device.specs.View.{gauge_view}
use Rattle.spk_device.specs.declared.gauge.Gauge.{Gauge}
use Rattle.spk_device.specs.declared.owner.Owner.{Owner}
use Rattle.spk_edge_rules.specs.Births.{own_metrics, stamped}
use Rattle.spk_edge.specs.Rows.{payload_with, spelled}
use Rattle.spk_edge.specs.Saying.{null_said}
use Rattle.spk_edge.proofs.Packed.{null-same}

-- ---- a metric at its place

-- the metric in a birth
abbrev pub own_said : ℕ → ℕ → GaugeData → MetricData
own_said stamp alias g = record {
  name = Some g.name;
  alias = Some alias;
  timestamp = Some stamp;
  datatype = Some g.datatype;
  historical = None;
  transient = None;
  null = cond (is_none g.value) (Some true) None;
  value = option_and_then (written_of g.datatype) g.value;
}

pub own-row : (b : Book) (stamp : ℕ) (owner : Owner) (place alias : ℕ) (g : GaugeData) → owned_at b owner place ≡ Some (alias, g)
    → slice_get (own_metrics b stamp owner) place ≡ Some (own_said stamp alias g)
own-row b stamp owner place alias g found =
    slice_get-map (stamped stamp) (births_of b owner) place ∙ ap (option_map (stamped stamp)) (slice_get-map birth_of (owned owner b.gauges) place)
    ∙ by (slice_get (owned owner b.gauges) place) found
  where
    by : (o : Option (ℕ × GaugeData)) → option_map with_alias o ≡ Some (alias, g) → option_map (stamped stamp) (option_map birth_of o) ≡ Some (own_said stamp alias g)
    by None e = absurd (let z : ⊥ = cc in z)
    by (Some e) h = let both : with_alias e ≡ (alias, g) = cc in ap (λ (p : ℕ × GaugeData). Some (own_said stamp p.0 p.1)) both

pub own-none : (b : Book) (stamp : ℕ) (owner : Owner) (place : ℕ) → owned_at b owner place ≡ None → slice_get (own_metrics b stamp owner) place ≡ None
own-none b stamp owner place found =
    slice_get-map (stamped stamp) (births_of b owner) place ∙ ap (option_map (stamped stamp)) (slice_get-map birth_of (owned owner b.gauges) place)
    ∙ by (slice_get (owned owner b.gauges) place) found
  where
    by : (o : Option (ℕ × GaugeData)) → option_map with_alias o ≡ None → option_map (stamped stamp) (option_map birth_of o) ≡ None
    by None e = refl
    by (Some e) h = absurd (let z : ⊥ = cc in z)

-- what is said of a gauge
abbrev pub said_so : List ℕ → ℕ → ℕ → ℕ → Option Bool → Option Content → MetricData
said_so name alias stamp datatype null value = record {
  name = Some name;
  alias = Some alias;
  timestamp = Some stamp;
  datatype = Some datatype;
  historical = None;
  transient = None;
  null = null;
  value = value;
}

pub none-of : (o : Option Value) (b : Bool) → is_some o ≡ not b → b ≡ is_none (option_map typed_view o)
none-of None true e = refl
none-of None false e = absurd (let x : ⊥ = cc in x)
none-of (Some v) true e = absurd (let x : ⊥ = cc in x)
none-of (Some v) false e = refl

pub gauge-said : (name text : List ℕ) (alias stamp datatype : ℕ) (held : Option Value) (null : Bool) (value : Option Content) → text ≡ name → is_some held ≡ not null
    → value ≡ option_and_then (written_of datatype) (option_map typed_view held)
    → said_so text alias stamp datatype (null_said null) value
    ≡ said_so name alias stamp datatype (cond (is_none (option_map typed_view held)) (Some true) None) (option_and_then (written_of datatype) (option_map typed_view held))
gauge-said name text alias stamp datatype held null value same nothing written =
    ap (λ (t : List ℕ). said_so t alias stamp datatype (null_said null) value) same
    ∙ ap (λ o. said_so name alias stamp datatype o value) (ap null_said (none-of held null nothing) ∙ null-same (is_none (option_map typed_view held)))
    ∙ ap (said_so name alias stamp datatype (cond (is_none (option_map typed_view held)) (Some true) None)) written

-- what is said of the gauge at a place is the metric there
pub row-is : (b : Book) (stamp : ℕ) (owner : Owner) (place alias : ℕ) (g : Gauge) (text : List ℕ) (null : Bool) (value : Option Content) → owned_at b owner place ≡ Some (alias, gauge_view g)
    → text ≡ string_bytes g.name → is_some g.value ≡ not null → value ≡ option_and_then (written_of g.datatype) (option_map typed_view g.value)
    → slice_get (own_metrics b stamp owner) place ≡ Some (said_so text alias stamp g.datatype (null_said null) value)
row-is b stamp owner place alias g text null value found same nothing written =
    own-row b stamp owner place alias (gauge_view g) found
    ∙ ap (λ (m : MetricData). Some m) (sym (gauge-said (string_bytes g.name) text alias stamp g.datatype g.value null value same nothing written))

-- all of them have been written
pub all-taken : (b : Book) (stamp : ℕ) (owner : Owner) (place : ℕ) → length (owned owner b.gauges) ≤ place → take place (own_metrics b stamp owner) ≡ own_metrics b stamp owner
all-taken b stamp owner place past =
    let size : length (own_metrics b stamp owner) ≡ length (owned owner b.gauges) = length-map (births_of b owner) (stamped stamp) ∙ length-map (owned owner b.gauges) birth_of in
    take_all place (own_metrics b stamp owner) (omega (arith, size, past))

-- ---- payloads

pub joined : (stamp seq : ℕ) (ms : List MetricData) (start a b c : List ℕ) → start ≡ [] → a ≡ start ++ number_field (1 * 8) stamp → b ≡ a ++ flat_map spelled ms
    → c ≡ b ++ number_field (3 * 8) seq → c ≡ spelling (payload_with stamp seq ms)
unfolding spelling
joined stamp seq ms start a b c none ha hb hc =
    hc ∙ ap (λ (l : List ℕ). l ++ number_field (3 * 8) seq) (hb ∙ ap (λ (l : List ℕ). l ++ flat_map spelled ms) (ha ∙ ap (λ (l : List ℕ). l ++ number_field (1 * 8) stamp) none))

-- two metrics before others
pub two-first : (x y : MetricData) (ms : List MetricData) (old a b c : List ℕ) → a ≡ old ++ spelled x → b ≡ a ++ spelled y → c ≡ b ++ flat_map spelled ms → c ≡ old ++ flat_map spelled (x ∷ y ∷ ms)
two-first x y ms old a b c ha hb hc =
    hc ∙ ap (λ (l : List ℕ). l ++ flat_map spelled ms) (hb ∙ ap (λ (l : List ℕ). l ++ spelled y) ha)
    ∙ (let regrouped : ((old ++ spelled x) ++ spelled y) ++ flat_map spelled ms ≡ old ++ (spelled x ++ (spelled y ++ flat_map spelled ms)) = simp append_assoc in regrouped)

pub all-fit : (stamp seq : ℕ) (ms : List MetricData) → stamp < 2 ^ 64 → seq < 2 ^ 64 → All MetricFits ms → PayloadFits (payload_with stamp seq ms)
all-fit stamp seq ms time number fits = record { timestamp = time; metrics = fits; seq = number }

pub two-fit : (x y : MetricData) (ms : List MetricData) → MetricFits x → MetricFits y → All MetricFits ms → All MetricFits (x ∷ y ∷ ms)
two-fit x y ms a b c = All-cons MetricFits x (y ∷ ms) a (All-cons MetricFits y ms b c)
