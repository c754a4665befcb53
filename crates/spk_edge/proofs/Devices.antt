-- The births of the devices, one place after the other.
use Rattle.std.proofs.Common.{◌≡◌, ℕ, zero, suc, ◌+◌, ◌<◌, ◌≤◌, Bool, true, false, cond, List, [], ◌∷◌, ◌++◌, length, map, drop, Some, refl, sym, ap, ◌∙◌, arith, append_assoc}
use Rattle.std.specs.Prelude.{slice_get}
use Rattle.std.specs.List.{enumerate_from, filter}
use Rattle.std.proofs.lemmas.List.{append-nil}
use Rattle.spk_device.specs.Book.{Book, DeviceData, device_at}
use Rattle.spk_edge_rules.specs.Config.{Config}
use Rattle.spk_edge.specs.Listed.{birth_if_up, births_from, device_message}
use Rattle.spk_edge.specs.View.{MessageData}

one-birth : (c : Config) (b : Book) (stamp n : ℕ) (d : DeviceData) (ds : List DeviceData)
    → births_from c b stamp n (d ∷ ds) ≡ birth_if_up c b stamp n (Some d) ++ births_from c b stamp (n + 1) ds
one-birth c b stamp n d ds = by d.up
  where
    by : (up : Bool) → map (device_message c b stamp) (cond up ((n, d) ∷ filter (λ (e : ℕ × DeviceData). e.1.up) (enumerate_from (n + 1) ds)) (filter (λ (e : ℕ × DeviceData). e.1.up) (enumerate_from (n + 1) ds)))
        ≡ cond up (device_message c b stamp (n, d) ∷ []) [] ++ births_from c b stamp (n + 1) ds
    by true = refl
    by false = refl

-- the births from a place on are that of the device there, and those behind it
pub births-step : (c : Config) (b : Book) (stamp n i : ℕ) (ds : List DeviceData) → i < length ds
    → births_from c b stamp (n + i) (drop i ds) ≡ birth_if_up c b stamp (n + i) (slice_get ds i) ++ births_from c b stamp (n + i + 1) (drop (i + 1) ds)
births-step c b stamp n i [] below = absurd (omega (arith, below))
births-step c b stamp n zero (d ∷ ds) below = one-birth c b stamp (n + 0) d ds
births-step c b stamp n (suc i) (d ∷ ds) below =
    let z : n + suc i ≡ (n + 1) + i = omega arith in
    let w : suc i + 1 ≡ suc (i + 1) = omega arith in
    ap (λ k. births_from c b stamp k (drop i ds)) z
    ∙ births-step c b stamp (n + 1) i ds (omega (arith, below))
    ∙ ap (λ k. birth_if_up c b stamp k (slice_get ds i) ++ births_from c b stamp (k + 1) (drop (i + 1) ds)) (sym z)
    ∙ ap (λ k. birth_if_up c b stamp (n + suc i) (slice_get ds i) ++ births_from c b stamp (n + suc i + 1) (drop k (d ∷ ds))) (sym w)

-- one place more
pub births-more : (c : Config) (b : Book) (stamp i : ℕ) (whole old new : List MessageData) → i < length b.devices
    → old ++ births_from c b stamp i (drop i b.devices) ≡ whole → new ≡ old ++ birth_if_up c b stamp i (device_at b i)
    → new ++ births_from c b stamp (i + 1) (drop (i + 1) b.devices) ≡ whole
births-more c b stamp i whole old new below so_far more =
    let z : 0 + i ≡ i = omega arith in
    let step : births_from c b stamp i (drop i b.devices) ≡ birth_if_up c b stamp i (slice_get b.devices i) ++ births_from c b stamp (i + 1) (drop (i + 1) b.devices) =
    ap (λ k. births_from c b stamp k (drop i b.devices)) (sym z) ∙ births-step c b stamp 0 i b.devices below
    ∙ ap (λ k. birth_if_up c b stamp k (slice_get b.devices i) ++ births_from c b stamp (k + 1) (drop (i + 1) b.devices)) z in
    ap (λ (l : List MessageData). l ++ births_from c b stamp (i + 1) (drop (i + 1) b.devices)) more
    ∙ append_assoc old (birth_if_up c b stamp i (device_at b i)) (births_from c b stamp (i + 1) (drop (i + 1) b.devices))
    ∙ ap (λ (l : List MessageData). old ++ l) (sym step) ∙ so_far

pub births-all : (c : Config) (b : Book) (stamp i : ℕ) (whole old : List MessageData) → length b.devices ≤ i
    → old ++ births_from c b stamp i (drop i b.devices) ≡ whole → old ≡ whole
births-all c b stamp i whole old past so_far =
    sym (append-nil old) ∙ ap (λ (ds : List DeviceData). old ++ births_from c b stamp i ds) (sym (dropped b.devices i past)) ∙ so_far
  where
    dropped : (ds : List DeviceData) (i : ℕ) → length ds ≤ i → drop i ds ≡ []
    dropped [] zero le = refl
    dropped [] (suc i) le = refl
    dropped (d ∷ ds) zero le = absurd (omega (arith, le))
    dropped (d ∷ ds) (suc i) le = dropped ds i (omega (arith, le))

pub map-twice : {X Y Z : Type 0} (f : Y → Z) (g : X → Y) (xs : List X) → map (λ (x : X). f (g x)) xs ≡ map f (map g xs)
map-twice f g [] = refl
map-twice f g (x ∷ xs) = ap (λ l. f (g x) ∷ l) (map-twice f g xs)
