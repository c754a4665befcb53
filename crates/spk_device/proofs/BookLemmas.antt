-- What the names of a book lead to.
use Rattle.std.proofs.Common.{◌≡◌, ap, refl, ℕ, ◌+◌, Bool, true, false, cond, List, [], ◌∷◌, map, Option, Some}
use Rattle.std.specs.List.{enumerate_from, position_from, filter}
use Rattle.std.specs.Prelude.{◌&&◌}
use Rattle.std.specs.Str.{bytes_eq}
use Rattle.spk_device.specs.declared.owner.Owner.{Owner}
use Rattle.spk_names.specs.Names.{number_in}
use Rattle.spk_device.specs.Book.{DeviceData, GaugeData, is_owner}

-- the number of a name among devices that count from n
pub number_in-devices : (n : ℕ) (ds : List DeviceData) (name : List ℕ)
    → number_in (map (λ e. (e.1.name, e.0)) (enumerate_from n ds)) name ≡ position_from (λ d. bytes_eq name d.name) n ds
number_in-devices n [] name = refl
number_in-devices n (d ∷ ds) name = ap (cond (bytes_eq name d.name) (Some n)) (number_in-devices (n + 1) ds name)

-- the number of a name among an owner's metrics
pub number_in-owned : (n : ℕ) (owner : Owner) (gs : List GaugeData) (name : List ℕ)
    → number_in (map (λ e. (e.1.name, e.0)) (filter (λ e. is_owner owner e.1.owner) (enumerate_from n gs))) name
    ≡ position_from (λ g. is_owner owner g.owner && bytes_eq name g.name) n gs
number_in-owned n owner [] name = refl
number_in-owned n owner (g ∷ gs) name = by (is_owner owner g.owner) (number_in-owned (n + 1) owner gs name)
  where
    rest : List (ℕ × GaugeData)
    rest = filter (λ e. is_owner owner e.1.owner) (enumerate_from (n + 1) gs)

    more : Option ℕ
    more = position_from (λ h. is_owner owner h.owner && bytes_eq name h.name) (n + 1) gs

    by : (mine : Bool) → number_in (map (λ e. (e.1.name, e.0)) rest) name ≡ more
        → number_in (map (λ e. (e.1.name, e.0)) (cond mine ((n, g) ∷ rest) rest)) name
        ≡ cond (mine && bytes_eq name g.name) (Some n) more
    by true same = ap (cond (bytes_eq name g.name) (Some n)) same
    by false same = same
