-- When a change is told.
use Rattle.std.proofs.Common.{◌≡◌, subst, ℕ, ◌+◌, ◌<◌, ◌≤◌, Bool, true, false, not, ◌&&◌, cond, List, length, Option, Some, None, refl, arith}
use Rattle.std.specs.Prelude.{IfSome}
use Rattle.std.specs.Str.{bytes_eq}
use Rattle.std.proofs.lemmas.Bool.{lt-ltb}
use Rattle.spk_device.specs.Book.{Book, DeviceData, has_owner, number_of}
use Rattle.spk_device.specs.declared.owner.Owner.TheVariants.{Device}
use Rattle.spk_device.proofs.PlaceLemmas.{position_from-within}
use Rattle.spk_payload.specs.Typing.{Typed}
use Rattle.spk_device.specs.Step.{change_unless, set_change}
use Rattle.spk_device.specs.declared.outcome.Outcome.TheVariants.{Changed}
use Rattle.spk_edge_rules.specs.Births.{owner_at, owner_is_up}
use Rattle.spk_edge_rules.specs.Rules as rule
use Rattle.spk_edge_rules.specs.Rules.{Given, changing, is_same_value, nothing, telling}

another : (same : Bool) → Changed ≡ change_unless same → same ≡ false
another true e = absurd (let x : ⊥ = cc in x)
another false e = refl

pub told : (a : rule.Asked) (now alias : ℕ) (value : Option Typed) → Changed ≡ set_change a.book alias value
    → owner_is_up a.book (owner_at a.book alias) ≡ true → telling a now alias value ≡ changing a now alias value
told a now alias value changed is_up = by (is_same_value a.book alias value) (owner_is_up a.book (owner_at a.book alias)) (another (is_same_value a.book alias value) changed) is_up
  where
    by : (same up : Bool) → same ≡ false → up ≡ true → telling a now alias value ≡ cond (not same && up) (telling a now alias value) (nothing a)
    by true up e f = absurd (let x : ⊥ = cc in x)
    by false false e f = absurd (let x : ⊥ = cc in x)
    by false true e f = refl

-- a device that has a number is there
within : (o : Option ℕ) (k size number : ℕ) → o ≡ Some number → IfSome o (λ p. (k ≤ p) × (p < k + size)) → number < k + size
within None k size number e h = absurd (let x : ⊥ = cc in x)
within (Some n) k size number e h = let same : n ≡ number = cc in subst (λ m. m < k + size) same h.1

pub owner-there : (b : Book) (name : List ℕ) (number : ℕ) → number_of b name ≡ Some number → has_owner b (Device number) ≡ true
owner-there b name number found =
    let low = within (number_of b name) 0 (length b.devices) number found (position_from-within (λ (d : DeviceData). bytes_eq name d.name) 0 b.devices) in
    lt-ltb (number + 1) (length b.devices + 1) (omega (arith, low))
