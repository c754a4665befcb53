-- A fresh node stays so at a moment, at a death, and at the end of the host's session.
use Rattle.std.proofs.Common.{◌≡◌, ◌∙◌, sym, ap, refl, ℕ, zero, suc, ◌<◌, Bool, true, false, cond, List, length, replicate, Option, None, is_some, arith}
use Rattle.std.specs.Prelude.{◌-◌, ◌&&◌, nat_le}
use Rattle.std.specs.List.{list_any}
use Rattle.std.proofs.lemmas.List.{ext_get_or, length-replicate}
use Rattle.std.proofs.lemmas.List.FromFn.{get_or-map-range_with_len, length-map-range_with_len}
use Rattle.std.proofs.Common.{get_or}
use Rattle.spk_sequence.specs.Data.{Standing}
use Rattle.spk_sequence.specs.Numbers.{held_as}
use Rattle.spk_sequence.specs.Step as sequence
use Rattle.spk_sequence.specs.Step.{fresh_standing}
use Rattle.spk_sequence.specs.declared.phase.Phase.TheVariants as phase
use Rattle.spk_order.specs.Ordered.{kept_at}
use Rattle.spk_order.specs.Step.{left_at, left_by, stands_so}
use Rattle.spk_reading.specs.Data.{NumberedData}
use Rattle.spk_host_rules.specs.Data.{Gap, unheard}
use Rattle.spk_host_rules.specs.Step as rules
use Rattle.spk_host_node.specs.Data.{NodeData, fresh_node}
use Rattle.spk_host_node.specs.Step as node

none_at : {T : Type 0} (n i : ℕ) → get_or (replicate {A = Option T} n None) i None ≡ None
none_at zero i = refl
none_at (suc n) zero = refl
none_at (suc n) (suc i) = none_at n i

pub none_held : (n : ℕ) → list_any is_some (replicate {A = Option (Option ℕ)} n None) ≡ false
none_held zero = refl
none_held (suc n) = none_held n

neither : {T : Type 0} (b : Bool) (x : Option T) → x ≡ None → cond b x None ≡ None
neither true x e = e
neither false x e = refl

none_left_at : {T : Type 0} (s : Standing) (i : ℕ) → left_at s (replicate {A = Option T} 256 None) i ≡ None
none_left_at {T} s i = neither (is_some (held_as s i)) (kept_at (replicate {A = Option T} 256 None) i) (none_at 256 i)

-- of no payloads none is left
pub none_left : {T : Type 0} (s : Standing) → left_by s (replicate {A = Option T} 256 None) ≡ replicate 256 None
unfolding left_by
none_left {T} s =
    let none : List (Option T) = replicate 256 None in
    ext_get_or None (left_by s none) none (length-map-range_with_len (left_at s none) 0 256 ∙ sym (length-replicate {A = Option T} 256 None))
    (λ i below. let size : length (left_by s none) ≡ 256 = length-map-range_with_len (left_at s none) 0 256 in
    let byte : i < 256 = omega arith in
    get_or-map-range_with_len (left_at s none) 0 256 i i None byte (omega arith) ∙ none_left_at s i ∙ sym (none_at 256 i))

abbrev standing_so : (wait width : ℕ) → List (Option NumberedData) → NodeData
standing_so wait width kept = record { order = record { standing = fresh_standing wait width; kept = kept }; watch = unheard }

still : (wait width : ℕ) → standing_so wait width (left_by (fresh_standing wait width) (replicate 256 None)) ≡ fresh_node wait width
still wait width = ap (standing_so wait width) (none_left (fresh_standing wait width))

abbrev ticked_if : (wait width now : ℕ) → Bool → NodeData
ticked_if wait width now b =
    let s = fresh_standing wait width in
    record {
      order = stands_so (cond b (sequence.after_stop s phase.Gap) s) (replicate 256 None);
      watch = cond b (rules.step wait unheard (Gap now)) unheard;
    }

pub fresh_tick : (wait width now : ℕ) → node.tick (fresh_node wait width) now ≡ fresh_node wait width
fresh_tick wait width now =
    ap (λ b. ticked_if wait width now (b && nat_le wait (now - 0))) (none_held width) ∙ still wait width

pub fresh_death : (wait width bd : ℕ) → node.death (fresh_node wait width) bd ≡ fresh_node wait width
fresh_death wait width bd = still wait width

pub fresh_over : (wait width : ℕ) → node.over (fresh_node wait width) ≡ fresh_node wait width
fresh_over wait width = refl
