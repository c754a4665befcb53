-- The hole that is open behind a loss.
use Rattle.std.proofs.Common.{◌≡◌, ◌∙◌, sym, ap, refl, ℕ, ◌+◌, Bool, true, false, true≢false, ◌||◌, List, [], ◌∷◌, Option, Some, None, if◌then◌else◌, arith}
use Rattle.std.proofs.lemmas.Grind.{common_steps}
use Rattle.std.specs.List.{list_any, sum_by}
use Rattle.std.specs.Option.{option_map, option_or, unwrap_or}
use Rattle.spk_story.specs.declared.hole.End.{End}
use Rattle.spk_story.specs.declared.hole.Hole.{Hole}
use Rattle.spk_story.specs.declared.hole.Loss.{Loss}
use Rattle.spk_story.specs.Data.{capped, capped_hole, end_of, fresh_hole}
use Rattle.spk_story.specs.Events.{Event, Born, Used, Dropped, Gap, Died, Ignored, Ended, Asked, is_loss, missing_by, since_birth, unused_by}
use Rattle.spk_story.specs.Gaps.{first_end, is_open, open_hole, open_now, opened}
use Rattle.spk_story.specs.Standing.{stand, used_at}

pub sum_step : {X : Type 0} (f : X → ℕ) (x : X) (xs : List X) → sum_by f (x ∷ xs) ≡ f x + sum_by f xs
sum_step f x xs = grind (arith, common_steps)

left_false : (a b : Bool) → (a || b) ≡ false → a ≡ false
left_false true b is = is
left_false false b is = refl

right_false : (a b : Bool) → (a || b) ≡ false → b ≡ false
right_false true b is = absurd (true≢false is)
right_false false b is = is

-- what says something lost is a loss
missing_is : (e : Event) → is_loss e ≡ false → missing_by e ≡ 0
missing_is (Dropped loss now) is = absurd (true≢false is)
missing_is (Gap now) is = refl
missing_is (Born now) is = refl
missing_is (Used now) is = refl
missing_is (Died now) is = refl
missing_is (Ignored now) is = refl
missing_is (Ended now) is = refl
missing_is (Asked now) is = refl

unused_is : (e : Event) → is_loss e ≡ false → unused_by e ≡ 0
unused_is (Dropped loss now) is = absurd (true≢false is)
unused_is (Gap now) is = refl
unused_is (Born now) is = refl
unused_is (Used now) is = refl
unused_is (Died now) is = refl
unused_is (Ignored now) is = refl
unused_is (Ended now) is = refl
unused_is (Asked now) is = refl

-- where no loss is among them they say nothing lost
pub none_missing : (es : List Event) → list_any is_loss es ≡ false → sum_by missing_by es ≡ 0
none_missing [] is = refl
none_missing (e ∷ es) is =
    let here = missing_is e (left_false (is_loss e) _ is) in
    let behind = none_missing es (right_false (is_loss e) _ is) in
    let step = sum_step missing_by e es in omega (arith, here, behind, step)

pub none_unused : (es : List Event) → list_any is_loss es ≡ false → sum_by unused_by es ≡ 0
none_unused [] is = refl
none_unused (e ∷ es) is =
    let here = unused_is e (left_false (is_loss e) _ is) in
    let behind = none_unused es (right_false (is_loss e) _ is) in
    let step = sum_step unused_by e es in omega (arith, here, behind, step)

abbrev made : ℕ → ℕ → ℕ → Option End → Hole
made from missing unused end = record { from = from; until = None; missing = missing; unused = unused; end = end }

ends_nothing : (o : Option End) → option_or o None ≡ o
ends_nothing None = refl
ends_nothing (Some end) = refl

capped_sum : (n m k : ℕ) → k ≡ m + n → capped (capped n + m) ≡ capped k
capped_sum n m k is = omega (arith, is)

-- a hole that is open or one that begins, with what a loss says: m and n say what was lost so far, i and j with the loss
with_loss : (b : Bool) (f g m n x y i j : ℕ) (o p : Option End) → (b ≡ false → m ≡ 0) → (b ≡ false → n ≡ 0) → i ≡ x + m → j ≡ y + n
    → let h : Hole = unwrap_or (option_map capped_hole (if b then Some (made f m n o) else None)) (made g 0 0 p) in
    ◌≡◌ {A = Hole} (record h { missing = capped (h.missing + x); unused = capped (h.unused + y) })
    (made (if b then f else g) (capped i) (capped j) (if b then option_or o None else p))
with_loss true f g m n x y i j o p none_m none_n is_i is_j =
    ap (λ k. made f k (capped (capped n + y)) o) (capped_sum m x i is_i) ∙ ap (λ k. made f (capped i) k o) (capped_sum n y j is_j) ∙ ap (λ e. made f (capped i) (capped j) e) (sym (ends_nothing o))
with_loss false f g m n x y i j o p none_m none_n is_i is_j =
    let em : capped (0 + x) ≡ capped i = let z = none_m refl in omega (arith, z, is_i) in
    let en : capped (0 + y) ≡ capped j = let z = none_n refl in omega (arith, z, is_j) in
    ap (λ k. made g k (capped (0 + y)) p) em ∙ ap (λ k. made g (capped i) k p) en

-- the hole that is open, or one that begins
abbrev pub begun : ℕ → List Event → Hole
begun now es = unwrap_or (option_map capped_hole (open_now es)) (fresh_hole (unwrap_or (used_at es) now) (stand es))

-- behind a loss
pub dropped_hole : (loss : Loss) (now : ℕ) (es : List Event)
    → ◌≡◌ {A = Hole} (record (begun now es) { missing = capped ((begun now es).missing + loss.missing); unused = capped ((begun now es).unused + loss.unused) })
    (capped_hole (open_hole (Dropped loss now ∷ es)))
dropped_hole loss now es =
    with_loss (is_open es) (opened es) (unwrap_or (used_at es) now) (sum_by missing_by (since_birth es)) (sum_by unused_by (since_birth es)) loss.missing loss.unused
    (sum_by missing_by (Dropped loss now ∷ since_birth es)) (sum_by unused_by (Dropped loss now ∷ since_birth es)) (first_end es) (end_of (stand es))
    (none_missing (since_birth es)) (none_unused (since_birth es)) (sum_step missing_by (Dropped loss now) (since_birth es)) (sum_step unused_by (Dropped loss now) (since_birth es))

gone : (b : Bool) (f g m n : ℕ) (o p : Option End) → (b ≡ false → m ≡ 0) → (b ≡ false → n ≡ 0)
    → unwrap_or (option_map capped_hole (if b then Some (made f m n o) else None)) (made g 0 0 p)
    ≡ made (if b then f else g) (capped m) (capped n) (if b then option_or o None else p)
gone true f g m n o p none_m none_n = ap (λ e. made f (capped m) (capped n) e) (sym (ends_nothing o))
gone false f g m n o p none_m none_n =
    ap (λ k. made g k 0 p) (ap capped (sym (none_m refl))) ∙ ap (λ k. made g (capped m) k p) (ap capped (sym (none_n refl)))

-- behind a gap
pub gap_hole : (now : ℕ) (es : List Event) → begun now es ≡ capped_hole (open_hole (Gap now ∷ es))
gap_hole now es =
    gone (is_open es) (opened es) (unwrap_or (used_at es) now) (sum_by missing_by (since_birth es)) (sum_by unused_by (since_birth es)) (first_end es) (end_of (stand es))
    (none_missing (since_birth es)) (none_unused (since_birth es))
