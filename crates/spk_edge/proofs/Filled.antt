-- Kept changes that are put one after the other, as far as they stay within a limit.
use Rattle.std.proofs.Common.{◌≡◌, ◌⊎◌, inl, inr, ◌∙◌, ap, sym, refl, subst, ℕ, ◌+◌, ◌-◌, ◌<◌, ◌≤◌, ◌^◌, min, Bool, true, false, List, [], ◌∷◌, ◌++◌, length, take, Option, Some, None, arith}
use Rattle.std.specs.Prelude.{All, IfSome, slice_get}
use Rattle.std.specs.List.{flat_map}
use Rattle.std.proofs.lemmas.List.{length-append, length-take-le}
use Rattle.spk_payload.specs.Meaning.{MetricData}
use Rattle.spk_payload.specs.Spelling.{MetricFits, if_there}
use Rattle.spk_edge.specs.History.{IsFill, IsFilled, IsPast, IsPushed, IsPushedAt, IsPut, IsTaken, IsTried, IsTriedAt}
use Rattle.spk_edge.specs.Rows.{spelled}
use Rattle.spk_edge.proofs.Flushed.{none-some, some-same}
use Rattle.spk_edge.proofs.Rows.{fill-all, fill-here, fits-more, row-more, sum-more, taken-more}

was-put : (limit : ℕ) (before after : List ℕ) (ms : List MetricData) (place : ℕ) (m : MetricData) (b : Bool) → slice_get ms place ≡ Some m → b ≡ true
    → IsTriedAt limit before after ms place b → IsPut limit before after m
was-put limit before after ms place m b there done tried = subst (IsTried limit before after m) done (tried m there)

was-past : (limit : ℕ) (before after : List ℕ) (ms : List MetricData) (place : ℕ) (m : MetricData) (b : Bool) → slice_get ms place ≡ Some m → b ≡ false
    → IsTriedAt limit before after ms place b → IsPast limit before after m
was-past limit before after ms place m b there over tried = subst (IsTried limit before after m) over (tried m there)

pub put-more : (limit : ℕ) (old out new : List ℕ) (ms : List MetricData) (i : ℕ) (m : MetricData) (b : Bool) → slice_get ms i ≡ Some m → b ≡ true
    → out ≡ old ++ flat_map spelled (take i ms) → IsTriedAt limit out new ms i b → new ≡ old ++ flat_map spelled (take (i + 1) ms)
put-more limit old out new ms i m b there done so_far tried =
    let put = was-put limit out new ms i m b there done tried in
    row-more old out new ms i so_far (put.items ∙ ap (λ (o : Option MetricData). out ++ if_there spelled o) (sym there))

pub put-fits : (limit : ℕ) (out new : List ℕ) (ms : List MetricData) (i : ℕ) (m : MetricData) (b : Bool) → slice_get ms i ≡ Some m → b ≡ true
    → All MetricFits (take i ms) → IsTriedAt limit out new ms i b → All MetricFits (take (i + 1) ms)
put-fits limit out new ms i m b there done so_far tried =
    let put = was-put limit out new ms i m b there done tried in
    fits-more ms i so_far (subst (λ (o : Option MetricData). IfSome o MetricFits) (sym there) put.fits)

pub put-within : (limit : ℕ) (out new : List ℕ) (ms : List MetricData) (i : ℕ) (m : MetricData) (b : Bool) → slice_get ms i ≡ Some m → b ≡ true
    → IsTriedAt limit out new ms i b → (i + 1 ≡ 0) ⊎ (length new ≤ limit)
put-within limit out new ms i m b there done tried = inr (was-put limit out new ms i m b there done tried).within

within-sum : (limit : ℕ) (old out : List ℕ) (ms : List MetricData) (i : ℕ) → out ≡ old ++ flat_map spelled (take i ms) → (i ≡ 0) ⊎ (length out ≤ limit)
    → (i ≡ 0) ⊎ (length old + length (flat_map spelled (take i ms)) ≤ limit)
within-sum limit old out ms i so_far (inl none) = inl none
within-sum limit old out ms i so_far (inr fits) =
    let size : length out ≡ length (old ++ flat_map spelled (take i ms)) = ap (λ (l : List ℕ). length l) so_far in
    inr (omega (arith, fits, size, length-append old (flat_map spelled (take i ms))))

pub filled-here : (limit most : ℕ) (old out new : List ℕ) (ms : List MetricData) (i : ℕ) (m : MetricData) (b : Bool) → i < most → slice_get ms i ≡ Some m → b ≡ false
    → out ≡ old ++ flat_map spelled (take i ms) → All MetricFits (take i ms) → (i ≡ 0) ⊎ (length out ≤ limit) → IsTriedAt limit out new ms i b
    → IsFilled limit most old new ms i
filled-here limit most old out new ms i m b below there over so_far fits within tried =
    let past = was-past limit out new ms i m b there over tried in
    let size : length out ≡ length (old ++ flat_map spelled (take i ms)) = ap (λ (l : List ℕ). length l) so_far in
    let more = past.past in
    record {
      items = past.items ∙ so_far;
      fits = fits;
      fill = fill-here (length old) limit most i ms m below there (within-sum limit old out ms i so_far within)
          (omega (arith, more, size, length-append old (flat_map spelled (take i ms))));
    }

pub filled-all : (limit most : ℕ) (old out : List ℕ) (ms : List MetricData) (i : ℕ) → most ≤ i → out ≡ old ++ flat_map spelled (take i ms) → All MetricFits (take i ms) → (i ≡ 0) ⊎ (length out ≤ limit)
    → i ≤ most → IsFilled limit most old out ms most
filled-all limit most old out ms i past so_far fits within few =
    let same : i ≡ most = omega (arith, past, few) in
    record {
      items = so_far ∙ ap (λ k. old ++ flat_map spelled (take k ms)) same;
      fits = subst (λ k. All MetricFits (take k ms)) same fits;
      fill = fill-all (length old) limit most most ms refl (subst (λ k. (k ≡ 0) ⊎ (length old + length (flat_map spelled (take k ms)) ≤ limit)) same (within-sum limit old out ms i so_far within));
    }

-- ---- metrics, likewise

pub pushed-total : (size whole total : ℕ) (m : MetricData) → whole ≡ min (length (spelled m)) (2 ^ 64 - 1) → total ≡ min (size + whole) (2 ^ 64 - 1) → total ≡ min (size + length (spelled m)) (2 ^ 64 - 1)
pushed-total size whole total m is sum = omega (arith, is, sum)

was-pushed : (size limit : ℕ) (before after : List MetricData) (ms : List MetricData) (i : ℕ) (m : MetricData) (total : ℕ) → slice_get ms i ≡ Some m
    → IsPushedAt size limit before after ms i total → IsPushed size limit before after m total
was-pushed size limit before after ms i m total there pushed = pushed m there

pub taken-push : (size limit : ℕ) (before after : List MetricData) (ms : List MetricData) (i : ℕ) (m : MetricData) (total : ℕ) → slice_get ms i ≡ Some m → total ≤ limit
    → before ≡ take i ms → IsPushedAt size limit before after ms i total → after ≡ take (i + 1) ms
taken-push size limit before after ms i m total there within so_far pushed =
    (pushed m there).pushed within ∙ ap (λ (l : List MetricData). l ++ m ∷ []) so_far ∙ sym (taken-more i ms m there)

pub size-push : (base size limit : ℕ) (before after : List MetricData) (ms : List MetricData) (i : ℕ) (m : MetricData) (total : ℕ) → slice_get ms i ≡ Some m → limit ≤ 1048576 → total ≤ limit
    → size ≡ base + length (flat_map spelled (take i ms)) → IsPushedAt size limit before after ms i total → total ≡ base + length (flat_map spelled (take (i + 1) ms))
size-push base size limit before after ms i m total there small within so_far pushed =
    let is = (pushed m there).is in
    let more = sum-more ms i m there in
    omega (arith, is, small, within, so_far, more)

within-size : (base size limit i sum : ℕ) → size ≡ base + sum → (i ≡ 0) ⊎ (size ≤ limit) → (i ≡ 0) ⊎ (base + sum ≤ limit)
within-size base size limit i sum is (inl none) = inl none
within-size base size limit i sum is (inr fits) = inr (omega (arith, is, fits))

taken-length : (ms taken : List MetricData) (i : ℕ) → taken ≡ take i ms → i ≤ length ms → length taken ≡ i
taken-length ms taken i is few = ap (λ (l : List MetricData). length l) is ∙ length-take-le i ms few

taken-so : (base limit most : ℕ) (ms taken : List MetricData) (i : ℕ) → taken ≡ take i ms → i ≤ length ms → IsFill base limit most ms i → IsTaken base limit most ms taken
taken-so base limit most ms taken i is few fill =
    let count = taken-length ms taken i is few in
    record { items = is ∙ ap (λ n. take n ms) (sym count); fill = subst (IsFill base limit most ms) (sym count) fill }

pub taken-here : (base size limit most : ℕ) (before after : List MetricData) (ms : List MetricData) (i : ℕ) (m : MetricData) (total : ℕ) → i < most → i < length ms → slice_get ms i ≡ Some m → limit < total
    → before ≡ take i ms → size ≡ base + length (flat_map spelled (take i ms)) → (i ≡ 0) ⊎ (size ≤ limit) → IsPushedAt size limit before after ms i total → IsTaken base limit most ms after
taken-here base size limit most before after ms i m total below there_is there over so_far sum within pushed =
    let one = pushed m there in
    let is = one.is in
    taken-so base limit most ms after i (one.past over ∙ so_far) (omega (arith, there_is))
    (fill-here base limit most i ms m below there (within-size base size limit i (length (flat_map spelled (take i ms))) sum within) (omega (arith, is, over, sum)))

pub taken-all : (base size limit most i : ℕ) (taken : List MetricData) (ms : List MetricData) → most ≤ length ms → i ≡ most → taken ≡ take i ms → size ≡ base + length (flat_map spelled (take i ms)) → (i ≡ 0) ⊎ (size ≤ limit)
    → IsTaken base limit most ms taken
taken-all base size limit most i taken ms few same so_far sum within =
    taken-so base limit most ms taken i so_far (omega (arith, few, same)) (fill-all base limit most i ms same (within-size base size limit i (length (flat_map spelled (take i ms))) sum within))

-- a metric of a kept change that is pushed, by its row
pub pushed-at : (size limit total : ℕ) (before after : List MetricData) (ms : List MetricData) (i : ℕ) (m : MetricData) → slice_get ms i ≡ Some m → IsPushed size limit before after m total → IsPushedAt size limit before after ms i total
pushed-at size limit total before after ms i m there pushed = λ other at.
    let same : m ≡ other = some-same m other (sym there ∙ at) in
    subst (λ x. IsPushed size limit before after x total) same pushed

pub none-pushed : (size limit : ℕ) (before : List MetricData) (ms : List MetricData) (i : ℕ) → slice_get ms i ≡ None → IsPushedAt size limit before before ms i size
none-pushed size limit before ms i none = λ m at. absurd (none-some m (sym none ∙ at))
