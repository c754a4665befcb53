use Rattle.std.proofs.Common.{◌≡◌, ◌^◌, ◌<◌, inl, length, take, sym, ap, ◌∙◌, subst, arith}
use Rattle.spk_frames.specs.Frame.{IsFramed}
use Rattle.spk_frames.specs.Sum.{crc32}
use Rattle.spk_frames.proofs.Fronts.{above_zero, cut_off, found, spoiled, too_long}
use Rattle.spk_frames.proofs.Numbers.{IsBytes, IsBytes-drop, four_none, four_takes}
use Rattle.spk_frames.proofs.framing.frame.Goals as goal

pub returns-in_default : goal.returns-in_default
returns-in_default c = (
  above_zero (length c.args.bytes.now) (sym c.is_empty.ensures ∙ c.if-is_empty.false),
  inl (four_none c.args.bytes.now c.in_default.ensures),
)

pub returns-then-len-most : goal.returns-then-len-most
returns-then-len-most c =
    let s = four_takes c.args.bytes.now c.in-Some.len c.in-Some.rest.now (λ i. omega (arith, c.type_inv.bytes i)) c.in-Some.ensures in
    too_long c.args.most (omega (arith, c.ranges.most.fits)) c.args.bytes.now c.in-Some.rest.now c.in-Some.len s.small s.are (omega arith)

pub returns-then-rest-len : goal.returns-then-rest-len
returns-then-rest-len c =
    let s = four_takes c.args.bytes.now c.in-Some.len c.in-Some.rest.now (λ i. omega (arith, c.type_inv.bytes i)) c.in-Some.ensures in
    cut_off c.args.most (omega (arith, c.ranges.most.fits)) c.args.bytes.now c.in-Some.rest.now c.in-Some.len s.small s.are (omega arith) (omega arith)

pub unreachable-requires : goal.unreachable-requires
unreachable-requires c =
    let few = four_none c.split_at.result.1.now c.in_default-four.ensures in
    omega (arith, c.split_at.ensures.back_len)

pub returns-then-sum-crc32 : goal.returns-then-sum-crc32
returns-then-sum-crc32 c =
    let bytes = c.args.bytes.now in
    let rest = c.in-Some.rest.now in
    let n = c.in-Some.len in
    let split = c.split_at.ensures in
    let s = four_takes bytes n rest (λ i. omega (arith, c.type_inv.bytes i)) c.in-Some.ensures in
    let behind_fits : IsBytes c.split_at.result.1.now = subst IsBytes (sym split.back) (IsBytes-drop n rest s.fits) in
    let t = four_takes c.split_at.result.1.now c.in-Some-four.sum c.in-Some-four.field-0-1.now behind_fits c.in-Some-four.ensures in
    let is : c.in-Some-four.sum ≡ crc32 (take n rest) = c.if-sum-crc32.true ∙ c.crc32.ensures ∙ ap crc32 split.front in
    let len : length (take n rest) ≡ n = ap length (sym split.front) ∙ split.front_len in
    subst (IsFramed c.args.most bytes) (sym split.front)
    (found c.args.most (omega (arith, c.ranges.most.fits)) bytes rest n s.small s.are c.in-Some-four.sum c.in-Some-four.field-0-1.now (omega arith) (omega arith) (sym split.back ∙ t.are) is len)

pub returns-else-sum-crc32 : goal.returns-else-sum-crc32
returns-else-sum-crc32 c =
    let bytes = c.args.bytes.now in
    let rest = c.in-Some.rest.now in
    let n = c.in-Some.len in
    let split = c.split_at.ensures in
    let s = four_takes bytes n rest (λ i. omega (arith, c.type_inv.bytes i)) c.in-Some.ensures in
    let behind_fits : IsBytes c.split_at.result.1.now = subst IsBytes (sym split.back) (IsBytes-drop n rest s.fits) in
    let t = four_takes c.split_at.result.1.now c.in-Some-four.sum c.in-Some-four.field-0-1.now behind_fits c.in-Some-four.ensures in
    let sum_is : c.crc32.result ≡ crc32 (take n rest) = c.crc32.ensures ∙ ap crc32 split.front in
    let crc_fits : crc32 (take n rest) < 2 ^ 32 = subst (λ k. k < 2 ^ 32) sum_is c.crc32.type_inv in
    spoiled c.args.most (omega (arith, c.ranges.most.fits)) bytes rest n s.small s.are c.in-Some-four.sum c.in-Some-four.field-0-1.now (omega arith) (sym split.back ∙ t.are) t.small crc_fits
    (λ is. c.if-sum-crc32.false (is ∙ sym sum_is))
