use Rattle.std.proofs.Common.{◌≡◌, ◌++◌, ◌+◌, ◌<◌, ◌≤◌, ◌^◌, ℕ, List, drop, length, refl, sym, ap, ◌∙◌, subst, arith}
use Rattle.spk_frames.specs.File.{AreTaken, Walk}
use Rattle.spk_frames.specs.Frame.{framed}
use Rattle.spk_frames.proofs.Lengths.{length-framed}
use Rattle.spk_frames.proofs.Whole.{none_at_end, none_torn, over, step, walk, within}
use Rattle.spk_frames.proofs.contents.Contents.next.Goals as goal

-- the frame that stands at the front, where the walk is seen from inside
inside : (w v : Walk) (frame_bytes rest : List ℕ) → w ≡ v → drop v.whole v.bytes ≡ frame_bytes ++ rest → drop w.whole w.bytes ≡ frame_bytes ++ rest
inside w v frame_bytes rest e here = ap (λ (x : Walk). drop x.whole x.bytes) e ∙ here

-- the frame lies within the bytes
reach : (w v : Walk) (content rest : List ℕ) → w ≡ v → w.whole ≤ length w.bytes → drop v.whole v.bytes ≡ framed content ++ rest → w.whole + (length content + 8) ≤ length w.bytes
reach w v content rest e low here = within w.bytes (framed content) rest w.whole (length content + 8) low (inside w v (framed content) rest e here) (sym (length-framed content))

pub overflow_add-self : goal.overflow_add-self
overflow_add-self c =
    let w = walk c.self.inside.bytes.now c.self.inside.whole c.self.inside.most in
    let far = reach w c.args.self.now c.in-Content.content.now c.in-Content.ensures.1.0 c.self.view_is c.self.invariant c.in-Content.ensures.1.1 in
    let told = c.self.told.0 in
    omega (arith, far, told)

pub invariant_of-self : goal.invariant_of-self
invariant_of-self c =
    let w = walk c.self.inside.bytes.now c.self.inside.whole c.self.inside.most in
    reach w c.args.self.now c.in-Content.content.now c.in-Content.ensures.1.0 c.self.view_is c.self.invariant c.in-Content.ensures.1.1

pub returns-in-Content-clause-taken : goal.returns-in-Content-clause-taken
returns-in-Content-clause-taken c =
    let content = c.in-Content.content.now in
    let rest = c.in-Content.ensures.1.0 in
    let w = walk c.self.inside.bytes.now c.self.inside.whole c.self.inside.most in
    let here = inside w c.args.self.now (framed content) rest c.self.view_is c.in-Content.ensures.1.1 in
    let small : length content ≤ w.most = subst (λ (x : Walk). length content ≤ x.most) (sym c.self.view_is) c.in-Content.ensures.0 in
    λ contents taken. step w.bytes rest w.whole (length content + 8) w.most content small here (sym (length-framed content)) contents (subst (λ x. AreTaken x contents) (sym c.self.view_is) taken)

pub returns-in-End-clause-over : goal.returns-in-End-clause-over
returns-in-End-clause-over c =
    let w = c.args.self.now in
    (refl, over w.bytes w.whole w.most (none_at_end w.most (drop w.whole w.bytes) c.in-End.ensures))

pub returns-in-Torn-clause-over : goal.returns-in-Torn-clause-over
returns-in-Torn-clause-over c =
    let w = c.args.self.now in
    let narrow : c.self.inside.most < 2 ^ 32 = omega (arith, c.self.ranges, c.self.told) in
    (refl, over w.bytes w.whole w.most (none_torn w.most (subst (λ (x : Walk). x.most < 2 ^ 32) c.self.view_is narrow) (drop w.whole w.bytes) c.in-Torn.ensures))
