use Rattle.std.proofs.Common.{refl, sym, [], set, ◌∙◌, arith}
use Rattle.std.proofs.lemmas.List.{length-set, take_all}
use Rattle.spk_protobuf.proofs.Shortest.{put-init, set-more, set-last, set-tenth, appended}
use Rattle.spk_protobuf.proofs.writing.put_groups.Goals as goal

pub loop-i-init : goal.loop-i-init
loop-i-init c = record { same = refl; size = refl; put = put-init [] c.args.number c.ranges.number.fits }

pub loop-i-preserved : goal.loop-i-preserved
loop-i-preserved c =
    let more = set-more c.loop-i.groups c.loop-i.i c.loop-i.rest c.args.number c.loop-i-test.true c.if-rest-lt128.false c.loop-i.invariant.size c.loop-i.invariant.put in
    rw c.followed.ensures (record { same = c.loop-i.invariant.same; size = more.size; put = more.put })

pub returns-then-rest-lt128-clause-ok : goal.returns-then-rest-lt128-clause-ok
returns-then-rest-lt128-clause-ok c =
    let text = set-last c.loop-i.groups c.loop-i.i c.loop-i.rest c.args.number c.loop-i-test.true c.if-rest-lt128.true c.loop-i.invariant.size c.loop-i.invariant.put in
    rw (sym c.loop-i.invariant.same) (appended c.extend_from_slice.result c.loop-i.out.items c.extend_from_slice.new.self.items _ c.args.number (sym text) c.extend_from_slice.ensures.items)

pub returns-clause-ok : goal.returns-clause-ok
returns-clause-ok c =
    let size = length-set c.loop-i.groups 9 c.loop-i.rest ∙ c.loop-i.invariant.size in
    let all = take_all 10 (set c.loop-i.groups 9 c.loop-i.rest) (omega (arith, size)) in
    let text = sym all ∙ set-tenth c.loop-i.groups c.loop-i.i c.loop-i.rest c.args.number c.loop-i.auto.i-end c.loop-i-test.false c.loop-i.invariant.size c.loop-i.invariant.put in
    rw (sym c.loop-i.invariant.same) (appended c.extend_from_slice-2.result c.loop-i.out.items c.extend_from_slice-2.new.self.items _ c.args.number (sym text) c.extend_from_slice-2.ensures.items)
