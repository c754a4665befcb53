use Rattle.std.proofs.Common.{◌≡◌, ◌<◌, sym, inl, length, arith, refl}
use Rattle.std.proofs.lemmas.List.{append-nil, length-map}
use Rattle.std.proofs.lemmas.List.Elements.{All-nil}
use Rattle.spk_payload.specs.Spelling.{MetricFits}
use Rattle.spk_edge_rules.specs.Births.{kept_metric}
use Rattle.spk_edge.specs.History.{all_kept}
use Rattle.spk_edge.proofs.Fronts.{at-place}
use Rattle.spk_edge.proofs.Filled.{filled-all, filled-here, put-fits, put-more, put-within}
use Rattle.spk_edge.proofs.node.EdgeNode.put_first.Goals as goal

pub loop-place-init : goal.loop-place-init
loop-place-init c = record { appended = sym (append-nil c.args.out.now.items); fit = All-nil MetricFits; few = omega arith; within = inl refl }

pub loop-place-preserved : goal.loop-place-preserved
loop-place-preserved c =
    let a = c.args.self.now.standing.asked in
    let ms = all_kept a in
    let size : length ms ≡ length a.store.items = length-map a.store.items (kept_metric a.book) in
    let below : c.loop-place.place < length ms = (let few = c.requires.few in let here = c.loop-place-test.true in omega (arith, size, few, here)) in
    let at = at-place ms c.loop-place.place below in
    let done = c.if-not-branch.false in
    record {
      appended = put-more c.args.limit c.args.out.now.items c.loop-place.out.items c.put_kept.new.out.items ms c.loop-place.place at.0 c.in_ok-put_kept.field-0 at.1 done c.loop-place.invariant.appended c.in_ok-put_kept.ensures;
      fit = put-fits c.args.limit c.loop-place.out.items c.put_kept.new.out.items ms c.loop-place.place at.0 c.in_ok-put_kept.field-0 at.1 done c.loop-place.invariant.fit c.in_ok-put_kept.ensures;
      few = (let here = c.loop-place-test.true in omega (arith, here));
      within = put-within c.args.limit c.loop-place.out.items c.put_kept.new.out.items ms c.loop-place.place at.0 c.in_ok-put_kept.field-0 at.1 done c.in_ok-put_kept.ensures;
    }

pub returns-then-not-branch : goal.returns-then-not-branch
returns-then-not-branch c =
    let a = c.args.self.now.standing.asked in
    let ms = all_kept a in
    let size : length ms ≡ length a.store.items = length-map a.store.items (kept_metric a.book) in
    let below : c.loop-place.place < length ms = (let few = c.requires.few in let here = c.loop-place-test.true in omega (arith, size, few, here)) in
    let at = at-place ms c.loop-place.place below in
    filled-here c.args.limit c.args.most c.args.out.now.items c.loop-place.out.items c.put_kept.new.out.items ms c.loop-place.place at.0 c.in_ok-put_kept.field-0 c.loop-place-test.true at.1
    c.if-not-branch.true c.loop-place.invariant.appended c.loop-place.invariant.fit c.loop-place.invariant.within c.in_ok-put_kept.ensures

pub returns : goal.returns
returns c =
    filled-all c.args.limit c.args.most c.args.out.now.items c.loop-place.out.items (all_kept c.args.self.now.standing.asked) c.loop-place.place c.loop-place-test.false c.loop-place.invariant.appended
    c.loop-place.invariant.fit c.loop-place.invariant.within c.loop-place.invariant.few
