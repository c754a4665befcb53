use Rattle.std.proofs.Common.{◌≡◌, ◌<◌, ap, inl, inr, length, map, arith, refl}
use Rattle.std.proofs.lemmas.List.{length-map}
use Rattle.spk_payload.specs.View.{metric_view}
use Rattle.spk_edge_rules.specs.Births.{kept_metric}
use Rattle.spk_edge.specs.History.{all_kept}
use Rattle.spk_edge.proofs.Fronts.{at-place}
use Rattle.spk_edge.proofs.Filled.{size-push, taken-all, taken-here, taken-push}
use Rattle.spk_edge.proofs.node.EdgeNode.kept_metrics.Goals as goal

pub loop-place-init : goal.loop-place-init
loop-place-init c = record { taken = ap (map metric_view) c.in_ok-metrics.ensures.items; size = omega arith; few = omega arith; within = inl refl }

pub loop-place-preserved : goal.loop-place-preserved
loop-place-preserved c =
    let a = c.args.self.now.standing.asked in
    let ms = all_kept a in
    let size : length ms ≡ length a.store.items = length-map a.store.items (kept_metric a.book) in
    let below : c.loop-place.place < length ms = (let few = c.requires.few in let here = c.loop-place-test.true in omega (arith, size, few, here)) in
    let at = at-place ms c.loop-place.place below in
    record {
      taken = taken-push c.loop-place.size c.args.limit (map metric_view c.loop-place.metrics.items) (map metric_view c.push_kept.new.metrics.items) ms c.loop-place.place at.0 c.in_ok-size.size at.1
          c.if-size-limit.false c.loop-place.invariant.taken c.in_ok-size.ensures;
      size = size-push c.args.base c.loop-place.size c.args.limit (map metric_view c.loop-place.metrics.items) (map metric_view c.push_kept.new.metrics.items) ms c.loop-place.place at.0 c.in_ok-size.size at.1
          c.requires.small c.if-size-limit.false c.loop-place.invariant.size c.in_ok-size.ensures;
      few = (let here = c.loop-place-test.true in omega (arith, here));
      within = inr c.if-size-limit.false;
    }

pub returns-then-size-limit : goal.returns-then-size-limit
returns-then-size-limit c =
    let a = c.args.self.now.standing.asked in
    let ms = all_kept a in
    let size : length ms ≡ length a.store.items = length-map a.store.items (kept_metric a.book) in
    let below : c.loop-place.place < length ms = (let few = c.requires.few in let here = c.loop-place-test.true in omega (arith, size, few, here)) in
    let at = at-place ms c.loop-place.place below in
    taken-here c.args.base c.loop-place.size c.args.limit c.args.most (map metric_view c.loop-place.metrics.items) (map metric_view c.push_kept.new.metrics.items) ms c.loop-place.place at.0 c.in_ok-size.size
    c.loop-place-test.true below at.1 c.if-size-limit.true c.loop-place.invariant.taken c.loop-place.invariant.size c.loop-place.invariant.within c.in_ok-size.ensures

pub returns : goal.returns
returns c =
    let a = c.args.self.now.standing.asked in
    let ms = all_kept a in
    let size : length ms ≡ length a.store.items = length-map a.store.items (kept_metric a.book) in
    let same : c.loop-place.place ≡ c.args.most = (let past = c.loop-place-test.false in let few = c.loop-place.invariant.few in omega (arith, past, few)) in
    taken-all c.args.base c.loop-place.size c.args.limit c.args.most c.loop-place.place (map metric_view c.loop-place.metrics.items) ms (let few = c.requires.few in omega (arith, size, few)) same c.loop-place.invariant.taken
    c.loop-place.invariant.size c.loop-place.invariant.within
