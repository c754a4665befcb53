use Rattle.std.proofs.Common.{◌≡◌, ◌∙◌, ◌++◌, ap, sym, subst, List, length, arith}
use Rattle.std.specs.Prelude.{All}
use Rattle.std.specs.List.{flat_map}
use Rattle.std.proofs.lemmas.List.{append-nil}
use Rattle.std.proofs.lemmas.List.Elements.{All-nil}
use Rattle.spk_payload.specs.Meaning.{MetricData}
use Rattle.spk_payload.specs.Spelling.{MetricFits}
use Rattle.spk_device.specs.Book.{owned}
use Rattle.spk_edge_rules.specs.Births.{own_metrics}
use Rattle.spk_edge.specs.Rows.{spelled}
use Rattle.spk_edge.specs.View.{NodeData}
use Rattle.spk_edge.proofs.Born.{all-taken}
use Rattle.spk_edge.proofs.Rows.{fits-more, row-more}
use Rattle.spk_edge.proofs.node.EdgeNode.put_owned.Goals as goal

pub loop-place-init : goal.loop-place-init
loop-place-init c = record { appended = sym (append-nil c.args.out.now.items); fit = All-nil MetricFits }

pub loop-place-preserved : goal.loop-place-preserved
loop-place-preserved c =
    let ms = own_metrics c.args.self.now.standing.asked.book c.args.stamp c.args.owner in
    record {
      appended = row-more c.args.out.now.items c.loop-place.out.items c.put_own.new.out.items ms c.loop-place.place c.loop-place.invariant.appended c.in_ok-put_own.ensures.ok;
      fit = fits-more ms c.loop-place.place c.loop-place.invariant.fit c.in_ok-put_own.ensures.fits;
    }

pub returns-clause-ok : goal.returns-clause-ok
returns-clause-ok c =
    let b = c.args.self.now.standing.asked.book in
    let size : length (owned c.args.owner b.gauges) ≡ length (owned c.args.owner c.self.inside.registry.gauges) =
    ap (λ (n : NodeData). length (owned c.args.owner n.standing.asked.book.gauges)) (sym c.self.view_is) in
    let count = c.owned_count-count.ensures in
    let past = c.loop-place-test.false in
    c.loop-place.invariant.appended
    ∙ ap (λ (ms : List MetricData). c.args.out.now.items ++ flat_map spelled ms) (all-taken b c.args.stamp c.args.owner c.loop-place.place (omega (arith, size, count, past)))

pub returns-clause-fits : goal.returns-clause-fits
returns-clause-fits c =
    let b = c.args.self.now.standing.asked.book in
    let size : length (owned c.args.owner b.gauges) ≡ length (owned c.args.owner c.self.inside.registry.gauges) =
    ap (λ (n : NodeData). length (owned c.args.owner n.standing.asked.book.gauges)) (sym c.self.view_is) in
    let count = c.owned_count-count.ensures in
    let past = c.loop-place-test.false in
    subst (All MetricFits) (all-taken b c.args.stamp c.args.owner c.loop-place.place (omega (arith, size, count, past))) c.loop-place.invariant.fit
