use Rattle.std.proofs.Common.{◌∙◌, ◌++◌, ap, sym, subst, List, ℕ, Option, take}
use Rattle.std.specs.Prelude.{All}
use Rattle.std.specs.List.{flat_map}
use Rattle.std.proofs.lemmas.List.{append-nil}
use Rattle.std.proofs.lemmas.List.Elements.{All-nil}
use Rattle.spk_payload.specs.Spelling.{MetricFits}
use Rattle.spk_payload.specs.Typing.{Typed}
use Rattle.spk_edge.specs.Rows.{spelled}
use Rattle.spk_edge.specs.Several.{pair_view, pairs, rows}
use Rattle.spk_edge.proofs.Sets.{fit-more, pairs-all, pairs-more, put-more}
use Rattle.spk_edge.proofs.node.EdgeNode.put_changes.Goals as goal

pub loop-change-init : goal.loop-change-init
loop-change-init c = record { appended = sym (append-nil c.args.out.now.items); fit = All-nil MetricFits }

pub loop-change-preserved : goal.loop-change-preserved
loop-change-preserved c =
    let b = c.args.self.now.standing.asked.book in
    let i = c.loop-change.change-index in
    let x = c.change-item.result in
    let more = pairs-more c.args.changes.now i x c.loop-change-test.true c.change-item.is in
    record {
      appended = put-more b c.args.stamp c.args.out.now.items c.loop-change.out.items c.put_change.new.out.items _ (pairs (take i c.args.changes.now)) (pair_view x) more c.loop-change.invariant.appended c.in_ok-put_change.ensures.ok;
      fit = fit-more b c.args.stamp _ (pairs (take i c.args.changes.now)) (pair_view x) more c.loop-change.invariant.fit c.in_ok-put_change.ensures.fits;
    }

pub returns-clause-ok : goal.returns-clause-ok
returns-clause-ok c =
    c.loop-change.invariant.appended
    ∙ ap (λ (xs : List (ℕ × Option Typed)). c.args.out.now.items ++ flat_map spelled (rows c.args.self.now.standing.asked.book c.args.stamp xs)) (pairs-all c.args.changes.now c.loop-change.change-index c.loop-change-test.false)

pub returns-clause-fits : goal.returns-clause-fits
returns-clause-fits c =
    subst (λ (xs : List (ℕ × Option Typed)). All MetricFits (rows c.args.self.now.standing.asked.book c.args.stamp xs)) (pairs-all c.args.changes.now c.loop-change.change-index c.loop-change-test.false) c.loop-change.invariant.fit
