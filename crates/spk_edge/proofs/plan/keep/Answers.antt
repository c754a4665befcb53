use Rattle.std.proofs.Common.{◌≡◌, ◌∙◌, ap, sym, min, length}
use Rattle.spk_store.specs.Step.{after_drop}
use Rattle.spk_edge.specs.Patch.{kept_after}
use Rattle.spk_edge.specs.View.{kept_view}
use Rattle.spk_edge.proofs.Lasts.{push-view, drop-view}
use Rattle.spk_edge.proofs.plan.keep.Goals as goal

pub returns-in-Push : goal.returns-in-Push
returns-in-Push c =
    ap kept_view c.push.ensures.data ∙ push-view c.args.store.now c.in-Push.change ∙ ap (kept_after (kept_view c.args.store.now)) (sym c.in-Push.is)

pub returns-in-DropFront : goal.returns-in-DropFront
returns-in-DropFront c =
    let s = c.args.store.now in
    let n = c.in-DropFront.count in
    let size : c.min-count.result ≡ min n (length s.items) = c.min-count.ensures ∙ ap (min n) c.len.ensures in
    ap kept_view c.drop_front.ensures
    ∙ ap (λ k. kept_view (after_drop s k c.in-DropFront.is_lost)) size
    ∙ drop-view s n c.in-DropFront.is_lost
    ∙ ap (kept_after (kept_view s)) (sym c.in-DropFront.is)
