use Rattle.std.proofs.Common.{◌≡◌, ◌∙◌, ◌<◌, ◌^◌, ℕ, List, ap, sym, subst, arith, not}
use Rattle.std.specs.List.{sum_by}
use Rattle.spk_quota.specs.Data.{MessageData}
use Rattle.spk_quota.specs.Figures.{bytes_beside}
use Rattle.spk_quota.specs.Held.{bytes_for}
use Rattle.spk_quota.specs.Step.{is_retained}
use Rattle.spk_quota.proofs.Lists.{filter-less, filter-sum}
use Rattle.spk_quota.proofs.messages.Messages.bytes_others.Goals as goal

beside : (user : ℕ) (topic : List ℕ) (xs ys : List MessageData) → ys ≡ xs → sum_by (bytes_for user) xs < 2 ^ 64 → sum_by (bytes_beside user topic) ys < 2 ^ 64
beside user topic xs ys is low =
    let less = filter-less (λ m. not (is_retained user topic m)) (bytes_for user) xs in
    let all = filter-sum (λ m. not (is_retained user topic m)) (bytes_for user) xs in
    let P : List MessageData → Type 0 = λ zs. sum_by (bytes_beside user topic) zs < 2 ^ 64 in
    subst P (sym is) (omega (arith, less, all, low))

pub bytes_in_others-requires : goal.bytes_in_others-requires
bytes_in_others-requires c = beside c.args.user c.args.topic.now c.self.inside.list.items c.deref.result.now c.deref.ensures.value (c.self.invariant c.args.user)

pub returns : goal.returns
returns c =
    c.bytes_in_others.ensures
    ∙ ap (sum_by (bytes_beside c.args.user c.args.topic.now)) (c.deref.ensures.value ∙ c.self.view_is)
    ∙ sym (filter-sum (λ m. not (is_retained c.args.user c.args.topic.now m)) (bytes_for c.args.user) c.args.self.now)
