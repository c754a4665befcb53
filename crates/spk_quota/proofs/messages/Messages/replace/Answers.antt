use Rattle.std.proofs.Common.{◌+◌, ◌<◌, ◌^◌, ◌∙◌, List, [], ◌∷◌, ◌++◌, ap, sym, subst, not}
use Rattle.std.specs.List.{filter, sum_by}
use Rattle.spk_quota.specs.Data.{MessageData}
use Rattle.spk_quota.specs.Held.{bytes_for}
use Rattle.spk_quota.specs.Step.{is_retained}
use Rattle.spk_quota.proofs.Bounds.{replaced}
use Rattle.spk_quota.proofs.messages.Messages.replace.Goals as goal

pub invariant_of-self-2 : goal.invariant_of-self-2
invariant_of-self-2 c =
    let user = c.args.user in
    let others : MessageData → _ = λ m. not (is_retained user c.args.topic.now m) in
    let m = c.args.message in
    let P : List MessageData → Type 0 = λ xs. sum_by (bytes_for user) (filter others xs) + m.bytes < 2 ^ 64 in
    replaced others c.self.inside.list.items c.replace_in.new.list.items m user
    (c.replace_in.ensures ∙ ap (λ xs. filter others xs ++ m ∷ []) c.reserve.ensures.items)
    c.requires.whose (subst P (sym c.self.view_is) c.requires.fit) c.self.invariant
