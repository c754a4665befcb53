use Rattle.std.proofs.Common.{◌∙◌, ◌++◌, ◌||◌, ◌∷◌, [], ap, sym}
use Rattle.std.specs.List.{list_any}
use Rattle.spk_quota.specs.Names.{has}
use Rattle.spk_quota.specs.Step.{is_it}
use Rattle.spk_quota.proofs.Naming.{known-more}
use Rattle.spk_quota.proofs.filters.add.Goals as goal

pub returns-clause-known : goal.returns-clause-known
returns-clause-known c name =
    ap (λ b. has c.args.own.now name || b) (c.in_ok-note.ensures name)
    ∙ known-more c.args.user c.args.client.now c.args.text.now name c.args.filters.now c.args.more.now.items (has c.args.own.now name) (has c.args.named.now name) (c.requires name)
    ∙ ap (λ fs. list_any (is_it c.args.user c.args.client.now name) (c.args.filters.now ++ fs))
    (sym (c.in_ok-push.ensures.items ∙ ap (λ f. c.args.more.now.items ++ f ∷ []) c.in_ok-new.ensures))
