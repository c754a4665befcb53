use Rattle.std.proofs.Common.{◌∙◌, ap}
use Rattle.std.specs.Hash.FoldHasher.{finish, initial, write}
use Rattle.spk_view.specs.Keyed.{key_of_name}
use Rattle.spk_view.proofs.keys.key_of_name.Goals as goal

pub returns : goal.returns
unfolding key_of_name
returns c =
    c.finish.ensures
    ∙ ap finish (c.write.ensures ∙ ap (λ h. write h c.as_bytes.result.now) c.default-hasher.ensures ∙ ap (write initial) c.as_bytes.ensures.value)
