use Rattle.std.proofs.Common.{◌∙◌, sym, ap}
use Rattle.std.specs.List.{list_any}
use Rattle.std.specs.String.{string_bytes}
use Rattle.spk_access.specs.Covering.{covers}
use Rattle.spk_access.specs.Rights.{some_covers, texts_view}
use Rattle.spk_access.proofs.Lists.{any_mapped}
use Rattle.spk_access.proofs.rights.some_covers.Goals as goal

pub returns-in-Some : goal.returns-in-Some
returns-in-Some c =
    c.any_covers.ensures ∙ ap (list_any (λ f. covers (string_bytes f) c.args.filter.now)) c.deref.ensures.value
    ∙ any_mapped (λ f. covers f c.args.filter.now) string_bytes c.in-Some.filters.items ∙ sym (ap (λ o. some_covers (texts_view o) c.args.filter.now) c.in-Some.is)
