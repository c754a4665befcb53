use Rattle.std.proofs.Common.{◌∙◌, sym, ap}
use Rattle.std.specs.List.{list_any}
use Rattle.std.specs.String.{string_bytes}
use Rattle.spk_topics.specs.Fitting.{is_match}
use Rattle.spk_access.specs.Rights.{some_matches, texts_view}
use Rattle.spk_access.proofs.Lists.{any_mapped}
use Rattle.spk_access.proofs.rights.some_matches.Goals as goal

pub returns-in-Some : goal.returns-in-Some
returns-in-Some c =
    c.any_matches.ensures ∙ ap (list_any (λ f. is_match (string_bytes f) c.args.topic.now)) c.deref.ensures.value
    ∙ any_mapped (λ f. is_match f c.args.topic.now) string_bytes c.in-Some.filters.items ∙ sym (ap (λ o. some_matches (texts_view o) c.args.topic.now) c.in-Some.is)
