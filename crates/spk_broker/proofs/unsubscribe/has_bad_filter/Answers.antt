use Rattle.std.proofs.Common.{◌∙◌, sym, refl, is_some, string_bytes, String, Global}
use Rattle.spk_topics.specs.Text.{filter_refusal}
use Rattle.spk_broker_rules.proofs.Lists.{any-map}
use Rattle.spk_broker.proofs.unsubscribe.has_bad_filter.Goals as goal

pub returns : goal.returns
returns c = c.has_one_bad.ensures
    ∙ sym (any-map (λ (name : String Global). string_bytes name) (λ name. is_some (filter_refusal name)) (λ (name : String Global). is_some (filter_refusal (string_bytes name))) (λ name. refl) c.args.names.now)
