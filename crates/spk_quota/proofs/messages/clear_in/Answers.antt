use Rattle.std.proofs.Common.{not, rules}
use Rattle.std.proofs.lemmas.Fn.{filter_same}
use Rattle.spk_quota.specs.Data.{MessageData}
use Rattle.spk_quota.specs.Step.{is_retained_on}
use Rattle.spk_quota.proofs.messages.clear_in.Goals as goal

pub returns : goal.returns
returns c = filter_same _ (λ (f : MessageData). not (is_retained_on c.args.topic.now f)) _ (λ x b f k. search rules) _ _ c.retain.ensures.filtered
