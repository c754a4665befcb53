use Rattle.std.proofs.Common.{not, rules}
use Rattle.std.proofs.lemmas.Fn.{filter_same}
use Rattle.spk_quota.specs.Data.{MessageData}
use Rattle.spk_quota.specs.Step.{is_will_of}
use Rattle.spk_quota.proofs.messages.discard_in.Goals as goal

pub returns : goal.returns
returns c = filter_same _ (λ (f : MessageData). not (is_will_of c.args.conn f)) _ (λ x b f k. search rules) _ _ c.retain.ensures.filtered
