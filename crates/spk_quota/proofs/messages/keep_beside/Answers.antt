use Rattle.std.proofs.Common.{rules}
use Rattle.std.proofs.lemmas.Fn.{filter_same}
use Rattle.spk_quota.specs.Data.{MessageData}
use Rattle.spk_quota.specs.Step.{stays_beside}
use Rattle.spk_quota.proofs.messages.keep_beside.Goals as goal

pub returns-clause-items : goal.returns-clause-items
returns-clause-items c = filter_same _ (λ (f : MessageData). stays_beside c.args.conn c.args.will.now f) _ (λ x b f k. search rules) _ _ c.retain.ensures.filtered
