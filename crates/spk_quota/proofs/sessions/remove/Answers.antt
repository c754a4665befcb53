use Rattle.std.proofs.Common.{not, rules}
use Rattle.std.proofs.lemmas.Fn.{filter_same}
use Rattle.spk_quota.specs.Data.{SessionData}
use Rattle.spk_quota.specs.Step.{is_session}
use Rattle.spk_quota.proofs.sessions.remove.Goals as goal

pub returns-clause-items : goal.returns-clause-items
returns-clause-items c = filter_same _ (λ (f : SessionData). not (is_session c.args.user c.args.client.now f)) _ (λ x b f k. search rules) _ _ c.retain.ensures.filtered
