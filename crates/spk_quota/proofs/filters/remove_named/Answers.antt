use Rattle.std.proofs.Common.{◌&&◌, not, rules}
use Rattle.std.proofs.lemmas.Fn.{filter_same}
use Rattle.spk_quota.specs.Data.{FilterData}
use Rattle.spk_quota.specs.Names.{has}
use Rattle.spk_quota.specs.Step.{is_filter}
use Rattle.spk_quota.proofs.filters.remove_named.Goals as goal

pub returns : goal.returns
returns c = filter_same _ (λ (f : FilterData). not (is_filter c.args.user c.args.client.now f && has c.args.names.now f.filter)) _ (λ x b f k. search rules) _ _ c.retain.ensures.filtered
