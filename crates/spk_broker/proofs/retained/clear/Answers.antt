use Rattle.std.proofs.Common.{◌∙◌, ap, map, rules}
use Rattle.spk_broker.specs.Parts.{retained_view}
use Rattle.indexmap.proofs.CallerLemmas.{filter-RetainsPairs}
use Rattle.spk_broker.proofs.Retaining.{is_other, taken-out}
use Rattle.spk_broker.proofs.retained.clear.Goals as goal

pub returns-clause-table : goal.returns-clause-table
returns-clause-table c =
    ap (map retained_view) (filter-RetainsPairs _ (is_other c.args.topic.now) _ (λ k v b w g h. search rules) _ _ c.retain.ensures.filtered)
    ∙ taken-out c.args.topic.now c.args.retained.now.entries
