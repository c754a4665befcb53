use Rattle.std.proofs.Common.{◌∙◌, ap, map}
use Rattle.spk_broker.specs.Parts.{retained_view}
use Rattle.spk_broker.proofs.Retaining.{from-ok, put-in}
use Rattle.spk_broker.proofs.retained.replace.Goals as goal

pub returns-clause-table : goal.returns-clause-table
returns-clause-table c =
    ap (map retained_view) (from-ok c.insert.result _ (c.insert.ensures.succeeds c.requires) c.insert.ensures.entries)
    ∙ put-in c.args.topic c.args.stored c.args.retained.now.entries c.len.ensures.unique
