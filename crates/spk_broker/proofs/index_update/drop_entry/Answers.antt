use Rattle.std.proofs.Common.{◌∙◌, ap, sym, string_bytes}
use Rattle.spk_topics.specs.Text.{filter_refusal}
use Rattle.spk_broker.proofs.Filtering.{never-refused}
use Rattle.spk_broker.proofs.index_update.drop_entry.Goals as goal

pub unreachable-requires : goal.unreachable-requires
unreachable-requires c =
    never-refused (string_bytes c.args.grant.now.filter) c.in_default.field-0 c.args.grant.now.read (ap filter_refusal (sym c.as_str-2.ensures.value) ∙ c.in_default.ensures)
