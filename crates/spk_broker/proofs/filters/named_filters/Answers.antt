use Rattle.std.proofs.Common.{◌∙◌, ap, cond, bytes_eq, Some, None, string_bytes, String, Global}
use Rattle.spk_broker.specs.Tables.{found}
use Rattle.spk_broker.proofs.Requested.{named-more}
use Rattle.spk_broker.proofs.filters.named_filters.Goals as goal

pub loop-name-preserved : goal.loop-name-preserved
loop-name-preserved c =
    named-more (λ (n : String Global). string_bytes n) (found c.loop-name.table) (found c.note.new.self) c.args.names.now c.loop-name.name-index c.name-item.result c.loop-name-test.true
    (λ q. c.in_ok-note.ensures q ∙ ap (λ n. cond (bytes_eq n q) (Some None) (found c.loop-name.table q)) (c.as_str.ensures.value ∙ ap (λ (n : String Global). string_bytes n) c.name-item.is))
    c.loop-name.invariant
