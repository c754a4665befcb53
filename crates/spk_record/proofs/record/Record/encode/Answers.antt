use Rattle.std.proofs.Common.{◌≡◌, ◌<◌, ◌^◌, ap, ◌∙◌, Some, arith}
use Rattle.std.proofs.lemmas.Str.{IsUtf8-string_bytes}
use Rattle.serde_json.specs.View.{view}
use Rattle.serde_json.specs.Data.{depth}
use Rattle.serde_json.specs.Written.{compact_text, has_float}
use Rattle.spk_record.proofs.Spelled.{written, means_data}
use Rattle.spk_record.proofs.record.Record.encode.Goals as goal

pub returns-clause-text : goal.returns-clause-text
returns-clause-text c =
    c.in_ok-to_string.ensures.text (ap has_float c.in_ok-value.ensures.says) ∙ ap compact_text c.in_ok-value.ensures.says ∙ written c.args.self.now

pub returns-clause-read_back : goal.returns-clause-read_back
returns-clause-read_back c =
    let below : c.args.self.now.stamp < 2 ^ 63 = omega arith in
    let flat : depth (view c.in_ok-value.field-0) ≡ 1 = ap depth c.in_ok-value.ensures.says in
    means_data _ c.args.self.now (IsUtf8-string_bytes c.in_ok-to_string.field-0)
    (c.in_ok-to_string.ensures.reads_back (omega arith) ∙ ap Some c.in_ok-value.ensures.says) c.value.ensures.byte below
