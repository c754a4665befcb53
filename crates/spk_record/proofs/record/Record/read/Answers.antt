use Rattle.std.proofs.Common.{◌≡◌, ◌∙◌, sym, ap, refl, inr}
use Rattle.serde_json.specs.Read.{read}
use Rattle.spk_record.proofs.Meanings.{not_text, text_at, judged}
use Rattle.spk_record.proofs.record.Record.read.Goals as goal

pub returns-in-Err-clause-bad : goal.returns-in-Err-clause-bad
returns-in-Err-clause-bad c = inr (refl, not_text c.args.bytes.now c.in-Err.ensures.cases.0)

pub returns-in-Ok-from_str-clause-ok : goal.returns-in-Ok-from_str-clause-ok
returns-in-Ok-from_str-clause-ok c =
    let bytes : c.in-Ok.text.now ≡ c.args.bytes.now = c.in-Ok.ensures.cases.0 in
    judged _ c.of.result c.ok_or.result
    (text_at c.args.bytes.now _ c.in-Ok.ensures.cases.1 (ap read (sym bytes) ∙ c.in-Ok-from_str.ensures.ok) ∙ sym c.of.ensures) c.ok_or.ensures.value
