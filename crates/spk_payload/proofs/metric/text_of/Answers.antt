use Rattle.std.proofs.Common.{sym, ◌∙◌, ap}
use Rattle.spk_payload.proofs.Texts.{done, text_at-text, text_at-other}
use Rattle.spk_payload.proofs.metric.text_of.Goals as goal

pub returns-in_ok-from_str-in-Ok : goal.returns-in_ok-from_str-in-Ok
returns-in_ok-from_str-in-Ok c = text_at-text c.args.bytes.now c.in-Ok.ensures.cases.1 ∙ ap done (sym (c.in_ok-from_str-in-Ok.ensures.ok ∙ c.in-Ok.ensures.cases.0))

pub returns-in-Err : goal.returns-in-Err
returns-in-Err c = text_at-other c.args.bytes.now c.in-Err.ensures.cases.0
