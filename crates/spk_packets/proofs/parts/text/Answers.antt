use Rattle.std.proofs.Common.{sym, ◌∙◌}
use Rattle.spk_packets.proofs.Texts.{text_at_ok, text_at_bytes}
use Rattle.spk_packets.proofs.parts.text.Goals as goal

pub returns-in_default-clause-given : goal.returns-in_default-clause-given
returns-in_default-clause-given c = text_at_bytes c.args.bytes.now c.in_ok-text.text.now c.in_ok-text.rest.now c.in_ok-text.ensures.given c.in_default.ensures.cases.0

pub returns-clause-given : goal.returns-clause-given
returns-clause-given c = rw c.in-Ok.ensures.cases.0 (text_at_ok c.args.bytes.now c.in_ok-text.text.now c.in_ok-text.rest.now c.in_ok-text.ensures.given c.in-Ok.ensures.cases.1 (sym c.contains.ensures.value ∙ c.if-contains.false))
