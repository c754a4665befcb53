use Rattle.std.proofs.Common.{string_bytes}
use Rattle.std.proofs.lemmas.Result.{IfOk-weaker}
use Rattle.spk_page.proofs.Plain.{view_plain}
use Rattle.spk_page.proofs.Same.{compact}
use Rattle.spk_page.proofs.text.view_text.Goals as goal

pub returns : goal.returns
returns c =
    let plain = view_plain c.args.head c.args.nodes.now c.args.log.now c.args.revision c.args.number in
    IfOk-weaker c.to_string.result _ _ (λ s h. compact (string_bytes s) _ _ c.in_ok-value.ensures plain h) c.to_string.ensures.text
