use Rattle.std.proofs.Common.{string_bytes}
use Rattle.std.proofs.lemmas.Result.{IfOk-weaker}
use Rattle.spk_page.proofs.Depth.{whole_depth}
use Rattle.spk_page.proofs.Same.{again}
use Rattle.spk_page.proofs.text.node_text.Goals as goal

pub returns-clause-again : goal.returns-clause-again
returns-clause-again c =
    IfOk-weaker c.to_string.result _ _ (λ s h. again (string_bytes s) _ _ c.in_ok-value.ensures (whole_depth c.args.node.now) h) c.to_string.ensures.reads_back
