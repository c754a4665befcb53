use Rattle.spk_edge_rules.proofs.Whole.{same-command}
use Rattle.spk_edge_rules.proofs.laws.whole_values.Goals as goal

pub returns : goal.returns
returns c = λ config b topic payload whole. same-command config b topic payload whole (c.choices.ensures.reading payload)
