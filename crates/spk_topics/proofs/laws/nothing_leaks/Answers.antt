use Rattle.spk_topics.proofs.WholeLemmas.{leads_to_grants}
use Rattle.spk_topics.proofs.laws.nothing_leaks.Goals as goal

pub returns : goal.returns
returns c = λ rows child up t pruned n edge e. leads_to_grants rows child up t pruned n edge e
