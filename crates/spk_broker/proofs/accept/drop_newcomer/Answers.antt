use Rattle.std.proofs.Common.{◌==◌, not, rules}
use Rattle.std.proofs.lemmas.Fn.{filter_same}
use Rattle.spk_broker.specs.declared.newcomer.Newcomer.{Newcomer}
use Rattle.spk_broker.proofs.accept.drop_newcomer.Goals as goal

pub returns : goal.returns
returns c = filter_same _ (λ (g : Newcomer). not (g.conn == c.args.conn)) _ (λ x b f k. search rules) _ _ c.retain.ensures.filtered
