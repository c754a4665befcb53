use Rattle.std.proofs.Common.{◌∙◌, map, string_bytes}
use Rattle.spk_broker.specs.Parts.{grant_view}
use Rattle.spk_broker.proofs.Requested.{taken-is}
use Rattle.spk_broker.proofs.grant_changes.without.Goals as goal

pub returns : goal.returns
returns c = c.in_ok-left.ensures ∙ taken-is _ (map grant_view c.args.grants.now) (map (λ name. string_bytes name) c.args.names.now) c.in_ok-taken.ensures
