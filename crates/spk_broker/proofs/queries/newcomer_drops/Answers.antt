use Rattle.std.proofs.Common.{◌∙◌, sym}
use Rattle.spk_broker.proofs.Asked.{newcomer-found, newcomer-lost}
use Rattle.spk_broker.proofs.queries.newcomer_drops.Goals as goal

pub returns-in-Some : goal.returns-in-Some
returns-in-Some c =
    newcomer-found c.args.conn c.args.newcomers.now c.in-Some.place _ 0 (sym c.newcomer_place.ensures ∙ c.in-Some.is)

pub returns-in-None : goal.returns-in-None
returns-in-None c = newcomer-lost c.args.conn c.args.newcomers.now 0 (sym c.newcomer_place.ensures ∙ c.in-None.is)
