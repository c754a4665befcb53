use Rattle.std.proofs.Common.{◌==◌, not, rules}
use Rattle.std.proofs.lemmas.Fn.{filter_same}
use Rattle.spk_broker.specs.declared.session.InFlight.{InFlight}
use Rattle.spk_broker.proofs.accept.drop_in_flight.Goals as goal

pub returns : goal.returns
returns c = filter_same _ (λ (x : InFlight). not (x.id == c.args.id)) _ (λ x b f k. search rules) _ _ c.retain.ensures.filtered
