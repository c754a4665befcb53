use Rattle.spk_broker.proofs.Fronts.{nothing-left}
use Rattle.spk_broker.proofs.topic_match.fits_rest.Goals as goal

pub returns-in-empty : goal.returns-in-empty
returns-in-empty c = nothing-left _ _ _ _ c.in-empty.len_below c.is_empty.ensures
