use Rattle.std.proofs.Common.{◌∷◌, subst}
use Rattle.spk_plant_relay.specs.Relayed.{IsRelayed}
use Rattle.spk_plant_lossless.proofs.Whole.{all-consumed, all-same}
use Rattle.spk_plant_lossless.proofs.laws.whole.Goals as goal

pub returns : goal.returns
returns c = λ s inputs relayed all alive.
    all-consumed s relayed.node relayed.some_places inputs
    (all-same s inputs (λ later before i is. c.headline.ensures.steps s before i (c.relayed.ensures.before s later (i ∷ before) (subst (IsRelayed s) is relayed)))) all alive
