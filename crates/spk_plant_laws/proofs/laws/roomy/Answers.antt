use Rattle.std.proofs.Common.{◌≡◌, ◌∙◌, ◌<◌, sym, length, map, subst}
use Rattle.std.proofs.lemmas.List.{length-map}
use Rattle.spk_plant_broker.specs.Log.{got_of}
use Rattle.spk_plant_host.specs.Told.{heard_in}
use Rattle.spk_plant_laws.proofs.Room.{none_refused, told_length}
use Rattle.spk_plant_laws.proofs.laws.roomy.Goals as goal

pub returns : goal.returns
returns c = λ p r ran few.
    let edges = length p.nodes.items in
    let got : length (got_of edges ran.log) ≡ length r.given.items =
    told_length (got_of edges ran.log) (map heard_in r.given.items) ran.host.told ∙ length-map r.given.items heard_in in
    ran.logged.refused ∙ none_refused p.ring edges ran.log ran.room (subst (λ n. n < p.ring) (sym got) few)
