use Rattle.std.proofs.Common.{◌∙◌, ap, sym, Global}
use Rattle.std.proofs.lemmas.Option.{slice_get-map}
use Rattle.std.specs.Option.{option_map}
use Rattle.spk_broker.specs.Offering.{offers_at}
use Rattle.spk_broker.specs.Parts.{grant_view, retained_view}
use Rattle.spk_broker.specs.Weighing.{heaped}
use Rattle.spk_broker.proofs.Weights.{heap-none}
use Rattle.spk_broker.proofs.retained_weight.with_place.Goals as goal

pub returns-in-Some : goal.returns-in-Some
returns-in-Some c =
    c.with_one.ensures
    ∙ ap (λ o. heaped c.args.weight (offers_at o (grant_view c.args.grant.now)))
    (ap (option_map (retained_view {A = Global})) c.in-Some.ensures.entry ∙ sym (slice_get-map (retained_view {A = Global}) c.args.retained.now.entries c.args.place))

pub returns-in-None : goal.returns-in-None
returns-in-None c =
    heap-none c.args.weight c.requires
    ∙ ap (λ o. heaped c.args.weight (offers_at o (grant_view c.args.grant.now)))
    (ap (option_map (retained_view {A = Global})) c.in-None.ensures.entry ∙ sym (slice_get-map (retained_view {A = Global}) c.args.retained.now.entries c.args.place))
